-- The calls of acts, each put together of what its steps are.
use Rattle.std.proofs.Common.{◌≡◌, ℕ, true, false, [], ◌∷◌, subst, sym}
use Rattle.std.specs.Prelude.{Some}
use Rattle.asio_types.specs.declared.code.Code.{Code}
use Rattle.asio_types.specs.declared.event.Event.{Event}
use Rattle.asio_types.specs.declared.event.Event.TheVariants as event
use Rattle.op_handlers.specs.declared.call.Ran.{Ran}
use Rattle.asio_types.specs.declared.outside.Point.{Point}
use Rattle.asio_types.specs.declared.outside.Point.TheVariants as point
use Rattle.session_script.specs.Lanes.{is_inline}
use Rattle.session_script.specs.Script.{ScriptModel, stops}
use Rattle.strand_core.specs.declared.posted.Posted.TheVariants as posted
use Rattle.lane_clock.specs.declared.found.Change.TheVariants as change
use Rattle.lane_clock.specs.declared.found.Found.{Found}
use Rattle.lane_map.specs.LaneNumbers.{asked_lane}
use Rattle.lane_logs.specs.Labels.{allots, begins, call_note, dispatches, ends, posts, put_within, returns, shows, stops_context}
use Rattle.lane_logs.specs.ReactorTurns.{point_event}
use Rattle.lane_turns.specs.declared.closing.Closing.{Closing}
use Rattle.lane_turns.specs.declared.closing.Closing.TheVariants as closing
use Rattle.lane_turns.specs.Closing.{closing_event}
use Rattle.lane_turns.specs.Pens.{HasAllotted, HasDrawnCall, HasGone, IsNoCall, PenView}
use Rattle.lane_turns.proofs.PenLemmas.{gone_on}

pub stop_called : (script : ScriptModel) (act : ℕ) (called stopped : Found) (a b c : PenView) →
    stops script act ≡ true → HasGone (shows (event.Call act) change.Same called ∷ []) a b →
    HasGone (shows (event.Stop (Some act)) change.Stop stopped ∷ []) b c → HasDrawnCall script (posted.Call act) a c
stop_called script act called stopped a b c stopping first second =
    record {
      labels = shows (event.Call act) change.Same called ∷ shows (event.Stop (Some act)) change.Stop stopped ∷ [];
      drawn = stops_context stopping;
      gone =
          gone_on (shows (event.Call act) change.Same called ∷ [])
          (shows (event.Stop (Some act)) change.Stop stopped ∷ []) a b c first second;
    }

pub dispatch_called : (script : ScriptModel) (act : ℕ) (found : Found) (a b : PenView) →
    stops script act ≡ false → is_inline script act ≡ true →
    HasGone (shows (event.Call act) change.Up found ∷ []) a b → HasDrawnCall script (posted.Call act) a b
dispatch_called script act found a b going inside gone =
    record {
      labels = shows (event.Call act) change.Up found ∷ [];
      drawn = dispatches going inside;
      gone = gone;
    }

allotted_call : (script : ScriptModel) (act : ℕ) (found : Found) (a b c : PenView) →
    stops script act ≡ false → is_inline script act ≡ false →
    HasGone (shows (event.Call act) change.Up found ∷ []) a b →
    HasAllotted script (asked_lane script act) (call_note act) b c → HasDrawnCall script (posted.Call act) a c
allotted_call script act found a b c going outside first second =
    record {
      labels =
          shows (event.Call act) change.Up found ∷ allots act (asked_lane script act) second.place
          ∷ put_within script (asked_lane script act) second.place (call_note act);
      drawn = posts going outside;
      gone =
          gone_on (shows (event.Call act) change.Up found ∷ [])
          (allots act (asked_lane script act) second.place
          ∷ put_within script (asked_lane script act) second.place (call_note act)) a b c first second.gone;
    }

pub post_called : (script : ScriptModel) (act lane : ℕ) (found : Found) (a b c : PenView) →
    lane ≡ asked_lane script act → stops script act ≡ false → is_inline script act ≡ false →
    HasGone (shows (event.Call act) change.Up found ∷ []) a b →
    HasAllotted script lane (call_note act) b c → HasDrawnCall script (posted.Call act) a c
post_called script act lane found a b c same going outside first second =
    allotted_call script act found a b c going outside first
    (subst (λ at. HasAllotted script at (call_note act) b c) same second)

pub begin_called : (script : ScriptModel) (op : ℕ) (code : Code) (size : ℕ) (found : Found) (a b : PenView) →
    HasGone (shows (event.Begin op code size) change.Same found ∷ []) a b →
    HasDrawnCall script (posted.Begin op code size found.clock) a b
begin_called script op code size found a b gone =
    record {
      labels = shows (event.Begin op code size) change.Same found ∷ [];
      drawn = begins;
      gone = gone;
    }

pub back_called : (script : ScriptModel) (act : ℕ) (found : Found) (a b : PenView) →
    HasGone (shows (event.Back act) change.Same found ∷ []) a b → HasDrawnCall script (posted.Back act) a b
back_called script act found a b gone =
    record {
      labels = shows (event.Back act) change.Same found ∷ [];
      drawn = returns;
      gone = gone;
    }

pub end_called : (script : ScriptModel) (op : ℕ) (ran : Ran) (found : Found) (a b : PenView) →
    HasGone (shows (event.End op ran.mark) change.Down found ∷ []) a b → HasDrawnCall script (posted.End op ran) a b
end_called script op ran found a b gone =
    record {
      labels = shows (event.End op ran.mark) change.Down found ∷ [];
      drawn = ends;
      gone = gone;
    }

-- the events by which time moves and by which rounds are closed are no calls
pub time_no_call : (to : Point) (shown : Event) → shown ≡ point_event to → IsNoCall shown
time_no_call (point.Time now) shown is = subst IsNoCall (sym is) tt
time_no_call point.Last shown is = subst IsNoCall (sym is) tt

pub closing_no_call : (how : Closing) (shown : Event) → shown ≡ closing_event how → IsNoCall shown
closing_no_call closing.Ended shown is = subst IsNoCall (sym is) tt
closing_no_call closing.Stopped shown is = subst IsNoCall (sym is) tt
closing_no_call closing.Polled shown is = subst IsNoCall (sym is) tt
