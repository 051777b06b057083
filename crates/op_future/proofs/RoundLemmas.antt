-- The only round of a session begins behind the calls of `open`, and behind its closing all is over.
use Rattle.std.proofs.Common.{◌≡◌, ◌∙◌, ℕ, ◌+◌, true, Bool, List, [], ◌∷◌, ap, inl, inr, length, refl, subst, sym}
use Rattle.std.specs.Prelude.{◌&&◌, ◌==◌, nat_lt, not, slice_get}
use Rattle.session_script.specs.Script.{ScriptModel}
use Rattle.session_script.specs.declared.round.Round.{Round}
use Rattle.history_rules.specs.Rounds.{restarts}
use Rattle.lane_context.specs.declared.round_end.RoundEnd.{RoundEnd}
use Rattle.lane_context.specs.declared.round_end.RoundEnd.TheVariants as end
use Rattle.lane_logs.specs.Stand.{Stand}
use Rattle.lane_turns.specs.ClosingTries.{HasClosedRound}
use Rattle.lane_turns.specs.Finishing.{IsOver}
use Rattle.lane_turns.specs.KnownFaults.{KnowsFault}
use Rattle.lane_turns.specs.LaneValues.{Terms}
use Rattle.lane_turns.specs.Openers.{OpenerView}
use Rattle.lane_context.specs.RoundEnds.{EndsRound}
use Rattle.op_future.specs.Sessions.{HasOneRun, run_round}
use Rattle.session_run.specs.LaneRounds.{AreClosed, HasBegun}

open_first : (opening closings : ℕ) (rounds : List Round) (restarted : Bool) (count : ℕ) → opening ≡ 0 → closings ≡ 0 →
    rounds ≡ run_round count ∷ [] →
    ((opening == 0) && nat_lt closings (length rounds) && not (restarts (slice_get rounds closings) && not restarted)) ≡ true
open_first opening closings rounds restarted count none first only =
    subst (λ rs. ((opening == 0) && nat_lt closings (length rs) && not (restarts (slice_get rs closings) && not restarted)) ≡ true)
    (sym only)
    (subst (λ n. ((opening == 0) && nat_lt n 1 && not (restarts (slice_get (run_round count ∷ []) n) && not restarted)) ≡ true)
    (sym first)
    (subst (λ n. ((n == 0) && true && true) ≡ true) (sym none) refl))

pub begins_first : (script : ScriptModel) (count : ℕ) (stand : Stand) → HasOneRun script count → AreClosed 0 stand →
    HasBegun script 0 stand
begins_first script count stand only before =
    record {
      opened = before.opened;
      closed = before.closed;
      is_open =
          open_first stand.opening stand.closings script.rounds stand.restarted count before.opened before.closed only;
    }

module _ {H X : Type 0} (t : Terms H X) (script : ScriptModel) (old new : OpenerView)
    (only : old.stand.closings + 1 ≡ length script.rounds) where
  -- the type of how it was closed has no name here
  closed_over : {how : _} → HasClosedRound t how old new → IsOver script new
  closed_over closed =
      inl
      (ap (λ (s : Stand). s.closings) closed.held.met.stand
      ∙ (ap (λ (s : Stand). s.closings) closed.held.drew.stand
      ∙ (ap (λ (s : Stand). s.closings + 1) closed.held.heard.stand ∙ only)))

  pub is_over : (now : RoundEnd) → EndsRound t now old new → (now ≡ end.Fault → KnowsFault script new.pen.seat) →
      IsOver script new
  is_over end.Ended ended knows = closed_over ended
  is_over end.Stopped ended knows = closed_over ended
  is_over end.Polled ended knows = closed_over ended
  is_over end.Fault ended knows = inr (knows refl)
