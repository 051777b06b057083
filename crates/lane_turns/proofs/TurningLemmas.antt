-- A turn of the reactor, put together of how it begins and how it ends.
use Rattle.std.proofs.Common.{◌≡◌, ℕ, ◌≤◌, true, false, [], ◌∷◌, Option, refl, sym, ap, subst, ◌∙◌, arith}
use Rattle.std.specs.Prelude.{IsTrue}
use Rattle.asio_types.specs.Faults.{Rose}
use Rattle.asio_types.specs.declared.event.Event.{Event}
use Rattle.asio_types.specs.declared.event.Event.TheVariants as event
use Rattle.history_rules.specs.Legal.{reactor_after}
use Rattle.history_rules.specs.Rounds.{IsDrained}
use Rattle.history_rules.specs.State.{ReactorHalf}
use Rattle.history_rules.specs.Time.{reactor_after_fault}
use Rattle.reactor_trait.specs.Reactor.{Outside, ReactorState}
use Rattle.proactor_core.specs.Proactor.{Follows, IsSound, ProactorView, tells}
use Rattle.reactor_turns.specs.Ahead.{IsHalfOf, LeavesRoom, events_ahead}
use Rattle.reactor_turns.specs.Turned.{IsTurned}
use Rattle.reactor_turns.proofs.AheadLemmas.{fault_leaves}
use Rattle.reactor_turns.proofs.FollowsLemmas.{sound_works}
use Rattle.reactor_turns.proofs.TurnedLemmas.{rose_since}
use Rattle.lane_clock.specs.declared.found.Change.{Change}
use Rattle.lane_clock.specs.declared.found.Change.TheVariants as change
use Rattle.lane_clock.specs.declared.found.Found.{Found}
use Rattle.lane_logs.specs.Half.{half_from}
use Rattle.lane_logs.specs.Labels.{shows, entries_in}
use Rattle.lane_logs.specs.Names.{SessionNames}
use Rattle.lane_logs.specs.Parts.{fails, fault_label, tells as tells_all}
use Rattle.lane_logs.specs.ReactorTurns.{AreTold}
use Rattle.lane_turns.specs.Pens.{HasGone, MayGo, PenView}
use Rattle.lane_turns.specs.Turning.{HasTold, HasTurned, HasTurnRoom, IsMidTurn, KeepsTurns, log_half}
use Rattle.lane_turns.proofs.HalfLemmas.{log_event, log_on, room_on}
use Rattle.lane_turns.proofs.PenLemmas.{gone_on, may_go_less}

-- where something is ahead there is room for a draw
pub room_to_draw : (names : SessionNames) (pen : PenView) (new : ReactorHalf) → HasTurnRoom names pen →
    LeavesRoom names.script (log_half names pen.log) new → MayGo pen 1 0
room_to_draw names pen new room leaves =
    let less = leaves.fewer in
    may_go_less pen (events_ahead names.script (log_half names pen.log))
    (events_ahead names.script (log_half names pen.log)) 1 0 room (omega (arith, less)) (omega arith)

module _ {X : Type 0} (names : SessionNames) (state : X → ReactorState) (told : X → Option Outside) (faults : X → ℕ)
    (named : ℕ) (before : ReactorHalf) (view : ProactorView X)
    (keeps : KeepsTurns names state told faults named before view) where
  -- the reactor fails, at a half at which it worked
  module _ (half : ReactorHalf) (fit : IsHalfOf names.script half) (works : half.failed ≡ false) (pen : PenView)
      (same : log_half names pen.log ≡ half) (room : HasTurnRoom names pen) where
    leaves_at : LeavesRoom names.script (log_half names pen.log) (reactor_after_fault half)
    leaves_at =
        subst (λ h. LeavesRoom names.script h (reactor_after_fault half)) (sym same)
        (fault_leaves names.script half fit works)

    pub fault_may : MayGo pen 1 0
    fault_may = room_to_draw names pen (reactor_after_fault half) room leaves_at

    module _ (found : Found) (new : PenView) (gone : HasGone (fault_label found ∷ []) pen new) where
      fault_half : log_half names new.log ≡ reactor_after_fault half
      fault_half = log_event names event.Fault change.Stop found pen new gone ∙ ap reactor_after_fault same

      pub fault_room : HasTurnRoom names new
      fault_room =
          let less = leaves_at.fewer in
          room_on names (fault_label found ∷ []) 1 pen new (reactor_after_fault half) gone fault_half (omega arith)
          (omega arith) (omega arith) (omega (arith, less)) room

      pub fault_keeps : (next : ProactorView X) → next.script ≡ view.script →
          tells (told next.reactor) ≡ tells (told view.reactor) → IsTrue (state next.reactor).up →
          (state next.reactor).now ≡ half.now → next.tables.failed ≡ true →
          faults view.reactor ≤ faults next.reactor → Rose (faults view.reactor) (faults next.reactor) →
          KeepsTurns names state told faults named (log_half names new.log) next
      fault_keeps next same_script same_tells up now failed later rose = record {
        script = same_script ∙ keeps.script;
        in_step = record {
          tells = same_tells ∙ keeps.in_step.tells;
          up = up;
          now = now ∙ sym (ap (λ (h : ReactorHalf). h.now) fault_half);
        };
        turned = λ working. absurd (cc (failed, working));
        failed = ap (λ (h : ReactorHalf). h.failed) fault_half ∙ sym failed;
        is_half = subst (IsHalfOf names.script) (sym fault_half) leaves_at.is_half;
        least = let least = keeps.least in omega (arith, least, later);
        stood = λ working. absurd (cc (failed, working));
        rose = λ _. rose_since named (faults view.reactor) (faults next.reactor) keeps.least later rose;
      }

  -- a turn begins by an event
  module _ (pen : PenView) (room : HasTurnRoom names pen) (shown : Event) (changes : Change) (found : Found)
      (begun : PenView) (gone : HasGone (shows shown changes found ∷ []) pen begun)
      (leaves : LeavesRoom names.script (log_half names pen.log)
      (reactor_after names.script names.told (log_half names pen.log) shown)) where
    abbrev after : ReactorHalf
    after = reactor_after names.script names.told (log_half names pen.log) shown

    pub begun_half : log_half names begun.log ≡ after
    begun_half = log_event names shown changes found pen begun gone

    pub begun_room : HasTurnRoom names begun
    begun_room =
        let less = leaves.fewer in
        room_on names (shows shown changes found ∷ []) 1 pen begun after gone begun_half (omega arith) (omega arith)
        (omega arith) (omega (arith, less)) room

    pub begun_mid : (next : ProactorView X) → next.script ≡ view.script →
        tells (told next.reactor) ≡ tells (told view.reactor) → IsTrue (state next.reactor).up →
        (state next.reactor).now ≡ after.now → after.failed ≡ false → IsSound state told next →
        Follows told next after → IsMidTurn names state told begun next
    begun_mid next same_script same_tells up now works sound follows = record {
      script = same_script ∙ keeps.script;
      in_step = record {
        tells = same_tells ∙ keeps.in_step.tells;
        up = up;
        now = now ∙ sym (ap (λ (h : ReactorHalf). h.now) begun_half);
      };
      telling = record {
        working = sound_works state told next sound;
        works = ap (λ (h : ReactorHalf). h.failed) begun_half ∙ works;
        sound = sound;
        follows = subst (Follows told next) (sym begun_half) follows;
      };
      is_half = subst (IsHalfOf names.script) (sym begun_half) leaves.is_half;
      room = begun_room;
    }

    -- and all that completes by it is told
    module _ (new : PenView) (did : HasTold names begun new) (last : ProactorView X)
        (turn : IsMidTurn names state told new last) (whole : IsTurned state told (log_half names new.log) last) where
      told_half : half_from names.script names.told after (entries_in did.labels) ≡ log_half names new.log
      told_half =
          ap (λ half. half_from names.script names.told half (entries_in did.labels)) (sym begun_half)
          ∙ sym (log_on names did.labels begun new did.gone)

      pub whole_turned : HasTurned names shown changes false pen new
      whole_turned = record {
        drawn = found;
        end = tells_all did.labels;
        failing = refl;
        ends = record {
          told_so =
              subst (λ half. AreTold names.script names.told half did.labels) begun_half did.told_so;
          none_due = ap (λ (h : ReactorHalf). h.due) told_half ∙ whole.none_due;
          drained = subst IsDrained (sym told_half) whole.drained;
        };
        gone = gone_on (shows shown changes found ∷ []) did.labels pen begun new gone did.gone;
      }

      pub whole_keeps : view.tables.failed ≡ false → faults last.reactor ≡ faults view.reactor →
          KeepsTurns names state told faults named (log_half names new.log) last
      whole_keeps working same = record {
        script = turn.script;
        in_step = turn.in_step;
        turned = λ _. whole;
        failed = turn.telling.works ∙ sym turn.telling.working;
        is_half = turn.is_half;
        least = let least = keeps.least in omega (arith, least, same);
        stood = λ _. same ∙ keeps.stood working;
        rose = λ failed. absurd (let works = turn.telling.working in cc (failed, works));
      }

    -- or the reactor fails in it
    pub broken_turned : (lost : Found) (new : PenView) → HasGone (fault_label lost ∷ []) begun new →
        HasTurned names shown changes true pen new
    broken_turned lost new failing = record {
      drawn = found;
      end = fails lost;
      failing = refl;
      ends = tt;
      gone = gone_on (shows shown changes found ∷ []) (fault_label lost ∷ []) pen begun new gone failing;
    }
