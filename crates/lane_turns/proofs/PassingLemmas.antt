-- A time point to which the reactor passes.
use Rattle.std.proofs.Common.{◌≡◌, ℕ, ◌≤◌, Bool, true, false, [], ◌∷◌, Option, Some, refl, sym, ap, subst, ◌∙◌}
use Rattle.std.specs.Prelude.{IfSome, IsTrue}
use Rattle.asio_types.specs.Faults.{Rose}
use Rattle.asio_types.specs.declared.outside.Point.{Point}
use Rattle.asio_types.specs.declared.outside.Point.TheVariants as point
use Rattle.session_script.specs.Script.{ScriptModel}
use Rattle.history_rules.specs.Legal.{reactor_after}
use Rattle.history_rules.specs.State.{ReactorHalf}
use Rattle.history_rules.specs.Time.{next_time, pending_count}
use Rattle.reactor_trait.specs.Reactor.{Outside, ReactorState, state_at}
use Rattle.proactor_core.specs.Proactor.{Follows, IsSound, ProactorView, after_point, moved_state, tells}
use Rattle.reactor_turns.specs.Ahead.{IsHalfOf, LeavesRoom, MayPassTo}
use Rattle.reactor_turns.specs.Turned.{IsTurned}
use Rattle.reactor_turns.proofs.AheadLemmas.{last_leaves, tick_leaves}
use Rattle.reactor_turns.proofs.ClockLemmas.{runs-last, runs-tick}
use Rattle.reactor_turns.proofs.TurnedLemmas.{now-point}
use Rattle.lane_clock.specs.declared.found.Change.TheVariants as change
use Rattle.lane_clock.specs.declared.found.Found.{Found}
use Rattle.lane_logs.specs.Labels.{shows}
use Rattle.lane_logs.specs.Names.{SessionNames}
use Rattle.lane_logs.specs.Parts.{fault_label}
use Rattle.lane_logs.specs.ReactorTurns.{point_event}
use Rattle.lane_turns.specs.Pens.{HasGone, MayGo, PenView}
use Rattle.lane_turns.specs.Turning.{HasTold, HasTurned, HasTurnRoom, IsMidTurn, KeepsTurns, log_half}
use Rattle.lane_turns.proofs.TurningLemmas.{begun_half, begun_mid, begun_room, broken_turned, fault_keeps, fault_may, fault_room, room_to_draw, whole_keeps, whole_turned}

-- what holds of a point that is there, and what a point that is there or not moves
pub point_of : (found : Option Point) (to : Point) (P : Point → Type 0) → found ≡ Some to → IfSome found P → P to
point_of found to P same is = subst (λ o. IfSome o P) same is

pub moved_of : (found other : Option Point) (old new : ReactorState) → found ≡ other → new ≡ moved_state found old →
    new ≡ moved_state other old
moved_of found other old new same is = is ∙ ap (λ o. moved_state o old) same

-- the event of a point leaves what the point leaves
point_after : (script : ScriptModel) (told : Bool) (half : ReactorHalf) (to : Point) →
    after_point script told to half ≡ reactor_after script told half (point_event to)
point_after script told half (point.Time now) = refl
point_after script told half point.Last = refl

module _ {X : Type 0} (names : SessionNames) (state : X → ReactorState) (told : X → Option Outside) (half : ReactorHalf)
    (view : ProactorView X) (turned : IsTurned state told half view) (script : view.script ≡ names.script)
    (tells_same : tells (told view.reactor) ≡ names.told) (fit : IsHalfOf names.script half)
    (pending : 1 ≤ pending_count half) where
  pub next_is : (to : Point) →
      ((half : ReactorHalf) → Follows told view half → next_time view.script half ≡ to) →
      next_time names.script half ≡ to
  next_is to next = ap (λ (s : ScriptModel). next_time s half) (sym script) ∙ next half turned.telling.follows

  passes : (to : Point) → next_time names.script half ≡ to → MayPassTo names.script half to
  passes to next = record {
    pending = pending;
    told = turned.none_due;
    drained = turned.drained;
    next = next;
  }

  pub passing_leaves : (to : Point) → next_time names.script half ≡ to →
      LeavesRoom names.script half (reactor_after names.script names.told half (point_event to))
  passing_leaves (point.Time now) next =
      tick_leaves names.script names.told half now fit (passes (point.Time now) next)
  passing_leaves point.Last next = last_leaves names.script names.told half fit (passes point.Last next)

  pub passing_works : (to : Point) →
      (reactor_after names.script names.told half (point_event to)).failed ≡ false
  passing_works (point.Time now) = (runs-tick names.script names.told half now).failed ∙ turned.telling.works
  passing_works point.Last = (runs-last names.told half).failed ∙ turned.telling.works

  pub passing_now : (to : Point) (old new : ReactorState) → new ≡ state_at to old → old.now ≡ half.now →
      new.now ≡ (reactor_after names.script names.told half (point_event to)).now
  passing_now to old new is same =
      now-point names.script names.told to old new half is same
      ∙ ap (λ (h : ReactorHalf). h.now) (point_after names.script names.told half to)

  pub passing_follows : (to : Point) (next : ProactorView X) →
      ((half : ReactorHalf) → Follows told view half →
      Follows told next (after_point view.script (tells (told view.reactor)) to half)) →
      Follows told next (reactor_after names.script names.told half (point_event to))
  passing_follows to next follows =
      subst (Follows told next) (point_after names.script names.told half to)
      (subst (λ b. Follows told next (after_point names.script b to half)) tells_same
      (subst (λ (s : ScriptModel). Follows told next (after_point s (tells (told view.reactor)) to half)) script
      (follows half turned.telling.follows)))

-- a turn that begins by a time point
module _ {X : Type 0} (names : SessionNames) (state : X → ReactorState) (told : X → Option Outside) (faults : X → ℕ)
    (named : ℕ) (pen : PenView) (view : ProactorView X) (working : view.tables.failed ≡ false)
    (keeps : KeepsTurns names state told faults named (log_half names pen.log) view) (room : HasTurnRoom names pen)
    (pending : 1 ≤ pending_count (log_half names pen.log)) where
  abbrev half : ReactorHalf
  half = log_half names pen.log

  abbrev turned : IsTurned state told half view
  turned = keeps.turned working

  -- nothing was drawn before the failure
  pub pass_fault_may : MayGo pen 1 0
  pass_fault_may =
      fault_may names state told faults named half view keeps half keeps.is_half turned.telling.works pen refl room

  module _ (lost : Found) (new : PenView) (failing : HasGone (fault_label lost ∷ []) pen new) where
    pub pass_fault_room : HasTurnRoom names new
    pass_fault_room =
        fault_room names state told faults named half view keeps half keeps.is_half turned.telling.works pen refl room lost
        new failing

    pub pass_fault_keeps : (next : ProactorView X) → next.script ≡ view.script →
        tells (told next.reactor) ≡ tells (told view.reactor) → IsTrue (state next.reactor).up →
        state next.reactor ≡ state view.reactor → next.tables.failed ≡ true →
        faults view.reactor ≤ faults next.reactor → Rose (faults view.reactor) (faults next.reactor) →
        KeepsTurns names state told faults named (log_half names new.log) next
    pass_fault_keeps next same_script same_tells up same failed later rose =
        fault_keeps names state told faults named half view keeps half keeps.is_half turned.telling.works pen refl room lost
        new failing next same_script same_tells up (ap (λ (s : ReactorState). s.now) same ∙ keeps.in_step.now) failed later
        rose

  module _ (to : Point) (next_to : (half : ReactorHalf) → Follows told view half → next_time view.script half ≡ to) where
    abbrev passed : ReactorHalf
    passed = reactor_after names.script names.told half (point_event to)

    abbrev next : next_time names.script half ≡ to
    next = next_is names state told half view turned keeps.script keeps.in_step.tells keeps.is_half pending to next_to

    abbrev leaves : LeavesRoom names.script half passed
    leaves =
        passing_leaves names state told half view turned keeps.script keeps.in_step.tells keeps.is_half pending to next

    abbrev works : passed.failed ≡ false
    works = passing_works names state told half view turned keeps.script keeps.in_step.tells keeps.is_half pending to

    pub pass_may : MayGo pen 1 0
    pass_may = room_to_draw names pen passed room leaves

    module _ (found : Found) (begun : PenView)
        (gone : HasGone (shows (point_event to) change.Same found ∷ []) pen begun) (left : ProactorView X)
        (same_script : left.script ≡ view.script) (same_tells : tells (told left.reactor) ≡ tells (told view.reactor))
        (up : IsTrue (state left.reactor).up) (moved : state left.reactor ≡ state_at to (state view.reactor)) where
      now_passed : (state left.reactor).now ≡ passed.now
      now_passed =
          passing_now names state told half view turned keeps.script keeps.in_step.tells keeps.is_half pending to
          (state view.reactor) (state left.reactor) moved keeps.in_step.now

      pub pass_mid : IsSound state told left →
          ((half : ReactorHalf) → Follows told view half →
          Follows told left (after_point view.script (tells (told view.reactor)) to half)) →
          IsMidTurn names state told begun left
      pass_mid sound follows =
          begun_mid names state told faults named half view keeps pen room (point_event to) change.Same found begun gone
          leaves left same_script same_tells up now_passed works sound
          (passing_follows names state told half view turned keeps.script keeps.in_step.tells keeps.is_half pending to left
          follows)

      begun_at : log_half names begun.log ≡ passed
      begun_at =
          begun_half names state told faults named half view keeps pen room (point_event to) change.Same found begun gone leaves

      room_begun : HasTurnRoom names begun
      room_begun =
          begun_room names state told faults named half view keeps pen room (point_event to) change.Same found begun gone leaves

      pub broken_may : MayGo begun 1 0
      broken_may =
          fault_may names state told faults named half view keeps passed leaves.is_half works begun begun_at room_begun

      module _ (lost : Found) (new : PenView) (failing : HasGone (fault_label lost ∷ []) begun new) where
        pub broken_room : HasTurnRoom names new
        broken_room =
            fault_room names state told faults named half view keeps passed leaves.is_half works begun begun_at room_begun
            lost new failing

        pub broken_keeps : left.tables.failed ≡ true → faults view.reactor ≤ faults left.reactor →
            Rose (faults view.reactor) (faults left.reactor) →
            KeepsTurns names state told faults named (log_half names new.log) left
        broken_keeps failed later rose =
            fault_keeps names state told faults named half view keeps passed leaves.is_half works begun begun_at room_begun
            lost new failing left same_script same_tells up now_passed failed later rose

        pub broken_passed : HasTurned names (point_event (next_time names.script half)) change.Same true pen new
        broken_passed =
            subst (λ t. HasTurned names (point_event t) change.Same true pen new) (sym next)
            (broken_turned names state told faults named half view keeps pen room (point_event to) change.Same found begun
            gone leaves lost new failing)

      module _ (new : PenView) (did : HasTold names begun new) (last : ProactorView X)
          (turn : IsMidTurn names state told new last) (whole : IsTurned state told (log_half names new.log) last) where
        pub pass_turned : HasTurned names (point_event (next_time names.script half)) change.Same false pen new
        pass_turned =
            subst (λ t. HasTurned names (point_event t) change.Same false pen new) (sym next)
            (whole_turned names state told faults named half view keeps pen room (point_event to) change.Same found begun
            gone leaves new did last turn whole)

        pub pass_keeps : faults last.reactor ≡ faults view.reactor →
            KeepsTurns names state told faults named (log_half names new.log) last
        pass_keeps same =
            whole_keeps names state told faults named half view keeps pen room (point_event to) change.Same found begun gone
            leaves new did last turn whole working same
