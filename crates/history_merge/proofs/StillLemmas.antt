-- Where nothing is ready, runs or waits inside its call, and no call is open, nothing comes of executions, and a stop from
-- outside leaves it so.
use Rattle.std.proofs.Common.{◌≡◌, ℕ, Bool, true, false, None, Some, inl, inr, length, refl, ap, arith}
use Rattle.std.specs.Prelude.{◌||◌, not, IsSomeAnd}
use Rattle.std.proofs.lemmas.Bool.{and_parts}
use Rattle.std.proofs.lemmas.Option.{slice_get_within}
use Rattle.asio_types.specs.declared.code.Code.{Code}
use Rattle.asio_types.specs.declared.event.Event.{Event}
use Rattle.asio_types.specs.declared.event.Event.TheVariants as event
use Rattle.session_script.specs.Script.{Place, ScriptModel, is_stop, opening_of, parent_of}
use Rattle.session_script.specs.Lanes.{is_inline}
use Rattle.history_rules.specs.declared.phase.ActPhase.{ActPhase}
use Rattle.history_rules.specs.declared.phase.ActPhase.TheVariants as phase
use Rattle.history_rules.specs.declared.phase.ActState.{ActState}
use Rattle.asio_types.specs.declared.code.Class.{Class}
use Rattle.history_rules.specs.Calls.{Body, IsNextOf, body_at, has_ended, is_call_done, is_made, is_open, running_body}
use Rattle.history_rules.specs.Executions.{MayBegin, has_finished}
use Rattle.history_rules.specs.FromOutside.{is_outside_stop}
use Rattle.history_rules.specs.Kinds.{is_act}
use Rattle.history_rules.specs.Legal.{MayHappen, after_event}
use Rattle.history_rules.specs.Order.{was_taken}
use Rattle.history_rules.specs.Rounds.{AllQuiet, is_quiet, is_running}
use Rattle.history_rules.specs.State.{State, act_at, call_at, phase_at}
use Rattle.execution_laws.specs.Rest.{waits_inside}
use Rattle.history_merge.proofs.AlikeLemmas.{never}
use Rattle.history_merge.proofs.EachLabelLemmas.{is_of_execution}
use Rattle.history_merge.proofs.NextCallLemmas.{in_opening}
use Rattle.history_merge.proofs.SeesLemmas.{open_made, open_stopped}

pub record IsStill (script : ScriptModel) (s : State) : Type 0 where
  pub quiet : AllQuiet s
  pub still : (n : ℕ) → is_running (phase_at s.context n) ≡ false
  pub outside : (n : ℕ) → waits_inside (phase_at s.context n) ≡ false
  pub back : (n : ℕ) → is_open (call_at s.context n) ≡ false
  pub opened : s.context.opening.back ≡ length (opening_of script)

-- a body that is executed runs, and so does one that may end
pub runs_in : (script : ScriptModel) (o : ℕ) (class : Class) (of : ActPhase) (P : Body → Type 0) →
    IsSomeAnd (running_body script o class of) P → is_running of ≡ true
runs_in script o class (phase.Running running progress) P next = refl
runs_in script o class other P next = absurd next

pub runs_to_end : (script : ScriptModel) (o : ℕ) (of : ActPhase) → has_finished script o of ≡ true → is_running of ≡ true
runs_to_end script o (phase.Running class progress) is = refl
runs_to_end script o other is = absurd (cc)

-- a call that may return is open
pub done_open : (halts inside : Bool) (act : ActState) → is_call_done halts inside act ≡ true → is_open act.call ≡ true
done_open true inside act is = open_stopped act.call is
done_open false inside act is =
    open_made act.call (and_parts (is_made act.call) (not inside || has_ended act.phase) is).0

module _ (script : ScriptModel) (told : Bool) (s : State) (is : IsStill script s) where
  none_called : (a : ℕ) (place : Place) → IsSomeAnd (body_at script s.reactor.failed s.context place) (IsNextOf a) → ⊥
  none_called a None may =
      let next = in_opening script a s.reactor.failed s.context may in
      let within = slice_get_within (opening_of script) s.context.opening.made a next.next in
      omega (arith, within, next.idle, is.opened)
  none_called a (Some at) may =
      never (is_running (phase_at s.context at.0)) (is.still at.0)
      (runs_in script at.0 at.1 (phase_at s.context at.0) (IsNextOf a) may)

  none_begun : (o : ℕ) (given : Code) (size : ℕ) → MayBegin script s.context o given size → ⊥
  none_begun o given size (inl out) =
      never (is_quiet (phase_at s.context o) (was_taken s.reactor o))
      (ap (λ of. is_quiet of (was_taken s.reactor o)) out.ready.1) (is.quiet o)
  none_begun o given size (inr within) =
      never (waits_inside (phase_at s.context o)) (is.outside o) (ap waits_inside within.inside)

  -- nothing comes of executions
  pub still_none : (shown : Event) → MayHappen script told s shown → is_of_execution shown ≡ true → ⊥
  still_none (event.Call a) may of = none_called a (parent_of script a) may
  still_none (event.Stop (Some a)) may of =
      never (is_open (call_at s.context a)) (is.back a) (open_made (call_at s.context a) may.made)
  still_none (event.Back a) may of =
      never (is_open (call_at s.context a)) (is.back a)
      (done_open (is_act is_stop script a) (is_inline script a) (act_at s.context a) may)
  still_none (event.Begin o given size) may of = none_begun o given size may
  still_none (event.End o mark) may of =
      never (is_running (phase_at s.context o)) (is.still o) (runs_to_end script o (phase_at s.context o) may)
  still_none (event.Stop None) may of = cc
  still_none other may of = cc

  -- a stop from outside leaves it so
  pub still_stopped : (shown : Event) → is_outside_stop shown ≡ true → IsStill script (after_event script told s shown)
  still_stopped (event.Stop None) halts = record {
    quiet = is.quiet;
    still = is.still;
    outside = is.outside;
    back = is.back;
    opened = is.opened;
  }
  still_stopped (event.Stop (Some a)) halts = absurd (cc)
  still_stopped other halts = absurd (cc)
