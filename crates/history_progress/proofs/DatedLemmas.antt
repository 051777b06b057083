-- When acts were called and became ready, and when handlers are destroyed, along a legal history.
use Rattle.std.proofs.Common.{◌≡◌, ◌⊎◌, ℕ, ◌<◌, ◌≤◌, Bool, true, false, cond, Option, Some, None, inl, inr, refl, sym, subst, ◌∙◌, arith}
use Rattle.std.specs.Option.{unwrap_or}
use Rattle.std.proofs.lemmas.Bool.{cases_eq}
use Rattle.asio_types.specs.Faults.{most_faults, one_more}
use Rattle.asio_types.specs.declared.code.Code.{Code}
use Rattle.asio_types.specs.declared.event.Event.{Event}
use Rattle.asio_types.specs.declared.event.Event.TheVariants as event
use Rattle.session_script.specs.Lanes.{is_inline, lane_of}
use Rattle.session_script.specs.Script.{ScriptModel, is_stop, parent_of}
use Rattle.session_script.specs.WellFormed.{IsWellFormed}
use Rattle.history_rules.specs.Calls.{returned, with_progress}
use Rattle.history_rules.specs.Executions.{begun}
use Rattle.history_rules.specs.Kinds.{is_act}
use Rattle.history_rules.specs.Legal.{MayHappen, after_event}
use Rattle.history_rules.specs.Rounds.{AllClosed, RoundIsOpen}
use Rattle.history_rules.specs.State.{ContextState, State, act_at, call_at, first_state, with_act}
use Rattle.history_rules.specs.Time.{at_last, at_time}
use Rattle.history_rules.specs.declared.phase.ActPhase.TheVariants as phase
use Rattle.history_rules.specs.declared.phase.ActState.{ActState}
use Rattle.history_rules.specs.declared.phase.Cause.TheVariants as cause
use Rattle.history_rules.specs.declared.phase.Step.TheVariants as step
use Rattle.history_laws.specs.Events.{is_call_of, is_completion_of, is_return_of}
use Rattle.history_laws.proofs.CountLemmas.{apart-is, one_more-is}
use Rattle.history_laws.proofs.FirstLemmas.{first_act}
use Rattle.history_laws.proofs.HistoryLemmas.{moves_after}
use Rattle.history_laws.proofs.LeftLemmas.{counted_after, counts}
use Rattle.history_laws.proofs.LengthLemmas.{IsCounted, few_so_far}
use Rattle.history_laws.proofs.ReactorLemmas.{stays_settled, stays_told}
use Rattle.history_laws.proofs.Sound.{IsSound}
use Rattle.history_laws.proofs.SoundLemmas.{spent_by}
use Rattle.history_laws.proofs.StepLemmas.{at_changed, is_there, limited_by, steps_by}
use Rattle.history_laws.proofs.TakingLemmas.{kept, settle}
use Rattle.history_laws.proofs.TurnSoundLemmas.{requested}
use Rattle.history_progress.proofs.MakingLemmas.{AreMaking, back_here, here}
use Rattle.history_progress.proofs.OrderlyLemmas.{CalledBy, IsDated, accepted_ready, called_later, dated_moved, returned_later}

-- a turn that goes on began before
abbrev pub TurnBy : ℕ → Option ℕ → Type 0
TurnBy k None = Unit {0}
TurnBy k (Some turn) = turn ≤ k

turn_later : (k m : ℕ) (turn : Option ℕ) → k ≤ m → TurnBy k turn → TurnBy m turn
turn_later k m None less by = tt
turn_later k m (Some turn) less by = omega (arith, less, by)

turn_before : (k : ℕ) (turn : Option ℕ) → TurnBy k turn → unwrap_or turn 0 ≤ k
turn_before k None by = omega arith
turn_before k (Some turn) by = by

pub record AreDated (script : ScriptModel) (c : ContextState) : Type 0 where
  pub acts : (n : ℕ) → IsDated c.events (act_at c n)
  pub turn : TurnBy c.events c.turn

counted_up : (b : Bool) (k n : ℕ) → n < most_faults → k ≡ cond b (one_more n) n → n ≤ k
counted_up true k n few is = let more = one_more-is n few in omega (arith, more, is)
counted_up false k n few is = omega (arith, is)

module _ (script : ScriptModel) (well : IsWellFormed script) (told : Bool) (before : _) (s : State)
    (counted : IsCounted script told before s) (making : AreMaking script s.context) (dated : AreDated script s.context) where
  abbrev c : ContextState
  c = s.context

  abbrev After : Event → ContextState
  After e = (after_event script told s e).context

  sound : IsSound script s
  sound = counted.shown.sound

  later : (e : Event) → MayHappen script told s e → c.events ≤ (After e).events
  later e may =
      counted_up (counts e) (After e).events c.events (few_so_far script well told before s counted)
      (counted_after script well told s sound counted.ahead e may)

  -- an act that isn't called, and doesn't come back or complete
  other_dated : (e : Event) → MayHappen script told s e → (n : ℕ) → is_call_of n e ≡ false → is_return_of n e ≡ false →
      is_completion_of n e ≡ false → IsDated (After e).events (act_at (After e) n)
  other_dated e may n calls returns completes =
      dated_moved script n c.events (After e).events e (act_at c n) (act_at (After e) n) (moves_after script well told s sound e may n)
      calls returns completes (later e may) (dated.acts n)

  call_dated : (a : ℕ) → MayHappen script told s (event.Call a) → (n : ℕ) →
      IsDated (After (event.Call a)).events (act_at (After (event.Call a)) n)
  call_dated a may n = elim (cases_eq n a) [
    | inl same ↦
        subst (λ (n : ℕ). IsDated (After (event.Call a)).events (act_at (After (event.Call a)) n)) (sym same)
        (subst (IsDated (After (event.Call a)).events) (sym (here script well told s sound making a may))
        (record { called = later (event.Call a) may; ready = accepted_ready script a }))
    | inr other ↦
        other_dated (event.Call a) may n (apart-is a n (λ same. other (sym same))) refl refl
  ]

  back_dated : (a : ℕ) → MayHappen script told s (event.Back a) → (n : ℕ) →
      IsDated (After (event.Back a)).events (act_at (After (event.Back a)) n)
  back_dated a may n = elim (cases_eq n a) [
    | inl same ↦
        subst (λ (n : ℕ). IsDated (After (event.Back a)).events (act_at (After (event.Back a)) n)) (sym same)
        (subst (IsDated (After (event.Back a)).events) (sym (back_here script well told s sound making a may))
        (record {
          called = returned_later c.events (After (event.Back a)).events (call_at c a) (dated.acts a).called;
          ready = (dated.acts a).ready;
        }))
    | inr other ↦
        other_dated (event.Back a) may n refl (apart-is a n (λ same. other (sym same))) refl
  ]

  done_dated : (o : ℕ) (given : Code) (size : ℕ) → MayHappen script told s (event.Done o given size) → (n : ℕ) →
      IsDated (After (event.Done o given size)).events (act_at (After (event.Done o given size)) n)
  done_dated o given size may n = elim (cases_eq n o) [
    | inl same ↦
        let e : Event = event.Done o given size in
        let new : ActState = record (act_at c o)
        { phase = phase.Ready given size (cause.Completed c.events (unwrap_or c.turn 0)) } in
        let asks = requested script well told s sound o given size may in
        let within = is_there c o (λ absent. absurd (let wrong : phase.Absent ≡ phase.Requested = sym absent ∙ asks in cc)) in
        subst (λ (n : ℕ). IsDated (After e).events (act_at (After e) n)) (sym same)
        (subst (IsDated (After e).events) (sym (at_changed c.acts o new within))
        (record {
          called = (later_call e may o);
          ready = turn_before c.events c.turn dated.turn;
        }))
    | inr other ↦
        other_dated (event.Done o given size) may n refl refl (apart-is o n (λ same. other (sym same)))
  ]
    where
      later_call : (e : Event) → MayHappen script told s e → (o : ℕ) → CalledBy (After e).events (call_at c o)
      later_call e may o = called_later c.events (After e).events (call_at c o) (later e may) (dated.acts o).called

  acts_after : (e : Event) → MayHappen script told s e → (n : ℕ) → IsDated (After e).events (act_at (After e) n)
  acts_after (event.Call a) may n = call_dated a may n
  acts_after (event.Back a) may n = back_dated a may n
  acts_after (event.Done o given size) may n = done_dated o given size may n
  acts_after (event.Stop (Some a)) may n = other_dated (event.Stop (Some a)) may n refl refl refl
  acts_after (event.Stop None) may n = other_dated (event.Stop None) may n refl refl refl
  acts_after e may n = other_dated e may n refl refl refl

  same_turn : (e : Event) → MayHappen script told s e → (After e).turn ≡ c.turn → TurnBy (After e).events (After e).turn
  same_turn e may same =
      subst (TurnBy (After e).events) (sym same) (turn_later c.events (After e).events c.turn (later e may) dated.turn)

  turn_after : (e : Event) → MayHappen script told s e → TurnBy (After e).events (After e).turn
  turn_after (event.Call a) may = same_turn (event.Call a) may (steps_by (parent_of script a) step.Made c).turn
  turn_after (event.Back a) may =
      let d : ContextState = with_act c a (record (act_at c a) { call = returned c.events (call_at c a) }) in
      same_turn (event.Back a) may
      ((limited_by script (parent_of script a) a (is_act is_stop script a) (with_progress (parent_of script a) step.Back d)).turn
      ∙ (steps_by (parent_of script a) step.Back d).turn)
  turn_after (event.Begin o given size) may =
      same_turn (event.Begin o given size) may (spent_by (is_inline script o) (lane_of script o) (begun c o given)).turn
  turn_after (event.Take a) may = later (event.Take a) may
  turn_after (event.Tick now) may = later (event.Tick now) may
  turn_after event.Last may = later event.Last may
  turn_after event.Fault may = tt
  turn_after event.Ended may = tt
  turn_after event.Stopped may = tt
  turn_after event.Polled may = tt
  turn_after (event.Stop (Some a)) may = same_turn (event.Stop (Some a)) may refl
  turn_after (event.Stop None) may = same_turn (event.Stop None) may refl
  turn_after e may = same_turn e may refl

  -- each event keeps it
  pub dated_after : (e : Event) → MayHappen script told s e → AreDated script (After e)
  dated_after e may = record { acts = acts_after e may; turn = turn_after e may }

pub first_dated : (script : ScriptModel) (told : Bool) → AreDated script (first_state script told).context
first_dated script told = record {
  acts = λ n. subst (IsDated 0) (sym (first_act script told n)) (record { called = tt; ready = tt });
  turn = tt;
}

-- handlers are destroyed only once all rounds are closed or the reactor has failed
abbrev pub DropsLate : ScriptModel → State → Type 0
DropsLate script s = s.context.dropping ≡ true → AllClosed script s.context ⊎ (s.reactor.failed ≡ true)

module _ (script : ScriptModel) (well : IsWellFormed script) (told : Bool) (s : State) (sound : IsSound script s)
    (late : DropsLate script s) where
  abbrev d : ContextState
  d = s.context

  abbrev Next : Event → State
  Next e = after_event script told s e

  late_by : (e : Event) → (Next e).context.dropping ≡ d.dropping → (Next e).context.closings ≡ d.closings →
      (s.reactor.failed ≡ true → (Next e).reactor.failed ≡ true) → DropsLate script (Next e)
  late_by e dropping closings failed = λ is. elim (late (sym dropping ∙ is)) [
    | inl all ↦ inl (closings ∙ all)
    | inr was ↦ inr (failed was)
  ]

  -- no round closes once handlers are destroyed
  late_closing : (e : Event) → RoundIsOpen script d → (Next e).context.dropping ≡ d.dropping → DropsLate script (Next e)
  late_closing e round dropping = λ is.
      absurd (let wrong : true ≡ false = sym is ∙ (dropping ∙ round.alive) in cc)

  pub late_after : (e : Event) → MayHappen script told s e → DropsLate script (Next e)
  late_after (event.Call a) may =
      let steps = steps_by (parent_of script a) step.Made d in late_by (event.Call a) steps.dropping steps.closings (λ was. was)
  late_after (event.Back a) may =
      let with : ContextState = with_act d a (record (act_at d a) { call = returned d.events (call_at d a) }) in
      let steps = steps_by (parent_of script a) step.Back with in
      let limits = limited_by script (parent_of script a) a (is_act is_stop script a)
      (with_progress (parent_of script a) step.Back with) in
      late_by (event.Back a) (limits.dropping ∙ steps.dropping) (limits.closings ∙ steps.closings) (λ was. was)
  late_after (event.Begin o given size) may =
      let spent = spent_by (is_inline script o) (lane_of script o) (begun d o given) in
      late_by (event.Begin o given size) spent.dropping spent.closings (λ was. was)
  late_after (event.Take a) may =
      late_by (event.Take a) refl refl
      (λ was. (settle script well told s sound a may).failed ∙ ((kept script well told s sound a may).failed ∙ was))
  late_after (event.Done o given size) may =
      late_by (event.Done o given size) refl refl (λ was. (stays_told script o s.reactor).failed ∙ was)
  late_after (event.Tick now) may =
      late_by (event.Tick now) refl refl (λ was. (stays_settled told (at_time script told now s.reactor)).failed ∙ was)
  late_after event.Last may = late_by event.Last refl refl (λ was. (stays_settled told (at_last told s.reactor)).failed ∙ was)
  late_after event.Fault may = λ is. inr refl
  late_after event.Ended may = late_closing event.Ended may.round refl
  late_after event.Stopped may = late_closing event.Stopped may.round refl
  late_after event.Polled may = late_closing event.Polled may.round refl
  late_after (event.Dropped o mark) may = λ is. elim may.over [ inl all ↦ inl all | inr failed ↦ inr failed.0 ]
  late_after (event.Stop (Some a)) may = late_by (event.Stop (Some a)) refl refl (λ was. was)
  late_after (event.Stop None) may = late_by (event.Stop None) refl refl (λ was. was)
  late_after e may = late_by e refl refl (λ was. was)
