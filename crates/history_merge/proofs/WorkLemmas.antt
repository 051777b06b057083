-- What each event makes of the outstanding work.
use Rattle.std.proofs.Common.{◌≡◌, ◌≢◌, ℕ, zero, suc, ◌+◌, ◌<◌, ◌≤◌, Bool, true, false, cond, List, [], ◌∷◌, None, Option, Some, inl, inr, length, refl, sym, ap, subst, ◌∙◌, arith}
use Rattle.std.specs.Prelude.{◌||◌, not, slice_get}
use Rattle.std.specs.List.{slice_index_or, slice_set}
use Rattle.std.specs.Option.{unwrap_or}
use Rattle.std.proofs.lemmas.Bool.{cases_eq}
use Rattle.std.proofs.lemmas.List.{get_or-set_other, get_or-set_same}
use Rattle.asio_types.specs.declared.code.Code.{Code}
use Rattle.asio_types.specs.declared.code.Code.TheVariants as code
use Rattle.asio_types.specs.declared.event.Event.{Event}
use Rattle.asio_types.specs.declared.event.Event.TheVariants as event
use Rattle.session_script.specs.declared.act.Act.{Act}
use Rattle.session_script.specs.declared.act.Act.TheVariants as act
use Rattle.session_script.specs.Lanes.{is_inline}
use Rattle.session_script.specs.Script.{Entry, ScriptModel, is_operation, is_stop, stops}
use Rattle.history_rules.specs.Calls.{accepted, progressed}
use Rattle.history_rules.specs.Executions.{MayBegin, has_finished}
use Rattle.history_rules.specs.Kinds.{is_act, is_control, is_posting}
use Rattle.history_rules.specs.Legal.{after_event, context_after}
use Rattle.history_rules.specs.Order.{was_taken}
use Rattle.history_rules.specs.Rounds.{is_act_outstanding, is_outstanding, is_unspent, outstanding_work}
use Rattle.history_rules.specs.State.{ReactorHalf, State, act_at, fresh, phase_at}
use Rattle.history_rules.specs.declared.phase.ActPhase.{ActPhase}
use Rattle.history_rules.specs.declared.phase.ActPhase.TheVariants as phase
use Rattle.history_rules.specs.declared.phase.ActState.{ActState}
use Rattle.history_rules.specs.declared.phase.Cause.TheVariants as cause
use Rattle.history_rules.specs.declared.phase.Step.{Step}
use Rattle.lane_clock.specs.declared.found.Change.{Change}
use Rattle.lane_clock.specs.declared.found.Change.TheVariants as change
use Rattle.lane_logs.specs.Half.{held_guards}
use Rattle.lane_logs.specs.ReactorTurns.{lets_go, take_change}
use Rattle.execution_laws.proofs.CountingLemmas.{counted, counted-range, counted-same}
use Rattle.execution_laws.proofs.ScriptLemmas.{accepted-inline, inline_no_stop}
use Rattle.reactor_turns.proofs.SummingLemmas.{one_if}
use Rattle.reactor_turns.proofs.TakenLemmas.{done-taken}
use Rattle.history_merge.proofs.EachActLemmas.{Each}
use Rattle.history_merge.proofs.FrameLemmas.{called_act, length-after, phase_act}
use Rattle.history_merge.proofs.GuardLemmas.{guards_after, guards_done, guards_stay}
use Rattle.history_merge.proofs.TestLemmas.{IsSame, back_same, base_same, begin_same, call_same, phase_same, stop_same}

-- two counts that differ at one number
pub counted-changed : (one two : ℕ → Bool) (a n : ℕ) → a < n → ((m : ℕ) → m ≢ a → two m ≡ one m) →
    counted two n + one_if (one a) ≡ counted one n + one_if (two a)
counted-changed one two a zero within others = absurd (omega (arith, within))
counted-changed one two a (suc n) within others = elim (cases_eq n a) [
  | inl same ↦
      let rest = below n (omega (arith, same)) in
      let first : one_if (one n) ≡ one_if (one a) = ap (λ m. one_if (one m)) same in
      let second : one_if (two n) ≡ one_if (two a) = ap (λ m. one_if (two m)) same in
      omega (arith, rest, first, second)
  | inr other ↦
      let rest = counted-changed one two a n (omega (arith, within, other)) others in
      let here : one_if (two n) ≡ one_if (one n) = ap one_if (others n other) in
      omega (arith, rest, here)
]
  where
    below : (k : ℕ) → k ≤ a → counted two k ≡ counted one k
    below zero less = refl
    below (suc k) less =
        let rest = below k (omega (arith, less)) in
        let here : one_if (two k) ≡ one_if (one k) = ap one_if (others k (λ same. absurd (omega (arith, same, less)))) in
        omega (arith, rest, here)

out_step : (step : Step) (of : ActPhase) (taken : Bool) → is_outstanding (progressed step of) taken ≡ is_outstanding of taken
out_step step (phase.Running class progress) taken = refl
out_step step other taken = refl

unspent_out : (of : ActPhase) (taken : Bool) → is_unspent of ≡ true → is_outstanding of taken ≡ true
unspent_out phase.Asked taken is = absurd (cc)
unspent_out other taken is = is

finished_out : (script : ScriptModel) (o : ℕ) (of : ActPhase) (taken : Bool) → has_finished script o of ≡ true →
    is_outstanding of taken ≡ true
finished_out script o (phase.Running class progress) taken is = refl
finished_out script o other taken is = absurd (cc)

-- what a call accepts is outstanding unless it stops the context
out_by : (inline posting operation control : Bool) → inline ≡ false →
    is_outstanding (cond inline phase.Inside (cond posting (phase.Ready code.Ok 0 cause.Posted)
    (cond operation phase.Requested (cond control phase.Asked phase.Absent)))) false
    ≡ (posting || (operation || control))
out_by true posting operation control outside = absurd (cc)
out_by false true operation control outside = refl
out_by false false true control outside = refl
out_by false false false true outside = refl
out_by false false false false outside = refl

kinds : (it : Act) → (is_posting it || (is_operation it || is_control it)) ≡ not (is_stop it)
kinds (act.Post strand) = refl
kinds (act.Defer strand) = refl
kinds (act.Dispatch strand) = refl
kinds other = refl

module _ (script : ScriptModel) (a : ℕ) (within : a < length script.acts) where
  pub by_kind : (found : Option Entry) → slice_get script.acts a ≡ found →
      (is_act is_posting script a || (is_act is_operation script a || is_act is_control script a)) ≡ not (stops script a)
  by_kind None stands = absurd (outside script.acts a within stands)
    where
      outside : {A : Type 0} → (xs : List A) (i : ℕ) → i < length xs → slice_get xs i ≡ None → ⊥
      outside [] i below none = absurd (omega (arith, below))
      outside (x ∷ xs) zero below none = cc
      outside (x ∷ xs) (suc i) below none = outside xs i (omega (arith, below)) none
  by_kind (Some e) stands =
      let posts : is_act is_posting script a ≡ is_posting e.act = rw stands refl in
      let operates : is_act is_operation script a ≡ is_operation e.act = rw stands refl in
      let controls : is_act is_control script a ≡ is_control e.act = rw stands refl in
      let halts : stops script a ≡ is_stop e.act = rw stands refl in
      (λ i. posts i || (operates i || controls i)) ∙ (kinds e.act ∙ sym (ap not halts))

  pub accepted_out : is_outstanding (accepted script a) false ≡ not (stops script a)
  accepted_out = by_inline (is_inline script a) refl
    where
      by_inline : (inside : Bool) → is_inline script a ≡ inside →
          is_outstanding (accepted script a) false ≡ not (stops script a)
      by_inline true inside =
          ap (λ of. is_outstanding of false) (accepted-inline script a inside)
          ∙ sym (ap not (inline_no_stop script a inside))
      by_inline false outside =
          out_by (is_inline script a) (is_act is_posting script a) (is_act is_operation script a)
          (is_act is_control script a) outside ∙ by_kind (slice_get script.acts a) refl

-- the work of two states of as many acts
module _ (s t : State) (size : length t.context.acts ≡ length s.context.acts) where
  abbrev acts_out : State → ℕ
  acts_out u = counted (is_act_outstanding u) (length s.context.acts)

  work_is : (u : State) → length u.context.acts ≡ length s.context.acts →
      outstanding_work u ≡ acts_out u + held_guards u.reactor
  work_is u same =
      let all = counted-range (is_act_outstanding u) (length u.context.acts) in
      let count : counted (is_act_outstanding u) (length u.context.acts) ≡ acts_out u =
      ap (counted (is_act_outstanding u)) same in
      omega (arith, all, count)

  work_same : ((n : ℕ) → is_act_outstanding t n ≡ is_act_outstanding s n) →
      outstanding_work t + held_guards s.reactor ≡ outstanding_work s + held_guards t.reactor
  work_same same =
      let one = work_is s refl in
      let two = work_is t size in
      let acts : acts_out t ≡ acts_out s =
      counted-same (is_act_outstanding t) (is_act_outstanding s) (length s.context.acts) same in
      omega (arith, one, two, acts)

  work_changed : (a : ℕ) → a < length s.context.acts →
      ((n : ℕ) → n ≢ a → is_act_outstanding t n ≡ is_act_outstanding s n) →
      (was now : Bool) → is_act_outstanding s a ≡ was → is_act_outstanding t a ≡ now →
      outstanding_work t + one_if was + held_guards s.reactor ≡ outstanding_work s + one_if now + held_guards t.reactor
  work_changed a within others was now before after =
      let one = work_is s refl in
      let two = work_is t size in
      let acts : acts_out t + one_if (is_act_outstanding s a) ≡ acts_out s + one_if (is_act_outstanding t a) =
      counted-changed (is_act_outstanding s) (is_act_outstanding t) a (length s.context.acts) within others in
      let first : one_if (is_act_outstanding s a) ≡ one_if was = ap one_if before in
      let second : one_if (is_act_outstanding t a) ≡ one_if now = ap one_if after in
      omega (arith, one, two, acts, first, second)

-- what an event changes in the outstanding work, and in the stops
abbrev pub change_by : ScriptModel → ReactorHalf → Event → Change
change_by script half (event.Call a) = cond (stops script a) change.Same change.Up
change_by script half (event.Stop by) = change.Stop
change_by script half (event.End o mark) = change.Down
change_by script half (event.Take a) = take_change script half a
change_by script half event.Fault = change.Stop
change_by script half event.Ended = change.Stop
change_by script half (event.Dropped o mark) = change.Down
change_by script half _ = change.Same

module _ (script : ScriptModel) (told : Bool) (s : State) where
  abbrev after : Event → State
  after shown = after_event script told s shown

  abbrev taken : ℕ → Bool
  taken n = was_taken s.reactor n

  -- whether an act is outstanding, by what was taken
  abbrev outs : ℕ → ActPhase → Bool
  outs n of = is_outstanding of (taken n)

  outs_step : (n : ℕ) (step : Step) (of : ActPhase) → outs n (progressed step of) ≡ outs n of
  outs_step n step of = out_step step of (taken n)

  -- no act is away
  abbrev Nowhere : ℕ → Type 0
  Nowhere n = ⊥

  abbrev Here : ℕ → ℕ → Type 0
  Here a n = n ≡ a

  begins_out : (o : ℕ) (given : Code) (size : ℕ) → MayBegin script s.context o given size →
      is_outstanding (phase_at s.context o) (taken o) ≡ true
  begins_out o given size (inl outside) = ap (λ of. is_outstanding of (taken o)) outside.ready.1
  begins_out o given size (inr within) = ap (λ of. is_outstanding of (taken o)) within.inside

  -- the work after an event that takes nothing and lets go of no guard
  module _ (shown : Event) (marks : (after shown).reactor.taken ≡ s.reactor.taken)
      (held : held_guards (after shown).reactor ≡ held_guards s.reactor) where
    each_out : (Away : ℕ → Type 0) → Each (IsSame outs Away) s.context.acts (context_after script s.context shown).acts →
        (n : ℕ) → (Away n → ⊥) → is_act_outstanding (after shown) n ≡ is_act_outstanding s n
    each_out Away each n here =
        ap (λ (marked : List Bool). is_outstanding (phase_at (after shown).context n) (slice_index_or marked n false)) marks
        ∙ (each n).same here

    pub same_work : Each (IsSame outs Nowhere) s.context.acts (context_after script s.context shown).acts →
        outstanding_work (after shown) ≡ outstanding_work s
    same_work each =
        let all =
        work_same s (after shown) (length-after script s.context shown) (λ n. each_out Nowhere each n (λ never. never)) in
        omega (arith, all, held)

    one_work : (a : ℕ) → a < length s.context.acts →
        Each (IsSame outs (Here a)) s.context.acts (context_after script s.context shown).acts → (was now : Bool) →
        is_act_outstanding s a ≡ was → is_outstanding (phase_at (after shown).context a) (taken a) ≡ now →
        outstanding_work (after shown) + one_if was ≡ outstanding_work s + one_if now
    one_work a within each was now before then =
        let all =
        work_changed s (after shown) (length-after script s.context shown) a within (each_out (Here a) each) was now before
        (ap (λ (marked : List Bool). is_outstanding (phase_at (after shown).context a) (slice_index_or marked a false)) marks
        ∙ then) in
        omega (arith, all, held)

  -- a call of an act that doesn't stop the context is one more
  pub call_work : (a : ℕ) → a < length s.context.acts → a < length script.acts → act_at s.context a ≡ fresh →
      taken a ≡ false →
      outstanding_work (after (event.Call a)) ≡ outstanding_work s + one_if (not (stops script a))
  call_work a within there new untaken =
      let was : is_act_outstanding s a ≡ false =
      ap (λ (x : ActState). is_outstanding x.phase (taken a)) new in
      let now : is_outstanding (phase_at (after (event.Call a)).context a) (taken a) ≡ not (stops script a) =
      ap (λ (x : ActState). is_outstanding x.phase (taken a)) (called_act script s.context a within)
      ∙ (ap (is_outstanding (accepted script a)) untaken ∙ accepted_out script a there) in
      let all = one_work (event.Call a) refl refl a within
      (call_same outs outs_step script s.context (Here a) a (λ away. absurd (away refl))) false (not (stops script a)) was now in
      omega (arith, all)

  -- a stop, a return and a begin leave it
  pub stop_work : (a : ℕ) → outstanding_work (after (event.Stop (Some a))) ≡ outstanding_work s
  stop_work a = same_work (event.Stop (Some a)) refl refl (stop_same outs outs_step script s.context Nowhere a)

  pub back_work : (a : ℕ) → outstanding_work (after (event.Back a)) ≡ outstanding_work s
  back_work a = same_work (event.Back a) refl refl (back_same outs outs_step script s.context Nowhere a)

  pub begin_work : (o : ℕ) (given : Code) (size : ℕ) → MayBegin script s.context o given size →
      outstanding_work (after (event.Begin o given size)) ≡ outstanding_work s
  begin_work o given size may = same_work (event.Begin o given size) refl refl
      (begin_same outs outs_step script s.context Nowhere o given size (λ here. sym (begins_out o given size may)))

  -- an end is one less
  pub end_work : (o mark : ℕ) → o < length s.context.acts → has_finished script o (phase_at s.context o) ≡ true →
      outstanding_work (after (event.End o mark)) + 1 ≡ outstanding_work s
  end_work o mark within may =
      let all =
      one_work (event.End o mark) refl refl o within
      (phase_same outs outs_step script s.context (Here o) o phase.Ended (λ away. absurd (away refl))) true false
      (finished_out script o (phase_at s.context o) (taken o) may)
      (ap (λ (x : ActState). is_outstanding x.phase (taken o)) (phase_act script s.context o within phase.Ended)) in
      omega (arith, all)

  -- what becomes of the rounds leaves it, and so does a completion
  pub round_work : (shown : Event) → (after shown).reactor.taken ≡ s.reactor.taken →
      held_guards (after shown).reactor ≡ held_guards s.reactor →
      (context_after script s.context shown).acts ≡ s.context.acts → outstanding_work (after shown) ≡ outstanding_work s
  round_work shown marks held acts =
      same_work shown marks held
      (subst (Each (IsSame outs Nowhere) s.context.acts) (sym acts) (base_same outs outs_step script s.context Nowhere))

  pub done_work : (o : ℕ) (given : Code) (size : ℕ) → phase_at s.context o ≡ phase.Requested →
      outstanding_work (after (event.Done o given size)) ≡ outstanding_work s
  done_work o given size asked =
      same_work (event.Done o given size) (done-taken script s.reactor o) (guards_done script s.reactor o)
      (phase_same outs outs_step script s.context Nowhere o
      (phase.Ready given size (cause.Completed s.context.events (unwrap_or s.context.turn 0)))
      (λ here. sym (ap (λ of. is_outstanding of (taken o)) asked)))

  -- a drop is one less
  pub drop_work : (o mark : ℕ) → o < length s.context.acts → is_unspent (phase_at s.context o) ≡ true →
      outstanding_work (after (event.Dropped o mark)) + 1 ≡ outstanding_work s
  drop_work o mark within may =
      let all =
      one_work (event.Dropped o mark) refl refl o within
      (phase_same outs outs_step script s.context (Here o) o phase.Dropped (λ away. absurd (away refl))) true false
      (unspent_out (phase_at s.context o) (taken o) may)
      (ap (λ (x : ActState). is_outstanding x.phase (taken o)) (phase_act script s.context o within phase.Dropped)) in
      omega (arith, all)

  -- a take of an operation leaves it; that of a control act is one less, and another where it lets go of a guard
  module _ (a : ℕ) (within : a < length s.context.acts) (size : length s.reactor.taken ≡ length s.context.acts)
      (marks : (after (event.Take a)).reactor.taken ≡ slice_set s.reactor.taken a true) (untaken : taken a ≡ false) where
    take_others : (n : ℕ) → n ≢ a → is_act_outstanding (after (event.Take a)) n ≡ is_act_outstanding s n
    take_others n other =
        ap (is_outstanding (phase_at s.context n))
        (ap (λ (marked : List Bool). slice_index_or marked n false) marks
        ∙ get_or-set_other s.reactor.taken a n true false other)

    take_here : is_act_outstanding (after (event.Take a)) a ≡ is_outstanding (phase_at s.context a) true
    take_here =
        ap (is_outstanding (phase_at s.context a))
        (ap (λ (marked : List Bool). slice_index_or marked a false) marks
        ∙ get_or-set_same s.reactor.taken a true false (omega (arith, within, size)))

    pub request_work : phase_at s.context a ≡ phase.Requested → is_act is_control script a ≡ false →
        outstanding_work (after (event.Take a)) ≡ outstanding_work s
    request_work asked isnt =
        let all =
        work_changed s (after (event.Take a)) refl a within take_others true true
        (ap (λ of. is_outstanding of (taken a)) asked) (take_here ∙ ap (λ of. is_outstanding of true) asked) in
        let held = guards_stay script told s.reactor a isnt in
        omega (arith, all, held)

    pub control_work : phase_at s.context a ≡ phase.Asked →
        outstanding_work (after (event.Take a)) + 1 + one_if (lets_go script s.reactor a) ≡ outstanding_work s
    control_work asked =
        let all =
        work_changed s (after (event.Take a)) refl a within take_others true false
        (ap (λ of. is_outstanding of (taken a)) asked ∙ ap not untaken) (take_here ∙ ap (λ of. is_outstanding of true) asked) in
        let held = guards_after script told s.reactor a in
        omega (arith, all, held)
