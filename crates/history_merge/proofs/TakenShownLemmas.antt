-- A request whose take was shown was taken.
use Rattle.std.proofs.Common.{◌≡◌, ◌≢◌, ℕ, Bool, true, false, List, ◌∷◌, inl, inr, length, sym, ap, subst, ◌∙◌, arith}
use Rattle.std.specs.Prelude.{not}
use Rattle.std.specs.List.{slice_index_or, slice_set}
use Rattle.std.proofs.lemmas.Bool.{and_parts, cases_eq, cases_lt}
use Rattle.std.proofs.lemmas.List.{get_or-set_other, get_or-set_same, set_past}
use Rattle.asio_types.specs.declared.event.Event.{Event}
use Rattle.asio_types.specs.declared.event.Event.TheVariants as event
use Rattle.session_script.specs.Script.{ScriptModel}
use Rattle.session_script.specs.WellFormed.{IsWellFormed}
use Rattle.history_rules.specs.Legal.{MayHappen, after_event, reactor_after}
use Rattle.history_rules.specs.Order.{is_request, was_taken}
use Rattle.history_rules.specs.State.{ReactorHalf, State, phase_at}
use Rattle.history_rules.specs.declared.phase.ActPhase.{ActPhase}
use Rattle.history_rules.specs.declared.phase.ActPhase.TheVariants as phase
use Rattle.lane_clock.specs.History.{ClockEvent}
use Rattle.lane_clock.specs.declared.found.Change.{Change}
use Rattle.lane_clock.specs.declared.found.Found.{Found}
use Rattle.lane_clock.proofs.MomentLemmas.{Tail, tail_more}
use Rattle.lane_logs.specs.Labels.{Labelled, allots, shows, silent}
use Rattle.lane_logs.specs.Logs.{AreLogs, LogsView}
use Rattle.lane_logs.specs.Names.{SessionNames}
use Rattle.execution_laws.proofs.RestLemmas.{is_within}
use Rattle.reactor_turns.proofs.TakenLemmas.{done-taken, last-taken, take-taken, tick-taken}
use Rattle.history_merge.proofs.AllowanceLemmas.{shown_may}
use Rattle.history_merge.proofs.BetweenLemmas.{kept_from}
use Rattle.history_merge.proofs.HistoryLemmas.{label_of}
use Rattle.history_merge.proofs.LabellingLemmas.{AreLabels}
use Rattle.history_merge.proofs.SoFarLemmas.{state_at, state_next, state_with}
use Rattle.history_merge.proofs.SoLemmas.{IsSo}

marked_stays : (taken : List Bool) (a n : ℕ) → slice_index_or taken n false ≡ true →
    slice_index_or (slice_set taken a true) n false ≡ true
marked_stays taken a n is = elim (cases_eq n a) [
  | inl same ↦ elim (cases_lt a (length taken)) [
    | inl within ↦
        ap (λ n. slice_index_or (slice_set taken a true) n false) same ∙ get_or-set_same taken a true false within
    | inr beyond ↦ ap (λ taken. slice_index_or taken n false) (set_past taken a true beyond) ∙ is
  ]
  | inr other ↦ get_or-set_other taken a n true false other ∙ is
]

module _ (script : ScriptModel) (well : IsWellFormed script) (told : Bool) where
  by_marks : (half now : ReactorHalf) (n : ℕ) → now.taken ≡ half.taken → was_taken half n ≡ true → was_taken now n ≡ true
  by_marks half now n same is = ap (λ (taken : List Bool). slice_index_or taken n false) same ∙ is

  -- what was taken stays so
  pub taken_stays : (half : ReactorHalf) (shown : Event) (n : ℕ) → was_taken half n ≡ true →
      was_taken (reactor_after script told half shown) n ≡ true
  taken_stays half (event.Take a) n is =
      ap (λ (taken : List Bool). slice_index_or taken n false) (take-taken script told half a well)
      ∙ marked_stays half.taken a n is
  taken_stays half (event.Done o given size) n is =
      by_marks half (reactor_after script told half (event.Done o given size)) n (done-taken script half o) is
  taken_stays half (event.Tick now) n is =
      by_marks half (reactor_after script told half (event.Tick now)) n (tick-taken script told half now) is
  taken_stays half event.Last n is =
      by_marks half (reactor_after script told half event.Last) n (last-taken told half) is
  taken_stays half event.Fault n is = is
  taken_stays half other n is = is

  request_there : (of : ActPhase) → is_request of ≡ true → of ≢ phase.Absent
  request_there of is absent = let wrong : true ≡ false = sym is ∙ ap is_request absent in absurd (cc)

  pub taken_now : (s : State) (a : ℕ) → length s.context.acts ≡ length script.acts →
      length s.reactor.taken ≡ length script.acts → MayHappen script told s (event.Take a) →
      was_taken (after_event script told s (event.Take a)).reactor a ≡ true
  taken_now s a acts marks may =
      let parts = and_parts (is_request (phase_at s.context a)) (not (was_taken s.reactor a)) may.untaken in
      let within = is_within s.context a (request_there (phase_at s.context a) parts.0) in
      ap (λ (taken : List Bool). slice_index_or taken a false) (take-taken script told s.reactor a well)
      ∙ get_or-set_same s.reactor.taken a true false (omega (arith, within, acts, marks))

module _ (names : SessionNames) (well : IsWellFormed names.script) (logs : LogsView) (labels : ℕ → List Labelled)
    (logged : AreLogs names logs) (are : AreLabels names logs labels) where
  abbrev script : ScriptModel
  script = names.script

  abbrev state : List ClockEvent → State
  state es = state_at script names.told labels es

  label_keeps : (label : Labelled) (s : State) (n : ℕ) → was_taken s.reactor n ≡ true →
      was_taken (state_with script names.told label s).reactor n ≡ true
  label_keeps (silent step) s n is = is
  label_keeps (shows shown changes found) s n is = taken_stays script well names.told s.reactor shown n is
  label_keeps (allots act lane place) s n is = is

  pub taken_shown : (es : List ClockEvent) (so : (a : List ClockEvent) → Tail a es → IsSo names logs labels are a)
      (e : ClockEvent) (older : List ClockEvent) → Tail (e ∷ older) es → (n : ℕ) (changes : Change) (found : Found) →
      label_of labels older e ≡ shows (event.Take n) changes found → was_taken (state es).reactor n ≡ true
  taken_shown es so e older tail n changes found is =
      let before = so older (tail_more older e es tail) in
      let may =
      shown_may names well logs labels logged are e older (so (e ∷ older) tail) (event.Take n) changes found is in
      let first : was_taken (state (e ∷ older)).reactor n ≡ true =
      subst (λ (s : State). was_taken s.reactor n ≡ true)
      (sym (state_next script names.told labels e older
      ∙ ap (λ label. state_with script names.told label (state older)) is))
      (taken_now script well names.told (state older) n before.state.order.size before.state.half.marks may) in
      kept_from (λ es. was_taken (state es).reactor n ≡ true) (e ∷ older) es tail first
      (λ f earlier made since is.
      subst (λ (s : State). was_taken s.reactor n ≡ true) (sym (state_next script names.told labels f earlier))
      (label_keeps (label_of labels earlier f) (state earlier) n is))
