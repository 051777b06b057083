-- As many operations are pending as the reactor has to complete.
use Rattle.std.proofs.Common.{◌≡◌, ◌≢◌, ℕ, ◌+◌, ◌<◌, Bool, true, false, not, ◌&&◌, cond, List, inl, inr, length, refl, sym, ap, ◌∙◌, arith}
use Rattle.std.specs.Prelude.{◌==◌}
use Rattle.std.specs.List.{slice_index_or, slice_set}
use Rattle.std.specs.Option.{unwrap_or}
use Rattle.std.proofs.Math.ListN.{length-set}
use Rattle.std.proofs.lemmas.Bool.{and_from, and_parts, and_right, cases_eq, eq-eqb, ne_eqb, not-true}
use Rattle.std.proofs.lemmas.List.{get_or-set_other, get_or-set_same}
use Rattle.asio_types.specs.declared.code.Code.{Code}
use Rattle.asio_types.specs.declared.event.Event.TheVariants as event
use Rattle.session_script.specs.Script.{ScriptModel}
use Rattle.session_script.specs.WellFormed.{IsWellFormed}
use Rattle.session_script.proofs.PlacingLemmas.{act_fits}
use Rattle.history_rules.specs.Calls.{accepted}
use Rattle.history_rules.specs.Legal.{after_event}
use Rattle.history_rules.specs.Order.{is_request, is_untaken, was_taken}
use Rattle.history_rules.specs.Requests.{MayTell}
use Rattle.history_rules.specs.State.{State, act_at, fresh, phase_at}
use Rattle.history_rules.specs.declared.phase.ActPhase.TheVariants as phase
use Rattle.history_rules.specs.declared.phase.ActState.{ActState}
use Rattle.history_rules.specs.declared.phase.Cause.TheVariants as cause
use Rattle.execution_laws.specs.Rest.{IsAtRest}
use Rattle.execution_laws.specs.Accounted.{IsAccounted}
use Rattle.execution_laws.specs.Work.{is_pending, is_requested, pending_acts}
use Rattle.execution_laws.proofs.CountingLemmas.{counted, counted-more, counted-range, counted-same}
use Rattle.execution_laws.proofs.RestLemmas.{is_within}
use Rattle.execution_laws.proofs.SettledLemmas.{awaited}
use Rattle.execution_laws.proofs.StateLemmas.{act_at-other, act_at-same, length-acts}
use Rattle.reactor_turns.specs.Standing.{is_awaited}
use Rattle.reactor_turns.proofs.PendingLemmas.{pending-done, pending-last, pending-take, pending-tick}
use Rattle.reactor_turns.proofs.StreamsLemmas.{done-size, last-size, take-size, tick-size}
use Rattle.reactor_turns.proofs.TakenLemmas.{done-taken, last-taken, take-taken, tick-taken}

abbrev one_if : Bool → ℕ
one_if b = cond b 1 0

-- where the same acts are pending
pub pending_same : (s t : State) → length t.context.acts ≡ length s.context.acts →
    ((n : ℕ) → is_pending t n ≡ is_pending s n) → pending_acts t ≡ pending_acts s
pending_same s t size same =
    let one = counted-range (is_pending t) (length t.context.acts) in
    let two = counted-range (is_pending s) (length s.context.acts) in
    let each = counted-same (is_pending t) (is_pending s) (length t.context.acts) same in
    let long = ap (counted (is_pending s)) size in
    omega (arith, one, two, each, long)

-- where one more is
pending_more : (s t : State) (a : ℕ) → length t.context.acts ≡ length s.context.acts → a < length s.context.acts →
    is_pending s a ≡ false → is_pending t a ≡ true → ((n : ℕ) → n ≢ a → is_pending t n ≡ is_pending s n) →
    pending_acts t ≡ pending_acts s + 1
pending_more s t a size within before now others =
    let one = counted-range (is_pending t) (length t.context.acts) in
    let two = counted-range (is_pending s) (length s.context.acts) in
    let long = ap (counted (is_pending t)) size in
    let each = counted-same (is_pending t) (λ n. cond (a == n) true (is_pending s n)) (length s.context.acts) split in
    let more = counted-more a (length s.context.acts) (is_pending s) within before in
    omega (arith, one, two, long, each, more)
  where
    split : (n : ℕ) → is_pending t n ≡ cond (a == n) true (is_pending s n)
    split n = elim (cases_eq n a) [
      | inl same ↦ ap (is_pending t) same ∙ (now ∙ sym (ap (λ b. cond b true (is_pending s n)) (eq-eqb a n (sym same))))
      | inr differ ↦
          others n differ ∙ sym (ap (λ b. cond b true (is_pending s n)) (ne_eqb a n (λ same. differ (sym same))))
    ]

pub account_tick : (script : ScriptModel) (told : Bool) (s : State) (now : ℕ) → IsAccounted script s →
    IsAccounted script (after_event script told s (event.Tick now))
account_tick script told s now account =
    let t : State = after_event script told s (event.Tick now) in
    let taken : t.reactor.taken ≡ s.reactor.taken = tick-taken script told s.reactor now in
    record {
      streams = tick-size script told s.reactor now ∙ account.streams;
      marks = ap length taken ∙ account.marks;
      asked = account.asked;
      pending =
          pending_same s t refl
          (λ n. ap (λ (taken : List Bool). is_requested (phase_at s.context n) && slice_index_or taken n false) taken)
          ∙ (account.pending ∙ sym (pending-tick script told s.reactor now));
    }

pub account_last : (script : ScriptModel) (told : Bool) (s : State) → IsAccounted script s →
    IsAccounted script (after_event script told s event.Last)
account_last script told s account =
    let t : State = after_event script told s event.Last in
    let taken : t.reactor.taken ≡ s.reactor.taken = last-taken told s.reactor in
    record {
      streams = last-size told s.reactor ∙ account.streams;
      marks = ap length taken ∙ account.marks;
      asked = account.asked;
      pending =
          pending_same s t refl
          (λ n. ap (λ (taken : List Bool). is_requested (phase_at s.context n) && slice_index_or taken n false) taken)
          ∙ (account.pending ∙ sym (pending-last told s.reactor));
    }

-- an operation that completes is pending no more
pub account_done : (script : ScriptModel) (told : Bool) (s : State) (op : ℕ) (given : Code) (size : ℕ) →
    IsAccounted script s → phase_at s.context op ≡ phase.Requested → was_taken s.reactor op ≡ true →
    MayTell script told s.reactor op given size →
    IsAccounted script (after_event script told s (event.Done op given size))
account_done script told s op given size account requested was may =
    let t : State = after_event script told s (event.Done op given size) in
    let new : ActState =
    record (act_at s.context op)
    { phase = phase.Ready given size (cause.Completed s.context.events (unwrap_or s.context.turn 0)) } in
    let within : op < length s.context.acts =
    is_within s.context op (λ absent. let wrong : phase.Requested ≡ phase.Absent = sym requested ∙ absent in absurd (cc)) in
    let here : act_at t.context op ≡ new = act_at-same s.context op new within in
    let taken : t.reactor.taken ≡ s.reactor.taken = done-taken script s.reactor op in
    let mark = λ (n : ℕ). ap (λ (taken : List Bool). slice_index_or taken n false) taken in
    let long : length s.context.acts ≡ length t.context.acts = sym (length-acts s.context op new) in
    let less =
    pending_more t s op long (omega (arith, within, long))
    (ap (λ (act : ActState). is_requested act.phase && was_taken t.reactor op) here)
    (and_from (is_requested (phase_at s.context op)) (was_taken s.reactor op) (ap is_requested requested) was)
    (λ n differ.
    sym (ap (λ (act : ActState). is_requested act.phase && was_taken t.reactor n)
    (act_at-other s.context op new n differ) ∙ ap (λ b. is_requested (phase_at s.context n) && b) (mark n)))
    in
    let count = pending-done script told s.reactor op given size may in
    let before = account.pending in
    record {
      streams = done-size script s.reactor op ∙ account.streams;
      marks = ap length taken ∙ account.marks;
      asked = λ n asks. elim (cases_eq n op) [
        | inl same ↦
            absurd (let wrong : false ≡ true =
            sym (ap (λ n. is_request (phase_at t.context n)) same
            ∙ ap (λ (act : ActState). is_request act.phase) here) ∙ asks in
            cc)
        | inr differ ↦
            let still : phase_at t.context n ≡ phase_at s.context n =
            ap (λ (act : ActState). act.phase) (act_at-other s.context op new n differ) in
            still ∙ account.asked n (sym (ap is_request still) ∙ asks)
      ];
      pending = omega (arith, less, count, before);
    }

-- what was taken is pending if it was requested
taken_more : (s t : State) (a : ℕ) → t.context.acts ≡ s.context.acts → a < length s.context.acts →
    was_taken s.reactor a ≡ false → was_taken t.reactor a ≡ true → ((n : ℕ) → n ≢ a → is_pending t n ≡ is_pending s n) →
    (b : Bool) → is_requested (phase_at s.context a) ≡ b → pending_acts t ≡ pending_acts s + cond b 1 0
taken_more s t a same within before now others true asks =
    let here : is_requested (phase_at t.context a) ≡ true =
    ap (λ (acts : List ActState). is_requested (slice_index_or acts a fresh).phase) same ∙ asks in
    pending_more s t a (ap length same) within (ap (λ b. is_requested (phase_at s.context a) && b) before
    ∙ and_right (is_requested (phase_at s.context a)) false refl)
    (and_from (is_requested (phase_at t.context a)) (was_taken t.reactor a) here now) others
taken_more s t a same within before now others false asks =
    let here : is_requested (phase_at t.context a) ≡ false =
    ap (λ (acts : List ActState). is_requested (slice_index_or acts a fresh).phase) same ∙ asks in
    let none = pending_same s t (ap length same) (λ n. elim (cases_eq n a) [
      | inl is ↦
          ap (is_pending t) is
          ∙ (ap (λ b. b && was_taken t.reactor a) here ∙ sym (ap (is_pending s) is ∙ ap (λ b. b && was_taken s.reactor a) asks))
      | inr differ ↦ others n differ
    ]) in
    omega (arith, none)

-- a request that is taken is pending, if it is an asynchronous operation
pub account_take : (script : ScriptModel) (told : Bool) (s : State) (a : ℕ) → IsWellFormed script →
    IsAtRest script s.context → IsAccounted script s → is_untaken s a ≡ true →
    IsAccounted script (after_event script told s (event.Take a))
account_take script told s a well rest account waits =
    let t : State = after_event script told s (event.Take a) in
    let parts = and_parts (is_request (phase_at s.context a)) (not (was_taken s.reactor a)) waits in
    let is : phase_at s.context a ≡ accepted script a = account.asked a parts.0 in
    let kind = awaited script a (sym (ap is_request is) ∙ parts.0) in
    let taken : t.reactor.taken ≡ slice_set s.reactor.taken a true = take-taken script told s.reactor a well in
    let within : a < length s.context.acts =
    is_within s.context a (λ absent. let wrong : false ≡ true = sym (ap is_request absent) ∙ parts.0 in absurd (cc)) in
    let marked : was_taken t.reactor a ≡ true =
    ap (λ (taken : List Bool). slice_index_or taken a false) taken
    ∙ get_or-set_same s.reactor.taken a true false (omega (arith, within, rest.acts, account.marks)) in
    let others = λ (n : ℕ) (differ : n ≢ a).
    ap (λ b. is_requested (phase_at s.context n) && b)
    (ap (λ (taken : List Bool). slice_index_or taken n false) taken
    ∙ get_or-set_other s.reactor.taken a n true false differ) in
    let count =
    pending-take script told s.reactor a kind.0 kind.1 (act_fits script a well kind.0 kind.1) account.streams in
    let awaits : one_if (is_awaited kind.0) ≡ one_if (is_requested (phase_at s.context a)) =
    ap one_if (kind.2 ∙ ap is_requested (sym is)) in
    let more =
    taken_more s t a refl within (not-true (was_taken s.reactor a) parts.1) marked others
    (is_requested (phase_at s.context a)) refl in
    let before = account.pending in
    record {
      streams = take-size script told s.reactor a ∙ account.streams;
      marks = ap length taken ∙ (length-set s.reactor.taken a true ∙ account.marks);
      asked = account.asked;
      pending = omega (arith, count, awaits, more, before);
    }
