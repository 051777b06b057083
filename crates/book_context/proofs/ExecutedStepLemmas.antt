-- What is recorded of an execution.
use Rattle.std.proofs.Common.{◌≡◌, ◌≢◌, ℕ, ◌+◌, ◌-◌, ◌<◌, ◌≤◌, Bool, true, false, ◌&&◌, ◌||◌, cond, List, ◌∷◌, ◌++◌, Some, inl, inr, length, refl, sym, ap, subst, ◌∙◌, arith, []}
use Rattle.std.specs.Prelude.{◌==◌}
use Rattle.std.specs.List.{slice_index_or, slice_set}
use Rattle.std.proofs.Math.ListN.{length-set}
use Rattle.std.proofs.lemmas.Bool.{cases_Bool, cases_eq, cases_lt, eq-eqb, eqb-true, false_from_ne_true, ne_eqb}
use Rattle.std.proofs.lemmas.List.{get_or-set_other, get_or-set_same, get_or_past, length-append}
use Rattle.asio_types.specs.Code.{class_of_code}
use Rattle.asio_types.specs.declared.code.Code.{Code}
use Rattle.asio_types.specs.declared.code.Code.TheVariants as code
use Rattle.op_handlers.specs.declared.call.Call.{Call}
use Rattle.session_script.specs.Script.{ScriptModel, is_op, parent_of}
use Rattle.session_script.specs.Lanes.{is_inline}
use Rattle.strand_core.specs.Execution.{AnyMark, AreCalls, IsWholeExecution, no_act, outside, inside, events_of, execution_of}
use Rattle.strand_core.specs.Hands.{begins_among}
use Rattle.strand_core.specs.declared.posted.Posted.{Posted}
use Rattle.strand_core.specs.declared.posted.Posted.TheVariants as posted
use Rattle.history_rules.specs.Executions.{MayBeginOutside}
use Rattle.history_rules.specs.Legal.{state_from}
use Rattle.history_rules.specs.Order.{is_untaken, was_taken}
use Rattle.history_rules.specs.Rounds.{is_unspent}
use Rattle.history_rules.specs.State.{ContextState, State, call_at, fresh, phase_at}
use Rattle.history_rules.specs.declared.phase.ActPhase.{ActPhase}
use Rattle.history_rules.specs.declared.phase.ActPhase.TheVariants as phase
use Rattle.history_rules.specs.declared.phase.ActState.{ActState}
use Rattle.history_rules.specs.declared.phase.CallPhase.TheVariants as call
use Rattle.execution_laws.specs.Accounted.{IsAccounted}
use Rattle.execution_laws.specs.Called.{are_stopping, is_called, settled_phase}
use Rattle.execution_laws.specs.Executed.{IsLegalExecution}
use Rattle.execution_laws.specs.Kinds.{AreOfKind, is_accepted, is_spent, was_called}
use Rattle.execution_laws.specs.Order.{IsKept, has_begun, postings_of, requests_of}
use Rattle.execution_laws.specs.Ready.{is_ready}
use Rattle.execution_laws.proofs.AccountedLemmas.{account_execution, same_pending, did as legally}
use Rattle.execution_laws.proofs.CalledLemmas.{called-append, called-execution}
use Rattle.execution_laws.proofs.CountingLemmas.{counted-most}
use Rattle.execution_laws.proofs.ExecutedLemmas.{is_order_kept}
use Rattle.execution_laws.proofs.FreeLemmas.{free_executed, free_may_start}
use Rattle.execution_laws.proofs.KeptLemmas.{before_uncalled}
use Rattle.execution_laws.proofs.RestLemmas.{is_within}
use Rattle.execution_laws.proofs.WorkLemmas.{ready_count, request_count}
use Rattle.reactor_turns.specs.Ahead.{one_unless}
use Rattle.book_context.specs.Left.{act_left, act_left_at, events_left, phase_left, rounds_left}
use Rattle.book_context.specs.Recorded.{IsRecorded, Knows, recorded_state}
use Rattle.book_context.specs.Recording.{Recording, marked}
use Rattle.book_context.specs.Steps.{ExecutionIsRecorded, IsRoundOpen, MayExecute, executed_recording}
use Rattle.book_context.proofs.BoundLemmas.{bounded_body, execution_events, shown_by}
use Rattle.book_context.proofs.KindLemmas.{settled_accepted, settled_inline, settled_left, settled_other, settled_spent}
use Rattle.book_context.proofs.LeftLemmas.{acts-fall, left-falls, left_made, rounds_left_at}
use Rattle.book_context.proofs.NextLemmas.{may_begin}
use Rattle.book_context.proofs.PartLemmas.{history_goes_on, state_goes_on}
use Rattle.book_context.proofs.RecordedLemmas.{round_open}
use Rattle.reactor_turns.proofs.SummingLemmas.{one_if, only, summed, summed-both, summed-only, weigh, weigh-same}

begins-append : (n : ℕ) (xs ys : List Posted) → begins_among n (xs ++ ys) ≡ (begins_among n xs || begins_among n ys)
begins-append n [] ys = refl
begins-append n (posted.Begin op code size begun ∷ xs) ys = by_test (op == n) (begins-append n xs ys)
  where
    by_test : (b : Bool) → begins_among n (xs ++ ys) ≡ (begins_among n xs || begins_among n ys) →
        cond b true (begins_among n (xs ++ ys)) ≡ (cond b true (begins_among n xs) || begins_among n ys)
    by_test true rest = refl
    by_test false rest = rest
begins-append n (posted.Call act ∷ xs) ys = begins-append n xs ys
begins-append n (posted.Back act ∷ xs) ys = begins-append n xs ys
begins-append n (posted.End op ran ∷ xs) ys = begins-append n xs ys

or_none : (b : Bool) → (b || false) ≡ b
or_none true = refl
or_none false = refl

pub begins-execution : (n op : ℕ) (code : Code) (size begun mark : ℕ) (body : List Posted) →
    begins_among n (execution_of op code size begun mark body) ≡ cond (op == n) true (begins_among n body)
begins-execution n op code size begun mark body =
    ap (λ b. cond (op == n) true b) (begins-append n body _ ∙ or_none (begins_among n body))

outside_by : (here called inline began : Bool) → (here ≡ true → inline ≡ false) → began ≡ (called && inline) →
    began ≡ (cond here true called && inline)
outside_by true called true began never is = absurd (let wrong : true ≡ false = never refl in cc)
outside_by true true false began never is = is
outside_by true false false began never is = is
outside_by false called inline began never is = is

inside_by : (here inner outer inline first second : Bool) → (here ≡ true → inline ≡ true) → first ≡ (inner && inline) →
    second ≡ (outer && inline) → (cond here true first || second) ≡ (cond here true (inner || outer) && inline)
inside_by true inner outer inline first second is one two = sym (is refl)
inside_by false true true true first second is one two = ap (λ b. b || second) one
inside_by false true false true first second is one two = ap (λ b. b || second) one
inside_by false false outer true first second is one two = ap (λ b. b || second) one ∙ two
inside_by false true true false first second is one two = ap (λ b. b || second) one ∙ two
inside_by false true false false first second is one two = ap (λ b. b || second) one ∙ two
inside_by false false true false first second is one two = ap (λ b. b || second) one ∙ two
inside_by false false false false first second is one two = ap (λ b. b || second) one ∙ two

-- what begins among calls is what is called and executes inside its call
pub begins-calls : (script : ScriptModel) {HasMark : Call → ℕ → Type 0} {acts : List ℕ} {calls : List Posted} (n : ℕ) →
    AreCalls script HasMark acts calls → begins_among n calls ≡ (is_called n calls && is_inline script n)
begins-calls script n no_act = refl
begins-calls script n (outside {act} {acts} {calls} isnt more) =
    outside_by (act == n) (is_called n calls) (is_inline script n) (begins_among n calls)
    (λ same. ap (is_inline script) (sym (eqb-true act n same)) ∙ isnt) (begins-calls script n more)
begins-calls script n (inside {act} {begun} {mark} {acts} {body} {calls} is marked inner more) =
    let execution : List Posted = execution_of act code.Ok 0 begun mark body in
    let began =
    begins-append n execution (posted.Back act ∷ calls)
    ∙ ap (λ b. b || begins_among n calls) (begins-execution n act code.Ok 0 begun mark body) in
    let called : is_called n (execution ++ posted.Back act ∷ calls) ≡ (is_called n body || is_called n calls) =
    called-append n execution (posted.Back act ∷ calls)
    ∙ ap (λ b. b || is_called n calls) (called-execution n act code.Ok 0 begun mark body) in
    began
    ∙ (inside_by (act == n) (is_called n body) (is_called n calls) (is_inline script n) (begins_among n body) (begins_among n calls)
    (λ same. ap (is_inline script) (sym (eqb-true act n same)) ∙ is) (begins-calls script n inner)
    (begins-calls script n more) ∙ ap (λ b. cond (act == n) true b && is_inline script n) (sym called))

-- of which acts the calls were made
pub marked-length : (calls : List Posted) (called : List Bool) → length (marked calls called) ≡ length called
marked-length [] called = refl
marked-length (posted.Begin op code size begun ∷ calls) called = marked-length calls called
marked-length (posted.Call act ∷ calls) called =
    marked-length calls (slice_set called act true) ∙ length-set called act true
marked-length (posted.Back act ∷ calls) called = marked-length calls called
marked-length (posted.End op ran ∷ calls) called = marked-length calls called

or_true : (b : Bool) → (b || true) ≡ true
or_true true = refl
or_true false = refl

marked-at : (calls : List Posted) (called : List Bool) (n : ℕ) → n < length called →
    slice_index_or (marked calls called) n false ≡ (is_called n calls || slice_index_or called n false)
marked-at [] called n within = refl
marked-at (posted.Begin op code size begun ∷ calls) called n within = marked-at calls called n within
marked-at (posted.Call act ∷ calls) called n within =
    let rest =
    marked-at calls (slice_set called act true) n (let size = length-set called act true in omega (arith, within, size)) in
    elim (cases_eq act n) [
      | inl same ↦
          let here : slice_index_or (slice_set called act true) n false ≡ true =
          ap (λ act. slice_index_or (slice_set called act true) n false) same
          ∙ get_or-set_same called n true false within in
          rest
          ∙ (ap (λ b. is_called n calls || b) here
          ∙ (or_true (is_called n calls)
          ∙ sym (ap (λ b. cond b true (is_called n calls) || slice_index_or called n false)
          (eq-eqb act n same))))
      | inr differ ↦
          let there : slice_index_or (slice_set called act true) n false ≡ slice_index_or called n false =
          get_or-set_other called act n true false (λ same. differ (sym same)) in
          rest
          ∙ (ap (λ b. is_called n calls || b) there
          ∙ sym (ap (λ b. cond b true (is_called n calls) || slice_index_or called n false) (ne_eqb act n differ)))
    ]
marked-at (posted.Back act ∷ calls) called n within = marked-at calls called n within
marked-at (posted.End op ran ∷ calls) called n within = marked-at calls called n within

-- what was called is known after the calls
pub marked-calls : (calls : List Posted) (called : List Bool) (s t : ContextState) → length called ≡ length t.acts →
    ((n : ℕ) → slice_index_or called n false ≡ was_called (call_at s n)) →
    ((n : ℕ) → is_called n calls ≡ true → was_called (call_at t n) ≡ true) →
    ((n : ℕ) → is_called n calls ≡ false → call_at t n ≡ call_at s n) → (n : ℕ) →
    slice_index_or (marked calls called) n false ≡ was_called (call_at t n)
marked-calls calls called s t size were now still n = elim (cases_lt n (length called)) [
  | inl within ↦ marked-at calls called n within ∙ elim (cases_Bool (is_called n calls)) [
    | inl is ↦ ap (λ b. b || slice_index_or called n false) is ∙ sym (now n is)
    | inr isnt ↦ ap (λ b. b || slice_index_or called n false) isnt ∙ (were n ∙ ap was_called (sym (still n isnt)))
  ]
  | inr beyond ↦
      let long = marked-length calls called in
      get_or_past (marked calls called) n false (omega (arith, beyond, long))
      ∙ sym (ap (λ (act : ActState). was_called act.call) (get_or_past t.acts n fresh (omega (arith, beyond, size))))
]

stops_less : (stopped stopping : Bool) → one_unless (stopped || stopping) ≤ one_unless stopped
stops_less true stopping = omega arith
stops_less false true = omega arith
stops_less false false = omega arith

module _ (told : Bool) (r : Recording) (op : ℕ) (given : Code) (size : ℕ) (newer : List (ℕ × Code × ℕ))
    (knows : IsRecorded told r) (is_oldest : r.ready ≡ (op, given, size) ∷ newer) (going : r.stopped ≡ false)
    (round : IsRoundOpen r) where
  abbrev s : State
  s = recorded_state told r

  oldest : IsKept r.script s ((op, given, size) ∷ newer) r.requests
  oldest = subst (λ ready. IsKept r.script s ready r.requests) is_oldest knows.kept

  may : MayBeginOutside r.script s.context op given size
  may =
      may_begin r.script s op given size newer r.requests oldest (round_open told r knows round)
      (free_may_start r.script s.context op knows.script knows.free (knows.stopped ∙ going))

  still_unspent : is_unspent (phase_at s.context op) ≡ true
  still_unspent = ap is_unspent may.ready.1

  own : is_inline r.script op ≡ false
  own =
      false_from_ne_true (is_inline r.script op)
      (λ is. absurd (let wrong : false ≡ true = sym (knows.kinds.inline op is) ∙ still_unspent in cc))

  handled : is_op r.script op ≡ true
  handled = elim (cases_Bool (is_op r.script op)) [
    | inl is ↦ is
    | inr isnt ↦ absurd (let wrong : false ≡ true = sym (knows.kinds.others op isnt) ∙ still_unspent in cc)
  ]

  module _ (calls : List Posted) (whole : IsWholeExecution r.script AnyMark op given size calls) where
    abbrev did : IsLegalExecution r.script told s op calls
    did = legally r.script told s op given size calls knows.script knows.kept.rest knows.kept.orderly own may whole

    abbrev t : State
    t = record { context = did.after; reactor = s.reactor }

    in_body : (n : ℕ) → is_called n calls ≡ is_called n whole.body
    in_body n = ap (is_called n) whole.is ∙ called-execution n op given size whole.begun whole.mark whole.body

    unmade : (n : ℕ) → parent_of r.script n ≡ Some (op, class_of_code given) → call_at s.context n ≡ call.Uncalled
    unmade n under = knows.kept.orderly.branches n op (class_of_code given) under (ap has_begun may.ready.1)

    uncalled : (n : ℕ) → is_called n calls ≡ true → call_at s.context n ≡ call.Uncalled
    uncalled n is =
        before_uncalled r.script knows.script AnyMark (Some (op, class_of_code given)) whole.body whole.acts s
        knows.kept.orderly unmade n (sym (in_body n) ∙ is)

    made : call_at s.context op ≢ call.Uncalled
    made isnt =
        absurd (let wrong : phase.Absent ≡ phase.Ready given size may.ready.0 =
        sym (knows.kept.orderly.uncalled op isnt) ∙ may.ready.1 in
        cc)

    differs : (n : ℕ) → is_called n calls ≡ true → n ≢ op
    differs n is same = absurd (made (ap (call_at s.context) (sym same) ∙ uncalled n is))

    -- what each act shows
    abbrev shows : ℕ → ℕ
    shows n = cond (is_called n calls) (shown_by r.script n) 0 + only op 2 n

    none_else : (n : ℕ) → n ≢ op → only op 2 n ≡ 0
    none_else n differ = ap (λ b. cond b 2 0) (ne_eqb op n (λ same. differ (sym same)))

    called_left : (n : ℕ) → is_called n calls ≡ true → act_left_at t n + shows n ≤ act_left_at s n
    called_left n is =
        let untaken : was_taken s.reactor n ≡ false = knows.kept.orderly.untaken n (uncalled n is) in
        let now : act_left_at t n ≡ phase_left (settled_phase r.script n) false =
        ap (λ (act : ActState). act_left act.call act.phase (was_taken s.reactor n)) (did.executed.called n is).is
        ∙ ap (phase_left (settled_phase r.script n)) untaken in
        let before : act_left_at s n ≡ 7 =
        ap (λ c. act_left c (phase_at s.context n) (was_taken s.reactor n)) (uncalled n is) in
        let most = settled_left r.script n in
        let shown : cond (is_called n calls) (shown_by r.script n) 0 ≡ shown_by r.script n =
        ap (λ b. cond b (shown_by r.script n) 0) is in
        let none = none_else n (differs n is) in
        omega (arith, now, before, most, shown, none)

    ended_left : act_left_at t op + (0 + 2) ≤ act_left_at s op
    ended_left =
        let now : act_left_at t op ≡ 0 =
        ap (λ (act : ActState). act_left act.call act.phase (was_taken s.reactor op)) did.executed.ended
        ∙ left_made (call_at s.context op) phase.Ended (was_taken s.reactor op) made in
        let before : act_left_at s op ≡ 2 =
        left_made (call_at s.context op) (phase_at s.context op) (was_taken s.reactor op) made
        ∙ ap (λ p. phase_left p (was_taken s.reactor op)) may.ready.1 in
        omega (arith, now, before)

    other_left : (n : ℕ) → is_called n calls ≡ false → act_left_at t n + shows n ≤ act_left_at s n
    other_left n isnt =
        let shown : cond (is_called n calls) (shown_by r.script n) 0 ≡ 0 =
        ap (λ b. cond b (shown_by r.script n) 0) isnt in
        elim (cases_eq n op) [
          | inl same ↦
              let here : only op 2 n ≡ 2 = ap (λ b. cond b 2 0) (eq-eqb op n (sym same)) in
              let now = ap (act_left_at t) same in
              let before = ap (act_left_at s) same in
              let less = ended_left in
              omega (arith, shown, here, now, before, less)
          | inr differ ↦
              let none = none_else n differ in
              let now : act_left_at t n ≡ act_left_at s n =
              ap (λ (act : ActState). act_left act.call act.phase (was_taken s.reactor n)) (did.executed.others n isnt differ) in
              omega (arith, shown, none, now)
        ]

    each_left : (n : ℕ) → act_left_at t n + shows n ≤ act_left_at s n
    each_left n = elim (cases_Bool (is_called n calls)) [ inl is ↦ called_left n is | inr isnt ↦ other_left n isnt ]

    same_size : length t.context.acts ≡ length s.context.acts
    same_size = did.executed.rest.acts ∙ sym knows.kept.rest.acts

    count_shown : length (events_of r.script calls) ≤ summed shows (length s.context.acts)
    count_shown =
        let all : ℕ = length s.context.acts in
        let both = summed-both (λ n. cond (is_called n calls) (shown_by r.script n) 0) (only op 2) all in
        let within : op < all =
        is_within s.context op
        (λ absent.
        absurd (let wrong : phase.Absent ≡ phase.Ready given size may.ready.0 = sym absent ∙ may.ready.1 in cc)) in
        let two = summed-only op 2 all within in
        let body = bounded_body r.script knows.script AnyMark (Some (op, class_of_code given)) whole.acts in
        let same = weigh-same (shown_by r.script) (λ n. is_called n calls) (λ n. is_called n whole.body) all in_body in
        let size_is = ap (weigh (shown_by r.script) (λ n. is_called n whole.body)) knows.kept.rest.acts in
        let run = execution_events r.script op given size whole.begun whole.mark whole.body in
        let events = ap (λ calls. length (events_of r.script calls)) whole.is in
        omega (arith, both, two, body, same, size_is, run, events)

    left_executed : events_left r.script t + length (events_of r.script calls) ≤ events_left r.script s
    left_executed =
        let acts = acts-fall s t shows same_size each_left in
        let shown = count_shown in
        let stop : one_unless t.context.stopped ≤ one_unless s.context.stopped =
        by_stop s.context.stopped t.context.stopped did.executed.stopped in
        let rounds : rounds_left_at r.script t ≡ rounds_left_at r.script s =
        ap (λ closings. rounds_left (length r.script.rounds - closings) did.after.restarted) did.executed.closings
        ∙ ap (rounds_left (length r.script.rounds - s.context.closings)) did.executed.restarted in
        left-falls r.script s t (length (events_of r.script calls)) (omega (arith, acts, shown, stop, rounds))
      where
        by_stop : (before after : Bool) → after ≡ (before || are_stopping r.script calls) →
            one_unless after ≤ one_unless before
        by_stop before after is =
            let same = ap one_unless is in
            let less = stops_less before (are_stopping r.script calls) in omega (arith, same, less)

    events_fit : length (events_of r.script calls) ≤ r.spare
    events_fit = let less = left_executed in let had = knows.room in omega (arith, less, had)

    order_now : IsKept r.script t (newer ++ postings_of r.script calls) (r.requests ++ requests_of r.script calls)
    order_now =
        subst (λ u. IsKept r.script u (newer ++ postings_of r.script calls) (r.requests ++ requests_of r.script calls)) did.is
        (is_order_kept r.script told s op given size calls newer r.requests knows.script oldest own may whole
        (let fits = events_fit in let few = knows.within in omega (arith, fits, few)))

    pub postings_fit : length newer + length (postings_of r.script calls) ≤ length r.script.acts
    postings_fit =
        let count =
        ready_count r.script t (newer ++ postings_of r.script calls) (r.requests ++ requests_of r.script calls) order_now in
        let most = counted-most (λ n. is_ready (phase_at t.context n)) (length t.context.acts) in
        let both = length-append newer (postings_of r.script calls) in
        let acts = did.executed.rest.acts in
        omega (arith, count, most, both, acts)

    pub requests_fit : length r.requests + length (requests_of r.script calls) ≤ length r.script.acts
    requests_fit =
        let count =
        request_count r.script t (newer ++ postings_of r.script calls) (r.requests ++ requests_of r.script calls) order_now in
        let most = counted-most (is_untaken t) (length t.context.acts) in
        let both = length-append r.requests (requests_of r.script calls) in
        let acts = did.executed.rest.acts in
        omega (arith, count, most, both, acts)

    called_phase : (n : ℕ) → is_called n calls ≡ true → phase_at t.context n ≡ settled_phase r.script n
    called_phase n is = ap (λ (act : ActState). act.phase) (did.executed.called n is).is

    ended_phase : (n : ℕ) → n ≡ op → phase_at t.context n ≡ phase.Ended
    ended_phase n same = ap (phase_at t.context) same ∙ ap (λ (act : ActState). act.phase) did.executed.ended

    same_phase : (n : ℕ) → is_called n calls ≡ false → n ≢ op → phase_at t.context n ≡ phase_at s.context n
    same_phase n isnt differ = ap (λ (act : ActState). act.phase) (did.executed.others n isnt differ)

    same_call : (n : ℕ) → is_called n calls ≡ false → call_at t.context n ≡ call_at s.context n
    same_call n isnt = elim (cases_eq n op) [
      | inl same ↦
          ap (call_at t.context) same
          ∙ (ap (λ (act : ActState). act.call) did.executed.ended ∙ ap (call_at s.context) (sym same))
      | inr differ ↦ ap (λ (act : ActState). act.call) (did.executed.others n isnt differ)
    ]

    -- what holds of acts that were called, of the operation, and of the others
    by_act : (P : ActPhase → Type 0) (n : ℕ) → (is_called n calls ≡ true → P (settled_phase r.script n)) →
        P phase.Ended → (is_called n calls ≡ false → P (phase_at s.context n)) → P (phase_at t.context n)
    by_act P n called ended others = elim (cases_Bool (is_called n calls)) [
      | inl is ↦ subst P (sym (called_phase n is)) (called is)
      | inr isnt ↦ elim (cases_eq n op) [
        | inl same ↦ subst P (sym (ended_phase n same)) ended
        | inr differ ↦ subst P (sym (same_phase n isnt differ)) (others isnt)
      ]
    ]

    kinds_now : AreOfKind r.script t.context
    kinds_now = record {
      operations = λ n is was.
          by_act (λ p. is_accepted p ≡ true) n (λ called. settled_accepted r.script n is) refl
          (λ isnt. knows.kinds.operations n is (sym (ap was_called (same_call n isnt)) ∙ was));
      others = λ n isnt.
          by_act (λ p. is_unspent p ≡ false) n (λ called. settled_other r.script n isnt) refl (λ same. knows.kinds.others n isnt);
      inline = λ n is.
          by_act (λ p. is_unspent p ≡ false) n (λ called. ap is_unspent (settled_inline r.script n is)) refl
          (λ same. knows.kinds.inline n is);
    }

    began : (n : ℕ) → begins_among n calls ≡ cond (op == n) true (is_called n calls && is_inline r.script n)
    began n = ap (begins_among n) whole.is
        ∙ (begins-execution n op given size whole.begun whole.mark whole.body
        ∙ ap (λ b. cond (op == n) true b) (begins-calls r.script n whole.acts ∙ ap (λ b. b && is_inline r.script n) (sym (in_body n))))

    spent_now : (n : ℕ) → is_spent (phase_at t.context n) ≡ (is_spent (phase_at s.context n) || begins_among n calls)
    spent_now n = elim (cases_Bool (is_called n calls)) [
      | inl is ↦
          let absent : is_spent (phase_at s.context n) ≡ false =
          ap is_spent (knows.kept.orderly.uncalled n (uncalled n is)) in
          let begin : begins_among n calls ≡ is_inline r.script n =
          began n
          ∙ (ap (λ b. cond b true (is_called n calls && is_inline r.script n))
          (ne_eqb op n (λ same. differs n is (sym same))) ∙ ap (λ b. b && is_inline r.script n) is) in
          ap is_spent (called_phase n is)
          ∙ (settled_spent r.script n ∙ (sym begin ∙ ap (λ b. b || begins_among n calls) (sym absent)))
      | inr isnt ↦ elim (cases_eq n op) [
        | inl same ↦
            let begin : begins_among n calls ≡ true =
            began n ∙ ap (λ b. cond b true (is_called n calls && is_inline r.script n)) (eq-eqb op n (sym same)) in
            ap is_spent (ended_phase n same)
            ∙ (sym (or_true (is_spent (phase_at s.context n))) ∙ ap (λ b. is_spent (phase_at s.context n) || b) (sym begin))
        | inr differ ↦
            let begin : begins_among n calls ≡ false =
            began n
            ∙ (ap (λ b. cond b true (is_called n calls && is_inline r.script n))
            (ne_eqb op n (λ same. differ (sym same))) ∙ ap (λ b. b && is_inline r.script n) isnt) in
            ap is_spent (same_phase n isnt differ)
            ∙ (sym (or_none (is_spent (phase_at s.context n))) ∙ ap (λ b. is_spent (phase_at s.context n) || b) (sym begin))
      ]
    ]

    abbrev next : Recording
    next = executed_recording r newer calls

    legal_state : recorded_state told next ≡ state_from r.script told s (events_of r.script calls)
    legal_state = state_goes_on r.script told r.events (events_of r.script calls)

    known : Knows told next t
    known = record {
      script = knows.script;
      legal = history_goes_on r.script told r.events (events_of r.script calls) knows.legal did.legal;
      kept = order_now;
      accounted = λ works.
          subst (IsAccounted r.script) did.is
          (account_execution r.script told s op given size calls knows.script knows.kept.rest knows.kept.orderly
          (knows.accounted works) own may whole);
      standing = λ works n. knows.standing works n
          ∙ ap one_if
          (sym (same_pending r.script told s op given size calls knows.script knows.kept.rest knows.kept.orderly own
          may whole n));
      ahead = knows.ahead;
      kinds = kinds_now;
      free = free_executed r.script op calls s.context did.after knows.free did.executed;
      opened = did.executed.opening ∙ knows.opened;
      called =
          marked-calls calls r.called s.context did.after (knows.called_size ∙ sym did.executed.rest.acts) knows.called
          (λ n is. ap (λ (act : ActState). was_called act.call) (did.executed.called n is).is) same_call;
      called_size = marked-length calls r.called ∙ knows.called_size;
      stopped = did.executed.stopped ∙ ap (λ b. b || are_stopping r.script calls) knows.stopped;
      restarted = did.executed.restarted ∙ knows.restarted;
      closings = did.executed.closings ∙ knows.closings;
      alive = did.executed.dropping ∙ knows.alive;
      room = let less = left_executed in let had = knows.room in omega (arith, less, had);
      within =
          let fits = events_fit in
          let few = knows.within in
          let counted = did.executed.events (omega (arith, fits, few)) in
          omega (arith, counted, fits, few);
    }

    pub has_executed : ExecutionIsRecorded told r newer calls
    has_executed = record {
      recorded = subst (Knows told next) (sym (legal_state ∙ did.is)) known;
      state = legal_state;
      reactor = ap (λ (s : State). s.reactor) (legal_state ∙ did.is);
      spent = λ n. ap (λ (s : State). is_spent (phase_at s.context n)) (legal_state ∙ did.is) ∙ spent_now n;
    }

  pub may_execute : MayExecute told r op given size newer
  may_execute = record {
    may = may;
    outside = own;
    operation = handled;
    unspent = ap is_spent may.ready.1;
    events = events_fit;
    postings = postings_fit;
    requests = requests_fit;
  }
