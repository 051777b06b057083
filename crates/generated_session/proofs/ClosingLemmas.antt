-- The closing of the only round of a session that a number makes: every act was called, and every operation has ended.
use Rattle.std.proofs.Common.{◌≡◌, ℕ, ◌+◌, ◌<◌, ◌≤◌, inl, inr, zero, suc, Bool, true, false, ◌&&◌, cond, List, [], ◌∷◌, length, map, Some, None, refl, ap, sym, ◌∙◌, arith}
use Rattle.std.specs.Prelude.{count_by}
use Rattle.std.specs.List.{range_with_len}
use Rattle.std.proofs.lemmas.Bool.{and_parts, cases_eq, cases_lt, eq-eqb}
use Rattle.std.proofs.lemmas.List.{get_or_past}
use Rattle.std.proofs.lemmas.List.Sums.{sum_by-cons}
use Rattle.asio_types.specs.Faults.{one_more}
use Rattle.asio_types.specs.declared.event.Event.TheVariants as event
use Rattle.session_script.specs.declared.act.Act.{Act}
use Rattle.session_script.specs.Script.{Entry, Place}
use Rattle.stream_rules.specs.declared.queue.Completion.{Completion}
use Rattle.history_rules.specs.Calls.{has_ended}
use Rattle.history_rules.specs.Legal.{after_event}
use Rattle.history_rules.specs.Order.{is_request, was_taken}
use Rattle.history_rules.specs.Rounds.{MayEndRound, is_act_outstanding, is_outstanding, is_unspent}
use Rattle.history_rules.specs.State.{State, fresh}
use Rattle.history_rules.specs.declared.phase.ActPhase.{ActPhase}
use Rattle.history_rules.specs.declared.phase.ActPhase.TheVariants as phase
use Rattle.history_rules.specs.declared.phase.ActState.{ActState}
use Rattle.history_rules.specs.declared.wait.Wait.{Wait}
use Rattle.generated_session.specs.Generator.{session_of}
use Rattle.generated_session.proofs.ClosedLemmas.{Closed}
use Rattle.generated_session.proofs.FitLemmas.{back_called, has_made, is_called, is_requested, operates, spent_ended}
use Rattle.generated_session.proofs.GatherLemmas.{gather, most, one_if, plus, total, total-ones, total-same}
use Rattle.generated_session.proofs.GoingLemmas.{Going}
use Rattle.generated_session.proofs.ItemsLemmas.{AreItems, dispatch, IsPosting, known, nth_act, nth_place, post, under}
use Rattle.generated_session.proofs.StatesLemmas.{at, called_count, ended_sum, outermost_opened}
use Rattle.generated_session.proofs.TurnsLemmas.{abort_count, cut_by, head_untaken, op_count, stays_by, to_come, Turns, until, wait_count}

none_of_range : (test : ℕ → Bool) (a n : ℕ) → count_by test (range_with_len a n) ≡ 0 → (m : ℕ) → a ≤ m → m < a + n →
    test m ≡ false
none_of_range test a zero none m least below = absurd (omega (arith, least, below))
none_of_range test a (suc n) none m least below =
    let first = sum_by-cons (λ k. one_if (test k)) a (range_with_len (a + 1) n) in
    elim (cases_eq m a) [
      | inl same ↦ ap test same ∙ none_here (test a) (omega (arith, none, first))
      | inr differ ↦
          none_of_range test (a + 1) n (omega (arith, none, first)) m (omega (arith, least, differ)) (omega (arith, below))
    ]
  where
    none_here : (b : Bool) → one_if b ≡ 0 → b ≡ false
    none_here true is = absurd (omega (arith, is))
    none_here false is = refl

spent_by : (q : ActPhase) (taken : Bool) → is_outstanding q taken ≡ false → is_unspent q ≡ false
spent_by phase.Absent taken is = is
spent_by phase.Inside taken is = is
spent_by phase.Requested taken is = is
spent_by (phase.Ready code size why) taken is = is
spent_by (phase.Running class progress) taken is = is
spent_by phase.Ended taken is = is
spent_by phase.Dropped taken is = is
spent_by phase.Asked taken is = refl

request_outstanding : (q : ActPhase) → is_request q ≡ true → is_outstanding q false ≡ true
request_outstanding phase.Requested is = refl
request_outstanding phase.Asked is = refl
request_outstanding q is = absurd (cc)

requested_unspent : (q : ActPhase) → is_requested q ≡ true → is_unspent q ≡ true
requested_unspent phase.Requested is = refl
requested_unspent q is = absurd (cc)

ended_made : (q : ActPhase) → has_ended q ≡ true → has_made q ≡ true
ended_made phase.Ended is = refl
ended_made q is = absurd (cc)

posting_operates : {a : Act} → IsPosting a → operates (Some a) ≡ true
posting_operates (post strand small) = refl
posting_operates (dispatch strand small) = refl

-- one is pending, so its operation is requested
asked_by : (b : Bool) (n : ℕ) → 1 ≤ n → n ≡ one_if b → b ≡ true
asked_by true n some is = refl
asked_by false n some is = absurd (omega (arith, some, is))

module _ (acts : List Entry) (items : AreItems 0 acts) (s : State) (was : Going acts s)
    (may : MayEndRound (session_of acts) s) where
  outstanding : (n : ℕ) → is_outstanding (at s.context.acts n).phase (was_taken s.reactor n) ≡ false
  outstanding n = elim (cases_lt n (length s.context.acts)) [
    | inl less ↦
        none_of_range (is_act_outstanding s) 0 (length s.context.acts) (let idle = may.idle in omega (arith, idle)) n
        (omega arith) (omega (arith, less))
    | inr past ↦
        ap (λ (act : ActState). is_outstanding act.phase (was_taken s.reactor n)) (get_or_past s.context.acts n fresh past)
  ]

  pub spent : (n : ℕ) → is_unspent (at s.context.acts n).phase ≡ false
  spent n = spent_by (at s.context.acts n).phase (was_taken s.reactor n) (outstanding n)

  called_outer : (n : ℕ) → n < length acts → nth_place acts n ≡ None → is_called (at s.context.acts n).call ≡ true
  called_outer n less parent =
      back_called (at s.context.acts n).call (was.fit.opened n (outermost_opened acts n less parent))

  ended_is : (n : ℕ) → (operates (nth_act acts n) ≡ true → is_called (at s.context.acts n).call ≡ true) →
      has_ended (at s.context.acts n).phase ≡ operates (nth_act acts n)
  ended_is n called =
      spent_ended (known acts items n) (is_called (at s.context.acts n).call) (at s.context.acts n).phase
      (was.fit.fit n) called (spent n)

  called_by : (n : ℕ) (place : Place) → n < length acts → nth_place acts n ≡ place →
      is_called (at s.context.acts n).call ≡ true
  called_by n None less parent = called_outer n less parent
  called_by n (Some place) less parent =
      let p : ℕ = place.0 in
      let inside = under acts items n p place.1 parent in
      let below : p < length acts = let next = inside.next in omega (arith, next, less) in
      let over : has_ended (at s.context.acts p).phase ≡ true =
      ended_is p (λ is. called_outer p below inside.outermost)
      ∙ (ap operates inside.maker_is ∙ posting_operates inside.posts) in
      was.fit.nested n p place.1 parent ∙ ended_made (at s.context.acts p).phase over

  called_all : (n : ℕ) → n < length acts → is_called (at s.context.acts n).call ≡ true
  called_all n less = called_by n (nth_place acts n) less refl

  pub all_called : called_count s.context.acts (length acts) ≡ length acts
  all_called =
      total-same (λ n. one_if (is_called (at s.context.acts n).call)) (λ n. 1) (length acts)
      (λ n less. ap one_if (called_all n less))
      ∙ total-ones (length acts)

  pub all_ended : (weight : ℕ → ℕ) → ended_sum weight s.context.acts (length acts) ≡ total
      (λ n. cond (operates (nth_act acts n)) (weight n) 0) (length acts)
  all_ended weight =
      total-same (λ n. cond (has_ended (at s.context.acts n).phase) (weight n) 0)
      (λ n. cond (operates (nth_act acts n)) (weight n) 0)
      (length acts)
      (λ n less. ap (λ b. cond b (weight n) 0) (ended_is n (λ is. called_all n less)))

  none_live : (n : ℕ) → 1 ≤ op_count n s.reactor.due + wait_count n s.reactor.waits → ⊥
  none_live n some =
      let both =
      asked_by (is_requested (at s.context.acts n).phase && was_taken s.reactor n)
      (op_count n s.reactor.due + wait_count n s.reactor.waits) some (was.turns.pending n) in
      let live =
      requested_unspent (at s.context.acts n).phase
      (and_parts (is_requested (at s.context.acts n).phase) (was_taken s.reactor n) both).0 in
      let wrong : false ≡ true = sym (spent n) ∙ live in cc

  no_due : (due : List Completion) → s.reactor.due ≡ due → due ≡ []
  no_due [] is = refl
  no_due (c ∷ rest) is =
      let here = ap (op_count c.op) is in
      let one = ap one_if (eq-eqb c.op c.op refl) in
      absurd (none_live c.op (omega (arith, here, one)))

  no_waits : (pending : List Wait) → s.reactor.waits ≡ pending → pending ≡ []
  no_waits [] is = refl
  no_waits (w ∷ rest) is =
      let here = ap (wait_count w.op) is in
      let one = ap one_if (eq-eqb w.op w.op refl) in
      absurd (none_live w.op (omega (arith, here, one)))

  no_requests : (from : ℕ) (left : List ℕ) → Turns acts s.context.acts s.reactor from left → left ≡ []
  no_requests from [] turns = refl
  no_requests from (h ∷ rest) turns =
      let not_taken = head_untaken acts s.context.acts s.reactor from h rest turns in
      let asks = turns.waiting h turns.listed.2 turns.listed.0 in
      let over = ap (is_outstanding (at s.context.acts h).phase) (sym not_taken) ∙ outstanding h in
      absurd (let wrong : false ≡ true = sym over ∙ request_outstanding (at s.context.acts h).phase asks in cc)

  due_none : s.reactor.due ≡ []
  due_none = no_due s.reactor.due refl

  waits_none : s.reactor.waits ≡ []
  waits_none = no_waits s.reactor.waits refl

  pub nothing_to_come : to_come s.reactor (map (nth_act acts) was.left) ≡ 0
  nothing_to_come =
      let left =
      ap (λ (l : List ℕ). to_come s.reactor (map (nth_act acts) l)) (no_requests was.from was.left was.turns) in
      let due = ap abort_count due_none in
      let none = ap (gather plus (cut_by [])) waits_none in
      omega (arith, left, due, none)

  pub until_now : until s.reactor (map (nth_act acts) was.left) ≡ s.reactor.now
  until_now =
      let left =
      ap (λ (l : List ℕ). until s.reactor (map (nth_act acts) l)) (no_requests was.from was.left was.turns) in
      let none = ap (gather most (stays_by s.reactor [])) waits_none in
      omega (arith, left, none)

  pub is_closed : (told : Bool) → Closed acts (after_event (session_of acts) told s event.Ended)
  is_closed told = record {
    made = was.made;
    closings = ap one_more was.closings;
    spent = spent;
    due = due_none;
    working = was.turns.working;
  }
