-- What the reactor of a session that a number makes tells: the completions that are due.
use Rattle.std.proofs.Common.{◌≡◌, ◌≢◌, ℕ, ◌+◌, ◌<◌, nat_lt, inl, inr, Bool, true, false, ◌&&◌, cond, List, [], ◌∷◌, Option, Some, None, refl, ap, sym, ◌∙◌, subst, arith}
use Rattle.std.specs.List.{slice_get}
use Rattle.std.proofs.lemmas.Bool.{and_parts, cases_eq, eq-eqb, ltb-true, ne_eqb}
use Rattle.asio_types.specs.declared.code.Code.{Code}
use Rattle.asio_types.specs.declared.code.Code.TheVariants as code
use Rattle.asio_types.specs.declared.event.Event.TheVariants as event
use Rattle.session_script.specs.declared.act.Act.{Act}
use Rattle.session_script.specs.Script.{Entry, ScriptModel, act_of}
use Rattle.stream_rules.specs.declared.queue.Completion.{Completion}
use Rattle.history_rules.specs.Order.{is_request, was_taken}
use Rattle.history_rules.specs.Requests.{MayTell, disconnected, reactor_after_done, slot_in, told_off}
use Rattle.history_rules.specs.State.{ReactorHalf}
use Rattle.history_rules.specs.Untold.{IsToldAs, MayGiveUntold}
use Rattle.history_rules.specs.declared.phase.ActState.{ActState}
use Rattle.generated_session.specs.Summary.{is_abort}
use Rattle.generated_session.proofs.FitLemmas.{is_requested}
use Rattle.generated_session.proofs.GatherLemmas.{one_if}
use Rattle.generated_session.proofs.ItemsLemmas.{IsKnown, absent, dispatches, expires, posts, waits}
use Rattle.generated_session.proofs.StatesLemmas.{Changes, at}
use Rattle.generated_session.proofs.TurnsLemmas.{Turns, abort_count, is_aborted_code, is_asking, op_count, to_come, wait_count}

first_of : {X : Type 0} (xs : List X) (x : X) → slice_get xs 0 ≡ Some x → (rest : List X) × (xs ≡ x ∷ rest)
first_of [] x first = absurd (cc first)
first_of (y ∷ xs) x first = (xs, let same : y ≡ x = cc in ap (λ z. z ∷ xs) same)

never_given : {o : Option Act} → IsKnown o → (r : ReactorHalf) (n : ℕ) (given : Code) (size : ℕ) →
    MayGiveUntold r n o given size → ⊥
never_given absent r n given size may = may
never_given (posts s) r n given size may = may
never_given (dispatches s) r n given size may = may
never_given (expires timer after small) r n given size may = may
never_given (waits timer small) r n given size may = may

no_slot : {o : Option Act} → IsKnown o → slot_in o ≡ None
no_slot absent = refl
no_slot (posts s) = refl
no_slot (dispatches s) = refl
no_slot (expires timer after small) = refl
no_slot (waits timer small) = refl

-- the head of what is due, which is told
pub record IsDue (r : ReactorHalf) (o : ℕ) (given : Code) : Type 0 where
  pub head : Completion
  pub rest : List Completion
  pub due : r.due ≡ head ∷ rest
  pub is_op : head.op ≡ o
  pub code : head.outcome.0 ≡ given

told_code : (told : Bool) (act : Option Act) (head : Completion) (given : Code) (size : ℕ) →
    IsToldAs told act head.outcome given size → head.outcome.0 ≡ given
told_code true act head given size told = ap (λ pair. pair.0) told
told_code false act head given size told = told.0

pub what_is_due : (script : ScriptModel) (told : Bool) (r : ReactorHalf) (o : ℕ) (given : Code) (size : ℕ) →
    IsKnown (act_of script o) → MayTell script told r o given size → IsDue r o given
what_is_due script told r o given size known (inl next) =
    let first = first_of r.due next.head next.due in
    record {
      head = next.head;
      rest = first.0;
      due = first.1;
      is_op = next.is_op;
      code = told_code told (act_of script o) next.head given size next.outcome;
    }
what_is_due script told r o given size known (inr untold) = absurd (never_given known r o given size untold.given)

-- the completion was told
abbrev pub told_on : List Completion → ReactorHalf → ReactorHalf
told_on rest r = record r { due = rest; whole_turn = false }

pub done_is : (script : ScriptModel) (r : ReactorHalf) (o : ℕ) (head : Completion) (rest : List Completion) →
    IsKnown (act_of script o) → r.due ≡ head ∷ rest → reactor_after_done script r o ≡ told_on rest r
done_is script r o head rest known due =
    ap (λ slot. disconnected o slot (record (told_off script o r r.due) { whole_turn = false })) (no_slot known)
    ∙ ap (λ (list : List Completion).
    let next : ReactorHalf = record (told_off script o r list) { whole_turn = false } in next) due

abort_is : (given : Code) (o size : ℕ) → is_abort (event.Done o given size) ≡ is_aborted_code given
abort_is code.Aborted o size = refl
abort_is given o size = refl

pub told_to_come : (r : ReactorHalf) (o : ℕ) (given : Code) (size : ℕ) (due : IsDue r o given)
    (later : List (Option Act)) →
    to_come r later ≡ cond (is_abort (event.Done o given size)) 1 0 + to_come (told_on due.rest r) later
told_to_come r o given size due later =
    let one = ap abort_count due.due in
    let two = ap (λ c. one_if (is_aborted_code c)) due.code in
    let three = ap one_if (abort_is given o size) in
    omega (arith, one, two, three)

requested_by : (b : Bool) (n : ℕ) → 1 + n ≡ cond b 1 0 → (b ≡ true) × (n ≡ 0)
requested_by true n is = (refl, omega (arith, is))
requested_by false n is = absurd (omega (arith, is))

module _ (acts : List Entry) (old : List ActState) (r : ReactorHalf) (from o : ℕ) (left : List ℕ) (given : Code)
    (turns : Turns acts old r from left) (due : IsDue r o given) where
  found : (is_requested (at old o).phase && was_taken r o ≡ true) × (op_count o due.rest + wait_count o r.waits ≡ 0)
  found =
      let one = ap (op_count o) due.due in
      let two = ap one_if (eq-eqb due.head.op o due.is_op) in
      let three = turns.pending o in
      requested_by (is_requested (at old o).phase && was_taken r o) (op_count o due.rest + wait_count o r.waits)
      (omega (arith, one, two, three))

  pub due_requested : is_requested (at old o).phase ≡ true
  due_requested = (and_parts (is_requested (at old o).phase) (was_taken r o) found.0).0

  pub due_taken : was_taken r o ≡ true
  due_taken = (and_parts (is_requested (at old o).phase) (was_taken r o) found.0).1

  taken_before : o < from
  taken_before = ltb-true o from ((and_parts (is_asking acts o) (nat_lt o from) (sym (turns.taken o) ∙ due_taken)).1)

  pub turns_done : (new : List ActState) (to : ActState) → Changes old new o to → is_requested to.phase ≡ false →
      Turns acts new (told_on due.rest r) from left
  turns_done new to changes is = record {
    working = turns.working;
    queues = turns.queues;
    guards = turns.guards;
    timers = turns.timers;
    size = turns.size;
    listed = turns.listed;
    taken = turns.taken;
    waiting = λ n asks least.
        let before = taken_before in
        let differ : n ≢ o = λ same. absurd (omega (arith, same, least, before)) in
        ap (λ (act : ActState). is_request act.phase) (changes.others n differ) ∙ turns.waiting n asks least;
    pending = λ n. elim (cases_eq n o) [
      | inl same ↦
          subst (λ m. op_count m due.rest + wait_count m r.waits ≡ cond (is_requested (at new m).phase && was_taken r m) 1 0)
          (sym same)
          (found.1 ∙ sym (ap (λ (act : ActState). one_if (is_requested act.phase && was_taken r o)) changes.here
          ∙ ap (λ b. one_if (b && was_taken r o)) is))
      | inr differ ↦
          let one = ap (op_count n) due.due in
          let two = ap one_if (ne_eqb due.head.op n (λ same. differ (sym same ∙ due.is_op))) in
          let three = turns.pending n in
          let same : op_count n due.rest + wait_count n r.waits
          ≡ cond (is_requested (at old n).phase && was_taken r n) 1 0 =
          omega (arith, one, two, three) in
          same
          ∙ ap (λ (act : ActState). one_if (is_requested act.phase && was_taken r n)) (sym (changes.others n differ))
    ];
    early = turns.early;
  }
