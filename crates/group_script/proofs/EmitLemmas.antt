-- What the take of an emit leaves to be told first.
use Rattle.std.proofs.Common.{◌≡◌, ℕ, zero, suc, ◌+◌, ◌≤◌, Bool, true, false, cond, List, [], ◌∷◌, ◌++◌, Option, Some, None, inl, inr, length, filter, get_or, map, refl, sym, ap, ◌∙◌, append-nil, append_assoc, arith}
use Rattle.std.specs.Prelude.{count_by}
use Rattle.std.proofs.lemmas.Bool.{cases_lt, eqb-true}
use Rattle.std.proofs.lemmas.List.{get_or_past}
use Rattle.std.proofs.lemmas.List.Sums.{get_or-le-sum_by, sum_by-cons}
use Rattle.session_script.specs.declared.act.Act.{Act}
use Rattle.session_script.specs.declared.act.Act.TheVariants as act
use Rattle.session_script.specs.Script.{ScriptModel, act_of}
use Rattle.stream_rules.specs.declared.queue.Completion.{Completion}
use Rattle.stream_rules.specs.Queue.{Pending}
use Rattle.stream_rules.specs.Serving.{Reading}
use Rattle.history_rules.specs.Performing.{aborted, all_aborted, emitted, emitted_to, is_of, is_reached, is_wait_for, operation_cancelled, performed, performed_by, queues_at}
use Rattle.history_rules.specs.Requests.{reactor_after_take}
use Rattle.history_rules.specs.Settling.{served_at, served_below, settled, with_streams_served, with_waits_served}
use Rattle.history_rules.specs.State.{ReactorHalf, StreamQueues, no_queues}
use Rattle.history_rules.specs.declared.wait.Wait.{Wait}
use Rattle.reactor_turns.specs.Standing.{queued_of, stands}
use Rattle.reactor_turns.proofs.SummingLemmas.{one_if}
use Rattle.group_script.specs.Aborting.{IsPending}

-- the first of those that pass a test
record Passing {X : Type 0} (p : X → Bool) (xs : List X) : Type 0 where
  first : X
  rest : List X
  is : filter p xs ≡ first ∷ rest
  passes : p first ≡ true

passing_step : {X : Type 0} (p : X → Bool) (x : X) (xs : List X) (b : Bool) → p x ≡ b →
    (1 ≤ one_if b + count_by p xs) → (1 ≤ count_by p xs → Passing p xs) → Passing p (x ∷ xs)
passing_step p x xs true is some later = record { first = x; rest = filter p xs; is = rw is refl; passes = is }
passing_step p x xs false is some later =
    let rest = later (omega (arith, some)) in
    record { first = rest.first; rest = rest.rest; is = rw is rest.is; passes = rest.passes }

first_passing : {X : Type 0} (p : X → Bool) (xs : List X) → 1 ≤ count_by p xs → Passing p xs
first_passing p [] some = absurd (omega (arith, some))
first_passing p (x ∷ xs) some =
    let more = sum_by-cons (λ y. cond (p y) 1 0) x xs in
    passing_step p x xs (p x) refl (omega (arith, some, more)) (λ later. first_passing p xs later)

-- the operation is the first to be told, as aborted
pub record Heads (o : ℕ) (due : List Completion) : Type 0 where
  pub moved : ℕ
  pub rest : List Completion
  pub is : due ≡ aborted o moved ∷ rest

-- something is due behind what was
record More (due after : List Completion) : Type 0 where
  more : List Completion
  is : after ≡ due ++ more

heads_more : (o : ℕ) (due after : List Completion) → More due after → Heads o due → Heads o after
heads_more o due after more heads = record {
  moved = heads.moved;
  rest = heads.rest ++ more.more;
  is = more.is ∙ ap (λ (d : List Completion). d ++ more.more) heads.is;
}

below-more : (n : ℕ) (r : ReactorHalf) → More r.due (served_below n r).due
below-more zero r = record { more = []; is = sym (append-nil r.due) }
below-more (suc n) r =
    let fewer = below-more n r in
    let here = below_at n (served_below n r) in
    record {
      more = fewer.more ++ here.more;
      is = here.is ∙ ap (λ (d : List Completion). d ++ here.more) fewer.is ∙ append_assoc r.due fewer.more here.more;
    }
  where
    below_at : (stream : ℕ) (s : ReactorHalf) → More s.due (served_at stream s).due
    below_at stream s = record { more = _; is = refl }

streams-more : (told : Bool) (r : ReactorHalf) → More r.due (with_streams_served told r).due
streams-more true r = below-more (length r.queues) r
streams-more false r = record { more = []; is = sym (append-nil r.due) }

settled-heads : (o : ℕ) (told : Bool) (r : ReactorHalf) → Heads o r.due → Heads o (settled told r).due
settled-heads o told r heads =
    heads_more o (with_waits_served r).due (settled told r).due
    (streams-more told (record (with_waits_served r) { whole_turn = true; reached = 0 }))
    (heads_more o r.due (with_waits_served r).due (record { more = _; is = refl }) heads)

-- what is cancelled is due
cancelled_heads : (o : ℕ) (made : Act) (r : ReactorHalf) → r.due ≡ [] → IsPending r o made →
    Heads o (operation_cancelled made o r).due
cancelled_heads o (act.Wait timer strand slot types) r empty under =
    let found = first_passing (is_wait_for o) r.waits under in
    let same : found.first.op ≡ o = eqb-true found.first.op o found.passes in
    let all : List Wait → List Completion = map (λ wait. aborted wait.op 0) in
    record {
      moved = 0;
      rest = all found.rest;
      is =
          ap (λ (due : List Completion). due ++ all (filter (is_wait_for o) r.waits)) empty
          ∙ ap all found.is
          ∙ ap (λ n. aborted n 0 ∷ all found.rest) same;
    }
cancelled_heads o (act.ReadAll stream size strand slot types) r empty under =
    let reads : List (Pending Reading) = (queues_at r stream).reads in
    let found = first_passing (is_of o) reads under in
    let same : found.first.op ≡ o = eqb-true found.first.op o found.passes in
    let writes : List Completion = all_aborted (filter (is_of o) (queues_at r stream).writes) in
    record {
      moved = found.first.moved;
      rest = all_aborted found.rest ++ writes;
      is =
          ap (λ (due : List Completion).
          due ++ (all_aborted (filter (is_of o) reads) ++ writes)) empty
          ∙ ap (λ (queue : List (Pending Reading)). all_aborted queue ++ writes) found.is
          ∙ ap (λ n. aborted n found.first.moved ∷ (all_aborted found.rest ++ writes)) same;
    }
cancelled_heads o made r empty under = absurd under

-- an emit at the slot of an operation that it reaches cancels that operation
module _ (script : ScriptModel) (r : ReactorHalf) (a o i types : ℕ) (made : Act)
    (emits : act_of script a ≡ Some (act.Emit i types)) (is : act_of script o ≡ Some made)
    (held : get_or r.slots i None ≡ Some o) (reached : is_reached made types ≡ true) where
  emitted_is : performed_by script a (act_of script a) r ≡ operation_cancelled made o r
  emitted_is =
      ap (λ (given : Option Act). performed_by script a given r) emits
      ∙ ap (λ (op : Option ℕ). emitted script op types r) held
      ∙ ap (λ (given : Option Act). emitted_to given types o r) is
      ∙ ap (λ b. cond b (operation_cancelled made o r) r) reached

  pub take-heads : (told : Bool) → r.due ≡ [] → IsPending r o made → Heads o (reactor_after_take script told r a).due
  take-heads told empty under =
      settled-heads o told (performed script a r)
      (let heads = cancelled_heads o made r empty under in record {
        moved = heads.moved;
        rest = heads.rest;
        is = ap (λ (after : ReactorHalf). after.due) emitted_is ∙ heads.is;
      })

  pub take-failed : (told : Bool) → (reactor_after_take script told r a).failed ≡ r.failed
  take-failed told =
      settled-failed told (performed script a r)
      ∙ ap (λ (after : ReactorHalf). after.failed) emitted_is ∙ cancelled-failed made
    where
      below-failed : (n : ℕ) (s : ReactorHalf) → (served_below n s).failed ≡ s.failed
      below-failed zero s = refl
      below-failed (suc n) s = below-failed n s

      streams-failed : (told : Bool) (s : ReactorHalf) → (with_streams_served told s).failed ≡ s.failed
      streams-failed true s = below-failed (length s.queues) s
      streams-failed false s = refl

      settled-failed : (told : Bool) (s : ReactorHalf) → (settled told s).failed ≡ s.failed
      settled-failed told s = streams-failed told (record (with_waits_served s) { whole_turn = true; reached = 0 })

      cancelled-failed : (given : Act) → (operation_cancelled given o r).failed ≡ r.failed
      cancelled-failed (act.Wait timer strand slot filter) = refl
      cancelled-failed (act.ReadSome stream size strand slot filter) = refl
      cancelled-failed (act.ReadAll stream size strand slot filter) = refl
      cancelled-failed (act.Until stream delimiter max strand slot filter) = refl
      cancelled-failed (act.WriteSome stream bytes strand slot filter) = refl
      cancelled-failed (act.WriteAll stream bytes strand slot filter) = refl
      cancelled-failed given = refl

-- what is pending is to be completed
pub pending_stands : (r : ReactorHalf) (o : ℕ) (made : Act) → IsPending r o made → 1 ≤ stands o r
pending_stands r o (act.Wait timer strand slot filter) under = omega (arith, under)
pending_stands r o (act.ReadAll stream size strand slot filter) under = elim (cases_lt stream (length r.queues)) [
  | inl within ↦
      (let here = get_or-le-sum_by (queued_of o) r.queues stream no_queues within in omega (arith, under, here))
  | inr past ↦
      absurd (let none : count_by (is_of o) (queues_at r stream).reads ≡ 0 =
      ap (λ (queues : StreamQueues). count_by (is_of o) queues.reads) (get_or_past r.queues stream no_queues past) in
      omega (arith, under, none))
]
pending_stands r o made under = absurd under
