-- How many operations a cancellation reaches.
use Rattle.std.proofs.Common.{◌≡◌, ℕ, nat_lt, Bool, true, false, cond, not, List, [], ◌∷◌, length, filter, ◌+◌, refl, arith}
use Rattle.std.proofs.lemmas.List.{length-map}
use Rattle.std.proofs.lemmas.List.Filters.{length-filter_both}
use Rattle.stream_rules.specs.declared.queue.Completion.{Completion}
use Rattle.stream_rules.specs.Queue.{Pending}
use Rattle.stream_rules.specs.Serving.{Reading, Writing}
use Rattle.history_rules.specs.Performing.{aborted, all_aborted, all_of_stream, is_of, with_writes}

-- all operations of a stream are as many as its queues hold
length-with_writes : (accepted n : ℕ) (read : Completion) (later : List (Pending Writing) → List Completion) →
    ((rest : List (Pending Writing)) → length (later rest) ≡ n + length rest) → (writes : List (Pending Writing)) →
    length (with_writes accepted read later writes) ≡ n + length writes + 1
length-with_writes accepted n read later h [] = omega (arith, h [])
length-with_writes accepted n read later h (write ∷ writes) =
    pick (nat_lt accepted write.accepted) (read ∷ later (write ∷ writes))
    (aborted write.op write.moved ∷ with_writes accepted read later writes) (n + length (write ∷ writes) + 1)
    (omega (arith, h (write ∷ writes))) (omega (arith, length-with_writes accepted n read later h writes))
  where
    pick : (b : Bool) (xs ys : List Completion) (n : ℕ) → length xs ≡ n → length ys ≡ n → length (cond b xs ys) ≡ n
    pick true xs ys n e f = e
    pick false xs ys n e f = f

pub length-all_of_stream : (reads : List (Pending Reading)) (writes : List (Pending Writing)) →
    length (all_of_stream reads writes) ≡ length reads + length writes
length-all_of_stream [] writes =
    omega (arith, length-map writes (λ (pending : Pending Writing). aborted pending.op pending.moved))
length-all_of_stream (read ∷ reads) writes =
    omega (
      arith,
      length-with_writes read.accepted (length reads) (aborted read.op read.moved) (all_of_stream reads)
          (length-all_of_stream reads) writes,
    )

-- an operation of a queue stays or is aborted
pub left-aborted : {Asks : Type 0} (op : ℕ) (queue : List (Pending Asks)) →
    length (filter (λ pending. not (is_of op pending)) queue) + length (all_aborted (filter (is_of op) queue))
    ≡ length queue
left-aborted {Asks = Asks} op queue =
    let both = length-filter_both (is_of op) (λ (pending : Pending Asks). not (is_of op pending)) (λ x. refl) queue in
    let each = length-map (filter (is_of op) queue) (λ (pending : Pending Asks). aborted pending.op pending.moved) in
    omega arith
