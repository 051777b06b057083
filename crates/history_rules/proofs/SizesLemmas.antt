-- How many operations of a stream are pending.
use Rattle.std.proofs.Common.{◌≡◌, ℕ, ◌+◌, ◌≤◌, ◌==◌, true, cond, List, Option, Some, length, get_or, set, inl, inr, refl, arith}
use Rattle.std.proofs.lemmas.List.{get_or-set_same, get_or-set_other, set_past}
use Rattle.std.proofs.lemmas.Bool.{cases_eq, cases_lt}
use Rattle.std.proofs.lemmas.Bool.Decides.{nat_tests}
use Rattle.history_rules.specs.Bounds.{is_this}
use Rattle.history_rules.specs.State.{StreamQueues, no_queues}

-- one for the stream that an operation is on
abbrev pub one_at : ℕ → Option ℕ → ℕ
one_at stream on = cond (is_this stream on) 1 0

pub is-same : (n : ℕ) → (n == n) ≡ true
is-same n = grind (arith, nat_tests)

pub one-here : (stream : ℕ) → one_at stream (Some stream) ≡ 1
one-here stream = rw (is-same stream) refl

-- the operations of a stream
abbrev pub each_size : StreamQueues → ℕ
each_size each = length each.reads + length each.writes

-- the queues of one stream changed
pub sizes-set : (queues : List StreamQueues) (place : ℕ) (new : StreamQueues) (more : ℕ → ℕ) →
    each_size new ≤ each_size (get_or queues place no_queues) + more place → (stream : ℕ) →
    each_size (get_or (set queues place new) stream no_queues)
    ≤ each_size (get_or queues stream no_queues) + more stream
sizes-set queues place new more b stream =
    elim (cases_eq stream place) [
      | inl same ↦ rw same here
      | inr other ↦ rw (get_or-set_other queues place stream new no_queues other) (omega arith)
    ]
  where
    here : each_size (get_or (set queues place new) place no_queues)
        ≤ each_size (get_or queues place no_queues) + more place
    here = elim (cases_lt place (length queues)) [
      | inl within ↦ rw (get_or-set_same queues place new no_queues within) b
      | inr past ↦ rw (set_past queues place new (omega arith)) (omega arith)
    ]
