-- The operations of one side of a stream, and what serving them leaves (Asio reference, async_read
-- and async_write: here they queue in order of acceptance).
use Rattle.std.specs.Prelude.{ℕ, ◌≡◌, ◌≤◌, ⊤, Bool, true, All, List, [], ◌∷◌, map}
use Rattle.asio_types.specs.declared.code.Code.{Code}
use Rattle.stream_rules.specs.declared.queue.Completion.{Completion}
use Rattle.stream_rules.specs.Queue.{Pending, Side, served_queue}
use Rattle.stream_rules.specs.Serving.{Reading, Some_bytes, Some_of, Writing}
use Rattle.stream_rules.specs.Stream.{Stream}
use Rattle.composed_ops.specs.StreamOperation.{StreamOperation, Reads, Writes, most_moved}
use Rattle.composed_ops.specs.Machine.{progress_of}
use Rattle.composed_ops.specs.Progress.{IsUnderWay, StreamProgress, new_progress}
use Rattle.proactor_core.specs.declared.pending.PendingOp.{PendingOp}
use Rattle.proactor_core.specs.Due.{Due, listed}
use Rattle.proactor_core.specs.Held.{HeldBytes}
use Rattle.proactor_core.specs.Reading.{AsksToRead, MayRead}
use Rattle.proactor_core.specs.Writing.{MayWrite}

abbrev pub reading_asked : StreamOperation → Reading
reading_asked (Reads reading) = reading
reading_asked (Writes writing) = Some_bytes 0

abbrev pub writing_asked : StreamOperation → Writing
writing_asked (Reads reading) = Some_of []
writing_asked (Writes writing) = writing

abbrev pub progress_in : PendingOp → StreamProgress
progress_in pending = progress_of pending.machine

-- the operation as the rules of streams see it
abbrev pub pending_read : PendingOp → Pending Reading
pending_read pending = record {
  op = pending.op;
  accepted = pending.accepted;
  asks = reading_asked (progress_in pending).asks;
  moved = (progress_in pending).moved;
}

abbrev pub pending_write : PendingOp → Pending Writing
pending_write pending = record {
  op = pending.op;
  accepted = pending.accepted;
  asks = writing_asked (progress_in pending).asks;
  moved = (progress_in pending).moved;
}

-- a read before its first step, with room for all that it reads at once
pub record IsNewRead (buffer room : ℕ) (progress : StreamProgress) : Type 0 where
  pub fresh : progress ≡ new_progress progress.asks
  pub reads : AsksToRead progress.asks
  pub under_way : IsUnderWay progress
  pub fits : most_moved progress.asks ≤ buffer
  pub holds : most_moved progress.asks ≤ room

-- only the read at the head may have been served
abbrev pub AreReads : ℕ → HeldBytes → List PendingOp → Type 0
AreReads buffer held [] = ⊤
AreReads buffer held (head ∷ queue) =
    MayRead buffer held (progress_in head)
    × All (λ pending. IsNewRead buffer held.room (progress_in pending)) queue

abbrev pub AreWrites : List PendingOp → Type 0
AreWrites queue = All (λ pending. MayWrite (progress_in pending)) queue

-- an operation, whatever it moved
abbrev pub unmoved : {Asks : Type 0} → Pending Asks → Pending Asks
unmoved pending = record pending { moved = 0 }

-- the heads of a queue complete in order, each as it may where bytes aren't told, and the others
-- stay, whatever they moved
abbrev pub GivesInOrder : {Asks : Type 0} → (Asks → Code → ℕ → Bool) → List (Pending Asks) →
    List (Pending Asks) → List Completion → Type 0
GivesInOrder may queue staying [] = map unmoved queue ≡ map unmoved staying
GivesInOrder may [] staying (given ∷ completed) = ⊥
GivesInOrder may (head ∷ queue) staying (given ∷ completed) =
    (given.op ≡ head.op) × (may head.asks given.outcome.0 given.outcome.1 ≡ true)
    × GivesInOrder may queue staying completed

-- what completed is due
pub record GivesDue {Asks : Type 0} (may : Asks → Code → ℕ → Bool)
    (queue staying : List (Pending Asks)) (old new : Due) : Type 0 where
  pub completed : List Completion
  pub due : new ≡ listed completed old
  pub in_order : GivesInOrder may queue staying completed

-- the queue was served by the rules of streams
pub record IsServedBy {Asks : Type 0} (side : Side Asks) (queue staying : List (Pending Asks))
    (there left : Stream) (old new : Due) : Type 0 where
  pub due : new ≡ listed (served_queue side queue there).completed old
  pub stays : staying ≡ (served_queue side queue there).staying
  pub stream : left ≡ (served_queue side queue there).stream
