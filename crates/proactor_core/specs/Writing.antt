-- A write at the head of its queue (Asio reference, async_write_some, async_write).
use Rattle.std.specs.Prelude.{⊤}
use Rattle.composed_ops.specs.StreamOperation.{StreamOperation, Reads, Writes}
use Rattle.composed_ops.specs.Progress.{IsUnderWay, StreamProgress}

abbrev pub AsksToWrite : StreamOperation → Type 0
AsksToWrite (Reads reading) = ⊥
AsksToWrite (Writes writing) = ⊤

-- a write that may be asked for more
pub record MayWrite (progress : StreamProgress) : Type 0 where
  pub writes : AsksToWrite progress.asks
  pub under_way : IsUnderWay progress
