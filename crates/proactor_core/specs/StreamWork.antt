-- What holds of a stream's queues and held bytes.
use Rattle.std.specs.Prelude.{◌≡◌, Bool, true, List, []}
use Rattle.proactor_core.specs.declared.pending.PendingOp.{PendingOp}
use Rattle.proactor_core.specs.Held.{HeldBytes}
use Rattle.proactor_core.specs.Pending.{AreReads, AreWrites}

pub record IsWork (closed : Bool) (held : HeldBytes) (reads writes : List PendingOp) : Type 0 where
  pub are_reads : AreReads held.room held reads
  pub are_writes : AreWrites writes
  pub no_reads : closed ≡ true → reads ≡ []
  pub no_writes : closed ≡ true → writes ≡ []
