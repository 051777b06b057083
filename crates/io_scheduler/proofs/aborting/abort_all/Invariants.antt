use Rattle.std.proofs.Common.{◌≡◌, ◌+◌, false, length}
use Rattle.std.specs.Prelude.{[], None}
use Rattle.io_rules.specs.Legal.{state_of}
use Rattle.io_rules.specs.Room.{one_if}
use Rattle.io_names.specs.Tables.{names_of}
use Rattle.io_timers.specs.Pending.{IsOnly, waits_on}
use Rattle.io_scheduler.specs.Aborting.{IsCancelling, numbers_on}
use Rattle.io_scheduler.proofs.AbortingLemmas.{AreAborted}
use Rattle.io_scheduler.proofs.aborting.abort_all.Given as goal

abbrev pub invariant-waits : goal.invariant-waits
invariant-waits g l = record {
  aborted : AreAborted g.C.Named.limits (numbers_on l.timer l.fn.timers.waits) (numbers_on l.timer l.timers.waits)
      l.fn.keeper.past l.keeper.past;
  over : l.more ≡ false → waits_on l.timer l.timers.waits ≡ [];
  held : l.keeper.held ≡ None;
  cancelling : IsCancelling g.H.Handler.marks g.C.Named.limits l.counts (names_of l.names) l.strands.items l.jobs l.timers
      l.tally (numbers_on l.timer l.timers.waits) (state_of g.C.Named.limits l.keeper.past);
  only : IsOnly l.timer l.timers.waits;
  within : l.timers.timers ≡ l.fn.timers.timers;
}

abbrev pub decreases-waits : goal.decreases-waits
decreases-waits g l = length l.timers.waits + one_if l.more
