use Rattle.std.proofs.Common.{◌≡◌, ◌+◌, false, length}
use Rattle.std.specs.Prelude.{[], None}
use Rattle.io_rules.specs.Legal.{state_of}
use Rattle.io_rules.specs.Room.{one_if}
use Rattle.io_names.specs.Tables.{names_of}
use Rattle.io_streams.specs.Pending.{untried_on}
use Rattle.io_scheduler.specs.Closing.{IsClosing}
use Rattle.io_scheduler.proofs.LeftOnLemmas.{AreLeft}
use Rattle.io_scheduler.proofs.closing.abort_rest.Given as goal

abbrev pub invariant-ops : goal.invariant-ops
invariant-ops g l = record {
  aborted : AreLeft g.C.Named.limits (untried_on l.name l.fn.streams) (untried_on l.name l.streams) l.fn.keeper.past
      l.keeper.past;
  over : l.more ≡ false → untried_on l.name l.streams ≡ [];
  none : l.keeper.held ≡ None;
  closing : IsClosing g.H.Handler.marks g.C.Named.limits l.counts (names_of l.names) l.strands.items l.jobs l.timers
      l.streams l.tally l.name (state_of g.C.Named.limits l.keeper.past);
}

abbrev pub decreases-ops : goal.decreases-ops
decreases-ops g l = length l.streams.ops + one_if l.more
