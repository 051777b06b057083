use Rattle.std.proofs.Common.{◌≡◌, ◌+◌, false, length}
use Rattle.std.specs.Prelude.{None}
use Rattle.io_rules.specs.Legal.{state_of}
use Rattle.io_rules.specs.Room.{one_if}
use Rattle.io_names.specs.Tables.{names_of}
use Rattle.io_scheduler.specs.Settling.{HaveSettled, IsNotAtOnce, IsServing}
use Rattle.io_scheduler.proofs.settling.settle_side.Given as goal

abbrev pub invariant-ops : goal.invariant-ops
invariant-ops g l = record {
  settled : HaveSettled g.C.Named.limits l.fn.keeper.past l.keeper.past;
  over : l.more ≡ false → IsNotAtOnce l.name l.side l.streams;
  none : l.keeper.held ≡ None;
  serving : IsServing g.H.Handler.marks g.C.Named.limits l.counts (names_of l.names) l.strands.items l.jobs l.timers
      l.streams l.tally l.name l.side (state_of g.C.Named.limits l.keeper.past);
}

abbrev pub decreases-ops : goal.decreases-ops
decreases-ops g l = length l.streams.ops + one_if l.more
