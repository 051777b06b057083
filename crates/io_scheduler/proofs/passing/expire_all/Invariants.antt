use Rattle.std.proofs.Common.{◌≡◌, ◌+◌, false, length}
use Rattle.std.specs.Prelude.{None}
use Rattle.io_rules.specs.Legal.{state_of}
use Rattle.io_rules.specs.Room.{one_if}
use Rattle.io_rules.specs.Timers.{due}
use Rattle.io_names.specs.Tables.{names_of}
use Rattle.io_scheduler.specs.Expired.{HaveExpired}
use Rattle.io_scheduler.specs.Shown.{Shows}
use Rattle.io_scheduler.specs.Tallied.{IsTally}
use Rattle.io_scheduler.specs.Waits.{ShowsWaits}
use Rattle.io_scheduler.proofs.passing.expire_all.Given as goal

abbrev pub invariant-waits : goal.invariant-waits
invariant-waits g l = record {
  expired : HaveExpired g.C.Named.limits l.fn.keeper.past l.keeper.past;
  over : l.more ≡ false → due (state_of g.C.Named.limits l.keeper.past) ≡ None;
  none : l.keeper.held ≡ None;
  shows : Shows g.H.Handler.marks g.C.Named.limits l.counts (names_of l.names) l.strands.items l.jobs
      (state_of g.C.Named.limits l.keeper.past);
  waits : ShowsWaits g.H.Handler.marks g.C.Named.limits l.timers (state_of g.C.Named.limits l.keeper.past);
  tally : IsTally l.tally (state_of g.C.Named.limits l.keeper.past);
}

abbrev pub decreases-waits : goal.decreases-waits
decreases-waits g l = length l.timers.waits + one_if l.more
