use Rattle.std.proofs.Common.{◌≡◌, ◌≤◌, ◌+◌, length}
use Rattle.io_handlers.specs.Initiated.{left_by_all, operations_in}
use Rattle.io_scheduler.specs.Ended.{mark_of}
use Rattle.io_scheduler.specs.Staged.{retired_by}
use Rattle.io_scheduler.proofs.StagedLemmas.{IsCommitting}
use Rattle.io_scheduler.proofs.scheduler.Scheduler.commit_all.Given as goal

abbrev pub invariant-calls : goal.invariant-calls
invariant-calls g l = record {
  committing : IsCommitting g.H.Handler.marks l.fn.running.op l.now l.fn.io.staged l.io.staged l.fn.self l.self;
  io : l.io ≡ record l.fn.io { staged = l.io.staged; kept = l.io.kept; retired = l.io.retired };
  kept : l.io.kept ≡ l.left.spares;
  behind_all : left_by_all l.io.staged l.io.kept ≡ left_by_all l.fn.io.staged l.fn.io.kept;
  places : l.left.places + operations_in l.fn.io.staged ≡ l.fn.running.places + operations_in l.io.staged;
  within : operations_in l.io.staged ≤ l.left.places;
  retired : length l.io.retired + retired_by g.H.Handler.marks l.fn.running.op l.now l.io.staged l.self
      ≡ length l.fn.io.retired + retired_by g.H.Handler.marks l.fn.running.op l.now l.fn.io.staged l.fn.self;
  op : l.left.op ≡ l.fn.running.op;
  lane : l.left.lane ≡ l.fn.running.lane;
  mark : mark_of l.left.held ≡ mark_of l.fn.running.held;
}

abbrev pub decreases-calls : goal.decreases-calls
decreases-calls g l = length l.io.staged
