use Rattle.proactor_core.specs.Pending.{IsNewRead}
use Rattle.proactor_core.specs.declared.pending.PendingOp.{PendingOp}
use Rattle.composed_ops.specs.Machine.{progress_of}
use Rattle.proactor_core.proofs.QueueLemmas.{reads-pushed}
use Rattle.proactor_core.proofs.stream_work.StreamWork.accept_read.Goals as goal

pub invariant_of-self : goal.invariant_of-self
invariant_of-self c =
    let held = c.self.inside.held in
    let new : PendingOp = record { op = c.args.op; accepted = c.args.accepted; machine = c.args.machine } in
    let holds = rw (← c.self.view_is) at c.requires.holds in
    let fresh : IsNewRead held.room held.room (progress_of c.args.machine) = record {
      fresh = c.requires.fresh;
      reads = c.requires.reads;
      under_way = c.requires.under_way;
      fits = holds;
      holds = holds;
    } in
    record {
      are_reads =
          rw c.push_back_reserved.ensures.items
          (reads-pushed held.room held c.self.inside.reads.items new fresh c.self.invariant.are_reads);
      are_writes = c.self.invariant.are_writes;
      no_reads = λ shut. absurd (cc);
      no_writes = c.self.invariant.no_writes;
    }
