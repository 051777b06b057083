use Rattle.proactor_core.proofs.UntoldStreamLemmas.{work-is-under-way}
use Rattle.proactor_core.proofs.stream_work.StreamWork.stays_under_way.Goals as goal

pub returns : goal.returns
returns c =
    let work = c.self.invariant in
    rw (← c.self.view_is) (work-is-under-way c.self.inside.held.room c.self.inside.held c.self.inside.closed
    c.self.inside.reads.items c.self.inside.writes.items work.are_reads work.are_writes)
