use Rattle.io_scheduler.proofs.transferring.is_first.Goals as goal

pub returns-in-Some-clause-head : goal.returns-in-Some-clause-head
returns-in-Some-clause-head g c =
    (c.get-op.result.now, c.in-Some.ensures.head c.get-op.result.now c.get-op.ensures)
