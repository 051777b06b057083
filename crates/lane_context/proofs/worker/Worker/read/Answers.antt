use Rattle.std.proofs.Common.{refl}
use Rattle.lane_turns.proofs.ScanLemmas.{looked_on}
use Rattle.lane_context.proofs.worker.Worker.read.Goals as goal

pub returns-clause-on : goal.returns-clause-on
returns-clause-on g c =
    rw (← c.self.view_is)
    (looked_on _ _ c.read.result (record { read = c.read.ensures; turns = refl; kept = refl; last = refl }))
