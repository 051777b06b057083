use Rattle.std.proofs.Common.{arith}
use Rattle.proactor_core.specs.Proactor.{ProactorView}
use Rattle.proactor_core.proofs.FollowsLemmas.{pending-alike}
use Rattle.proactor_core.proofs.proactor.Proactor.pending.Goals as goal

pub returns-clause-half : goal.returns-clause-half
returns-clause-half g c = λ half is.
    let here = rw (← c.self.view_is) at is in
    let base : ProactorView g.row.X.Denot = record {
      script = c.self.inside.script.now;
      tables = c.self.inside.tables;
      streams = c.self.inside.streams;
      reactor = c.self.inside.reactor;
    } in
    let same = pending-alike g.X.Reactor.told base half here in
    omega (
      arith,
      same,
      c.waits.ensures,
      c.pending.ensures,
      c.count_due.ensures,
      c.saturating_add.ensures,
      c.saturating_add-2.ensures,
    )
