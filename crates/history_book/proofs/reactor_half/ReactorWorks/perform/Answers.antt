use Rattle.std.proofs.Common.{arith}
use Rattle.history_rules.proofs.LimitLemmas.{time-below}
use Rattle.history_book.proofs.reactor_half.ReactorWorks.perform.Goals as goal

pub overflow_add-now : goal.overflow_add-now
overflow_add-now c =
    let fits = rw c.in-Expires.is at (c.acts_fit.ensures c.args.a c.act.result.now c.act.ensures) in
    let most = time-below c.self.inside.script.now.version in
    let soon = rw (← c.self.view_is) at c.requires.soon in
    omega (arith, fits.1, c.now-now.ensures)
