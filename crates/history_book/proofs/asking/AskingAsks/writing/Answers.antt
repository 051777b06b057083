use Rattle.std.proofs.Common.{arith}
use Rattle.history_rules.proofs.LimitLemmas.{size-below}
use Rattle.history_book.proofs.asking.AskingAsks.writing.Goals as goal

pub returns-in-WriteSome-clause-countable : goal.returns-in-WriteSome-clause-countable
returns-in-WriteSome-clause-countable c =
    let fits = c.acts_fit.ensures c.args.op c.act.result.now c.act.ensures in
    let here = rw c.in-WriteSome.is at fits in
    let most = size-below c.args.self.now.script.now.version in
    rw c.as_slice.ensures (omega (arith, here.1.1, most))

pub returns-in-WriteAll-clause-countable : goal.returns-in-WriteAll-clause-countable
returns-in-WriteAll-clause-countable c =
    let fits = c.acts_fit.ensures c.args.op c.act.result.now c.act.ensures in
    let here = rw c.in-WriteAll.is at fits in
    let most = size-below c.args.self.now.script.now.version in
    rw c.as_slice-in-WriteAll.ensures (omega (arith, here.1.1, most))
