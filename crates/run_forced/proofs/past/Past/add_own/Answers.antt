use Rattle.std.proofs.Common.{sym}
use Rattle.run_forced.proofs.PastLemmas.{own_forced}
use Rattle.run_forced.proofs.past.Past.add_own.Goals as goal

pub returns : goal.returns
returns c = λ run place followed here.
    c.in_ok-add.ensures run place place followed.known
    (own_forced run place c.args.event.now c.args.self.now c.in-Some.last followed here (sym c.in-None.ensures) (sym c.in-Some.ensures))
