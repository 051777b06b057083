use Rattle.run_forced.proofs.KnownLemmas.{knows_before}
use Rattle.run_forced.proofs.known.Known.knows.Goals as goal

pub returns : goal.returns
returns c = λ run lines later knows before is.
    knows_before run lines later c.args.place c.args.self.now c.args.clock.now knows before (c.knows.ensures is)
