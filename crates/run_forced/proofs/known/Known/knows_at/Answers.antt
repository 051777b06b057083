use Rattle.std.proofs.Common.{sym}
use Rattle.run_forced.proofs.KnownLemmas.{knows_upto}
use Rattle.run_forced.proofs.known.Known.knows_at.Goals as goal

pub returns-in-Some : goal.returns-in-Some
returns-in-Some c = λ run lines knows is.
    knows_upto run lines c.args.at c.args.place c.args.self.now c.in-Some.clock.now knows (sym c.in-Some.ensures.value) (c.knows.ensures is)
