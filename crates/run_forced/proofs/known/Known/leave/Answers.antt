use Rattle.run_forced.proofs.KnownLemmas.{knows_left}
use Rattle.run_forced.proofs.known.Known.leave.Goals as goal

pub returns : goal.returns
returns c = λ run lines knows.
    knows_left run lines c.args.self.now c.leave.new.self knows c.leave.ensures.places c.leave.ensures.tips
