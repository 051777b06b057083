use Rattle.run_forced.proofs.KnownLemmas.{knows_less}
use Rattle.run_forced.proofs.known.Known.forget.Goals as goal

pub returns : goal.returns
returns c = λ run lines knows. knows_less run lines c.args.place c.args.self.now c.remove.new.self knows c.remove.ensures.updates.0
