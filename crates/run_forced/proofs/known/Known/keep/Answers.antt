use Rattle.run_forced.proofs.KnownLemmas.{knows_next}
use Rattle.run_forced.proofs.known.Known.keep.Goals as goal

pub returns-then-not-asked : goal.returns-then-not-asked
returns-then-not-asked c = λ run knows before. knows_next run c.args.place c.args.self.now knows
