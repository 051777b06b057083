use Rattle.std.proofs.Common.{sym}
use Rattle.run_forced.proofs.KnownLemmas.{marks_less}
use Rattle.run_forced.proofs.known.Known.take_mark.Goals as goal

pub returns-in-Some-clause-knows : goal.returns-in-Some-clause-knows
returns-in-Some-clause-knows c = λ run lines knows.
    marks_less run lines c.args.mark c.args.self.now c.remove.new.self knows c.remove.ensures.updates.0

pub returns-in-None-clause-knows : goal.returns-in-None-clause-knows
returns-in-None-clause-knows c = λ run lines knows.
    marks_less run lines c.args.mark c.args.self.now c.remove.new.self knows c.remove.ensures.updates.0

pub returns-in-Some-clause-marked : goal.returns-in-Some-clause-marked
returns-in-Some-clause-marked c = λ run lines knows. knows.marks c.args.mark c.in-Some.clock (sym c.in-Some.ensures.value)

pub returns-in-None-clause-marked : goal.returns-in-None-clause-marked
returns-in-None-clause-marked c = λ run lines knows seen named. absurd (c.new.ensures seen named)
