use Rattle.std.proofs.Common.{sym}
use Rattle.run_forced.proofs.TurnLemmas.{none_taken, turns_less}
use Rattle.run_forced.proofs.turns.Turns.take.Goals as goal

pub returns-in-Some-clause-rest : goal.returns-in-Some-clause-rest
returns-in-Some-clause-rest c = λ run have.
    turns_less run c.args.strand c.args.self.now (record { by_strand = c.remove.new.self }) c.remove.ensures.updates.0 have

pub returns-in-Some-clause-taken : goal.returns-in-Some-clause-taken
returns-in-Some-clause-taken c = λ run have. have c.args.strand c.in-Some.list (sym c.in-Some.ensures.value)

pub returns-in-None-clause-rest : goal.returns-in-None-clause-rest
returns-in-None-clause-rest c = λ run have.
    turns_less run c.args.strand c.args.self.now (record { by_strand = c.remove.new.self }) c.remove.ensures.updates.0 have

pub returns-in-None-clause-taken : goal.returns-in-None-clause-taken
returns-in-None-clause-taken c = λ run have ended contains. absurd (none_taken ended c.new.result.items c.new.ensures.items contains)
