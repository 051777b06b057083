use Rattle.std.proofs.Common.{◌-◌, sym, subst, arith}
use Rattle.run_verdict.specs.declared.ending.Ending.{Ending}
use Rattle.run_verdict.specs.declared.run.Next.{Next}
use Rattle.run_verdict.specs.Endings.{CountsFaultsOf, CountsNext, EndsWith, NextGives}
use Rattle.run_verdict.specs.Search.{BreaksAt}
use Rattle.run_verdict.proofs.ReadLemmas.{bad_read, counted_by, fault_breaks, fault_counts, fault_ends, judged_read, name_read, run_ends}
use Rattle.run_verdict.proofs.run.follow_next.Goals as goal

pub returns-in-Line-clause-takes : goal.returns-in-Line-clause-takes
returns-in-Line-clause-takes c = λ level text held left held_after left_after reading gives.
    let here = subst (λ (n : Next). NextGives n held left held_after left_after) c.in-Line.is gives in
    judged_read level text c.in-Line.line held left held_after left_after c.args.judge.now c.judged.new.judge
    c.args.at c.judged.result reading
    here.0 here.1 c.judged.ensures.followed c.judged.ensures.ended

pub returns-in-Line-clause-counts : goal.returns-in-Line-clause-counts
returns-in-Line-clause-counts c = λ old new counts.
    counted_by c.judged.result old new (subst (λ (n : Next). CountsNext n old new) c.in-Line.is counts) c.judged.ensures.counts

pub returns-in-Name-clause-takes : goal.returns-in-Name-clause-takes
returns-in-Name-clause-takes c = λ level text held left held_after left_after reading gives.
    let here = subst (λ (n : Next). NextGives n held left held_after left_after) c.in-Name.is gives in
    name_read level text here.0 held left held_after left_after c.args.judge.now c.args.at reading here.1 here.2 here.3

pub returns-in-End-clause-takes : goal.returns-in-End-clause-takes
returns-in-End-clause-takes c = λ level text held left held_after left_after reading gives.
    run_ends level text held left c.args.judge.now c.args.at (c.args.at - 1) c.ending_of.result
    (omega (arith, c.requires)) reading (subst (λ (n : Next). NextGives n held left held_after left_after) c.in-End.is gives)
    (λ past judged. c.ending_of.ensures.ends level past judged)

pub returns-in-End-clause-counts : goal.returns-in-End-clause-counts
returns-in-End-clause-counts c = λ old new counts.
    subst (λ n. CountsFaultsOf c.ending_of.result old n)
    (sym (subst (λ (n : Next). CountsNext n old new) c.in-End.is counts)) (c.ending_of.ensures.counts old)

pub returns-in-End-clause-here : goal.returns-in-End-clause-here
returns-in-End-clause-here c = c.ending_of.ensures.none c.args.at

pub returns-in-Bad-clause-takes : goal.returns-in-Bad-clause-takes
returns-in-Bad-clause-takes c = λ level text held left held_after left_after reading gives.
    let here = subst (λ (n : Next). NextGives n held left held_after left_after) c.in-Bad.is gives in
    bad_read level text here.0 c.in-Bad.bad held left held_after left_after c.args.judge.now c.args.at reading
    here.1 here.2 here.3

pub returns-in-Fault-clause-takes : goal.returns-in-Fault-clause-takes
returns-in-Fault-clause-takes c = λ level text held left held_after left_after reading gives.
    subst (λ (e : Ending). EndsWith level text e c.args.judge.now) (sym c.ending_by.ensures)
    (fault_ends level text held left c.args.judge.now c.args.at c.in-Fault.fault held_after left_after reading
    (subst (λ (n : Next). NextGives n held left held_after left_after) c.in-Fault.is gives))

pub returns-in-Fault-clause-counts : goal.returns-in-Fault-clause-counts
returns-in-Fault-clause-counts c = λ old new counts.
    subst (λ (e : Ending). CountsFaultsOf e old new) (sym c.ending_by.ensures)
    (fault_counts c.in-Fault.fault c.args.at old new (subst (λ (n : Next). CountsNext n old new) c.in-Fault.is counts))

pub returns-in-Fault-clause-here : goal.returns-in-Fault-clause-here
returns-in-Fault-clause-here c =
    subst (λ (e : Ending). BreaksAt c.args.at e) (sym c.ending_by.ensures) (fault_breaks c.in-Fault.fault c.args.at)
