use Rattle.std.proofs.lemmas.Result.{err_from_is_err_and}
use Rattle.run_witness.proofs.facts.facts_of.Goals as goal

pub returns-clause-known : goal.returns-clause-known
returns-clause-known c = (c.in_ok-see_all.ensures.seen (c.new-survey.ensures c.args.apart.now c.args.thing)).facts

pub returns-in_err-see_all-clause-illegal : goal.returns-in_err-see_all-clause-illegal
returns-in_err-see_all-clause-illegal c = λ is.
    let p = err_from_is_err_and c.from_residual.result c.from_residual.ensures.1 in
    c.in_err-see_all.ensures.illegal (cc (is, p.1, p.2)) (c.new-survey.ensures c.args.apart.now c.args.thing)
