use Rattle.run_verdict.proofs.SearchLemmas.{early_of, finds_illegal, finds_none}
use Rattle.run_verdict.proofs.search.find_against.Goals as goal

pub returns-in-Illegal-clause-found : goal.returns-in-Illegal-clause-found
returns-in-Illegal-clause-found g c = λ level text tells new again stops.
    finds_illegal level text c.in-Illegal.at c.in-Illegal.rule c.in-Illegal.line c.args.ending.now
    c.args.judge.now c.search.new.reader.held
    (g.S.Source.left c.search.new.source) c.search.new.again c.search.result c.in-Illegal.is stops
    (λ past judged breaks within. c.search.ensures.found level text past tells new again judged breaks within)

pub returns-in-Illegal-clause-early : goal.returns-in-Illegal-clause-early
returns-in-Illegal-clause-early g c =
    early_of c.search.result c.args.ending.now c.in-Illegal.at c.in-Illegal.rule c.in-Illegal.line
    c.in-Illegal.is c.search.ensures.early

pub returns-in_default-clause-found : goal.returns-in_default-clause-found
returns-in_default-clause-found g c =
    λ level text tells new again stops. finds_none level text c.args.ending.now c.in_default.not-Illegal
