use Rattle.std.proofs.Common.{subst}
use Rattle.run_verdict.specs.Endings.{CountsFaultsOf}
use Rattle.run_verdict.proofs.ReadLemmas.{first_read, says_by, stops_by}
use Rattle.run_verdict.proofs.run.take_run.Goals as goal

pub returns-in-Some-clause-says : goal.returns-in-Some-clause-says
returns-in-Some-clause-says g c = λ level judged new.
    says_by level (g.S.Source.left c.args.source.now) c.in-Some.ending
    (λ text tells. (c.in-Some.ensures.opens text tells new level c.args.judge.now).0)

pub returns-in-Some-clause-stops : goal.returns-in-Some-clause-stops
returns-in-Some-clause-stops g c = λ level judged new.
    stops_by level (g.S.Source.left c.args.source.now) c.in-Some.ending c.args.judge.now
    (λ text tells. c.in-Some.ensures.opens text tells new level c.args.judge.now)

pub returns-clause-says : goal.returns-clause-says
returns-clause-says g c = λ level judged new.
    says_by level (g.S.Source.left c.args.source.now) c.take_lines.result
    (λ text tells. (c.take_lines.ensures.takes level text
    (first_read level text c.read_header.new.reader.held (g.S.Source.left c.read_header.new.source) c.args.judge.now
    (c.in_default.ensures.opens text tells new) judged)).0)

pub returns-clause-stops : goal.returns-clause-stops
returns-clause-stops g c = λ level judged new.
    stops_by level (g.S.Source.left c.args.source.now) c.take_lines.result c.take_lines.new.judge
    (λ text tells. c.take_lines.ensures.takes level text
    (first_read level text c.read_header.new.reader.held (g.S.Source.left c.read_header.new.source) c.args.judge.now
    (c.in_default.ensures.opens text tells new) judged))

pub returns-clause-counts : goal.returns-clause-counts
returns-clause-counts g c =
    subst (λ n. CountsFaultsOf c.take_lines.result n (g.S.Source.faults c.take_lines.new.source))
    c.in_default.ensures.counts c.take_lines.ensures.counts
