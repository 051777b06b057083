use Rattle.run_verdict.proofs.ReadLemmas.{first_read}
use Rattle.run_verdict.proofs.SearchLemmas.{counted_from, header_early, search_begins}
use Rattle.run_verdict.proofs.search.search.Goals as goal

pub returns-in-Some-clause-found : goal.returns-in-Some-clause-found
returns-in-Some-clause-found g c = λ level text past tells new again judged breaks within.
    (c.in-Some.ensures.opens text tells new level c.args.judge.now).0

pub returns-in-Some-clause-early : goal.returns-in-Some-clause-early
returns-in-Some-clause-early g c = header_early c.in-Some.ending c.args.breach.now.at c.in-Some.ensures.none

pub returns-clause-found : goal.returns-clause-found
returns-clause-found g c = λ level text past tells new again judged breaks within.
    c.search_lines.ensures.found level text past judged breaks
    (search_begins level text past c.args.breach.now.line c.args.breach.now.rule c.read_header.new.reader.held
    (g.S.Source.left c.read_header.new.source) c.args.again.now
    (first_read level text c.read_header.new.reader.held (g.S.Source.left c.read_header.new.source) c.args.again.now
    (c.in_default.ensures.opens text tells new) again)) within

pub returns-clause-counts : goal.returns-clause-counts
returns-clause-counts g c =
    counted_from c.search_lines.result (g.S.Source.faults c.args.source.now) (g.S.Source.faults c.read_header.new.source)
    (g.S.Source.faults c.search_lines.new.source) c.in_default.ensures.counts c.search_lines.ensures.counts
