use Rattle.run_verdict.proofs.run.take_line.Goals as goal

pub returns-clause-takes : goal.returns-clause-takes
returns-clause-takes g c = λ level text reading.
    c.follow_next.ensures.takes level text c.args.reader.now.held (g.S.Source.left c.args.source.now)
    c.next_line-next.new.reader.held
    (g.S.Source.left c.next_line-next.new.source) reading c.next_line-next.ensures.gives

pub returns-clause-counts : goal.returns-clause-counts
returns-clause-counts g c =
    c.follow_next.ensures.counts (g.S.Source.faults c.args.source.now)
    (g.S.Source.faults c.next_line-next.new.source) c.next_line-next.ensures.counts
