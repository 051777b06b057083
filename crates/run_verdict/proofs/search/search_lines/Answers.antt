use Rattle.std.proofs.Common.{subst, sym, ◌∙◌}
use Rattle.run_verdict.specs.Endings.{CountsFaultsOf}
use Rattle.run_verdict.proofs.SearchLemmas.{early_by, search_step, searching_at, searching_reads}
use Rattle.run_verdict.proofs.search.search_lines.Goals as goal

pub loop-at-preserved : goal.loop-at-preserved
loop-at-preserved g c = record {
  searching = λ level text past judged breaks start.
      search_step level text past c.args.breach.now.line c.args.breach.now.rule c.loop-at.reader.held
      (g.S.Source.left c.loop-at.source)
      c.next_line-next.new.reader.held (g.S.Source.left c.next_line-next.new.source) c.args.judge.now
      c.loop-at.again c.follow_next.new.judge
      c.loop-at.at c.loop-at.found c.look-found.result c.next_line-next.result judged breaks
      (c.loop-at.invariant.searching level text past judged breaks start) c.next_line-next.ensures.gives c.look-found.ensures
      c.in_default.ensures.follows;
  counts = c.in_default.ensures.counts (g.S.Source.faults c.loop-at.source)
      (g.S.Source.faults c.next_line-next.new.source) c.next_line-next.ensures.counts
      ∙ c.loop-at.invariant.counts;
}

pub returns-in-Some-clause-found : goal.returns-in-Some-clause-found
returns-in-Some-clause-found g c = λ level text past judged breaks start within.
    (c.in-Some.ensures.takes level text c.loop-at.reader.held (g.S.Source.left c.loop-at.source) c.next_line-next.new.reader.held
    (g.S.Source.left c.next_line-next.new.source)
    (searching_reads level text past c.args.breach.now.line c.args.breach.now.rule c.loop-at.reader.held
    (g.S.Source.left c.loop-at.source)
    c.loop-at.again c.loop-at.at c.loop-at.found (c.loop-at.invariant.searching level text past judged breaks start))
    c.next_line-next.ensures.gives).0

pub returns-in-Some-clause-early : goal.returns-in-Some-clause-early
returns-in-Some-clause-early g c =
    early_by c.loop-at.at c.args.breach.now.at c.in-Some.ending c.loop-at-test.true c.in-Some.ensures.here

pub returns-in-Some-clause-counts : goal.returns-in-Some-clause-counts
returns-in-Some-clause-counts g c =
    subst (λ n. CountsFaultsOf c.in-Some.ending n (g.S.Source.faults c.next_line-next.new.source)) c.loop-at.invariant.counts
    (c.in-Some.ensures.counts (g.S.Source.faults c.loop-at.source)
    (g.S.Source.faults c.next_line-next.new.source) c.next_line-next.ensures.counts)

pub returns-clause-found : goal.returns-clause-found
returns-clause-found g c = λ level text past judged breaks start within.
    searching_at c.loop-at.at c.args.breach.now.at (c.loop-at.auto.at-end within) c.loop-at-test.false
    level text past c.args.breach.now.line c.args.breach.now.rule c.loop-at.reader.held (g.S.Source.left c.loop-at.source)
    c.loop-at.again c.loop-at.found (c.loop-at.invariant.searching level text past judged breaks start)
