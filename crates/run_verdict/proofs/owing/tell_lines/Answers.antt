use Rattle.run_names.specs.Names.{name_at}
use Rattle.run_verdict.proofs.OwingLemmas.{tell_step, telling_at}
use Rattle.run_verdict.proofs.owing.tell_lines.Goals as goal

pub loop-at-preserved : goal.loop-at-preserved
loop-at-preserved g c = λ level text past judged start.
    tell_step (name_at c.args.names.now) level text past c.loop-at.reader.held (g.S.Source.left c.loop-at.source) c.next_line-next.new.reader.held
    (g.S.Source.left c.next_line-next.new.source) c.args.judge.now c.loop-at.again c.follow_next.new.judge c.loop-at.at
    (g.K.Sink.written c.args.out.now) (g.K.Sink.written c.loop-at.out) (g.K.Sink.written c.tell.new.out)
    c.next_line-next.result judged
    (c.loop-at.invariant level text past judged start) c.next_line-next.ensures.gives c.in_ok-tell.ensures
    c.in_default.ensures.follows

pub returns : goal.returns
returns g c = λ level text past judged start within.
    telling_at (name_at c.args.names.now) c.loop-at.at c.args.end (c.loop-at.auto.at-end within) c.loop-at-test.false level text past c.loop-at.reader.held
    (g.S.Source.left c.loop-at.source) c.loop-at.again (g.K.Sink.written c.args.out.now) (g.K.Sink.written c.loop-at.out)
    (c.loop-at.invariant level text past judged start)
