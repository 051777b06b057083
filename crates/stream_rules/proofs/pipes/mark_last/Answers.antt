use Rattle.std.proofs.Common.{◌<◌, length, arith}
use Rattle.stream_rules.proofs.PipeLemmas.{mark-more, keeps-more, marked-more}
use Rattle.stream_rules.proofs.pipes.mark_last.Goals as goal

pub loop-pipe-preserved : goal.loop-pipe-preserved
loop-pipe-preserved c =
    let at = c.loop-pipe in
    let init = c.args.pipes.now in
    let there : at.pipe-index < length at.pipes = omega (arith, c.loop-pipe-test.true, at.auto.pipes) in (
      mark-more at.pipes init at.pipe-index c.pipe-item.result c.mark_last.new.self at.auto.pipes
          (omega (arith, there, at.auto.pipes)) c.mark_last.ensures.stream at.invariant.0,
      keeps-more init at.pipes at.pipe-index c.pipe-item.result c.mark_last.new.self there
          c.mark_last.ensures.bytes_left c.mark_last.ensures.room_left at.invariant.1,
      marked-more at.pipes at.pipe-index c.mark_last.new.self there c.mark_last.ensures.marked at.invariant.2,
    )
