use Rattle.std.proofs.Common.{arith}
use Rattle.std.proofs.lemmas.Bool.Decides.{nat_tests}
use Rattle.stream_rules.proofs.PipeLemmas.{room_to-more}
use Rattle.stream_rules.proofs.pipes.room_to.Goals as goal
use Rattle.stream_rules.proofs.pipes.room_to.Goals.{then-line-stream+in_ok-room, else-line-stream}

pub loop-line-preserved : goal.loop-line-preserved
loop-line-preserved c =
    let more =
    room_to-more c.args.stream c.args.lines.now c.loop-line.line-index c.line-item.result c.loop-line-test.true c.line-item.is in
    elim c.if-line-stream.branch [
      | then-line-stream+in_ok-room w ↦
          let sum = w.in_ok-room.ensures in let brought = w.room_in.ensures in grind (arith, nat_tests)
      | else-line-stream w ↦ grind (arith, nat_tests)
    ]
