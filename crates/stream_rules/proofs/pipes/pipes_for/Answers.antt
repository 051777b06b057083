use Rattle.stream_rules.proofs.PipeLemmas.{pipes-push}
use Rattle.stream_rules.proofs.pipes.pipes_for.Goals as goal

pub loop-stream-preserved : goal.loop-stream-preserved
loop-stream-preserved c =
    let new = c.in_ok-pipe_for in
    rw c.in_ok-push.ensures.items (pipes-push c.loop-stream.pipes.items new.field-0 c.loop-stream.stream
    c.args.lines.now new.ensures.stream new.ensures.bytes new.ensures.room c.loop-stream.invariant)
