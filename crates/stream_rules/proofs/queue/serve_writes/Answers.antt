use Rattle.std.proofs.Common.{◌≡◌, refl, ◌∙◌, map, arith}
use Rattle.stream_rules.specs.Pipes.{pipe_stream}
use Rattle.stream_rules.specs.Queue.{asked, writing_side, served_queue}
use Rattle.stream_rules.proofs.QueueLemmas.{served-goes_on, there, All-behind}
use Rattle.stream_rules.proofs.queue.serve_writes.Goals as goal

pub loop-head-preserved : goal.loop-head-preserved
loop-head-preserved g c =
    let asks = g.A.Asks.writes c.args.asks.now in
    let before = c.loop-head.invariant in
    let head = c.in-Some.head in
    let queue = c.pop_front.new.self.items in
    let popped = c.in-Some.ensures.items in
    let after = c.if-stays.ensures in
    let step = c.serve_write-served in
    let is = rw c.writing.ensures.bytes at step.ensures.served in
    let left = rw c.writing.ensures.bytes at step.ensures.stream in
    let some = after.stays.1 in
    let gone = there step.result.outcome (c.stays.new.queue.items ≡ queue) some after.gone in (
      served-goes_on writing_side asks
          (served_queue writing_side (map (asked asks) c.args.queue.now.items) (pipe_stream c.args.pipe.now))
          c.args.completed.now.items c.loop-head.completed.items c.stays.new.completed.items head queue
          c.stays.new.queue.items (pipe_stream c.loop-head.pipe) (pipe_stream step.new.self) step.result step.result.outcome
          refl some is left after.listed after.gone (rw popped at before.0),
      All-behind (g.A.Asks.IsWriting c.args.asks.now) head c.loop-head.queue.items queue c.stays.new.queue.items
          popped gone before.1,
      omega (arith, c.in-Some.ensures.len, after.lengths, before.2),
      step.ensures.bytes_left ∙ before.3,
      step.ensures.room_left ∙ before.4,
      after.kept_list_room ∙ before.5,
      after.kept_queue_room ∙ c.in-Some.ensures.capacity ∙ before.6,
    )
