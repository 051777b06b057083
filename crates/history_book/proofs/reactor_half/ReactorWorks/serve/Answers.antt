use Rattle.std.proofs.Common.{◌<◌, length, set, ap, ◌∙◌, arith}
use Rattle.std.proofs.lemmas.List.{length-set, length-map, map-set}
use Rattle.stream_rules.specs.World.{stream_at}
use Rattle.history_book.specs.Asking.{queues_of}
use Rattle.history_book.specs.Played.{Played}
use Rattle.history_rules.specs.Settling.{served_stream}
use Rattle.history_book.proofs.RoomLemmas.{queues-at, size-pending, AreQueues-at, IsRoomy-changed, IsRoomy-streams}
use Rattle.history_book.proofs.reactor_half.ReactorWorks.serve.Goals as goal
use Rattle.history_book.proofs.reactor_half.ReactorWorks.serve.Goals.{After-index_mut-queues}

there : (c : After-index_mut-queues) → c.args.stream < length c.self.inside.queues.items
there c =
    let known = rw (← c.self.view_is) at c.requires in
    omega (arith, length-map c.self.inside.queues.items (queues_of c.self.inside.script.now))

pub serve-requires-clause-room : goal.serve-requires-clause-room
serve-requires-clause-room c =
    let s = c.self.inside in
    let old = c.index_mut-queues.result.now in
    let at = there ((goal.at.serve-requires-clause-room c).After-index_mut-queues) in
    let size =
    size-pending s.script.now s.waits.items s.queues.items s.due.items c.args.stream old at c.index_mut-queues.ensures.value in
    omega (arith, old.reads.ok.0, old.writes.ok.0, s.due.ok.0, c.self.invariant.pending, c.self.invariant.due_room)

pub invariant_of-self : goal.invariant_of-self
invariant_of-self c =
    let s = c.self.inside in
    let old = c.index_mut-queues.result.now in
    let at = there ((goal.at.invariant_of-self c).After-index_mut-queues) in
    let is = c.index_mut-queues.ensures.value in
    let new = c.serve.new.queues in
    let are = AreQueues-at s.script.now s.world s.waits s.queues.items s.due c.args.stream old c.self.invariant at is in
    let stream = (served_stream (stream_at s.world.streams c.args.stream) (queues_of s.script.now old)).stream in
    IsRoomy-streams s.script.now s.world c.serve.new.self s.waits (set s.queues.items c.args.stream new) c.serve.new.due
    (IsRoomy-changed s.script.now s.world s.waits s.queues.items s.due c.serve.new.due c.args.stream old new
    c.self.invariant at is
    (record {
      reads = c.serve.ensures.reads;
      writes = c.serve.ensures.writes;
      reads_room = rw c.serve.ensures.reads_room are.reads_room;
      writes_room = rw c.serve.ensures.writes_room are.writes_room;
    }) c.serve.ensures.due_room (omega (
      arith,
      c.serve.ensures.each_once,
      old.reads.ok.0,
      old.writes.ok.0,
      s.due.ok.0,
      new.reads.ok.0,
      new.writes.ok.0,
      c.serve.new.due.ok.0,
      c.self.invariant.pending,
    )))
    (ap (λ (w : Played). w.lines) c.serve.ensures.stream)
    (ap (λ (w : Played). length w.streams) c.serve.ensures.stream ∙ length-set s.world.streams c.args.stream stream)

pub returns : goal.returns
returns c =
    let s = c.self.inside in
    let old = c.index_mut-queues.result.now in
    let at = there ((goal.at.returns c).After-index_mut-queues) in
    let here = queues-at s.script.now s.queues.items c.args.stream old at c.index_mut-queues.ensures.value in
    let changed = map-set (queues_of s.script.now) s.queues.items c.args.stream c.serve.new.queues in
    rw (← c.self.view_is, here, changed, c.serve.ensures.staying, c.serve.ensures.completed, c.serve.ensures.stream)
