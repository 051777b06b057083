use Rattle.std.proofs.Common.{length, drop, refl, ap, ◌∙◌, arith}
use Rattle.std.proofs.lemmas.List.{length-drop, drop-map}
use Rattle.stream_rules.specs.Queue.{asked}
use Rattle.history_book.specs.Asking.{asked_reading, IsReading}
use Rattle.history_rules.specs.State.{StreamQueues}
use Rattle.history_book.proofs.RoomLemmas.{queues-changed, AreQueues-at, IsRoomy-changed, All-behind}
use Rattle.history_book.proofs.reactor_half.ReactorWorks.read_gone.Goals as goal

pub invariant_of-self-2 : goal.invariant_of-self-2
invariant_of-self-2 c =
    let s = c.self.inside in
    let old = c.in-Some.queues.now in
    let at = c.in-Some.ensures.item.3.0 in
    let is = c.in-Some.ensures.value in
    let pop = c.pop_front in
    let are = AreQueues-at s.script.now s.world s.waits s.queues.items s.due c.args.stream old c.self.invariant at is in
    let less = ap length pop.ensures.rest ∙ length-drop 1 old.reads.items in
    IsRoomy-changed s.script.now s.world s.waits s.queues.items s.due s.due c.args.stream old
    (record { closed = old.closed; reads = pop.new.self; writes = old.writes }) c.self.invariant at is
    (record {
      reads = rw pop.ensures.rest (All-behind (IsReading s.script.now) old.reads.items are.reads);
      writes = are.writes;
      reads_room = rw pop.ensures.capacity are.reads_room;
      writes_room = are.writes_room;
    }) refl (omega (arith, c.self.invariant.pending))

pub returns : goal.returns
returns c =
    let s = c.self.inside in
    let old = c.in-Some.queues.now in
    let pop = c.pop_front in
    let change = λ (q : StreamQueues). record q { reads = drop 1 q.reads } in
    let changed =
    queues-changed s.script.now s.queues.items c.args.stream old
    (record { closed = old.closed; reads = pop.new.self; writes = old.writes }) change c.in-Some.ensures.item.3.0
    c.in-Some.ensures.value (rw (pop.ensures.rest, ← drop-map (asked (asked_reading s.script.now)) 1 old.reads.items))
    in
    rw (← c.self.view_is, changed)
