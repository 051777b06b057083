use Rattle.std.proofs.Common.{length, ap, sym, ◌∙◌}
use Rattle.asio_types.specs.declared.world.World.{World}
use Rattle.history_book.specs.Played.{first_played}
use Rattle.history_book.specs.QueueRoom.{ops_on}
use Rattle.history_book.proofs.RoomLemmas.{queues-first, AreNew-rooms, IsRoomy-first}
use Rattle.history_book.proofs.reactor_half.ReactorWorks.make.Goals as goal

pub invariant_of-result : goal.invariant_of-result
invariant_of-result c =
    let acts = c.acts-acts.ensures.count in
    let world = c.in_ok-world.ensures ∙ ap (λ (w : World). first_played w c.args.told) c.world.ensures in
    let streams = ap (λ (w : World). w.streams) c.world-3.ensures in
    let count =
    c.in_ok-queues.ensures.count ∙ ap length c.as_slice.ensures.value ∙ c.in_ok-rooms.ensures.count ∙ streams in
    let all =
    AreNew-rooms c.args.script.now c.in_ok-rooms.rooms.items c.in_ok-queues.queues.items c.world-3.result.now.streams
    (rw c.as_slice.ensures.value at c.in_ok-queues.ensures.each) c.in_ok-rooms.ensures.each (count ∙ sym streams) in
    IsRoomy-first c.args.script.now c.args.told c.in_ok-world.world c.in_ok-waits.waits c.in_ok-queues.queues.items
    c.in_ok-due.due world count all c.in_ok-waits.ensures.items c.in_ok-due.ensures.items
    (c.in_ok-waits.ensures.exact ∙ acts) (c.in_ok-due.ensures.exact ∙ acts)

pub returns : goal.returns
returns c =
    let acts = c.acts-acts.ensures.count in
    let world = c.in_ok-world.ensures ∙ ap (λ (w : World). first_played w c.args.told) c.world.ensures in
    let streams = ap (λ (w : World). w.streams) c.world-3.ensures in
    let count =
    c.in_ok-queues.ensures.count ∙ ap length c.as_slice.ensures.value ∙ c.in_ok-rooms.ensures.count ∙ streams in
    let all =
    AreNew-rooms c.args.script.now c.in_ok-rooms.rooms.items c.in_ok-queues.queues.items c.world-3.result.now.streams
    (rw c.as_slice.ensures.value at c.in_ok-queues.ensures.each) c.in_ok-rooms.ensures.each (count ∙ sym streams) in
    let queues = queues-first c.args.script.now c.in_ok-queues.queues.items (ops_on c.args.script.now) all in
    rw (
      world,
      c.in_ok-taken.ensures,
      acts,
      c.in_ok-guards.ensures,
      c.guards.ensures,
      c.in_ok-expiries.ensures,
      c.timers.ensures,
      c.in_ok-slots.ensures,
      c.slots.ensures,
      queues,
      count,
      c.in_ok-waits.ensures.items,
      c.in_ok-due.ensures.items,
    )
