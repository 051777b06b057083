use Rattle.std.proofs.Common.{◌≡◌, ◌<◌, ◌+◌, ◌++◌, ◌∷◌, [], length, sym, ap, subst, arith, ◌∙◌, append_assoc, length-append}
use Rattle.std.specs.Vec.Iter.{into_iter_items}
use Rattle.std.proofs.lemmas.List.{length-replicate}
use Rattle.lane_logs.specs.SeatNumbers.{lane_count, worker_count}
use Rattle.lane_turns.specs.Firsts.{IsFirstWorker}
use Rattle.lane_turns.specs.Rooms.{IsNewPen, worker_room}
use Rattle.lane_turns.proofs.NewPenLemmas.{each_pushed}
use Rattle.lane_context.proofs.StartLemmas.{worker_first, worker_pen, worker_pen_new, worker_seat}
use Rattle.lane_context.proofs.first_batons.first_workers.Given.{Over}
use Rattle.lane_context.proofs.first_batons.first_workers.Goals as goal
use Rattle.lane_context.proofs.first_batons.first_workers.Goals.{In-Some}

split : (g : Over) (c : In-Some g) → c.args.pens.items
    ≡ c.loop-pen.invariant.front ++ c.in-Some.pen ∷ into_iter_items c.next.new.self
split g c = c.loop-pen.invariant.split ∙ ap (λ xs. c.loop-pen.invariant.front ++ xs) c.in-Some.ensures.items

within : (g : Over) (c : In-Some g) → length c.loop-pen.invariant.front < worker_count c.args.script.now
within g c =
    omega (
      arith,
      c.loop-pen.invariant.size,
      c.in-Some.ensures.len,
      c.requires.pens.0,
      length-replicate (worker_count c.args.script.now) (worker_room c.args.script.now),
    )

new : (g : Over) (c : In-Some g) →
    IsNewPen g.N.LaneSession.clock (lane_count c.args.script.now + length c.loop-pen.invariant.front)
    (worker_room c.args.script.now) c.in-Some.pen
new g c =
    worker_pen_new c.args.script.now g.N.LaneSession.clock c.args.pens.items c.loop-pen.invariant.front c.in-Some.pen
    (into_iter_items c.next.new.self) (split g c) c.requires.pens (within g c)

pub first_worker-requires-clause-pen : goal.first_worker-requires-clause-pen
first_worker-requires-clause-pen g c =
    let at = (goal.at.first_worker-requires-clause-pen g c).In-Some in
    worker_pen c.args.script.now g.N.LaneSession.clock (length c.loop-pen.invariant.front) c.in-Some.pen (new g at)

pub first_worker-requires-clause-worker : goal.first_worker-requires-clause-worker
first_worker-requires-clause-worker g c =
    let at = (goal.at.first_worker-requires-clause-worker g c).In-Some in
    worker_seat c.args.script.now g.N.LaneSession.clock (length c.loop-pen.invariant.front) c.in-Some.pen (new g at)
    (within g at)

pub loop-pen-preserved : goal.loop-pen-preserved
loop-pen-preserved g c =
    let at = (goal.at.loop-pen-preserved g c).In-Some in
    let before = c.loop-pen.invariant in
    let longer : length (before.front ++ c.in-Some.pen ∷ []) ≡ length before.front + 1 =
    omega (arith, length-append before.front (c.in-Some.pen ∷ [])) in
    record {
      front = before.front ++ c.in-Some.pen ∷ [];
      split =
          split g at ∙ sym (append_assoc before.front (c.in-Some.pen ∷ []) (into_iter_items c.next.new.self));
      size = omega (arith, before.size, c.in-Some.ensures.len, longer);
      made =
          omega (
            arith,
            ap length c.push_reserved.ensures.items,
            length-append c.loop-pen.workers.items (c.first_worker.result ∷ []),
            before.made,
            longer,
          );
      room = omega (arith, before.room, c.push_reserved.ensures.capacity);
      each =
          each_pushed (IsFirstWorker c.args.script.now g.N.LaneSession.clock) c.loop-pen.workers.items
          c.push_reserved.new.self.items c.first_worker.result c.push_reserved.ensures.items before.each
          (subst (λ k. IsFirstWorker c.args.script.now g.N.LaneSession.clock k c.first_worker.result)
          (sym before.made)
          (worker_first c.args.script.now g.N.LaneSession.clock (length before.front) c.in-Some.pen
          c.first_worker.result c.first_worker.ensures (new g at)));
    }
