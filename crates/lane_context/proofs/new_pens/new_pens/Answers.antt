use Rattle.std.proofs.Common.{◌≡◌, ◌+◌, ◌++◌, ◌∷◌, [], get_or, length, map, sym, ap, arith, ◌∙◌, append_assoc, length-append}
use Rattle.std.specs.Prelude.{vec_capacity}
use Rattle.std.specs.Vec.Iter.{into_iter_items}
use Rattle.lane_clock.specs.Seats.{SeatsLeft, SeatView, new_clock_seat, one_given}
use Rattle.lane_turns.specs.Rooms.{IsNewPen}
use Rattle.lane_turns.proofs.NewPenLemmas.{each_pushed, mapped_seam, reached, same_pen}
use Rattle.lane_context.proofs.new_pens.new_pens.Goals as goal
use Rattle.lane_context.proofs.new_pens.new_pens.Goals.{In-Some}

-- the logs behind us, the next and the rest
split : (c : In-Some) → c.args.logs.items
    ≡ c.loop-log.invariant.front ++ c.in-Some.log ∷ into_iter_items c.next.new.self
split c = c.loop-log.invariant.split ∙ ap (λ xs. c.loop-log.invariant.front ++ xs) c.in-Some.ensures.items

pub new_pen-requires-clause-none : goal.new_pen-requires-clause-none
new_pen-requires-clause-none c =
    let at = (goal.at.new_pen-requires-clause-none c).In-Some in
    c.requires.logs _ c.in-Some.log
    (reached c.args.logs.items c.loop-log.invariant.front c.in-Some.log (into_iter_items c.next.new.self) (split at))

pub loop-log-preserved : goal.loop-log-preserved
loop-log-preserved c =
    let at = (goal.at.loop-log-preserved c).In-Some in
    let before = c.loop-log.invariant in
    let longer : length (before.front ++ c.in-Some.log ∷ []) ≡ length before.front + 1 =
    omega (arith, length-append before.front (c.in-Some.log ∷ [])) in
    let seat = c.in-Some-next.ensures.some ∙ ap (λ (s : SeatsLeft). new_clock_seat s.clock s.next) before.seats in
    record {
      front = before.front ++ c.in-Some.log ∷ [];
      split =
          split at ∙ sym (append_assoc before.front (c.in-Some.log ∷ []) (into_iter_items c.next.new.self));
      size = omega (arith, before.size, c.in-Some.ensures.len, longer);
      made =
          omega (
            arith,
            ap length c.push_reserved.ensures.items,
            length-append c.loop-log.pens.items (c.new_pen.result ∷ []),
            before.made,
            longer,
          );
      seats =
          c.in-Some-next.ensures.given ∙ ap one_given before.seats
          ∙ ap (λ n. record { clock = c.args.seats.now.clock; next = n })
          (let e : c.args.seats.now.next + length before.front + 1
          ≡ c.args.seats.now.next + length (before.front ++ c.in-Some.log ∷ []) = omega (arith, longer) in e);
      room = omega (arith, before.room, c.push_reserved.ensures.capacity);
      each =
          each_pushed
          (λ k pen.
          IsNewPen c.args.seats.now.clock (c.args.seats.now.next + k)
          (get_or (map vec_capacity c.args.logs.items) k 0) pen)
          c.loop-log.pens.items c.push_reserved.new.self.items c.new_pen.result c.push_reserved.ensures.items
          before.each
          (same_pen c.in-Some-next.seat.clock c.args.seats.now.clock c.in-Some-next.seat.number
          (c.args.seats.now.next + length c.loop-log.pens.items) (vec_capacity c.in-Some.log)
          (get_or (map vec_capacity c.args.logs.items) (length c.loop-log.pens.items) 0) c.new_pen.result
          c.new_pen.ensures (ap (λ (s : SeatView). s.clock) seat)
          (omega (arith, ap (λ (s : SeatView). s.number) seat, before.made))
          (omega (
            arith,
            ap (λ k. get_or (map vec_capacity c.args.logs.items) k 0) before.made,
            mapped_seam vec_capacity c.args.logs.items before.front c.in-Some.log (into_iter_items c.next.new.self)
                (split at),
          )));
    }
