use Rattle.std.proofs.Common.{◌≡◌, ℕ, List, ap, arith, length, replicate, subst, ◌∙◌}
use Rattle.session_script.specs.declared.round.Round.{Round}
use Rattle.std.proofs.lemmas.List.{length-replicate}
use Rattle.lane_context.specs.Making.{worker_rooms}
use Rattle.lane_logs.specs.SeatNumbers.{worker_count}
use Rattle.lane_turns.specs.Rooms.{AreNewLogs, worker_room}
use Rattle.lane_context.proofs.StartLemmas.{lane_pens_count}
use Rattle.lane_context.proofs.making.log_room.Goals as goal

pub overflow_cast-rounds : goal.overflow_cast-rounds
overflow_cast-rounds c = omega (arith, c.rounds_are_few.ensures, ap (length {A = Round}) c.rounds.ensures)

pub returns : goal.returns
returns c =
    let count : c.worker_count.result ≡ worker_count c.args.script.now = c.worker_count.ensures.count in
    let rounds : length c.rounds.result.now ≡ worker_room c.args.script.now = ap (length {A = Round}) c.rounds.ensures in
    let listed : c.in_ok-worker_rooms.worker_rooms.items ≡ worker_rooms c.args.script.now =
    c.in_ok-worker_rooms.ensures.items_if_clones_equal (λ y same. same) ∙ ap (λ (n : ℕ). replicate n (length c.rounds.result.now)) count
    ∙ ap (replicate (worker_count c.args.script.now)) rounds in
    record {
      lanes =
          subst (λ (rooms : List ℕ). AreNewLogs rooms c.in_ok-new_logs.field-0.items)
          (c.as_slice.ensures.value ∙ c.in_ok-lane_rooms.ensures) c.in_ok-new_logs.ensures;
      reactor = omega (arith, c.in_ok-with_capacity.ensures.capacity, c.reactor_room.ensures);
      no_reactor = c.in_ok-with_capacity.ensures.items;
      workers =
          subst (λ (rooms : List ℕ). AreNewLogs rooms c.in_ok-new_logs-2.field-0.items)
          (c.as_slice-2.ensures.value ∙ listed) c.in_ok-new_logs-2.ensures;
      opener = omega (arith, c.in_ok-with_capacity-2.ensures.capacity, c.opener_room.ensures);
      no_opener = c.in_ok-with_capacity-2.ensures.items;
      lane_pens =
          omega (
            arith,
            c.in_ok-with_capacity-3.ensures.capacity,
            c.in_ok-lane_rooms.lane_rooms.ok,
            ap length c.in_ok-lane_rooms.ensures,
            lane_pens_count c.args.script.now,
          );
      no_lane_pens = c.in_ok-with_capacity-3.ensures.items;
      worker_pens =
          omega (
            arith,
            c.in_ok-with_capacity-4.ensures.capacity,
            c.in_ok-worker_rooms.worker_rooms.ok,
            ap length listed,
            length-replicate (worker_count c.args.script.now) (worker_room c.args.script.now),
          );
      no_worker_pens = c.in_ok-with_capacity-4.ensures.items;
    }
