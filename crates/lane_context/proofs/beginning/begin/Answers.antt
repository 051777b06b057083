use Rattle.std.proofs.Common.{◌≡◌, ◌∷◌, [], ℕ, ap, arith, length, subst, sym, ◌∙◌, length-append}
use Rattle.strand_core.specs.Hands.{Held}
use Rattle.reactor_turns.specs.Ahead.{most_turn_events}
use Rattle.lane_map.specs.LaneNumbers.{reactor_lane}
use Rattle.lane_map.proofs.NumberLemmas.{lane_count as lanes_listed}
use Rattle.lane_logs.specs.SeatNumbers.{opener_seat}
use Rattle.lane_turns.specs.Batons.{HaveHands, LaneView}
use Rattle.lane_turns.specs.Firsts.{first_opener}
use Rattle.lane_turns.specs.Openers.{OpenerView, round_of}
use Rattle.lane_turns.specs.Pens.{PenView}
use Rattle.lane_turns.specs.Rooms.{IsNewPen, opener_room}
use Rattle.lane_turns.proofs.LogRoomLemmas.{few_lanes}
use Rattle.lane_context.proofs.StartLemmas.{baton_listed, each_front, lane_itself}
use Rattle.lane_context.proofs.beginning.begin.Goals as goal

pub overflow_cast-lane : goal.overflow_cast-lane
overflow_cast-lane g c =
    omega (
      arith,
      c.len.ensures,
      c.args.hands.ok,
      c.requires.count,
      few_lanes c.args.script.now c.scripts_are_well_formed.ensures,
    )

pub first_batons-requires-clause-count : goal.first_batons-requires-clause-count
first_batons-requires-clause-count g c =
    omega (
      arith,
      ap length c.in-Some.ensures.items,
      length-append c.pop.new.self.items (c.in-Some.none ∷ []),
      c.requires.count,
      lanes_listed c.args.script.now,
    )

pub first_batons-requires-clause-hands : goal.first_batons-requires-clause-hands
first_batons-requires-clause-hands g c =
    each_front c.args.hands.items c.pop.new.self.items (c.in-Some.none ∷ []) c.in-Some.ensures.items
    (λ lane (own : Held g.row.H.Denot).
    HaveHands g.N.LaneSession.names g.H.CompletionHandler.marks lane [] own) c.requires.hands

pub first_reactor-requires-clause-last : goal.first_reactor-requires-clause-last
first_reactor-requires-clause-last g c =
    omega (
      arith,
      ap (λ (view : LaneView). view.lane) c.first_state-state.ensures,
      c.len.ensures,
      c.args.hands.ok,
      c.requires.count,
      lanes_listed c.args.script.now,
    )

pub first_reactor-requires-clause-pen : goal.first_reactor-requires-clause-pen
first_reactor-requires-clause-pen g c =
    let lane : c.first_state-state.result.lane ≡ reactor_lane c.args.script.now =
    omega (
      arith,
      ap (λ (view : LaneView). view.lane) c.first_state-state.ensures,
      c.len.ensures,
      c.args.hands.ok,
      c.requires.count,
      lanes_listed c.args.script.now,
    ) in
    subst (λ (n : ℕ).
    IsNewPen g.N.LaneSession.clock n (most_turn_events c.args.script.now) c.first_state-state.result.pen) (sym lane)
    (subst (λ (pen : PenView).
    IsNewPen g.N.LaneSession.clock (reactor_lane c.args.script.now) (most_turn_events c.args.script.now) pen)
    (sym (ap (λ (view : LaneView). view.pen) c.first_state-state.ensures)) c.requires.reactor_pen)

pub first_workers-requires-clause-round : goal.first_workers-requires-clause-round
first_workers-requires-clause-round g c =
    c.round-round.ensures ∙ ap (round_of c.args.script.now) c.first_standing-rounds.ensures

pub returns : goal.returns
returns g c =
    let same = c.first_reactor.ensures.lane ∙ c.first_state-state.ensures in
    let lane : c.first_reactor.result.lane.lane ≡ reactor_lane c.args.script.now =
    omega (
      arith,
      ap (λ (view : LaneView). view.lane) same,
      c.len.ensures,
      c.args.hands.ok,
      c.requires.count,
      lanes_listed c.args.script.now,
    ) in
    let pen = ap (λ (view : OpenerView). view.pen) c.first_opener.ensures in
    record {
      count = c.first_batons.ensures.count;
      lanes = λ k one at.
          baton_listed c.args.script.now g.N.LaneSession.clock c.args.hands.items c.pop.new.self.items
          (c.in-Some.none ∷ []) k one c.in-Some.ensures.items (c.first_batons.ensures.each k one at);
      reactor_pen =
          subst (λ (pen : PenView).
          IsNewPen g.N.LaneSession.clock (reactor_lane c.args.script.now) (most_turn_events c.args.script.now) pen)
          (sym (ap (λ (view : LaneView). view.pen) same)) c.requires.reactor_pen;
      reactor_is =
          lane_itself c.args.script.now _ (reactor_lane c.args.script.now) _ c.first_reactor.result.lane same lane;
      work = c.first_workers.ensures.count;
      workers_are = c.first_workers.ensures.each;
      opener_pen =
          subst (λ (pen : PenView).
          IsNewPen g.N.LaneSession.clock (opener_seat c.args.script.now) (opener_room c.args.script.now) pen)
          (sym pen) c.requires.opener_pen;
      opener_is = c.first_opener.ensures ∙ ap (first_opener c.args.script.now) (sym pen);
    }
