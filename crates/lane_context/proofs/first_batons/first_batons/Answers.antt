use Rattle.std.proofs.Common.{◌≡◌, ◌<◌, ◌+◌, ◌++◌, ◌∷◌, [], List, Option, Some, length, refl, sym, ap, subst, arith, ◌∙◌, append_assoc, length-append}
use Rattle.std.specs.Prelude.{slice_get}
use Rattle.std.specs.Vec.Iter.{into_iter_items, into_iter_len, into_iter_steps}
use Rattle.lane_map.specs.LaneNumbers.{reactor_lane}
use Rattle.lane_map.proofs.NumberLemmas.{lane_count}
use Rattle.lane_logs.specs.declared.log.LogEntry.{LogEntry}
use Rattle.lane_turns.specs.Batons.{HaveHands, LaneView}
use Rattle.lane_turns.specs.Firsts.{IsFirstBaton}
use Rattle.lane_turns.specs.Pens.{PenView}
use Rattle.lane_turns.specs.Rooms.{IsNewPen, lane_room}
use Rattle.lane_turns.proofs.LogRoomLemmas.{few_lanes}
use Rattle.lane_turns.proofs.NewPenLemmas.{each_none, each_pushed, reached}
use Rattle.lane_context.proofs.StartLemmas.{baton_first, lane_pen_new, lane_pens_count}
use Rattle.lane_context.proofs.first_batons.first_batons.Given.{Over}
use Rattle.lane_context.proofs.first_batons.first_batons.Goals as goal
use Rattle.lane_context.proofs.first_batons.first_batons.Goals.{In-Some, In-Some-next}

pub loop-own-init : goal.loop-own-init
loop-own-init g c =
    record {
      front = [];
      split = sym c.into_iter-rest.ensures.rest;
      size = omega (arith, c.into_iter-rest.ensures.len, c.args.hands.ok);
      at = refl;
      pens = [];
      pens_split = sym c.into_iter-next_pens.ensures.rest;
      pens_size = omega (arith, c.into_iter-next_pens.ensures.len, c.args.pens.ok);
      together = refl;
      made = ap length c.requires.none;
      room = omega (arith, c.requires.room);
      each =
          each_none (IsFirstBaton c.args.script.now g.N.LaneSession.clock c.args.hands.items) c.args.batons.items
          c.requires.none;
    }

split : (g : Over) (c : In-Some g) → c.args.hands.items
    ≡ c.loop-own.invariant.front ++ c.in-Some.own ∷ into_iter_items c.next.new.self
split g c = c.loop-own.invariant.split ∙ ap (λ xs. c.loop-own.invariant.front ++ xs) c.in-Some.ensures.items

within : (g : Over) (c : In-Some g) → c.loop-own.lane < reactor_lane c.args.script.now
within g c =
    omega (arith, c.loop-own.invariant.size, c.loop-own.invariant.at, c.in-Some.ensures.len, c.requires.count)

there : (g : Over) (c : In-Some g) → slice_get c.args.hands.items c.loop-own.lane ≡ Some c.in-Some.own
there g c =
    subst (λ k. slice_get c.args.hands.items k ≡ Some c.in-Some.own) (sym c.loop-own.invariant.at)
    (reached c.args.hands.items c.loop-own.invariant.front c.in-Some.own (into_iter_items c.next.new.self) (split g c))

pub unreachable-requires : goal.unreachable-requires
unreachable-requires g c =
    let at = (goal.at.unreachable-requires g c).In-Some in
    let ended : into_iter_len c.loop-own.next_pens ≡ 0 =
    (subst (λ (o : Option PenView). into_iter_steps c.loop-own.next_pens o c.next-in-Some.new.self)
    c.in_default-next.is c.next-in-Some.ensures.cases).0 in
    absurd (omega (
      arith,
      ended,
      within g at,
      c.loop-own.invariant.pens_size,
      c.loop-own.invariant.together,
      c.loop-own.invariant.at,
      c.requires.pens.0,
      lane_pens_count c.args.script.now,
    ))

pens_split : (g : Over) (c : In-Some-next g) → c.args.pens.items
    ≡ c.loop-own.invariant.pens ++ c.in-Some-next.pen ∷ into_iter_items c.next-in-Some.new.self
pens_split g c =
    c.loop-own.invariant.pens_split ∙ ap (λ xs. c.loop-own.invariant.pens ++ xs) c.in-Some-next.ensures.items

new : (g : Over) (c : In-Some-next g) → c.loop-own.lane < reactor_lane c.args.script.now →
    IsNewPen g.N.LaneSession.clock c.loop-own.lane (lane_room c.args.script.now c.loop-own.lane) c.in-Some-next.pen
new g c less =
    lane_pen_new c.args.script.now g.N.LaneSession.clock c.args.pens.items c.loop-own.invariant.pens
    c.in-Some-next.pen (into_iter_items c.next-in-Some.new.self) (pens_split g c) c.loop-own.lane c.requires.pens
    (omega (arith, c.loop-own.invariant.together, c.loop-own.invariant.at)) less

pub first_baton-requires-clause-pen : goal.first_baton-requires-clause-pen
first_baton-requires-clause-pen g c =
    let first = (goal.at.first_baton-requires-clause-pen g c).In-Some in
    let at = (goal.at.first_baton-requires-clause-pen g c).In-Some-next in
    subst (λ (view : LaneView).
    IsNewPen g.N.LaneSession.clock view.lane (lane_room c.args.script.now view.lane) view.pen)
    (sym c.first_state-state.ensures) (new g at (within g first))

pub first_baton-requires-clause-hands : goal.first_baton-requires-clause-hands
first_baton-requires-clause-hands g c =
    let first = (goal.at.first_baton-requires-clause-hands g c).In-Some in
    let at = (goal.at.first_baton-requires-clause-hands g c).In-Some-next in
    subst (λ (view : LaneView).
    HaveHands g.N.LaneSession.names g.H.CompletionHandler.marks view.lane view.pen.log c.in-Some.own)
    (sym c.first_state-state.ensures)
    (subst (λ (log : List LogEntry).
    HaveHands g.N.LaneSession.names g.H.CompletionHandler.marks c.loop-own.lane log c.in-Some.own)
    (sym (new g at (within g first)).log) (c.requires.hands c.loop-own.lane c.in-Some.own (there g first)))

pub overflow_add-lane : goal.overflow_add-lane
overflow_add-lane g c =
    let at = (goal.at.overflow_add-lane g c).In-Some in
    omega (
      arith,
      within g at,
      few_lanes c.args.script.now c.scripts_are_well_formed.ensures,
      lane_count c.args.script.now,
    )

pub loop-own-preserved : goal.loop-own-preserved
loop-own-preserved g c =
    let first = (goal.at.loop-own-preserved g c).In-Some in
    let at = (goal.at.loop-own-preserved g c).In-Some-next in
    let before = c.loop-own.invariant in
    let longer : length (before.front ++ c.in-Some.own ∷ []) ≡ length before.front + 1 =
    omega (arith, length-append before.front (c.in-Some.own ∷ [])) in
    let more : length (before.pens ++ c.in-Some-next.pen ∷ []) ≡ length before.pens + 1 =
    omega (arith, length-append before.pens (c.in-Some-next.pen ∷ [])) in
    record {
      front = before.front ++ c.in-Some.own ∷ [];
      split =
          split g first ∙ sym (append_assoc before.front (c.in-Some.own ∷ []) (into_iter_items c.next.new.self));
      size = omega (arith, before.size, c.in-Some.ensures.len, longer);
      at = omega (arith, before.at, longer);
      pens = before.pens ++ c.in-Some-next.pen ∷ [];
      pens_split =
          pens_split g at
          ∙ sym (append_assoc before.pens (c.in-Some-next.pen ∷ []) (into_iter_items c.next-in-Some.new.self));
      pens_size = omega (arith, before.pens_size, c.in-Some-next.ensures.len, more);
      together = omega (arith, before.together, longer, more);
      made =
          omega (
            arith,
            ap length c.push_reserved.ensures.items,
            length-append c.loop-own.batons.items (c.first_baton.result ∷ []),
            before.made,
            longer,
          );
      room = omega (arith, before.room, c.push_reserved.ensures.capacity);
      each =
          each_pushed (IsFirstBaton c.args.script.now g.N.LaneSession.clock c.args.hands.items)
          c.loop-own.batons.items c.push_reserved.new.self.items c.first_baton.result c.push_reserved.ensures.items
          before.each
          (subst (λ k.
          IsFirstBaton c.args.script.now g.N.LaneSession.clock c.args.hands.items k c.first_baton.result)
          (before.at ∙ sym before.made)
          (baton_first c.args.script.now g.N.LaneSession.clock c.args.hands.items c.loop-own.lane c.in-Some-next.pen
          c.in-Some.own c.first_baton.result (c.first_baton.ensures.lane ∙ c.first_state-state.ensures)
          (new g at (within g first)) (there g first) c.first_baton.ensures.hands));
    }
