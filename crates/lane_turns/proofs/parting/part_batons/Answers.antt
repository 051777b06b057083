use Rattle.std.proofs.Common.{◌≡◌, ◌∷◌, ◌++◌, [], None, Option, Some, ap, arith, length-append, refl, subst, ◌∙◌}
use Rattle.std.specs.Vec.Iter.{into_iter_items, into_iter_len, into_iter_steps}
use Rattle.lane_turns.specs.Batons.{BatonView, IsHandlerBaton, LaneView}
use Rattle.lane_turns.proofs.PartingLemmas.{going_each, going_more, going_none, made_more, none_else}
use Rattle.lane_turns.proofs.parting.part_batons.Goals as goal

pub loop-baton-init : goal.loop-baton-init
loop-baton-init g c =
    record {
      front = [];
      going =
          going_none
          (λ (baton : BatonView g.row.H.Denot).
          IsHandlerBaton g.N.LaneSession.names g.H.CompletionHandler.marks g.N.LaneSession.clock baton)
          c.args.batons.items (into_iter_items c.into_iter-rest.result) c.into_iter-rest.ensures.rest;
      pens = c.requires.no_pens;
      missed = c.requires.no_misses;
      hands = c.requires.no_hands;
      size = omega (arith, c.into_iter-rest.ensures.len, c.args.batons.ok);
      pen_room = refl;
      miss_room = refl;
      hand_room = refl;
    }

pub loop-baton-preserved : goal.loop-baton-preserved
loop-baton-preserved g c =
    let before = c.loop-baton.invariant in
    record {
      front = before.front ++ c.in-Some.baton ∷ [];
      going =
          going_more
          (λ (baton : BatonView g.row.H.Denot).
          IsHandlerBaton g.N.LaneSession.names g.H.CompletionHandler.marks g.N.LaneSession.clock baton)
          c.args.batons.items (into_iter_items c.loop-baton.rest) (into_iter_items c.next.new.self) before.front
          c.in-Some.baton c.in-Some.ensures.items
          (subst (λ (baton : BatonView g.row.H.Denot).
          IsHandlerBaton g.N.LaneSession.names g.H.CompletionHandler.marks g.N.LaneSession.clock baton) c.baton.view_is
          c.baton.invariant)
          before.going;
      pens =
          made_more (λ (baton : BatonView g.row.H.Denot). baton.lane.pen) [] c.loop-baton.pens.items
          c.push_reserved.new.self.items before.front c.in-Some.baton before.pens
          (c.push_reserved.ensures.items
          ∙ ap (λ (lane : LaneView). c.loop-baton.pens.items ++ lane.pen ∷ [])
          (c.lane.view_is ∙ ap (λ (baton : BatonView g.row.H.Denot). baton.lane) c.baton.view_is));
      missed =
          made_more (λ (baton : BatonView g.row.H.Denot). baton.lane.missed) [] c.loop-baton.missed.items
          c.push_reserved-in-Some.new.self.items before.front c.in-Some.baton before.missed
          (c.push_reserved-in-Some.ensures.items
          ∙ ap (λ (lane : LaneView). c.loop-baton.missed.items ++ lane.missed ∷ [])
          (c.lane.view_is ∙ ap (λ (baton : BatonView g.row.H.Denot). baton.lane) c.baton.view_is));
      hands =
          made_more (λ (baton : BatonView g.row.H.Denot). Some baton.hands) [] c.loop-baton.all_hands.items
          c.push_reserved-in-Some-2.new.self.items before.front c.in-Some.baton before.hands
          (c.push_reserved-in-Some-2.ensures.items
          ∙ ap (λ (baton : BatonView g.row.H.Denot). c.loop-baton.all_hands.items ++ Some baton.hands ∷ [])
          c.baton.view_is);
      size =
          omega (
            arith,
            before.size,
            c.in-Some.ensures.len,
            length-append before.front (c.in-Some.baton ∷ []),
          );
      pen_room = c.push_reserved.ensures.capacity ∙ before.pen_room;
      miss_room = c.push_reserved-in-Some.ensures.capacity ∙ before.miss_room;
      hand_room = c.push_reserved-in-Some-2.ensures.capacity ∙ before.hand_room;
    }

pub returns-clause-are : goal.returns-clause-are
returns-clause-are g c =
    let none : c.next.result ≡ None = none_else c.next.result c.in_default.not-Some in
    let ended : into_iter_len c.loop-baton.rest ≡ 0 =
    (subst (λ (o : Option (BatonView g.row.H.Denot)). into_iter_steps c.loop-baton.rest o c.next.new.self) none
    c.next.ensures.cases).0 in
    going_each
    (λ (baton : BatonView g.row.H.Denot).
    IsHandlerBaton g.N.LaneSession.names g.H.CompletionHandler.marks g.N.LaneSession.clock baton)
    c.args.batons.items (into_iter_items c.loop-baton.rest) c.loop-baton.invariant.front
    (omega (arith, ended, c.loop-baton.invariant.size)) c.loop-baton.invariant.going
