use Rattle.std.proofs.Common.{◌≡◌, ◌<◌, ◌+◌, [], List, drop, get_or, length, map, sym, ap, subst, ◌∙◌, arith}
use Rattle.std.specs.Vec.Iter.{into_iter_items}
use Rattle.std.proofs.lemmas.List.{length-map}
use Rattle.op_handlers.specs.Rack.{handlers_in}
use Rattle.op_handlers.specs.declared.rack.Rack.{Rack}
use Rattle.lane_map.specs.LaneNumbers.{is_op_on}
use Rattle.strand_core.specs.Hands.{KeepsInline}
use Rattle.strand_core.specs.Placing.{spread}
use Rattle.strand_core.proofs.FillingLemmas.{lane_held, made_length, made_more, next_row}
use Rattle.strand_core.proofs.hands.hands_of_racks.Given.{Over}
use Rattle.strand_core.proofs.hands.hands_of_racks.Goals as goal
use Rattle.strand_core.proofs.hands.hands_of_racks.Goals.{In-Some}

within : (g : Over) (c : In-Some g) → c.loop-held.lane < length c.args.racks.items
within g c = omega (arith, c.loop-held.invariant.size, c.in-Some.ensures.len)

row : (g : Over) (c : In-Some g) →
    (handlers_in c.in-Some.held ≡ get_or (map handlers_in c.args.racks.items) c.loop-held.lane [])
    × (map handlers_in (into_iter_items c.next.new.self)
    ≡ drop (c.loop-held.lane + 1) (map handlers_in c.args.racks.items))
row g c =
    next_row (map handlers_in c.args.racks.items) c.loop-held.lane (handlers_in c.in-Some.held) []
    (map handlers_in (into_iter_items c.next.new.self))
    (omega (arith, within g c, length-map c.args.racks.items (handlers_in {H = g.row.H.Denot})))
    (sym (ap (λ (xs : List (Rack g.row.H.Denot)). map handlers_in xs) c.in-Some.ensures.items)
    ∙ c.loop-held.invariant.rest)

pub invariant_of-push_reserved : goal.invariant_of-push_reserved
invariant_of-push_reserved g c =
    let at = (goal.at.invariant_of-push_reserved g c).In-Some in
    record {
      placed = c.requires.lanes;
      size = ap length (row g at).0 ∙ c.requires.sizes c.loop-held.lane (within g at);
      keeps =
          subst
          (λ hs.
          KeepsInline c.args.script.now
          (spread (is_op_on c.args.script.now c.loop-held.lane) (length c.args.script.now.acts) hs))
          (sym (row g at).0) (c.requires.keeps c.loop-held.lane (within g at));
    }

pub push_reserved-requires : goal.push_reserved-requires
push_reserved-requires g c =
    omega (
      arith,
      made_length (lane_held c.args.script.now (map handlers_in c.args.racks.items)) c.loop-held.hands.items c.loop-held.lane c.loop-held.invariant.made,
      within g (goal.at.push_reserved-requires g c).In-Some,
      c.loop-held.invariant.room,
      c.loop-held.hands.ok,
    )

pub loop-held-preserved : goal.loop-held-preserved
loop-held-preserved g c =
    let at = (goal.at.loop-held-preserved g c).In-Some in
    record {
      rest = (row g at).1;
      size = omega (arith, c.loop-held.invariant.size, c.in-Some.ensures.len);
      room = omega (arith, c.push_reserved.ensures.capacity, c.loop-held.invariant.room);
      made =
          c.push_reserved.ensures.items
          ∙ made_more (lane_held c.args.script.now (map handlers_in c.args.racks.items)) c.loop-held.hands.items _
          c.loop-held.lane c.loop-held.invariant.made
          (ap
          (λ hs. record {
            script = c.args.script.now;
            handlers = spread (is_op_on c.args.script.now c.loop-held.lane) (length c.args.script.now.acts) hs;
          })
          (row g at).0);
    }
