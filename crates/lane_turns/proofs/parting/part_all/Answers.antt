use Rattle.std.proofs.Common.{◌∷◌, ◌++◌, [], ap, map, sym, ◌∙◌}
use Rattle.lane_turns.specs.Batons.{BatonView, LaneView}
use Rattle.lane_turns.specs.Workers.{WorkerView}
use Rattle.lane_turns.proofs.EndingLemmas.{made_in_lanes}
use Rattle.lane_turns.proofs.parting.part_all.Goals as goal

pub returns-clause-pens : goal.returns-clause-pens
returns-clause-pens g c =
    c.part_workers-pens.ensures.pens
    ∙ ap (λ xs. xs ++ map (λ (worker : WorkerView). worker.pen) c.args.workers.items)
    (c.push_reserved.ensures.items
    ∙ ap (λ xs. xs ++ c.reactor.inside.pen ∷ []) c.part_batons-pens.ensures.pens
    ∙ ap (λ (lane : LaneView).
    map (λ (baton : BatonView g.row.H.Denot). baton.lane.pen) c.args.batons.items ++ lane.pen ∷ []) c.reactor.view_is
    ∙ sym (made_in_lanes (λ (lane : LaneView). lane.pen) c.args.batons.items c.args.reactor))

pub returns-clause-missed : goal.returns-clause-missed
returns-clause-missed g c =
    c.push_reserved-2.ensures.items
    ∙ ap (λ xs. xs ++ c.reactor.inside.at.missed ∷ []) c.part_batons-pens.ensures.missed
    ∙ ap (λ (lane : LaneView).
    map (λ (baton : BatonView g.row.H.Denot). baton.lane.missed) c.args.batons.items ++ lane.missed ∷ [])
    c.reactor.view_is
    ∙ sym (made_in_lanes (λ (lane : LaneView). lane.missed) c.args.batons.items c.args.reactor)
