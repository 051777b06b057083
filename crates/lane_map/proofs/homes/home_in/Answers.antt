use Rattle.std.proofs.Common.{ap, sym, subst, ◌∙◌, arith}
use Rattle.asio_types.specs.declared.number.Lane.TheVariants as lane
use Rattle.lane_map.specs.LaneNumbers.{home_lane, lane_number}
use Rattle.lane_map.proofs.CountLemmas.{read_table, table_length}
use Rattle.lane_map.proofs.PlaceLemmas.{IsKnown, lanes_are_known}
use Rattle.lane_map.proofs.homes.home_in.Goals as goal

pub bounds-homes-op : goal.bounds-homes-op
bounds-homes-op c =
    let known : IsKnown c.args.script.now c.args.a (lane.Own c.in-Own.op) =
    subst (IsKnown c.args.script.now c.args.a) (sym c.lane_of.ensures ∙ c.in-Own.is)
    (lanes_are_known c.args.script.now c.parents_come_first.ensures c.acts_fit.ensures c.args.a c.requires.within) in
    omega (
      arith,
      known.0,
      table_length (home_lane c.args.script.now) c.args.homes.now c.args.a c.requires.homes,
      c.if-op-a.false,
    )

pub returns-else-op-a : goal.returns-else-op-a
returns-else-op-a c =
    let known : IsKnown c.args.script.now c.args.a (lane.Own c.in-Own.op) =
    subst (IsKnown c.args.script.now c.args.a) (sym c.lane_of.ensures ∙ c.in-Own.is)
    (lanes_are_known c.args.script.now c.parents_come_first.ensures c.acts_fit.ensures c.args.a c.requires.within) in
    read_table (home_lane c.args.script.now) c.args.homes.now c.args.a c.in-Own.op c.requires.homes
    (omega (arith, known.0, c.if-op-a.false))
    ∙ ap (lane_number c.args.script.now) known.1
    ∙ sym (ap (lane_number c.args.script.now) (sym c.lane_of.ensures ∙ c.in-Own.is))
