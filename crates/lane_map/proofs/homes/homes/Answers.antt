use Rattle.std.proofs.Common.{◌++◌, ◌∷◌, [], ℕ, List, map, ap, sym, ◌∙◌, arith}
use Rattle.std.specs.List.{range_with_len}
use Rattle.std.proofs.lemmas.List.FromFn.{map-range_with_len_more}
use Rattle.lane_map.specs.LaneNumbers.{has_own_lane, home_lane, is_own}
use Rattle.lane_map.proofs.CountLemmas.{passing_by, passing_here, table_length}
use Rattle.lane_map.proofs.homes.homes.Goals as goal
use Rattle.lane_map.proofs.homes.homes.Goals.{then-is_own, else-is_own}

pub push_reserved-requires : goal.push_reserved-requires
push_reserved-requires c =
    omega (
      arith,
      table_length (home_lane c.args.script.now) c.loop-a.homes.items c.loop-a.a c.loop-a.invariant.homes,
      c.loop-a.invariant.room,
      c.loop-a.homes.ok,
    )

pub loop-a-preserved : goal.loop-a-preserved
loop-a-preserved c = record {
  own = elim c.if-is_own.branch [
    | then-is_own w ↦
        omega (
          arith,
          w.own-is,
          c.loop-a.invariant.own,
          passing_here (has_own_lane c.args.script.now) c.loop-a.a
              (sym (c.is_own.ensures ∙ ap (is_own c.loop-a.a) c.lane_of.ensures) ∙ w.if-is_own.true),
        )
    | else-is_own w ↦
        omega (
          arith,
          w.own-is,
          c.loop-a.invariant.own,
          passing_by (has_own_lane c.args.script.now) c.loop-a.a
              (sym (c.is_own.ensures ∙ ap (is_own c.loop-a.a) c.lane_of.ensures) ∙ w.if-is_own.false),
        )
  ];
  homes =
      c.push_reserved.ensures.items ∙ ap (λ (xs : List ℕ). xs ++ c.home_in-home.result ∷ []) c.loop-a.invariant.homes
      ∙ ap (λ h. map (home_lane c.args.script.now) (range_with_len 0 c.loop-a.a) ++ h ∷ []) c.home_in-home.ensures
      ∙ sym (map-range_with_len_more (home_lane c.args.script.now) 0 c.loop-a.a c.loop-a.a (omega arith));
  room = omega (arith, c.push_reserved.ensures.capacity, c.loop-a.invariant.room);
}
