use Rattle.std.proofs.Common.{◌≡◌, ◌<◌, ◌+◌, ◌++◌, ◌∷◌, [], ℕ, List, map, Vec, Global, length, get_or, arith, ap, sym, subst, ◌∙◌, vec_len}
use Rattle.std.proofs.lemmas.List.{get_or-replicate, get_or_read}
use Rattle.std.proofs.lemmas.List.FromFn.{map-range_with_len_more}
use Rattle.std.specs.List.{range_with_len}
use Rattle.session_script.specs.Script.{is_op}
use Rattle.lane_map.specs.LaneNumbers.{home_lane, rank_of}
use Rattle.lane_map.proofs.CountLemmas.{AreCounted, all_counted, counted_at, counted_fits, one_passed, read_table, table_length}
use Rattle.lane_map.proofs.counting.ranks.Goals as goal
use Rattle.lane_map.proofs.counting.ranks.Goals.{then-is_op, else-is_op}

pub loop-a-init : goal.loop-a-init
loop-a-init c = record {
  size = omega (arith, c.in_ok-operations.ensures.len);
  counted = λ k less.
      ap (λ xs. get_or xs k 0) (c.in_ok-operations.ensures.items_if_clones_equal (λ y same. same))
      ∙ get_or-replicate c.args.lanes k 0 0 less;
  rank = c.in_ok-rank.ensures.items;
  room =
      omega (
        arith,
        c.in_ok-rank.ensures.capacity,
        table_length (home_lane c.args.script.now) c.args.home.now _ c.requires.homes,
      );
}

pub index-requires : goal.index-requires
index-requires c =
    omega (
      arith,
      read_table (home_lane c.args.script.now) c.args.home.now _ c.loop-a.a c.requires.homes (omega arith),
      c.requires.within c.loop-a.a (omega arith),
      c.loop-a.invariant.size,
    )

pub push_reserved-requires : goal.push_reserved-requires
push_reserved-requires c =
    omega (
      arith,
      table_length (rank_of c.args.script.now) c.loop-a.rank.items c.loop-a.a c.loop-a.invariant.rank,
      c.loop-a.invariant.room,
      c.loop-a.rank.ok,
    )

pub index_mut-requires : goal.index_mut-requires
index_mut-requires c =
    omega (
      arith,
      read_table (home_lane c.args.script.now) c.args.home.now _ c.loop-a.a c.requires.homes (omega arith),
      c.requires.within c.loop-a.a (omega arith),
      c.loop-a.invariant.size,
    )

pub overflow_add-index_mut : goal.overflow_add-index_mut
overflow_add-index_mut c =
    let home : get_or c.args.home.now c.loop-a.a 0 ≡ home_lane c.args.script.now c.loop-a.a =
    read_table (home_lane c.args.script.now) c.args.home.now _ c.loop-a.a c.requires.homes (omega arith) in
    let within : get_or c.args.home.now c.loop-a.a 0 < c.args.lanes =
    omega (arith, home, c.requires.within c.loop-a.a (omega arith)) in
    omega (
      arith,
      get_or_read c.loop-a.operations.items _ c.index_mut.result.now
          (omega (arith, within, c.loop-a.invariant.size, c.loop-a.operations.ok)) c.index_mut.ensures.value 0,
      counted_fits (is_op c.args.script.now) (home_lane c.args.script.now) c.args.lanes c.loop-a.a
          c.loop-a.operations.items c.loop-a.invariant.counted _ within,
      c.acts-a-end.ensures.limit,
    )

pub loop-a-preserved : goal.loop-a-preserved
loop-a-preserved c =
    let less : c.loop-a.a < length c.args.script.now.acts = omega (arith, c.acts-a-end.ensures.count) in
    let home : get_or c.args.home.now c.loop-a.a 0 ≡ home_lane c.args.script.now c.loop-a.a =
    read_table (home_lane c.args.script.now) c.args.home.now _ c.loop-a.a c.requires.homes less in
    let within : home_lane c.args.script.now c.loop-a.a < c.args.lanes = c.requires.within c.loop-a.a less in
    let size : length c.loop-a.operations.items ≡ c.args.lanes =
    omega (arith, c.loop-a.invariant.size, c.loop-a.operations.ok) in
    let counted = AreCounted (is_op c.args.script.now) (home_lane c.args.script.now) c.args.lanes (c.loop-a.a + 1) in
    let rank : c.index.result.now ≡ rank_of c.args.script.now c.loop-a.a =
    get_or_read c.loop-a.operations.items _ c.index.result.now (omega (arith, home, within, size)) c.index.ensures 0
    ∙ ap (λ p. get_or c.loop-a.operations.items p 0) home
    ∙ c.loop-a.invariant.counted (home_lane c.args.script.now c.loop-a.a) within in
    record {
      size = elim c.if-is_op.branch [
        | then-is_op w ↦ ap (λ (v : Vec ℕ Global). vec_len v) w.operations-is ∙ c.loop-a.invariant.size
        | else-is_op w ↦ ap (λ (v : Vec ℕ Global). vec_len v) w.operations-is ∙ c.loop-a.invariant.size
      ];
      counted = elim c.if-is_op.branch [
        | then-is_op w ↦
            subst counted (sym (ap (λ (v : Vec ℕ Global). v.items) w.operations-is))
            (counted_at (is_op c.args.script.now) (home_lane c.args.script.now) c.args.lanes c.loop-a.a
            c.loop-a.operations.items _ _ home
            (get_or_read c.loop-a.operations.items _ w.index_mut.result.now (omega (arith, home, within, size))
            w.index_mut.ensures.value 0) (sym c.is_op.ensures ∙ w.if-is_op.true) (omega (arith, within, size))
            c.loop-a.invariant.counted)
        | else-is_op w ↦
            subst counted (sym (ap (λ (v : Vec ℕ Global). v.items) w.operations-is))
            (one_passed (is_op c.args.script.now) (home_lane c.args.script.now) c.args.lanes c.loop-a.a
            c.loop-a.operations.items (sym c.is_op.ensures ∙ w.if-is_op.false) c.loop-a.invariant.counted)
      ];
      rank =
          c.push_reserved.ensures.items ∙ ap (λ (xs : List ℕ). xs ++ c.index.result.now ∷ []) c.loop-a.invariant.rank
          ∙ ap (λ r. map (rank_of c.args.script.now) (range_with_len 0 c.loop-a.a) ++ r ∷ []) rank
          ∙ sym (map-range_with_len_more (rank_of c.args.script.now) 0 c.loop-a.a c.loop-a.a (omega arith));
      room = omega (arith, c.push_reserved.ensures.capacity, c.loop-a.invariant.room);
    }

pub returns-clause-operations : goal.returns-clause-operations
returns-clause-operations c =
    let all : c.loop-a.a ≡ length c.args.script.now.acts = omega (arith, c.acts-a-end.ensures.count) in
    all_counted (is_op c.args.script.now) (home_lane c.args.script.now) c.args.lanes (length c.args.script.now.acts)
    c.loop-a.operations.items (omega (arith, c.loop-a.invariant.size, c.loop-a.operations.ok))
    (subst
    (λ n.
    AreCounted (is_op c.args.script.now) (home_lane c.args.script.now) c.args.lanes n c.loop-a.operations.items) all
    c.loop-a.invariant.counted)
