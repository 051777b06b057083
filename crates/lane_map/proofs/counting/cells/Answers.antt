use Rattle.std.proofs.Common.{◌≡◌, ◌<◌, ◌+◌, ℕ, Vec, Global, length, get_or, arith, ap, sym, subst, ◌∙◌, vec_len}
use Rattle.std.proofs.lemmas.List.{get_or_read}
use Rattle.lane_map.specs.LaneNumbers.{has_cell, home_lane}
use Rattle.lane_map.proofs.CellLemmas.{cells_made}
use Rattle.lane_map.proofs.CountLemmas.{AreCounted, counted_at, counted_fits, one_passed, read_table, table_length}
use Rattle.lane_map.proofs.counting.cells.Goals as goal
use Rattle.lane_map.proofs.counting.cells.Goals.{then-has_cell, else-has_cell}

pub bounds-home-a : goal.bounds-home-a
bounds-home-a c = omega (arith, table_length (home_lane c.args.script.now) c.args.home.now _ c.requires.homes)

pub index_mut-requires : goal.index_mut-requires
index_mut-requires c =
    omega (
      arith,
      read_table (home_lane c.args.script.now) c.args.home.now _ c.loop-a.a c.requires.homes (omega arith),
      c.requires.within c.loop-a.a (omega arith),
      c.loop-a.invariant.size,
    )

pub overflow_add-index_mut : goal.overflow_add-index_mut
overflow_add-index_mut c =
    let home : get_or c.args.home.now c.loop-a.a 0 ≡ home_lane c.args.script.now c.loop-a.a =
    read_table (home_lane c.args.script.now) c.args.home.now _ c.loop-a.a c.requires.homes (omega arith) in
    let within : get_or c.args.home.now c.loop-a.a 0 < c.args.reactor + 1 =
    omega (arith, home, c.requires.within c.loop-a.a (omega arith)) in
    omega (
      arith,
      get_or_read c.loop-a.cells.items _ c.index_mut.result.now
          (omega (arith, within, c.loop-a.invariant.size, c.loop-a.cells.ok)) c.index_mut.ensures.value 0,
      counted_fits (has_cell c.args.script.now) (home_lane c.args.script.now) (c.args.reactor + 1) c.loop-a.a
          c.loop-a.cells.items c.loop-a.invariant.counted _ within,
      c.acts-a-end.ensures.limit,
    )

pub loop-a-preserved : goal.loop-a-preserved
loop-a-preserved c =
    let less : c.loop-a.a < length c.args.script.now.acts = omega (arith, c.acts-a-end.ensures.count) in
    let home : get_or c.args.home.now c.loop-a.a 0 ≡ home_lane c.args.script.now c.loop-a.a =
    read_table (home_lane c.args.script.now) c.args.home.now _ c.loop-a.a c.requires.homes less in
    let within : home_lane c.args.script.now c.loop-a.a < c.args.reactor + 1 = c.requires.within c.loop-a.a less in
    let size : length c.loop-a.cells.items ≡ c.args.reactor + 1 =
    omega (arith, c.loop-a.invariant.size, c.loop-a.cells.ok) in
    let counted = AreCounted (has_cell c.args.script.now) (home_lane c.args.script.now) (c.args.reactor + 1) (c.loop-a.a + 1) in
    record {
      size = elim c.if-has_cell.branch [
        | then-has_cell w ↦ ap (λ (v : Vec ℕ Global). vec_len v) w.cells-is ∙ c.loop-a.invariant.size
        | else-has_cell w ↦ ap (λ (v : Vec ℕ Global). vec_len v) w.cells-is ∙ c.loop-a.invariant.size
      ];
      counted = elim c.if-has_cell.branch [
        | then-has_cell w ↦
            subst counted (sym (ap (λ (v : Vec ℕ Global). v.items) w.cells-is))
            (counted_at (has_cell c.args.script.now) (home_lane c.args.script.now) (c.args.reactor + 1) c.loop-a.a
            c.loop-a.cells.items _ _ home
            (get_or_read c.loop-a.cells.items _ w.index_mut.result.now (omega (arith, home, within, size))
            w.index_mut.ensures.value 0) (sym c.has_cell.ensures ∙ w.if-has_cell.true) (omega (arith, within, size))
            c.loop-a.invariant.counted)
        | else-has_cell w ↦
            subst counted (sym (ap (λ (v : Vec ℕ Global). v.items) w.cells-is))
            (one_passed (has_cell c.args.script.now) (home_lane c.args.script.now) (c.args.reactor + 1) c.loop-a.a
            c.loop-a.cells.items (sym c.has_cell.ensures ∙ w.if-has_cell.false) c.loop-a.invariant.counted)
      ];
    }

pub returns : goal.returns
returns c =
    cells_made c.args.script.now c.loop-a.cells.items c.args.reactor c.requests.result c.loop-a.a c.requires.last
    (omega (arith, c.loop-a.invariant.size, c.loop-a.cells.ok)) (omega (arith, c.acts-a-end.ensures.count))
    c.requests.ensures c.loop-a.invariant.counted
