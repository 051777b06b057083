-- The rows that the code keeps of a layout.
use Rattle.std.specs.Prelude.{◌≡◌, ℕ, ◌+◌, ◌^◌, ◌<◌, List, map, length, slice_index_or}
use Rattle.lane_clock.specs.declared.plan.Row.{Row}
use Rattle.lane_clock.specs.Layout.{slot, total}

abbrev pub cells_in : List Row → List ℕ
cells_in rows = map (λ row. row.cells) rows

-- each row begins where its lane's first cell stands
abbrev pub Starts : List Row → Type 0
Starts rows =
    (lane : ℕ) (d : Row) → lane < length rows →
    (slice_index_or rows lane d).start ≡ slot (cells_in rows) lane 0

-- the rows of so many words
pub record AreRows (rows : List Row) (count : ℕ) : Type 0 where
  pub starts : Starts rows
  pub words : count ≡ 1 + length (cells_in rows) + total (cells_in rows)
  pub fits : count < 2 ^ 64
