-- How the words of a clock lie, this project's own: the clock word, then a word of places for each
-- lane, then the cells, those of the first lane first.
use Rattle.std.specs.Prelude.{◌≡◌, ℕ, zero, suc, ◌+◌, ◌-◌, ◌^◌, List, [], ◌∷◌, length, if◌then◌else◌, nat_lt}

pub record Layout : Type 0 where
  -- the work at the start
  pub guards : ℕ
  pub seats : ℕ
  -- how many cells each lane has
  pub cells : List ℕ

-- how many seats a clock has at most, and below which number its guards are
abbrev pub most_seats : ℕ
most_seats = 2 ^ 15

-- the layout of a clock with these cells, and seats for the lanes, the workers and the opener
abbrev pub layout : ℕ → List ℕ → ℕ → Layout
layout guards cells workers = record {
  guards = guards;
  seats = length cells + workers + 1;
  cells = cells;
}

-- how many cells there are
abbrev pub total : List ℕ → ℕ
total [] = 0
total (c ∷ cs) = c + total cs

-- where the cell at a place of a lane stands among all cells
abbrev pub slot : List ℕ → ℕ → ℕ → ℕ
slot [] lane place = place
slot (c ∷ cs) zero place = place
slot (c ∷ cs) (suc lane) place = c + slot cs lane place

-- the lane and the place of the cell that stands there
abbrev pub slot_lane : List ℕ → ℕ → ℕ
slot_lane [] k = 0
slot_lane (c ∷ cs) k = if nat_lt k c then 0 else suc (slot_lane cs (k - c))

abbrev pub slot_place : List ℕ → ℕ → ℕ
slot_place [] k = k
slot_place (c ∷ cs) k = if nat_lt k c then k else slot_place cs (k - c)

-- the word of a lane's places, and the word of a cell
abbrev pub place_word : ℕ → ℕ
place_word lane = 1 + lane

abbrev pub cell_word : List ℕ → ℕ → ℕ → ℕ
cell_word cells lane place = 1 + length cells + slot cells lane place

-- the lane of a word of places, and the lane and the place of a cell's word
abbrev pub lane_of_place : ℕ → ℕ
lane_of_place word = word - 1

abbrev pub lane_of_cell : List ℕ → ℕ → ℕ
lane_of_cell cells word = slot_lane cells (word - (1 + length cells))

abbrev pub place_of_cell : List ℕ → ℕ → ℕ
place_of_cell cells word = slot_place cells (word - (1 + length cells))

-- a table that was told the layout `told` has the words of the layout, and no slots
pub record LiesIn (told plan : Layout) (count holes : ℕ) : Type 0 where
  pub key : told ≡ plan
  pub words : count ≡ 1 + length plan.cells + total plan.cells
  pub slots : holes ≡ 0
