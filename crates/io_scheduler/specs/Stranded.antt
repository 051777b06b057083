-- Strands that are made and freed from outside of all handlers.
use Rattle.std.specs.Prelude.{◌≡◌, ◌<◌, ℕ, ◌==◌, not, true, false, List, [], Some, length}
use Rattle.std.specs.List.{slice_set}
use Rattle.io_rules.specs.declared.name.Name.{Name}
use Rattle.io_rules.specs.declared.place.Place.{Place}
use Rattle.io_rules.specs.Changes.{place_freed}
use Rattle.io_rules.specs.Names.{is_unused, place_at}
use Rattle.io_strands.specs.Cell.{Cell, is_there}
use Rattle.io_scheduler.specs.Shown.{cell_at}

-- a strand is at this place, with this state
abbrev pub opened_cells : {H S : Type 0} → ℕ → S → List (Cell H S) → List (Cell H S)
opened_cells place state cells =
    slice_set cells place (record (cell_at cells place) { state = Some state })

-- none is there yet
pub record MayOpen {H S : Type 0} (place : ℕ) (cells : List (Cell H S)) : Type 0 where
  pub within : place < length cells
  pub vacant : is_there (cell_at cells place) ≡ false

-- one is there; without operations nothing is ready on it
pub record MayFree {H S : Type 0} (place : ℕ) (places : List Place) (cells : List (Cell H S)) : Type 0 where
  pub within : place < length cells
  pub used : is_unused (place_at places place).life ≡ false
  pub idle : (cell_at cells place).tied ≡ 0 → (cell_at cells place).queue ≡ []

-- its name is gone, and its place too where it has no operation
abbrev pub names_freed : {H S : Type 0} → Name → List Place → List (Cell H S) → List Place
names_freed name places cells =
    place_freed true (not ((cell_at cells name.place).tied == 0)) name places
