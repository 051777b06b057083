-- How far lines of a run reach into an order.
use Rattle.std.specs.Prelude.{◌≡◌, ◌<◌, ◌≤◌, ℕ, Bool, ◌==◌, if◌then◌else◌, Option, Some, None, max}
use Rattle.std.specs.HashMap.{get}
use Rattle.run_witness.specs.declared.reached.Reached.{Reached}

abbrev pub reached_at : {K : Type 0} → (K → K → Bool) → Reached K → K → Option (Option ℕ)
reached_at eq kept key = get eq kept.places key

-- the later of two places, if both are
abbrev pub later_of : Option ℕ → Option ℕ → Option ℕ
later_of None other = None
later_of (Some one) None = None
later_of (Some one) (Some other) = Some (max one other)

-- what is kept at a key, with one place more
abbrev pub reached_with : Option (Option ℕ) → Option ℕ → Option ℕ
reached_with None place = place
reached_with (Some other) place = later_of other place

-- what is kept at a key is no less than this place
abbrev pub Covers : Option (Option ℕ) → Option ℕ → Type 0
Covers None place = ⊥
Covers (Some None) place = Unit {0}
Covers (Some (Some most)) None = ⊥
Covers (Some (Some most)) (Some place) = place ≤ most

-- all that is kept at a key stands before a place
abbrev pub IsBefore : Option (Option ℕ) → ℕ → Type 0
IsBefore None bound = Unit {0}
IsBefore (Some None) bound = ⊥
IsBefore (Some (Some place)) bound = place < bound

-- a place is noted at this key, if there is one
abbrev pub NotesAt : (ℕ → Option (Option ℕ)) → (ℕ → Option (Option ℕ)) → Option ℕ → Option ℕ → Type 0
NotesAt old new None place = (other : ℕ) → new other ≡ old other
NotesAt old new (Some key) place = (other : ℕ) → new other ≡ (if key == other then Some (reached_with
    (old key) place) else old other)
