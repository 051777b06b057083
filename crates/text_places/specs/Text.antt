-- A text that is put together.
use Rattle.std.specs.Prelude.{◌≡◌, ◌<◌, ◌++◌, ◌⊎◌, ℕ, List}
use Rattle.text_places.specs.declared.text.Text.{Text}

-- these bytes were appended, or there was no memory for them, which is counted
abbrev pub GrowsBy : Text → List ℕ → Text → Type 0
GrowsBy old more new = ((new.bytes.items ≡ old.bytes.items ++ more) × (new.faults ≡ old.faults)) ⊎ (0 < new.faults)
