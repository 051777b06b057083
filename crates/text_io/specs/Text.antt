-- What is read of a source within a limit.
use Rattle.std.specs.Prelude.{◌≡◌, ◌≤◌, ℕ, List, take, drop, Option, Some, None, ⊤}

-- The text is all that the source had, or its first so many bytes, and the rest is left; where the
-- source tells that.
abbrev pub ReadsText : ℕ → Option (List ℕ) → List ℕ → Option (List ℕ) → Type 0
ReadsText most None text after = ⊤
ReadsText most (Some before) text after =
    (text ≡ take most before) × (after ≡ Some (drop most before))

-- at most so many of the first bytes were taken, where the source tells that
abbrev pub TakesSome : ℕ → Option (List ℕ) → Option (List ℕ) → Type 0
TakesSome most None after = ⊤
TakesSome most (Some before) after = (n : ℕ) × (n ≤ most) × (after ≡ Some (drop n before))
