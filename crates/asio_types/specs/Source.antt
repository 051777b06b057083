-- What a read does to the bytes that a source has left, where it tells them (compare
-- AsyncReadStream's read_some).
use Rattle.asio_types.specs.Faults.{Plan}
use Rattle.std.specs.Prelude.{◌≡◌, ◌↔◌, ℕ, ◌≤◌, List, [], length, take, drop, Option, Some, None, ⊤}

-- a read that gave n bytes: they are the next ones, and none come exactly where none are left
pub record IsNextPart (left : List ℕ) (n : ℕ) (buffer : List ℕ) : Type 0 where
  pub there : n ≤ length left
  pub same : take n buffer ≡ take n left
  pub end : (n ≡ 0) ↔ (left ≡ [])

-- the same, where the bytes left are told
abbrev pub GivesNext : Option (List ℕ) → ℕ → List ℕ → Type 0
GivesNext None n buffer = ⊤
GivesNext (Some left) n buffer = IsNextPart left n buffer

-- told bytes stay told, and lose the first n
abbrev pub LosesFirst : Option (List ℕ) → ℕ → Option (List ℕ) → Type 0
LosesFirst None n after = ⊤
LosesFirst (Some before) n None = ⊥
LosesFirst (Some before) n (Some after) = after ≡ drop n before

-- told bytes stay told and as they were
abbrev pub KeepsLeft : Option (List ℕ) → Option (List ℕ) → Type 0
KeepsLeft None after = ⊤
KeepsLeft (Some before) None = ⊥
KeepsLeft (Some before) (Some after) = after ≡ before

-- a text in memory as a source: the bytes left, and which reads fail
pub record TextReading : Type 0 where
  pub left : List ℕ
  pub plan : Plan

-- a text that is given in pieces of at most step bytes
pub record SlowReading : Type 0 where
  pub left : List ℕ
  pub step : ℕ
