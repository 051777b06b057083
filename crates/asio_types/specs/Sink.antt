-- What a write does to the bytes that a sink holds, where it tells them (compare AsyncWriteStream's
-- write_some).
use Rattle.asio_types.specs.Faults.{Plan, one_more}
use Rattle.std.specs.Io.{StartsWith}
use Rattle.std.specs.Prelude.{◌≡◌, ℕ, ◌-◌, ◌==◌, List, ◌++◌, length, Option, Some, None, ⊤, if◌then◌else◌, nat_le}

-- what is told after a write was told before it, and grew by these bytes; a sink may stop telling
abbrev pub Extends : Option (List ℕ) → List ℕ → Option (List ℕ) → Type 0
Extends before bytes None = ⊤
Extends None bytes (Some after) = ⊥
Extends (Some before) bytes (Some after) = after ≡ before ++ bytes

-- what is told grew by a first part of these bytes
abbrev pub ExtendsByPart : Option (List ℕ) → List ℕ → Option (List ℕ) → Type 0
ExtendsByPart before bytes after =
    (piece : List ℕ) × StartsWith bytes piece × Extends before piece after

-- bytes in reserved memory, and the room that is left
pub record Holding : Type 0 where
  pub bytes : List ℕ
  pub room : ℕ

-- with these bytes more, for which there is room
abbrev pub holding_more : List ℕ → Holding → Holding
holding_more bytes held = record { bytes = held.bytes ++ bytes; room = held.room - length bytes }

-- memory as a sink: what it holds, and which writes fail
pub record TextWriting : Type 0 where
  pub held : Holding
  pub plan : Plan

-- memory as a sink that never fails: what it holds, and how many writes found no room
pub record SureWriting : Type 0 where
  pub held : Holding
  pub lost : ℕ

-- memory as a sink that takes at most step bytes at a time
pub record SlowWriting : Type 0 where
  pub held : Holding
  pub step : ℕ
  pub faults : ℕ

-- a sink that lost a write tells nothing more
abbrev pub told_unless_lost : SureWriting → Option (List ℕ)
told_unless_lost sink = if sink.lost == 0 then Some sink.held.bytes else None

-- a write that fits into the room is held, and another one is lost whole
abbrev pub held_or_lost : List ℕ → SureWriting → SureWriting
held_or_lost bytes sink =
    if nat_le (length bytes) sink.held.room then record sink { held = holding_more bytes sink.held }
    else record sink { lost = one_more sink.lost }
