-- The two sides of a stream in reserved memory.
use Rattle.std.specs.Prelude.{ℕ, List, Option}
use Rattle.asio_types.specs.declared.mark.ReadMark.{ReadMark}
use Rattle.asio_types.specs.declared.mark.WriteMark.{WriteMark}

-- the reading side: what arrived and wasn't given, its mark, and how many more bytes may arrive
pub record Arrivals : Type 0 where
  pub arrived : List ℕ
  pub mark : Option ReadMark
  pub left : ℕ

-- the writing side: what was sent, the room, its mark, and how much more room may come
pub record Departures : Type 0 where
  pub sent : List ℕ
  pub room : ℕ
  pub mark : Option WriteMark
  pub left : ℕ
