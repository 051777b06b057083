-- The bytes of a stream that were read and not consumed (Asio reference, async_read_until: what
-- stands behind the delimiter stays for the next read).
use Rattle.std.specs.Prelude.{ℕ, List, [], ◌++◌, drop}

-- the bytes, and how many of them there may be at once
pub record HeldBytes : Type 0 where
  pub bytes : List ℕ
  pub room : ℕ

abbrev pub none_held : ℕ → HeldBytes
none_held room = record { bytes = []; room = room }

-- a piece came behind them
abbrev pub held_more : List ℕ → HeldBytes → HeldBytes
held_more piece held = record held { bytes = held.bytes ++ piece }

-- so many were consumed
abbrev pub held_less : ℕ → HeldBytes → HeldBytes
held_less count held = record held { bytes = drop count held.bytes }
