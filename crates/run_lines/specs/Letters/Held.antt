-- How letters are held.
use Rattle.std.specs.Prelude.{◌≡◌, ◌≤◌, length, take}
use Rattle.run_lines.specs.Letters.{IsLetters, padded}
use Rattle.run_lines.specs.declared.letters.Letters.TheInside.{Inside}

-- the first `len` bytes are letters, and the others are zero
pub record HoldsLetters (held : Inside) : Type 0 where
  pub within : held.len ≤ 32
  pub letters : IsLetters (take held.len held.bytes)
  pub unused : held.bytes ≡ padded (take held.len held.bytes)
  pub full : length held.bytes ≡ 32
