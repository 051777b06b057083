-- Texts within XML (XML 1.0, "Character Data and Markup").
use Rattle.std.specs.Prelude.{ℕ, List, [], ◌∷◌, ◌++◌, ◌==◌, codes, if◌then◌else◌}

-- the bytes for one byte: those that mark up are written as entities
abbrev pub escaped_byte : ℕ → List ℕ
escaped_byte byte =
    if byte == 38 then codes "&amp;" else
    (if byte == 60 then codes "&lt;" else (if byte == 62 then codes "&gt;" else (if byte == 34 then codes "&quot;" else byte ∷ [])))

abbrev pub escaped : List ℕ → List ℕ
escaped [] = []
escaped (byte ∷ bytes) = escaped_byte byte ++ escaped bytes
