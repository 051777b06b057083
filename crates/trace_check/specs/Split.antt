-- A text is cut at the first byte of a kind.
use Rattle.std.specs.Prelude.{ℕ, ◌+◌, ◌==◌, List, [], ◌∷◌, Option, Some, None, if◌then◌else◌}

infixl 10 ◌>>=◌
abbrev pub ◌>>=◌ : {A B : Type 0} → Option A → (A → Option B) → Option B
(Some value) >>= f = f value
None >>= f = None

-- what stands before the first of these bytes, and what stands behind it
abbrev pub split_once : ℕ → List ℕ → Option (List ℕ × List ℕ)
split_once separator [] = None
split_once separator (byte ∷ bytes) =
    if byte == separator then Some ([], bytes)
    else (split_once separator bytes >>= λ parts. Some (byte ∷ parts.0, parts.1))

-- how often a byte stands in a text
abbrev pub byte_count : ℕ → List ℕ → ℕ
byte_count separator [] = 0
byte_count separator (byte ∷ bytes) =
    if byte == separator then byte_count separator bytes + 1 else byte_count separator bytes
