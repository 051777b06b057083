-- A text is cut at the first byte of a kind.
use Rattle.std.proofs.Common.{◌≡◌, ◌≢◌, ℕ, zero, suc, ◌+◌, ◌<◌, ◌≤◌, Bool, true, false, ◌==◌, cond, List, [], ◌∷◌, ◌++◌, length, take, drop, get_or, Option, Some, None, if◌then◌else◌, refl, ap, subst, ◌∙◌, arith}
use Rattle.std.proofs.lemmas.Bool.Decides.{Decides-eqb, nat_tests}
use Rattle.std.proofs.lemmas.List.{take_more}
use Rattle.trace_check.specs.Split.{split_once, byte_count, ◌>>=◌}

same_byte : (a b : ℕ) → a ≡ b → (a == b) ≡ true
same_byte a b e = grind (arith, nat_tests)

other_byte : (a b : ℕ) → a ≢ b → (a == b) ≡ false
other_byte a b e = grind (arith, nat_tests)

-- the parts are what stands before the first such byte and behind it
pub split_at : (separator : ℕ) (bytes : List ℕ) (i : ℕ) → i < length bytes → get_or bytes i 0 ≡ separator →
    ((k : ℕ) → k < i → get_or bytes k 0 ≢ separator) →
    split_once separator bytes ≡ Some (take i bytes, drop (suc i) bytes)
split_at separator [] i within is before = absurd (omega arith)
split_at separator (byte ∷ bytes) zero within is before = rw (same_byte byte separator is) refl
split_at separator (byte ∷ bytes) (suc i) within is before =
    rw (
      other_byte byte separator (before 0 (omega arith)),
      split_at separator bytes i (omega arith) is (λ k below. before (suc k) (omega arith)),
    ) refl

-- a text without such a byte isn't cut
pub split_nowhere : (separator : ℕ) (bytes : List ℕ) → ((k : ℕ) → k < length bytes → get_or bytes k 0 ≢ separator) →
    split_once separator bytes ≡ None
split_nowhere separator [] none = refl
split_nowhere separator (byte ∷ bytes) none =
    rw (
      other_byte byte separator (none 0 (omega arith)),
      split_nowhere separator bytes (λ k below. none (suc k) (omega arith)),
    ) refl

-- a byte stands in two texts as often as in both
pub byte_count-append : (separator : ℕ) (front back : List ℕ) →
    byte_count separator (front ++ back) ≡ byte_count separator front + byte_count separator back
byte_count-append separator [] back = omega arith
byte_count-append separator (byte ∷ front) back = grind (arith, nat_tests, byte_count-append separator front back)

-- what was cut is the whole
record IsCut (separator : ℕ) (bytes : List ℕ) (parts : List ℕ × List ℕ) : Type 0 where
  whole : bytes ≡ parts.0 ++ separator ∷ parts.1
  count : byte_count separator bytes ≡ byte_count separator parts.1 + 1

abbrev IsCutBy : ℕ → List ℕ → Option (List ℕ × List ℕ) → Type 0
IsCutBy separator bytes None = Unit {0}
IsCutBy separator bytes (Some parts) = IsCut separator bytes parts

cut_behind : (separator byte : ℕ) (bytes : List ℕ) (cut : Option (List ℕ × List ℕ)) → (byte == separator) ≡ false →
    IsCutBy separator bytes cut → IsCutBy separator (byte ∷ bytes) (cut >>= λ parts. Some (byte ∷ parts.0, parts.1))
cut_behind separator byte bytes None other is = tt
cut_behind separator byte bytes (Some parts) other is = record {
  whole = ap (λ bs. byte ∷ bs) is.whole;
  count = ap (λ test. cond test (byte_count separator bytes + 1) (byte_count separator bytes)) other ∙ is.count;
}

cut_here : (separator byte : ℕ) (bytes : List ℕ) (test : Bool) → (byte == separator) ≡ test →
    IsCutBy separator bytes (split_once separator bytes) →
    IsCutBy separator (byte ∷ bytes)
    (if test then Some ([], bytes) else (split_once separator bytes >>= λ parts. Some (byte ∷ parts.0, parts.1)))
cut_here separator byte bytes true same is = record {
  whole = ap (λ b. b ∷ bytes) ((Decides-eqb byte separator).0 same);
  count = ap (λ test. cond test (byte_count separator bytes + 1) (byte_count separator bytes)) same;
}
cut_here separator byte bytes false other is = cut_behind separator byte bytes (split_once separator bytes) other is

is_cut : (separator : ℕ) (bytes : List ℕ) → IsCutBy separator bytes (split_once separator bytes)
is_cut separator [] = tt
is_cut separator (byte ∷ bytes) = cut_here separator byte bytes (byte == separator) refl (is_cut separator bytes)

pub split_is : (separator : ℕ) (bytes : List ℕ) (parts : List ℕ × List ℕ) → split_once separator bytes ≡ Some parts →
    bytes ≡ parts.0 ++ separator ∷ parts.1
split_is separator bytes parts e =
    let is : IsCut separator bytes parts = subst (IsCutBy separator bytes) e (is_cut separator bytes) in is.whole

pub split_counts : (separator : ℕ) (bytes : List ℕ) (parts : List ℕ × List ℕ) →
    split_once separator bytes ≡ Some parts → byte_count separator bytes ≡ byte_count separator parts.1 + 1
split_counts separator bytes parts e =
    let is : IsCut separator bytes parts = subst (IsCutBy separator bytes) e (is_cut separator bytes) in is.count

no_more : (separator byte : ℕ) (bytes : List ℕ) → byte_count separator (byte ∷ bytes) ≡ 0 →
    ((byte == separator) ≡ false) × (byte_count separator bytes ≡ 0)
no_more separator byte bytes none = (grind (arith, nat_tests), grind (arith, nat_tests))

-- a text is cut behind what has no such byte
pub split_first : (separator : ℕ) (front back : List ℕ) → byte_count separator front ≡ 0 →
    split_once separator (front ++ separator ∷ back) ≡ Some (front, back)
split_first separator [] back none = rw (same_byte separator separator refl) refl
split_first separator (byte ∷ front) back none =
    let parts = no_more separator byte front none in
    rw (parts.0, split_first separator front back parts.1) refl

-- a text has no more of a byte than it has bytes
pub byte_count-le : (separator : ℕ) (bytes : List ℕ) → byte_count separator bytes ≤ length bytes
byte_count-le separator [] = omega arith
byte_count-le separator (byte ∷ bytes) = grind (arith, nat_tests, byte_count-le separator bytes)

-- one byte more
pub count_more : (separator i : ℕ) (bytes : List ℕ) → i < length bytes →
    byte_count separator (take (i + 1) bytes)
    ≡ byte_count separator (take i bytes) + byte_count separator (get_or bytes i 0 ∷ [])
count_more separator i bytes within =
    ap (byte_count separator) (take_more bytes i 0 within)
    ∙ byte_count-append separator (take i bytes) (get_or bytes i 0 ∷ [])

pub byte_count_same : (separator byte : ℕ) → byte ≡ separator → byte_count separator (byte ∷ []) ≡ 1
byte_count_same separator byte e = rw (same_byte byte separator e) refl

pub byte_count_other : (separator byte : ℕ) → byte ≢ separator → byte_count separator (byte ∷ []) ≡ 0
byte_count_other separator byte e = rw (other_byte byte separator e) refl
