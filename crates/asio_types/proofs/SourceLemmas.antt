use Rattle.std.proofs.Common.{◌≡◌, ℕ, ◌≤◌, List, [], length, take, ap, arith}
use Rattle.std.proofs.lemmas.List.{nil_from_length}
use Rattle.asio_types.specs.Source.{IsNextPart}

-- a read that gave what it could, and nothing only where nothing is left
pub next_bytes : (left : List ℕ) (n : ℕ) (buffer : List ℕ) → n ≤ length left → (n ≡ 0 → length left ≡ 0) →
    take n buffer ≡ take n left → IsNextPart left n buffer
next_bytes left n buffer there empty same =
    record {
      there = there;
      same = same;
      end = (λ none. nil_from_length left (empty none), λ (nil : left ≡ []). omega (arith, there, ap length nil));
    }
