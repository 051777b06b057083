-- Where the head of a request ends: behind the first empty line (RFC 9112, section 2.1).
use Rattle.std.specs.Prelude.{◌≡◌, ℕ, ◌-◌, ◌<◌, ◌≤◌, Bool, true, false, ◌&&◌, ◌||◌, ◌==◌, List, length, nat_le, slice_index}

-- a head has at most so many bytes
abbrev pub most_head : ℕ
most_head = 8192

-- the line that ends behind so many bytes is empty, and another one ends before it; lines end in LF or in CR LF
abbrev pub ends_empty : List ℕ → ℕ → Bool
ends_empty bytes size =
    nat_le 2 size && (slice_index bytes (size - 1) == 10) && ((slice_index bytes (size - 2) == 10)
    || (nat_le 3 size && (slice_index bytes (size - 2) == 13) && (slice_index bytes (size - 3) == 10)))

-- none is at the front of these bytes, as far as a head may go
abbrev pub HasNoHead : List ℕ → Type 0
HasNoHead bytes = (k : ℕ) → k ≤ length bytes → k ≤ most_head → ends_empty bytes k ≡ false

-- the head at the front of these bytes has so many
pub record IsHeadSize (bytes : List ℕ) (size : ℕ) : Type 0 where
  pub within : size ≤ length bytes
  pub short : size ≤ most_head
  pub ends : ends_empty bytes size ≡ true
  pub first : (k : ℕ) → k < size → ends_empty bytes k ≡ false
