-- Which of many waits comes first, by a tree in which each node has the first of its two children. These
-- words are for this crate alone.
use Rattle.std.specs.Prelude.{◌≡◌, ◌<◌, ◌^◌, ℕ, ◌+◌, ◌*◌, ◌-◌, Bool, ◌||◌, ◌&&◌, nat_eq, nat_lt, false, List, length, Option, Some, None, if◌then◌else◌}
use Rattle.std.specs.List.{slice_index_or}
use Rattle.io_timers.specs.declared.first.First.{First}

-- it is due earlier, or at the same time and was accepted earlier
abbrev pub is_before : First → First → Bool
is_before a b = nat_lt a.expiry b.expiry || (nat_eq a.expiry b.expiry && nat_lt a.op b.op)

-- the one of two that comes first
abbrev pub winner : Option First → Option First → Option First
winner None b = b
winner (Some a) None = Some a
winner (Some a) (Some b) = if is_before b a then Some b else Some a

-- nodes have numbers from 1: the inner ones, then the leaves; the children of n are 2 n and 2 n + 1
abbrev pub node_at : List (Option First) → List (Option First) → ℕ → Option First
node_at inner leaves n =
    if nat_lt n (length inner) then slice_index_or inner n None
    else slice_index_or leaves (n - length inner) None

abbrev pub IsNode : List (Option First) → List (Option First) → ℕ → Type 0
IsNode inner leaves n =
    slice_index_or inner n None
    ≡ winner (node_at inner leaves (n * 2)) (node_at inner leaves (n * 2 + 1))

pub record IsTournament (inner leaves : List (Option First)) : Type 0 where
  pub long : length inner ≡ length leaves
  pub small : length leaves < 2 ^ 32
  pub nodes : (n : ℕ) → 0 < n → n < length inner → IsNode inner leaves n

-- the second doesn't come before the first
abbrev pub IsNoLater : Option First → Option First → Type 0
IsNoLater a None = Unit {0}
IsNoLater None (Some b) = ⊥
IsNoLater (Some a) (Some b) = is_before b a ≡ false

-- it is one of the leaves, and none comes before it
pub record IsFirst (leaves : List (Option First)) (first : Option First) : Type 0 where
  pub there : (k : ℕ) × (slice_index_or leaves k None ≡ first)
  pub least : (k : ℕ) → IsNoLater first (slice_index_or leaves k None)
