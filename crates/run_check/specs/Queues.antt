-- The queues of strands that the checker keeps.
use Rattle.std.specs.Prelude.{◌≡◌, ℕ, ◌==◌, if◌then◌else◌, Option, Some, None, nat_eq}
use Rattle.std.specs.HashMap as hash
use Rattle.std.specs.BTreeMap as tree
use Rattle.std.specs.Ordering.{nat_cmp, ordering_then}
use Rattle.std.specs.declared.cmp.Ordering.{Ordering}
use Rattle.run_check.specs.declared.queues.Queues.{Queues}

-- the strand and the place at which an operation is known to stand in its queue
abbrev pub spot_at : Queues → ℕ → Option (ℕ × ℕ)
spot_at kept op = hash.get nat_eq kept.spots op

-- the order of spots: by strand, then by place
abbrev pub spot_cmp : ℕ × ℕ → ℕ × ℕ → Ordering
spot_cmp one other = ordering_then (nat_cmp one.0 other.0) (nat_cmp one.1 other.1)

abbrev pub at_spot : Queues → ℕ × ℕ → Option ℕ
at_spot kept spot = tree.get spot_cmp kept.order spot

-- this entry, if it is of that strand: its place and its operation
abbrev pub on_strand : ℕ → Option ((ℕ × ℕ) × ℕ) → Option (ℕ × ℕ)
on_strand strand None = None
on_strand strand (Some e) = if e.0.0 == strand then Some (e.0.1, e.1) else None

-- both tables say the same
pub record AreInOrder (kept : Queues) : Type 0 where
  pub found : (op : ℕ) (spot : ℕ × ℕ) → spot_at kept op ≡ Some spot → at_spot kept spot ≡ Some op
  pub stands : (op : ℕ) (spot : ℕ × ℕ) → at_spot kept spot ≡ Some op → spot_at kept op ≡ Some spot
