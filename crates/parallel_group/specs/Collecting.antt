-- The task that collects the members of a group, one after another by their numbers.
use Rattle.std.specs.Prelude.{◌≡◌, ◌⊎◌, ◌≤◌, ◌-◌, ℕ, List, [], Some, length, map, slice_get}
use Rattle.lane_logs.specs.declared.receipt.Receipt.{Receipt}
use Rattle.op_future.specs.Tasks.{TaskState}
-- what was found of a member
pub use Rattle.parallel_group.specs.declared.member_task.Collected.{Collected}

pub record Collecting : Type 0 where
  -- the operations that it wants, in their order
  pub ops : List ℕ
  -- what was found of the first of them
  pub found : List Collected

-- it collects all of these or none, and what it found is theirs, in their order
pub record IsCollecting (all : List ℕ) (c : Collecting) : Type 0 where
  pub wants : (c.ops ≡ all) ⊎ (c.ops ≡ [])
  pub few : length c.found ≤ length c.ops
  pub each : (k : ℕ) (one : Collected) → slice_get c.found k ≡ Some one →
      (one.member ≡ k) × (slice_get c.ops k ≡ Some one.receipt.op)

abbrev pub receipt_in : Collected → Receipt
receipt_in one = one.receipt

-- as a task: the operation behind those that were found is wanted next
abbrev pub task_state : Collecting → TaskState
task_state c = record {
  receipts = map receipt_in c.found;
  left = length c.ops - length c.found;
  wanted = slice_get c.ops (length c.found);
}

-- all are still to be found
abbrev pub none_found : List ℕ → Collecting
none_found ops = record { ops = ops; found = [] }
