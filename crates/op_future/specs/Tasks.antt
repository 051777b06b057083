-- A task: a state machine that wants the results of operations, one after another (Asio reference,
-- Overview, "The Proactor Design Pattern"; that it is polled by hand is this project's own).
use Rattle.std.specs.Prelude.{◌≡◌, ◌↔◌, ℕ, ◌+◌, List, ◌++◌, Option, None, length}
use Rattle.lane_logs.specs.declared.receipt.Receipt.{Receipt}

pub record TaskState : Type 0 where
  -- the receipts that it got, in the order in which it got them
  pub receipts : List Receipt
  -- how many it still wants
  pub left : ℕ
  -- the operation whose receipt it wants next
  pub wanted : Option ℕ

-- it wants one exactly while some are left
abbrev pub WantsWhileLeft : TaskState → Type 0
WantsWhileLeft task = (task.wanted ≡ None) ↔ (task.left ≡ 0)

-- it got these, and wants so many fewer
pub record HasGotThese (more : List Receipt) (old new : TaskState) : Type 0 where
  pub receipts : new.receipts ≡ old.receipts ++ more
  pub left : new.left + length more ≡ old.left
