-- Operations of a channel that haven't completed.
use Rattle.std.specs.Prelude.{ℕ, Bool, ◌==◌, false, Option, Some, None}
use Rattle.chan_core.specs.declared.done.ChanCode.{ChanCode}
use Rattle.chan_core.specs.declared.done.ChanDone.{ChanDone}
use Rattle.chan_core.specs.declared.pending.PendingOp.{PendingOp}
use Rattle.chan_core.specs.Done.{ended}

-- whether it has this number
abbrev pub has_number : {V : Type 0} → ℕ → PendingOp V → Bool
has_number op pending = pending.op == op

-- whether the deadline is this wait
abbrev pub is_wait : ℕ → Option ℕ → Bool
is_wait wait None = false
is_wait wait (Some deadline) = deadline == wait

abbrev pub has_deadline : {V : Type 0} → ℕ → PendingOp V → Bool
has_deadline wait pending = is_wait wait pending.deadline

-- it completes with this code, without a value
abbrev pub ends_with : {V : Type 0} → ChanCode → PendingOp V → ChanDone
ends_with code pending = ended pending.op code
