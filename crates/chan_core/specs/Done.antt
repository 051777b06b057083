-- Completions of a channel's operations.
use Rattle.std.specs.Prelude.{ℕ, Some, None}
use Rattle.chan_core.specs.declared.done.ChanCode.{ChanCode}
use Rattle.chan_core.specs.declared.done.ChanCode.TheVariants as chan_code
use Rattle.chan_core.specs.declared.done.ChanDone.{ChanDone}

-- an operation completes without a value
abbrev pub ended : ℕ → ChanCode → ChanDone
ended op code = record { op = op; code = code; value = None }

-- a receive gets a value
abbrev pub got : ℕ → ℕ → ChanDone
got op value = record { op = op; code = chan_code.Ok; value = Some value }
