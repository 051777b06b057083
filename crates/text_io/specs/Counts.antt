-- How counts of faults change.
use Rattle.std.specs.Prelude.{◌≡◌, ◌≤◌, ◌<◌, ◌+◌, ◌^◌, ℕ, Result, Ok, Err}
use Rattle.asio_types.specs.Faults.{Rose}
use Rattle.text_io.specs.declared.unfinished.Unfinished.{Unfinished}
use Rattle.text_io.specs.declared.unfinished.Unfinished.TheVariants as unfinished

-- a failure raises the count of faults, and every other answer leaves it
abbrev pub CountsFailures : {T : Type 0} → Result T Unfinished → ℕ → ℕ → Type 0
CountsFailures (Ok value) old new = new ≡ old
CountsFailures (Err unfinished.Failed) old new = Rose old new
CountsFailures (Err unfinished.NoMemory) old new = new ≡ old

-- a count that did not rise in a call, and could have
abbrev pub Stood : ℕ → ℕ → Type 0
Stood before after = (before + 1 < 2 ^ 64) × (after ≤ before)
