-- Waits: when they expire, and that they complete.
use Rattle.std.specs.Prelude.{ℕ, Bool, List, map, filter}
use Rattle.std.specs.List.{slice_index_or}
use Rattle.asio_types.specs.declared.code.Code.{Code}
use Rattle.stream_rules.specs.declared.queue.Completion.{Completion}
use Rattle.history_rules.specs.declared.wait.Wait.{Wait}

-- when a wait expires
abbrev pub expiry_in : List ℕ → Wait → ℕ
expiry_in expiries wait = slice_index_or expiries wait.timer 0

-- a wait completes with this code
abbrev pub completed_with : Code → Wait → Completion
completed_with code wait = record { op = wait.op; outcome = (code, 0) }

abbrev pub all_completed_with : Code → (Wait → Bool) → List Wait → List Completion
all_completed_with code test waits = map (completed_with code) (filter test waits)
