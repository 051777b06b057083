-- Counts of faults, and the calls of a test object that are to fail.
use Rattle.std.specs.Prelude.{ℕ, ◌≡◌, ◌+◌, ◌-◌, ◌^◌, ◌<◌, List, min, Result, Ok, Err}
use Rattle.asio_types.specs.declared.failure.Failed.{Failed}

-- where a count of faults ends, and stands still
abbrev pub most_faults : ℕ
most_faults = 2 ^ 64 - 1

-- where a count of calls ends, and stands still
abbrev pub most_calls : ℕ
most_calls = 2 ^ 32 - 1

-- a count that rose in a call, unless it had reached its end before
abbrev pub Rose : ℕ → ℕ → Type 0
Rose before after = before < most_faults → before < after

-- a failure raises the count of faults, and every other answer leaves it
abbrev pub CountsFaults : {T : Type 0} → Result T Failed → ℕ → ℕ → Type 0
CountsFaults (Ok value) old new = new ≡ old
CountsFaults (Err failed) old new = Rose old new

-- the number of the next call, from 1
abbrev pub next_call : ℕ → ℕ
next_call calls = min (calls + 1) most_calls

-- a count after one more fault
abbrev pub one_more : ℕ → ℕ
one_more faults = min (faults + 1) most_faults

-- which calls fail, by their numbers; how many calls there were, and how many of them failed
pub record Plan : Type 0 where
  pub fails : List ℕ
  pub calls : ℕ
  pub faults : ℕ

-- a plan after a call that succeeded
abbrev pub plan_called : Plan → Plan
plan_called plan = record plan { calls = next_call plan.calls }

-- a plan after a call that failed
abbrev pub plan_failed : Plan → Plan
plan_failed plan = record plan { calls = next_call plan.calls; faults = one_more plan.faults }
