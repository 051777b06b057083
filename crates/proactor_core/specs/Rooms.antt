-- How many operations of one kind a script has, which is the room that they can need.
use Rattle.std.specs.Prelude.{ℕ, ◌+◌, ◌==◌, zero, suc, Bool, true, false, List, Option, Some, None, if◌then◌else◌}
use Rattle.std.specs.List.{slice_index_or}
use Rattle.session_script.specs.declared.act.Act.{Act}
use Rattle.session_script.specs.declared.act.Act.TheVariants as act
use Rattle.session_script.specs.Script.{ScriptModel, act_of}

abbrev pub one_if : (Act → Bool) → Option Act → ℕ
one_if test None = 0
one_if test (Some act) = if test act then 1 else 0

-- how many of the first acts pass the test
abbrev pub acts_below : (Act → Bool) → ScriptModel → ℕ → ℕ
acts_below test script zero = 0
acts_below test script (suc a) = acts_below test script a + one_if test (act_of script a)

-- whether an act waits for this timer
abbrev pub waits_for : ℕ → Act → Bool
waits_for timer (act.Wait other strand slot filter) = other == timer
waits_for timer _ = false

-- how many of the first acts that weren't taken pass the test
abbrev pub untaken_below : (Act → Bool) → ScriptModel → List Bool → ℕ → ℕ
untaken_below test script taken zero = 0
untaken_below test script taken (suc a) =
    untaken_below test script taken a
    + (if slice_index_or taken a true then 0 else one_if test (act_of script a))
