use Rattle.std.proofs.Common.{ℕ, ◌≤◌, Bool, true, false, cond, arith}
use Rattle.std.specs.Prelude.{nat_eq}
use Rattle.session_script.specs.Limits.{limits_of}
use Rattle.lane_turns.proofs.law.rounds_are_few.Goals as goal

either : (first : Bool) → cond first 16 64 ≤ 64
either true = omega arith
either false = omega arith

rounds_allowed : (version : ℕ) → (limits_of version).rounds ≤ 64
unfolding limits_of
rounds_allowed version = either (nat_eq version 1)

pub returns : goal.returns
returns c =
    omega (arith, c.scripts_are_well_formed.ensures.round_count, rounds_allowed c.args.script.now.version)
