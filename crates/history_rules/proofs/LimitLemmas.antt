-- What the limits of a script are.
use Rattle.std.proofs.Common.{ℕ, ◌<◌, ◌^◌, arith}
use Rattle.std.proofs.lemmas.Grind.{common_steps}
use Rattle.session_script.specs.Limits.{limits_of}

-- 32 bits count the bytes of an act
pub size-below : (version : ℕ) → (limits_of version).size < 2 ^ 32
unfolding limits_of
size-below version = grind (arith, common_steps)

-- times and durations
pub time-below : (version : ℕ) → (limits_of version).time < 2 ^ 40
unfolding limits_of
time-below version = grind (arith, common_steps)
