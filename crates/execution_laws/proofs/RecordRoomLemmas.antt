-- How much room a session needs.
use Rattle.std.proofs.Common.{ℕ, ◌≤◌, arith}
use Rattle.std.proofs.lemmas.Grind.{common_steps}
use Rattle.session_script.specs.Limits.{limits_of}

-- the lines and the rounds of a script are few
pub lines-below : (version : ℕ) → (limits_of version).lines ≤ 1024
unfolding limits_of
lines-below version = grind (arith, common_steps)

pub rounds-below : (version : ℕ) → (limits_of version).rounds ≤ 64
unfolding limits_of
rounds-below version = grind (arith, common_steps)
