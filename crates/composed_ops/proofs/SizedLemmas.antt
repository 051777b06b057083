-- The acts of a script ask for at least one byte, and for as many as 32 bits count.
use Rattle.std.proofs.Common.{ℕ, ◌<◌, ◌≤◌, ◌^◌, Bool, true, false, cond, nat_eq, length, arith}
use Rattle.session_script.specs.declared.act.Act.{Act}
use Rattle.session_script.specs.declared.act.Act.TheVariants as act
use Rattle.session_script.specs.Limits.{limits_of}
use Rattle.session_script.specs.Script.{ScriptModel}
use Rattle.session_script.specs.WellFormed.{FitsAct, IsSize, header_of}
use Rattle.composed_ops.specs.StreamOperation.{IsSizedAct, asking_of}

either : (first : Bool) → cond first 4096 16384 < 2 ^ 32
either true = omega arith
either false = omega arith

size_allowed : (version : ℕ) → (limits_of version).size < 2 ^ 32
unfolding limits_of
size_allowed version = either (nat_eq version 1)

sized : (version n : ℕ) → IsSize (limits_of version).size n → (1 ≤ n) × (n < 2 ^ 32)
sized version n is = (is.0, omega (arith, is.1, size_allowed version))

pub act-sized : (script : ScriptModel) (a : Act) → FitsAct (header_of script) a → IsSizedAct (asking_of a)
act-sized script (act.Post strand) fits = tt
act-sized script (act.Defer strand) fits = tt
act-sized script (act.Dispatch strand) fits = tt
act-sized script (act.Expires timer after) fits = tt
act-sized script (act.ExpiresAt timer at) fits = tt
act-sized script (act.Wait timer strand slot filter) fits = tt
act-sized script (act.Cancel timer) fits = tt
act-sized script (act.CancelOne timer) fits = tt
act-sized script (act.Emit slot kinds) fits = tt
act-sized script (act.ReadSome stream size strand slot filter) fits = sized script.version size fits.1
act-sized script (act.ReadAll stream size strand slot filter) fits = sized script.version size fits.1
act-sized script (act.Until stream delimiter max strand slot filter) fits = sized script.version max fits.2
act-sized script (act.WriteSome stream bytes strand slot filter) fits = sized script.version (length bytes) fits.1
act-sized script (act.WriteAll stream bytes strand slot filter) fits = sized script.version (length bytes) fits.1
act-sized script (act.Close stream) fits = tt
act-sized script (act.Release guard) fits = tt
act-sized script act.Stop fits = tt
