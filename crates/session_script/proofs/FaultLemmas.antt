-- A text is a script or has a fault, and it is one script.
use Rattle.std.proofs.Common.{◌≡◌, ◌≤◌, ℕ, List, length, ap}
use Rattle.std.specs.Prelude.{Some}
use Rattle.session_script.specs.Grammar.{IsScript, fault_of, first_fault}
use Rattle.session_script.specs.Limits.{most_bytes}
use Rattle.session_script.specs.Script.{ScriptModel}
use Rattle.session_script.specs.declared.refusal.Refusal.{Refusal}
use Rattle.session_script.proofs.ReadingBackLemmas.{spells}

-- a script is no longer than its limit
pub script_size : (bytes : List ℕ) (script : ScriptModel) → IsScript bytes script → length bytes ≤ most_bytes
script_size bytes script is = (spells bytes script is).size

-- a text of a script has no fault
pub no_fault : (bytes : List ℕ) (script : ScriptModel) (refusal : Refusal) → IsScript bytes script →
    first_fault bytes ≡ Some refusal → ⊥
unfolding IsScript first_fault
no_fault bytes script refusal is fault = cc (ap fault_of is, fault)

-- a text has one script
pub one_script : (bytes : List ℕ) (first second : ScriptModel) → IsScript bytes first → IsScript bytes second →
    first ≡ second
unfolding IsScript
one_script bytes first second one other = cc (one, other)
