-- What the answer for a whole text says.
use Rattle.std.proofs.Common.{ℕ, Bool, true, false, cond, List, length, Result, Ok, Err, ap, subst}
use Rattle.std.specs.Prelude.{IfOk, IfErr, nat_lt}
use Rattle.session_script.specs.declared.refusal.Refusal.{Refusal}
use Rattle.session_script.specs.declared.refusal.ScriptFault.{ScriptFault}
use Rattle.session_script.specs.declared.refusal.ScriptFault.TheVariants as fault
use Rattle.session_script.specs.declared.parts.ScriptParts.{ScriptParts}
use Rattle.session_script.specs.Script.{ScriptModel}
use Rattle.session_script.specs.Tokens.{tokens_of}
use Rattle.session_script.specs.Limits.{most_bytes}
use Rattle.session_script.specs.Grammar.{script, whole, text_len, reading, IsScript, first_fault, fault_of}
use Rattle.session_script.specs.Outcome.{Agrees, Names, model_of}

pub is_script : (r : Result ScriptParts ScriptFault) (bytes : List ℕ) → Agrees model_of r (reading bytes) →
    IfOk r (λ parts. IsScript bytes (model_of parts))
unfolding IsScript
is_script (Ok parts) bytes h = h
is_script (Err missing) bytes h = tt

pub is_first : (r : Result ScriptParts ScriptFault) (bytes : List ℕ) → Agrees model_of r (reading bytes) →
    IfErr r (λ missing. Names missing (first_fault bytes))
unfolding first_fault
is_first (Ok parts) bytes h = tt
is_first (Err fault.NoMemory) bytes h = tt
is_first (Err (fault.Refused refusal)) bytes h = ap fault_of h

-- of what a whole text says
abbrev pub Told : (ScriptModel → Type 0) → Result ScriptModel Refusal → Type 0
Told P (Ok model) = P model
Told P (Err refusal) = Unit {0}

choice_told : (P : ScriptModel → Type 0) (test : Bool) (refusal : Refusal) (r : Result ScriptModel Refusal) → Told P r →
    Told P (cond test (Err refusal) r)
choice_told P true refusal r p = tt
choice_told P false refusal r p = p

-- what is known of all that the production of scripts gives holds of each script
pub script_has : (P : ScriptModel → Type 0) (bytes : List ℕ) (model : ScriptModel) →
    Told P (whole (script (tokens_of bytes))) → IsScript bytes model → P model
unfolding IsScript reading
script_has P bytes model p is =
    subst (Told P) is (choice_told P (nat_lt most_bytes (length bytes)) _ _
    (choice_told P (nat_lt (text_len bytes) (length bytes)) _ _ p))
