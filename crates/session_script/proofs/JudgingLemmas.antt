-- What a test of a token lets through.
use Rattle.std.proofs.Common.{◌≡◌, Result, Ok, Err}
use Rattle.std.specs.Prelude.{IfOk}
use Rattle.session_script.specs.declared.refusal.Rule.{Rule}
use Rattle.session_script.specs.declared.refusal.ScriptFault.{ScriptFault}

-- what is known of each value that a test gives is known of the answer
pub judged_holds : {X : Type 0} (P : X → Type 0) (tested : Result X Rule) (answer : Result X ScriptFault) →
    IfOk answer (λ value. tested ≡ Ok value) → IfOk tested P → IfOk answer P
judged_holds P tested (Ok value) passed known = rw passed at known
judged_holds P tested (Err missing) passed known = tt

-- what a value gives, it gives wherever there is one
pub ok_more : {X E : Type 0} (P Q : X → Type 0) (answer : Result X E) → ((value : X) → P value → Q value) →
    IfOk answer P → IfOk answer Q
ok_more P Q (Ok value) more known = more value known
ok_more P Q (Err missing) more known = tt
