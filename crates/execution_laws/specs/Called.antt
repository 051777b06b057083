-- What the calls of an execution say of acts.
use Rattle.std.specs.Prelude.{◌≡◌, ◌≤◌, ℕ, Bool, true, false, ◌==◌, List, [], ◌∷◌, if◌then◌else◌}
use Rattle.session_script.specs.Script.{ScriptModel, stops}
use Rattle.session_script.specs.Lanes.{is_inline}
use Rattle.history_rules.specs.Calls.{accepted}
use Rattle.history_rules.specs.declared.phase.ActPhase.{ActPhase}
use Rattle.history_rules.specs.declared.phase.ActPhase.TheVariants as phase
use Rattle.history_rules.specs.declared.phase.ActState.{ActState}
use Rattle.history_rules.specs.declared.phase.CallPhase.TheVariants as call
use Rattle.strand_core.specs.declared.posted.Posted.{Posted}
use Rattle.strand_core.specs.declared.posted.Posted.TheVariants as posted

-- whether an act is called among these calls
abbrev pub is_called : ℕ → List Posted → Bool
is_called n [] = false
is_called n (posted.Begin op code size begun ∷ calls) = is_called n calls
is_called n (posted.Call act ∷ calls) = if act == n then true else is_called n calls
is_called n (posted.Back act ∷ calls) = is_called n calls
is_called n (posted.End op ran ∷ calls) = is_called n calls

-- whether one of them stops the context
abbrev pub are_stopping : ScriptModel → List Posted → Bool
are_stopping script [] = false
are_stopping script (posted.Begin op code size begun ∷ calls) = are_stopping script calls
are_stopping script (posted.Call act ∷ calls) =
    if stops script act then true else are_stopping script calls
are_stopping script (posted.Back act ∷ calls) = are_stopping script calls
are_stopping script (posted.End op ran ∷ calls) = are_stopping script calls

-- the acts that are called and accepted so, in order of their calls
abbrev pub called_as : (ActPhase → Bool) → ScriptModel → List Posted → List ℕ
called_as test script [] = []
called_as test script (posted.Begin op code size begun ∷ calls) = called_as test script calls
called_as test script (posted.Call act ∷ calls) =
    if test (accepted script act) then act ∷ called_as test script calls
    else called_as test script calls
called_as test script (posted.Back act ∷ calls) = called_as test script calls
called_as test script (posted.End op ran ∷ calls) = called_as test script calls

-- what an act is once its call is back: a dispatch inside its call has ended, and anything else is
-- as its call accepted it
abbrev pub settled_phase : ScriptModel → ℕ → ActPhase
settled_phase script n = if is_inline script n then phase.Ended else accepted script n

-- the act was called and its call is back, both from this place on
pub record IsBackSince (script : ScriptModel) (first n : ℕ) (act : ActState) : Type 0 where
  pub called : ℕ
  pub back : ℕ
  pub is : act ≡ record { call = call.Back called back; phase = settled_phase script n }
  pub since : first ≤ called
  pub order : called ≤ back
