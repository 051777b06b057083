-- What is known of the acts of a script that is well formed.
use Rattle.std.proofs.Common.{◌≡◌, ◌≤◌, ℕ, Option, Some, None, length, refl, subst, arith}
use Rattle.std.specs.Prelude.{slice_get}
use Rattle.session_script.specs.declared.act.Act.{Act}
use Rattle.session_script.specs.declared.parts.ScriptParts.{ScriptParts}
use Rattle.session_script.specs.Script.{Entry, ScriptModel, act_of, parent_of}
use Rattle.session_script.specs.Limits.{most_acts}
use Rattle.session_script.specs.Grammar.{IsScript}
use Rattle.session_script.specs.Spelling.{spelling_of}
use Rattle.session_script.specs.WellFormed.{FitsAct, HasParent, IsWellFormed, header_of}
use Rattle.session_script.specs.Outcome.{model_of}
use Rattle.session_script.proofs.PlacesLemmas.{acts_allowed, length-entries}
use Rattle.session_script.proofs.ReadingBackLemmas.{spells}

-- there are no more than either version allows
acts_are_few : (script : ScriptModel) → IsScript (spelling_of script) script → length script.acts ≤ most_acts
acts_are_few script is =
    omega (arith, (spells (spelling_of script) script is).limits.acts.count, acts_allowed script.version)

pub entries_are_few : (parts : ScriptParts) → IsScript (spelling_of (model_of parts)) (model_of parts) →
    length parts.acts.items ≤ most_acts
unfolding model_of
entries_are_few parts is = omega (arith, acts_are_few (model_of parts) is, length-entries parts.acts.items)

module _ (script : ScriptModel) (n : ℕ) (well : IsWellFormed script) where
  -- it stands in `open`, or in a branch of an earlier act
  pub has_parent : HasParent script.acts n (parent_of script n)
  has_parent = by_entry (slice_get script.acts n) refl
    where
      by_entry : (found : Option Entry) → slice_get script.acts n ≡ found → HasParent script.acts n (parent_of script n)
      by_entry None there = rw there tt
      by_entry (Some entry) there = rw there (well.acts.placed n entry there).parent

  -- what it names is declared, and it is within the limits
  pub act_fits : (found : Act) → act_of script n ≡ Some found → FitsAct (header_of script) found
  act_fits found is = by_entry (slice_get script.acts n) refl
    where
      by_entry : (entry : Option Entry) → slice_get script.acts n ≡ entry → FitsAct (header_of script) found
      by_entry None there = absurd (cc (rw there at is))
      by_entry (Some entry) there =
          let same : entry.act ≡ found = cc (rw there at is) in
          subst (FitsAct (header_of script)) same (well.acts.placed n entry there).fits
