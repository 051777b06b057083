-- There are calls of any acts.
use Rattle.std.proofs.Common.{◌≡◌, ℕ, zero, suc, ◌+◌, ◌<◌, ◌≤◌, List, [], ◌∷◌, ◌++◌, Bool, true, false, inl, inr, Some, length, refl, subst, arith}
use Rattle.asio_types.specs.declared.code.Class.{Class}
use Rattle.asio_types.specs.declared.code.Class.TheVariants as class
use Rattle.asio_types.specs.declared.code.Code.TheVariants as code
use Rattle.session_script.specs.Script.{ScriptModel, branch_of, parent_of}
use Rattle.session_script.specs.Lanes.{is_inline}
use Rattle.session_script.specs.WellFormed.{HasParent}
use Rattle.strand_core.specs.Execution.{AreCalls, no_act, outside, inside, execution_of, AnyMark}
use Rattle.strand_core.specs.declared.posted.Posted.{Posted}
use Rattle.strand_core.specs.declared.posted.Posted.TheVariants as posted
use Rattle.strand_core.proofs.TreeLemmas.{Among, parent_of-branch, among_within}

abbrev pub SomeCalls : ScriptModel → List ℕ → Type 0
SomeCalls script acts = (calls : List Posted) × AreCalls script AnyMark acts calls

one_more : (script : ScriptModel) (act : ℕ) (acts : List ℕ) (b : Bool) → is_inline script act ≡ b →
    SomeCalls script (branch_of script act class.Ok) → SomeCalls script acts → SomeCalls script (act ∷ acts)
one_more script act acts true is body rest =
    (posted.Call act ∷ (execution_of act code.Ok 0 0 0 body.0 ++ posted.Back act ∷ rest.0), inside is tt body.1 rest.1)
one_more script act acts false is body rest = (posted.Call act ∷ posted.Back act ∷ rest.0, outside is rest.1)

each : (script : ScriptModel) (acts : List ℕ) →
    ((a : ℕ) → Among a acts → SomeCalls script (branch_of script a class.Ok)) → SomeCalls script acts
each script [] bodies = ([], no_act)
each script (act ∷ acts) bodies =
    one_more script act acts (is_inline script act) refl (bodies act (inl refl))
    (each script acts (λ a among. bodies a (inr among)))

module _ (script : ScriptModel) (ordered : (n : ℕ) → HasParent script.acts n (parent_of script n)) where
  parent_below : (op a : ℕ) (class : Class) → Among a (branch_of script op class) → op < a
  parent_below op a class among =
      (subst (HasParent script.acts a) (parent_of-branch script op class a among) (ordered a)).0

  deep : (left op : ℕ) → length script.acts ≤ op + left → SomeCalls script (branch_of script op class.Ok)
  deep zero op enough =
      each script (branch_of script op class.Ok) (λ a among.
      absurd (omega (arith, parent_below op a class.Ok among, among_within script (Some (op, class.Ok)) a among)))
  deep (suc left) op enough =
      each script (branch_of script op class.Ok) (λ a among. deep left a (omega (arith, parent_below op a class.Ok among)))

  pub some_calls : (acts : List ℕ) → SomeCalls script acts
  some_calls acts = each script acts (λ a among. deep (length script.acts) a (omega arith))
