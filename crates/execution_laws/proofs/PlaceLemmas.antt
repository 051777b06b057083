-- The acts of a body.
use Rattle.std.proofs.Common.{◌≡◌, ℕ, zero, suc, ◌+◌, ◌<◌, Bool, true, false, cond, List, [], ◌∷◌, Some, None, length, refl, ap, subst, ◌∙◌, arith}
use Rattle.std.specs.Prelude.{slice_get}
use Rattle.std.proofs.lemmas.Option.{slice_get_within}
use Rattle.asio_types.specs.Faults.{most_faults}
use Rattle.session_script.specs.Script.{Entry, Place, ScriptModel, numbers_in, parent_of, same_place}
use Rattle.session_script.specs.WellFormed.{HasParent, IsWellFormed}
use Rattle.session_script.proofs.OrderLemmas.{same_place-true}
use Rattle.session_script.proofs.PlacesLemmas.{acts_allowed}
use Rattle.session_script.proofs.PlacingLemmas.{has_parent}
use Rattle.execution_laws.proofs.StateLemmas.{IsBehind, acts_in}

-- an act of a body, by its index among all
pub record Listed (place : Place) (n : ℕ) (entries : List Entry) (a : ℕ) : Type 0 where
  pub k : ℕ
  pub is : a ≡ n + k
  pub entry : Entry
  pub at : slice_get entries k ≡ Some entry
  pub here : same_place place entry.parent ≡ true

listed_later : (place : Place) (n a : ℕ) (entry : Entry) (entries : List Entry) → Listed place (n + 1) entries a →
    Listed place n (entry ∷ entries) a
listed_later place n a entry entries l = record {
  k = suc l.k;
  is = omega (arith, l.is);
  entry = l.entry;
  at = l.at;
  here = l.here;
}

listed_by : (place : Place) (n a : ℕ) (entry : Entry) (entries : List Entry) (numbers : List ℕ) (here : Bool) (i : ℕ) →
    same_place place entry.parent ≡ here → ((j : ℕ) → slice_get numbers j ≡ Some a → Listed place (n + 1) entries a) →
    slice_get (cond here (n ∷ numbers) numbers) i ≡ Some a → Listed place n (entry ∷ entries) a
listed_by place n a entry entries numbers true zero here rest is =
    let same : n ≡ a = cc in record { k = 0; is = omega (arith, same); entry = entry; at = refl; here = here }
listed_by place n a entry entries numbers true (suc i) here rest is = listed_later place n a entry entries (rest i is)
listed_by place n a entry entries numbers false i here rest is = listed_later place n a entry entries (rest i is)

pub listed : (place : Place) (n a : ℕ) (entries : List Entry) (i : ℕ) →
    slice_get (numbers_in place n entries) i ≡ Some a → Listed place n entries a
listed place n a [] i is = absurd (cc)
listed place n a (entry ∷ entries) i is =
    listed_by place n a entry entries (numbers_in place (n + 1) entries) (same_place place entry.parent) i refl
    (listed place (n + 1) a entries) is

module _ (script : ScriptModel) (well : IsWellFormed script) where
  pub few_acts : length script.acts < most_faults
  few_acts = omega (arith, well.acts.count, acts_allowed script.version)

  -- what is known of an act of a body
  module _ (place : Place) (a k : ℕ) (at : slice_get (acts_in script place) k ≡ Some a) where
    pub within_script : a < length script.acts
    within_script =
        let l = listed place 0 a script.acts k at in omega (arith, l.is, slice_get_within script.acts l.k l.entry l.at)

    pub parent_is : parent_of script a ≡ place
    parent_is =
        let l = listed place 0 a script.acts k at in
        let same : a ≡ l.k = omega (arith, l.is) in
        let itself : parent_of script l.k ≡ l.entry.parent = rw l.at refl in
        ap (parent_of script) same ∙ (itself ∙ same_place-true place l.entry.parent l.here)

    behind_by : (p : Place) → HasParent script.acts a p → IsBehind p a
    behind_by None has = tt
    behind_by (Some at) has = has.0

    pub behind_it : IsBehind place a
    behind_it = behind_by place (subst (HasParent script.acts a) parent_is (has_parent script a well))
