-- The acts of a body: each stands there alone, and behind the operation whose body it is.
use Rattle.std.proofs.Common.{◌≡◌, ℕ, zero, suc, ◌+◌, ◌<◌, ◌≤◌, Bool, true, false, cond, List, [], ◌∷◌, Some, None, length, refl, ap, ◌∙◌, arith}
use Rattle.std.specs.Prelude.{slice_get}
use Rattle.std.proofs.lemmas.Option.{slice_get_within}
use Rattle.asio_types.specs.Faults.{most_faults}
use Rattle.asio_types.specs.declared.code.Class.{Class}
use Rattle.asio_types.specs.declared.code.Class.TheVariants as class
use Rattle.session_script.specs.Script.{Entry, Place, ScriptModel, numbers_in, parent_of, same_class, same_place}
use Rattle.session_script.specs.WellFormed.{HasParent, IsWellFormed}
use Rattle.session_script.proofs.OrderLemmas.{same_place-true}
use Rattle.session_script.proofs.PlacesLemmas.{acts_allowed}
use Rattle.session_script.proofs.PlacingLemmas.{has_parent}

-- an act with this number stands in the place, where the first of the list has number first
record Standing (place : Place) (first : ℕ) (entries : List Entry) (n : ℕ) : Type 0 where
  index : ℕ
  is : n ≡ first + index
  entry : Entry
  at : slice_get entries index ≡ Some entry
  here : same_place place entry.parent ≡ true

standing_later : (place : Place) (first n : ℕ) (entry : Entry) (entries : List Entry) →
    Standing place (first + 1) entries n → Standing place first (entry ∷ entries) n
standing_later place first n entry entries later = record {
  index = suc later.index;
  is = omega (arith, later.is);
  entry = later.entry;
  at = later.at;
  here = later.here;
}

standing_by : (place : Place) (first n : ℕ) (entry : Entry) (entries : List Entry) (numbers : List ℕ) (here : Bool)
    (k : ℕ) → same_place place entry.parent ≡ here →
    ((k : ℕ) → slice_get numbers k ≡ Some n → Standing place (first + 1) entries n) →
    slice_get (cond here (first ∷ numbers) numbers) k ≡ Some n → Standing place first (entry ∷ entries) n
standing_by place first n entry entries numbers true zero here rest at =
    let same : first ≡ n = cc in record { index = 0; is = omega (arith, same); entry = entry; at = refl; here = here }
standing_by place first n entry entries numbers true (suc k) here rest at =
    standing_later place first n entry entries (rest k at)
standing_by place first n entry entries numbers false k here rest at =
    standing_later place first n entry entries (rest k at)

standing : (place : Place) (first n : ℕ) (entries : List Entry) (k : ℕ) →
    slice_get (numbers_in place first entries) k ≡ Some n → Standing place first entries n
standing place first n [] k at = absurd (cc)
standing place first n (entry ∷ entries) k at =
    standing_by place first n entry entries (numbers_in place (first + 1) entries) (same_place place entry.parent) k refl
    (standing place (first + 1) n entries) at

alone_by : (first n : ℕ) (numbers : List ℕ) (here : Bool) (i k : ℕ) →
    ((i : ℕ) → slice_get numbers i ≡ Some n → first < n) →
    ((i k : ℕ) → slice_get numbers i ≡ Some n → slice_get numbers k ≡ Some n → i ≡ k) →
    slice_get (cond here (first ∷ numbers) numbers) i ≡ Some n →
    slice_get (cond here (first ∷ numbers) numbers) k ≡ Some n → i ≡ k
alone_by first n numbers true zero zero above rest at there = refl
alone_by first n numbers true zero (suc k) above rest at there =
    let same : first ≡ n = cc in let more = above k there in absurd (omega (arith, same, more))
alone_by first n numbers true (suc i) zero above rest at there =
    let same : first ≡ n = cc in let more = above i at in absurd (omega (arith, same, more))
alone_by first n numbers true (suc i) (suc k) above rest at there = ap (λ (i : ℕ). suc i) (rest i k at there)
alone_by first n numbers false i k above rest at there = rest i k at there

alone : (place : Place) (first n : ℕ) (entries : List Entry) (i k : ℕ) →
    slice_get (numbers_in place first entries) i ≡ Some n → slice_get (numbers_in place first entries) k ≡ Some n →
    i ≡ k
alone place first n [] i k at there = absurd (cc)
alone place first n (entry ∷ entries) i k at there =
    alone_by first n (numbers_in place (first + 1) entries) (same_place place entry.parent) i k
    (λ i at. let later = standing place (first + 1) n entries i at in omega (arith, later.is))
    (alone place (first + 1) n entries) at there

pub same_class-self : (class : Class) → same_class class class ≡ true
same_class-self class.Ok = refl
same_class-self class.Abort = refl
same_class-self class.Other = refl

pub same_class-true : (first second : Class) → same_class first second ≡ true → first ≡ second
same_class-true class.Ok class.Ok is = refl
same_class-true class.Abort class.Abort is = refl
same_class-true class.Other class.Other is = refl
same_class-true class.Ok class.Abort is = absurd (cc)
same_class-true class.Ok class.Other is = absurd (cc)
same_class-true class.Abort class.Ok is = absurd (cc)
same_class-true class.Abort class.Other is = absurd (cc)
same_class-true class.Other class.Ok is = absurd (cc)
same_class-true class.Other class.Abort is = absurd (cc)

-- the acts of a body
abbrev pub body_of : ScriptModel → Place → List ℕ
body_of script place = numbers_in place 0 script.acts

-- an act that comes behind the operation whose body it is in
abbrev pub IsBehind : Place → ℕ → Type 0
IsBehind None n = Unit {0}
IsBehind (Some at) n = at.0 < n

behind_by : (script : ScriptModel) (n : ℕ) (place : Place) → HasParent script.acts n place → IsBehind place n
behind_by script n None has = tt
behind_by script n (Some at) has = has.0

module _ (script : ScriptModel) (well : IsWellFormed script) where
  pub few_acts : length script.acts < most_faults
  few_acts = omega (arith, well.acts.count, acts_allowed script.version)

  pub behind : (n : ℕ) → IsBehind (parent_of script n) n
  behind n = behind_by script n (parent_of script n) (has_parent script n well)

module _ (script : ScriptModel) (place : Place) (n k : ℕ) (at : slice_get (body_of script place) k ≡ Some n) where
  pub is_act_of : n < length script.acts
  is_act_of =
      let there = standing place 0 n script.acts k at in
      omega (arith, there.is, slice_get_within script.acts there.index there.entry there.at)

  pub stands_in : parent_of script n ≡ place
  stands_in =
      let there = standing place 0 n script.acts k at in
      let same : n ≡ there.index = omega (arith, there.is) in
      let itself : parent_of script there.index ≡ there.entry.parent = rw there.at refl in
      ap (parent_of script) same ∙ (itself ∙ same_place-true place there.entry.parent there.here)

  pub at_once : (i : ℕ) → slice_get (body_of script place) i ≡ Some n → i ≡ k
  at_once i there = alone place 0 n script.acts i k there at

length_by : (first : ℕ) (numbers : List ℕ) (size : ℕ) (here : Bool) → length numbers ≤ size →
    length (cond here (first ∷ numbers) numbers) ≤ size + 1
length_by first numbers size true within = omega (arith, within)
length_by first numbers size false within = omega (arith, within)

-- no body has more acts than the script
pub few_in : (place : Place) (first : ℕ) (entries : List Entry) →
    length (numbers_in place first entries) ≤ length entries
few_in place first [] = omega arith
few_in place first (entry ∷ entries) =
    let here = length_by first (numbers_in place (first + 1) entries) (length entries) (same_place place entry.parent)
    (few_in place (first + 1) entries) in
    omega (arith, here)
