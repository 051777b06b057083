-- No act is called twice in a body.
use Rattle.std.proofs.Common.{◌≡◌, ◌⊎◌, ℕ, zero, suc, ◌+◌, ◌<◌, Bool, true, false, ◌||◌, cond, List, [], ◌∷◌, ◌++◌, Some, None, inl, inr, refl, sym, ap, subst, ◌∙◌, arith}
use Rattle.std.specs.Prelude.{slice_get}
use Rattle.std.proofs.lemmas.Bool.{or_cases}
use Rattle.std.proofs.Math.Bool.{or-true}
use Rattle.asio_types.specs.declared.code.Class.TheVariants as class
use Rattle.asio_types.specs.declared.code.Code.TheVariants as code
use Rattle.session_script.specs.Script.{Entry, Place, ScriptModel, numbers_in, parent_of, same_place}
use Rattle.session_script.specs.Lanes.{is_inline}
use Rattle.session_script.specs.WellFormed.{HasParent, IsWellFormed}
use Rattle.session_script.proofs.PlacingLemmas.{has_parent}
use Rattle.op_handlers.specs.declared.call.Call.{Call}
use Rattle.strand_core.specs.Execution.{AreCalls, no_act, outside, inside, execution_of}
use Rattle.strand_core.specs.declared.posted.Posted.{Posted}
use Rattle.strand_core.specs.declared.posted.Posted.TheVariants as posted
use Rattle.execution_laws.specs.Called.{is_called}
use Rattle.execution_laws.proofs.ActsCalledLemmas.{first_called, later_called}
use Rattle.execution_laws.proofs.CalledLemmas.{called-append, called-execution, one_called}
use Rattle.execution_laws.proofs.PlaceLemmas.{listed, parent_is}
use Rattle.execution_laws.proofs.StateLemmas.{IsBehind}

-- a dispatch that executes inside its call, among these calls, and the act stands in its body
pub record IsUnder (script : ScriptModel) (n : ℕ) (calls : List Posted) : Type 0 where
  pub parent : ℕ
  pub is_parent : parent_of script n ≡ Some (parent, class.Ok)
  pub inline : is_inline script parent ≡ true
  pub called : is_called parent calls ≡ true

-- an act by its place in a list
abbrev pub IsOf : ℕ → List ℕ → Type 0
IsOf n acts = (i : ℕ) × (slice_get acts i ≡ Some n)

-- the operation of a place
abbrev pub operation_of : Place → ℕ
operation_of None = 0
operation_of (Some at) = at.0

under_more : (script : ScriptModel) (n : ℕ) (some all : List Posted) →
    ((m : ℕ) → is_called m some ≡ true → is_called m all ≡ true) → IsUnder script n some → IsUnder script n all
under_more script n some all more under = record {
  parent = under.parent;
  is_parent = under.is_parent;
  inline = under.inline;
  called = more under.parent under.called;
}

-- numbers of a place rise
rise_by : (n : ℕ) (numbers : List ℕ) (here : Bool) (i j a b : ℕ) → i < j →
    ((i j a b : ℕ) → i < j → slice_get numbers i ≡ Some a → slice_get numbers j ≡ Some b → a < b) →
    ((j b : ℕ) → slice_get numbers j ≡ Some b → n < b) → slice_get (cond here (n ∷ numbers) numbers) i ≡ Some a →
    slice_get (cond here (n ∷ numbers) numbers) j ≡ Some b → a < b
rise_by n numbers true zero zero a b less rest above first second = absurd (omega (arith, less))
rise_by n numbers true zero (suc j) a b less rest above first second =
    let same : n ≡ a = cc in omega (arith, same, above j b second)
rise_by n numbers true (suc i) zero a b less rest above first second = absurd (omega (arith, less))
rise_by n numbers true (suc i) (suc j) a b less rest above first second =
    rest i j a b (omega (arith, less)) first second
rise_by n numbers false i j a b less rest above first second = rest i j a b less first second

pub numbers_rise : (place : Place) (n : ℕ) (entries : List Entry) (i j a b : ℕ) → i < j →
    slice_get (numbers_in place n entries) i ≡ Some a → slice_get (numbers_in place n entries) j ≡ Some b → a < b
numbers_rise place n [] i j a b less first second = absurd (cc)
numbers_rise place n (entry ∷ entries) i j a b less first second =
    rise_by n (numbers_in place (n + 1) entries) (same_place place entry.parent) i j a b less (numbers_rise place (n + 1) entries)
    (λ j b at. let l = listed place (n + 1) b entries j at in omega (arith, l.is)) first second

module _ (script : ScriptModel) (well : IsWellFormed script) (HasMark : Call → ℕ → Type 0) where
  -- what is called is one of the acts, or stands under one that executes inside its call
  pub called_from : {acts : List ℕ} {calls : List Posted} → AreCalls script HasMark acts calls → (n : ℕ) →
      is_called n calls ≡ true → IsOf n acts ⊎ IsUnder script n calls
  called_from no_act n is = absurd (cc)
  called_from (outside {act} {acts} {calls} isnt more) n is = elim (one_called act n (is_called n calls) is) [
    | inl same ↦ inl (0, ap Some same)
    | inr later ↦ elim (called_from more n later) [
      | inl of ↦ inl (suc of.0, of.1)
      | inr under ↦
          inr (under_more script n calls (posted.Call act ∷ posted.Back act ∷ calls)
          (λ m called. later_called act m (is_called m calls) called) under)
    ]
  ]
  called_from (inside {act} {begun} {mark} {acts} {body} {calls} is_in marked inner more) n is =
      let rest : List Posted = execution_of act code.Ok 0 begun mark body ++ posted.Back act ∷ calls in
      let all : List Posted = posted.Call act ∷ rest in
      let parts = λ (m : ℕ).
      called-append m (execution_of act code.Ok 0 begun mark body) (posted.Back act ∷ calls)
      ∙ ap (λ b. b || is_called m calls) (called-execution m act code.Ok 0 begun mark body) in
      elim (one_called act n (is_called n rest) is) [
        | inl same ↦ inl (0, ap Some same)
        | inr later ↦ elim (or_cases (is_called n body) (is_called n calls) (sym (parts n) ∙ later)) [
          | inl in_body ↦ elim (called_from inner n in_body) [
            | inl of ↦ inr (record {
              parent = act;
              is_parent = parent_is script well (Some (act, class.Ok)) n of.0 of.1;
              inline = is_in;
              called = first_called act act (is_called act rest) refl;
            })
            | inr under ↦
                inr (under_more script n body all
                (λ m called.
                later_called act m (is_called m rest) (parts m ∙ ap (λ b. b || is_called m calls) called)) under)
          ]
          | inr after ↦ elim (called_from more n after) [
            | inl of ↦ inl (suc of.0, of.1)
            | inr under ↦
                inr (under_more script n calls all
                (λ m called.
                later_called act m (is_called m rest)
                (parts m ∙ (ap (λ b. is_called m body || b) called ∙ or-true (is_called m body)))) under)
          ]
        ]
      ]

  -- acts of one body, and no act of both lists
  module _ (place : Place) {some others : List ℕ} {xs ys : List Posted} (first : AreCalls script HasMark some xs)
      (second : AreCalls script HasMark others ys) (here : (n : ℕ) → IsOf n some → parent_of script n ≡ place)
      (there : (n : ℕ) → IsOf n others → parent_of script n ≡ place)
      (differ : (n : ℕ) → IsOf n some → IsOf n others → ⊥) (own : (n : ℕ) → is_called n xs ≡ true → IsBehind place n)
      (own_too : (n : ℕ) → is_called n ys ≡ true → IsBehind place n) where
    -- an act of the body isn't under another one
    not_under : (n parent : ℕ) → parent_of script n ≡ place → parent_of script n ≡ Some (parent, class.Ok) →
        IsBehind place parent → ⊥
    not_under n parent is under behind =
        let itself : parent < parent = subst (λ p. IsBehind p parent) (sym is ∙ under) behind in omega (arith, itself)

    apart_by : (fuel n : ℕ) → n < fuel → is_called n xs ≡ true → is_called n ys ≡ true → ⊥
    apart_by zero n less one two = omega (arith, less)
    apart_by (suc fuel) n less one two = elim (called_from first n one) [
      | inl of ↦ elim (called_from second n two) [
        | inl of_too ↦ differ n of of_too
        | inr under ↦ not_under n under.parent (here n of) under.is_parent (own_too under.parent under.called)
      ]
      | inr under ↦ elim (called_from second n two) [
        | inl of_too ↦ not_under n under.parent (there n of_too) under.is_parent (own under.parent under.called)
        | inr under_too ↦
            let same : under_too.parent ≡ under.parent = ap operation_of (sym under_too.is_parent ∙ under.is_parent) in
            let before : under.parent < n =
            (subst (HasParent script.acts n) under.is_parent (has_parent script n well)).0 in
            apart_by fuel under.parent (omega (arith, less, before)) under.called
            (subst (λ p. is_called p ys ≡ true) same under_too.called)
      ]
    ]

    -- no act is called in both
    pub apart : (n : ℕ) → is_called n xs ≡ true → is_called n ys ≡ true → ⊥
    apart n = apart_by (suc n) n (omega arith)
