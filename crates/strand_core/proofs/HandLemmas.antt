-- Lists of handlers of which one is taken.
use Rattle.std.proofs.Common.{◌≡◌, ◌≢◌, ℕ, zero, suc, ◌<◌, ◌≤◌, false, List, [], ◌∷◌, ◌⊎◌, inl, inr, Option, Some, None, IsSome, length, get_or, refl, sym, ap, subst, ◌∙◌, arith}
use Rattle.std.specs.Prelude.{◌↔◌, IsTrue, slice_get, slice_set}
pub use Rattle.op_handlers.proofs.DiscardLemmas.{taken_other, taken_same}
use Rattle.session_script.specs.Script.{ScriptModel, parent_of}
use Rattle.session_script.specs.WellFormed.{HasParent}
use Rattle.strand_core.specs.Hands.{Held, IsInlineOf, HasInlineOf, KeepsInline, CallerIsGone, in_list}

pub is_within : {H : Type 0} (hs : List (Option H)) (op : ℕ) → IsSome (in_list hs op) → op < length hs
is_within [] op some = absurd (cc)
is_within (h ∷ hs) zero some = omega arith
is_within (h ∷ hs) (suc op) some = omega (arith, is_within hs op some)

pub in_list-get_or : {H : Type 0} (hs : List (Option H)) (n : ℕ) → in_list hs n ≡ get_or hs n None
in_list-get_or [] n = refl
in_list-get_or (h ∷ hs) zero = refl
in_list-get_or (h ∷ hs) (suc n) = in_list-get_or hs n

pub none_past : {H : Type 0} (hs : List (Option H)) (n : ℕ) → length hs ≤ n → in_list hs n ≡ None
none_past [] n past = refl
none_past (h ∷ hs) zero past = absurd (omega arith)
none_past (h ∷ hs) (suc n) past = none_past hs n (omega arith)

-- a number with nothing
pub free_at : {H : Type 0} (hs : List (Option H)) (k : ℕ) → k < length hs → in_list hs k ≡ None →
    slice_get hs k ≡ Some None
free_at [] k less none = absurd (omega arith)
free_at (None ∷ hs) zero less none = refl
free_at (Some h ∷ hs) zero less none = absurd (cc none)
free_at (h ∷ hs) (suc k) less none = free_at hs k (omega arith) none

-- nothing is taken where nothing is
pub taken_none : {H : Type 0} (hs : List (Option H)) (op : ℕ) → in_list hs op ≡ None → slice_set hs op None ≡ hs
taken_none [] op none = refl
taken_none (None ∷ hs) zero none = refl
taken_none (Some h ∷ hs) zero none = absurd (cc)
taken_none (h ∷ hs) (suc op) none = ap (λ rest. h ∷ rest) (taken_none hs op none)

-- nothing is not something
pub none_is_gone : {H : Type 0} (handler : Option H) → None ≡ handler → IsSome handler → ⊥
none_is_gone handler none some = absurd (cc (none, some))

-- an element that differs, or is the same
pub same_or_not : (a b : ℕ) → (a ≡ b) ⊎ (a ≢ b)
same_or_not zero zero = inl refl
same_or_not zero (suc b) = inr (λ same. absurd (cc))
same_or_not (suc a) zero = inr (λ same. absurd (cc))
same_or_not (suc a) (suc b) =
    elim (same_or_not a b) [ inl same ↦ inl (ap suc same) | inr differ ↦ inr (λ same. differ (omega (arith, same))) ]

there_before : {H : Type 0} (hs : List (Option H)) (op n : ℕ) → IsSome (in_list (slice_set hs op None) n) →
    IsSome (in_list hs n) × (op ≢ n)
there_before hs op n some =
    elim (same_or_not op n) [
      | inl same ↦
          absurd (let none : in_list (slice_set hs op None) n ≡ None =
          ap (in_list (slice_set hs op None)) (sym same) ∙ taken_same hs op in
          let some' : IsSome (in_list (slice_set hs op None) n) = some in cc (none, some'))
      | inr differ ↦ (subst IsSome (taken_other hs op n differ) some, differ)
    ]

module _ {H : Type 0} (script : ScriptModel) (ordered : (n : ℕ) → HasParent script.acts n (parent_of script n))
    (hs : List (Option H)) (op : ℕ) where
  pub callee_later : (caller n : ℕ) → IsInlineOf script caller n → caller < n
  callee_later caller n inside = (subst (HasParent script.acts n) inside.1 (ordered n)).0

  -- with the handler of an operation that isn't inside another one's execution, what executes inside it may stay
  pub keeps_taken : KeepsInline script hs → CallerIsGone (record { script = script; handlers = hs }) op →
      KeepsInline script (slice_set hs op None)
  keeps_taken keeps gone caller some n inside =
      let before = there_before hs op caller some in
      let there : IsSome (in_list hs n) = keeps caller before.0 n inside in
      let differ : op ≢ n = λ same.
      let none : in_list hs caller ≡ None = gone caller (subst (IsInlineOf script caller) (sym same) inside) in
      let some' : IsSome (in_list hs caller) = before.0 in absurd (cc (none, some')) in
      subst IsSome (sym (taken_other hs op n differ)) there

  pub inside_taken : KeepsInline script hs → IsSome (in_list hs op) → HasInlineOf script (slice_set hs op None) op
  inside_taken keeps some n inside =
      subst IsSome (sym (taken_other hs op n (λ same. absurd (omega (arith, callee_later op n inside, same)))))
      (keeps op some n inside)

pub script_length : {H : Type 0} {a b : Held H} → a ≡ b → length a.script.acts ≡ length b.script.acts
script_length same = ap (λ v. length v.script.acts) same

pub neither : {H : Type 0} (h : Option H) → h ≡ None → IsTrue false ↔ IsSome h
neither None none = (λ is. absurd (cc is), λ some. absurd (cc some))
neither (Some h) none = absurd (cc none)
