-- Which operations begin inside an execution.
use Rattle.std.proofs.Common.{◌≡◌, ℕ, zero, suc, ◌+◌, ◌<◌, cond, List, [], ◌∷◌, ◌++◌, Bool, true, false, ◌⊎◌, inl, inr, Some, length, take, get_or, refl, sym, ap, subst, ◌∙◌, arith}
use Rattle.std.specs.Prelude.{◌==◌, ◌||◌, slice_get}
use Rattle.std.proofs.lemmas.Bool.{eqb-true}
use Rattle.std.proofs.lemmas.Option.{slice_get_within}
use Rattle.asio_types.specs.declared.code.Class.{Class}
use Rattle.asio_types.specs.declared.code.Class.TheVariants as class
use Rattle.asio_types.specs.declared.code.Code.TheVariants as code
use Rattle.op_handlers.specs.declared.call.Call.{Call}
use Rattle.session_script.specs.Script.{Place, Entry, ScriptModel, same_place, numbers_in, branch_of, parent_of}
use Rattle.session_script.specs.WellFormed.{HasParent}
use Rattle.session_script.proofs.OrderLemmas.{same_place-true}
use Rattle.strand_core.specs.Execution.{AreCalls, no_act, outside, inside, execution_of}
use Rattle.strand_core.specs.Hands.{begins_among}
use Rattle.strand_core.specs.declared.posted.Posted.{Posted}
use Rattle.strand_core.specs.declared.posted.Posted.TheVariants as posted
use Rattle.strand_core.proofs.CallLemmas.{begins-append}

-- a number of a list
abbrev pub Among : ℕ → List ℕ → Type 0
Among n [] = ⊥
Among n (x ∷ xs) = (x ≡ n) ⊎ Among n xs

pub among_at : (xs : List ℕ) (i : ℕ) → i < length xs → Among (get_or xs i 0) xs
among_at [] i less = absurd (omega arith)
among_at (x ∷ xs) zero less = inl refl
among_at (x ∷ xs) (suc i) less = inr (among_at xs i (omega arith))

pub among_taken : (xs : List ℕ) (i a : ℕ) → Among a (take i xs) → Among a xs
among_taken [] zero a among = among
among_taken [] (suc i) a among = among
among_taken (x ∷ xs) zero a among = absurd among
among_taken (x ∷ xs) (suc i) a (inl same) = inl same
among_taken (x ∷ xs) (suc i) a (inr among) = inr (among_taken xs i a among)

-- a number of a place, by its index
record Stands (place : Place) (n : ℕ) (entries : List Entry) (a : ℕ) : Type 0 where
  k : ℕ
  is : a ≡ n + k
  entry : Entry
  at : slice_get entries k ≡ Some entry
  here : same_place place entry.parent ≡ true

later : (place : Place) (n : ℕ) (e : Entry) (entries : List Entry) (a : ℕ) → Stands place (n + 1) entries a →
    Stands place n (e ∷ entries) a
later place n e entries a s = record {
  k = suc s.k;
  is = omega (arith, s.is);
  entry = s.entry;
  at = s.at;
  here = s.here;
}

stands_by : (place : Place) (n : ℕ) (e : Entry) (entries : List Entry) (a : ℕ) (numbers : List ℕ) (here : Bool) →
    same_place place e.parent ≡ here → (Among a numbers → Stands place (n + 1) entries a) →
    Among a (cond here (n ∷ numbers) numbers) → Stands place n (e ∷ entries) a
stands_by place n e entries a numbers true is rest (inl same) = record {
  k = 0;
  is = omega (arith, same);
  entry = e;
  at = refl;
  here = is;
}
stands_by place n e entries a numbers true is rest (inr more) = later place n e entries a (rest more)
stands_by place n e entries a numbers false is rest more = later place n e entries a (rest more)

stands : (place : Place) (n : ℕ) (entries : List Entry) (a : ℕ) → Among a (numbers_in place n entries) →
    Stands place n entries a
stands place n [] a among = absurd among
stands place n (e ∷ entries) a among =
    stands_by place n e entries a (numbers_in place (n + 1) entries) (same_place place e.parent) refl
    (stands place (n + 1) entries a) among

-- an act of a branch has the operation as its parent
pub parent_of-branch : (script : ScriptModel) (op : ℕ) (class : Class) (a : ℕ) → Among a (branch_of script op class) →
    parent_of script a ≡ Some (op, class)
parent_of-branch script op class a among =
    let s = stands (Some (op, class)) 0 script.acts a among in
    let same : a ≡ s.k = omega (arith, s.is) in
    let itself : parent_of script s.k ≡ s.entry.parent = rw s.at refl in
    ap (parent_of script) same ∙ itself ∙ same_place-true (Some (op, class)) s.entry.parent s.here

-- an act of a place is an act
pub among_within : (script : ScriptModel) (place : Place) (a : ℕ) → Among a (numbers_in place 0 script.acts) →
    a < length script.acts
among_within script place a among =
    let s = stands place 0 script.acts a among in
    omega (arith, s.is, slice_get_within script.acts s.k s.entry s.at)

-- numbers of a list that rise
abbrev pub Rise : List ℕ → Type 0
Rise [] = Unit {0}
Rise (x ∷ xs) = ((n : ℕ) → Among n xs → x < n) × Rise xs

rise_by : (n : ℕ) (numbers : List ℕ) (here : Bool) → ((a : ℕ) → Among a numbers → n < a) → Rise numbers →
    Rise (cond here (n ∷ numbers) numbers)
rise_by n numbers true above rest = (above, rest)
rise_by n numbers false above rest = rest

rise_in : (place : Place) (n : ℕ) (entries : List Entry) → Rise (numbers_in place n entries)
rise_in place n [] = tt
rise_in place n (e ∷ entries) =
    rise_by n (numbers_in place (n + 1) entries) (same_place place e.parent)
    (λ a among. let s = stands place (n + 1) entries a among in omega (arith, s.is)) (rise_in place (n + 1) entries)

pub not_before : (xs : List ℕ) (i : ℕ) → Rise xs → i < length xs → Among (get_or xs i 0) (take i xs) → ⊥
not_before [] i rise less among = absurd (omega arith)
not_before (x ∷ xs) zero rise less among = among
not_before (x ∷ xs) (suc i) rise less (inl same) =
    absurd (omega (arith, same, rise.0 (get_or xs i 0) (among_at xs i (omega arith))))
not_before (x ∷ xs) (suc i) rise less (inr among) = not_before xs i rise.1 (omega arith) among

pub rise_branch : (script : ScriptModel) (op : ℕ) (class : Class) → Rise (branch_of script op class)
rise_branch script op class = rise_in (Some (op, class)) 0 script.acts

module _ (script : ScriptModel) (ordered : (n : ℕ) → HasParent script.acts n (parent_of script n)) (P : Call → ℕ → Type 0)
  where
    -- an operation whose parent comes after this one
    abbrev Below : ℕ → ℕ → Type 0
    Below op n = (p : ℕ) × (class : Class) × (parent_of script n ≡ Some (p, class)) × (op < p)

    -- these acts stand under an operation
    abbrev Under : ℕ → List ℕ → Type 0
    Under op acts = (a : ℕ) → Among a acts → (class : Class) × (parent_of script a ≡ Some (op, class))

    later_than : (op a : ℕ) (class : Class) → parent_of script a ≡ Some (op, class) → op < a
    later_than op a class is = (subst (HasParent script.acts a) is (ordered a)).0

    begins_either : (n op : ℕ) (calls : List Posted) (is : Bool) → (op == n) ≡ is →
        cond is true (begins_among n calls) ≡ true → (op ≡ n) ⊎ (begins_among n calls ≡ true)
    begins_either n op calls true is begun = inl (eqb-true op n is)
    begins_either n op calls false is begun = inr begun

    or_either : (a b : Bool) → (a || b) ≡ true → (a ≡ true) ⊎ (b ≡ true)
    or_either true b is = inl refl
    or_either false b is = inr is

    begins_around : (n act begun mark : ℕ) (body calls : List Posted) →
        begins_among n (execution_of act code.Ok 0 begun mark body ++ posted.Back act ∷ calls) ≡ true →
        (act ≡ n) ⊎ ((begins_among n body ≡ true) ⊎ (begins_among n calls ≡ true))
    begins_around n act begun mark body calls is =
        let end : Posted = posted.End act (record { mark = mark; class = class.Ok; begun = begun }) in
        let parts : begins_among n ((body ++ end ∷ []) ++ posted.Back act ∷ calls)
        ≡ ((begins_among n body || false) || begins_among n calls) =
        begins-append n (body ++ end ∷ []) (posted.Back act ∷ calls)
        ∙ ap (λ b. b || begins_among n calls) (begins-append n body (end ∷ [])) in
        elim (begins_either n act ((body ++ end ∷ []) ++ posted.Back act ∷ calls) (act == n) refl is) [
          | inl same ↦ inl same
          | inr more ↦ elim (or_either (begins_among n body || false) (begins_among n calls) (sym parts ∙ more)) [
            | inl first ↦
                elim (or_either (begins_among n body) false first) [
                  | inl body_begins ↦ inr (inl body_begins)
                  | inr none ↦ absurd (cc)
                ]
            | inr second ↦ inr (inr second)
          ]
        ]

    -- what begins in the calls of acts under an operation is one of the acts, or stands under a later operation
    pub begins_in : (op : ℕ) {acts : List ℕ} {calls : List Posted} → AreCalls script P acts calls → Under op acts →
        (n : ℕ) → begins_among n calls ≡ true → Among n acts ⊎ Below op n
    begins_in op no_act under n is = absurd (cc)
    begins_in op (outside {act} {acts} {calls} is_not more) under n is =
        elim (begins_in op more (λ a among. under a (inr among)) n is) [
          | inl among ↦ inl (inr among)
          | inr below ↦ inr below
        ]
    begins_in op (inside {act} {begun} {mark} {acts} {body} {calls} is_in marked inner more) under n is =
        let parent : (class : Class) × (parent_of script act ≡ Some (op, class)) = under act (inl refl) in
        let less : op < act = later_than op act parent.0 parent.1 in
        elim (begins_around n act begun mark body calls is) [
          | inl same ↦ inl (inl same)
          | inr rest ↦ elim rest [
            | inl in_body ↦
                elim (begins_in act inner (λ a among. (class.Ok, parent_of-branch script act class.Ok a among)) n
                in_body) [
                  | inl among ↦ inr (act, class.Ok, parent_of-branch script act class.Ok n among, less)
                  | inr below ↦ inr (below.0, below.1, below.2, omega (arith, below.3, less))
                ]
            | inr after ↦
                elim (begins_in op more (λ a among. under a (inr among)) n after) [
                  | inl among ↦ inl (inr among)
                  | inr below ↦ inr below
                ]
          ]
        ]
