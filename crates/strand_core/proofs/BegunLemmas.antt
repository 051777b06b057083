-- What begins inside an execution stands under its operation, is inline, and begins once.
use Rattle.std.proofs.Common.{◌≡◌, ℕ, ◌<◌, ◌≤◌, Bool, true, List, [], ◌∷◌, ◌++◌, Some, ◌⊎◌, inl, inr, refl, sym, ap, subst, ◌∙◌, arith}
use Rattle.asio_types.specs.declared.code.Class.{Class}
use Rattle.asio_types.specs.declared.code.Class.TheVariants as class
use Rattle.asio_types.specs.declared.code.Code.TheVariants as code
use Rattle.op_handlers.specs.declared.call.Call.{Call}
use Rattle.session_script.specs.Script.{ScriptModel, branch_of, parent_of}
use Rattle.session_script.specs.Lanes.{is_inline}
use Rattle.session_script.specs.WellFormed.{HasParent}
use Rattle.strand_core.specs.Execution.{AreCalls, no_act, outside, inside, execution_of}
use Rattle.strand_core.specs.Hands.{IsInlineOf}
use Rattle.strand_core.specs.Room.{IsOrdered, begun_in}
use Rattle.strand_core.specs.declared.posted.Posted.{Posted}
use Rattle.strand_core.specs.declared.posted.Posted.TheVariants as posted
use Rattle.strand_core.proofs.FitLemmas.{begun_around}
use Rattle.strand_core.proofs.TreeLemmas.{Among, Rise, parent_of-branch, rise_branch}

pub among-append : (n : ℕ) (xs ys : List ℕ) → Among n (xs ++ ys) → Among n xs ⊎ Among n ys
among-append n [] ys among = inr among
among-append n (x ∷ xs) ys (inl same) = inl (inl same)
among-append n (x ∷ xs) ys (inr more) = elim (among-append n xs ys more) [
  | inl first ↦ inl (inr first)
  | inr second ↦ inr second
]

-- no number twice
abbrev pub Once : List ℕ → Type 0
Once [] = Unit {0}
Once (x ∷ xs) = (Among x xs → ⊥) × Once xs

once-append : (xs ys : List ℕ) → Once xs → Once ys → ((n : ℕ) → Among n xs → Among n ys → ⊥) → Once (xs ++ ys)
once-append [] ys first second apart = second
once-append (x ∷ xs) ys first second apart = (
  (λ among. elim (among-append x xs ys among) [
    | inl in_first ↦ first.0 in_first
    | inr in_second ↦ apart x (inl refl) in_second
  ]),
  once-append xs ys first.1 second (λ n among. apart n (inr among)),
)

module _ (script : ScriptModel) (ordered : IsOrdered script) where
  -- an act, or one that stands under it
  pub data IsUnder (a : ℕ) : ℕ → Type 0 where
    itself : {n : ℕ} → n ≡ a → IsUnder a n
    below : {n p : ℕ} {class : Class} → parent_of script n ≡ Some (p, class) → IsUnder a p → IsUnder a n

  pub parent_before : (n p : ℕ) (class : Class) → parent_of script n ≡ Some (p, class) → p < n
  parent_before n p class is = (subst (HasParent script.acts n) is (ordered n)).0

  same_parent : (m n p q : ℕ) (c d : Class) → m ≡ n → parent_of script m ≡ Some (p, c) →
      parent_of script n ≡ Some (q, d) → p ≡ q
  same_parent m n p q c d same one other =
      let both : Some (p, c) ≡ Some (q, d) = sym one ∙ (ap (parent_of script) same ∙ other) in
      let pairs : (p, c) ≡ (q, d) = cc in
      ap (λ (at : ℕ × Class). at.0) pairs

  pub under_later : (a : ℕ) {n : ℕ} → IsUnder a n → a ≤ n
  under_later a (itself same) = omega (arith, same)
  under_later a (below {n} {p} {class} is under) =
      omega (arith, under_later a under, parent_before n p class is)

  under_parent : (a p : ℕ) (c : Class) {n : ℕ} → parent_of script a ≡ Some (p, c) → IsUnder a n → IsUnder p n
  under_parent a p c is (itself same) = below (ap (parent_of script) same ∙ is) (itself refl)
  under_parent a p c is (below at under) = below at (under_parent a p c is under)

  -- a number stands under one act of a place
  one_under : (op a b : ℕ) (c d : Class) {n : ℕ} → parent_of script a ≡ Some (op, c) →
      parent_of script b ≡ Some (op, d) → IsUnder a n → IsUnder b n → a ≡ b
  one_under op a b c d one other (itself same) (itself also) = sym same ∙ also
  one_under op a b c d one other (itself same) (below {n} {p} {class} is under) =
      absurd (omega (
        arith,
        same_parent n a p op class c same is one,
        under_later b under,
        parent_before b op d other,
      ))
  one_under op a b c d one other (below {n} {p} {class} is under) (itself also) =
      absurd (omega (
        arith,
        same_parent n b p op class d also is other,
        under_later a under,
        parent_before a op c one,
      ))
  one_under op a b c d one other (below {n} {p} {class} is under) (below {p = q} {class = class2} at beneath) =
      one_under op a b c d one other under
      (subst (IsUnder b) (sym (same_parent n n p q class class2 refl is at)) beneath)

  module _ (P : Call → ℕ → Type 0) where
    pub record Begun (acts : List ℕ) (n : ℕ) : Type 0 where
      pub act : ℕ
      pub among : Among act acts
      pub under : IsUnder act n
      pub is_inline : is_inline script n ≡ true

    later_begun : (a : ℕ) (acts : List ℕ) (n : ℕ) → Begun acts n → Begun (a ∷ acts) n
    later_begun a acts n b = record { act = b.act; among = inr b.among; under = b.under; is_inline = b.is_inline }

    -- the three ways to begin in the calls of an act that executes inside and of those after it
    begun_either : (n act begun mark : ℕ) (body calls : List Posted) →
        Among n (begun_in (execution_of act code.Ok 0 begun mark body ++ posted.Back act ∷ calls)) →
        (act ≡ n) ⊎ (Among n (begun_in body) ⊎ Among n (begun_in calls))
    begun_either n act begun mark body calls among =
        elim (subst (Among n) (begun_around act begun mark code.Ok 0 body calls) among) [
          | inl same ↦ inl same
          | inr more ↦ inr (among-append n (begun_in body) (begun_in calls) more)
        ]

    pub begun_under : {acts : List ℕ} {calls : List Posted} → AreCalls script P acts calls → (n : ℕ) →
        Among n (begun_in calls) → Begun acts n
    begun_under no_act n among = absurd among
    begun_under (outside {act} {acts} {calls} isnt more) n among = later_begun act acts n (begun_under more n among)
    begun_under (inside {act} {begun} {mark} {acts} {body} {calls} is marked inner more) n among =
        elim (begun_either n act begun mark body calls among) [
          | inl same ↦
              record {
                act = act;
                among = inl refl;
                under = itself (sym same);
                is_inline = ap (is_inline script) (sym same) ∙ is;
              }
          | inr rest ↦ elim rest [
            | inl in_body ↦
                let b : Begun (branch_of script act class.Ok) n = begun_under inner n in_body in
                record {
                  act = act;
                  among = inl refl;
                  under =
                      under_parent b.act act class.Ok (parent_of-branch script act class.Ok b.act b.among) b.under;
                  is_inline = b.is_inline;
                }
            | inr after ↦ later_begun act acts n (begun_under more n after)
          ]
        ]

    -- the acts stand in one place
    abbrev pub InPlace : ℕ → Class → List ℕ → Type 0
    InPlace op class acts = (a : ℕ) → Among a acts → parent_of script a ≡ Some (op, class)

    pub begun_once : (op : ℕ) (of : Class) {acts : List ℕ} {calls : List Posted} → AreCalls script P acts calls →
        InPlace op of acts → Rise acts → Once (begun_in calls)
    begun_once op of no_act place rise = tt
    begun_once op of (outside {act} {acts} {calls} isnt more) place rise =
        begun_once op of more (λ a among. place a (inr among)) rise.1
    begun_once op of (inside {act} {begun} {mark} {acts} {body} {calls} is marked inner more) place rise =
        let own = λ (a : ℕ) (among : Among a (branch_of script act class.Ok)).
        parent_of-branch script act class.Ok a among in
        let first : Once (begun_in body) =
        begun_once act class.Ok inner own (rise_branch script act class.Ok) in
        let second : Once (begun_in calls) = begun_once op of more (λ a among. place a (inr among)) rise.1 in
        subst Once (sym (begun_around act begun mark code.Ok 0 body calls)) (
          (λ among. elim (among-append act (begun_in body) (begun_in calls) among) [
            | inl in_body ↦
                let b : Begun (branch_of script act class.Ok) act = begun_under inner act in_body in
                absurd (omega (
                  arith,
                  under_later b.act b.under,
                  parent_before b.act act class.Ok (own b.act b.among),
                ))
            | inr after ↦ apart_from act (itself refl) (begun_under more act after)
          ]),
          once-append (begun_in body) (begun_in calls) first second (λ n in_body after.
              let b : Begun (branch_of script act class.Ok) n = begun_under inner n in_body in
              apart_from n (under_parent b.act act class.Ok (own b.act b.among) b.under) (begun_under more n after)),
        )
      where
        apart_from : (n : ℕ) → IsUnder act n → Begun acts n → ⊥
        apart_from n under b =
            absurd (omega (
              arith,
              one_under op act b.act of of (place act (inl refl)) (place b.act (inr b.among)) under b.under,
              rise.0 b.act b.among,
            ))

    -- with the caller of each inline operation it is held
    pub begun_held : (held : ℕ → Bool) →
        ((caller n : ℕ) → held caller ≡ true → IsInlineOf script caller n → held n ≡ true) → (op : ℕ) (of : Class)
        {acts : List ℕ} {calls : List Posted} → AreCalls script P acts calls → InPlace op of acts → held op ≡ true →
        (n : ℕ) → Among n (begun_in calls) → held n ≡ true
    begun_held held keeps op of no_act place is_held n among = absurd among
    begun_held held keeps op of (outside isnt more) place is_held n among =
        begun_held held keeps op of more (λ a in_acts. place a (inr in_acts)) is_held n among
    begun_held held keeps op of (inside {act} {begun} {mark} {acts} {body} {calls} is m inner more) place on n among =
        let here : held act ≡ true = keeps op act on (of, place act (inl refl), is) in
        elim (begun_either n act begun mark body calls among) [
          | inl same ↦ ap held (sym same) ∙ here
          | inr rest ↦ elim rest [
            | inl in_body ↦
                begun_held held keeps act class.Ok inner
                (λ a in_acts. parent_of-branch script act class.Ok a in_acts) here n in_body
            | inr after ↦
                begun_held held keeps op of more (λ a in_acts. place a (inr in_acts)) on n after
          ]
        ]
