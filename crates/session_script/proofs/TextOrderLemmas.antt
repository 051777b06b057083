-- What is spelled is in text order.
use Rattle.std.proofs.Common.{◌≡◌, ℕ, suc, ◌<◌, ◌≤◌, ◌⊎◌, inl, inr, Bool, true, false, List, [], ◌∷◌, ◌++◌, length, Option, Some, None, refl, sym, ap, subst, ◌∙◌, arith, append_assoc, append-nil, length-append}
use Rattle.std.specs.Prelude.{nat_lt, slice_get}
use Rattle.std.proofs.lemmas.Bool.Decides.{nat_tests}
use Rattle.std.proofs.lemmas.Option.{slice_get_cases}
use Rattle.asio_types.specs.declared.code.Class.{Class}
use Rattle.session_script.specs.declared.act.Bodies.{Bodies}
use Rattle.session_script.specs.Groups.{class_number}
use Rattle.session_script.specs.Script.{Entry, Place, ScriptModel, parent_of}
use Rattle.session_script.specs.Text.{Words, IsBodyText, in_braces, IsActsText, no_act, an_act, IsBodiesText, no_body, one_body, all_bodies, IsBranchText, left_out, spelled_out}
use Rattle.session_script.specs.WellFormed.{HasParent, IsWellFormed}
use Rattle.session_script.specs.Writable.{StandsUnder, IsInTextOrder}
use Rattle.session_script.proofs.AppendingLemmas.{Continues, continues_both, continues_longer, acts_append, bodies_append, body_appends, branch_appends}
use Rattle.session_script.proofs.GatheringLemmas.{IsEarlier, below_later}
use Rattle.session_script.proofs.CanonicalBodiesLemmas.{entry_at}
use Rattle.session_script.proofs.PlacingLemmas.{has_parent}
use Rattle.session_script.proofs.OrderLemmas.{same_or_above}

pub below_or_from : (n mid : ℕ) → (n < mid) ⊎ (mid ≤ n)
below_or_from n mid = by_test (nat_lt n mid) refl
  where
    by_test : (less : Bool) → nat_lt n mid ≡ less → (n < mid) ⊎ (mid ≤ n)
    by_test true test = inl (grind (arith, nat_tests))
    by_test false test = inr (grind (arith, nat_tests))

-- the operation of a place, and the number of its class
abbrev base_of : Place → Option ℕ
base_of None = None
base_of (Some at) = Some at.0

abbrev rank_of : Place → ℕ
rank_of None = 0
rank_of (Some at) = class_number at.1

number_in : Option ℕ → ℕ
number_in None = 0
number_in (Some n) = n

abbrev IsBefore : ℕ → Option ℕ → Type 0
IsBefore n None = Unit {0}
IsBefore n (Some op) = op < n

earlier_base : (n : ℕ) (place : Place) → IsEarlier n place → IsBefore n (base_of place)
earlier_base n None earlier = tt
earlier_base n (Some at) earlier = earlier

-- in `open`, or in a branch of this operation from one class to another
abbrev StandsIn : Option ℕ → ℕ → ℕ → Place → Type 0
StandsIn None first last place = place ≡ None
StandsIn (Some op) first last place =
    (branch : Class) × (place ≡ Some (op, branch)) × (first ≤ class_number branch) × (class_number branch ≤ last)

stands_itself : (place : Place) → StandsIn (base_of place) (rank_of place) (rank_of place) place
stands_itself None = refl
stands_itself (Some at) = (at.1, refl, omega arith, omega arith)

wider_in : (base : Option ℕ) (first last first' last' : ℕ) (place : Place) → first' ≤ first → last ≤ last' →
    StandsIn base first last place → StandsIn base first' last' place
wider_in None first last first' last' place down up in' = in'
wider_in (Some op) first last first' last' place down up in' =
    (in'.0, in'.1, omega (arith, in'.2), omega (arith, in'.3))

under_less : (low high : ℕ) (place : Place) → low ≤ high → StandsUnder high place → StandsUnder low place
under_less low high None le under = under
under_less low high (Some at) le under = omega arith

stands_under : (op first last : ℕ) (place : Place) → StandsIn (Some op) first last place → StandsUnder op place
stands_under op first last place in' = subst (StandsUnder op) (sym in'.1) (omega arith)

above_op : (low op : ℕ) (branch : Class) (place : Place) → place ≡ Some (op, branch) → StandsUnder low place → low ≤ op
above_op low op branch place is under = subst (StandsUnder low) is under

record IsOf (base : Option ℕ) (first last op : ℕ) (branch : Class) : Type 0 where
  same : base ≡ Some op
  least : first ≤ class_number branch
  most : class_number branch ≤ last

stands_of : (base : Option ℕ) (first last op : ℕ) (branch : Class) (place : Place) → StandsIn base first last place →
    place ≡ Some (op, branch) → IsOf base first last op branch
stands_of None first last op branch place in' is = absurd (cc (in', is))
stands_of (Some other) first last op branch place in' is =
    let e : Some (other, in'.0) ≡ Some (op, branch) = sym in'.1 ∙ is in
    record {
      same = ap base_of e;
      least = omega (arith, in'.2, ap rank_of e);
      most = omega (arith, in'.3, ap rank_of e);
    }

module _ (script : ScriptModel) (well : IsWellFormed script) where
  parent_less : (n op : ℕ) (branch : Class) → parent_of script n ≡ Some (op, branch) → op < n
  parent_less n op branch is =
      let has : HasParent script.acts n (Some (op, branch)) =
      subst (HasParent script.acts n) is (has_parent script n well) in
      has.0

  -- acts in order, which stand in these places or under one another
  record Ordered (base : Option ℕ) (first last low high : ℕ) : Type 0 where
    fills : (n : ℕ) → low ≤ n → n < high →
        StandsIn base first last (parent_of script n) ⊎ StandsUnder low (parent_of script n)
    under : (op n m : ℕ) (branch : Class) → low ≤ n → op < n → n < m → m < high →
        parent_of script m ≡ Some (op, branch) → StandsUnder op (parent_of script n)
    branches : (op n m : ℕ) (one other : Class) → low ≤ n → n < m → m < high → parent_of script n ≡ Some (op, one) →
        parent_of script m ≡ Some (op, other) → class_number one ≤ class_number other

  ordered_none : (base : Option ℕ) (first last low : ℕ) → Ordered base first last low low
  ordered_none base first last low = record {
    fills = λ n le lt. absurd (omega arith);
    under = λ op n m branch le lt lt' lt'' is. absurd (omega arith);
    branches = λ op n m one other le lt lt' is is'. absurd (omega arith);
  }

  ordered_wider : (base : Option ℕ) (first last first' last' low high : ℕ) → first' ≤ first → last ≤ last' →
      Ordered base first last low high → Ordered base first' last' low high
  ordered_wider base first last first' last' low high down up all = record {
    fills = λ n le lt.
        elim (all.fills n le lt) [
          | inl in' ↦ inl (wider_in base first last first' last' (parent_of script n) down up in')
          | inr under ↦ inr under
        ];
    under = all.under;
    branches = all.branches;
  }

  module _ (base : Option ℕ) (first last first' last' low mid high : ℕ) (up : low ≤ mid) (before : IsBefore low base)
      (down : first ≤ first') (between : last ≤ first') (over : last ≤ last') (one : Ordered base first last low mid)
      (two : Ordered base first' last' mid high) where
    all_fills : (n : ℕ) → low ≤ n → n < high →
        StandsIn base first last' (parent_of script n) ⊎ StandsUnder low (parent_of script n)
    all_fills n le lt = elim (below_or_from n mid) [
      | inl less ↦
          elim (one.fills n le less) [
            | inl in' ↦ inl (wider_in base first last first last' (parent_of script n) (omega arith) over in')
            | inr under ↦ inr under
          ]
      | inr more ↦
          elim (two.fills n more lt) [
            | inl in' ↦ inl (wider_in base first' last' first last' (parent_of script n) down (omega arith) in')
            | inr under ↦ inr (under_less low mid (parent_of script n) up under)
          ]
    ]

    all_under : (op n m : ℕ) (branch : Class) → low ≤ n → op < n → n < m → m < high →
        parent_of script m ≡ Some (op, branch) → StandsUnder op (parent_of script n)
    all_under op n m branch le lt lt' lt'' is = elim (below_or_from m mid) [
      | inl less ↦ one.under op n m branch le lt lt' less is
      | inr more ↦ elim (two.fills m more lt'') [
        | inl in' ↦ in_base (stands_of base first' last' op branch (parent_of script m) in' is)
        | inr under ↦
            two.under op n m branch (omega (arith, above_op mid op branch (parent_of script m) is under)) lt lt' lt'' is
      ]
    ]
      where
        in_base : IsOf base first' last' op branch → StandsUnder op (parent_of script n)
        in_base of =
            let less : op < low = subst (IsBefore low) of.same before in
            elim (all_fills n le (omega arith)) [
              | inl in' ↦
                  let here : StandsIn (Some op) first last' (parent_of script n) =
                  subst (λ b. StandsIn b first last' (parent_of script n)) of.same in' in
                  stands_under op first last' (parent_of script n) here
              | inr under ↦ under_less op low (parent_of script n) (omega arith) under
            ]

    all_branches : (op n m : ℕ) (a b : Class) → low ≤ n → n < m → m < high → parent_of script n ≡ Some (op, a) →
        parent_of script m ≡ Some (op, b) → class_number a ≤ class_number b
    all_branches op n m a b le lt lt' is is' = elim (below_or_from m mid) [
      | inl less ↦ one.branches op n m a b le lt less is is'
      | inr more ↦ elim (below_or_from n mid) [
        | inr later ↦ two.branches op n m a b later lt lt' is is'
        | inl less ↦ elim (two.fills m more lt') [
          | inl in' ↦ in_base less (stands_of base first' last' op b (parent_of script m) in' is')
          | inr under ↦ absurd (omega (arith, above_op mid op b (parent_of script m) is' under, parent_less n op a is))
        ]
      ]
    ]
      where
        in_base : n < mid → IsOf base first' last' op b → class_number a ≤ class_number b
        in_base less of =
            let early : op < low = subst (IsBefore low) of.same before in
            elim (one.fills n le less) [
              | inl in' ↦
                  let here = stands_of base first last op a (parent_of script n) in' is in
                  omega (arith, here.most, of.least)
              | inr under ↦ absurd (omega (arith, above_op low op a (parent_of script n) is under))
            ]

    ordered_both : Ordered base first last' low high
    ordered_both = record { fills = all_fills; under = all_under; branches = all_branches }

  -- an act and those under it
  module _ (i high : ℕ) (place : Place) (here : parent_of script i ≡ place) (inner : Ordered (Some i) 0 2 (suc i) high)
    where
      beyond : (m op : ℕ) (branch : Class) → suc i ≤ m → m < high → parent_of script m ≡ Some (op, branch) → op < i → ⊥
      beyond m op branch le lt is less = elim (inner.fills m le lt) [
        | inl in' ↦ let of = stands_of (Some i) 0 2 op branch (parent_of script m) in' is in same_op of.same
        | inr under ↦ absurd (omega (arith, above_op (suc i) op branch (parent_of script m) is under))
      ]
        where
          same_op : Some i ≡ Some op → ⊥
          same_op e = let same : i ≡ op = cc e in omega arith

      ordered_act : Ordered (base_of place) (rank_of place) (rank_of place) i high
      ordered_act = record {
        fills = λ n le lt. elim (same_or_above i n le) [
          | inl same ↦
              inl (subst (StandsIn (base_of place) (rank_of place) (rank_of place))
              (sym (ap (parent_of script) same ∙ here)) (stands_itself place))
          | inr above ↦
              elim (inner.fills n above lt) [
                | inl in' ↦ inr (stands_under i 0 2 (parent_of script n) in')
                | inr under ↦ inr (under_less i (suc i) (parent_of script n) (omega arith) under)
              ]
        ];
        under = λ op n m branch le lt lt' lt'' is. elim (same_or_above i n le) [
          | inl same ↦ absurd (beyond m op branch (omega arith) lt'' is (omega arith))
          | inr above ↦ inner.under op n m branch above lt lt' lt'' is
        ];
        branches = λ op n m one other le lt lt' is is'. elim (same_or_above i n le) [
          | inl same ↦ absurd (beyond m op other (omega arith) lt' is' (omega (arith, parent_less n op one is)))
          | inr above ↦ inner.branches op n m one other above lt lt' is is'
        ];
      }

  pub entry_there : (before : List Entry) (e : Entry) → Continues (before ++ e ∷ []) script.acts →
      slice_get script.acts (length before) ≡ Some e
  entry_there before e more =
      ap (λ acts. slice_get acts (length before)) (more.is ∙ append_assoc before (e ∷ []) more.new)
      ∙ entry_at before e more.new

  pub parent_there : (before : List Entry) (e : Entry) → Continues (before ++ e ∷ []) script.acts →
      parent_of script (length before) ≡ e.parent
  parent_there before e more = rw (entry_there before e more) refl

  pub one_longer : (before : List Entry) (e : Entry) → length (before ++ e ∷ []) ≡ suc (length before)
  one_longer before e = omega (arith, length-append before (e ∷ []))

  mutual
    body_ordered : {version levels : ℕ} {place : Place} {before after : List Entry} {ws rest : Words} →
        IsBodyText version levels place before after ws rest → IsEarlier (length before) place →
        Continues after script.acts →
        Ordered (base_of place) (rank_of place) (rank_of place) (length before) (length after)
    body_ordered (in_braces a b opens acts closes) earlier more = acts_ordered acts earlier more

    acts_ordered : {version levels : ℕ} {place : Place} {before after : List Entry} {ws rest : Words} →
        IsActsText version levels place before after ws rest → IsEarlier (length before) place →
        Continues after script.acts →
        Ordered (base_of place) (rank_of place) (rank_of place) (length before) (length after)
    acts_ordered {place = place} (no_act {acts = acts}) earlier more =
        ordered_none (base_of place) (rank_of place) (rank_of place) (length acts)
    acts_ordered {place = place} {before = before} {after = after} (an_act made mid a b act bodies acts) earlier more =
        let e : Entry = record { act = made; parent = place } in
        let rank = rank_of place in
        let inner = bodies_append bodies in
        let to_mid : Continues mid script.acts = continues_both (acts_append acts).continues more in
        let longer : length before ≤ length mid =
        omega (arith, continues_longer inner.continues, one_longer before e) in
        let own : Ordered (Some (length before)) 0 2 (suc (length before)) (length mid) =
        subst (λ (low : ℕ). Ordered (Some (length before)) 0 2 low (length mid)) (one_longer before e)
        (bodies_ordered bodies (omega (arith, one_longer before e)) to_mid) in
        ordered_both (base_of place) rank rank rank rank (length before) (length mid) (length after) longer
        (earlier_base (length before) place earlier) (omega arith) (omega arith) (omega arith)
        (ordered_act (length before) (length mid) place (parent_there before e (continues_both inner.continues to_mid)) own)
        (acts_ordered acts (below_later (length before) (length mid) place longer earlier) more)

    bodies_ordered : {version levels : ℕ} {which : Bodies} {op : ℕ} {before after : List Entry} {ws rest : Words} →
        IsBodiesText version levels which op before after ws rest → op < length before → Continues after script.acts →
        Ordered (Some op) 0 2 (length before) (length after)
    bodies_ordered {op = op} (no_body {acts = acts}) lt more = ordered_none (Some op) 0 2 (length acts)
    bodies_ordered {op = op} {before = before} {after = after} (one_body body) lt more =
        ordered_wider (Some op) 0 0 0 2 (length before) (length after) (omega arith) (omega arith) (body_ordered body lt more)
    bodies_ordered {op = op} {before = before} {after = after} (all_bodies after_ok after_abort a b body abort other) lt more =
        let to_abort : Continues after_abort script.acts = continues_both (branch_appends other).continues more in
        let to_ok : Continues after_ok script.acts = continues_both (branch_appends abort).continues to_abort in
        let first_longer : length before ≤ length after_ok = continues_longer (body_appends body).continues in
        let second_longer : length after_ok ≤ length after_abort = continues_longer (branch_appends abort).continues in
        ordered_both (Some op) 0 0 1 2 (length before) (length after_ok) (length after) first_longer lt (omega arith)
        (omega arith) (omega arith)
        (body_ordered body lt to_ok)
        (ordered_both (Some op) 1 1 2 2 (length after_ok) (length after_abort) (length after) second_longer
        (omega arith) (omega arith) (omega arith) (omega arith) (branch_ordered abort (omega arith) to_abort)
        (branch_ordered other (omega arith) more))

    branch_ordered : {version levels : ℕ} {text : List ℕ} {place : Place} {before after : List Entry}
        {ws rest : Words} → IsBranchText version levels text place before after ws rest →
        IsEarlier (length before) place → Continues after script.acts →
        Ordered (base_of place) (rank_of place) (rank_of place) (length before) (length after)
    branch_ordered {place = place} (left_out {acts = acts}) earlier more =
        ordered_none (base_of place) (rank_of place) (rank_of place) (length acts)
    branch_ordered (spelled_out a word body) earlier more = body_ordered body earlier more

  in_range : (n op : ℕ) (branch : Class) → parent_of script n ≡ Some (op, branch) → n < length script.acts
  in_range n op branch is = elim (slice_get_cases script.acts n).1 [
    | inl found ↦ found.1
    | inr past ↦ let none : parent_of script n ≡ None = rw past.1 refl in absurd (cc (none, is))
  ]

  pub spelled_in_order : {version levels : ℕ} {ws rest : Words} →
      IsBodyText version levels None [] script.acts ws rest → IsInTextOrder script
  spelled_in_order body =
      let all = body_ordered body tt (record { new = []; is = sym (append-nil script.acts) }) in
      record {
        under = λ op n m branch lt lt' is. all.under op n m branch (omega arith) lt lt' (in_range m op branch is) is;
        branches = λ op n m first second lt is is'.
            all.branches op n m first second (omega arith) lt (in_range m op second is') is is';
      }
