-- The states of all acts of a session that a number makes, and how they change at one act.
use Rattle.std.proofs.Common.{◌≡◌, ◌≢◌, ℕ, ◌+◌, ◌<◌, inl, inr, zero, suc, Bool, true, false, cond, List, length, get_or, Option, Some, None, refl, ap, sym, ◌∙◌, subst, arith}
use Rattle.std.specs.List.{slice_get, slice_index_or, slice_set}
use Rattle.std.proofs.Math.ListN.{length-set}
use Rattle.std.proofs.lemmas.Bool.{cases_eq, cases_lt}
use Rattle.std.proofs.lemmas.List.{get_or-set_same, get_or-set_other, get_or_past}
use Rattle.std.proofs.lemmas.Option.{slice_get-get_or, slice_get_within}
use Rattle.asio_types.specs.declared.code.Class.{Class}
use Rattle.session_script.specs.declared.act.Act.TheVariants as act
use Rattle.session_script.specs.Script.{Entry, Place, same_place}
use Rattle.history_rules.specs.Calls.{has_ended}
use Rattle.history_rules.specs.Order.{called_at, is_back_before}
use Rattle.history_rules.specs.State.{fresh}
use Rattle.history_rules.specs.declared.phase.ActState.{ActState}
use Rattle.generated_session.specs.Generator.{opened}
use Rattle.generated_session.proofs.FitLemmas.{fits, has_made, is_back, is_born, is_called}
use Rattle.generated_session.proofs.GatherLemmas.{total, total-changed}
use Rattle.generated_session.proofs.ItemsLemmas.{act_in, act_of-in, AreItems, asks_in, dispatch, nested, nothing, nth_act, nth_place, parent_of-in, post, posting, under, waiting}
use Rattle.generated_session.proofs.ListedLemmas.{opens, passes}

abbrev pub at : List ActState → ℕ → ActState
at states n = slice_index_or states n fresh

-- one act comes to this
pub record Changes (old new : List ActState) (o : ℕ) (to : ActState) : Type 0 where
  pub here : at new o ≡ to
  pub others : (n : ℕ) → n ≢ o → at new n ≡ at old n
  pub size : length new ≡ length old

pub changed : (states : List ActState) (o : ℕ) (to : ActState) → o < length states →
    Changes states (slice_set states o to) o to
changed states o to below = record {
  here = get_or-set_same states o to fresh below;
  others = λ n differ. get_or-set_other states o n to fresh differ;
  size = length-set states o to;
}

-- an act to which something has happened is there
pub is_there : (states : List ActState) (o : ℕ) → is_born (at states o).phase ≡ true → o < length states
is_there states o born = elim (cases_lt o (length states)) [
  | inl below ↦ below
  | inr past ↦
      absurd (let wrong : false ≡ true =
      sym (ap (λ (act : ActState). is_born act.phase) (get_or_past states o fresh past)) ∙ born in
      cc)
]

abbrev pub is_opened : List Entry → ℕ → Bool
is_opened acts n = passes opens (slice_get acts n)

no_place : (place : Place) → same_place None place ≡ true → place ≡ None
no_place None is = refl
no_place (Some p) is = absurd (cc)

opened_by : (acts : List Entry) (n : ℕ) (e : Option Entry) → slice_get acts n ≡ e → passes opens e ≡ true →
    nth_place acts n ≡ None
opened_by acts n None there is = absurd (cc)
opened_by acts n (Some e) there is = parent_of-in acts n (Some e) there ∙ no_place e.parent is

pub opened_place : (acts : List Entry) (n : ℕ) → is_opened acts n ≡ true → nth_place acts n ≡ None
opened_place acts n is = opened_by acts n (slice_get acts n) refl is

-- what holds of all acts between two events, once all calls of `open` are back
pub record ActsFit (acts : List Entry) (states : List ActState) : Type 0 where
  pub size : length states ≡ length acts
  pub fit : (n : ℕ) → fits (nth_act acts n) (is_called (at states n).call) (at states n).phase ≡ true
  pub opened : (n : ℕ) → is_opened acts n ≡ true → is_back (at states n).call ≡ true
  pub order : (i j : ℕ) → is_opened acts i ≡ true → is_opened acts j ≡ true → i < j →
      is_back_before (called_at (at states j).call) (at states i).call ≡ true
  pub nested : (n p : ℕ) (c : Class) → nth_place acts n ≡ Some (p, c) →
      is_called (at states n).call ≡ has_made (at states p).phase

-- what a change at one act may be
pub record MayChange (acts : List Entry) (old : List ActState) (o : ℕ) (to : ActState) : Type 0 where
  pub fit : fits (nth_act acts o) (is_called to.call) to.phase ≡ true
  pub opened : is_opened acts o ≡ true → to.call ≡ (at old o).call
  pub makes : (n : ℕ) (c : Class) → nth_place acts n ≡ Some (o, c) → has_made to.phase ≡ has_made (at old o).phase
  pub called : (p : ℕ) (c : Class) → nth_place acts o ≡ Some (p, c) → is_called to.call ≡ is_called (at old o).call

module _ (acts : List Entry) (old new : List ActState) (o : ℕ) (to : ActState) (was : ActsFit acts old)
    (changes : Changes old new o to) (may : MayChange acts old o to) where
  fit_at : (n : ℕ) → fits (nth_act acts n) (is_called (at new n).call) (at new n).phase ≡ true
  fit_at n = elim (cases_eq n o) [
    | inl same ↦ subst (λ m. fits (nth_act acts m) (is_called (at new m).call) (at new m).phase ≡ true) (sym same)
        (rw changes.here may.fit)
    | inr differ ↦ rw (changes.others n differ) (was.fit n)
  ]

  call_same : (n : ℕ) → is_opened acts n ≡ true → (at new n).call ≡ (at old n).call
  call_same n is = elim (cases_eq n o) [
    | inl same ↦ subst (λ m. is_opened acts m ≡ true → (at new m).call ≡ (at old m).call) (sym same)
        (λ (one : is_opened acts o ≡ true). ap (λ (act : ActState). act.call) changes.here ∙ may.opened one) is
    | inr differ ↦ ap (λ (act : ActState). act.call) (changes.others n differ)
  ]

  called_same : (n p : ℕ) (c : Class) → nth_place acts n ≡ Some (p, c) →
      is_called (at new n).call ≡ is_called (at old n).call
  called_same n p c parent = elim (cases_eq n o) [
    | inl same ↦
        subst (λ m. nth_place acts m ≡ Some (p, c) → is_called (at new m).call ≡ is_called (at old m).call) (sym same)
        (λ place. ap (λ (act : ActState). is_called act.call) changes.here ∙ may.called p c place) parent
    | inr differ ↦ ap (λ (act : ActState). is_called act.call) (changes.others n differ)
  ]

  made_same : (n p : ℕ) (c : Class) → nth_place acts n ≡ Some (p, c) →
      has_made (at new p).phase ≡ has_made (at old p).phase
  made_same n p c parent = elim (cases_eq p o) [
    | inl same ↦
        subst (λ q. nth_place acts n ≡ Some (q, c) → has_made (at new q).phase ≡ has_made (at old q).phase) (sym same)
        (λ place. ap (λ (act : ActState). has_made act.phase) changes.here ∙ may.makes n c place) parent
    | inr differ ↦ ap (λ (act : ActState). has_made act.phase) (changes.others p differ)
  ]

  pub acts_fit-changed : ActsFit acts new
  acts_fit-changed = record {
    size = changes.size ∙ was.size;
    fit = fit_at;
    opened = λ n is. ap is_back (call_same n is) ∙ was.opened n is;
    order = λ i j one two less.
        ap (λ c. is_back_before (called_at (at new j).call) c) (call_same i one)
        ∙ ap (λ c. is_back_before (called_at c) (at old i).call) (call_same j two) ∙ was.order i j one two less;
    nested = λ n p c parent. called_same n p c parent ∙ was.nested n p c parent ∙ sym (made_same n p c parent);
  }

-- a handler of a posting has made its call
pub record CallsNested (acts : List Entry) (old new : List ActState) (n p : ℕ) (called caller : ActState) : Type 0 where
  pub there : at new n ≡ called
  pub above : at new p ≡ caller
  pub others : (m : ℕ) → m ≢ n → m ≢ p → at new m ≡ at old m
  pub size : length new ≡ length old
  pub fit : fits (nth_act acts n) (is_called called.call) called.phase ≡ true
  pub fit_above : fits (nth_act acts p) (is_called caller.call) caller.phase ≡ true
  pub back : caller.call ≡ (at old p).call
  pub counts : is_called called.call ≡ true
  pub made : has_made caller.phase ≡ true

module _ (acts : List Entry) (items : AreItems 0 acts) (old new : List ActState) (n p : ℕ) (c : Class)
    (parent : nth_place acts n ≡ Some (p, c)) (called caller : ActState) (was : ActsFit acts old)
    (calls : CallsNested acts old new n p called caller) where
  apart : (m q : ℕ) (d : Class) → nth_place acts m ≡ Some (q, d) → m ≢ p
  apart m q d place same =
      let outer : nth_place acts p ≡ None = (under acts items n p c parent).outermost in
      let wrong : None ≡ Some (q, d) = sym outer ∙ (ap (nth_place acts) (sym same) ∙ place) in
      absurd (cc wrong)

  -- nothing stands under what stands under a posting
  leaf : (m q : ℕ) (d : Class) → nth_place acts m ≡ Some (q, d) → q ≢ n
  leaf m q d place same =
      let outer : nth_place acts q ≡ None = (under acts items m q d place).outermost in
      let wrong : None ≡ Some (p, c) = sym outer ∙ (ap (nth_place acts) same ∙ parent) in
      absurd (cc wrong)

  fit_called : (m : ℕ) → fits (nth_act acts m) (is_called (at new m).call) (at new m).phase ≡ true
  fit_called m = elim (cases_eq m n) [
    | inl same ↦ subst (λ k. fits (nth_act acts k) (is_called (at new k).call) (at new k).phase ≡ true) (sym same)
        (rw calls.there calls.fit)
    | inr differ ↦ elim (cases_eq m p) [
      | inl same ↦ subst (λ k. fits (nth_act acts k) (is_called (at new k).call) (at new k).phase ≡ true) (sym same)
          (rw calls.above calls.fit_above)
      | inr other ↦ rw (calls.others m differ other) (was.fit m)
    ]
  ]

  opened_same : (m : ℕ) → is_opened acts m ≡ true → (at new m).call ≡ (at old m).call
  opened_same m is = elim (cases_eq m n) [
    | inl same ↦
        let outer : nth_place acts m ≡ None = opened_place acts m is in
        let wrong : None ≡ Some (p, c) = sym outer ∙ (ap (nth_place acts) same ∙ parent) in
        absurd (cc wrong)
    | inr differ ↦ elim (cases_eq m p) [
      | inl same ↦
          subst (λ k. (at new k).call ≡ (at old k).call) (sym same) (ap (λ (act : ActState). act.call) calls.above ∙ calls.back)
      | inr other ↦ ap (λ (act : ActState). act.call) (calls.others m differ other)
    ]
  ]

  nested_called : (m q : ℕ) (d : Class) → nth_place acts m ≡ Some (q, d) →
      is_called (at new m).call ≡ has_made (at new q).phase
  nested_called m q d place = elim (cases_eq q p) [
    | inl same ↦
        let one : m ≡ suc q = (under acts items m q d place).next in
        let two : n ≡ suc p = (under acts items n p c parent).next in
        let here : m ≡ n = one ∙ (ap suc same ∙ sym two) in
        ap (λ k. is_called (at new k).call) here ∙ ap (λ (act : ActState). is_called act.call) calls.there
        ∙ calls.counts
        ∙ sym (ap (λ k. has_made (at new k).phase) same ∙ ap (λ (act : ActState). has_made act.phase) calls.above ∙ calls.made)
    | inr differ ↦
        let one : m ≡ suc q = (under acts items m q d place).next in
        let two : n ≡ suc p = (under acts items n p c parent).next in
        let first : m ≢ n = λ here. absurd (omega (arith, one, two, here, differ)) in
        ap (λ (act : ActState). is_called act.call) (calls.others m first (apart m q d place)) ∙ was.nested m q d place
        ∙ ap (λ (act : ActState). has_made act.phase) (sym (calls.others q (leaf m q d place) differ))
  ]

  pub acts_fit-called : ActsFit acts new
  acts_fit-called = record {
    size = calls.size ∙ was.size;
    fit = fit_called;
    opened = λ m is. ap is_back (opened_same m is) ∙ was.opened m is;
    order = λ i j one two less.
        ap (λ k. is_back_before (called_at (at new j).call) k) (opened_same i one)
        ∙ ap (λ k. is_back_before (called_at k) (at old i).call) (opened_same j two) ∙ was.order i j one two less;
    nested = nested_called;
  }

-- how many acts were called
abbrev pub called_count : List ActState → ℕ → ℕ
called_count states size = total (λ n. cond (is_called (at states n).call) 1 0) size

-- a number for each operation that has ended
abbrev pub ended_sum : (ℕ → ℕ) → List ActState → ℕ → ℕ
ended_sum weight states size = total (λ n. cond (has_ended (at states n).phase) (weight n) 0) size

pub called-changed : (old new : List ActState) (o : ℕ) (to : ActState) (size : ℕ) → Changes old new o to → o < size →
    called_count new size + cond (is_called (at old o).call) 1 0 ≡ called_count old size + cond (is_called to.call) 1 0
called-changed old new o to size changes below =
    total-changed (λ n. cond (is_called (at old n).call) 1 0) (λ n. cond (is_called (at new n).call) 1 0) o size below
    (λ m differ. ap (λ (act : ActState). cond (is_called act.call) 1 0) (sym (changes.others m differ)))
    ∙ ap (λ (act : ActState). called_count old size + cond (is_called act.call) 1 0) changes.here

pub ended-changed : (weight : ℕ → ℕ) (old new : List ActState) (o : ℕ) (to : ActState) (size : ℕ) →
    Changes old new o to → o < size →
    ended_sum weight new size + cond (has_ended (at old o).phase) (weight o) 0
    ≡ ended_sum weight old size + cond (has_ended to.phase) (weight o) 0
ended-changed weight old new o to size changes below =
    total-changed (λ n. cond (has_ended (at old n).phase) (weight n) 0)
    (λ n. cond (has_ended (at new n).phase) (weight n) 0) o size below
    (λ m differ. ap (λ (act : ActState). cond (has_ended act.phase) (weight m) 0) (sym (changes.others m differ)))
    ∙ ap (λ (act : ActState). ended_sum weight old size + cond (has_ended act.phase) (weight o) 0) changes.here

asks_opened_in : {n : ℕ} {acts : List Entry} → AreItems n acts → (i : ℕ) → asks_in (act_in (slice_get acts i)) ≡ true →
    passes opens (slice_get acts i) ≡ true
asks_opened_in nothing i asks = absurd (cc asks)
asks_opened_in (posting a rest is items) zero asks = refl
asks_opened_in (posting a rest is items) (suc i) asks = asks_opened_in items i asks
asks_opened_in (nested a b rest is also items) zero asks = refl
asks_opened_in (nested a b rest is (post strand small) items) (suc zero) asks = absurd (cc asks)
asks_opened_in (nested a b rest is (dispatch strand small) items) (suc zero) asks = absurd (cc asks)
asks_opened_in (nested a b rest is also items) (suc (suc i)) asks = asks_opened_in items i asks
asks_opened_in (waiting timer after rest small short items) zero asks = refl
asks_opened_in (waiting timer after rest small short items) (suc zero) asks = refl
asks_opened_in (waiting timer after rest small short items) (suc (suc i)) asks = asks_opened_in items i asks

-- `open` makes all requests
pub asks_opened : (acts : List Entry) → AreItems 0 acts → (n : ℕ) → asks_in (nth_act acts n) ≡ true →
    is_opened acts n ≡ true
asks_opened acts items n asks =
    asks_opened_in items n (ap asks_in (sym (act_of-in acts n (slice_get acts n) refl)) ∙ asks)

pub asks_within : (acts : List Entry) (n : ℕ) → asks_in (nth_act acts n) ≡ true → n < length acts
asks_within acts n asks = by_entry (slice_get acts n) refl
  where
    by_entry : (e : Option Entry) → slice_get acts n ≡ e → n < length acts
    by_entry None there =
        absurd (let wrong : false ≡ true = ap asks_in (sym (act_of-in acts n None there)) ∙ asks in cc)
    by_entry (Some e) there = slice_get_within acts n e there

-- an act that stands in no handler is one of `open`
pub outermost_opened : (acts : List Entry) (n : ℕ) → n < length acts → nth_place acts n ≡ None → is_opened acts n ≡ true
outermost_opened acts n less parent = by_entry (slice_get acts n) refl
  where
    by_entry : (e : Option Entry) → slice_get acts n ≡ e → passes opens e ≡ true
    by_entry None there =
        absurd (let wrong : Some (get_or acts n (opened (act.Post None))) ≡ None = sym
        (slice_get-get_or acts n (opened (act.Post None)) less) ∙ there in cc)
    by_entry (Some e) there = ap (λ (p : Place). same_place None p) (sym (parent_of-in acts n (Some e) there) ∙ parent)
