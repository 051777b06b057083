-- The handlers of some operations, moved from one list into another and back.
use borrow.Author.Count.{below_more}
use Rattle.std.proofs.Common.{◌≡◌, ◌≢◌, ℕ, zero, suc, ◌+◌, ◌<◌, ◌≤◌, List, [], ◌∷◌, Bool, true, false, inl, inr, Option, Some, None, IsSome, length, replicate, refl, sym, ap, subst, ◌∙◌, arith}
use Rattle.std.specs.Prelude.{slice_get, slice_set}
use Rattle.std.specs.Option.{option_flatten}
use Rattle.std.proofs.lemmas.Bool.{cases_lt}
use Rattle.std.proofs.lemmas.List.{length-replicate, length-set}
use Rattle.std.proofs.lemmas.Option.{slice_get_within}
use Rattle.session_script.specs.Script.{ScriptModel, parent_of}
use Rattle.session_script.specs.WellFormed.{HasParent}
use Rattle.strand_core.specs.Hands.{CallerIsGone, Held, IsInlineOf, KeepsInline, in_list, left_at, or_other, taken_at}
use Rattle.strand_core.proofs.HandLemmas.{free_at, taken_other, taken_same}

get-set_same : {X : Type 0} (xs : List X) (n : ℕ) (x : X) → n < length xs → slice_get (slice_set xs n x) n ≡ Some x
get-set_same [] n x less = absurd (omega arith)
get-set_same (y ∷ xs) zero x less = refl
get-set_same (y ∷ xs) (suc n) x less = get-set_same xs n x (omega arith)

get-set_other : {X : Type 0} (xs : List X) (n k : ℕ) (x : X) → n ≢ k → slice_get (slice_set xs n x) k ≡ slice_get xs k
get-set_other [] n k x differ = refl
get-set_other (y ∷ xs) zero zero x differ = absurd (differ refl)
get-set_other (y ∷ xs) zero (suc k) x differ = refl
get-set_other (y ∷ xs) (suc n) zero x differ = refl
get-set_other (y ∷ xs) (suc n) (suc k) x differ = get-set_other xs n k x (λ same. differ (ap suc same))

pub none_in : {H : Type 0} (size n : ℕ) → in_list (replicate {A = Option H} size None) n ≡ None
none_in zero n = refl
none_in (suc size) zero = refl
none_in (suc size) (suc n) = none_in size n

-- the handlers below number a that pass a test came out of all into a list
pub record HeldTo {H : Type 0} (test : ℕ → Bool) (a : ℕ) (all to : List (Option H)) : Type 0 where
  pub taken : (n : ℕ) → n < a → in_list to n ≡ taken_at (test n) (in_list all n)
  pub free : (n : ℕ) → a ≤ n → in_list to n ≡ None

-- they are gone from where they were
pub record LeftTo {H : Type 0} (test : ℕ → Bool) (a : ℕ) (all from : List (Option H)) : Type 0 where
  pub left : (n : ℕ) → n < a → in_list from n ≡ left_at (test n) (in_list all n)
  pub later : (n : ℕ) → a ≤ n → in_list from n ≡ in_list all n
  pub count : length from ≡ length all

-- each stands at its number
pub record TakenTo {H : Type 0} (test : ℕ → Bool) (size a : ℕ) (all from to : List (Option H)) : Type 0 where
  pub size_is : length to ≡ size
  pub held : HeldTo test a all to
  pub left : LeftTo test a all from

module _ {H : Type 0} (test : ℕ → Bool) (a : ℕ) (all : List (Option H)) where
  module _ (to : List (Option H)) (far : HeldTo test a all to) where
    pub held_passed : test a ≡ false → HeldTo test (a + 1) all to
    held_passed isnt = record {
      taken = below_more (λ n. in_list to n ≡ taken_at (test n) (in_list all n)) a far.taken
          (far.free a (omega arith) ∙ sym (ap (λ b. taken_at b (in_list all a)) isnt));
      free = λ n more. far.free n (omega arith);
    }

    pub held_taken : (h : Option H) → test a ≡ true → a < length to → h ≡ in_list all a →
        HeldTo test (a + 1) all (slice_set to a h)
    held_taken h is less same = record {
      taken = below_more (λ n. in_list (slice_set to a h) n ≡ taken_at (test n) (in_list all n)) a
          (λ n before.
          ap option_flatten (get-set_other to a n h (λ equal. absurd (omega (arith, equal, before)))) ∙ far.taken n before)
          (ap option_flatten (get-set_same to a h less) ∙ same ∙ sym (ap (λ b. taken_at b (in_list all a)) is));
      free = λ n more.
          ap option_flatten (get-set_other to a n h (λ equal. absurd (omega (arith, equal, more))))
          ∙ far.free n (omega arith);
    }

    pub all_held : ((n : ℕ) → a ≤ n → test n ≡ false) → (n : ℕ) → in_list to n ≡ taken_at (test n) (in_list all n)
    all_held none n = elim (cases_lt n a) [
      | inl less ↦ far.taken n less
      | inr more ↦ far.free n more ∙ sym (ap (λ b. taken_at b (in_list all n)) (none n more))
    ]

  module _ (from : List (Option H)) (far : LeftTo test a all from) where
    pub left_passed : test a ≡ false → LeftTo test (a + 1) all from
    left_passed isnt = record {
      left = below_more (λ n. in_list from n ≡ left_at (test n) (in_list all n)) a far.left
          (far.later a (omega arith) ∙ sym (ap (λ b. left_at b (in_list all a)) isnt));
      later = λ n more. far.later n (omega arith);
      count = far.count;
    }

    pub left_taken : test a ≡ true → LeftTo test (a + 1) all (slice_set from a None)
    left_taken is = record {
      left = below_more (λ n. in_list (slice_set from a None) n ≡ left_at (test n) (in_list all n)) a
          (λ n before. taken_other from a n (λ same. absurd (omega (arith, same, before))) ∙ far.left n before)
          (taken_same from a ∙ sym (ap (λ b. left_at b (in_list all a)) is));
      later = λ n more.
          taken_other from a n (λ same. absurd (omega (arith, same, more))) ∙ far.later n (omega arith);
      count = length-set from a None ∙ far.count;
    }

    pub all_left : ((n : ℕ) → a ≤ n → test n ≡ false) → (n : ℕ) → in_list from n ≡ left_at (test n) (in_list all n)
    all_left none n = elim (cases_lt n a) [
      | inl less ↦ far.left n less
      | inr more ↦ far.later n more ∙ sym (ap (λ b. left_at b (in_list all n)) (none n more))
    ]

  module _ (size : ℕ) (from to : List (Option H)) (far : TakenTo test size a all from to) where
    pub place_free : a < size → slice_get to a ≡ Some None
    place_free less = free_at to a (omega (arith, less, far.size_is)) (far.held.free a (omega arith))

    pub one_passed : test a ≡ false → TakenTo test size (a + 1) all from to
    one_passed isnt = record {
      size_is = far.size_is;
      held = held_passed to far.held isnt;
      left = left_passed from far.left isnt;
    }

    pub one_taken : test a ≡ true → a < size →
        TakenTo test size (a + 1) all (slice_set from a None) (slice_set to a (in_list from a))
    one_taken is less = record {
      size_is = length-set to a (in_list from a) ∙ far.size_is;
      held = held_taken to far.held (in_list from a) is (omega (arith, less, far.size_is)) (far.left.later a (omega arith));
      left = left_taken from far.left is;
    }

-- nothing is taken yet
pub none_taken : {H : Type 0} (test : ℕ → Bool) (size : ℕ) (all to : List (Option H)) → to ≡ replicate size None →
    TakenTo test size 0 all all to
none_taken {H} test size all to is = record {
  size_is = ap length is ∙ length-replicate {A = Option H} size None;
  held = record {
    taken = λ n before. absurd (omega (arith, before));
    free = λ n more. ap (λ hs. in_list hs n) is ∙ none_in size n;
  };
  left = record {
    left = λ n before. absurd (omega (arith, before));
    later = λ n more. refl;
    count = refl;
  };
}

was_taken : {H : Type 0} (b : Bool) (handler : Option H) → IsSome (taken_at b handler) → b ≡ true
was_taken true handler some = refl
was_taken false handler some = absurd (cc some)

-- the handlers of operations that pass a test are held with those of all that execute inside them
pub keeps_of : {H : Type 0} (script : ScriptModel) (test : ℕ → Bool)
    (inner : (caller n : ℕ) → IsInlineOf script caller n → test caller ≡ true → test n ≡ true)
    (all hs : List (Option H)) → ((n : ℕ) → test n ≡ true → IsSome (in_list all n)) →
    ((n : ℕ) → in_list hs n ≡ taken_at (test n) (in_list all n)) → KeepsInline script hs
keeps_of script test inner all hs there taken caller some n inside =
    let passes : test caller ≡ true = was_taken (test caller) (in_list all caller) (subst IsSome (taken caller) some) in
    let callee : test n ≡ true = inner caller n inside passes in
    subst IsSome (sym (taken n ∙ ap (λ b. taken_at b (in_list all n)) callee)) (there n callee)

-- where those of all acts before it are gone, that of its caller is
pub callers_gone : {H : Type 0} (script : ScriptModel)
    (ordered : (n : ℕ) → HasParent script.acts n (parent_of script n)) (hands : Held H) → hands.script ≡ script →
    (n : ℕ) → ((k : ℕ) → k < n → in_list hands.handlers k ≡ None) → CallerIsGone hands n
callers_gone script ordered hands same n gone caller inside =
    let called : IsInlineOf script caller n = subst (λ (s : ScriptModel). IsInlineOf s caller n) same inside in
    gone caller (subst (HasParent script.acts n) called.1 (ordered n)).0

-- the handlers below number a are back: those of one list are in another
pub record GivenTo {H : Type 0} (a : ℕ) (all before held to : List (Option H)) : Type 0 where
  pub put : (n : ℕ) → n < a → in_list to n ≡ or_other (in_list all n) (in_list before n)
  pub gone : (n : ℕ) → n < a → in_list held n ≡ None
  pub rest : (n : ℕ) → a ≤ n → in_list held n ≡ in_list all n
  pub later : (n : ℕ) → a ≤ n → slice_get to n ≡ slice_get before n
  pub count : length to ≡ length before

module _ {H : Type 0} (all before : List (Option H)) where
  module _ (a : ℕ) (held to : List (Option H)) (far : GivenTo a all before held to) where
    gone_after : (n : ℕ) → n < a + 1 → in_list (slice_set held a None) n ≡ None
    gone_after = below_more (λ n. in_list (slice_set held a None) n ≡ None) a
        (λ n less. taken_other held a n (λ same. absurd (omega (arith, same, less))) ∙ far.gone n less) (taken_same held a)

    rest_after : (n : ℕ) → a + 1 ≤ n → in_list (slice_set held a None) n ≡ in_list all n
    rest_after n more =
        taken_other held a n (λ same. absurd (omega (arith, same, more))) ∙ far.rest n (omega arith)

    pub none_back : in_list held a ≡ None → GivenTo (a + 1) all before (slice_set held a None) to
    none_back none = record {
      put = below_more (λ n. in_list to n ≡ or_other (in_list all n) (in_list before n)) a far.put
          (ap option_flatten (far.later a (omega arith))
          ∙ sym (ap (λ h. or_other h (in_list before a)) (sym (far.rest a (omega arith)) ∙ none)));
      gone = gone_after;
      rest = rest_after;
      later = λ n more. far.later n (omega arith);
      count = far.count;
    }

    -- nothing is at its number
    pub number_free : ((n : ℕ) → IsSome (in_list all n) → slice_get before n ≡ Some None) → (handler : H) →
        in_list held a ≡ Some handler → slice_get to a ≡ Some None
    number_free free handler is =
        far.later a (omega arith) ∙ free a (subst IsSome (sym (sym (far.rest a (omega arith)) ∙ is)) refl)

    pub one_back : (handler : H) → in_list held a ≡ Some handler → slice_get to a ≡ Some None →
        GivenTo (a + 1) all before (slice_set held a None) (slice_set to a (Some handler))
    one_back handler is free = record {
      put =
          below_more (λ n. in_list (slice_set to a (Some handler)) n ≡ or_other (in_list all n) (in_list before n)) a
          (λ n less.
          ap option_flatten (get-set_other to a n (Some handler) (λ same. absurd (omega (arith, same, less))))
          ∙ far.put n less)
          (ap option_flatten (get-set_same to a (Some handler) (slice_get_within to a None free))
          ∙ sym (ap (λ h. or_other h (in_list before a)) (sym (far.rest a (omega arith)) ∙ is)));
      gone = gone_after;
      rest = rest_after;
      later = λ n more.
          get-set_other to a n (Some handler) (λ same. absurd (omega (arith, same, more))) ∙ far.later n (omega arith);
      count = length-set to a (Some handler) ∙ far.count;
    }

  pub all_back : (a : ℕ) (held to : List (Option H)) → GivenTo a all before held to →
      ((n : ℕ) → a ≤ n → in_list all n ≡ None) → (n : ℕ) →
      in_list to n ≡ or_other (in_list all n) (in_list before n)
  all_back a held to far none n = elim (cases_lt n a) [
    | inl less ↦ far.put n less
    | inr more ↦
        ap option_flatten (far.later n more) ∙ sym (ap (λ h. or_other h (in_list before n)) (none n more))
  ]
