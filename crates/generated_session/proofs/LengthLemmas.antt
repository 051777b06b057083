-- How long the text of a session that a number makes can be.
use Rattle.std.proofs.Common.{◌≡◌, ℕ, ◌+◌, ◌*◌, ◌<◌, ◌≤◌, ◌⊎◌, inl, inr, suc, Bool, true, false, cond, List, [], ◌∷◌, ◌++◌, length, Option, Some, None, refl, ap, subst, arith, nat_eq, length-append}
use Rattle.std.specs.List.{flat_map, slice_get}
use Rattle.std.specs.Prelude.{codes}
use Rattle.std.specs.Fmt.{decimal}
use Rattle.std.proofs.lemmas.Bool.{eqb-true, ne_eqb}
use Rattle.std.proofs.lemmas.Fmt.{length-decimal-le}
use Rattle.std.proofs.lemmas.List.Concat.{flat_map-cons}
use Rattle.asio_types.specs.declared.code.Class.{Class}
use Rattle.asio_types.specs.declared.code.Class.TheVariants as class
use Rattle.session_script.specs.declared.act.Act.{Act}
use Rattle.session_script.specs.Acts.{bodies_of}
use Rattle.session_script.specs.Limits.{limits_of, most_bytes}
use Rattle.session_script.specs.Script.{Entry, Place, branch_of, numbers_in, same_place}
use Rattle.session_script.specs.Spelling.{BodyWords, bodies_words, body_words, branch_words, entry_words, field_words, spelling_of, words_after_session, written}
use Rattle.session_script.specs.Text.{Words, act_text}
use Rattle.generated_session.specs.Generator.{made_by, most_size, opened, session_of}
use Rattle.generated_session.proofs.MadeLemmas.{IsDrawn, IsMade, alone, both, nothing, each_is_set, post, post_on, dispatch_on, expires, wait}

-- the bytes of words, with a space before each
span : Words → ℕ
span [] = 0
span (word ∷ words) = length word + 1 + span words

length-written : (text : List ℕ) (words : Words) → length (written text words) ≡ length text + span words
unfolding span
length-written text [] = omega arith
length-written text (word ∷ words) =
    omega (arith, length-written (text ++ 32 ∷ word) words, length-append text (32 ∷ word))

span-append : (a b : Words) → span (a ++ b) ≡ span a + span b
unfolding span
span-append [] b = omega arith
span-append (word ∷ a) b = omega (arith, span-append a b)

span-flat_map : (f : ℕ → Words) (xs : List ℕ) → ((x : ℕ) → span (f x) ≤ 224) → span (flat_map f xs) ≤ 224 * length xs
unfolding span
span-flat_map f [] each = omega arith
span-flat_map f (x ∷ xs) each =
    omega (arith, ap span (flat_map-cons f x xs), span-append (f x) (flat_map f xs), span-flat_map f xs each, each x)

-- nothing stands under an act that comes before these
none_under : (n : ℕ) (acts : List Entry) → IsMade n acts → (op : ℕ) (c : Class) → op < n →
    numbers_in (Some (op, c)) n acts ≡ []
none_under n acts nothing op c before = refl
none_under n acts (alone a rest drawn made) op c before = none_under (n + 1) rest made op c (omega arith)
none_under n acts (both a b rest drawn branch drawn_too made) op c before =
    rw (ne_eqb op n (λ same. omega (arith, same, before))) (none_under (n + 1 + 1) rest made op c (omega arith))

-- a branch has no act, or one that makes none
record IsOne (n : ℕ) (acts : List Entry) (op : ℕ) (c : Class) : Type 0 where
  only : ℕ
  is : numbers_in (Some (op, c)) n acts ≡ only ∷ []
  later : n < only
  leaf : (d : Class) → numbers_in (Some (only, d)) n acts ≡ []

IsShort : (n : ℕ) (acts : List Entry) (op : ℕ) (c : Class) → Type 0
IsShort n acts op c = (numbers_in (Some (op, c)) n acts ≡ []) ⊎ IsOne n acts op c

here : (n : ℕ) (a b : Act) (rest : List Entry) (op : ℕ) (c : Class) → IsMade (n + 1 + 1) rest → nat_eq op n ≡ true →
    IsShort n (opened a ∷ made_by n b ∷ rest) op c
unfolding IsShort
here n a b rest op class.Ok made same =
    let is_n : op ≡ n = eqb-true op n same in
    inr (record {
      only = n + 1;
      is = rw same (ap (λ more. (n + 1) ∷ more) (none_under (n + 1 + 1) rest made op class.Ok (omega (arith, is_n))));
      later = omega arith;
      leaf = λ d.
          rw (ne_eqb (n + 1) n (λ e. omega (arith, e))) (none_under (n + 1 + 1) rest made (n + 1) d (omega arith));
    })
here n a b rest op class.Abort made same =
    let is_n : op ≡ n = eqb-true op n same in
    inl (rw same (none_under (n + 1 + 1) rest made op class.Abort (omega (arith, is_n))))
here n a b rest op class.Other made same =
    let is_n : op ≡ n = eqb-true op n same in
    inl (rw same (none_under (n + 1 + 1) rest made op class.Other (omega (arith, is_n))))

elsewhere : (n : ℕ) (a b : Act) (rest : List Entry) (op : ℕ) (c : Class) → nat_eq op n ≡ false →
    IsShort (n + 1 + 1) rest op c → IsShort n (opened a ∷ made_by n b ∷ rest) op c
unfolding IsShort
elsewhere n a b rest op c apart (inl none) = inl (rw apart none)
elsewhere n a b rest op c apart (inr one) = inr (record {
  only = one.only;
  is = rw apart one.is;
  later = omega (arith, one.later);
  leaf = λ d. rw (ne_eqb one.only n (λ e. omega (arith, e, one.later))) (one.leaf d);
})

beyond : (n : ℕ) (a : Act) (rest : List Entry) (op : ℕ) (c : Class) → IsShort (n + 1) rest op c →
    IsShort n (opened a ∷ rest) op c
unfolding IsShort
beyond n a rest op c (inl none) = inl none
beyond n a rest op c (inr one) =
    inr (record { only = one.only; is = one.is; later = omega (arith, one.later); leaf = one.leaf })

by_test : (n : ℕ) (a b : Act) (rest : List Entry) (op : ℕ) (c : Class) (t : Bool) → nat_eq op n ≡ t →
    IsMade (n + 1 + 1) rest → IsShort (n + 1 + 1) rest op c → IsShort n (opened a ∷ made_by n b ∷ rest) op c
by_test n a b rest op c true same made short = here n a b rest op c made same
by_test n a b rest op c false apart made short = elsewhere n a b rest op c apart short

each_is_short : (n : ℕ) (acts : List Entry) → IsMade n acts → (op : ℕ) (c : Class) → IsShort n acts op c
unfolding IsShort
each_is_short n acts nothing op c = inl refl
each_is_short n acts (alone a rest drawn made) op c = beyond n a rest op c (each_is_short (n + 1) rest made op c)
each_is_short n acts (both a b rest drawn branch drawn_too made) op c =
    by_test n a b rest op c (nat_eq op n) refl made (each_is_short (n + 1 + 1) rest made op c)

-- an act without its bodies
span_of_act : (a : Act) → IsDrawn a → span (act_text a ∷ field_words a) ≤ 32
unfolding span
span_of_act a post = omega arith
span_of_act a (post_on strand small) =
    omega (arith, length-decimal-le 1 strand (omega arith) (omega arith) (omega arith))
span_of_act a (dispatch_on strand small) =
    omega (arith, length-decimal-le 1 strand (omega arith) (omega arith) (omega arith))
span_of_act a (expires timer after small short) =
    omega (
      arith,
      length-decimal-le 1 timer (omega arith) (omega arith) (omega arith),
      length-decimal-le 3 after (omega arith) (omega arith) (omega arith),
    )
span_of_act a (wait timer small) = omega (arith, length-decimal-le 1 timer (omega arith) (omega arith) (omega arith))

-- the bodies of an act, where each of them is short
span_of_bodies : (acts : List Entry) (body : BodyWords) (op : ℕ) (a : Act) (most : ℕ) → IsDrawn a →
    ((c : Class) → span (body (branch_of (session_of acts) op c)) ≤ most) →
    ((c : Class) (text : List ℕ) → length text ≤ 5 →
    span (branch_words body text (branch_of (session_of acts) op c)) ≤ most + 6) →
    span (bodies_words body (session_of acts) op (bodies_of a)) ≤ 3 * most + 12
unfolding span
span_of_bodies acts body op a most post each branches = omega (arith, each class.Ok)
span_of_bodies acts body op a most (post_on strand small) each branches = omega (arith, each class.Ok)
span_of_bodies acts body op a most (dispatch_on strand small) each branches = omega (arith, each class.Ok)
span_of_bodies acts body op a most (expires timer after small short) each branches = omega arith
span_of_bodies acts body op a most (wait timer small) each branches =
    let abort : Words = branch_words body (codes "abort") (branch_of (session_of acts) op class.Abort) in
    let other : Words = branch_words body (codes "other") (branch_of (session_of acts) op class.Other) in
    omega (
      arith,
      each class.Ok,
      branches class.Abort (codes "abort") (omega arith),
      branches class.Other (codes "other") (omega arith),
      span-append (body (branch_of (session_of acts) op class.Ok)) (abort ++ other),
      span-append abort other,
    )

span_of_entry : (acts : List Entry) → IsMade 0 acts → (body : BodyWords) (n most : ℕ) (o : Option Entry) →
    slice_get acts n ≡ o → ((c : Class) → span (body (branch_of (session_of acts) n c)) ≤ most) →
    ((c : Class) (text : List ℕ) → length text ≤ 5 →
    span (branch_words body text (branch_of (session_of acts) n c)) ≤ most + 6) →
    span (entry_words body (session_of acts) n) ≤ 3 * most + 44
unfolding span
span_of_entry acts made body n most None there each branches = rw there (omega arith)
span_of_entry acts made body n most (Some e) there each branches =
    let drawn : IsDrawn e.act = (each_is_set 0 acts made n e there).drawn in
    let bodies : Words = bodies_words body (session_of acts) n (bodies_of e.act) in
    rw there (omega (
      arith,
      span_of_act e.act drawn,
      span-append (field_words e.act) bodies,
      span_of_bodies acts body n e.act most drawn each branches,
    ))

-- an act with empty bodies
span_of_leaf : (acts : List Entry) → IsMade 0 acts → (levels n : ℕ) →
    ((c : Class) → branch_of (session_of acts) n c ≡ []) →
    span (entry_words (body_words (suc levels) (session_of acts)) (session_of acts) n) ≤ 56
unfolding span
span_of_leaf acts made levels n leaf =
    span_of_entry acts made (body_words (suc levels) (session_of acts)) n 4 (slice_get acts n) refl
    (λ c. rw (leaf c) (omega arith)) (λ c text short. rw (leaf c) (omega arith))

-- a body with no act, or one that has empty bodies
span_of_short : (acts : List Entry) → IsMade 0 acts → (levels n : ℕ) (c : Class) → IsShort 0 acts n c →
    span (body_words (suc (suc levels)) (session_of acts) (branch_of (session_of acts) n c)) ≤ 60
unfolding span IsShort
span_of_short acts made levels n c (inl none) = rw none (omega arith)
span_of_short acts made levels n c (inr one) =
    let inner : ℕ → Words = entry_words (body_words (suc levels) (session_of acts)) (session_of acts) in
    rw one.is (omega (
      arith,
      span-append (flat_map inner (one.only ∷ [])) (codes "}" ∷ []),
      ap span (flat_map-cons inner one.only []),
      span-append (inner one.only) [],
      span_of_leaf acts made levels one.only one.leaf,
    ))

span_of_branch : (acts : List Entry) → IsMade 0 acts → (levels n : ℕ) (c : Class) (text : List ℕ) → length text ≤ 5 →
    IsShort 0 acts n c →
    span (branch_words (body_words (suc (suc levels)) (session_of acts)) text (branch_of (session_of acts) n c)) ≤ 66
unfolding span IsShort
span_of_branch acts made levels n c text short (inl none) = rw none (omega arith)
span_of_branch acts made levels n c text short (inr one) =
    let inside : span (body_words (suc (suc levels)) (session_of acts) (one.only ∷ [])) ≤ 60 =
    subst (λ ns. span (body_words (suc (suc levels)) (session_of acts) ns) ≤ 60) one.is
    (span_of_short acts made levels n c (inr one)) in
    rw one.is (omega (arith, inside, short))

span_of_act_at : (acts : List Entry) → IsMade 0 acts → (levels n : ℕ) →
    span (entry_words (body_words (suc (suc levels)) (session_of acts)) (session_of acts) n) ≤ 224
span_of_act_at acts made levels n =
    span_of_entry acts made (body_words (suc (suc levels)) (session_of acts)) n 60 (slice_get acts n) refl
    (λ c. span_of_short acts made levels n c (each_is_short 0 acts made n c))
    (λ c text short. span_of_branch acts made levels n c text short (each_is_short 0 acts made n c))

pub few_numbers : (place : Place) (n : ℕ) (acts : List Entry) → length (numbers_in place n acts) ≤ length acts
few_numbers place n [] = omega arith
few_numbers place n (entry ∷ acts) = of_test (same_place place entry.parent) (few_numbers place (n + 1) acts)
  where
    of_test : (t : Bool) → length (numbers_in place (n + 1) acts) ≤ length acts →
        length (cond t (n ∷ numbers_in place (n + 1) acts) (numbers_in place (n + 1) acts)) ≤ suc (length acts)
    of_test true few = omega (arith, few)
    of_test false few = omega (arith, few)

pub spelling_is_short : (acts : List Entry) → IsMade 0 acts → length acts ≤ most_size →
    length (spelling_of (session_of acts)) ≤ most_bytes
unfolding span limits_of words_after_session spelling_of
spelling_is_short acts made few =
    let opening : List ℕ = numbers_in None 0 acts in
    let each : ℕ → Words = entry_words (body_words (suc (suc 29)) (session_of acts)) (session_of acts) in
    let inner : Words = flat_map each opening in
    let last : Words = codes "run" ∷ decimal 4 ∷ [] in
    omega (
      arith,
      length-written (codes "session") (words_after_session (session_of acts)),
      span-append inner (codes "}" ∷ []),
      span-append (inner ++ codes "}" ∷ []) last,
      span-flat_map each opening (λ n. span_of_act_at acts made 29 n),
      few_numbers None 0 acts,
      few,
      length-decimal-le 1 1 (omega arith) (omega arith) (omega arith),
      length-decimal-le 1 4 (omega arith) (omega arith) (omega arith),
    )
