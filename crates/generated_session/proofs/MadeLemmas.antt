-- The acts of a session that a number makes: each stands in `open` or under the posting just before it.
use Rattle.std.proofs.Common.{◌≡◌, ℕ, ◌+◌, ◌<◌, ◌⊎◌, inl, inr, zero, suc, Bool, true, false, cond, List, [], ◌∷◌, ◌++◌, length, Some, None, refl, ap, ◌∙◌, subst, arith, nat_eq}
use Rattle.std.specs.List.{slice_get}
use Rattle.asio_types.specs.declared.code.Class.TheVariants as class
use Rattle.session_script.specs.declared.act.Act.{Act}
use Rattle.session_script.specs.declared.act.Act.TheVariants as act
use Rattle.session_script.specs.Acts.{bodies_of}
use Rattle.session_script.specs.Script.{Entry}
use Rattle.session_script.specs.WellFormed.{has_branch}
use Rattle.generated_session.specs.Generator.{acts_from, after_item, item_after, made_by, opened}
use Rattle.generated_session.proofs.ItemsLemmas as items
use Rattle.generated_session.proofs.ItemsLemmas.{AreItems, IsPosting, are_items}

-- the acts that items are made of
pub data IsDrawn : Act → Type 0 where
  post : IsDrawn (act.Post None)
  post_on : (strand : ℕ) → strand < 4 → IsDrawn (act.Post (Some strand))
  dispatch_on : (strand : ℕ) → strand < 4 → IsDrawn (act.Dispatch (Some strand))
  expires : (timer after : ℕ) → timer < 4 → after < 1000 → IsDrawn (act.Expires timer after)
  wait : (timer : ℕ) → timer < 4 → IsDrawn (act.Wait timer (Some timer) None 7)

-- acts from number n on: alone in `open`, or two of which the first makes the second
pub data IsMade : ℕ → List Entry → Type 0 where
  nothing : {n : ℕ} → IsMade n []
  alone : {n : ℕ} (a : Act) (rest : List Entry) → IsDrawn a → IsMade (n + 1) rest → IsMade n (opened a ∷ rest)
  both : {n : ℕ} (a b : Act) (rest : List Entry) → IsDrawn a → has_branch (bodies_of a) class.Ok ≡ true → IsDrawn b →
      IsMade (n + 1 + 1) rest → IsMade n (opened a ∷ made_by n b ∷ rest)

posting_is_drawn : {a : Act} → IsPosting a → IsDrawn a
posting_is_drawn (items.post None small) = post
posting_is_drawn (items.post (Some strand) small) = post_on strand small
posting_is_drawn (items.dispatch strand small) = dispatch_on strand small

posting_branches : {a : Act} → IsPosting a → has_branch (bodies_of a) class.Ok ≡ true
posting_branches (items.post strand small) = refl
posting_branches (items.dispatch strand small) = refl

items_are_made : {n : ℕ} {acts : List Entry} → AreItems n acts → IsMade n acts
items_are_made items.nothing = nothing
items_are_made (items.posting a rest is more) = alone a rest (posting_is_drawn is) (items_are_made more)
items_are_made (items.nested a b rest is also more) =
    both a b rest (posting_is_drawn is) (posting_branches is) (posting_is_drawn also) (items_are_made more)
items_are_made (items.waiting timer after rest small short more) =
    alone (act.Expires timer after) (opened (act.Wait timer (Some timer) None 7) ∷ rest) (expires timer after small short)
    (alone (act.Wait timer (Some timer) None 7) rest (wait timer small) (items_are_made more))

pub acts_are_made : (left n x : ℕ) → IsMade n (acts_from left n x)
acts_are_made left n x = items_are_made (are_items left n x)

length_of_made : (first second third : Bool) (n lane time left : ℕ) (one two : List Entry) → length one ≡ suc left →
    length two ≡ left →
    length (cond first (opened (act.Post None) ∷ []) (cond second
    (opened (act.Post (Some lane)) ∷ made_by n (act.Post None) ∷ []) (cond third
    (opened (act.Dispatch (Some lane)) ∷ made_by n (act.Dispatch (Some lane)) ∷ [])
    (opened (act.Expires lane time) ∷ opened (act.Wait lane (Some lane) None 7) ∷ [])))
    ++ cond first one two) ≡ suc (suc left)
length_of_made true second third n lane time left one two of_one of_two = ap suc of_one
length_of_made false true third n lane time left one two of_one of_two = ap (λ k. suc (suc k)) of_two
length_of_made false false true n lane time left one two of_one of_two = ap (λ k. suc (suc k)) of_two
length_of_made false false false n lane time left one two of_one of_two = ap (λ k. suc (suc k)) of_two

-- as many acts are made as were wanted
pub length-acts_from : (left n x : ℕ) → length (acts_from left n x) ≡ left
length-acts_from zero n x = refl
length-acts_from (suc zero) n x = refl
length-acts_from (suc (suc left)) n x =
    let item = item_after x in
    length_of_made (nat_eq item.kind 0) (nat_eq item.kind 1) (nat_eq item.kind 2) n item.lane item.time left _ _
    (length-acts_from (suc left) (n + 1) (after_item x)) (length-acts_from left (n + 2) (after_item x))

-- where an act stands: in `open`, or under the posting before it
pub record IsUnder (n : ℕ) (acts : List Entry) (i : ℕ) (e : Entry) : Type 0 where
  pub before : ℕ
  pub next : i ≡ suc before
  pub parent : e.parent ≡ Some (n + before, class.Ok)
  pub maker : Act
  pub there : slice_get acts before ≡ Some (opened maker)
  pub branch : has_branch (bodies_of maker) class.Ok ≡ true

pub record IsSet (n : ℕ) (acts : List Entry) (i : ℕ) (e : Entry) : Type 0 where
  pub drawn : IsDrawn e.act
  pub place : (e.parent ≡ None) ⊎ IsUnder n acts i e

same_entry : {x y : Entry} → Some x ≡ Some y → x ≡ y
same_entry same = cc

later : (n : ℕ) (acts : List Entry) (first : Entry) (i : ℕ) (e : Entry) → IsSet (n + 1) acts i e →
    IsSet n (first ∷ acts) (suc i) e
later n acts first i e set = record {
  drawn = set.drawn;
  place = elim set.place as (λ p. (e.parent ≡ None) ⊎ IsUnder n (first ∷ acts) (suc i) e) [
    | inl none ↦ inl none
    | inr under ↦ inr (record {
      before = suc under.before;
      next = ap suc under.next;
      parent =
          let same : n + 1 + under.before ≡ n + suc under.before = omega arith in
          under.parent ∙ ap (λ op. Some (op, class.Ok)) same;
      maker = under.maker;
      there = under.there;
      branch = under.branch;
    })
  ];
}

pub each_is_set : (n : ℕ) (acts : List Entry) → IsMade n acts → (i : ℕ) (e : Entry) → slice_get acts i ≡ Some e →
    IsSet n acts i e
each_is_set n acts nothing i e there = absurd (cc there)
each_is_set n acts (alone a rest drawn made) zero e there =
    subst (λ x. IsSet n (opened a ∷ rest) zero x) (same_entry there) (record { drawn = drawn; place = inl refl })
each_is_set n acts (alone a rest drawn made) (suc i) e there =
    later n rest (opened a) i e (each_is_set (n + 1) rest made i e there)
each_is_set n acts (both a b rest drawn branch drawn_too made) zero e there =
    subst (λ x. IsSet n (opened a ∷ made_by n b ∷ rest) zero x) (same_entry there) (record { drawn = drawn; place = inl refl })
each_is_set n acts (both a b rest drawn branch drawn_too made) (suc zero) e there =
    subst (λ x. IsSet n (opened a ∷ made_by n b ∷ rest) (suc zero) x) (same_entry there) (record {
      drawn = drawn_too;
      place = inr (record {
        before = zero;
        next = refl;
        parent = let same : n ≡ n + zero = omega arith in ap (λ op. Some (op, class.Ok)) same;
        maker = a;
        there = refl;
        branch = branch;
      });
    })
each_is_set n acts (both a b rest drawn branch drawn_too made) (suc (suc i)) e there =
    later n (made_by n b ∷ rest) (opened a) (suc i) e
    (later (n + 1) rest (made_by n b) i e (each_is_set (n + 1 + 1) rest made i e there))
