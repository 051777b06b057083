-- The items of a session that a number makes: a posting, a posting that makes another one, or an expiry with a wait.
use Rattle.std.proofs.Common.{◌≡◌, ℕ, ◌+◌, ◌<◌, zero, suc, Bool, true, false, cond, List, [], ◌∷◌, ◌++◌, length, Option, Some, None, refl, ap, sym, ◌∙◌, subst, arith, nat_eq}
use Rattle.std.specs.List.{slice_get}
use Rattle.std.proofs.lemmas.Bool.{eq-eqb, ne_eqb}
use Rattle.std.proofs.lemmas.Option.{slice_get_within}
use Rattle.asio_types.specs.declared.code.Class.{Class}
use Rattle.asio_types.specs.declared.code.Class.TheVariants as class
use Rattle.session_script.specs.declared.act.Act.{Act}
use Rattle.session_script.specs.declared.act.Act.TheVariants as act
use Rattle.session_script.specs.Script.{Entry, Place, act_of, branch_of, numbers_in, parent_of}
use Rattle.generated_session.specs.Generator.{acts_from, after_item, item_after, lone_act, made_by, opened, session_of}

-- a strand that is declared, if any
abbrev IsSmall : Option ℕ → Type 0
IsSmall None = Unit {0}
IsSmall (Some strand) = strand < 4

-- the acts that only execute a handler
pub data IsPosting : Act → Type 0 where
  post : (strand : Option ℕ) → IsSmall strand → IsPosting (act.Post strand)
  dispatch : (strand : ℕ) → strand < 4 → IsPosting (act.Dispatch (Some strand))

pub data AreItems : ℕ → List Entry → Type 0 where
  nothing : {n : ℕ} → AreItems n []
  posting : {n : ℕ} (a : Act) (rest : List Entry) → IsPosting a → AreItems (n + 1) rest → AreItems n (opened a ∷ rest)
  nested : {n : ℕ} (a b : Act) (rest : List Entry) → IsPosting a → IsPosting b → AreItems (n + 1 + 1) rest →
      AreItems n (opened a ∷ made_by n b ∷ rest)
  waiting : {n : ℕ} (timer after : ℕ) (rest : List Entry) → timer < 4 → after < 1000 → AreItems (n + 1 + 1) rest →
      AreItems n (opened (act.Expires timer after) ∷ opened (act.Wait timer (Some timer) None 7) ∷ rest)

lone_posts : (second third : Bool) (lane : ℕ) → lane < 4 → IsPosting
    (cond second (act.Post (Some lane)) (cond third (act.Dispatch (Some lane)) (act.Post None)))
lone_posts true third lane small = post (Some lane) small
lone_posts false true lane small = dispatch lane small
lone_posts false false lane small = post None tt

item_is : (first second third : Bool) (n lane time : ℕ) (one two : List Entry) → lane < 4 → time < 1000 →
    AreItems (n + 1) one → AreItems (n + 1 + 1) two →
    AreItems n (cond first (opened (act.Post None) ∷ []) (cond second
    (opened (act.Post (Some lane)) ∷ made_by n (act.Post None) ∷ []) (cond third
    (opened (act.Dispatch (Some lane)) ∷ made_by n (act.Dispatch (Some lane)) ∷ [])
    (opened (act.Expires lane time) ∷ opened (act.Wait lane (Some lane) None 7) ∷ []))) ++ cond first one two)
item_is true second third n lane time one two small short after_one after_two =
    posting (act.Post None) one (post None tt) after_one
item_is false true third n lane time one two small short after_one after_two =
    nested (act.Post (Some lane)) (act.Post None) two (post (Some lane) small) (post None tt) after_two
item_is false false true n lane time one two small short after_one after_two =
    nested (act.Dispatch (Some lane)) (act.Dispatch (Some lane)) two (dispatch lane small) (dispatch lane small) after_two
item_is false false false n lane time one two small short after_one after_two =
    waiting lane time two small short after_two

pub are_items : (left n x : ℕ) → AreItems n (acts_from left n x)
are_items zero n x = nothing
are_items (suc zero) n x =
    let item = item_after x in
    posting (lone_act item) [] (lone_posts (nat_eq item.kind 1) (nat_eq item.kind 2) item.lane (omega arith)) nothing
are_items (suc (suc left)) n x =
    let item = item_after x in
    let two : n + 1 + 1 ≡ n + 2 = omega arith in
    let two_is : AreItems (n + 1 + 1) (acts_from left (n + 2) (after_item x)) =
    rw two (are_items left (n + 2) (after_item x)) in
    item_is (nat_eq item.kind 0) (nat_eq item.kind 1) (nat_eq item.kind 2) n item.lane item.time _ _ (omega arith) (omega arith)
    (are_items (suc left) (n + 1) (after_item x)) two_is

-- the acts of these sessions, or none
pub data IsKnown : Option Act → Type 0 where
  absent : IsKnown None
  posts : (strand : Option ℕ) → IsKnown (Some (act.Post strand))
  dispatches : (strand : Option ℕ) → IsKnown (Some (act.Dispatch strand))
  expires : (timer after : ℕ) → timer < 4 → IsKnown (Some (act.Expires timer after))
  waits : (timer : ℕ) → timer < 4 → IsKnown (Some (act.Wait timer (Some timer) None 7))

abbrev pub act_in : Option Entry → Option Act
act_in None = None
act_in (Some e) = Some e.act

abbrev pub place_in : Option Entry → Place
place_in None = None
place_in (Some e) = e.parent

abbrev pub nth_act : List Entry → ℕ → Option Act
nth_act acts n = act_of (session_of acts) n

abbrev pub nth_place : List Entry → ℕ → Place
nth_place acts n = parent_of (session_of acts) n

known_posting : {a : Act} → IsPosting a → IsKnown (Some a)
known_posting (post strand small) = posts strand
known_posting (dispatch strand small) = dispatches (Some strand)

known_in : {n : ℕ} {acts : List Entry} → AreItems n acts → (i : ℕ) → IsKnown (act_in (slice_get acts i))
known_in nothing i = absent
known_in (posting a rest is items) zero = known_posting is
known_in (posting a rest is items) (suc i) = known_in items i
known_in (nested a b rest is also items) zero = known_posting is
known_in (nested a b rest is also items) (suc zero) = known_posting also
known_in (nested a b rest is also items) (suc (suc i)) = known_in items i
known_in (waiting timer after rest small short items) zero = expires timer after small
known_in (waiting timer after rest small short items) (suc zero) = waits timer small
known_in (waiting timer after rest small short items) (suc (suc i)) = known_in items i

pub act_of-in : (acts : List Entry) (n : ℕ) (o : Option Entry) → slice_get acts n ≡ o → nth_act acts n ≡ act_in o
act_of-in acts n None there = rw there refl
act_of-in acts n (Some e) there = rw there refl

pub parent_of-in : (acts : List Entry) (n : ℕ) (o : Option Entry) → slice_get acts n ≡ o → nth_place acts n ≡ place_in o
parent_of-in acts n None there = rw there refl
parent_of-in acts n (Some e) there = rw there refl

pub known : (acts : List Entry) → AreItems 0 acts → (n : ℕ) → IsKnown (nth_act acts n)
known acts items n = rw (act_of-in acts n (slice_get acts n) refl) (known_in items n)

-- an act that the reactor has to take
abbrev pub asks : Act → Bool
asks (act.Expires timer after) = true
asks (act.Wait timer strand slot filter) = true
asks _ = false

abbrev pub asks_entry : Entry → Bool
asks_entry e = asks e.act

abbrev pub asks_in : Option Act → Bool
asks_in None = false
asks_in (Some act) = asks act

-- an act that the handler of a posting makes, by where both stand
pub record IsInside (n : ℕ) (acts : List Entry) (i p : ℕ) (c : Class) : Type 0 where
  pub before : ℕ
  pub next : i ≡ suc before
  pub place : p ≡ n + before
  pub branch : c ≡ class.Ok
  pub maker : Act
  pub there : slice_get acts before ≡ Some (opened maker)
  pub posts : IsPosting maker
  pub made : Act
  pub here : slice_get acts i ≡ Some (made_by p made)
  pub also : IsPosting made
  pub only : numbers_in (Some (p, c)) n acts ≡ (n + i) ∷ []

none_under : {n : ℕ} {acts : List Entry} → AreItems n acts → (p : ℕ) (c : Class) → p < n →
    numbers_in (Some (p, c)) n acts ≡ []
none_under nothing p c below = refl
none_under (posting a rest is items) p c below = none_under items p c (omega arith)
none_under {n} (nested a b rest is also items) p c below =
    let differs : nat_eq p n ≡ false = ne_eqb p n (λ same. absurd (omega (arith, same, below))) in
    rw differs (none_under items p c (omega arith))
none_under (waiting timer after rest small short items) p c below = none_under items p c (omega arith)

same_place_of : (p q : ℕ) (c d : Class) → ◌≡◌ {A = Place} (Some (p, c)) (Some (q, d)) → (p ≡ q) × (c ≡ d)
same_place_of p q c d same =
    let both = same_pair (p, c) (q, d) same in (ap (λ pair. pair.0) both, ap (λ pair. pair.1) both)
  where
    same_pair : (x y : ℕ × Class) → Some x ≡ Some y → x ≡ y
    same_pair x y same = cc

one_later : (n : ℕ) (acts : List Entry) (first : Entry) (i p : ℕ) (c : Class) →
    numbers_in (Some (p, c)) n (first ∷ acts) ≡ numbers_in (Some (p, c)) (n + 1) acts → IsInside (n + 1) acts i p c →
    IsInside n (first ∷ acts) (suc i) p c
one_later n acts first i p c skips inside =
    let place_is : n + 1 + inside.before ≡ n + suc inside.before = omega arith in
    let number_is : n + 1 + i ≡ n + suc i = omega arith in
    record {
      before = suc inside.before;
      next = ap suc inside.next;
      place = inside.place ∙ place_is;
      branch = inside.branch;
      maker = inside.maker;
      there = inside.there;
      posts = inside.posts;
      made = inside.made;
      here = inside.here;
      also = inside.also;
      only = skips ∙ inside.only ∙ ap (λ k. k ∷ []) number_is;
    }

under_in : {n : ℕ} {acts : List Entry} → AreItems n acts → (i p : ℕ) (c : Class) →
    place_in (slice_get acts i) ≡ Some (p, c) → IsInside n acts i p c
under_in nothing i p c parent = absurd (cc parent)
under_in (posting a rest is items) zero p c parent = absurd (cc parent)
under_in {n} (posting a rest is items) (suc i) p c parent =
    one_later n rest (opened a) i p c refl (under_in items i p c parent)
under_in (nested a b rest is also items) zero p c parent = absurd (cc parent)
under_in {n} (nested a b rest is also items) (suc zero) p c parent =
    let same = same_place_of n p class.Ok c parent in
    let none = none_under items n class.Ok (omega arith) in
    let found : nat_eq n n ≡ true = eq-eqb n n refl in
    let at : n + 0 ≡ n = omega arith in
    subst (λ q. IsInside n (opened a ∷ made_by n b ∷ rest) 1 q c) same.0
    (subst (λ d. IsInside n (opened a ∷ made_by n b ∷ rest) 1 n d) same.1 (record {
      before = 0;
      next = refl;
      place = sym at;
      branch = refl;
      maker = a;
      there = refl;
      posts = is;
      made = b;
      here = refl;
      also = also;
      only = rw found (ap (λ ns. (n + 1) ∷ ns) none);
    }))
under_in {n} (nested a b rest is also items) (suc (suc i)) p c parent =
    let inside = under_in items i p c parent in
    let differs : nat_eq p n ≡ false = ne_eqb p n (λ same. absurd (omega (arith, same, inside.place))) in
    one_later n (made_by n b ∷ rest) (opened a) (suc i) p c refl
    (one_later (n + 1) rest (made_by n b) i p c (rw differs refl) inside)
under_in (waiting timer after rest small short items) zero p c parent = absurd (cc parent)
under_in (waiting timer after rest small short items) (suc zero) p c parent = absurd (cc parent)
under_in {n} (waiting timer after rest small short items) (suc (suc i)) p c parent =
    one_later n (opened (act.Wait timer (Some timer) None 7) ∷ rest) (opened (act.Expires timer after)) (suc i) p c refl
    (one_later (n + 1) rest (opened (act.Wait timer (Some timer) None 7)) i p c refl (under_in items i p c parent))

-- an act of a session that the handler of a posting makes
pub record IsUnder (acts : List Entry) (n p : ℕ) (c : Class) : Type 0 where
  pub next : n ≡ suc p
  pub branch : c ≡ class.Ok
  pub maker : Act
  pub maker_is : nth_act acts p ≡ Some maker
  pub posts : IsPosting maker
  pub made : Act
  pub made_is : nth_act acts n ≡ Some made
  pub also : IsPosting made
  pub outermost : nth_place acts p ≡ None
  pub only : branch_of (session_of acts) p c ≡ n ∷ []
  pub within : n < length acts

pub under : (acts : List Entry) → AreItems 0 acts → (n p : ℕ) (c : Class) → nth_place acts n ≡ Some (p, c) →
    IsUnder acts n p c
under acts items n p c parent =
    let inside = under_in items n p c (sym (parent_of-in acts n (slice_get acts n) refl) ∙ parent) in
    let at : 0 + inside.before ≡ inside.before = omega arith in
    let place : p ≡ inside.before = inside.place ∙ at in
    let zero_more : 0 + n ≡ n = omega arith in
    let there : slice_get acts p ≡ Some (opened inside.maker) = ap (slice_get acts) place ∙ inside.there in
    record {
      next = inside.next ∙ ap suc (sym place);
      branch = inside.branch;
      maker = inside.maker;
      maker_is = act_of-in acts p (Some (opened inside.maker)) there;
      posts = inside.posts;
      made = inside.made;
      made_is = act_of-in acts n (Some (made_by p inside.made)) inside.here;
      also = inside.also;
      outermost = parent_of-in acts p (Some (opened inside.maker)) there;
      only = inside.only ∙ ap (λ k. k ∷ []) zero_more;
      within = slice_get_within acts n (made_by p inside.made) inside.here;
    }
