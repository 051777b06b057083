-- The session that a number makes is within the limits of version 1, in text order, and has words.
use Rattle.std.proofs.Common.{◌≡◌, ℕ, ◌+◌, ◌<◌, ◌≤◌, ◌⊎◌, inl, inr, suc, true, List, [], length, Option, Some, None, refl, ap, sym, ◌∙◌, subst, arith}
use Rattle.std.specs.List.{slice_get}
use Rattle.std.proofs.lemmas.List.Elements.{All-from_recursion}
use Rattle.asio_types.specs.declared.code.Class.{Class}
use Rattle.asio_types.specs.declared.code.Class.TheVariants as class
use Rattle.session_script.specs.declared.act.Act.{Act}
use Rattle.session_script.specs.Acts.{bodies_of}
use Rattle.session_script.specs.Grammar.{IsScript, are_released}
use Rattle.session_script.specs.Limits.{limits_of, most_bytes}
use Rattle.session_script.specs.Spelling.{spelling_of}
use Rattle.session_script.specs.Script.{Entry, Place, act_of, parent_of}
use Rattle.session_script.specs.WellFormed.{FitsAct, FitsRound, HasParent, has_branch, IsForest, IsNested, in_open, in_branch, IsWellFormed, header_of}
use Rattle.session_script.specs.Writable.{HasWords, IsFedBytes, IsInTextOrder, IsWritable}
use Rattle.generated_session.specs.Generator.{acts_from, generated, most_size, one_run, opened, session_of}
use Rattle.session_script.proofs.WritingLemmas.{writable_is_script}
use Rattle.generated_session.proofs.LengthLemmas.{spelling_is_short}
use Rattle.generated_session.proofs.MadeLemmas.{acts_are_made, IsDrawn, IsMade, IsUnder, each_is_set, length-acts_from, post, post_on, dispatch_on, expires, wait}

pub fits : (acts : List Entry) (a : Act) → IsDrawn a → FitsAct (header_of (session_of acts)) a
unfolding limits_of
fits acts a post = tt
fits acts a (post_on strand small) = small
fits acts a (dispatch_on strand small) = small
fits acts a (expires timer after small short) = (small, omega (arith, short))
fits acts a (wait timer small) = (small, small, (tt, omega arith))

pub words : (a : Act) → IsDrawn a → HasWords 1 a
words a post = (tt, tt)
words a (post_on strand small) = (tt, tt)
words a (dispatch_on strand small) = (tt, tt)
words a (expires timer after small short) = (tt, tt)
words a (wait timer small) = (tt, inl refl)

-- at the front of the acts a number is its place
pub record IsUnderOne (acts : List Entry) (i : ℕ) (e : Entry) : Type 0 where
  pub before : ℕ
  pub next : i ≡ suc before
  pub parent : e.parent ≡ Some (before, class.Ok)
  pub maker : Entry
  pub there : slice_get acts before ≡ Some maker
  pub branch : has_branch (bodies_of maker.act) class.Ok ≡ true
  pub outermost : maker.parent ≡ None

from_front : (acts : List Entry) (i : ℕ) (e : Entry) → IsUnder 0 acts i e → IsUnderOne acts i e
from_front acts i e under =
    let same : 0 + under.before ≡ under.before = omega arith in
    record {
      before = under.before;
      next = under.next;
      parent = under.parent ∙ ap (λ op. Some (op, class.Ok)) same;
      maker = opened under.maker;
      there = under.there;
      branch = under.branch;
      outermost = refl;
    }

pub stands : (acts : List Entry) (made : IsMade 0 acts) (i : ℕ) (e : Entry) → slice_get acts i ≡ Some e →
    (e.parent ≡ None) ⊎ IsUnderOne acts i e
stands acts made i e there =
    elim (each_is_set 0 acts made i e there).place as (λ p. (e.parent ≡ None) ⊎ IsUnderOne acts i e) [
      | inl none ↦ inl none
      | inr under ↦ inr (from_front acts i e under)
    ]

has_parent : (acts : List Entry) (i : ℕ) (e : Entry) → (e.parent ≡ None) ⊎ IsUnderOne acts i e →
    HasParent acts i e.parent
has_parent acts i e (inl none) = subst (λ p. HasParent acts i p) (sym none) tt
has_parent acts i e (inr under) =
    subst (λ p. HasParent acts i p) (sym under.parent) (omega (arith, under.next), (under.maker, under.there, under.branch))

is_nested : (acts : List Entry) (i : ℕ) (e : Entry) → (e.parent ≡ None) ⊎ IsUnderOne acts i e →
    (depth : ℕ) × (depth ≤ 32) × IsNested acts e.parent depth
is_nested acts i e (inl none) = (1, omega arith, subst (λ p. IsNested acts p 1) (sym none) in_open)
is_nested acts i e (inr under) = (
  2,
  omega arith,
  subst (λ p. IsNested acts p 2) (sym under.parent)
      (in_branch under.there (subst (λ p. IsNested acts p 1) (sym under.outermost) in_open)),
)

forest : (acts : List Entry) → IsMade 0 acts → length acts ≤ most_size → IsForest (header_of (session_of acts)) acts
unfolding limits_of
forest acts made few = record {
  count = few;
  placed = λ i e there. record {
    fits = fits acts e.act (each_is_set 0 acts made i e there).drawn;
    parent = has_parent acts i e (stands acts made i e there);
    nested = is_nested acts i e (stands acts made i e there);
  };
}

pub is_well_formed : (acts : List Entry) → IsMade 0 acts → length acts ≤ most_size → IsWellFormed (session_of acts)
unfolding limits_of are_released
is_well_formed acts made few = record {
  version = inl refl;
  strands = omega arith;
  timers = omega arith;
  slots = omega arith;
  streams = omega arith;
  guards = omega arith;
  acts = forest acts made few;
  line_count = omega arith;
  lines = All-from_recursion _ [] tt;
  some_round = omega arith;
  round_count = omega arith;
  rounds = All-from_recursion (FitsRound (header_of (session_of acts))) one_run ((omega arith, omega arith), tt);
  released = refl;
}

parent_in : Option Entry → Place
parent_in None = None
parent_in (Some e) = e.parent

parent_at : (acts : List Entry) (n : ℕ) (o : Option Entry) → slice_get acts n ≡ o →
    parent_of (session_of acts) n ≡ parent_in o
unfolding parent_in
parent_at acts n None there = rw there refl
parent_at acts n (Some e) there = rw there refl

same_place_of : (p q : ℕ × Class) → Some p ≡ Some q → p ≡ q
same_place_of p q same = cc

-- what stands under an operation comes just after it
next_by : (acts : List Entry) → IsMade 0 acts → (n op : ℕ) (branch : Class) (o : Option Entry) → slice_get acts n ≡ o →
    parent_of (session_of acts) n ≡ Some (op, branch) → n ≡ suc op
unfolding parent_in
next_by acts made n op branch None there parent = absurd (cc (sym (parent_at acts n None there) ∙ parent))
next_by acts made n op branch (Some e) there parent =
    let placed : e.parent ≡ Some (op, branch) = sym (parent_at acts n (Some e) there) ∙ parent in
    elim (stands acts made n e there) as (λ s. n ≡ suc op) [
      | inl none ↦ absurd (cc (sym none ∙ placed))
      | inr under ↦
          under.next
          ∙ ap (λ p. suc p.0) (same_place_of (under.before, class.Ok) (op, branch) (sym under.parent ∙ placed))
    ]

pub in_order : (acts : List Entry) → IsMade 0 acts → IsInTextOrder (session_of acts)
in_order acts made = record {
  under = λ op n m branch first second parent.
      let next : m ≡ suc op = next_by acts made m op branch _ refl parent in
      absurd (omega (arith, first, second, next));
  branches = λ op n m first second before one two.
      let left : n ≡ suc op = next_by acts made n op first _ refl one in
      let right : m ≡ suc op = next_by acts made m op second _ refl two in
      absurd (omega (arith, before, left, right));
}

-- how deep a body lies
depth_in_open : {acts : List Entry} (place : Place) (depth : ℕ) → IsNested acts place depth → place ≡ None → depth ≡ 1
depth_in_open place depth in_open open_place = refl
depth_in_open place depth (in_branch there nested) open_place = absurd (cc open_place)

same_maker : (acts : List Entry) (op other : ℕ) (a b : Entry) → op ≡ other → slice_get acts op ≡ Some a →
    slice_get acts other ≡ Some b → a ≡ b
same_maker acts op other a b same first second =
    let both : Some a ≡ Some b = sym first ∙ ap (slice_get acts) same ∙ second in cc

depth_in_branch : (acts : List Entry) (place : Place) (depth : ℕ) → IsNested acts place depth →
    (op : ℕ) (maker : Entry) → place ≡ Some (op, class.Ok) → slice_get acts op ≡ Some maker → maker.parent ≡ None →
    depth ≡ 2
depth_in_branch acts place depth in_open op maker under there outermost = absurd (cc under)
depth_in_branch acts place depth (in_branch {op = o} {branch = b} {parent = p} {depth = d} held nested) op maker under
    there outermost =
    let same_op : o ≡ op = ap (λ q. q.0) (same_place_of (o, b) (op, class.Ok) under) in
    let same : p ≡ maker = same_maker acts o op p maker same_op held there in
    ap suc (depth_in_open p.parent d nested (ap (λ e. e.parent) same ∙ outermost))

shallow : (acts : List Entry) → IsMade 0 acts → (n depth : ℕ) (o : Option Entry) → slice_get acts n ≡ o →
    IsNested acts (parent_of (session_of acts) n) depth → depth < 32
unfolding parent_in
shallow acts made n depth None there nested =
    let one : depth ≡ 1 = depth_in_open _ depth nested (parent_at acts n None there) in omega (arith, one)
shallow acts made n depth (Some e) there nested = elim (stands acts made n e there) as (λ s. depth < 32) [
  | inl none ↦
      (let one : depth ≡ 1 = depth_in_open _ depth nested (parent_at acts n (Some e) there ∙ none) in omega (arith, one))
  | inr under ↦
      (let two : depth ≡ 2 =
      depth_in_branch acts _ depth nested under.before under.maker
      (parent_at acts n (Some e) there ∙ under.parent) under.there under.outermost in
      omega (arith, two))
]

has_words : (acts : List Entry) → IsMade 0 acts → (n : ℕ) (made : Act) (o : Option Entry) → slice_get acts n ≡ o →
    act_of (session_of acts) n ≡ Some made → HasWords 1 made
has_words acts all n made None there found =
    let none : act_of (session_of acts) n ≡ None = rw there refl in absurd (cc (sym none ∙ found))
has_words acts all n made (Some e) there found =
    let some : act_of (session_of acts) n ≡ Some e.act = rw there refl in
    let same : e.act ≡ made = same_act e.act made (sym some ∙ found) in
    subst (λ a. HasWords 1 a) same (words e.act (each_is_set 0 acts all n e there).drawn)
  where
    same_act : (a b : Act) → Some a ≡ Some b → a ≡ b
    same_act a b same = cc

pub is_writable : (acts : List Entry) → IsMade 0 acts → length (spelling_of (session_of acts)) ≤ most_bytes →
    IsWritable (session_of acts)
unfolding limits_of
is_writable acts made short = record {
  words = λ n a found. has_words acts made n a _ refl found;
  fed = All-from_recursion (λ line. IsFedBytes line.what) [] tt;
  order = in_order acts made;
  depth = λ n depth a found branch nested. shallow acts made n depth _ refl nested;
  size = short;
}

-- the session that a number makes is the script of its text
pub generated_is_script : (start size : ℕ) → size ≤ most_size →
    IsScript (spelling_of (generated start size)) (generated start size)
generated_is_script start size few =
    let acts : List Entry = acts_from size 0 start in
    let made : IsMade 0 acts = acts_are_made size 0 start in
    let short : length acts ≤ most_size = omega (arith, length-acts_from size 0 start, few) in
    writable_is_script (session_of acts) (is_well_formed acts made short)
    (is_writable acts made (spelling_is_short acts made short))
