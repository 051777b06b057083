-- The operations that are pending on a stream, in order of acceptance, and those for which no system call is under way.
use Rattle.std.proofs.Common.{arith, ap, inl, inr, refl, subst, sym, ◌∙◌, ⊎_elim}
use Rattle.std.proofs.lemmas.Bool.{true≢false}
use Rattle.std.specs.Prelude.{◌≡◌, ◌<◌, ℕ, ◌+◌, ◌==◌, ◌&&◌, ◌||◌, not, cond, Bool, true, false, List, [], ◌∷◌, Option, None, Some, length, slice_get}
use Rattle.std.specs.List.{filter}
use Rattle.io_rules.specs.declared.name.Name.{Name}
use Rattle.io_rules.specs.declared.operation.Side.{Side}
use Rattle.io_rules.specs.declared.operation.Side.TheVariants as side
use Rattle.io_rules.specs.Cancelling.{is_among, is_first, is_out_for, queue_of, same_side}
use Rattle.io_rules.specs.Completing.{others_than}
use Rattle.io_rules.specs.Serving.{first_of, with_queue}
use Rattle.io_rules.specs.State.{StreamState}
use Rattle.io_rules.proofs.StrandLemmas.{both, by_test}
use Rattle.io_rules.proofs.TotalLemmas.{equal, same}
use Rattle.io_queues.specs.Ordered as queues
use Rattle.io_queues.proofs.FoundLemmas.{IsIn, apart_test}
use Rattle.io_streams.specs.declared.pending.PendingOp.{PendingOp}
use Rattle.io_streams.specs.Pending.{Entry, IsOnly, first_in, is_of, is_other, is_tried_in, number_of, op_of}
use Rattle.io_timers.specs.Kept.{Each}
use Rattle.io_scheduler.specs.Closing.{numbers_of}
use Rattle.io_scheduler.proofs.LeavingLemmas.{queue_other, queue_own, same_or}

none_is : {X : Type 0} (a : X) → None ≡ Some a → ⊥
none_is a is = cc

some_is : {X : Type 0} (a b : X) → Some a ≡ Some b → a ≡ b
some_is a b is = cc

abbrev pub on_it : {T : Type 0} → Name → List (Entry (PendingOp T)) → List (Entry (PendingOp T))
on_it name ops = filter (is_of name) ops

pub yes_on : {T : Type 0} (name : Name) (x : Entry (PendingOp T)) (xs : List (Entry (PendingOp T))) → is_of name x ≡ true →
    on_it name (x ∷ xs) ≡ x ∷ on_it name xs
yes_on name x xs is = ap (λ b. cond b (x ∷ on_it name xs) (on_it name xs)) is

pub no_on : {T : Type 0} (name : Name) (x : Entry (PendingOp T)) (xs : List (Entry (PendingOp T))) → is_of name x ≡ false →
    on_it name (x ∷ xs) ≡ on_it name xs
no_on name x xs is = ap (λ b. cond b (x ∷ on_it name xs) (on_it name xs)) is

-- ---- numbers that rise

abbrev pub Up : List ℕ → Type 0
Up [] = Unit {0}
Up (n ∷ numbers) = Each (λ m. n < m) numbers × Up numbers

up_above : {T : Type 0} (n : ℕ) (test : Entry (PendingOp T) → Bool) (xs : List (Entry (PendingOp T))) →
    queues.Each (λ other. n < op_of other.item) xs → Each (λ m. n < m) (numbers_of (filter test xs))
up_above n test [] all = tt
up_above n test (x ∷ xs) all = by_pass (test x) (up_above n test xs all.1)
  where
    by_pass : (b : Bool) → Each (λ m. n < m) (numbers_of (filter test xs)) →
        Each (λ m. n < m) (numbers_of (cond b (x ∷ filter test xs) (filter test xs)))
    by_pass true rest = (all.0, rest)
    by_pass false rest = rest

pub up_filter : {T : Type 0} (test : Entry (PendingOp T) → Bool) (xs : List (Entry (PendingOp T))) → queues.Rises op_of xs →
    Up (numbers_of (filter test xs))
up_filter test [] rises = tt
up_filter test (x ∷ xs) rises = by_pass (test x) (up_filter test xs rises.1)
  where
    by_pass : (b : Bool) → Up (numbers_of (filter test xs)) → Up (numbers_of (cond b (x ∷ filter test xs) (filter test xs)))
    by_pass true rest = (up_above (number_of x) test xs rises.0, rest)
    by_pass false rest = rest

pub each_apart : (n : ℕ) (numbers : List ℕ) → Each (λ m. n < m) numbers → Each (λ m. m ≡ n → ⊥) numbers
each_apart n [] all = tt
each_apart n (m ∷ numbers) all =
    (λ (is : m ≡ n). let less = all.0 in omega (arith, less, is), each_apart n numbers all.1)

pub off_all : (n : ℕ) (numbers : List ℕ) → Each (λ m. m ≡ n → ⊥) numbers → others_than n numbers ≡ numbers
off_all n [] all = refl
off_all n (m ∷ numbers) all =
    ap (λ b. cond (not b) (m ∷ others_than n numbers) (others_than n numbers)) (apart_test m n all.0)
    ∙ ap (λ l. m ∷ l) (off_all n numbers all.1)

-- one of them leaves
pub others_fewer : (n : ℕ) (numbers : List ℕ) → Up numbers → is_among numbers n ≡ true →
    length (others_than n numbers) + 1 ≡ length numbers
others_fewer n [] up is = absurd (true≢false (sym is))
others_fewer n (m ∷ numbers) up is =
    let left : Bool → List ℕ = λ b. cond (not b) (m ∷ others_than n numbers) (others_than n numbers) in
    by_test (m == n)
    (λ here.
    let rest = off_all n numbers (subst (λ k. Each (λ j. j ≡ k → ⊥) numbers) (equal m n here) (each_apart m numbers up.0)) in
    let long = ap (λ b. length (left b)) here ∙ ap length rest in
    omega (arith, long))
    (λ other.
    let rest = others_fewer n numbers up.1 (sym (ap (λ b. b || is_among numbers n) other) ∙ is) in
    let long = ap (λ b. length (left b)) other in
    omega (arith, rest, long))

pub first_stays : (n : ℕ) (queue : List ℕ) → is_first (slice_get queue 0) n ≡ false →
    slice_get (others_than n queue) 0 ≡ slice_get queue 0
first_stays n [] other = refl
first_stays n (m ∷ queue) other = ap (λ b. slice_get (cond (not b) (m ∷ others_than n queue) (others_than n queue)) 0) other

-- ---- those that pass a test

or_true : (b : Bool) → (b || true) ≡ true
or_true true = refl
or_true false = refl

pub in_among : {T : Type 0} (test : Entry (PendingOp T) → Bool) (w : Entry (PendingOp T)) (xs : List (Entry (PendingOp T))) →
    IsIn w xs → test w ≡ true → is_among (numbers_of (filter test xs)) (number_of w) ≡ true
in_among test w [] at passes = absurd at
in_among {T} test w (x ∷ xs) at passes =
    let parts : Bool → Bool = λ b. is_among (numbers_of (cond b (x ∷ filter test xs) (filter test xs))) (number_of w) in
    ⊎_elim
    (λ (here : w ≡ x).
    ap parts (ap test (sym here) ∙ passes)
    ∙ ap (λ (y : Entry (PendingOp T)). (number_of y == number_of w) || is_among (numbers_of (filter test xs)) (number_of w)) (sym here)
    ∙ ap (λ b. b || is_among (numbers_of (filter test xs)) (number_of w)) (same (number_of w)))
    (λ (later : IsIn w xs).
    let rest = in_among test w xs later passes in
    by_test (test x)
    (λ yes. ap parts yes ∙ ap (λ b. (number_of x == number_of w) || b) rest ∙ or_true (number_of x == number_of w))
    (λ no_more. ap parts no_more ∙ rest)) at

pub only_in : {T : Type 0} (name : Name) (w : Entry (PendingOp T)) (xs : List (Entry (PendingOp T))) → IsOnly name xs →
    IsIn w xs → (w.item.stream.place == name.place) ≡ is_of name w
only_in name w [] only at = absurd at
only_in {T} name w (x ∷ xs) only at =
    ⊎_elim
    (λ (here : w ≡ x). subst (λ (y : Entry (PendingOp T)). (y.item.stream.place == name.place) ≡ is_of name y) (sym here) only.0)
    (λ (later : IsIn w xs). only_in name w xs only.1 later) at

pub only_left : {T : Type 0} (name : Name) (n : ℕ) (xs : List (Entry (PendingOp T))) → IsOnly name xs →
    IsOnly name (filter (is_other n) xs)
only_left name n [] only = tt
only_left name n (x ∷ xs) only =
    by_test (x.item.op == n)
    (λ here.
    subst (IsOnly name) (sym (ap (λ b. cond (not b) (x ∷ filter (is_other n) xs) (filter (is_other n) xs)) here))
    (only_left name n xs only.1))
    (λ other.
    subst (IsOnly name) (sym (ap (λ b. cond (not b) (x ∷ filter (is_other n) xs) (filter (is_other n) xs)) other))
    (only.0, only_left name n xs only.1))

-- the first of a list, and the rest
pub record Cut {T : Type 0} (xs : List (Entry (PendingOp T))) (op : PendingOp T) : Type 0 where
  pub entry : Entry (PendingOp T)
  pub rest : List (Entry (PendingOp T))
  pub is : xs ≡ entry ∷ rest
  pub item : entry.item ≡ op

pub first_cut : {T : Type 0} (xs : List (Entry (PendingOp T))) (op : PendingOp T) → first_in xs ≡ Some op → Cut xs op
first_cut [] op is = absurd (none_is op is)
first_cut (x ∷ xs) op is = record { entry = x; rest = xs; is = refl; item = some_is x.item op is }

pub none_first : {T : Type 0} (xs : List (Entry (PendingOp T))) → first_in xs ≡ None → xs ≡ []
none_first [] none = refl
none_first (x ∷ xs) none = absurd (none_is x.item (sym none))

-- the first that passes
pub record Passes {T : Type 0} (test : Entry (PendingOp T) → Bool) (xs : List (Entry (PendingOp T))) (op : PendingOp T) :
    Type 0 where
  pub entry : Entry (PendingOp T)
  pub there : IsIn entry xs
  pub item : entry.item ≡ op
  pub passes : test entry ≡ true

pub first_passes : {T : Type 0} (test : Entry (PendingOp T) → Bool) (xs : List (Entry (PendingOp T))) (op : PendingOp T) →
    first_in (filter test xs) ≡ Some op → Passes test xs op
first_passes test [] op is = absurd (none_is op is)
first_passes test (x ∷ xs) op is =
    let parts : Bool → Option (PendingOp _) = λ b. first_in (cond b (x ∷ filter test xs) (filter test xs)) in
    by_test (test x)
    (λ yes. record {
      entry = x;
      there = inl refl;
      item = some_is x.item op (sym (ap parts yes) ∙ is);
      passes = yes;
    })
    (λ no_more.
    let rest = first_passes test xs op (sym (ap parts no_more) ∙ is) in
    record { entry = rest.entry; there = inr rest.there; item = rest.item; passes = rest.passes })

-- ---- of a stream

abbrev pub is_untried : {T : Type 0} → Name → StreamState → Entry (PendingOp T) → Bool
is_untried name stream x = is_of name x && not (is_tried_in stream x.item)

not_true : (b : Bool) → not b ≡ true → b ≡ false
not_true true is = absurd (true≢false (sym is))
not_true false is = refl

pub side_itself : (on : Side) → same_side on on ≡ true
side_itself side.Read = refl
side_itself side.Write = refl
side_itself side.Connect = refl

-- one of this stream for which no system call is under way
pub record IsUntried {T : Type 0} (name : Name) (stream : StreamState) (x : PendingOp T) : Type 0 where
  pub place : (x.stream.place == name.place) ≡ true
  pub untried : is_tried_in stream x ≡ false

pub untried_is : {T : Type 0} (name : Name) (stream : StreamState) (x : Entry (PendingOp T)) →
    is_untried name stream x ≡ true → IsUntried name stream x.item
untried_is name stream x is =
    let halves = both (is_of name x) (not (is_tried_in stream x.item)) is in
    record {
      place = (both (x.item.stream.place == name.place) (x.item.stream.generation == name.generation) halves.one).one;
      untried = not_true (is_tried_in stream x.item) halves.other;
    }

-- the one for which a system call is under way stays the first of its side where another one leaves
pub kept_first : (sd on : Side) (n : ℕ) (stream : StreamState) →
    (is_out_for sd stream.out && is_first (first_of sd stream) n) ≡ false → is_out_for on stream.out ≡ true →
    first_of on (with_queue sd (others_than n (queue_of sd stream)) stream) ≡ first_of on stream
kept_first sd on n stream untried out =
    let rest = others_than n (queue_of sd stream) in
    ⊎_elim (λ (isnt : sd ≡ on → ⊥). ap (λ q. slice_get q 0) (queue_other sd on rest stream isnt))
    (λ (is : sd ≡ on).
    let other : is_first (first_of sd stream) n ≡ false =
    sym (ap (λ b. b && is_first (first_of sd stream) n) (ap (λ o. is_out_for o stream.out) is ∙ out)) ∙ untried in
    subst (λ o. first_of o (with_queue sd rest stream) ≡ first_of o stream) is
    (ap (λ q. slice_get q 0) (queue_own sd rest stream) ∙ first_stays n (queue_of sd stream) other))
    (same_or sd on)
