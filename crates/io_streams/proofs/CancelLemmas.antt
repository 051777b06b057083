-- Which operation of a stream a cancellation comes to first.
use Rattle.std.proofs.Common.{◌≡◌, ◌≢◌, ℕ, ◌<◌, ◌≤◌, Bool, true, false, not, List, [], ◌∷◌, ◌++◌, get_or, map, ap, sym, refl, subst, ◌∙◌, ⊎_elim, inl, inr, arith}
use Rattle.std.specs.Prelude.{◌==◌, ◌&&◌, drop, filter, nat_lt, Option, Some, None, is_some, cond, slice_get, if◌then◌else◌}
use Rattle.std.proofs.lemmas.Bool.{cases_eq, ltb-false, ltb-true, true≢false}
use Rattle.io_rules.specs.declared.name.Name.{Name}
use Rattle.io_rules.specs.declared.operation.Side.{Side}
use Rattle.io_rules.specs.declared.operation.Side.TheVariants as side
use Rattle.io_rules.specs.Cancelling.{is_first, is_out_for}
use Rattle.io_rules.specs.Serving.{first_of}
use Rattle.io_rules.specs.State.{StreamState, stream_at}
use Rattle.io_rules.proofs.StrandLemmas.{by_test}
use Rattle.io_rules.proofs.TotalLemmas.{equal, same}
use Rattle.io_queues.specs.Ordered.{AreApart, Each, Rises, in_order}
use Rattle.io_queues.specs.Queued.{found_in, place_first}
use Rattle.io_queues.proofs.FoundLemmas.{IsIn, apart_test, each-in, in-found, in-queue, none_some, some_same}
use Rattle.io_queues.proofs.OrderLemmas.{each-both, each-in_order, each-weaker, filter-none, in_order-each}
use Rattle.io_streams.specs.declared.first.First.{First}
use Rattle.io_streams.specs.declared.pending.PendingOp.{PendingOp}
use Rattle.io_streams.specs.declared.stream.Stream.{Stream}
use Rattle.io_streams.specs.Kept.{IsOn, IsStreams, earlier_of, first_op, first_untried, queue_number, states_of, untried_at}
use Rattle.io_streams.specs.Pending.{Entry, IsOnly, first_in, is_at, is_of, is_tried_in, number_of, op_of, untried_on}
use Rattle.io_streams.proofs.KeptLemmas.{all_three, as_streams}
use Rattle.io_streams.proofs.LeftLemmas.{side_ops}
use Rattle.io_streams.proofs.StatesLemmas.{number_same, side_is}

-- ---- the least of some

-- of these it is the first that passes, none where none does
abbrev pub IsLeast : {T : Type 0} → (Entry (PendingOp T) → Bool) → List (Entry (PendingOp T)) →
    List (Entry (PendingOp T)) → Option First → Type 0
IsLeast p all xs None = Each (λ x. p x ≡ false) xs
IsLeast p all xs (Some first) =
    (w : Entry (PendingOp _)) × (IsIn w all) × (w.place ≡ first.place) × (number_of w ≡ first.op) × (p w ≡ true)
    × Each (λ x. p x ≡ true → first.op ≤ number_of x) xs

each-append : {X : Type 0} (P : X → Type 0) (xs ys : List X) → Each P xs → Each P ys → Each P (xs ++ ys)
each-append P [] ys one other = other
each-append P (x ∷ xs) ys one other = (one.0, each-append P xs ys one.1 other)

none_least : {T : Type 0} (p : Entry (PendingOp T) → Bool) (n : ℕ) (xs : List (Entry (PendingOp T))) →
    Each (λ x. p x ≡ false) xs → Each (λ x. p x ≡ true → n ≤ number_of x) xs
none_least p n xs none =
    each-weaker (λ x. p x ≡ false) (λ x. p x ≡ true → n ≤ number_of x) xs
    (λ x fail pass. absurd (true≢false (sym pass ∙ fail))) none

lower : {T : Type 0} (p : Entry (PendingOp T) → Bool) (n m : ℕ) (xs : List (Entry (PendingOp T))) → n ≤ m →
    Each (λ x. p x ≡ true → m ≤ number_of x) xs → Each (λ x. p x ≡ true → n ≤ number_of x) xs
lower p n m xs le all =
    each-weaker (λ x. p x ≡ true → m ≤ number_of x) (λ x. p x ≡ true → n ≤ number_of x) xs
    (λ x more pass. let last = more pass in omega (arith, le, last)) all

least_of : {T : Type 0} (p : Entry (PendingOp T) → Bool) (all xs ys : List (Entry (PendingOp T))) (a b : Option First) →
    IsLeast p all xs a → IsLeast p all ys b → IsLeast p all (xs ++ ys) (earlier_of a b)
least_of p all xs ys None None one other = each-append (λ x. p x ≡ false) xs ys one other
least_of p all xs ys None (Some b) one other = (
  other.0,
  other.1,
  other.2,
  other.3,
  other.4,
  each-append (λ x. p x ≡ true → b.op ≤ number_of x) xs ys (none_least p b.op xs one) other.5,
)
least_of p all xs ys (Some a) None one other = (
  one.0,
  one.1,
  one.2,
  one.3,
  one.4,
  each-append (λ x. p x ≡ true → a.op ≤ number_of x) xs ys one.5 (none_least p a.op ys other),
)
least_of p all xs ys (Some a) (Some b) one other =
    by_test (nat_lt b.op a.op)
    (λ is.
    let less = ltb-true b.op a.op is in
    let le : b.op ≤ a.op = omega (arith, less) in
    subst (IsLeast p all (xs ++ ys)) (sym (ap (λ t. if t then Some b else Some a) is)) (
      other.0,
      other.1,
      other.2,
      other.3,
      other.4,
      each-append (λ x. p x ≡ true → b.op ≤ number_of x) xs ys (lower p b.op a.op xs le one.5) other.5,
    ))
    (λ is.
    let le = ltb-false b.op a.op is in
    subst (IsLeast p all (xs ++ ys)) (sym (ap (λ t. if t then Some b else Some a) is)) (
      one.0,
      one.1,
      one.2,
      one.3,
      one.4,
      each-append (λ x. p x ≡ true → a.op ≤ number_of x) xs ys one.5 (lower p a.op b.op ys le other.5),
    ))

-- the first that passes, where all rise
first_least : {T : Type 0} (p : Entry (PendingOp T) → Bool) (w : Entry (PendingOp T)) (xs : List (Entry (PendingOp T))) →
    Rises op_of xs → IsIn w xs → p w ≡ true → Each (λ x. p x ≡ true → number_of w ≤ number_of x) xs →
    first_in (filter p xs) ≡ Some w.item
first_least p w [] rises there is least = absurd there
first_least p w (x ∷ xs) rises there is least = ⊎_elim
    (λ (e : w ≡ x).
    ap (λ b. first_in (cond b (x ∷ filter p xs) (filter p xs))) (subst (λ v. p v ≡ true) e is)
    ∙ ap (λ (v : Entry (PendingOp _)). Some v.item) (sym e))
    (λ (rest : IsIn w xs).
    let less = each-in (λ y. number_of x < number_of y) w xs rises.0 rest in
    by_test (p x)
    (λ pass. let le = least.0 pass in absurd (omega (arith, less, le)))
    (λ fail. ap (λ b. first_in (cond b (x ∷ filter p xs) (filter p xs))) fail
    ∙ first_least p w xs rises.1 rest is least.1))
    there

-- ---- one side

-- what stands behind the first, or all
abbrev pub rest_if : {X : Type 0} → Bool → List X → List X
rest_if out xs = if out then drop 1 xs else xs

-- the first of those that all pass
first_all : {T : Type 0} (p : Entry (PendingOp T) → Bool) (all xs : List (Entry (PendingOp T))) → Rises op_of xs →
    ((x : Entry (PendingOp T)) → IsIn x xs → IsIn x all) → Each (λ x. p x ≡ true) xs → IsLeast p all xs (first_op xs)
first_all p all [] rises inside pass = tt
first_all p all (x ∷ xs) rises inside pass = (
  x,
  inside x (inl refl),
  refl,
  refl,
  pass.0,
  (
    λ pass. omega arith,
    each-weaker (λ y. number_of x < number_of y) (λ y. p y ≡ true → number_of x ≤ number_of y) xs
        (λ y less pass. omega (arith, less)) rises.0,
  ),
)

least_more : {T : Type 0} (p : Entry (PendingOp T) → Bool) (all xs : List (Entry (PendingOp T))) (x : Entry (PendingOp T))
    (o : Option First) → p x ≡ false → IsLeast p all xs o → IsLeast p all (x ∷ xs) o
least_more p all xs x None fail least = (fail, least)
least_more p all xs x (Some first) fail least = (
  least.0,
  least.1,
  least.2,
  least.3,
  least.4,
  (λ pass. absurd (true≢false (sym pass ∙ fail)), least.5),
)

pub and_left : (a b : Bool) → (a && b) ≡ true → a ≡ true
and_left true b is = refl
and_left false b is = is

and_none : (b : Bool) → (b && false) ≡ false
and_none true = refl
and_none false = refl

-- it is of this stream, and of this side
abbrev IsHere : {T : Type 0} → Name → Side → Entry (PendingOp T) → Type 0
IsHere name s x = (is_of name x ≡ true) × (x.item.side ≡ s)

-- a cancellation comes to it
abbrev pub passes : {T : Type 0} → Name → StreamState → Entry (PendingOp T) → Bool
passes name st x = is_of name x && not (is_tried_in st x.item)

passes_by : {T : Type 0} (name : Name) (st : StreamState) (s : Side) (x : Entry (PendingOp T)) → IsHere name s x →
    (b : Bool) → (is_out_for s st.out && is_first (first_of s st) x.item.op) ≡ b → passes name st x ≡ not b
passes_by name st s x here b is =
    ap (λ t. t && not (is_tried_in st x.item)) here.0
    ∙ ap (λ u. not (is_out_for u st.out && is_first (first_of u st) x.item.op)) here.1
    ∙ ap not is

-- the rest of a side passes
side_rest : {T : Type 0} (name : Name) (st : StreamState) (s : Side) (all q : List (Entry (PendingOp T))) (out : Bool) →
    is_out_for s st.out ≡ out → first_of s st ≡ slice_get (map number_of q) 0 → Rises op_of q →
    ((x : Entry (PendingOp T)) → IsIn x q → IsIn x all) → Each (IsHere name s) q →
    IsLeast (passes name st) all q (first_op (rest_if out q))
side_rest name st s all q false out first rises inside here =
    first_all (passes name st) all q rises inside
    (each-weaker (IsHere name s) (λ x. passes name st x ≡ true) q
    (λ x at. passes_by name st s x at false (ap (λ b. b && is_first (first_of s st) x.item.op) out)) here)
side_rest name st s all [] true out first rises inside here = tt
side_rest name st s all (t ∷ q) true out first rises inside here =
    let tests : (x : Entry (PendingOp _)) → (is_out_for s st.out && is_first (first_of s st) x.item.op)
    ≡ (number_of t == number_of x) =
    λ x. ap (λ b. b && is_first (first_of s st) x.item.op) out ∙ ap (λ o. is_first o x.item.op) first in
    least_more (passes name st) all q t (first_op q)
    (passes_by name st s t here.0 true (tests t ∙ same (number_of t)))
    (first_all (passes name st) all q rises.1 (λ x there. inside x (inr there))
    (each-both (IsHere name s) (λ x. number_of t < number_of x) (λ x. passes name st x ≡ true) q
    (λ x at less. passes_by name st s x at false
    (tests x ∙ apart_test (number_of t) (number_of x) (λ e. omega (arith, less, e)))) here.1 rises.0))

only_here : {T : Type 0} (name : Name) (xs : List (Entry (PendingOp T))) → IsOnly name xs →
    Each (λ x. x.item.stream.place ≡ name.place → is_of name x ≡ true) xs
only_here name [] only = tt
only_here name (x ∷ xs) only = (
  λ at. sym only.0 ∙ ap (λ n. n == name.place) at ∙ same name.place,
  only_here name xs only.1,
)

none_of : (place k : ℕ) → k ≢ queue_number place side.Read → k ≢ queue_number place side.Write →
    k ≢ queue_number place side.Connect → (s : Side) → k ≢ queue_number place s
none_of place k r w c side.Read = r
none_of place k r w c side.Write = w
none_of place k r w c side.Connect = c

each-left : {X : Type 0} (P : X → Type 0) (xs ys : List X) → Each P (xs ++ ys) → Each P xs
each-left P [] ys all = tt
each-left P (x ∷ xs) ys all = (all.0, each-left P xs ys all.1)

each-right : {X : Type 0} (P : X → Type 0) (xs ys : List X) → Each P (xs ++ ys) → Each P ys
each-right P [] ys all = all
each-right P (x ∷ xs) ys all = each-right P xs ys all.1

pub in-filter : {X : Type 0} (p : Entry X → Bool) (w : Entry X) (xs : List (Entry X)) → IsIn w (filter p xs) → IsIn w xs
in-filter p w [] there = there
in-filter p w (x ∷ xs) there =
    by_test (p x)
    (λ is. ⊎_elim (λ (e : w ≡ x). inl e) (λ (rest : IsIn w (filter p xs)). inr (in-filter p w xs rest))
    (subst (λ b. IsIn w (cond b (x ∷ filter p xs) (filter p xs))) is there))
    (λ is. inr (in-filter p w xs (subst (λ b. IsIn w (cond b (x ∷ filter p xs) (filter p xs))) is there)))

in-rest : {X : Type 0} (b : Bool) (w : Entry X) (xs : List (Entry X)) → IsIn w (if b then drop 1 xs else xs) → IsIn w xs
in-rest false w xs there = there
in-rest true w [] there = there
in-rest true w (x ∷ xs) there = inr there

first_of_rest : {T : Type 0} (all xs : List (Entry (PendingOp T))) (o : Option ℕ) → AreApart all →
    ((w : Entry (PendingOp T)) → IsIn w xs → IsIn w all) → o ≡ place_first xs →
    ((place : ℕ) → o ≡ Some place → (op : PendingOp T) → found_in place all ≡ Some op →
    Some (record { op = op.op; place = place }) ≡ first_op xs)
first_of_rest all [] o apart inside is = λ place some op found. absurd (none_some place (sym is ∙ some))
first_of_rest all (x ∷ xs) o apart inside is = λ place some op found.
    let at : x.place ≡ place = some_same x.place place (sym is ∙ some) in
    let it : x.item ≡ op = some_same x.item op
    (sym (in-found x all apart (inside x (inl refl))) ∙ ap (λ p. found_in p all) at ∙ found) in
    ap (λ p. Some (record { op = op.op; place = p })) (sym at)
    ∙ ap (λ (v : PendingOp _). Some (record { op = v.op; place = x.place })) (sym it)

module _ {T : Type 0} (ss : List Stream) (qs : List (List (Entry (PendingOp T)))) (kept : IsStreams ss qs)
    (name : Name) (room : ℕ) where
  -- the operations of a side that aren't tried
  rest_is : (s : Side) → untried_at name s (as_streams ss qs room)
      ≡ rest_if (is_out_for s (stream_at (states_of ss qs) name).out) (get_or qs (queue_number name.place s) [])
  rest_is s =
      ap (λ q. if is_out_for s (stream_at (states_of ss qs) name).out then drop 1 q else q)
      (side_ops ss qs kept name.place s)

  pub untried_first : (s : Side) (o : Option ℕ) → o ≡ place_first (untried_at name s (as_streams ss qs room)) →
      (place : ℕ) → o ≡ Some place → (op : PendingOp T) → found_in place (in_order op_of qs) ≡ Some op →
      Some (record { op = op.op; place = place }) ≡ first_op (untried_at name s (as_streams ss qs room))
  untried_first s o is =
      first_of_rest (in_order op_of qs) (untried_at name s (as_streams ss qs room)) o kept.apart
      (λ w there. in-filter (is_at name.place s) w (in_order op_of qs)
      (in-rest (is_out_for s (stream_at (states_of ss qs) name).out) w
      (filter (is_at name.place s) (in_order op_of qs)) there)) is

  pub untried_there : (s : Side) (place : ℕ) → Some place ≡ place_first (untried_at name s (as_streams ss qs room)) →
      is_some (found_in place (in_order op_of qs)) ≡ true
  untried_there s place is =
      by_first (untried_at name s (as_streams ss qs room))
      (λ w there. in-filter (is_at name.place s) w (in_order op_of qs)
      (in-rest (is_out_for s (stream_at (states_of ss qs) name).out) w
      (filter (is_at name.place s) (in_order op_of qs)) there)) is
    where
      by_first : (xs : List (Entry (PendingOp T))) → ((w : Entry (PendingOp T)) → IsIn w xs → IsIn w (in_order op_of qs)) →
          Some place ≡ place_first xs → is_some (found_in place (in_order op_of qs)) ≡ true
      by_first [] inside is = absurd (cc)
      by_first (x ∷ xs) inside is =
          ap (λ p. is_some (found_in p (in_order op_of qs))) (some_same place x.place is)
          ∙ ap is_some (in-found x (in_order op_of qs) kept.apart (inside x (inl refl)))

  pub untried_out : (s : Side) (b : Bool) → b ≡ is_out_for s (stream_at (states_of ss qs) name).out →
      (o : Option ℕ) → o ≡ place_first (rest_if b (get_or qs (queue_number name.place s) [])) →
      o ≡ place_first (untried_at name s (as_streams ss qs room))
  untried_out s b out o is =
      is ∙ ap (λ t. place_first (rest_if t (get_or qs (queue_number name.place s) []))) out ∙ ap place_first (sym (rest_is s))

  module _ (only : IsOnly name (in_order op_of qs)) where
    here : (s : Side) → Each (IsHere name s) (get_or qs (queue_number name.place s) [])
    here s =
        each-both (IsOn (queue_number name.place s)) (λ x. x.item.stream.place ≡ name.place → is_of name x ≡ true)
        (IsHere name s) (get_or qs (queue_number name.place s) [])
        (λ x on of. let both = number_same x.item.stream.place name.place x.item.side s on in (of both.0, both.1))
        (kept.own (queue_number name.place s))
        (in_order-each op_of (λ x. x.item.stream.place ≡ name.place → is_of name x ≡ true) qs (queue_number name.place s)
        (only_here name (in_order op_of qs) only))

    side_least : (s : Side) →
        IsLeast (passes name (stream_at (states_of ss qs) name)) (in_order op_of qs)
        (get_or qs (queue_number name.place s) []) (first_op (untried_at name s (as_streams ss qs room)))
    side_least s =
        subst (λ l. IsLeast (passes name (stream_at (states_of ss qs) name)) (in_order op_of qs)
        (get_or qs (queue_number name.place s) []) (first_op l)) (sym (rest_is s))
        (side_rest name (stream_at (states_of ss qs) name) s (in_order op_of qs)
        (get_or qs (queue_number name.place s) []) (is_out_for s (stream_at (states_of ss qs) name).out) refl
        (ap (λ l. slice_get l 0) (side_is ss qs name.place s (all_three ss qs kept)))
        (kept.each_rises (queue_number name.place s))
        (λ x there. in-queue op_of x qs (queue_number name.place s) there) (here s))

    three_least :
        IsLeast (passes name (stream_at (states_of ss qs) name)) (in_order op_of qs)
        ((get_or qs (queue_number name.place side.Read) [] ++ get_or qs (queue_number name.place side.Write) [])
        ++ get_or qs (queue_number name.place side.Connect) []) (first_untried name (as_streams ss qs room))
    three_least =
        least_of (passes name (stream_at (states_of ss qs) name)) (in_order op_of qs)
        (get_or qs (queue_number name.place side.Read) [] ++ get_or qs (queue_number name.place side.Write) [])
        (get_or qs (queue_number name.place side.Connect) []) _ _
        (least_of (passes name (stream_at (states_of ss qs) name)) (in_order op_of qs)
        (get_or qs (queue_number name.place side.Read) []) (get_or qs (queue_number name.place side.Write) []) _ _
        (side_least side.Read) (side_least side.Write)) (side_least side.Connect)

    -- an operation of another stream
    elsewhere : (k : ℕ) → ((s : Side) → k ≢ queue_number name.place s) → (x : Entry (PendingOp T)) → IsOn k x →
        passes name (stream_at (states_of ss qs) name) x ≡ false
    elsewhere k others x on =
        by_test (passes name (stream_at (states_of ss qs) name) x)
        (λ pass.
        let of = and_left (is_of name x) (not (is_tried_in (stream_at (states_of ss qs) name) x.item)) pass in
        let at = equal x.item.stream.place name.place
        (and_left (x.item.stream.place == name.place) (x.item.stream.generation == name.generation) of) in
        absurd (others x.item.side (sym on ∙ ap (λ n. queue_number n x.item.side) at)))
        (λ fail. fail)

    -- what holds of those of all three sides holds of all
    all_sides : (P : Entry (PendingOp T) → Type 0) →
        ((x : Entry (PendingOp T)) → passes name (stream_at (states_of ss qs) name) x ≡ false → P x) →
        Each P ((get_or qs (queue_number name.place side.Read) [] ++ get_or qs (queue_number name.place side.Write) [])
        ++ get_or qs (queue_number name.place side.Connect) []) → Each P (in_order op_of qs)
    all_sides P fails all =
        let r : List (Entry (PendingOp T)) = get_or qs (queue_number name.place side.Read) [] in
        let w : List (Entry (PendingOp T)) = get_or qs (queue_number name.place side.Write) [] in
        let c : List (Entry (PendingOp T)) = get_or qs (queue_number name.place side.Connect) [] in
        let front = each-left P (r ++ w) c all in
        each-in_order op_of P qs (λ k. ⊎_elim
        (λ (e : k ≡ queue_number name.place side.Read).
        subst (λ n. Each P (get_or qs n [])) (sym e) (each-left P r w front))
        (λ (nr : k ≢ queue_number name.place side.Read). ⊎_elim
        (λ (e : k ≡ queue_number name.place side.Write).
        subst (λ n. Each P (get_or qs n [])) (sym e) (each-right P r w front))
        (λ (nw : k ≢ queue_number name.place side.Write). ⊎_elim
        (λ (e : k ≡ queue_number name.place side.Connect).
        subst (λ n. Each P (get_or qs n [])) (sym e) (each-right P (r ++ w) c all))
        (λ (nc : k ≢ queue_number name.place side.Connect).
        each-weaker (IsOn k) P (get_or qs k [])
        (λ x on. fails x (elsewhere k (none_of name.place k nr nw nc) x on)) (kept.own k))
        (cases_eq k (queue_number name.place side.Connect)))
        (cases_eq k (queue_number name.place side.Write)))
        (cases_eq k (queue_number name.place side.Read)))

    untried_is : (o : Option First) → o ≡ first_untried name (as_streams ss qs room) →
        IsLeast (passes name (stream_at (states_of ss qs) name)) (in_order op_of qs) (in_order op_of qs) o
    untried_is None is =
        all_sides (λ x. passes name (stream_at (states_of ss qs) name) x ≡ false) (λ x fail. fail)
        (subst (IsLeast (passes name (stream_at (states_of ss qs) name)) (in_order op_of qs)
        ((get_or qs (queue_number name.place side.Read) [] ++ get_or qs (queue_number name.place side.Write) [])
        ++ get_or qs (queue_number name.place side.Connect) [])) (sym is) three_least)
    untried_is (Some first) is =
        let least : IsLeast (passes name (stream_at (states_of ss qs) name)) (in_order op_of qs)
        ((get_or qs (queue_number name.place side.Read) [] ++ get_or qs (queue_number name.place side.Write) [])
        ++ get_or qs (queue_number name.place side.Connect) []) (Some first) =
        subst (IsLeast (passes name (stream_at (states_of ss qs) name)) (in_order op_of qs)
        ((get_or qs (queue_number name.place side.Read) [] ++ get_or qs (queue_number name.place side.Write) [])
        ++ get_or qs (queue_number name.place side.Connect) [])) (sym is) three_least in (
          least.0,
          least.1,
          least.2,
          least.3,
          least.4,
          all_sides (λ x. passes name (stream_at (states_of ss qs) name) x ≡ true → first.op ≤ number_of x)
              (λ x fail pass. absurd (true≢false (sym pass ∙ fail))) least.5,
        )

    -- what the first of all sides is
    untried_some : (first : First) → Some first ≡ first_untried name (as_streams ss qs room) →
        (w : Entry (PendingOp T)) × (found_in first.place (in_order op_of qs) ≡ Some w.item)
        × (first_in (untried_on name (as_streams ss qs room)) ≡ Some w.item)
    untried_some first is =
        let least = untried_is (Some first) is in (
          least.0,
          subst (λ p. found_in p (in_order op_of qs) ≡ Some least.0.item) least.2
              (in-found least.0 (in_order op_of qs) kept.apart least.1),
          first_least (passes name (stream_at (states_of ss qs) name)) least.0 (in_order op_of qs) kept.rises least.1
              least.4
              (subst (λ n. Each (λ x. passes name (stream_at (states_of ss qs) name) x ≡ true → n ≤ number_of x)
              (in_order op_of qs)) (sym least.3) least.5),
        )

    pub cancel_there : (first : First) → Some first ≡ first_untried name (as_streams ss qs room) →
        is_some (found_in first.place (in_order op_of qs)) ≡ true
    cancel_there first is = ap is_some (untried_some first is).1

    pub cancel_first : (first : First) → Some first ≡ first_untried name (as_streams ss qs room) →
        (op : PendingOp T) → found_in first.place (in_order op_of qs) ≡ Some op →
        first_in (untried_on name (as_streams ss qs room)) ≡ Some op
    cancel_first first is op found =
        let some = untried_some first is in
        some.2 ∙ ap (λ (v : PendingOp T). Some v) (some_same some.0.item op (sym some.1 ∙ found))

    pub cancel_none : None ≡ first_untried name (as_streams ss qs room) →
        first_in (untried_on name (as_streams ss qs room)) ≡ None
    cancel_none is =
        ap first_in
        (filter-none (passes name (stream_at (states_of ss qs) name)) (in_order op_of qs) (untried_is None is))
