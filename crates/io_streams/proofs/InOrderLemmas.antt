-- A cancellation comes to the operations of a stream in order of acceptance.
use Rattle.std.proofs.Common.{◌≡◌, ◌≢◌, ℕ, ◌<◌, Bool, true, false, not, List, [], ◌∷◌, length, get_or, set, ap, sym, refl, subst, ◌∙◌, ⊎_elim, inl, inr, arith}
use Rattle.std.specs.Prelude.{◌==◌, ◌&&◌, ◌⊎◌, cond, drop, filter, Some, slice_get, if◌then◌else◌}
use Rattle.std.proofs.lemmas.Bool.{true≢false}
use Rattle.std.proofs.lemmas.List.{get_or-set_same}
use Rattle.io_rules.specs.declared.name.Name.{Name}
use Rattle.io_rules.specs.declared.operation.Side.{Side}
use Rattle.io_rules.specs.declared.operation.Side.TheVariants as side
use Rattle.io_rules.specs.Cancelling.{is_first, is_out_for, queue_of}
use Rattle.io_rules.specs.Completing.{others_than, side_left, streams_left}
use Rattle.io_rules.specs.Operations.{at}
use Rattle.io_rules.specs.Serving.{first_of}
use Rattle.io_rules.specs.State.{StreamState, new_stream, stream_at}
use Rattle.io_rules.proofs.StrandLemmas.{by_test}
use Rattle.io_rules.proofs.TotalLemmas.{equal, same}
use Rattle.io_queues.specs.Ordered.{Each, Rises}
use Rattle.io_queues.proofs.FoundLemmas.{IsIn, apart_test, each-in, none_some, some_same}
use Rattle.io_queues.proofs.OrderLemmas.{each-weaker, filter-all, filter-same}
use Rattle.io_streams.specs.declared.pending.PendingOp.{PendingOp}
use Rattle.io_streams.specs.Kept.{IsWhole}
use Rattle.io_streams.specs.Pending.{Entry, StreamList, first_in, is_of, is_other, is_tried_in, number_of, op_of, untried_on, without_op}
use Rattle.io_streams.proofs.CancelLemmas.{and_left, in-filter, passes}

-- one that leaves lets the other sides be
other_side : (s t : Side) (op : ℕ) (st : StreamState) → s ≢ t → queue_of t (side_left s op st) ≡ queue_of t st
other_side side.Read side.Read op st ne = absurd (ne refl)
other_side side.Read side.Write op st ne = by_head (is_first (first_of side.Read st) op)
  where
    by_head : (b : Bool) → (if b then record st { searched = 0 } else st).writes ≡ st.writes
    by_head true = refl
    by_head false = refl
other_side side.Read side.Connect op st ne = by_head (is_first (first_of side.Read st) op)
  where
    by_head : (b : Bool) → (if b then record st { searched = 0 } else st).connects ≡ st.connects
    by_head true = refl
    by_head false = refl
other_side side.Write side.Read op st ne = refl
other_side side.Write side.Write op st ne = absurd (ne refl)
other_side side.Write side.Connect op st ne = refl
other_side side.Connect side.Read op st ne = refl
other_side side.Connect side.Write op st ne = refl
other_side side.Connect side.Connect op st ne = absurd (ne refl)

own_side : (s : Side) (op : ℕ) (st : StreamState) → queue_of s (side_left s op st) ≡ others_than op (queue_of s st)
own_side side.Read op st = refl
own_side side.Write op st = refl
own_side side.Connect op st = refl

out_stays : (s : Side) (op : ℕ) (st : StreamState) → (side_left s op st).out ≡ st.out
out_stays side.Write op st = refl
out_stays side.Connect op st = refl
out_stays side.Read op st = by_head (is_first (first_of side.Read st) op)
  where
    by_head : (b : Bool) → (if b then record st { searched = 0 } else st).out ≡ st.out
    by_head true = refl
    by_head false = refl

-- the first stays the first where another one leaves
first_stays : (op : ℕ) (q : List ℕ) → is_first (slice_get q 0) op ≡ false →
    slice_get (others_than op q) 0 ≡ slice_get q 0
first_stays op [] other = refl
first_stays op (n ∷ q) other = ap (λ b. slice_get (cond (not b) (n ∷ others_than op q) (others_than op q)) 0) other

sides_tell : (s t : Side) → (s ≡ t → ⊥) ⊎ (s ≡ t)
sides_tell side.Read side.Read = inr refl
sides_tell side.Read side.Write = inl (λ e. absurd (cc))
sides_tell side.Read side.Connect = inl (λ e. absurd (cc))
sides_tell side.Write side.Read = inl (λ e. absurd (cc))
sides_tell side.Write side.Write = inr refl
sides_tell side.Write side.Connect = inl (λ e. absurd (cc))
sides_tell side.Connect side.Read = inl (λ e. absurd (cc))
sides_tell side.Connect side.Write = inl (λ e. absurd (cc))
sides_tell side.Connect side.Connect = inr refl

-- which system call is under way stays, where an operation leaves that has none
tried_stays : {T : Type 0} (st : StreamState) (op : PendingOp T) → is_tried_in st op ≡ false → (x : PendingOp T) →
    is_tried_in (side_left op.side op.op st) x ≡ is_tried_in st x
tried_stays st op none x =
    ap (λ o. is_out_for x.side o && is_first (first_of x.side (side_left op.side op.op st)) x.op)
    (out_stays op.side op.op st)
    ∙ by_test (is_out_for x.side st.out)
    (λ out. ⊎_elim
    (λ (ne : op.side ≡ x.side → ⊥).
    ap (λ q. is_out_for x.side st.out && is_first (slice_get q 0) x.op) (other_side op.side x.side op.op st ne))
    (λ (e : op.side ≡ x.side).
    let at : (is_out_for x.side st.out && is_first (first_of x.side st) op.op) ≡ false =
    subst (λ s. (is_out_for s st.out && is_first (first_of s st) op.op) ≡ false) e none in
    let other : is_first (first_of x.side st) op.op ≡ false =
    sym (ap (λ b. b && is_first (first_of x.side st) op.op) out) ∙ at in
    ap (λ q. is_out_for x.side st.out && is_first (slice_get q 0) x.op)
    (subst (λ s. queue_of s (side_left op.side op.op st) ≡ others_than op.op (queue_of s st)) e (own_side op.side op.op st))
    ∙ ap (λ o. is_out_for x.side st.out && is_first o x.op) (first_stays op.op (queue_of x.side st) other))
    (sides_tell op.side x.side))
    (λ out.
    ap (λ b. b && is_first (first_of x.side (side_left op.side op.op st)) x.op) out
    ∙ sym (ap (λ b. b && is_first (first_of x.side st) x.op) out))

-- the first that passes, as an entry
first_entry : {T : Type 0} (xs : List (Entry (PendingOp T))) (op : PendingOp T) → first_in xs ≡ Some op →
    (w : Entry (PendingOp T)) × (IsIn w xs) × (w.item ≡ op)
first_entry [] op is = absurd (none_some op is)
first_entry (x ∷ xs) op is = (x, inl refl, some_same x.item op is)

-- without the first that passes the others that pass are left
rest_passes : {T : Type 0} (p : Entry (PendingOp T) → Bool) (xs : List (Entry (PendingOp T))) (op : PendingOp T) →
    Rises op_of xs → first_in (filter p xs) ≡ Some op →
    filter p (filter (is_other op.op) xs) ≡ drop 1 (filter p xs)
rest_passes p [] op rises is = absurd (none_some op is)
rest_passes p (x ∷ xs) op rises is =
    by_test (p x)
    (λ pass.
    let at : x.item ≡ op = some_same x.item op
    (sym (ap (λ b. first_in (cond b (x ∷ filter p xs) (filter p xs))) pass) ∙ is) in
    let numbers : number_of x ≡ op.op = ap (λ (v : PendingOp _). v.op) at in
    let others : filter (is_other op.op) xs ≡ xs =
    filter-all (is_other op.op) xs
    (each-weaker (λ y. number_of x < number_of y) (λ y. is_other op.op y ≡ true) xs
    (λ y less. ap not (apart_test (number_of y) op.op (λ e. omega (arith, less, e, numbers)))) rises.0) in
    let here : (number_of x == op.op) ≡ true = ap (λ n. n == op.op) numbers ∙ same op.op in
    ap (λ b. filter p (cond (not b) (x ∷ filter (is_other op.op) xs) (filter (is_other op.op) xs))) here
    ∙ ap (filter p) others
    ∙ sym (ap (λ b. drop 1 (cond b (x ∷ filter p xs) (filter p xs))) pass))
    (λ fail.
    let later : first_in (filter p xs) ≡ Some op =
    sym (ap (λ b. first_in (cond b (x ∷ filter p xs) (filter p xs))) fail) ∙ is in
    let first = first_entry (filter p xs) op later in
    let less = each-in (λ y. number_of x < number_of y) first.0 xs rises.0 (in-filter p first.0 xs first.1) in
    let numbers : number_of first.0 ≡ op.op = ap (λ (v : PendingOp _). v.op) first.2 in
    ap (λ b. filter p (cond (not b) (x ∷ filter (is_other op.op) xs) (filter (is_other op.op) xs)))
    (apart_test (number_of x) op.op (λ e. omega (arith, less, numbers, e)))
    ∙ ap (λ b. cond b (x ∷ filter p (filter (is_other op.op) xs)) (filter p (filter (is_other op.op) xs))) fail
    ∙ rest_passes p xs op rises.1 later
    ∙ sym (ap (λ b. drop 1 (cond b (x ∷ filter p xs) (filter p xs))) fail))

passes_first : {T : Type 0} (p : Entry (PendingOp T) → Bool) (xs : List (Entry (PendingOp T))) (op : PendingOp T) →
    first_in (filter p xs) ≡ Some op → (w : Entry (PendingOp T)) × (IsIn w xs) × (w.item ≡ op) × (p w ≡ true)
passes_first p [] op is = absurd (none_some op is)
passes_first p (x ∷ xs) op is =
    by_test (p x)
    (λ pass. (
      x,
      inl refl,
      some_same x.item op (sym (ap (λ b. first_in (cond b (x ∷ filter p xs) (filter p xs))) pass) ∙ is),
      pass,
    ))
    (λ fail.
    let rest = passes_first p xs op (sym (ap (λ b. first_in (cond b (x ∷ filter p xs) (filter p xs))) fail) ∙ is) in
    (rest.0, inr rest.1, rest.2, rest.3))

and_right : (a b : Bool) → (a && b) ≡ true → b ≡ true
and_right true b is = is
and_right false b is = absurd (true≢false (sym is))

not_true : (b : Bool) → not b ≡ true → b ≡ false
not_true true is = absurd (true≢false (sym is))
not_true false is = refl

pub cancelled_in_order : {T : Type 0} (name : Name) (s : StreamList T) (op : PendingOp T) → IsWhole s →
    first_in (untried_on name s) ≡ Some op →
    untried_on name (without_op op s) ≡ drop 1 (untried_on name s)
cancelled_in_order name s op whole is =
    let st : StreamState = stream_at s.streams name in
    let first = passes_first (passes name st) s.ops op is in
    let of : is_of name first.0 ≡ true = and_left (is_of name first.0) (not (is_tried_in st first.0.item)) first.3 in
    let place : first.0.item.stream.place ≡ name.place = equal first.0.item.stream.place name.place
    (and_left (first.0.item.stream.place == name.place) (first.0.item.stream.generation == name.generation) of) in
    let on : op.stream.place ≡ name.place =
    subst (λ (v : PendingOp _). v.stream.place ≡ name.place) first.2 place in
    let none : is_tried_in st op ≡ false = subst (λ (v : PendingOp _). is_tried_in st v ≡ false) first.2
    (not_true (is_tried_in st first.0.item) (and_right (is_of name first.0) (not (is_tried_in st first.0.item)) first.3)) in
    let within : op.stream.place < length s.streams =
    subst (λ (v : PendingOp _). v.stream.place < length s.streams) first.2
    (each-in (λ x. x.item.stream.place < length s.streams) first.0 s.ops whole.within first.1) in
    let left : stream_at (streams_left op.op (at op.stream op.side) s.streams) name ≡ side_left op.side op.op st =
    subst (λ p. get_or (set s.streams op.stream.place (side_left op.side op.op (get_or s.streams op.stream.place new_stream)))
    p new_stream ≡ side_left op.side op.op (get_or s.streams p new_stream)) on
    (get_or-set_same s.streams op.stream.place (side_left op.side op.op (get_or s.streams op.stream.place new_stream))
    new_stream within) in
    filter-same (passes name (stream_at (streams_left op.op (at op.stream op.side) s.streams) name)) (passes name st)
    (filter (is_other op.op) s.ops)
    (each_all (λ x.
    ap (λ u. is_of name x && not (is_tried_in u x.item)) left
    ∙ ap (λ b. is_of name x && not b) (tried_stays st op none x.item)) (filter (is_other op.op) s.ops))
    ∙ rest_passes (passes name st) s.ops op whole.rises is
  where
    each_all : {X : Type 0} {P : X → Type 0} → ((x : X) → P x) → (xs : List X) → Each P xs
    each_all all [] = tt
    each_all all (x ∷ xs) = (all x, each_all all xs)
