-- An operation of a stream leaves its side: what is pending then.
use Rattle.std.proofs.Common.{arith, ap, inl, inr, refl, subst, sym, ◌∙◌, ⊎_elim}
use Rattle.std.proofs.lemmas.Bool.{cases_lt, true≢false}
use Rattle.std.proofs.lemmas.List.{get_or_past, length-set}
use Rattle.std.specs.Prelude.{◌≡◌, ◌<◌, ◌≤◌, ◌^◌, ◌⊎◌, ℕ, ◌+◌, ◌==◌, cond, not, Bool, true, false, List, [], ◌∷◌, Some, None, length, map, slice_get, if◌then◌else◌}
use Rattle.std.specs.List.{filter, slice_index_or}
use Rattle.io_rules.specs.declared.limits.Limits.{Limits}
use Rattle.io_rules.specs.declared.name.Name.{Name}
use Rattle.io_rules.specs.declared.op.Op.{Op}
use Rattle.io_rules.specs.declared.op.Phase.{Phase}
use Rattle.io_rules.specs.declared.operation.Operation.{Operation}
use Rattle.io_rules.specs.declared.operation.Operation.TheVariants as operation
use Rattle.io_rules.specs.declared.operation.Side.{Side}
use Rattle.io_rules.specs.declared.operation.Side.TheVariants as side
use Rattle.io_rules.specs.declared.request.Marks.{Marks}
use Rattle.io_rules.specs.Cancelling.{is_first, is_out_for, queue_of}
use Rattle.io_rules.specs.Changes.{is_out}
use Rattle.io_rules.specs.Completing.{others_than, search_left, side_left, streams_left}
use Rattle.io_rules.specs.Operations.{at}
use Rattle.io_rules.specs.Ops.{with_phase}
use Rattle.io_rules.specs.Room.{one_if}
use Rattle.io_rules.specs.Serving.{first_of, served_on, stays, with_queue}
use Rattle.io_rules.specs.State.{ContextState, StreamState, new_stream, stream_at, with_stream}
use Rattle.io_rules.proofs.StrandLemmas.{by_test}
use Rattle.io_rules.proofs.TotalLemmas.{apart, equal, same}
use Rattle.io_history.proofs.AtLemmas.{at-changed}
use Rattle.io_queues.specs.Ordered.{Each, Rises}
use Rattle.io_queues.proofs.FoundLemmas.{apart_test}
use Rattle.io_queues.proofs.OrderLemmas.{each-weaker, filter-all}
use Rattle.io_streams.specs.declared.pending.PendingOp.{PendingOp}
use Rattle.io_streams.specs.Kept.{IsWhole}
use Rattle.io_streams.specs.Pending.{Entry, IsHead, StreamList, is_at, is_other, number_of, numbered_in, op_of, without_op}
use Rattle.io_scheduler.specs.declared.streaming.Streaming.{Streaming}
use Rattle.io_scheduler.specs.Settling.{ShowsPending, StillBut}
use Rattle.io_scheduler.specs.Streaming.{on_sides, on_streams, out_in}
use Rattle.io_scheduler.specs.Streams.{AreStreaming, IsPlain, IsStill}
use Rattle.io_scheduler.proofs.LeftStreamsLemmas.{fewer_ops}
use Rattle.io_scheduler.proofs.PlacedLemmas.{at_with, plain_with, sum_same, sum_with}

some_is : {X : Type 0} (a b : X) → Some a ≡ Some b → a ≡ b
some_is a b is = cc

none_is : {X : Type 0} (a : X) → None ≡ Some a → ⊥
none_is a is = cc

-- ---- what settles an operation with no system call is told by four things

abbrev of_parts : Bool → List ℕ → ℕ → ℕ → StreamState
of_parts linked connects held searched =
    record new_stream { linked = linked; connects = connects; held = held; searched = searched }

on_parts : (stream : StreamState) (moved : ℕ) (cancelled : Bool) (kind : Operation) →
    served_on stream moved cancelled kind
    ≡ served_on (of_parts stream.linked stream.connects stream.held stream.searched) moved cancelled kind
on_parts stream moved cancelled operation.Post = refl
on_parts stream moved cancelled operation.Defer = refl
on_parts stream moved cancelled operation.Dispatch = refl
on_parts stream moved cancelled (operation.Wait timer) = refl
on_parts stream moved cancelled (operation.ReadSome name size) = refl
on_parts stream moved cancelled (operation.ReadAll name size) = refl
on_parts stream moved cancelled (operation.ReadUntil name max) = refl
on_parts stream moved cancelled (operation.WriteSome name size) = refl
on_parts stream moved cancelled (operation.WriteAll name size) = refl
on_parts stream moved cancelled (operation.Accept listener) = refl
on_parts stream moved cancelled (operation.Connect name) = refl

pub record GivesAlike (a b : StreamState) : Type 0 where
  pub linked : a.linked ≡ b.linked
  pub connects : a.connects ≡ b.connects
  pub held : a.held ≡ b.held
  pub searched : a.searched ≡ b.searched

pub on_alike : (a b : StreamState) (moved : ℕ) (cancelled : Bool) (kind : Operation) → GivesAlike a b →
    served_on a moved cancelled kind ≡ served_on b moved cancelled kind
on_alike a b moved cancelled kind alike =
    on_parts a moved cancelled kind
    ∙ ap (λ l. served_on (of_parts l a.connects a.held a.searched) moved cancelled kind) alike.linked
    ∙ ap (λ c. served_on (of_parts b.linked c a.held a.searched) moved cancelled kind) alike.connects
    ∙ ap (λ h. served_on (of_parts b.linked b.connects h a.searched) moved cancelled kind) alike.held
    ∙ ap (λ s. served_on (of_parts b.linked b.connects b.held s) moved cancelled kind) alike.searched
    ∙ sym (on_parts b moved cancelled kind)

pub still_alike : {H : Type 0} (a b : StreamState) (item : Streaming H) → GivesAlike a b → IsStill a item → IsStill b item
still_alike a b item alike is =
    sym (on_alike a b item.moved item.cancelled item.kind alike) ∙ is ∙ ap (stays item.moved item.cancelled) alike.held

-- ---- the side that it leaves

search_plain : (sd : Side) (n : ℕ) (stream : StreamState) → stream.searched ≡ 0 → search_left sd n stream ≡ stream
search_plain side.Write n stream none = refl
search_plain side.Connect n stream none = refl
search_plain side.Read n stream none = by_first (is_first (first_of side.Read stream) n)
  where
    by_first : (b : Bool) → (if b then record stream { searched = 0 } else stream) ≡ stream
    by_first true = ap (λ k. record stream { searched = k }) (sym none)
    by_first false = refl

pub left_is : (sd : Side) (n : ℕ) (stream : StreamState) → stream.searched ≡ 0 →
    side_left sd n stream ≡ with_queue sd (others_than n (queue_of sd stream)) stream
left_is sd n stream none = ap (with_queue sd (others_than n (queue_of sd stream))) (search_plain sd n stream none)

fewer_on : (sd : Side) (rest : List ℕ) (stream : StreamState) → length rest + 1 ≡ length (queue_of sd stream) →
    on_sides (with_queue sd rest stream) + 1 ≡ on_sides stream
fewer_on side.Read rest stream many = omega (arith, many)
fewer_on side.Write rest stream many = omega (arith, many)
fewer_on side.Connect rest stream many = omega (arith, many)

-- a side's numbers rise
pub above_rest : {T : Type 0} (test : Entry (PendingOp T) → Bool) (n : ℕ) (rest : List ℕ) (xs : List (Entry (PendingOp T))) →
    Rises op_of xs → map number_of (filter test xs) ≡ n ∷ rest → Each (λ m. n < m) rest
above_rest test n rest [] rises is = absurd (nothing n rest is)
  where
    nothing : (n : ℕ) (rest : List ℕ) → [] ≡ n ∷ rest → ⊥
    nothing n rest is = cc
above_rest {T = T} test n rest (x ∷ xs) rises is =
    by_test (test x)
    (λ yes.
    let parts = sym (ap (λ b. map number_of (cond b (x ∷ filter test xs) (filter test xs))) yes) ∙ is in
    subst (Each (λ m. n < m)) (tail_is (number_of x) n (map number_of (filter test xs)) rest parts)
    (subst (λ k. Each (λ m. k < m) (map number_of (filter test xs)))
    (head_is (number_of x) n (map number_of (filter test xs)) rest parts) (above xs rises.0)))
    (λ no_more.
    above_rest test n rest xs rises.1
    (sym (ap (λ b. map number_of (cond b (x ∷ filter test xs) (filter test xs))) no_more) ∙ is))
  where
    head_is : (a b : ℕ) (xs ys : List ℕ) → a ∷ xs ≡ b ∷ ys → a ≡ b
    head_is a b xs ys is = cc

    tail_is : (a b : ℕ) (xs ys : List ℕ) → a ∷ xs ≡ b ∷ ys → xs ≡ ys
    tail_is a b xs ys is = cc

    above : (ys : List (Entry (PendingOp T))) → Each (λ other. op_of x.item < op_of other.item) ys →
        Each (λ m. number_of x < m) (map number_of (filter test ys))
    above [] all = tt
    above (y ∷ ys) all =
        by_test (test y)
        (λ yes.
        subst (λ l. Each (λ m. number_of x < m) (map number_of l)) (sym (ap (λ b. cond b (y ∷ filter test ys) (filter test ys)) yes))
        (all.0, above ys all.1))
        (λ no_more.
        subst (λ l. Each (λ m. number_of x < m) (map number_of l))
        (sym (ap (λ b. cond b (y ∷ filter test ys) (filter test ys)) no_more)) (above ys all.1))

-- ---- the first of a side leaves

pub record FirstLeaves (stream : StreamState) (sd : Side) (n : ℕ) : Type 0 where
  pub rest : List ℕ
  pub queue : queue_of sd stream ≡ n ∷ rest
  pub left : side_left sd n stream ≡ with_queue sd rest stream

pub first_rest : (queue : List ℕ) (n : ℕ) → slice_get queue 0 ≡ Some n → (rest : List ℕ) × (queue ≡ n ∷ rest)
first_rest [] n is = absurd (none_is n is)
first_rest (x ∷ queue) n is = (queue, ap (λ k. k ∷ queue) (some_is x n is))

pub first_leaves : {T : Type 0} (streams : StreamList T) (name : Name) (sd : Side) (n : ℕ) → IsWhole streams →
    IsPlain (stream_at streams.streams name) → first_of sd (stream_at streams.streams name) ≡ Some n →
    FirstLeaves (stream_at streams.streams name) sd n
first_leaves streams name sd n whole plain first =
    let stream = stream_at streams.streams name in
    let cut = first_rest (queue_of sd stream) n first in
    let rest = cut.0 in
    let more : Each (λ m. n < m) rest =
    above_rest (is_at name.place sd) n rest streams.ops whole.rises (sym (whole.sides name sd) ∙ cut.1) in
    let others : filter (λ k. not (k == n)) rest ≡ rest =
    filter-all (λ k. not (k == n)) rest
    (each-weaker (λ m. n < m) (λ m. not (m == n) ≡ true) rest
    (λ m less. ap not (apart_test m n (λ e. omega (arith, less, e)))) more) in
    record {
      rest = rest;
      queue = cut.1;
      left =
          left_is sd n stream plain.searched
          ∙ ap (λ q. with_queue sd q stream)
          (ap (others_than n) cut.1 ∙ ap (λ b. cond (not b) (n ∷ others_than n rest) (others_than n rest)) (same n) ∙ others);
    }

-- it is there
pub first_within : (streams : List StreamState) (name : Name) (sd : Side) (n : ℕ) →
    first_of sd (stream_at streams name) ≡ Some n → name.place < length streams
first_within streams name sd n first =
    ⊎_elim (λ (lt : name.place < length streams). lt)
    (λ (le : length streams ≤ name.place).
    absurd (none_is n (sym (nothing sd) ∙ ap (first_of sd) (sym (get_or_past streams name.place new_stream le)) ∙ first)))
    (cases_lt name.place (length streams))
  where
    nothing : (sd : Side) → first_of sd new_stream ≡ None
    nothing side.Read = refl
    nothing side.Write = refl
    nothing side.Connect = refl

-- ---- the others stay

pub others_streaming : {H : Type 0} (marks : H → Marks) (ops : List Op) (n : ℕ) (p : Phase)
    (xs : List (Entry (PendingOp (Streaming H)))) → AreStreaming marks ops xs →
    AreStreaming marks (with_phase n p ops) (filter (is_other n) xs)
others_streaming marks ops n p [] all = tt
others_streaming marks ops n p (x ∷ xs) all =
    by_test (x.item.op == n)
    (λ here.
    subst (AreStreaming marks (with_phase n p ops))
    (sym (ap (λ b. cond (not b) (x ∷ filter (is_other n) xs) (filter (is_other n) xs)) here))
    (others_streaming marks ops n p xs all.1))
    (λ other.
    let it = all.0 in
    subst (AreStreaming marks (with_phase n p ops))
    (sym (ap (λ b. cond (not b) (x ∷ filter (is_other n) xs) (filter (is_other n) xs)) other)) (
      record {
        op = it.op;
        is = at-changed n x.item.op (λ o. p) ops it.op (λ (here : n ≡ x.item.op). absurd (apart x.item.op n other here)) it.is;
        lane = it.lane;
        binding = it.binding;
        kind = it.kind;
        target = it.target;
        given = it.given;
        phase = it.phase;
      },
      others_streaming marks ops n p xs all.1,
    ))

-- what is found among the others was there before
pub numbered_before : {T : Type 0} (n k : ℕ) (it : PendingOp T) (xs : List (Entry (PendingOp T))) →
    numbered_in k (filter (is_other n) xs) ≡ Some it → numbered_in k xs ≡ Some it
numbered_before n k it [] is = is
numbered_before {T = T} n k it (x ∷ xs) is =
    by_test (x.item.op == n)
    (λ gone.
    let rest = sym (ap (λ b. numbered_in k (cond (not b) (x ∷ filter (is_other n) xs) (filter (is_other n) xs))) gone) ∙ is in
    by_test (x.item.op == k)
    (λ this.
    absurd (none_is it (sym (none_numbered xs (sym (equal x.item.op n gone) ∙ equal x.item.op k this)) ∙ rest)))
    (λ other. ap (λ b. cond b (Some x.item) (numbered_in k xs)) other ∙ numbered_before n k it xs rest))
    (λ kept.
    let rest = sym (ap (λ b. numbered_in k (cond (not b) (x ∷ filter (is_other n) xs) (filter (is_other n) xs))) kept) ∙ is in
    by_test (x.item.op == k)
    (λ this.
    ap (λ b. cond b (Some x.item) (numbered_in k xs)) this
    ∙ sym (ap (λ b. cond b (Some x.item) (numbered_in k (filter (is_other n) xs))) this) ∙ rest)
    (λ other.
    ap (λ b. cond b (Some x.item) (numbered_in k xs)) other
    ∙ numbered_before n k it xs (sym (ap (λ b. cond b (Some x.item) (numbered_in k (filter (is_other n) xs))) other) ∙ rest)))
  where
    none_numbered : (ys : List (Entry (PendingOp T))) → n ≡ k → numbered_in k (filter (is_other n) ys) ≡ None
    none_numbered [] at = refl
    none_numbered (y ∷ ys) at =
        by_test (y.item.op == n)
        (λ gone.
        ap (λ b. numbered_in k (cond (not b) (y ∷ filter (is_other n) ys) (filter (is_other n) ys))) gone ∙ none_numbered ys at)
        (λ kept.
        ap (λ b. numbered_in k (cond (not b) (y ∷ filter (is_other n) ys) (filter (is_other n) ys))) kept
        ∙ ap (λ b. cond b (Some y.item) (numbered_in k (filter (is_other n) ys)))
        (apart_test y.item.op k (λ e. apart y.item.op n kept (at ∙ sym e)))
        ∙ none_numbered ys at)

-- ---- what it leaves of the stream

plain_queue : (sd : Side) (rest : List ℕ) (stream : StreamState) → length rest + 1 ≡ length (queue_of sd stream) →
    IsPlain stream → IsPlain (with_queue sd rest stream)
plain_queue side.Read rest stream many plain =
    record { held = plain.held; searched = plain.searched; connects = plain.connects }
plain_queue side.Write rest stream many plain =
    record { held = plain.held; searched = plain.searched; connects = plain.connects }
plain_queue side.Connect rest stream many plain = let none = ap length plain.connects in absurd (omega (arith, many, none))

pub alike_queue : (sd : Side) (rest : List ℕ) (stream : StreamState) → length rest + 1 ≡ length (queue_of sd stream) →
    IsPlain stream → GivesAlike stream (with_queue sd rest stream)
alike_queue side.Read rest stream many plain = record { linked = refl; connects = refl; held = refl; searched = refl }
alike_queue side.Write rest stream many plain = record { linked = refl; connects = refl; held = refl; searched = refl }
alike_queue side.Connect rest stream many plain = let none = ap length plain.connects in absurd (omega (arith, many, none))

pub out_queue : (sd : Side) (rest : List ℕ) (stream : StreamState) → (with_queue sd rest stream).out ≡ stream.out
out_queue side.Read rest stream = refl
out_queue side.Write rest stream = refl
out_queue side.Connect rest stream = refl

pub queue_other : (sd on : Side) (rest : List ℕ) (stream : StreamState) → (sd ≡ on → ⊥) →
    queue_of on (with_queue sd rest stream) ≡ queue_of on stream
queue_other side.Read side.Read rest stream other = absurd (other refl)
queue_other side.Read side.Write rest stream other = refl
queue_other side.Read side.Connect rest stream other = refl
queue_other side.Write side.Read rest stream other = refl
queue_other side.Write side.Write rest stream other = absurd (other refl)
queue_other side.Write side.Connect rest stream other = refl
queue_other side.Connect side.Read rest stream other = refl
queue_other side.Connect side.Write rest stream other = refl
queue_other side.Connect side.Connect rest stream other = absurd (other refl)

pub queue_own : (sd : Side) (rest : List ℕ) (stream : StreamState) → queue_of sd (with_queue sd rest stream) ≡ rest
queue_own side.Read rest stream = refl
queue_own side.Write rest stream = refl
queue_own side.Connect rest stream = refl

read_write : side.Read ≡ side.Write → ⊥
read_write is = cc

read_connect : side.Read ≡ side.Connect → ⊥
read_connect is = cc

write_connect : side.Write ≡ side.Connect → ⊥
write_connect is = cc

pub same_or : (a b : Side) → (a ≡ b → ⊥) ⊎ (a ≡ b)
same_or side.Read side.Read = inr refl
same_or side.Read side.Write = inl (λ is. read_write is)
same_or side.Read side.Connect = inl (λ is. read_connect is)
same_or side.Write side.Read = inl (λ is. read_write (sym is))
same_or side.Write side.Write = inr refl
same_or side.Write side.Connect = inl (λ is. write_connect is)
same_or side.Connect side.Read = inl (λ is. read_connect (sym is))
same_or side.Connect side.Write = inl (λ is. write_connect (sym is))
same_or side.Connect side.Connect = inr refl

-- ---- all of it

-- an operation leaves its side, on which others may stay before it
pub record LeavesSide {T : Type 0} (name : Name) (sd : Side) (streams : StreamList T) (op : PendingOp T) : Type 0 where
  pub numbered : numbered_in op.op streams.ops ≡ Some op
  pub place : op.stream.place ≡ name.place
  pub on : op.side ≡ sd
  pub within : name.place < length streams.streams
  pub rest : List ℕ
  pub fewer : length rest + 1 ≡ length (queue_of sd (stream_at streams.streams name))
  pub left : side_left sd op.op (stream_at streams.streams name) ≡ with_queue sd rest (stream_at streams.streams name)

module _ {H : Type 0} (marks : H → Marks) (limits : Limits) (streams : StreamList (Streaming H)) (v : ContextState)
    (name : Name) (sd : Side) (op : PendingOp (Streaming H)) (pending : ShowsPending marks limits streams v)
    (whole : IsWhole streams) (leaves : LeavesSide name sd streams op) where
  abbrev stream : StreamState
  stream = stream_at streams.streams name

  abbrev now : StreamState
  now = with_queue sd leaves.rest stream

  plain : IsPlain stream
  plain = subst (λ xs. IsPlain (stream_at xs name)) (sym pending.streams_are) (pending.plain name)

  -- the operation's own target is this side
  abbrev left_streams : List StreamState → List StreamState
  left_streams xs = streams_left op.op (at op.stream op.side) xs

  pub side_is : left_streams streams.streams ≡ with_stream name now streams.streams
  side_is =
      ap (λ on. streams_left op.op (at op.stream on) streams.streams) leaves.on
      ∙ ap (λ k. with_stream (record { place = k; generation = op.stream.generation })
      (side_left sd op.op (stream_at streams.streams (record { place = k; generation = op.stream.generation }))) streams.streams)
      leaves.place
      ∙ ap (λ new. with_stream name new streams.streams) leaves.left

  pub side_fewer : on_streams (left_streams streams.streams) + 1 ≡ on_streams streams.streams
  side_fewer =
      let sum = sum_with on_sides streams.streams name now leaves.within in
      let less = fewer_on sd leaves.rest stream leaves.fewer in
      let is = ap on_streams side_is in
      omega (arith, sum, less, is)

  pub side_at : stream_at (left_streams streams.streams) name ≡ now
  side_at =
      ap (λ xs. stream_at xs name) side_is
      ∙ at_with (λ st. st ≡ now) streams.streams name now leaves.within name (λ here. refl) (λ other. absurd (other refl))

  pub side_out : (stream_at (left_streams v.streams) name).out ≡ (stream_at v.streams name).out
  side_out =
      ap (λ xs. (stream_at (left_streams xs) name).out) (sym pending.streams_are)
      ∙ ap (λ (st : StreamState). st.out) side_at ∙ out_queue sd leaves.rest stream
      ∙ ap (λ xs. (stream_at xs name).out) pending.streams_are

  pub side_out_same : out_in (left_streams v.streams) ≡ out_in v.streams
  side_out_same =
      ap (λ xs. out_in (left_streams xs)) (sym pending.streams_are)
      ∙ ap out_in side_is
      ∙ sum_same (λ (st : StreamState). one_if (is_out st.out)) streams.streams name now leaves.within
      (ap (λ o. one_if (is_out o)) (out_queue sd leaves.rest stream))
      ∙ ap out_in pending.streams_are

  busy_at : (other : Name) (on : Side) → is_out_for on (stream_at streams.streams other).out ≡ true →
      first_of on (stream_at streams.streams other) ≡ None → ⊥
  busy_at other on =
      subst (λ xs. is_out_for on (stream_at xs other).out ≡ true → first_of on (stream_at xs other) ≡ None → ⊥)
      (sym pending.streams_are) (pending.busy other on)

  busy_left : (is_out_for sd stream.out ≡ true → slice_get leaves.rest 0 ≡ None → ⊥) → (other : Name) (on : Side) →
      is_out_for on (stream_at (with_stream name now streams.streams) other).out ≡ true →
      first_of on (stream_at (with_stream name now streams.streams) other) ≡ None → ⊥
  busy_left first other on =
      at_with (λ st. is_out_for on st.out ≡ true → first_of on st ≡ None → ⊥) streams.streams name now leaves.within other
      (λ here out none.
      ⊎_elim
      (λ (isnt : sd ≡ on → ⊥).
      busy_at name on (ap (is_out_for on) (sym (out_queue sd leaves.rest stream)) ∙ out)
      (ap (λ q. slice_get q 0) (sym (queue_other sd on leaves.rest stream isnt)) ∙ none))
      (λ (is : sd ≡ on).
      first
      (ap (λ o. is_out_for o stream.out) is ∙ ap (is_out_for on) (sym (out_queue sd leaves.rest stream)) ∙ out)
      (ap (λ q. slice_get q 0) (sym (queue_own sd leaves.rest stream)) ∙ ap (λ o. first_of o now) is ∙ none))
      (same_or sd on))
      (λ elsewhere. busy_at other on)

  pub side_pending : (is_out_for sd stream.out ≡ true → slice_get leaves.rest 0 ≡ None → ⊥) → (p : Phase) → (new : ContextState) →
      new.ops ≡ with_phase op.op p v.ops → new.streams ≡ left_streams v.streams → new.names ≡ v.names →
      ShowsPending marks limits (without_op op streams) new
  side_pending first p new ops states names =
      let less = fewer_ops op.op op streams.ops whole.rises leaves.numbered in
      let now_on = side_fewer in let all = pending.all in let room = pending.room in
      let here = ap (λ xs. on_streams (left_streams xs)) pending.streams_are in
      let there = ap on_streams states in let before = ap on_streams pending.streams_are in
      let long = ap length states ∙ length-set v.streams op.stream.place _ in
      record {
        streams_are = ap left_streams pending.streams_are ∙ sym states;
        places = long ∙ pending.places ∙ sym (ap (λ ns. length ns.streams) names);
        few = subst (λ n. n < 2 ^ 32) (sym long) pending.few;
        each = subst (λ os. AreStreaming marks os (without_op op streams).ops) (sym ops)
            (others_streaming marks v.ops op.op p streams.ops pending.each);
        all = omega (arith, less, now_on, all, here, there, before);
        room = omega (arith, less, room);
        plain = λ other.
            subst (λ xs. IsPlain (stream_at xs other)) (sym side_is ∙ ap left_streams pending.streams_are ∙ sym states)
            (plain_with streams.streams name now leaves.within (plain_queue sd leaves.rest stream leaves.fewer plain)
            (λ any. subst (λ xs. IsPlain (stream_at xs any)) (sym pending.streams_are) (pending.plain any)) other);
        busy = λ other on.
            subst (λ xs. is_out_for on (stream_at xs other).out ≡ true → first_of on (stream_at xs other) ≡ None → ⊥)
            (sym side_is ∙ ap left_streams pending.streams_are ∙ sym states) (busy_left first other on);
      }

  -- where the first of a side is as it was, it still waits
  pub side_still : (other : Name) (on : Side) (x : PendingOp (Streaming H)) → IsHead other on (without_op op streams) x →
      (name.place ≡ other.place → first_of on now ≡ first_of on stream) →
      (IsHead other on streams x → IsStill (stream_at streams.streams other) x.item) →
      IsStill (stream_at (without_op op streams).streams other) x.item
  side_still other on x it kept still =
      let was : IsHead other on streams x =
      record {
        first =
            sym (at_with (λ st. first_of on st ≡ first_of on (stream_at streams.streams other)) streams.streams name now
            leaves.within other
            (λ here. kept here ∙ ap (λ k. first_of on (slice_index_or streams.streams k new_stream)) here)
            (λ elsewhere. refl))
            ∙ ap (λ xs. first_of on (stream_at xs other)) (sym side_is) ∙ it.first;
        numbered = numbered_before op.op x.op x streams.ops it.numbered;
        place = it.place;
        on = it.on;
      } in
      subst (λ xs. IsStill (stream_at xs other) x.item) (sym side_is)
      (still_alike (stream_at streams.streams other) (stream_at (with_stream name now streams.streams) other) x.item
      (at_with (GivesAlike (stream_at streams.streams other)) streams.streams name now leaves.within other
      (λ here.
      subst (λ k. GivesAlike (slice_index_or streams.streams k new_stream) now) here
      (alike_queue sd leaves.rest stream leaves.fewer plain))
      (λ elsewhere. record { linked = refl; connects = refl; held = refl; searched = refl }))
      (still was))

-- likewise the first of a side
module _ {H : Type 0} (marks : H → Marks) (limits : Limits) (streams : StreamList (Streaming H)) (v : ContextState)
    (name : Name) (sd : Side) (op : PendingOp (Streaming H)) (pending : ShowsPending marks limits streams v)
    (whole : IsWhole streams) (head : IsHead name sd streams op) where
  abbrev state_now : StreamState
  state_now = stream_at streams.streams name

  pub cut : FirstLeaves state_now sd op.op
  cut =
      first_leaves streams name sd op.op whole
      (subst (λ xs. IsPlain (stream_at xs name)) (sym pending.streams_are) (pending.plain name)) head.first

  abbrev head_leaves : LeavesSide name sd streams op
  head_leaves = record {
    numbered = head.numbered;
    place = head.place;
    on = head.on;
    within = first_within streams.streams name sd op.op head.first;
    rest = cut.rest;
    fewer = let long = ap length cut.queue in omega (arith, long);
    left = cut.left;
  }

  pub new_is : streams_left op.op (at op.stream op.side) streams.streams
      ≡ with_stream name (with_queue sd cut.rest state_now) streams.streams
  new_is = side_is marks limits streams v name sd op pending whole head_leaves

  pub fewer_now : on_streams (streams_left op.op (at op.stream op.side) streams.streams) + 1 ≡ on_streams streams.streams
  fewer_now = side_fewer marks limits streams v name sd op pending whole head_leaves

  pub out_left : (stream_at (streams_left op.op (at op.stream op.side) v.streams) name).out ≡ (stream_at v.streams name).out
  out_left = side_out marks limits streams v name sd op pending whole head_leaves

  pub out_same : out_in (streams_left op.op (at op.stream op.side) v.streams) ≡ out_in v.streams
  out_same = side_out_same marks limits streams v name sd op pending whole head_leaves

  pub pending_left : is_out_for sd (stream_at v.streams name).out ≡ false → (p : Phase) → (new : ContextState) →
      new.ops ≡ with_phase op.op p v.ops → new.streams ≡ streams_left op.op (at op.stream op.side) v.streams →
      new.names ≡ v.names → ShowsPending marks limits (without_op op streams) new
  pending_left back =
      side_pending marks limits streams v name sd op pending whole head_leaves
      (λ out none.
      true≢false (sym out ∙ ap (λ xs. is_out_for sd (stream_at xs name).out) pending.streams_are ∙ back))

  pub still_left : StillBut name sd streams → StillBut name sd (without_op op streams)
  still_left still other on x it apart_from =
      side_still marks limits streams v name sd op pending whole head_leaves other on x it
      (λ here. ap (λ q. slice_get q 0) (queue_other sd on cut.rest state_now (apart_from here)))
      (λ was. still other on x was apart_from)
