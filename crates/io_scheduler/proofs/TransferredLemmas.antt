-- An operation on a stream is initiated, and is pending then: what is kept shows the state behind its call.
use Rattle.std.proofs.Common.{arith, ap, inl, inr, refl, subst, sym, ◌∙◌, ⊎_elim}
use Rattle.std.proofs.lemmas.List.{append-nil, get_or-set_other, get_or-set_same, length-set, length_push}
use Rattle.std.proofs.lemmas.List.Sums.{sum_by-set}
use Rattle.std.specs.Bool.{OnFalse, OnTrue}
use Rattle.std.specs.Global.{Vec}
use Rattle.std.specs.List.{slice_index_or}
use Rattle.std.specs.Prelude.{◌≡◌, ◌^◌, ◌<◌, ◌⊎◌, ℕ, ◌+◌, ◌==◌, cond, Bool, true, false, List, [], ◌∷◌, ◌++◌, Option, Some, None, length, slice_get}
use Rattle.io_rules.specs.declared.limits.Limits.{Limits}
use Rattle.io_rules.specs.declared.name.Lane.{Lane}
use Rattle.io_rules.specs.declared.name.Name.{Name}
use Rattle.io_rules.specs.declared.op.Op.{Op}
use Rattle.io_rules.specs.declared.operation.Operation.{Operation}
use Rattle.io_rules.specs.declared.operation.Side.{Side}
use Rattle.io_rules.specs.declared.operation.Side.TheVariants as side
use Rattle.io_rules.specs.declared.request.Gone.TheVariants as gone
use Rattle.io_rules.specs.declared.request.Marks.{Marks}
use Rattle.io_rules.specs.Calls.{streams_called}
use Rattle.io_rules.specs.Cancelling.{is_out_for, queue_of}
use Rattle.io_rules.specs.Operations.{Target, target_of}
use Rattle.io_rules.specs.Room.{one_if}
use Rattle.io_rules.specs.Serving.{first_of, is_none_of, served_on, stays, with_queue}
use Rattle.io_rules.specs.State.{ContextState, StreamState, new_stream, stream_at}
use Rattle.io_rules.proofs.StrandLemmas.{by_test}
use Rattle.io_rules.proofs.TotalLemmas.{apart, equal, sum_by-total, total-push}
use Rattle.io_history.proofs.AtLemmas.{at-push}
use Rattle.io_queues.specs.Ordered.{Each}
use Rattle.io_streams.specs.declared.pending.PendingOp.{PendingOp}
use Rattle.io_streams.specs.Pending.{Entry, IsHead, StreamList, number_of, numbered_in, with_op}
use Rattle.io_timers.specs.declared.pending.PendingWait.{PendingWait}
use Rattle.io_timers.specs.Pending as timers
use Rattle.io_timers.specs.Pending.{Timers}
use Rattle.io_scheduler.specs.declared.streaming.Streaming.{Streaming}
use Rattle.io_scheduler.specs.declared.waiting.Waiting.{Waiting}
use Rattle.io_scheduler.specs.Shown.{AreBelow}
use Rattle.io_scheduler.specs.Streaming.{on_sides, on_streams}
use Rattle.io_scheduler.specs.Streams.{AreStreaming, IsPlain, IsStill, IsStreamingAs, ShowsStreams}
use Rattle.io_scheduler.specs.Transferred.{is_transfer, settled_at_once, settled_now, settled_on, stream_for}
use Rattle.io_scheduler.specs.Waits.{ArePending, ShowsWaits, is_incomplete}
use Rattle.io_scheduler.proofs.AcceptedLemmas.{accepted_with, pending_op}
use Rattle.io_scheduler.proofs.ReadyLemmas.{at_below, at_new}
use Rattle.io_scheduler.proofs.TransferLemmas.{Empty, FirstIs, Other, first_push, held_with, out_with, plain_with, queue_with, served_alike, stays_now, way_of}

some_is : {X : Type 0} (x y : X) → Some x ≡ Some y → x ≡ y
some_is x y is = cc

none_is : {X : Type 0} (x : X) → None ≡ Some x → ⊥
none_is x is = cc

-- the operation with a number
pub streaming_at : {H : Type 0} (marks : H → Marks) (ops : List Op) (n : ℕ) (it : PendingOp (Streaming H))
    (pending : List (Entry (PendingOp (Streaming H)))) → numbered_in n pending ≡ Some it → AreStreaming marks ops pending →
    IsStreamingAs marks ops it
streaming_at marks ops n it [] is all = absurd (none_is it is)
streaming_at marks ops n it (x ∷ pending) is all =
    by_test (x.item.op == n)
    (λ here.
    subst (IsStreamingAs marks ops)
    (some_is x.item it (sym (ap (λ b. cond b (Some x.item) (numbered_in n pending)) here) ∙ is)) all.0)
    (λ other.
    streaming_at marks ops n it pending (sym (ap (λ b. cond b (Some x.item) (numbered_in n pending)) other) ∙ is) all.1)

pub below_streams : {H : Type 0} (marks : H → Marks) (next : ℕ) (ops : List Op)
    (pending : List (Entry (PendingOp (Streaming H)))) → AreBelow next ops → AreStreaming marks ops pending →
    Each (λ it. number_of it < next) pending
below_streams marks next ops [] below all = tt
below_streams marks next ops (x ∷ pending) below all =
    (at_below next x.item.op ops all.0.op below all.0.is, below_streams marks next ops pending below all.1)

-- what is first on a side
no_first : (q : List ℕ) → slice_get q 0 ≡ None → q ≡ []
no_first [] none = refl
no_first (x ∷ q) none = absurd (none_is x (sym none))

pub first_is : {H : Type 0} (marks : H → Marks) (limits : Limits) (streams : StreamList (Streaming H)) (s : ContextState)
    (kind : Operation) (t : Target) (first : Bool) → target_of kind ≡ Some t → ShowsStreams marks limits streams s →
    OnTrue first (first_of t.side (stream_at streams.streams t.stream) ≡ None) →
    OnFalse first ((op : PendingOp (Streaming H)) × IsHead t.stream t.side streams op) →
    settled_at_once s kind ≡ None → FirstIs s t kind
first_is marks limits streams s kind t true at shows empty head none =
    let stream = stream_at s.streams t.stream in
    let empty_here : queue_of t.side stream ≡ [] =
    no_first (queue_of t.side stream)
    (ap (λ xs. first_of t.side (stream_at xs t.stream)) (sym shows.streams_are) ∙ empty) in
    Empty empty_here
    (ap (λ q. cond (is_none_of q) (settled_now stream.linked kind) None) (sym empty_here)
    ∙ sym (ap (λ o. settled_on (stream_for s o) o kind) at) ∙ none)
first_is marks limits streams s kind t false at shows empty head none =
    let it = head.0 in
    let is = streaming_at marks s.ops it.op it streams.ops head.1.numbered shows.each in
    Other it.op (ap (λ xs. first_of t.side (stream_at xs t.stream)) (sym shows.streams_are) ∙ head.1.first)
    (record {
      op = is.op;
      is = is.is;
      moved = it.item.moved;
      cancelled = it.item.cancelled;
      pending = is.phase;
      gets = subst
          (λ xs. served_on (stream_at xs t.stream) it.item.moved it.item.cancelled is.op.kind
          ≡ stays it.item.moved it.item.cancelled (stream_at xs t.stream).held) shows.streams_are
          (ap (served_on (stream_at streams.streams t.stream) it.item.moved it.item.cancelled) is.kind
          ∙ shows.heads t.stream t.side it head.1);
    })

-- ---- one more on a side

pub sides_longer : (on : Side) (n : ℕ) (stream : StreamState) →
    on_sides (with_queue on (queue_of on stream ++ n ∷ []) stream) ≡ on_sides stream + 1
sides_longer side.Read n stream = let more = length_push stream.reads n in omega (arith, more)
sides_longer side.Write n stream = let more = length_push stream.writes n in omega (arith, more)
sides_longer side.Connect n stream = let more = length_push stream.connects n in omega (arith, more)

pop_first : (q : List ℕ) (n m : ℕ) → (m ≡ n → ⊥) → slice_get (q ++ n ∷ []) 0 ≡ Some m → slice_get q 0 ≡ Some m
pop_first [] n m other is = absurd (other (sym (some_is n m is)))
pop_first (x ∷ q) n m other is = is

first_before : (on of : Side) (n m : ℕ) (stream : StreamState) → (m ≡ n → ⊥) →
    first_of of (with_queue on (queue_of on stream ++ n ∷ []) stream) ≡ Some m → first_of of stream ≡ Some m
first_before side.Read side.Read n m stream other is = pop_first stream.reads n m other is
first_before side.Write side.Write n m stream other is = pop_first stream.writes n m other is
first_before side.Connect side.Connect n m stream other is = pop_first stream.connects n m other is
first_before side.Read side.Write n m stream other is = is
first_before side.Read side.Connect n m stream other is = is
first_before side.Write side.Read n m stream other is = is
first_before side.Write side.Connect n m stream other is = is
first_before side.Connect side.Read n m stream other is = is
first_before side.Connect side.Write n m stream other is = is

none_push : (q : List ℕ) (n : ℕ) → slice_get (q ++ n ∷ []) 0 ≡ None → slice_get q 0 ≡ None
none_push [] n none = refl
none_push (x ∷ q) n none = none

none_before : (on of : Side) (n : ℕ) (stream : StreamState) →
    first_of of (with_queue on (queue_of on stream ++ n ∷ []) stream) ≡ None → first_of of stream ≡ None
none_before side.Read side.Read n stream none = none_push stream.reads n none
none_before side.Write side.Write n stream none = none_push stream.writes n none
none_before side.Connect side.Connect n stream none = none_push stream.connects n none
none_before side.Read side.Write n stream none = none
none_before side.Read side.Connect n stream none = none
none_before side.Write side.Read n stream none = none
none_before side.Write side.Connect n stream none = none
none_before side.Connect side.Read n stream none = none
none_before side.Connect side.Write n stream none = none

streaming_push : {H : Type 0} (marks : H → Marks) (ops : List Op) (it : Op)
    (pending : List (Entry (PendingOp (Streaming H)))) (new : Entry (PendingOp (Streaming H))) →
    AreStreaming marks ops pending → IsStreamingAs marks (ops ++ it ∷ []) new.item →
    AreStreaming marks (ops ++ it ∷ []) (pending ++ new ∷ [])
streaming_push marks ops it [] new all is = (is, tt)
streaming_push marks ops it (x ∷ pending) new all is =
    let old = all.0 in (
      record {
        op = old.op;
        is = at-push x.item.op ops it old.op old.is;
        lane = old.lane;
        binding = old.binding;
        kind = old.kind;
        target = old.target;
        given = old.given;
        phase = old.phase;
      },
      streaming_push marks ops it pending new all.1 is,
    )

pending_behind : {H : Type 0} (marks : H → Marks) (ops : List Op) (it : Op)
    (waits : List (timers.Entry (PendingWait (Waiting H)))) → ArePending marks ops waits →
    ArePending marks (ops ++ it ∷ []) waits
pending_behind marks ops it [] all = tt
pending_behind marks ops it (x ∷ waits) all =
    let old = all.0 in (
      record {
        op = old.op;
        is = at-push x.item.op ops it old.op old.is;
        lane = old.lane;
        binding = old.binding;
        kind = old.kind;
        given = old.given;
        phase = old.phase;
      },
      pending_behind marks ops it waits all.1,
    )

-- an operation with a number, among these or the new one
numbered_push : {H : Type 0} (n : ℕ) (x : PendingOp (Streaming H)) (pending : List (Entry (PendingOp (Streaming H))))
    (new : Entry (PendingOp (Streaming H))) → numbered_in n (pending ++ new ∷ []) ≡ Some x →
    (numbered_in n pending ≡ Some x) ⊎ (new.item ≡ x)
numbered_push n x [] new is =
    by_test (new.item.op == n)
    (λ here. inr (some_is new.item x (sym (ap (λ b. cond b (Some new.item) None) here) ∙ is)))
    (λ other. absurd (none_is x (sym (ap (λ b. cond b (Some new.item) None) other) ∙ is)))
numbered_push n x (y ∷ pending) new is =
    by_test (y.item.op == n)
    (λ here.
    inl
    (ap (λ b. cond b (Some y.item) (numbered_in n pending)) here
    ∙ sym (ap (λ b. cond b (Some y.item) (numbered_in n (pending ++ new ∷ []))) here) ∙ is))
    (λ other.
    ⊎_elim
    (λ (old : numbered_in n pending ≡ Some x).
    inl (ap (λ b. cond b (Some y.item) (numbered_in n pending)) other ∙ old))
    (λ (it : new.item ≡ x). inr it)
    (numbered_push n x pending new
    (sym (ap (λ b. cond b (Some y.item) (numbered_in n (pending ++ new ∷ []))) other) ∙ is)))

module _ {H : Type 0} (marks : H → Marks) (limits : Limits) (streams : StreamList (Streaming H)) (timers : Timers (Waiting H))
    (s : ContextState) (on : Lane) (kind : Operation) (t : Target) (handler : H) (buffer : Option (Vec ℕ)) (place : ℕ)
    (transfers : is_transfer kind ≡ true) (at : target_of kind ≡ Some t) (below : AreBelow s.next s.ops)
    (within : t.stream.place < length s.streams) (shows : ShowsStreams marks limits streams s)
    (waits : ShowsWaits marks limits timers s) (first : FirstIs s t kind) where
  abbrev stream : StreamState
  stream = stream_at s.streams t.stream

  abbrev longer : StreamState
  longer = with_queue t.side (queue_of t.side stream ++ s.next ∷ []) stream

  abbrev item : Streaming H
  item = record { lane = on; kind = kind; moved = 0; cancelled = false; buffer = buffer; handler = handler }

  abbrev entry : Entry (PendingOp (Streaming H))
  entry = record { place = place; item = record { op = s.next; stream = t.stream; side = t.side; item = item } }

  abbrev new : ContextState
  new =
      accepted_with s.next on kind (marks handler) (s.settled ++ [] ++ []) (s.waits ++ [])
      (streams_called s.next gone.Nothing (Some t) s.streams) s

  more_on : on_streams new.streams ≡ on_streams s.streams + 1
  more_on =
      let set = sum_by-set on_sides s.streams t.stream.place longer new_stream within in
      let more = sides_longer t.side s.next stream in
      omega (arith, set, more)

  abbrev streams_behind : List StreamState
  streams_behind = streams_called s.next gone.Nothing (Some t) s.streams

  -- the stream behind it, and the others
  here_is : (name : Name) → t.stream.place ≡ name.place → stream_at streams_behind name ≡ longer
  here_is name same =
      ap (λ p. slice_index_or streams_behind p new_stream) (sym same)
      ∙ get_or-set_same s.streams t.stream.place longer new_stream within

  before_is : (name : Name) → t.stream.place ≡ name.place → stream_at s.streams name ≡ stream
  before_is name same = ap (λ p. slice_index_or s.streams p new_stream) (sym same)

  other_is : (name : Name) → (t.stream.place == name.place) ≡ false →
      stream_at streams_behind name ≡ stream_at s.streams name
  other_is name other =
      get_or-set_other s.streams t.stream.place name.place longer new_stream (apart t.stream.place name.place other)

  plain_new : (name : Name) → IsPlain (stream_at streams_behind name)
  plain_new name =
      by_test (t.stream.place == name.place)
      (λ here.
      subst IsPlain (sym (here_is name (equal t.stream.place name.place here)))
      (plain_with t.side _ stream (way_of kind t transfers at) (shows.plain t.stream)))
      (λ other. subst IsPlain (sym (other_is name other)) (shows.plain name))

  still_longer : (it : Streaming H) → IsStill stream it → IsStill longer it
  still_longer it gets =
      served_alike t.side _ stream it.moved it.cancelled it.kind (way_of kind t transfers at)
      ∙ gets ∙ ap (stays it.moved it.cancelled) (sym (held_with t.side _ stream))

  -- the first of each side needs a system call still: the new one,
  new_head : FirstIs s t kind → first_of t.side longer ≡ Some s.next → IsStill longer item
  new_head (Empty none now) is = still_longer item (stays_now stream kind transfers (shows.plain t.stream) now)
  new_head (Other m old head) is =
      let same : m ≡ s.next =
      some_is m s.next
      (sym (ap (λ q. slice_get q 0) (queue_with t.side (queue_of t.side stream ++ s.next ∷ []) stream)
      ∙ first_push (queue_of t.side stream) s.next m old) ∙ is) in
      let less = at_below s.next m s.ops head.op below head.is in
      absurd (omega (arith, same, less))

  -- and the others
  old_head : (name : Name) (of : Side) (x : PendingOp (Streaming H)) → numbered_in x.op streams.ops ≡ Some x →
      x.stream.place ≡ name.place → x.side ≡ of → first_of of (stream_at streams_behind name) ≡ Some x.op →
      IsStill (stream_at streams_behind name) x.item
  old_head name of x is place_is side_is head =
      let known = streaming_at marks s.ops x.op x streams.ops is shows.each in
      let less = at_below s.next x.op s.ops known.op below known.is in
      by_test (t.stream.place == name.place)
      (λ here.
      let same = equal t.stream.place name.place here in
      let first_old : first_of of stream ≡ Some x.op =
      first_before t.side of s.next x.op stream (λ e. omega (arith, e, less))
      (sym (ap (first_of of) (here_is name same)) ∙ head) in
      let are : stream_at streams.streams name ≡ stream =
      ap (λ xs. stream_at xs name) shows.streams_are ∙ before_is name same in
      subst (λ st. IsStill st x.item) (sym (here_is name same))
      (still_longer x.item
      (subst (λ st. IsStill st x.item) are
      (shows.heads name of x
      (record { first = ap (first_of of) are ∙ first_old; numbered = is; place = place_is; on = side_is })))))
      (λ other.
      let are : stream_at streams.streams name ≡ stream_at s.streams name =
      ap (λ xs. stream_at xs name) shows.streams_are in
      let back = other_is name other in
      subst (λ st. IsStill st x.item) (are ∙ sym back)
      (shows.heads name of x
      (record {
        first = ap (first_of of) (are ∙ sym back) ∙ head;
        numbered = is;
        place = place_is;
        on = side_is;
      })))

  heads_new : (name : Name) (of : Side) (x : PendingOp (Streaming H)) → IsHead name of (with_op entry streams) x →
      IsStill (stream_at (with_op entry streams).streams name) x.item
  heads_new name of x head =
      let are : (with_op entry streams).streams ≡ streams_behind =
      ap (streams_called s.next gone.Nothing (Some t)) shows.streams_are in
      let first_new : first_of of (stream_at streams_behind name) ≡ Some x.op =
      sym (ap (λ xs. first_of of (stream_at xs name)) are) ∙ head.first in
      subst (λ xs. IsStill (stream_at xs name) x.item) (sym are)
      (⊎_elim
      (λ (is : numbered_in x.op streams.ops ≡ Some x). old_head name of x is head.place head.on first_new)
      (λ (it : entry.item ≡ x).
      let same : t.stream.place ≡ name.place = ap (λ (y : PendingOp (Streaming H)). y.stream.place) it ∙ head.place in
      let on_it : t.side ≡ of = ap (λ (y : PendingOp (Streaming H)). y.side) it ∙ head.on in
      let number : s.next ≡ x.op = ap (λ (y : PendingOp (Streaming H)). y.op) it in
      let item_is : item ≡ x.item = ap (λ (y : PendingOp (Streaming H)). y.item) it in
      subst (IsStill (stream_at streams_behind name)) item_is
      (subst (λ st. IsStill st item) (sym (here_is name same))
      (new_head first
      (subst (λ o. first_of o longer ≡ Some s.next) (sym on_it)
      (sym (ap (first_of of) (here_is name same)) ∙ first_new ∙ ap Some (sym number))))))
      (numbered_push x.op x streams.ops entry head.numbered))

  busy_new : (name : Name) (of : Side) → is_out_for of (stream_at streams_behind name).out ≡ true →
      first_of of (stream_at streams_behind name) ≡ None → ⊥
  busy_new name of out none =
      by_test (t.stream.place == name.place)
      (λ here.
      let same = here_is name (equal t.stream.place name.place here) in
      shows.busy t.stream of
      (ap (is_out_for of) (sym (out_with t.side _ stream)) ∙ ap (λ (st : StreamState). is_out_for of st.out) (sym same) ∙ out)
      (none_before t.side of s.next stream (ap (first_of of) (sym same) ∙ none)))
      (λ other.
      let same = other_is name other in
      shows.busy name of (ap (λ (st : StreamState). is_out_for of st.out) (sym same) ∙ out)
      (ap (first_of of) (sym same) ∙ none))

  pub streams_transferred : 0 < streams.room → ShowsStreams marks limits (with_op entry streams) new
  streams_transferred some =
      let it = pending_op s.next on kind (marks handler) in
      let all = shows.all in let more = more_on in let room = shows.room in
      let longer_ops = length_push streams.ops entry in
      record {
        streams_are = ap (streams_called s.next gone.Nothing (Some t)) shows.streams_are;
        places = length-set s.streams t.stream.place longer ∙ shows.places;
        few = subst (λ n. n < 2 ^ 32) (sym (length-set s.streams t.stream.place longer)) shows.few;
        each = streaming_push marks s.ops it streams.ops entry shows.each
            (record {
              op = it;
              is = at_new s.ops it below;
              lane = refl;
              binding = refl;
              kind = refl;
              target = at;
              given = refl;
              phase = refl;
            });
        all = omega (arith, all, more, longer_ops);
        room = omega (arith, room, longer_ops, some);
        plain = plain_new;
        heads = heads_new;
        busy = busy_new;
      }

  pub waits_transferred : ShowsWaits marks limits timers new
  waits_transferred =
      let it = pending_op s.next on kind (marks handler) in
      let f : Op → ℕ = λ op. one_if (is_incomplete op.phase) in
      let old_sum = sum_by-total f s.ops in
      let new_sum = sum_by-total f (s.ops ++ it ∷ []) in
      let push = total-push f s.ops it in
      let all = waits.all in let more = more_on in
      record {
        timers_are = waits.timers_are;
        places = waits.places;
        waits_are = waits.waits_are ∙ sym (append-nil s.waits);
        rises = waits.rises;
        each = pending_behind marks s.ops it timers.waits waits.each;
        all = omega (arith, old_sum, new_sum, push, all, more);
        room = waits.room;
      }
