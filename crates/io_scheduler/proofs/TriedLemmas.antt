-- A system call on a socket begins: it may, and what is kept shows the state behind that.
use Rattle.std.proofs.Common.{arith, ap, refl, subst, sym, ◌∙◌}
use Rattle.std.proofs.lemmas.Bool.{true≢false}
use Rattle.std.proofs.lemmas.List.{length-map, length-set}
use Rattle.std.specs.Prelude.{◌≡◌, ◌<◌, ◌≢◌, ℕ, ◌^◌, ◌==◌, ◌&&◌, cond, not, Bool, true, false, List, [], ◌∷◌, Option, Some, None, length, map, slice_get, IfNone, IfSome}
use Rattle.io_rules.specs.declared.event.Event.{Event}
use Rattle.io_rules.specs.declared.event.Event.TheVariants as event
use Rattle.io_rules.specs.declared.limits.Limits.{Limits}
use Rattle.io_rules.specs.declared.name.Name.{Name}
use Rattle.io_rules.specs.declared.op.Op.{Op}
use Rattle.io_rules.specs.declared.op.Phase.TheVariants as phase
use Rattle.io_rules.specs.declared.operation.Operation.{Operation}
use Rattle.io_rules.specs.declared.operation.Operation.TheVariants as operation
use Rattle.io_rules.specs.declared.operation.Side.{Side}
use Rattle.io_rules.specs.declared.operation.Side.TheVariants as side
use Rattle.io_rules.specs.declared.place.Life.{Life}
use Rattle.io_rules.specs.declared.place.Life.TheVariants as life
use Rattle.io_rules.specs.declared.place.Place.{Place}
use Rattle.io_rules.specs.declared.request.Marks.{Marks}
use Rattle.io_rules.specs.Cancelling.{is_out_for, queue_of}
use Rattle.io_rules.specs.Changes.{is_out}
use Rattle.io_rules.specs.Completing.{kind_of}
use Rattle.io_rules.specs.Legal.{MayHappen, after, state_of}
use Rattle.io_rules.specs.Names.{Names, is_alive}
use Rattle.io_rules.specs.Operations.{is_accept, target_of}
use Rattle.io_rules.specs.Ops.{is_untouched}
use Rattle.io_rules.specs.Room.{one_if}
use Rattle.io_rules.specs.Serving.{first_of, op_of, served_on, stays}
use Rattle.io_rules.specs.Spares.{with_life_of}
use Rattle.io_rules.specs.State.{ContextState, StreamState, stream_at, with_stream}
use Rattle.io_rules.specs.Tries.{MayReserve, head_of, is_accept_of, is_linked_for, is_searched, may_be_tried, moved_by, place_kept}
use Rattle.io_rules.proofs.StrandLemmas.{by_test}
use Rattle.io_rules.proofs.TotalLemmas.{apart, equal}
use Rattle.io_queues.specs.Ordered.{AreApart, Each}
use Rattle.io_queues.specs.Queued.{found_in}
use Rattle.io_streams.specs.declared.pending.PendingOp.{PendingOp}
use Rattle.io_streams.specs.Pending.{Entry, IsHead, StreamList, item_of, item_put, numbered_in, out_for, with_item}
use Rattle.io_strands.specs.declared.ready.ReadyOp.{ReadyOp}
use Rattle.io_strands.specs.Cell.{Cell}
use Rattle.io_jobs.specs.Listed.{JobList}
use Rattle.io_timers.specs.Pending.{Timers}
use Rattle.io_scheduler.specs.declared.attempt.Attempt.{Attempt}
use Rattle.io_scheduler.specs.declared.counts.Counts.{Counts}
use Rattle.io_scheduler.specs.declared.streaming.Streaming.{Streaming}
use Rattle.io_scheduler.specs.declared.tally.Tally.{Tally}
use Rattle.io_scheduler.specs.declared.waiting.Waiting.{Waiting}
use Rattle.io_scheduler.specs.Shown.{Shows}
use Rattle.io_scheduler.specs.Streaming.{on_sides, on_streams}
use Rattle.io_scheduler.specs.Streams.{AreStreaming, IsPlain, IsStill, IsStreamingAs, ShowsStreams}
use Rattle.io_scheduler.specs.Tallied.{IsTally, tally_out}
use Rattle.io_scheduler.specs.Tried.{HasTried, IsTriable, IsUntriable, has_none, has_place, is_busy, is_ready_for, lent, lent_at, lent_if, may_try, moved_of, waits, with_kept}
use Rattle.io_scheduler.specs.Waits.{ShowsWaits}
use Rattle.io_scheduler.proofs.PlacedLemmas.{alive_within, at_with, kept_by, out_few, placed_shown, placed_tally, placed_waits, plain_with, sum_same, sum_with, with_placed}

some_is : {X : Type 0} (a b : X) → Some a ≡ Some b → a ≡ b
some_is a b is = cc

none_is : {X : Type 0} (a : X) → None ≡ Some a → ⊥
none_is a is = cc

pub none_out : (o : Option Side) → is_out o ≡ false → o ≡ None
none_out None isnt = refl
none_out (Some out) isnt = absurd (true≢false isnt)

-- ---- the first operation of a side

-- the operation with a number is pending
pub streaming_at : {H : Type 0} (marks : H → Marks) (ops : List Op) (n : ℕ) (op : PendingOp (Streaming H))
    (pending : List (Entry (PendingOp (Streaming H)))) → numbered_in n pending ≡ Some op →
    AreStreaming marks ops pending → IsStreamingAs marks ops op
streaming_at marks ops n op [] is all = absurd (none_is op is)
streaming_at marks ops n op (x ∷ pending) is all =
    by_test (x.item.op == n)
    (λ here.
    subst (IsStreamingAs marks ops)
    (some_is x.item op (sym (ap (λ b. cond b (Some x.item) (numbered_in n pending)) here) ∙ is)) all.0)
    (λ other.
    streaming_at marks ops n op pending
    (sym (ap (λ b. cond b (Some x.item) (numbered_in n pending)) other) ∙ is) all.1)

and_true : (b : Bool) → (b && true) ≡ b
and_true true = refl
and_true false = refl

and_false : (b : Bool) → (b && false) ≡ false
and_false true = refl
and_false false = refl

untouched_is : (moved : ℕ) (cancelled : Bool) → is_untouched (phase.Pending moved cancelled) ≡ not cancelled
untouched_is moved true = refl
untouched_is moved false = refl

-- no bytes are left to be searched
searched_is : (stream : StreamState) (kind : Operation) → IsPlain stream → is_searched stream kind ≡ true
searched_is stream operation.Post plain = refl
searched_is stream operation.Defer plain = refl
searched_is stream operation.Dispatch plain = refl
searched_is stream (operation.Wait timer) plain = refl
searched_is stream (operation.ReadSome name size) plain = refl
searched_is stream (operation.ReadAll name size) plain = refl
searched_is stream (operation.ReadUntil name max) plain =
    ap (λ n. n == stream.held) plain.searched ∙ ap (λ n. 0 == n) plain.held
searched_is stream (operation.WriteSome name size) plain = refl
searched_is stream (operation.WriteAll name size) plain = refl
searched_is stream (operation.Accept listener) plain = refl
searched_is stream (operation.Connect name) plain = refl

-- the first of a side, as the state has it
pub record Heads {H : Type 0} (marks : H → Marks) (s : ContextState) (name : Name) (side : Side)
    (it : PendingOp (Streaming H)) : Type 0 where
  pub known : IsStreamingAs marks s.ops it
  pub first : first_of side (stream_at s.streams name) ≡ Some it.op
  pub head : head_of s name side ≡ Some known.op

module _ {H : Type 0} (marks : H → Marks) (limits : Limits) (streams : StreamList (Streaming H)) (s : ContextState)
    (name : Name) (side : Side) (shows : ShowsStreams marks limits streams s) where
  pub heads : (it : PendingOp (Streaming H)) → IsHead name side streams it → Heads marks s name side it
  heads it head =
      let known = streaming_at marks s.ops it.op it streams.ops head.numbered shows.each in
      let first = ap (λ states. first_of side (stream_at states name)) (sym shows.streams_are) ∙ head.first in
      record { known = known; first = first; head = ap (op_of s.ops) first ∙ known.is }

  -- whether a system call for it may begin
  pub ready_head : (it : PendingOp (Streaming H)) → Heads marks s name side it →
      may_be_tried (stream_at s.streams name) (head_of s name side) ≡ is_ready_for (stream_at streams.streams name) it.item
  ready_head it head =
      let stream = stream_at s.streams name in
      let op = head.known.op in
      ap (may_be_tried stream) head.head
      ∙ ap (λ p. is_untouched p && (is_linked_for stream op.kind && is_searched stream op.kind)) head.known.phase
      ∙ ap (λ k. is_untouched (phase.Pending it.item.moved it.item.cancelled)
      && (is_linked_for stream k && is_searched stream k)) head.known.kind
      ∙ ap (λ b. b && (is_linked_for stream it.item.kind && is_searched stream it.item.kind))
      (untouched_is it.item.moved it.item.cancelled)
      ∙ ap (λ b. not it.item.cancelled && (is_linked_for stream it.item.kind && b))
      (searched_is stream it.item.kind (shows.plain name))
      ∙ ap (λ b. not it.item.cancelled && b) (and_true (is_linked_for stream it.item.kind))
      ∙ ap (λ states. is_ready_for (stream_at states name) it.item) (sym shows.streams_are)

  pub accept_head : (it : PendingOp (Streaming H)) → Heads marks s name side it →
      is_accept_of (head_of s name side) ≡ is_accept it.item.kind
  accept_head it head = ap is_accept_of head.head ∙ ap is_accept head.known.kind

  pub try_may : (it : PendingOp (Streaming H)) (reserved : Option Name) → s.finishing ≡ false → s.stopped ≡ false →
      is_alive s.names.streams name ≡ true → Heads marks s name side it → (stream_at streams.streams name).out ≡ None →
      is_ready_for (stream_at streams.streams name) it.item ≡ true → MayReserve s.names (is_accept it.item.kind) reserved →
      MayHappen s (event.Tried name side reserved)
  try_may it reserved going allowed alive head back ready kept = record {
    going = going;
    allowed = allowed;
    is_open = alive;
    back = ap (λ states. (stream_at states name).out) (sym shows.streams_are) ∙ back;
    head = ready_head it head ∙ ready;
    place = subst (λ b. MayReserve s.names b reserved) (sym (accept_head it head)) kept;
  }

-- ---- what is kept behind it

-- the state of the stream then
abbrev tried_state : Side → Option Name → StreamState → StreamState
tried_state side reserved stream = record stream { out = Some side; reserved = reserved }

-- the state behind it
abbrev tried_as : Name → Side → Option Name → ℕ → ContextState → ContextState
tried_as name side reserved op s =
    with_placed (with_life_of (life.Kept op) reserved s.names.streams)
    (with_stream name (tried_state side reserved (stream_at s.streams name)) s.streams) s

try_is : (s : ContextState) (name : Name) (side : Side) (reserved : Option Name) (op : ℕ) →
    first_of side (stream_at s.streams name) ≡ Some op →
    after (event.Tried name side reserved) s ≡ tried_as name side reserved op s
try_is s name side reserved op first =
    ap (λ o. with_placed (place_kept o reserved s.names.streams)
    (with_stream name (tried_state side reserved (stream_at s.streams name)) s.streams) s) first

pub length_life : (new : Life) (name : Option Name) (places : List Place) →
    length (with_life_of new name places) ≡ length places
length_life new None places = refl
length_life new (Some name) places = length-set places name.place _

queue_tried : (out : Side) (reserved : Option Name) (sd : Side) (stream : StreamState) →
    queue_of sd (tried_state out reserved stream) ≡ queue_of sd stream
queue_tried out reserved side.Read stream = refl
queue_tried out reserved side.Write stream = refl
queue_tried out reserved side.Connect stream = refl

on_tried : (out : Side) (reserved : Option Name) (stream : StreamState) (moved : ℕ) (cancelled : Bool) (kind : Operation) →
    served_on (tried_state out reserved stream) moved cancelled kind ≡ served_on stream moved cancelled kind
on_tried out reserved stream moved cancelled operation.Post = refl
on_tried out reserved stream moved cancelled operation.Defer = refl
on_tried out reserved stream moved cancelled operation.Dispatch = refl
on_tried out reserved stream moved cancelled (operation.Wait timer) = refl
on_tried out reserved stream moved cancelled (operation.ReadSome name size) = refl
on_tried out reserved stream moved cancelled (operation.ReadAll name size) = refl
on_tried out reserved stream moved cancelled (operation.ReadUntil name max) = refl
on_tried out reserved stream moved cancelled (operation.WriteSome name size) = refl
on_tried out reserved stream moved cancelled (operation.WriteAll name size) = refl
on_tried out reserved stream moved cancelled (operation.Accept listener) = refl
on_tried out reserved stream moved cancelled (operation.Connect name) = refl

-- nothing else matters of an operation
pub still_as : {H : Type 0} (stream : StreamState) (a b : Streaming H) → a.kind ≡ b.kind → a.moved ≡ b.moved →
    a.cancelled ≡ b.cancelled → IsStill stream a → IsStill stream b
still_as stream a b kind moved cancelled is =
    sym (ap (λ k. served_on stream a.moved a.cancelled k) kind ∙ ap (λ m. served_on stream m a.cancelled b.kind) moved
    ∙ ap (λ c. served_on stream b.moved c b.kind) cancelled)
    ∙ is
    ∙ (ap (λ m. stays m a.cancelled stream.held) moved ∙ ap (λ c. stays b.moved c stream.held) cancelled)

-- the system call is for one that is there
busy_here : (sd out : Side) (stream : StreamState) (n : ℕ) → first_of out stream ≡ Some n →
    is_out_for sd (Some out) ≡ true → first_of sd stream ≡ None → ⊥
busy_here side.Read side.Read stream n first is none = none_is n (sym none ∙ first)
busy_here side.Read side.Write stream n first is none = true≢false (sym is)
busy_here side.Read side.Connect stream n first is none = true≢false (sym is)
busy_here side.Write side.Read stream n first is none = true≢false (sym is)
busy_here side.Write side.Write stream n first is none = none_is n (sym none ∙ first)
busy_here side.Write side.Connect stream n first is none = true≢false (sym is)
busy_here side.Connect side.Read stream n first is none = true≢false (sym is)
busy_here side.Connect side.Write stream n first is none = true≢false (sym is)
busy_here side.Connect side.Connect stream n first is none = none_is n (sym none ∙ first)

-- an operation as it was
pub record Was {H : Type 0} (n : ℕ) (xs : List (Entry (PendingOp (Streaming H)))) (it : PendingOp (Streaming H)) :
    Type 0 where
  pub op : PendingOp (Streaming H)
  pub numbered : numbered_in n xs ≡ Some op
  pub number : op.op ≡ it.op
  pub stream : op.stream ≡ it.stream
  pub side : op.side ≡ it.side
  pub kind : op.item.kind ≡ it.item.kind
  pub moved : op.item.moved ≡ it.item.moved
  pub cancelled : op.item.cancelled ≡ it.item.cancelled

-- they differ in their buffers alone
pub record IsLike {H : Type 0} (a b : Streaming H) : Type 0 where
  pub lane : a.lane ≡ b.lane
  pub kind : a.kind ≡ b.kind
  pub moved : a.moved ≡ b.moved
  pub cancelled : a.cancelled ≡ b.cancelled
  pub handler : a.handler ≡ b.handler

pub lent_like : {H : Type 0} (item : Streaming H) → IsLike item (lent item)
lent_like item = record { lane = refl; kind = refl; moved = refl; cancelled = refl; handler = refl }

pub before_put : {H : Type 0} (n place : ℕ) (op it : PendingOp (Streaming H)) (item : Streaming H) → IsLike op.item item →
    (xs : List (Entry (PendingOp (Streaming H)))) → Each (λ x. x.place ≡ place → x.item ≡ op) xs → numbered_in n (map (item_put place item) xs) ≡ Some it →
    Was n xs it
before_put n place op it item like [] at is = absurd (none_is it is)
before_put {H = H} n place op it item like (x ∷ xs) at is =
    let before_rest = before_put n place op it item like xs at.1 in
    by_test (x.place == place)
    (λ here.
    let was : x.item ≡ op = at.0 (equal x.place place here) in
    let new : PendingOp (Streaming H) = record x.item { item = item } in
    by_new before_rest new refl refl refl (ap (λ (y : PendingOp (Streaming H)). y.item.kind) was ∙ like.kind)
    (ap (λ (y : PendingOp (Streaming H)). y.item.moved) was ∙ like.moved)
    (ap (λ (y : PendingOp (Streaming H)). y.item.cancelled) was ∙ like.cancelled)
    (sym (ap (λ b. numbered_in n (cond b (record x { item = new }) x ∷ map (item_put place item) xs)) here) ∙ is))
    (λ other.
    by_new before_rest x.item refl refl refl refl refl refl
    (sym (ap (λ b. numbered_in n (cond b (record x { item = record x.item { item = item } }) x
    ∷ map (item_put place item) xs)) other) ∙ is))
  where
    by_new : (numbered_in n (map (item_put place item) xs) ≡ Some it → Was n xs it) → (new : PendingOp (Streaming H)) → x.item.op ≡ new.op → x.item.stream ≡ new.stream → x.item.side ≡ new.side →
        x.item.item.kind ≡ new.item.kind → x.item.item.moved ≡ new.item.moved →
        x.item.item.cancelled ≡ new.item.cancelled →
        cond (new.op == n) (Some new) (numbered_in n (map (item_put place item) xs)) ≡ Some it → Was n (x ∷ xs) it
    by_new before_rest new number stream side kind moved cancelled found =
        by_test (new.op == n)
        (λ this.
        let same : new ≡ it =
        some_is new it (sym (ap (λ b. cond b (Some new) (numbered_in n (map (item_put place item) xs))) this) ∙ found) in
        subst (Was n (x ∷ xs)) same
        (record {
          op = x.item;
          numbered = ap (λ k. cond (k == n) (Some x.item) (numbered_in n xs)) number
              ∙ ap (λ b. cond b (Some x.item) (numbered_in n xs)) this;
          number = number;
          stream = stream;
          side = side;
          kind = kind;
          moved = moved;
          cancelled = cancelled;
        }))
        (λ other.
        let rest = before_rest
        (sym (ap (λ b. cond b (Some new) (numbered_in n (map (item_put place item) xs))) other) ∙ found) in
        record {
          op = rest.op;
          numbered = ap (λ k. cond (k == n) (Some x.item) (numbered_in n xs)) number
              ∙ ap (λ b. cond b (Some x.item) (numbered_in n xs)) other ∙ rest.numbered;
          number = rest.number;
          stream = rest.stream;
          side = rest.side;
          kind = rest.kind;
          moved = rest.moved;
          cancelled = rest.cancelled;
        })

-- the entry at a place is the one that is found there
pub at_place : {T : Type 0} (place : ℕ) (op : PendingOp T) (xs : List (Entry (PendingOp T))) → AreApart xs →
    found_in place xs ≡ Some op → Each (λ x. x.place ≡ place → x.item ≡ op) xs
at_place place op [] apart_all found = tt
at_place {T = T} place op (x ∷ xs) apart_all found =
    by_test (x.place == place)
    (λ here.
    let at : x.place ≡ place = equal x.place place here in (
      λ is. some_is x.item op (sym (ap (λ b. cond b (Some x.item) (found_in place xs)) here) ∙ found),
      elsewhere xs at apart_all.0,
    ))
    (λ other. (
      λ is. absurd (apart x.place place other (sym is)),
      at_place place op xs apart_all.1 (sym (ap (λ b. cond b (Some x.item) (found_in place xs)) other) ∙ found),
    ))
  where
    elsewhere : (ys : List (Entry (PendingOp T))) → x.place ≡ place → Each (λ other. other.place ≢ x.place) ys →
        Each (λ y. y.place ≡ place → y.item ≡ op) ys
    elsewhere [] at all = tt
    elsewhere (y ∷ ys) at all = (λ is. absurd (all.0 (is ∙ sym at)), elsewhere ys at all.1)

module _ {H : Type 0} (marks : H → Marks) where
  -- another item comes to a place
  pub put_still : (ops : List Op) (place : ℕ) (item : Streaming H) (xs : List (Entry (PendingOp (Streaming H)))) →
      Each (λ x. x.place ≡ place → IsStreamingAs marks ops (record x.item { item = item })) xs →
      Each (λ x. x.place ≢ place → IsStreamingAs marks ops x.item) xs → AreStreaming marks ops (map (item_put place item) xs)
  put_still ops place item [] new old = tt
  put_still ops place item (x ∷ xs) new old = (
    by_test (x.place == place)
        (λ here.
        subst (λ (y : Entry (PendingOp (Streaming H))). IsStreamingAs marks ops y.item)
        (sym (ap (λ b. cond b (record x { item = record x.item { item = item } }) x) here))
        (new.0 (equal x.place place here)))
        (λ other.
        subst (λ (y : Entry (PendingOp (Streaming H))). IsStreamingAs marks ops y.item)
        (sym (ap (λ b. cond b (record x { item = record x.item { item = item } }) x) other))
        (old.0 (λ is. apart x.place place other (sym is)))),
    put_still ops place item xs new.1 old.1,
  )

  -- with another buffer it is still the same
  as_like : (ops : List Op) (it : PendingOp (Streaming H)) (item : Streaming H) → IsLike it.item item →
      IsStreamingAs marks ops it → IsStreamingAs marks ops (record it { item = item })
  as_like ops it item like known = record {
    op = known.op;
    is = known.is;
    lane = known.lane ∙ like.lane;
    binding = known.binding;
    kind = known.kind ∙ like.kind;
    target = ap target_of (sym like.kind) ∙ known.target;
    given = known.given ∙ ap marks like.handler;
    phase = known.phase ∙ ap (λ m. phase.Pending m it.item.cancelled) like.moved
        ∙ ap (phase.Pending item.moved) like.cancelled;
  }

  like_new : (ops : List Op) (place : ℕ) (op : PendingOp (Streaming H)) (item : Streaming H)
      (xs : List (Entry (PendingOp (Streaming H)))) → IsLike op.item item →
      Each (λ x. x.place ≡ place → x.item ≡ op) xs → AreStreaming marks ops xs →
      Each (λ x. x.place ≡ place → IsStreamingAs marks ops (record x.item { item = item })) xs
  like_new ops place op item [] like at all = tt
  like_new ops place op item (x ∷ xs) like at all = (
    λ is. as_like ops x.item item (subst (λ (y : PendingOp (Streaming H)). IsLike y.item item) (sym (at.0 is)) like) all.0,
    like_new ops place op item xs like at.1 all.1,
  )

  old_still : (ops : List Op) (place : ℕ) (xs : List (Entry (PendingOp (Streaming H)))) → AreStreaming marks ops xs →
      Each (λ x. x.place ≢ place → IsStreamingAs marks ops x.item) xs
  old_still ops place [] all = tt
  old_still ops place (x ∷ xs) all = (λ other. all.0, old_still ops place xs all.1)

  pub like_still : (ops : List Op) (place : ℕ) (op : PendingOp (Streaming H)) (item : Streaming H)
      (xs : List (Entry (PendingOp (Streaming H)))) → IsLike op.item item → AreApart xs → found_in place xs ≡ Some op →
      AreStreaming marks ops xs → AreStreaming marks ops (map (item_put place item) xs)
  like_still ops place op item xs like apart_all found all =
      put_still ops place item xs (like_new ops place op item xs like (at_place place op xs apart_all found) all)
      (old_still ops place xs all)

  pub lent_is : (place : ℕ) (op : PendingOp (Streaming H)) (streams : StreamList (Streaming H)) →
      found_in place streams.ops ≡ Some op → lent_at place streams ≡ with_item place (lent op.item) streams
  lent_is place op streams found = ap (λ o. lent_if place (item_of o) streams) found

  module _ (limits : Limits) (streams : StreamList (Streaming H)) (s : ContextState) (name : Name) (side : Side)
      (reserved : Option Name) (place : ℕ) (op : PendingOp (Streaming H)) (shows : ShowsStreams marks limits streams s)
      (alive : is_alive s.names.streams name ≡ true) (apart_all : AreApart streams.ops)
      (found : found_in place streams.ops ≡ Some op) (first : first_of side (stream_at s.streams name) ≡ Some op.op) where
    within : name.place < length s.streams
    within =
        let at = alive_within s.names.streams name alive in let as_many = shows.places in omega (arith, at, as_many)

    kept_within : name.place < length streams.streams
    kept_within = subst (λ states. name.place < length states) (sym shows.streams_are) within

    tried_still : (other : Name) (item : Streaming H) → IsStill (stream_at streams.streams other) item →
        IsStill (stream_at (out_for name side reserved streams).streams other) item
    tried_still other item is =
        kept_by (λ stream. served_on stream item.moved item.cancelled item.kind) (tried_state side reserved)
        (λ stream. on_tried side reserved stream item.moved item.cancelled item.kind) streams.streams name kept_within other
        ∙ is
        ∙ ap (stays item.moved item.cancelled)
        (sym (kept_by (λ (stream : StreamState). stream.held) (tried_state side reserved) (λ stream. refl) streams.streams name
        kept_within other))

    pub as_many : on_streams (with_stream name (tried_state side reserved (stream_at s.streams name)) s.streams) ≡ on_streams s.streams
    as_many = sum_same on_sides s.streams name (tried_state side reserved (stream_at s.streams name)) within refl

    pub tried_streams : ShowsStreams marks limits (lent_at place (out_for name side reserved streams)) (tried_as name side reserved op.op s)
    tried_streams =
        let out = out_for name side reserved streams in
        let more = length-map streams.ops (item_put place (lent op.item)) in
        let all = shows.all in let room = shows.room in let many = as_many in
        subst (λ kept. ShowsStreams marks limits kept (tried_as name side reserved op.op s)) (sym (lent_is place op out found))
        (record {
          streams_are =
              ap (λ states. with_stream name (tried_state side reserved (stream_at states name)) states) shows.streams_are;
          places =
              length-set s.streams name.place _ ∙ shows.places
              ∙ sym (length_life (life.Kept op.op) reserved s.names.streams);
          few = subst (λ n. n < 2 ^ 32) (sym (length-set s.streams name.place _)) shows.few;
          each = like_still s.ops place op (lent op.item) streams.ops (lent_like op.item) apart_all found shows.each;
          all = omega (arith, more, all, many);
          room = omega (arith, more, room);
          plain =
              let plain = shows.plain name in
              plain_with s.streams name (tried_state side reserved (stream_at s.streams name)) within
              (record { held = plain.held; searched = plain.searched; connects = plain.connects }) shows.plain;
          busy = λ other sd.
              at_with (λ st. is_out_for sd st.out ≡ true → first_of sd st ≡ None → ⊥) s.streams name
              (tried_state side reserved (stream_at s.streams name)) within other
              (λ here out none.
              busy_here sd side (stream_at s.streams name) op.op first out
              (ap (λ q. slice_get q 0) (sym (queue_tried side reserved sd (stream_at s.streams name))) ∙ none))
              (λ elsewhere. shows.busy other sd);
          heads = λ other sd it head.
              let before = before_put it.op place op it (lent op.item) (lent_like op.item) streams.ops (at_place place op streams.ops apart_all found)
              head.numbered in
              let old : IsHead other sd streams before.op =
              record {
                first =
                    sym (kept_by (first_of sd) (tried_state side reserved) (λ stream. ap (λ q. slice_get q 0) (queue_tried side reserved sd stream))
                    streams.streams name kept_within other)
                    ∙ head.first ∙ ap Some (sym before.number);
                numbered = ap (λ n. numbered_in n streams.ops) before.number ∙ before.numbered;
                place = ap (λ (n : Name). n.place) before.stream ∙ head.place;
                on = before.side ∙ head.on;
              } in
              tried_still other it.item (still_as (stream_at streams.streams other) before.op.item it.item before.kind before.moved
              before.cancelled (shows.heads other sd before.op old));
        })

    pub tried_tally : (t : Tally) → (stream_at s.streams name).out ≡ None → IsTally t s → IsTally (tally_out t) (tried_as name side reserved op.op s)
    tried_tally t back tally =
        let sum = sum_with (λ (stream : StreamState). one_if (is_out stream.out)) s.streams name
        (tried_state side reserved (stream_at s.streams name)) within in
        let none : one_if (is_out (stream_at s.streams name).out) ≡ 0 = ap (λ o. one_if (is_out o)) back in
        let out = tally.out in
        placed_tally t (tally_out t) s _ _ refl refl refl as_many (omega (arith, sum, none, out)) tally

  pub out_room : (limits : Limits) (streams : StreamList (Streaming H)) (s : ContextState) (t : Tally) →
      ShowsStreams marks limits streams s → IsTally t s → t.out < 18446744073709551615
  out_room limits streams s t shows tally =
      let out = tally.out in let most = out_few s.streams in let few = shows.few in omega (arith, out, most, few)

-- ---- for the scheduler

module _ {H : Type 0} (marks : H → Marks) (limits : Limits) (streams : StreamList (Streaming H)) (s : ContextState)
    (name : Name) (side : Side) (place : ℕ) (op : PendingOp (Streaming H)) (shows : ShowsStreams marks limits streams s)
    (alive : is_alive s.names.streams name ≡ true) (triable : IsTriable name side streams place)
    (found : found_in place streams.ops ≡ Some op) where
  same_op : triable.op ≡ op
  same_op = some_is triable.op op (sym triable.found ∙ found)

  begin_heads : Heads marks s name side op
  begin_heads = heads marks limits streams s name side shows op (subst (IsHead name side streams) same_op triable.head)

  pub begin_may : (reserved : Option Name) → s.finishing ≡ false → s.stopped ≡ false →
      MayReserve s.names (is_accept op.item.kind) reserved → MayHappen s (event.Tried name side reserved)
  begin_may reserved going allowed kept =
      try_may marks limits streams s name side shows op reserved going allowed alive begin_heads triable.back
      (ap (λ (y : PendingOp (Streaming H)). is_ready_for (stream_at streams.streams name) y.item) (sym same_op) ∙ triable.ready)
      kept

  pub begin_kind : op.item.kind ≡ kind_of (head_of s name side)
  begin_kind = sym (ap kind_of begin_heads.head ∙ begin_heads.known.kind)

  pub begin_moved : op.item.moved ≡ moved_of (head_of s name side)
  begin_moved = sym (ap moved_of begin_heads.head ∙ ap moved_by begin_heads.known.phase)

  pub begin_none : has_place s.names (is_accept op.item.kind) ≡ false →
      has_place s.names (is_accept_of (head_of s name side)) ≡ false
  begin_none none = ap (has_place s.names) (accept_head marks limits streams s name side shows op begin_heads) ∙ none

  module _ (reserved : Option Name) where
    behind_is : after (event.Tried name side reserved) s ≡ tried_as name side reserved op.op s
    behind_is = try_is s name side reserved op.op begin_heads.first

    pub begin_names : (names : Names) → names ≡ with_kept op.op reserved s.names →
        names ≡ (after (event.Tried name side reserved) s).names
    begin_names names is = is ∙ ap (λ (t : ContextState). t.names) (sym behind_is)

    pub begin_streams : AreApart streams.ops →
        ShowsStreams marks limits (lent_at place (out_for name side reserved streams)) (after (event.Tried name side reserved) s)
    begin_streams apart_all =
        subst (ShowsStreams marks limits (lent_at place (out_for name side reserved streams))) (sym behind_is)
        (tried_streams marks limits streams s name side reserved place op shows alive apart_all found begin_heads.first)

    pub begin_tally : (t : Tally) → AreApart streams.ops → IsTally t s →
        IsTally (tally_out t) (after (event.Tried name side reserved) s)
    begin_tally t apart_all tally =
        subst (IsTally (tally_out t)) (sym behind_is)
        (tried_tally marks limits streams s name side reserved place op shows alive apart_all found begin_heads.first t
        (ap (λ states. (stream_at states name).out) (sym shows.streams_are) ∙ triable.back) tally)

-- a system call has begun, or nothing has changed
module _ {H S : Type 0} (marks : H → Marks) (limits : Limits) (counts : Counts) (names new_names : Names)
    (cells : List (Cell H S)) (jobs : JobList (ReadyOp H)) (timers : Timers (Waiting H))
    (streams : StreamList (Streaming H)) (name : Name) (side : Side) (old new : List Event) where
  pub attempt_shown : (o : Option Attempt) → IfSome o (λ it. HasTried limits name side it.reserved old new) →
      IfNone o (new ≡ old) → new_names ≡ (state_of limits new).names →
      Shows marks limits counts names cells jobs (state_of limits old) →
      Shows marks limits counts new_names cells jobs (state_of limits new)
  attempt_shown None tried same names_are shows =
      let at = ap (state_of limits) (sym same) in
      subst (λ ns. Shows marks limits counts ns cells jobs (state_of limits new))
      (shows.names_are ∙ ap (λ (t : ContextState). t.names) at ∙ sym names_are)
      (subst (Shows marks limits counts names cells jobs) at shows)
  attempt_shown (Some it) tried same names_are shows =
      let s = state_of limits old in
      let t = after (event.Tried name side it.reserved) s in
      let at : t ≡ state_of limits new = ap (state_of limits) (sym tried.is) in
      subst (λ ns. Shows marks limits counts ns cells jobs (state_of limits new))
      (ap (λ (ns : Names). record ns { streams = t.names.streams }) shows.names_are
      ∙ ap (λ (t : ContextState). t.names) at ∙ sym names_are)
      (subst (Shows marks limits counts (record names { streams = t.names.streams }) cells jobs) at
      (placed_shown marks limits counts names cells jobs s t.names.streams t.streams shows))

  pub attempt_waits : (o : Option Attempt) → IfSome o (λ it. HasTried limits name side it.reserved old new) →
      IfNone o (new ≡ old) → ShowsStreams marks limits streams (state_of limits old) →
      ShowsWaits marks limits timers (state_of limits old) → ShowsWaits marks limits timers (state_of limits new)
  attempt_waits None tried same on shows =
      subst (ShowsWaits marks limits timers) (ap (state_of limits) (sym same)) shows
  attempt_waits (Some it) tried same on shows =
      let s = state_of limits old in
      let t = after (event.Tried name side it.reserved) s in
      let at = alive_within s.names.streams name tried.may.is_open in
      let as_many = on.places in
      subst (ShowsWaits marks limits timers) (ap (state_of limits) (sym tried.is))
      (placed_waits marks limits timers s t.names.streams t.streams
      (sum_same on_sides s.streams name (tried_state side it.reserved (stream_at s.streams name)) (omega (arith, at, as_many)) refl)
      shows)

pub untriable : {H : Type 0} (marks : H → Marks) (limits : Limits) (streams : StreamList (Streaming H)) (s : ContextState)
    (name : Name) (side : Side) → ShowsStreams marks limits streams s → IsUntriable name side streams →
    may_try s name side ≡ false
untriable marks limits streams s name side shows isnt =
    ap (λ b. not s.stopped && b) (ap (λ b. is_alive s.names.streams name && b) (by_case isnt) ∙ and_false (is_alive s.names.streams name))
    ∙ and_false (not s.stopped)
  where
    busy : Bool
    busy = not (is_out (stream_at s.streams name).out)

    place_there : Bool
    place_there = has_place s.names (is_accept_of (head_of s name side))

    states_are : (f : List StreamState → Bool) → f s.streams ≡ f streams.streams
    states_are f = ap f (sym shows.streams_are)

    by_head : may_be_tried (stream_at s.streams name) (head_of s name side) ≡ false →
        (busy && (may_be_tried (stream_at s.streams name) (head_of s name side) && place_there)) ≡ false
    by_head none = ap (λ b. busy && (b && place_there)) none ∙ and_false busy

    by_case : IsUntriable name side streams →
        (busy && (may_be_tried (stream_at s.streams name) (head_of s name side) && place_there)) ≡ false
    by_case (is_busy out) =
        ap (λ b. not b && (may_be_tried (stream_at s.streams name) (head_of s name side) && place_there))
        (states_are (λ states. is_out (stream_at states name).out) ∙ out)
    by_case (has_none none) =
        by_head (ap (λ f. may_be_tried (stream_at s.streams name) (op_of s.ops f))
        (ap (λ states. first_of side (stream_at states name)) (sym shows.streams_are) ∙ none))
    by_case (waits op head wait) =
        by_head (ready_head marks limits streams s name side shows op (heads marks limits streams s name side shows op head)
        ∙ wait)
