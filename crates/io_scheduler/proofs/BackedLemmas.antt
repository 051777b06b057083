-- A system call has returned: what is kept shows the state in which its socket is back, and its operation is
-- settled.
use Rattle.std.proofs.Common.{arith, ap, refl, subst, sym, ◌∙◌}
use Rattle.std.proofs.lemmas.Bool.{true≢false}
use Rattle.std.proofs.lemmas.List.{length-map, length-set}
use Rattle.std.specs.Prelude.{◌≡◌, ◌<◌, ◌^◌, ℕ, ◌==◌, cond, true, false, List, [], ◌∷◌, Option, Some, None, length, map, slice_get}
use Rattle.io_rules.specs.declared.gave.Gave.{Gave}
use Rattle.io_rules.specs.declared.gave.Gave.TheVariants as gave
use Rattle.io_rules.specs.declared.limits.Limits.{Limits}
use Rattle.io_rules.specs.declared.name.Name.{Name}
use Rattle.io_rules.specs.declared.operation.Operation.{Operation}
use Rattle.io_rules.specs.declared.operation.Side.{Side}
use Rattle.io_rules.specs.declared.operation.Side.TheVariants as side
use Rattle.io_rules.specs.declared.place.Place.{Place}
use Rattle.io_rules.specs.declared.request.Marks.{Marks}
use Rattle.io_rules.specs.Cancelling.{is_out_for, queue_of}
use Rattle.io_rules.specs.Changes.{is_out}
use Rattle.io_rules.specs.Room.{one_if}
use Rattle.io_rules.specs.Serving.{first_of}
use Rattle.io_rules.specs.State.{ContextState, StreamState, stream_at, with_stream}
use Rattle.io_rules.specs.Tries.{place_made, stream_back, stream_made}
use Rattle.io_rules.proofs.StrandLemmas.{by_test}
use Rattle.io_rules.proofs.TotalLemmas.{equal, same}
use Rattle.io_queues.specs.Ordered.{Each, Rises}
use Rattle.io_queues.specs.Queued.{found_in}
use Rattle.io_queues.proofs.FoundLemmas.{apart_test, each-in, found-in}
use Rattle.io_streams.specs.declared.pending.PendingOp.{PendingOp}
use Rattle.io_streams.specs.Kept.{IsWhole}
use Rattle.io_streams.specs.Pending.{Entry, IsHead, StreamList, back_in, item_put, numbered_in, op_of, with_item}
use Rattle.io_scheduler.specs.declared.streaming.Streaming.{Streaming}
use Rattle.io_scheduler.specs.declared.tally.Tally.{Tally}
use Rattle.io_scheduler.specs.Back.{made_of}
use Rattle.io_scheduler.specs.Returned.{fits_back}
use Rattle.io_scheduler.specs.Settling.{ShowsPending}
use Rattle.io_scheduler.specs.Streaming.{on_sides, on_streams}
use Rattle.io_scheduler.specs.Streams.{AreStreaming, IsPlain, IsStill, ShowsStreams}
use Rattle.io_scheduler.specs.Tallied.{IsTally, tally_back}
use Rattle.io_scheduler.proofs.BackLemmas.{back_to}
use Rattle.io_scheduler.proofs.LeavingLemmas.{GivesAlike, first_within, still_alike}
use Rattle.io_scheduler.proofs.LinkedLemmas.{opened_state}
use Rattle.io_scheduler.proofs.PlacedLemmas.{at_with, kept_by, placed_tally, plain_with, sum_same, sum_with, with_placed}
use Rattle.io_scheduler.proofs.TriedLemmas.{IsLike, at_place, before_put, still_as}

some_is : {X : Type 0} (a b : X) → Some a ≡ Some b → a ≡ b
some_is a b is = cc

-- its socket is in again
abbrev pub returned : StreamState → StreamState
returned stream = record stream { out = None; reserved = None }

-- ---- the state

back_stream : (kind : Operation) (moved : ℕ) (given : Gave) (stream : StreamState) → fits_back kind moved given ≡ true →
    stream_back given stream ≡ returned stream
back_stream kind moved gave.WouldBlock stream fit = refl
back_stream kind moved (gave.Moved size) stream fit = refl
back_stream kind moved (gave.Found more end) stream fit = absurd (true≢false (sym fit))
back_stream kind moved (gave.Failed given) stream fit = refl
back_stream kind moved gave.Made stream fit = refl
back_stream kind moved gave.Linked stream fit = absurd (true≢false (sym fit))

made_state : (given : Gave) (reserved : Option Name) (s : ContextState) →
    record s { streams = stream_made given reserved s.streams } ≡ opened_state (made_of given reserved) s
made_state gave.WouldBlock None s = refl
made_state (gave.Moved size) None s = refl
made_state (gave.Found more end) None s = refl
made_state (gave.Failed given) None s = refl
made_state gave.Made None s = refl
made_state gave.Linked None s = refl
made_state gave.WouldBlock (Some name) s = refl
made_state (gave.Moved size) (Some name) s = refl
made_state (gave.Found more end) (Some name) s = refl
made_state (gave.Failed given) (Some name) s = refl
made_state gave.Made (Some name) s = refl
made_state gave.Linked (Some name) s = refl

pub back_state : (s : ContextState) (name : Name) (kind : Operation) (moved : ℕ) (given : Gave) →
    fits_back kind moved given ≡ true →
    back_to name given s
    ≡ opened_state (made_of given (stream_at s.streams name).reserved)
    (with_placed (place_made given (stream_at s.streams name).reserved s.names.streams)
    (with_stream name (returned (stream_at s.streams name)) s.streams) s)
back_state s name kind moved given fit =
    let stream = stream_at s.streams name in
    ap (λ st. with_placed (place_made given stream.reserved s.names.streams)
    (stream_made given stream.reserved (with_stream name st s.streams)) s) (back_stream kind moved given stream fit)
    ∙ made_state given stream.reserved
    (with_placed (place_made given stream.reserved s.names.streams) (with_stream name (returned stream) s.streams) s)

-- ---- another item at a place

pub found_put : {T : Type 0} (place : ℕ) (op : PendingOp T) (item : T) (xs : List (Entry (PendingOp T))) →
    found_in place xs ≡ Some op → found_in place (map (item_put place item) xs) ≡ Some (record op { item = item })
found_put place op item [] found = absurd (cc)
found_put {T = T} place op item (x ∷ xs) found =
    let new : Entry (PendingOp T) = record x { item = record x.item { item = item } } in
    by_test (x.place == place)
    (λ here.
    let one : x.item ≡ op = some_is x.item op (sym (ap (λ b. cond b (Some x.item) (found_in place xs)) here) ∙ found) in
    ap (λ b. found_in place (cond b new x ∷ map (item_put place item) xs)) here
    ∙ ap (λ b. cond b (Some new.item) (found_in place (map (item_put place item) xs))) here
    ∙ ap (λ (y : PendingOp T). Some (record y { item = item })) one)
    (λ other.
    ap (λ b. found_in place (cond b new x ∷ map (item_put place item) xs)) other
    ∙ ap (λ b. cond b (Some x.item) (found_in place (map (item_put place item) xs))) other
    ∙ found_put place op item xs (sym (ap (λ b. cond b (Some x.item) (found_in place xs)) other) ∙ found))

pub numbered_put : {T : Type 0} (place : ℕ) (op : PendingOp T) (item : T) (xs : List (Entry (PendingOp T))) →
    Rises op_of xs → found_in place xs ≡ Some op →
    numbered_in op.op (map (item_put place item) xs) ≡ Some (record op { item = item })
numbered_put place op item [] rises found = absurd (cc)
numbered_put {T = T} place op item (x ∷ xs) rises found =
    let new : Entry (PendingOp T) = record x { item = record x.item { item = item } } in
    by_test (x.place == place)
    (λ here.
    let one : x.item ≡ op = some_is x.item op (sym (ap (λ b. cond b (Some x.item) (found_in place xs)) here) ∙ found) in
    ap (λ b. numbered_in op.op (cond b new x ∷ map (item_put place item) xs)) here
    ∙ ap (λ (y : PendingOp T). cond (y.op == op.op) (Some (record y { item = item }))
    (numbered_in op.op (map (item_put place item) xs))) one
    ∙ ap (λ b. cond b (Some (record op { item = item })) (numbered_in op.op (map (item_put place item) xs))) (same op.op))
    (λ other.
    let rest = sym (ap (λ b. cond b (Some x.item) (found_in place xs)) other) ∙ found in
    let less = each-in (λ (y : Entry (PendingOp T)). op_of x.item < op_of y.item) (record { place = place; item = op }) xs rises.0
    (found-in place op xs rest) in
    ap (λ b. numbered_in op.op (cond b new x ∷ map (item_put place item) xs)) other
    ∙ by_test (x.item.op == op.op)
    (λ this. let at = equal x.item.op op.op this in absurd (omega (arith, less, at)))
    (λ isnt.
    ap (λ b. cond b (Some x.item) (numbered_in op.op (map (item_put place item) xs))) isnt
    ∙ numbered_put place op item xs rises.1 rest))

-- what is found under another number
pub other_put : {T : Type 0} (n place : ℕ) (op it : PendingOp T) (item : T) (xs : List (Entry (PendingOp T))) →
    Each (λ x. x.place ≡ place → x.item ≡ op) xs → (op.op ≡ n → ⊥) → numbered_in n (map (item_put place item) xs) ≡ Some it →
    numbered_in n xs ≡ Some it
other_put n place op it item [] at other is = is
other_put {T = T} n place op it item (x ∷ xs) at other is =
    let new : Entry (PendingOp T) = record x { item = record x.item { item = item } } in
    let more : List (Entry (PendingOp T)) = map (item_put place item) xs in
    by_test (x.place == place)
    (λ here.
    let was : x.item ≡ op = at.0 (equal x.place place here) in
    let number : (x.item.op == n) ≡ false = ap (λ (y : PendingOp T). y.op == n) was ∙ apart_test op.op n other in
    let rest = sym (ap (λ b. numbered_in n (cond b new x ∷ more)) here) ∙ is in
    ap (λ b. cond b (Some x.item) (numbered_in n xs)) number
    ∙ other_put n place op it item xs at.1 other (sym (ap (λ b. cond b (Some new.item) (numbered_in n more)) number) ∙ rest))
    (λ elsewhere.
    let rest = sym (ap (λ b. numbered_in n (cond b new x ∷ more)) elsewhere) ∙ is in
    by_test (x.item.op == n)
    (λ this.
    ap (λ b. cond b (Some x.item) (numbered_in n xs)) this
    ∙ sym (ap (λ b. cond b (Some x.item) (numbered_in n more)) this) ∙ rest)
    (λ isnt.
    ap (λ b. cond b (Some x.item) (numbered_in n xs)) isnt
    ∙ other_put n place op it item xs at.1 other (sym (ap (λ b. cond b (Some x.item) (numbered_in n more)) isnt) ∙ rest)))

-- ---- what is kept

pub queue_back : (sd : Side) (stream : StreamState) → queue_of sd (returned stream) ≡ queue_of sd stream
queue_back side.Read stream = refl
queue_back side.Write stream = refl
queue_back side.Connect stream = refl

pub first_back : (sd : Side) (stream : StreamState) → first_of sd (returned stream) ≡ first_of sd stream
first_back sd stream = ap (λ q. slice_get q 0) (queue_back sd stream)

module _ {H : Type 0} (marks : H → Marks) (limits : Limits) (streams : StreamList (Streaming H)) (s : ContextState)
    (name : Name) (sd : Side) (place : ℕ) (op : PendingOp (Streaming H)) (item : Streaming H)
    (shows : ShowsStreams marks limits streams s) (whole : IsWhole streams)
    (found : found_in place streams.ops ≡ Some op) (head : IsHead name sd streams op) where
  kept_within : name.place < length streams.streams
  kept_within = first_within streams.streams name sd op.op head.first

  within : name.place < length s.streams
  within = subst (λ states. name.place < length states) shows.streams_are kept_within

  pub back_many : on_streams (with_stream name (returned (stream_at s.streams name)) s.streams) ≡ on_streams s.streams
  back_many = sum_same on_sides s.streams name (returned (stream_at s.streams name)) within refl

  -- it is still the first one
  pub back_head : IsHead name sd (with_item place item (back_in name streams)) (record op { item = item })
  back_head = record {
    first = kept_by (first_of sd) returned (first_back sd) streams.streams name kept_within name ∙ head.first;
    numbered = numbered_put place op item streams.ops whole.rises found;
    place = head.place;
    on = head.on;
  }

  -- so no other is settled
  pub back_still : IsLike op.item item → (other : Name) (on : Side) (it : PendingOp (Streaming H)) →
      IsHead other on (with_item place item (back_in name streams)) it →
      IsStill (stream_at (back_in name streams).streams other) it.item
  back_still like other on it first =
      let before = before_put it.op place op it item like streams.ops (at_place place op streams.ops whole.apart found)
      first.numbered in
      let old : IsHead other on streams before.op =
      record {
        first =
            sym (kept_by (first_of on) returned (first_back on) streams.streams name kept_within other)
            ∙ first.first ∙ ap Some (sym before.number);
        numbered = ap (λ n. numbered_in n streams.ops) before.number ∙ before.numbered;
        place = ap (λ (n : Name). n.place) before.stream ∙ first.place;
        on = before.side ∙ first.on;
      } in
      still_alike (stream_at streams.streams other) (stream_at (back_in name streams).streams other) it.item
      (at_with (GivesAlike (stream_at streams.streams other)) streams.streams name
      (returned (stream_at streams.streams name)) kept_within other
      (λ here.
      subst (λ k. GivesAlike (stream_at streams.streams (record { place = k; generation = other.generation }))
      (returned (stream_at streams.streams name))) here
      (record { linked = refl; connects = refl; held = refl; searched = refl }))
      (λ elsewhere. record { linked = refl; connects = refl; held = refl; searched = refl }))
      (still_as (stream_at streams.streams other) before.op.item it.item before.kind before.moved before.cancelled
      (shows.heads other on before.op old))

  pub back_pending : (new : ContextState) →
      new.streams ≡ with_stream name (returned (stream_at s.streams name)) s.streams →
      length new.names.streams ≡ length s.names.streams →
      AreStreaming marks new.ops (map (item_put place item) streams.ops) →
      ShowsPending marks limits (with_item place item (back_in name streams)) new
  back_pending new states places each =
      let more = length-map streams.ops (item_put place item) in
      let all = shows.all in let room = shows.room in let many = ap on_streams states ∙ back_many in
      let long = ap length states ∙ length-set s.streams name.place _ in
      record {
        streams_are = ap (λ xs. with_stream name (returned (stream_at xs name)) xs) shows.streams_are ∙ sym states;
        places = long ∙ shows.places ∙ sym places;
        few = subst (λ n. n < 2 ^ 32) (sym long) shows.few;
        each = each;
        all = omega (arith, more, all, many);
        room = omega (arith, more, room);
        plain = λ other.
            let plain = shows.plain name in
            subst (λ xs. IsPlain (stream_at xs other)) (sym states)
            (plain_with s.streams name (returned (stream_at s.streams name)) within
            (record { held = plain.held; searched = plain.searched; connects = plain.connects }) shows.plain other);
        busy = λ other on.
            subst (λ xs. is_out_for on (stream_at xs other).out ≡ true → first_of on (stream_at xs other) ≡ None → ⊥) (sym states)
            (at_with (λ st. is_out_for on st.out ≡ true → first_of on st ≡ None → ⊥) s.streams name
            (returned (stream_at s.streams name)) within other
            (λ here out none. true≢false (sym out)) (λ elsewhere. shows.busy other on));
      }

  pub back_tally : (t : Tally) (places : List Place) → (stream_at s.streams name).out ≡ Some sd → IsTally t s →
      IsTally (tally_back t)
      (with_placed places (with_stream name (returned (stream_at s.streams name)) s.streams) s)
  back_tally t places out tally =
      let sum = sum_with (λ (stream : StreamState). one_if (is_out stream.out)) s.streams name
      (returned (stream_at s.streams name)) within in
      let one : one_if (is_out (stream_at s.streams name).out) ≡ 1 = ap (λ o. one_if (is_out o)) out in
      let many = tally.out in
      placed_tally t (tally_back t) s _ _ refl refl refl back_many (omega (arith, sum, one, many)) tally
