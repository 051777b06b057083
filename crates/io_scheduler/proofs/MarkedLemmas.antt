-- A cancellation reaches all that is pending on a stream: what a system call is under way for is marked, and goes on
-- until that has returned; the others are settled.
use Rattle.std.proofs.Common.{arith, ap, refl, subst, sym, ◌∙◌}
use Rattle.std.proofs.lemmas.Bool.{true≢false}
use Rattle.std.proofs.lemmas.List.{length-map}
use Rattle.std.specs.Prelude.{◌≡◌, ℕ, ◌==◌, ◌&&◌, ◌||◌, not, cond, Bool, true, false, List, [], ◌∷◌, ◌++◌, Option, None, Some, map}
use Rattle.std.specs.List.{filter, slice_index_or}
use Rattle.std.specs.Option.{is_some}
use Rattle.asio_types.specs.declared.code.Code.TheVariants as code
use Rattle.io_rules.specs.declared.event.Event.TheVariants as event
use Rattle.io_rules.specs.declared.limits.Limits.{Limits}
use Rattle.io_rules.specs.declared.name.Name.{Name}
use Rattle.io_rules.specs.declared.op.Op.{Op}
use Rattle.io_rules.specs.declared.op.Phase.{Phase}
use Rattle.io_rules.specs.declared.op.Phase.TheVariants as phase
use Rattle.io_rules.specs.declared.op.Wait.{Wait}
use Rattle.io_rules.specs.declared.operation.Operation.{Operation}
use Rattle.io_rules.specs.declared.operation.Side.{Side}
use Rattle.io_rules.specs.declared.request.Marks.{Marks}
use Rattle.io_rules.specs.Cancelling.{cancelled, cancelled_phase, is_among, is_first, is_out_for, is_settled_by_cancel, is_tried, is_tried_at, ops_cancelled, pending_of, settles_at}
use Rattle.io_rules.specs.Completing.{others_than}
use Rattle.io_rules.specs.Names.{is_current}
use Rattle.io_rules.specs.Operations.{Target, at, target_of}
use Rattle.io_rules.specs.Ops.{is_pending, op_at, phase_changed, with_phase}
use Rattle.io_rules.specs.Serving.{first_of, served_on, stays}
use Rattle.io_rules.specs.State.{ContextState, StreamState, new_stream, stream_at}
use Rattle.io_rules.specs.Tries.{moved_by}
use Rattle.io_rules.proofs.StrandLemmas.{by_test, same-name}
use Rattle.io_rules.proofs.TotalLemmas.{apart, equal, number-op_at, same}
use Rattle.io_history.proofs.AtLemmas.{at-changed}
use Rattle.io_queues.specs.Queued.{found_in}
use Rattle.io_queues.proofs.FoundLemmas.{apart_test, found-in}
use Rattle.io_streams.specs.declared.pending.PendingOp.{PendingOp}
use Rattle.io_streams.specs.Kept.{IsWhole}
use Rattle.io_streams.specs.Pending.{Entry, IsHead, IsOnly, StreamList, is_of, is_tried_in, item_of, item_put, number_of, numbered_in, untried_on, with_item}
use Rattle.io_queues.specs.Ordered as queues
use Rattle.io_timers.specs.Kept.{Each}
use Rattle.io_timers.specs.Pending.{Timers}
use Rattle.io_scheduler.specs.declared.streaming.Streaming.{Streaming}
use Rattle.io_scheduler.specs.declared.waiting.Waiting.{Waiting}
use Rattle.io_scheduler.specs.Closing.{IsMarked, StillApart, aborted, aborted_ops, marked, marked_at, marked_if, moved_of, numbers_of, settled_of}
use Rattle.io_scheduler.specs.Expired.{left_waits}
use Rattle.io_scheduler.specs.Settling.{ShowsPending, gets_at_once}
use Rattle.io_scheduler.specs.Streams.{AreStreaming, IsPlain, IsStill, IsStreamingAs, ShowsStreams}
use Rattle.io_scheduler.specs.Waits.{ShowsWaits}
use Rattle.io_scheduler.proofs.BackLemmas.{out_is}
use Rattle.io_scheduler.proofs.BackedLemmas.{numbered_put, other_put}
use Rattle.io_scheduler.proofs.CameLemmas.{none_gets}
use Rattle.io_scheduler.proofs.CancelledLemmas.{IsToCancel, cancelled_alike, changed_comm, changed_twice, filter_twice, kept_test, settles_all, turned}
use Rattle.io_scheduler.proofs.ClosedLemmas.{each_to_cancel}
use Rattle.io_scheduler.proofs.GoesOnLemmas.{going_on, on_streaming}
use Rattle.io_scheduler.proofs.OnItLemmas.{in_among, is_untried, no_on, on_it, only_in, yes_on}
use Rattle.io_scheduler.proofs.ReadyLemmas.{at_changed}
use Rattle.io_scheduler.proofs.ServedLemmas.{phase-same}
use Rattle.io_scheduler.proofs.ServingLemmas.{as_served, served_is}
use Rattle.io_scheduler.proofs.SettledLemmas.{waits_same}
use Rattle.io_scheduler.proofs.TriedLemmas.{Heads, at_place, heads}

some_is : {X : Type 0} (a b : X) → Some a ≡ Some b → a ≡ b
some_is a b is = cc

-- ---- what is settled

-- one more, or not
more_if : {H : Type 0} (b : Bool) (x : Entry (PendingOp H)) (rest : List (Entry (PendingOp H))) (numbers : List ℕ) →
    numbers ≡ numbers_of rest → cond b (number_of x ∷ numbers) numbers ≡ numbers_of (cond b (x ∷ rest) rest)
more_if true x rest numbers is = ap (λ l. number_of x ∷ l) is
more_if false x rest numbers is = is

module _ {H : Type 0} (marks : H → Marks) (s : ContextState) (name : Name)
    (current : is_current s.names.streams name ≡ true) where
  abbrev at_name : StreamState
  at_name = stream_at s.streams name

  settles_if : (x : Entry (PendingOp (Streaming H))) → IsStreamingAs marks s.ops x.item → is_of name x ≡ true →
      is_settled_by_cancel s x.item.op ≡ not (is_tried_in at_name x.item)
  settles_if x it is =
      ap (settles_at s) it.is
      ∙ ap (λ p. is_pending p && not (is_tried s it.op)) it.phase
      ∙ ap (λ t. not (is_tried_at s it.op.number t)) (ap target_of it.kind ∙ it.target)
      ∙ ap (λ k. not (is_tried_at s k (at x.item.stream x.item.side))) (number-op_at x.item.op s.ops it.op it.is)
      ∙ ap (λ (n : Name). not (is_tried_at s x.item.op (at n x.item.side))) (same-name x.item.stream name is)
      ∙ ap (λ b. not (b && is_out_for x.item.side at_name.out && is_first (first_of x.item.side at_name) x.item.op)) current

  settled_are : (xs : List (Entry (PendingOp (Streaming H)))) → AreStreaming marks s.ops xs →
      filter (is_settled_by_cancel s) (numbers_of (on_it name xs)) ≡ numbers_of (filter (is_untried name at_name) xs)
  settled_are [] all = refl
  settled_are (x ∷ xs) all =
      let test : Entry (PendingOp (Streaming H)) → Bool = is_untried name at_name in
      let later = settled_are xs all.1 in
      let numbers = filter (is_settled_by_cancel s) (numbers_of (on_it name xs)) in
      let tried = is_tried_in at_name x.item in
      by_test (is_of name x)
      (λ yes.
      ap (λ l. filter (is_settled_by_cancel s) (numbers_of l)) (yes_on name x xs yes)
      ∙ ap (λ b. cond b (number_of x ∷ numbers) numbers) (settles_if x all.0 yes)
      ∙ more_if (not tried) x (filter test xs) numbers later
      ∙ sym (ap (λ b. numbers_of (cond (b && not tried) (x ∷ filter test xs) (filter test xs))) yes))
      (λ other.
      ap (λ l. filter (is_settled_by_cancel s) (numbers_of l)) (no_on name x xs other) ∙ later
      ∙ sym (ap (λ b. numbers_of (cond (b && not tried) (x ∷ filter test xs) (filter test xs))) other))

  pub settled_on : (streams : StreamList (Streaming H)) → streams.streams ≡ s.streams → AreStreaming marks s.ops streams.ops →
      pending_of name s ≡ numbers_of (on_it name streams.ops) → settled_of name s ≡ numbers_of (untried_on name streams)
  settled_on streams are all reached =
      ap (filter (is_settled_by_cancel s)) reached ∙ settled_are streams.ops all
      ∙ ap (λ xs. numbers_of (filter (is_untried name (stream_at xs name)) streams.ops)) (sym are)

-- how far each has come
pub aborted_are : {H : Type 0} (marks : H → Marks) (s : ContextState) (test : Entry (PendingOp (Streaming H)) → Bool)
    (xs : List (Entry (PendingOp (Streaming H)))) → AreStreaming marks s.ops xs →
    aborted s (numbers_of (filter test xs)) ≡ aborted_ops (filter test xs)
aborted_are marks s test [] all = refl
aborted_are {H} marks s test (x ∷ xs) all = by_test_of (test x) (aborted_are marks s test xs all.1)
  where
    by_test_of : (b : Bool) → aborted s (numbers_of (filter test xs)) ≡ aborted_ops (filter test xs) →
        aborted s (numbers_of (cond b (x ∷ filter test xs) (filter test xs)))
        ≡ aborted_ops (cond b (x ∷ filter test xs) (filter test xs))
    by_test_of true rest =
        let it = all.0 in
        ap (λ o. event.Done x.item.op code.Aborted (moved_of o) ∷ aborted s (numbers_of (filter test xs))) it.is
        ∙ ap (λ p. event.Done x.item.op code.Aborted (moved_by p) ∷ aborted s (numbers_of (filter test xs))) it.phase
        ∙ ap (λ l. event.Done x.item.op code.Aborted x.item.item.moved ∷ l) rest
    by_test_of false rest = rest

-- none of them is a wait
pub waits_free : (numbers : List ℕ) (waits : List Wait) → Each (λ n. left_waits n waits ≡ waits) numbers →
    filter (λ wait. not (is_among numbers wait.op)) waits ≡ waits
waits_free [] waits all = all_of waits
  where
    all_of : (ws : List Wait) → filter (λ wait. not (is_among [] wait.op)) ws ≡ ws
    all_of [] = refl
    all_of (w ∷ ws) = ap (λ l. w ∷ l) (all_of ws)
waits_free (n ∷ numbers) waits all =
    filter_twice (λ wait. not (wait.op == n)) (λ wait. not (is_among numbers wait.op)) (λ wait. not (is_among (n ∷ numbers) wait.op))
    (λ wait. kept_test n wait.op (is_among numbers wait.op)) waits
    ∙ ap (filter (λ (wait : Wait). not (is_among numbers wait.op))) all.0
    ∙ waits_free numbers waits all.1

each_waits : {H : Type 0} (marks : H → Marks) (limits : Limits) (timers : Timers (Waiting H)) (s : ContextState)
    (test : Entry (PendingOp (Streaming H)) → Bool) (xs : List (Entry (PendingOp (Streaming H)))) →
    ShowsWaits marks limits timers s → AreStreaming marks s.ops xs →
    Each (λ n. left_waits n s.waits ≡ s.waits) (numbers_of (filter test xs))
each_waits marks limits timers s test [] waits all = tt
each_waits {H} marks limits timers s test (x ∷ xs) waits all =
    by_pass (test x) (each_waits marks limits timers s test xs waits all.1)
  where
    by_pass : (b : Bool) → Each (λ n. left_waits n s.waits ≡ s.waits) (numbers_of (filter test xs)) →
        Each (λ n. left_waits n s.waits ≡ s.waits) (numbers_of (cond b (x ∷ filter test xs) (filter test xs)))
    by_pass true rest = (waits_same marks limits timers s x.item all.0 waits, rest)
    by_pass false rest = rest

-- ---- a mark

or_true : (b : Bool) → (b || true) ≡ true
or_true true = refl
or_true false = refl

-- it counts once, whatever else is cancelled
mark_comm : (s : ContextState) (m : ℕ) (p : Phase) (numbers : List ℕ) (ops : List Op) →
    with_phase m p (ops_cancelled s numbers ops) ≡ ops_cancelled s (others_than m numbers) (with_phase m p ops)
mark_comm s m p [] ops = refl
mark_comm s m p (k ∷ numbers) ops =
    let g : Op → Phase = λ op. cancelled_phase (is_tried s op) op.phase in
    let left : Bool → List ℕ = λ b. cond (not b) (k ∷ others_than m numbers) (others_than m numbers) in
    mark_comm s m p numbers (phase_changed k g ops)
    ∙ by_test (k == m)
    (λ here.
    ap (λ j. ops_cancelled s (others_than m numbers) (with_phase m p (phase_changed j g ops))) (equal k m here)
    ∙ ap (ops_cancelled s (others_than m numbers)) (changed_twice m p g ops)
    ∙ sym (ap (λ b. ops_cancelled s (left b) (with_phase m p ops)) here))
    (λ other.
    ap (ops_cancelled s (others_than m numbers)) (changed_comm k m (λ o. p) g ops (λ is. apart k m other (sym is)))
    ∙ sym (ap (λ b. ops_cancelled s (left b) (with_phase m p ops)) other))

record MarkedAt (m moved : ℕ) (ops : List Op) : Type 0 where
  op : Op
  is : op_at ops m ≡ Some op
  phase : op.phase ≡ phase.Pending moved true

marked_there : (s : ContextState) (m moved : ℕ) (numbers : List ℕ) (ops : List Op) (x : Op) (c : Bool) →
    op_at ops m ≡ Some x → is_tried s x ≡ true → x.phase ≡ phase.Pending moved c → (is_among numbers m || c) ≡ true →
    MarkedAt m moved (ops_cancelled s numbers ops)
marked_there s m moved [] ops x c is tried was set = record { op = x; is = is; phase = was ∙ ap (phase.Pending moved) set }
marked_there s m moved (k ∷ numbers) ops x c is tried was set =
    let g : Op → Phase = λ op. cancelled_phase (is_tried s op) op.phase in
    by_test (k == m)
    (λ here.
    marked_there s m moved numbers (phase_changed k g ops) (record x { phase = g x }) true
    (ap (λ j. op_at (phase_changed j g ops) m) (equal k m here) ∙ at_changed m g ops x is) tried
    (ap (λ t. cancelled_phase t x.phase) tried ∙ ap (cancelled_phase true) was) (or_true (is_among numbers m)))
    (λ other.
    marked_there s m moved numbers (phase_changed k g ops) x c
    (at-changed k m g ops x (λ (here : k ≡ m). absurd (apart k m other (sym here))) is) tried was
    (sym (ap (λ b. (b || is_among numbers m) || c) other) ∙ set))

-- whether another item lies at a place or not
put_by : {T : Type 0} (P : Entry (PendingOp T) → Type 0) (place : ℕ) (item : T) (x : Entry (PendingOp T)) → P x →
    ((x.place == place) ≡ true → P (record x { item = record x.item { item = item } })) → P (item_put place item x)
put_by {T} P place item x old new =
    let parts : Bool → Entry (PendingOp T) = λ b. cond b (record x { item = record x.item { item = item } }) x in
    by_test (x.place == place)
    (λ here. subst (λ b. P (parts b)) (sym here) (new here)) (λ other. subst (λ b. P (parts b)) (sym other) old)

-- what is told of each that passes is the same
map_same : {T X : Type 0} (f : Entry (PendingOp T) → X) (test : Entry (PendingOp T) → Bool)
    (put : Entry (PendingOp T) → Entry (PendingOp T)) (xs : List (Entry (PendingOp T))) →
    Each (λ x. (test (put x) ≡ test x) × (f (put x) ≡ f x)) xs →
    map f (filter test (map put xs)) ≡ map f (filter test xs)
map_same f test put [] all = refl
map_same {T} {X} f test put (x ∷ xs) all =
    ap (λ b. map f (cond b (put x ∷ filter test (map put xs)) (filter test (map put xs)))) all.0.0
    ∙ by_pass (test x) (map_same f test put xs all.1)
  where
    by_pass : (b : Bool) → map f (filter test (map put xs)) ≡ map f (filter test xs) →
        map f (cond b (put x ∷ filter test (map put xs)) (filter test (map put xs)))
        ≡ map f (cond b (x ∷ filter test xs) (filter test xs))
    by_pass true rest = ap (λ y. y ∷ map f (filter test (map put xs))) all.0.1 ∙ ap (λ l. f x ∷ l) rest
    by_pass false rest = rest

pub only_put : {T : Type 0} (name : Name) (place : ℕ) (item : T) (xs : List (Entry (PendingOp T))) → IsOnly name xs →
    IsOnly name (map (item_put place item) xs)
only_put name place item [] only = tt
only_put name place item (x ∷ xs) only = (
  put_by (λ y. (y.item.stream.place == name.place) ≡ is_of name y) place item x only.0 (λ here. only.0),
  only_put name place item xs only.1,
)

-- a mark settles nothing
still_marked : (stream : StreamState) (kind : Operation) (moved : ℕ) (c d : Bool) → IsPlain stream →
    served_on stream moved c kind ≡ stays moved c stream.held → served_on stream moved d kind ≡ stays moved d stream.held
still_marked stream kind moved c d plain is =
    let none = none_gets (gets_at_once stream.linked kind moved) moved stream.held c
    (sym (served_is stream moved c plain kind) ∙ is) in
    served_is stream moved d plain kind ∙ ap (λ g. as_served g moved d stream.held) none

abbrev side_or : Side → Option Target → Side
side_or on None = on
side_or on (Some target) = target.side

same_side_is : (a b : Side) → is_out_for a (Some b) ≡ true → b ≡ a
same_side_is a b is = some_is b a (out_is a (Some b) is)

side_itself : (a b : Side) → a ≡ b → is_out_for a (Some b) ≡ is_out_for b (Some b)
side_itself a b is = ap (λ o. is_out_for o (Some b)) is

-- the first of a side is marked where it lies
pub marked_by : {H : Type 0} (name : Name) (sd : Side) (old new : StreamList (Streaming H)) (place : ℕ) →
    is_some (found_in place old.ops) ≡ true →
    ((op : PendingOp (Streaming H)) → found_in place old.ops ≡ Some op → IsHead name sd old op) →
    new ≡ marked_at place old → IsMarked name sd old new
marked_by {H} name sd old new place there head is = by_found (found_in place old.ops) refl there
  where
    by_found : (o : Option (PendingOp (Streaming H))) → found_in place old.ops ≡ o → is_some o ≡ true → IsMarked name sd old new
    by_found None found some = absurd (true≢false (sym some))
    by_found (Some op) found some = record {
      place = place;
      op = op;
      found = found;
      head = head op found;
      is = is ∙ ap (λ o. marked_if place (item_of o) old) found;
    }

module _ {H : Type 0} (marks : H → Marks) (limits : Limits) (timers : Timers (Waiting H)) (streams : StreamList (Streaming H))
    (s : ContextState) (name : Name) (sd : Side) (place : ℕ) (op : PendingOp (Streaming H))
    (current : is_current s.names.streams name ≡ true) (only : IsOnly name streams.ops)
    (waits : ShowsWaits marks limits timers s) (shows : ShowsStreams marks limits streams s) (whole : IsWhole streams)
    (found : found_in place streams.ops ≡ Some op) (head : IsHead name sd streams op)
    (out : is_out_for sd (stream_at streams.streams name).out ≡ true) where
  abbrev stream : StreamState
  stream = stream_at streams.streams name

  abbrev item : Streaming H
  item = marked op.item

  abbrev kept : StreamList (Streaming H)
  kept = with_item place item streams

  abbrev now : ContextState
  now = going_on op.op op.item.moved true s

  has : Heads marks s name sd op
  has = heads marks limits streams s name sd shows op head

  at_all : queues.Each (λ x. x.place ≡ place → x.item ≡ op) streams.ops
  at_all = at_place place op streams.ops whole.apart found

  new_streaming : IsStreamingAs marks now.ops (record op { item = item })
  new_streaming = record {
    op = record has.known.op { phase = phase.Pending op.item.moved true };
    is = at_changed op.op (λ o. phase.Pending op.item.moved true) s.ops has.known.op has.known.is;
    lane = has.known.lane;
    binding = has.known.binding;
    kind = has.known.kind;
    target = has.known.target;
    given = has.known.given;
    phase = refl;
  }

  now_streaming : AreStreaming marks now.ops kept.ops
  now_streaming =
      on_streaming op.op op.item.moved true s has.known.op has.known.is op.item.moved op.item.cancelled has.known.phase
      marks op has.known refl place item streams.ops whole.rises at_all found new_streaming shows.each

  pub marked_pending : ShowsPending marks limits kept now
  marked_pending =
      let more = length-map streams.ops (item_put place item) in
      let all = shows.all in let room = shows.room in
      record {
        streams_are = shows.streams_are;
        places = shows.places;
        few = shows.few;
        each = now_streaming;
        all = omega (arith, more, all);
        room = omega (arith, more, room);
        plain = shows.plain;
        busy = shows.busy;
      }

  pub marked_still : StillApart name kept
  marked_still other on x first apart_from =
      by_test (x.op == op.op)
      (λ here.
      let same_op : x ≡ record op { item = item } =
      some_is x (record op { item = item })
      (sym first.numbered ∙ ap (λ n. numbered_in n kept.ops) (equal x.op op.op here) ∙ numbered_put place op item streams.ops whole.rises found) in
      let was : IsHead other on streams op =
      record {
        first = first.first ∙ ap Some (equal x.op op.op here);
        numbered = head.numbered;
        place = ap (λ (y : PendingOp (Streaming H)). y.stream.place) (sym same_op) ∙ first.place;
        on = ap (λ (y : PendingOp (Streaming H)). y.side) (sym same_op) ∙ first.on;
      } in
      subst (λ (y : PendingOp (Streaming H)). IsStill (stream_at streams.streams other) y.item) (sym same_op)
      (still_marked (stream_at streams.streams other) op.item.kind op.item.moved op.item.cancelled true
      (subst (λ xs. IsPlain (stream_at xs other)) (sym shows.streams_are) (shows.plain other))
      (shows.heads other on op was)))
      (λ isnt.
      shows.heads other on x
      (record {
        first = first.first;
        numbered = other_put x.op place op x item streams.ops at_all (λ is. apart x.op op.op isnt is) first.numbered;
        place = first.place;
        on = first.on;
      }))

  -- ---- the others are as they were

  put_told : {X : Type 0} (f : Entry (PendingOp (Streaming H)) → X) →
      ((x : Entry (PendingOp (Streaming H))) → x.item ≡ op → f (record x { item = record x.item { item = item } }) ≡ f x) →
      (xs : List (Entry (PendingOp (Streaming H)))) → queues.Each (λ x. x.place ≡ place → x.item ≡ op) xs →
      Each (λ x. (is_untried name stream (item_put place item x) ≡ is_untried name stream x) × (f (item_put place item x) ≡ f x)) xs
  put_told f alike [] all = tt
  put_told f alike (x ∷ xs) all = (
    (
      put_by (λ y. is_untried name stream y ≡ is_untried name stream x) place item x refl (λ here. refl),
      put_by (λ y. f y ≡ f x) place item x refl (λ here. alike x (all.0 (equal x.place place here))),
    ),
    put_told f alike xs all.1,
  )

  pub marked_numbers : numbers_of (untried_on name kept) ≡ numbers_of (untried_on name streams)
  marked_numbers =
      map_same number_of (is_untried name stream) (item_put place item) streams.ops
      (put_told number_of (λ x is. refl) streams.ops at_all)

  pub marked_ops : aborted_ops (untried_on name kept) ≡ aborted_ops (untried_on name streams)
  marked_ops =
      map_same (λ it. event.Done it.item.op code.Aborted it.item.item.moved) (is_untried name stream) (item_put place item)
      streams.ops
      (put_told (λ it. event.Done it.item.op code.Aborted it.item.item.moved)
      (λ x is. ap (λ (y : PendingOp (Streaming H)). event.Done x.item.op code.Aborted y.item.moved) (sym is)) streams.ops at_all)

  -- ---- the state

  out_at : stream.out ≡ Some sd
  out_at = out_is sd stream.out out

  -- just the one that is first of this side
  tried_number : (x : PendingOp (Streaming H)) → IsStreamingAs marks s.ops x → is_tried_in stream x ≡ (x.op == op.op)
  tried_number x it =
      ap (λ o. is_out_for x.side o && is_first (first_of x.side stream) x.op) out_at
      ∙ by_test (is_out_for x.side (Some sd))
      (λ yes.
      ap (λ b. b && is_first (first_of x.side stream) x.op) yes
      ∙ ap (λ o. is_first (first_of o stream) x.op) (sym (same_side_is x.side sd yes))
      ∙ ap (λ f. is_first f x.op) head.first ∙ turned op.op x.op)
      (λ other.
      ap (λ b. b && is_first (first_of x.side stream) x.op) other
      ∙ sym (apart_test x.op op.op
      (λ (here : x.op ≡ op.op).
      let ops : it.op ≡ has.known.op = some_is it.op has.known.op (sym it.is ∙ ap (op_at s.ops) here ∙ has.known.is) in
      let sides : x.side ≡ op.side =
      ap (side_or sd) (sym (ap target_of it.kind ∙ it.target) ∙ ap (λ (o : Op). target_of o.kind) ops
      ∙ ap target_of has.known.kind ∙ has.known.target) in
      true≢false
      (sym (ap (λ o. is_out_for sd o) (sym out_at) ∙ out) ∙ sym (side_itself x.side sd (sides ∙ head.on)) ∙ other))))

  others_are : (xs : List (Entry (PendingOp (Streaming H)))) → AreStreaming marks s.ops xs →
      others_than op.op (numbers_of (on_it name xs)) ≡ numbers_of (filter (is_untried name stream) xs)
  others_are [] all = refl
  others_are (x ∷ xs) all =
      let test : Entry (PendingOp (Streaming H)) → Bool = is_untried name stream in
      let later = others_are xs all.1 in
      let numbers = others_than op.op (numbers_of (on_it name xs)) in
      let tried = is_tried_in stream x.item in
      by_test (is_of name x)
      (λ yes.
      ap (λ l. others_than op.op (numbers_of l)) (yes_on name x xs yes)
      ∙ ap (λ b. cond (not b) (number_of x ∷ numbers) numbers) (sym (tried_number x.item all.0))
      ∙ more_if (not tried) x (filter test xs) numbers later
      ∙ sym (ap (λ b. numbers_of (cond (b && not tried) (x ∷ filter test xs) (filter test xs))) yes))
      (λ other.
      ap (λ l. others_than op.op (numbers_of l)) (no_on name x xs other) ∙ later
      ∙ sym (ap (λ b. numbers_of (cond (b && not tried) (x ∷ filter test xs) (filter test xs))) other))

  it_tried : is_tried s has.known.op ≡ true
  it_tried =
      let here : stream_at s.streams op.stream ≡ stream =
      ap (λ k. slice_index_or s.streams k new_stream) head.place ∙ ap (λ xs. stream_at xs name) (sym shows.streams_are) in
      let of_it : is_of name (record { place = place; item = op }) ≡ true =
      sym (only_in name (record { place = place; item = op }) streams.ops only (found-in place op streams.ops found))
      ∙ ap (λ k. k == name.place) head.place ∙ same name.place in
      ap (is_tried_at s has.known.op.number) (ap target_of has.known.kind ∙ has.known.target)
      ∙ ap (λ k. is_tried_at s k (at op.stream op.side)) (number-op_at op.op s.ops has.known.op has.known.is)
      ∙ ap (λ (n : Name). is_current s.names.streams n && is_out_for op.side (stream_at s.streams op.stream).out
      && is_first (first_of op.side (stream_at s.streams op.stream)) op.op) (same-name op.stream name of_it)
      ∙ ap (λ b. b && is_out_for op.side (stream_at s.streams op.stream).out
      && is_first (first_of op.side (stream_at s.streams op.stream)) op.op) current
      ∙ ap (λ (st : StreamState). is_out_for op.side st.out && is_first (first_of op.side st) op.op) here
      ∙ tried_number op has.known ∙ same op.op

  listed : is_among (numbers_of (on_it name streams.ops)) op.op ≡ true
  listed =
      let entry : Entry (PendingOp (Streaming H)) = record { place = place; item = op } in
      let there = found-in place op streams.ops found in
      in_among (is_of name) entry streams.ops there
      (sym (only_in name entry streams.ops only there) ∙ ap (λ k. k == name.place) head.place ∙ same name.place)

  tried_alike : (k : ℕ) (t : Option Target) → is_tried_at now k t ≡ is_tried_at s k t
  tried_alike k None = refl
  tried_alike k (Some t) = refl

  abbrev all_numbers : List ℕ
  all_numbers = numbers_of (on_it name streams.ops)

  abbrev left_numbers : List ℕ
  left_numbers = numbers_of (untried_on name kept)

  ops_are : ops_cancelled s all_numbers s.ops ≡ ops_cancelled now left_numbers now.ops
  ops_are =
      let p : Phase = phase.Pending op.item.moved true in
      let there = marked_there s op.op op.item.moved all_numbers s.ops has.known.op op.item.cancelled has.known.is it_tried
      has.known.phase (ap (λ b. b || op.item.cancelled) listed) in
      sym (phase-same op.op (λ o. p) (ops_cancelled s all_numbers s.ops) there.op there.is (sym there.phase))
      ∙ mark_comm s op.op p all_numbers s.ops
      ∙ ap (λ l. ops_cancelled s l now.ops) (others_are streams.ops shows.each ∙ sym marked_numbers)
      ∙ sym (cancelled_alike s now (λ o. tried_alike o.number (target_of o.kind)) left_numbers now.ops)

  settled_now_are : filter (is_settled_by_cancel s) all_numbers ≡ filter (is_settled_by_cancel now) left_numbers
  settled_now_are =
      settled_are marks s name current streams.ops shows.each
      ∙ ap (λ xs. numbers_of (filter (is_untried name (stream_at xs name)) streams.ops)) (sym shows.streams_are)
      ∙ sym marked_numbers
      ∙ sym (settles_all now left_numbers
      (subst (λ xs. Each (IsToCancel now) (numbers_of (filter (is_untried name (stream_at xs name)) kept.ops))) (sym shows.streams_are)
      (each_to_cancel marks now name kept.ops now_streaming)))

  waits_are : filter (λ wait. not (is_among all_numbers wait.op)) s.waits
      ≡ filter (λ wait. not (is_among left_numbers wait.op)) s.waits
  waits_are =
      waits_free all_numbers s.waits (each_waits marks limits timers s (is_of name) streams.ops waits shows.each)
      ∙ sym (ap (λ l. filter (λ (wait : Wait). not (is_among l wait.op)) s.waits) marked_numbers
      ∙ waits_free (numbers_of (untried_on name streams)) s.waits
      (each_waits marks limits timers s (is_untried name stream) streams.ops waits shows.each))

  -- all that is pending is cancelled: it is marked, and then the others are
  pub marked_is : pending_of name s ≡ all_numbers → cancelled (pending_of name s) s ≡ cancelled left_numbers now
  marked_is reached =
      ap (λ l. cancelled l s) reached
      ∙ ap (λ (os : List Op). record (cancelled all_numbers s) { ops = os }) ops_are
      ∙ ap (λ (l : List ℕ). record (cancelled all_numbers s) {
        ops = ops_cancelled now left_numbers now.ops;
        settled = s.settled ++ l;
      }) settled_now_are
      ∙ ap (λ (ws : List Wait). record (cancelled left_numbers now) { waits = ws }) waits_are
