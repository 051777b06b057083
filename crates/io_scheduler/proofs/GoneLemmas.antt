-- A stream or a listener is closed: what is kept shows the state behind it, first and last.
use Rattle.std.proofs.Common.{arith, ap, refl, subst, sym, ◌∙◌}
use Rattle.std.proofs.lemmas.Bool.{true≢false}
use Rattle.std.proofs.lemmas.List.{append-nil, length-set}
use Rattle.std.specs.Prelude.{◌≡◌, ◌<◌, ◌^◌, ℕ, ◌==◌, ◌&&◌, not, cond, Bool, true, false, List, [], ◌∷◌, Option, None, Some, length, map, slice_get, if◌then◌else◌}
use Rattle.std.specs.List.{filter, slice_index_or}
use Rattle.io_rules.specs.declared.control.Control.TheVariants as control
use Rattle.io_rules.specs.declared.event.Event.{Event}
use Rattle.io_rules.specs.declared.event.Event.TheVariants as event
use Rattle.io_rules.specs.declared.limits.Limits.{Limits}
use Rattle.io_rules.specs.declared.name.Name.{Name}
use Rattle.io_rules.specs.declared.op.Wait.{Wait}
use Rattle.io_rules.specs.declared.operation.Side.{Side}
use Rattle.io_rules.specs.declared.operation.Side.TheVariants as side
use Rattle.io_rules.specs.declared.place.Life.{Life}
use Rattle.io_rules.specs.declared.place.Life.TheVariants as life
use Rattle.io_rules.specs.declared.place.Place.{Place}
use Rattle.io_rules.specs.declared.request.Marks.{Marks}
use Rattle.io_rules.specs.Cancelling.{cancelled, is_among, is_first, is_out_for, pending_of, queue_of, same_side}
use Rattle.io_rules.specs.Changes.{is_out, is_there, place_freed}
use Rattle.io_rules.specs.Legal.{IsLegal, after, state_of}
use Rattle.io_rules.specs.Names.{Names, is_alive, is_current, is_living, is_unused, place_at}
use Rattle.io_rules.specs.Operations.{target_of}
use Rattle.io_rules.specs.Ops.{is_pending}
use Rattle.io_rules.specs.Room.{one_if}
use Rattle.io_rules.specs.Serving.{first_of}
use Rattle.io_rules.specs.State.{ContextState, StreamState, new_stream, stream_at, with_stream}
use Rattle.io_rules.proofs.RiseLemmas.{ops_rise}
use Rattle.io_rules.proofs.StrandLemmas.{both, by_test}
use Rattle.io_rules.proofs.TotalLemmas.{equal, same}
use Rattle.io_strands.specs.declared.ready.ReadyOp.{ReadyOp}
use Rattle.io_strands.specs.Cell.{Cell}
use Rattle.io_jobs.specs.Listed.{JobList}
use Rattle.io_streams.specs.declared.pending.PendingOp.{PendingOp}
use Rattle.io_streams.specs.Kept.{IsWhole}
use Rattle.io_streams.specs.Pending.{Entry, IsHead, IsIdle, IsOnly, StreamList, forgotten, is_at, is_of, is_tried_in, number_of, untried_on}
use Rattle.io_timers.specs.Pending.{Timers}
use Rattle.io_scheduler.specs.declared.counts.Counts.{Counts}
use Rattle.io_scheduler.specs.declared.streaming.Streaming.{Streaming}
use Rattle.io_scheduler.specs.declared.tally.Tally.{Tally}
use Rattle.io_scheduler.specs.declared.waiting.Waiting.{Waiting}
use Rattle.io_scheduler.specs.Closing.{IsClosing, IsMarkedIf, aborted, aborted_ops, closings, marked, names_closed, numbers_of, settled_of, vacated, with_closed}
use Rattle.io_scheduler.specs.Come.{HaveCome}
use Rattle.io_scheduler.specs.Opened.{socket_kind}
use Rattle.io_scheduler.specs.Shown.{Shows}
use Rattle.io_scheduler.specs.Streaming.{on_sides, on_streams, out_in}
use Rattle.io_scheduler.specs.Streams.{AreStreaming, IsStill, ShowsStreams}
use Rattle.io_scheduler.specs.Tallied.{IsTally}
use Rattle.io_scheduler.specs.Waits.{ShowsWaits}
use Rattle.io_scheduler.proofs.AbsentLemmas.{headed, sides_equal}
use Rattle.io_scheduler.proofs.GoesOnLemmas.{going_on, on_shown, on_tally, on_waits}
use Rattle.io_scheduler.proofs.KnownCalledLemmas.{current_same}
use Rattle.io_scheduler.proofs.KnownLemmas.{are_known}
use Rattle.io_scheduler.proofs.LeftOnLemmas.{come_behind}
use Rattle.io_scheduler.proofs.MarkedLemmas.{aborted_are, marked_is, marked_ops, marked_pending, marked_still, only_put, settled_on}
use Rattle.io_scheduler.proofs.OnItLemmas.{in_among, is_untried, no_on, on_it, only_in, yes_on}
use Rattle.io_scheduler.proofs.PlacedLemmas.{alive_within, at_with, placed_shown, placed_tally, placed_waits, plain_with, sum_same, with_placed}
use Rattle.io_scheduler.proofs.ReachedLemmas.{reached_are}
use Rattle.io_scheduler.proofs.StayedLemmas.{none_among}
use Rattle.io_scheduler.proofs.TriedLemmas.{heads}

-- ---- first

-- the kind of a socket is told by what it is
kind_there : (s : ContextState) (name : Name) (listener : Bool) → is_alive s.names.streams name ≡ true →
    (stream_at s.streams name).listener ≡ listener → is_there s (socket_kind listener) name ≡ true
kind_there s name true alive is = ap (λ b. b && (stream_at s.streams name).listener) alive ∙ is
kind_there s name false alive is = ap (λ b. b && not (stream_at s.streams name).listener) alive ∙ ap not is

abbrev pub freed_by : Name → ContextState → Bool → Bool → ContextState
freed_by name s there kept =
    record (cancelled (if there then pending_of name s else []) s) {
      names = record s.names { streams = place_freed there kept name s.names.streams };
      streams = if there && not kept then with_stream name new_stream s.streams else s.streams;
    }

freed_is : (s : ContextState) (name : Name) (kept : Bool) →
    freed_by name s true kept ≡ with_closed kept name (cancelled (pending_of name s) s)
freed_is s name true = refl
freed_is s name false = refl

after_freed : (s : ContextState) (by : Option ℕ) (name : Name) (listener : Bool) → is_alive s.names.streams name ≡ true →
    (stream_at s.streams name).listener ≡ listener →
    after (event.Changed by (control.Free (socket_kind listener) name)) s
    ≡ with_closed (is_out (stream_at s.streams name).out) name (cancelled (pending_of name s) s)
after_freed s by name true alive is =
    ap (λ b. freed_by name s b (is_out (stream_at s.streams name).out)) (kind_there s name true alive is)
    ∙ freed_is s name (is_out (stream_at s.streams name).out)
after_freed s by name false alive is =
    ap (λ b. freed_by name s b (is_out (stream_at s.streams name).out)) (kind_there s name false alive is)
    ∙ freed_is s name (is_out (stream_at s.streams name).out)

pub out_none : (out : Option Side) → is_out out ≡ false → out ≡ None
out_none None is = refl
out_none (Some on) is = absurd (true≢false is)

pub socket_within : {H : Type 0} (marks : H → Marks) (limits : Limits) (streams : StreamList (Streaming H)) (s : ContextState)
    (name : Name) → ShowsStreams marks limits streams s → is_alive s.names.streams name ≡ true →
    name.place < length streams.streams
socket_within marks limits streams s name kept alive =
    let place = alive_within s.names.streams name alive in
    let many = kept.places in let long = ap length kept.streams_are in
    omega (arith, place, many, long)

-- what is pending at its place is its own
only_alive : {H : Type 0} (marks : H → Marks) (limits : Limits) (past : List Event) (name : Name)
    (xs : List (Entry (PendingOp (Streaming H)))) → IsLegal limits past →
    is_current (state_of limits past).names.streams name ≡ true → AreStreaming marks (state_of limits past).ops xs →
    IsOnly name xs
only_alive marks limits past name [] legal current all = tt
only_alive marks limits past name (x ∷ xs) legal current all = (
  by_test (x.item.stream.place == name.place)
      (λ here.
      let it = all.0 in
      let known = are_known limits past legal x.item.op it.op (record { stream = x.item.stream; side = x.item.side }) it.is
      (ap is_pending it.phase) (ap target_of it.kind ∙ it.target) in
      here
      ∙ sym (current_same (state_of limits past).names.streams x.item.stream name known.current current
      (equal x.item.stream.place name.place here)))
      (λ other. other ∙ sym (ap (λ b. b && (x.item.stream.generation == name.generation)) other)),
  only_alive marks limits past name xs legal current all.1,
)

side_out : (on : Side) → is_out_for on (Some on) ≡ true
side_out side.Read = refl
side_out side.Write = refl
side_out side.Connect = refl

-- where its socket is in no system call, nothing of it is tried
and_on : (b : Bool) → (b && true) ≡ b
and_on true = refl
and_on false = refl

filter_alike : {X : Type 0} (p q : X → Bool) → ((x : X) → p x ≡ q x) → (xs : List X) → filter p xs ≡ filter q xs
filter_alike p q are [] = refl
filter_alike p q are (x ∷ xs) =
    ap (λ b. cond b (x ∷ filter p xs) (filter p xs)) (are x)
    ∙ ap (λ l. cond (q x) (x ∷ l) l) (filter_alike p q are xs)

untried_all : {T : Type 0} (name : Name) (s : StreamList T) → (stream_at s.streams name).out ≡ None →
    untried_on name s ≡ on_it name s.ops
untried_all {T} name s back =
    filter_alike (is_untried name (stream_at s.streams name)) (is_of name)
    (λ (op : Entry (PendingOp T)).
    ap
    (λ o. is_of name op && not (is_out_for op.item.side o && is_first (first_of op.item.side (stream_at s.streams name)) op.item.op))
    back
    ∙ and_on (is_of name op))
    s.ops

module _ {H S : Type 0} (marks : H → Marks) (limits : Limits) (past : List Event) (counts : Counts) (names : Names)
    (cells : List (Cell H S)) (jobs : JobList (ReadyOp H)) (timers : Timers (Waiting H)) (streams : StreamList (Streaming H))
    (tally : Tally) (name : Name) (by : Option ℕ) (listener : Bool) (legal : IsLegal limits past)
    (alive : is_alive (state_of limits past).names.streams name ≡ true)
    (shows : Shows marks limits counts names cells jobs (state_of limits past)) (tallied : IsTally tally (state_of limits past))
    (waits : ShowsWaits marks limits timers (state_of limits past))
    (streaming : ShowsStreams marks limits streams (state_of limits past)) (whole : IsWhole streams)
    (is : (stream_at (state_of limits past).streams name).listener ≡ listener) where
  abbrev old : ContextState
  old = state_of limits past

  abbrev freed : Event
  freed = event.Changed by (control.Free (socket_kind listener) name)

  abbrev kept_out : Bool
  kept_out = is_out (stream_at streams.streams name).out

  current : is_current old.names.streams name ≡ true
  current = (both (is_current old.names.streams name) (is_living (place_at old.names.streams name.place).life) alive).one

  first_within : name.place < length streams.streams
  first_within = socket_within marks limits streams old name streaming alive

  only : IsOnly name streams.ops
  only = only_alive marks limits past name streams.ops legal current streaming.each

  reached : pending_of name old ≡ numbers_of (on_it name streams.ops)
  reached = reached_are marks limits timers streams old name (ops_rise limits past legal) whole.rises waits streaming

  -- what completes
  first_aborted : aborted old (settled_of name old) ≡ aborted_ops (untried_on name streams)
  first_aborted =
      ap (aborted old) (settled_on marks old name current streams streaming.streams_are streaming.each reached)
      ∙ aborted_are marks old (is_untried name (stream_at streams.streams name)) streams.ops streaming.each

  freed_state : after freed old ≡ with_closed kept_out name (cancelled (pending_of name old) old)
  freed_state =
      after_freed old by name listener alive is
      ∙ ap (λ xs. with_closed (is_out (stream_at xs name).out) name (cancelled (pending_of name old) old)) (sym streaming.streams_are)

  pub first_closing : (kept : StreamList (Streaming H)) → IsMarkedIf (stream_at streams.streams name).out name streams kept →
      IsClosing marks limits counts names cells jobs timers kept tally name (after freed old)
      × (aborted_ops (untried_on name kept) ≡ aborted_ops (untried_on name streams))
  first_closing kept marked_if = by_out (stream_at streams.streams name).out refl marked_if
    where
      by_out : (o : Option Side) → (stream_at streams.streams name).out ≡ o → IsMarkedIf o name streams kept →
          IsClosing marks limits counts names cells jobs timers kept tally name (after freed old)
          × (aborted_ops (untried_on name kept) ≡ aborted_ops (untried_on name streams))
      by_out None back same =
          subst (λ ss. IsClosing marks limits counts names cells jobs timers ss tally name (after freed old)
          × (aborted_ops (untried_on name ss) ≡ aborted_ops (untried_on name streams))) (sym same) (
            record {
              waiting = old;
              is =
                  freed_state
                  ∙ ap (λ ns. with_closed kept_out name (cancelled ns old))
                  (reached ∙ sym (ap numbers_of (untried_all name streams back)));
              within = first_within;
              only = only;
              shows = shows;
              waits = waits;
              tallied = tallied;
              pending = record {
                streams_are = streaming.streams_are;
                places = streaming.places;
                few = streaming.few;
                each = streaming.each;
                all = streaming.all;
                room = streaming.room;
                plain = streaming.plain;
                busy = streaming.busy;
              };
              still = λ other on op head apart_from. streaming.heads other on op head;
            },
            refl,
          )
      by_out (Some side) out it =
          let has = heads marks limits streams old name side streaming it.op it.head in
          let known = has.known in
          let out_for : is_out_for side (stream_at streams.streams name).out ≡ true =
          ap (is_out_for side) out ∙ side_out side in
          subst (λ ss. IsClosing marks limits counts names cells jobs timers ss tally name (after freed old)
          × (aborted_ops (untried_on name ss) ≡ aborted_ops (untried_on name streams))) (sym it.is) (
            record {
              waiting = going_on it.op.op it.op.item.moved true old;
              is =
                  freed_state
                  ∙ ap (with_closed kept_out name)
                  (marked_is marks limits timers streams old name side it.place it.op current only waits streaming whole it.found
                  it.head out_for reached);
              within = first_within;
              only = only_put name it.place (marked it.op.item) streams.ops only;
              shows =
                  on_shown it.op.op it.op.item.moved true old known.op known.is it.op.item.moved it.op.item.cancelled known.phase
                  marks limits counts names cells jobs shows;
              waits =
                  on_waits it.op.op it.op.item.moved true old known.op known.is it.op.item.moved it.op.item.cancelled known.phase
                  marks it.op known refl limits timers waits;
              tallied =
                  on_tally it.op.op it.op.item.moved true old known.op known.is it.op.item.moved it.op.item.cancelled known.phase
                  tally tallied;
              pending =
                  marked_pending marks limits timers streams old name side it.place it.op current only waits streaming whole
                  it.found it.head out_for;
              still =
                  marked_still marks limits timers streams old name side it.place it.op current only waits streaming whole
                  it.found it.head out_for;
            },
            marked_ops marks limits timers streams old name side it.place it.op current only waits streaming whole it.found
                it.head out_for,
          )

  -- all of it comes
  pub closed_come : (kept : StreamList (Streaming H)) → IsMarkedIf (stream_at streams.streams name).out name streams kept →
      (mid new : List Event) → HaveCome limits (freed ∷ []) past mid →
      HaveCome limits (aborted_ops (untried_on name kept)) mid new →
      HaveCome limits (freed ∷ aborted old (settled_of name old)) past new
  closed_come kept marked_if mid new one rest =
      subst (λ l. HaveCome limits (freed ∷ l) past new) (sym (first_aborted_as kept marked_if))
      (come_behind limits freed (aborted_ops (untried_on name kept)) past mid new one rest)
    where
      first_aborted_as : (kept : StreamList (Streaming H)) → IsMarkedIf (stream_at streams.streams name).out name streams kept →
          aborted old (settled_of name old) ≡ aborted_ops (untried_on name kept)
      first_aborted_as kept marked_if = first_aborted ∙ sym (first_closing kept marked_if).1

-- from outside by what it is
pub closings_come : (limits : Limits) (past new : List Event) (name : Name) (s : ContextState) (listener : Bool) →
    (stream_at s.streams name).listener ≡ listener →
    HaveCome limits (event.Changed None (control.Free (socket_kind listener) name) ∷ aborted s (settled_of name s)) past new →
    HaveCome limits (closings name s) past new
closings_come limits past new name s listener is come =
    subst
    (λ b. HaveCome limits (event.Changed None (control.Free (socket_kind b) name) ∷ aborted s (settled_of name s)) past new)
    (sym is) come

-- ---- last

none_at : {T : Type 0} (name : Name) (on : Side) (xs : List (Entry (PendingOp T))) → IsOnly name xs → on_it name xs ≡ [] →
    filter (is_at name.place on) xs ≡ []
none_at name on [] only none = refl
none_at {T} name on (x ∷ xs) only none =
    by_test (is_of name x)
    (λ yes. absurd (nothing x (on_it name xs) (sym (yes_on name x xs yes) ∙ none)))
    (λ other.
    let rest = filter (is_at name.place on) xs in
    ap (λ b. cond b (x ∷ rest) rest) (ap (λ b. b && same_side x.item.side on) (only.0 ∙ other))
    ∙ none_at name on xs only.1 (sym (no_on name x xs other) ∙ none))
  where
    nothing : (y : Entry (PendingOp T)) (ys : List (Entry (PendingOp T))) → y ∷ ys ≡ [] → ⊥
    nothing y ys is = cc

idle_sides : (stream : StreamState) → IsIdle stream → on_sides stream ≡ 0
idle_sides stream idle =
    let a = ap length idle.reads in let b = ap length idle.writes in let c = ap length idle.connects in
    omega (arith, a, b, c)

no_first : (on : Side) (n : ℕ) → first_of on new_stream ≡ Some n → ⊥
no_first side.Read n is = cc
no_first side.Write n is = cc
no_first side.Connect n is = cc

abbrev gone_from : Bool → Name → ContextState → ContextState
gone_from kept name v =
    with_placed (place_freed true kept name v.names.streams)
    (if kept then v.streams else with_stream name new_stream v.streams) v

-- what is kept of the streams, and of them alone
pub record IsVacant {H : Type 0} (marks : H → Marks) (limits : Limits) (streams : StreamList (Streaming H)) (xs : List StreamState)
    (v new : ContextState) : Type 0 where
  pub many : on_streams xs ≡ on_streams v.streams
  pub outs : out_in xs ≡ out_in v.streams
  pub shows : ShowsStreams marks limits streams new

module _ {H S : Type 0} (marks : H → Marks) (limits : Limits) (counts : Counts) (names : Names) (cells : List (Cell H S))
    (jobs : JobList (ReadyOp H)) (timers : Timers (Waiting H)) (streams : StreamList (Streaming H)) (tally : Tally)
    (name : Name) (s : ContextState)
    (closing : IsClosing marks limits counts names cells jobs timers streams tally name s) (whole : IsWhole streams)
    (over : untried_on name streams ≡ []) where
  abbrev v : ContextState
  v = closing.waiting

  abbrev stream : StreamState
  stream = stream_at streams.streams name

  abbrev kept : Bool
  kept = is_out stream.out

  stream_is : stream ≡ stream_at v.streams name
  stream_is = ap (λ xs. stream_at xs name) closing.pending.streams_are

  last_is : s ≡ gone_from kept name v
  last_is =
      closing.is ∙ ap (λ xs. with_closed kept name (cancelled (numbers_of xs) v)) over
      ∙ ap
      (λ (l : List ℕ).
      record (gone_from kept name v) { settled = l; waits = filter (λ (wait : Wait). not (is_among [] wait.op)) v.waits })
      (append-nil v.settled)
      ∙ ap (λ (ws : List Wait). record (gone_from kept name v) { waits = ws }) (none_among v.waits)

  -- where its socket is in no system call, nothing is left on it
  none_on : kept ≡ false → (on : Side) → queue_of on stream ≡ []
  none_on back on =
      whole.sides name on
      ∙ ap (map number_of)
      (none_at name on streams.ops closing.only (sym (untried_all name streams (out_none stream.out back)) ∙ over))

  pub last_idle : kept ≡ false → IsIdle stream
  last_idle back = record { reads = none_on back side.Read; writes = none_on back side.Write; connects = none_on back side.Connect }

  within : name.place < length v.streams
  within = subst (λ xs. name.place < length xs) closing.pending.streams_are closing.within

  -- but for what the system call is under way for
  head_out : (other : Name) (on : Side) (op : PendingOp (Streaming H)) → IsHead other on streams op → name.place ≡ other.place →
      is_out_for on (stream_at streams.streams other).out ≡ false → ⊥
  head_out other on op head here isnt =
      let same : stream_at streams.streams other ≡ stream = ap (λ k. slice_index_or streams.streams k new_stream) (sym here) in
      let entry = headed (is_at name.place on) op.op streams.ops
      (sym (ap (λ q. slice_get q 0) (whole.sides name on)) ∙ ap (first_of on) (sym same) ∙ head.first) in
      let x = entry.it.item in
      let halves = both (x.stream.place == name.place) (same_side x.side on) entry.passes in
      let off : is_tried_in stream x ≡ false =
      ap (λ o. is_out_for o stream.out && is_first (first_of x.side stream) x.op) (sides_equal x.side on halves.other)
      ∙ ap (λ b. b && is_first (first_of x.side stream) x.op) (ap (λ (st : StreamState). is_out_for on st.out) (sym same) ∙ isnt) in
      true≢false
      (sym (in_among (is_untried name stream) entry.it streams.ops entry.there
      (ap (λ b. b && not (is_tried_in stream x))
      (sym (only_in name entry.it streams.ops closing.only entry.there) ∙ halves.one) ∙ ap not off))
      ∙ ap (λ l. is_among (numbers_of l) (number_of entry.it)) over)

  abbrev gone : List StreamState
  gone = with_stream name new_stream v.streams

  vacant_gone : kept ≡ false → IsVacant marks limits (forgotten name streams) gone v (gone_from false name v)
  vacant_gone back =
      let idle = subst IsIdle stream_is (last_idle back) in
      let many = sum_same on_sides v.streams name new_stream within (sym (idle_sides (stream_at v.streams name) idle)) in
      let long : length gone ≡ length v.streams = length-set v.streams name.place new_stream in
      let pending = closing.pending in
      record {
        many = many;
        outs =
            sum_same (λ (st : StreamState). one_if (is_out st.out)) v.streams name new_stream within
            (sym (ap one_if (ap (λ (st : StreamState). is_out st.out) (sym stream_is) ∙ back)));
        shows = record {
          streams_are = ap (with_stream name new_stream) pending.streams_are;
          places = long ∙ pending.places ∙ sym (length-set v.names.streams name.place _);
          few = subst (λ n. n < 2 ^ 32) (sym long) pending.few;
          each = pending.each;
          all = pending.all ∙ sym many;
          room = pending.room;
          plain = plain_with v.streams name new_stream within (record { held = refl; searched = refl; connects = refl }) pending.plain;
          heads = λ other on op head.
              at_with (λ st. first_of on st ≡ Some op.op → IsStill st op.item) streams.streams name new_stream
              closing.within other (λ here first. absurd (no_first on op.op first))
              (λ elsewhere first.
              closing.still other on op
              (record { first = first; numbered = head.numbered; place = head.place; on = head.on })
              (λ here isnt. elsewhere here))
              head.first;
          busy = λ other on.
              at_with (λ st. is_out_for on st.out ≡ true → first_of on st ≡ None → ⊥) v.streams name new_stream within
              other (λ here out. absurd (true≢false (sym out))) (λ elsewhere. pending.busy other on);
        };
      }

  vacant_out : IsVacant marks limits streams v.streams v (gone_from true name v)
  vacant_out =
      let pending = closing.pending in
      record {
        many = refl;
        outs = refl;
        shows = record {
          streams_are = pending.streams_are;
          places = pending.places ∙ sym (length-set v.names.streams name.place _);
          few = pending.few;
          each = pending.each;
          all = pending.all;
          room = pending.room;
          plain = pending.plain;
          heads = λ other on op head. closing.still other on op head (head_out other on op head);
          busy = pending.busy;
        };
      }

  vacant : IsVacant marks limits (vacated name streams) (if kept then v.streams else gone) v (gone_from kept name v)
  vacant =
      by_test kept
      (λ out.
      subst (λ b. IsVacant marks limits (if b then streams else forgotten name streams) (if b then v.streams else gone) v
      (gone_from b name v)) (sym out) vacant_out)
      (λ back.
      subst (λ b. IsVacant marks limits (if b then streams else forgotten name streams) (if b then v.streams else gone) v
      (gone_from b name v)) (sym back) (vacant_gone back))

  pub last_shown : Shows marks limits counts (names_closed kept name names) cells jobs s
  last_shown =
      subst
      (λ places. Shows marks limits counts (record names { streams = place_freed true kept name places }) cells jobs s)
      (sym (ap (λ (ns : Names). ns.streams) closing.shows.names_are))
      (subst
      (Shows marks limits counts (record names { streams = place_freed true kept name v.names.streams }) cells jobs) (sym last_is)
      (placed_shown marks limits counts names cells jobs v _ _ closing.shows))

  pub last_tally : IsTally tally s
  last_tally =
      subst (IsTally tally) (sym last_is)
      (placed_tally tally tally v _ _ refl refl refl vacant.many (closing.tallied.out ∙ sym vacant.outs) closing.tallied)

  pub last_waits : ShowsWaits marks limits timers s
  last_waits =
      subst (ShowsWaits marks limits timers) (sym last_is) (placed_waits marks limits timers v _ _ vacant.many closing.waits)

  pub last_streams : ShowsStreams marks limits (vacated name streams) s
  last_streams = subst (ShowsStreams marks limits (vacated name streams)) (sym last_is) vacant.shows

-- its place isn't free yet
pub alive_used : (places : List Place) (name : Name) → is_alive places name ≡ true →
    is_unused (place_at places name.place).life ≡ false
alive_used places name alive =
    living_used (place_at places name.place).life
    (both (is_current places name) (is_living (place_at places name.place).life) alive).other
  where
    living_used : (l : Life) → is_living l ≡ true → is_unused l ≡ false
    living_used life.Alive is = refl
    living_used life.Free is = absurd (true≢false (sym is))
    living_used (life.Kept op) is = absurd (true≢false (sym is))
    living_used life.Closing is = absurd (true≢false (sym is))
    living_used life.Spent is = absurd (true≢false (sym is))
