-- A stream or a listener is made at a place where nothing is: what is kept shows the state behind it.
use Rattle.std.proofs.Common.{arith, ap, refl, subst, sym, ◌∙◌}
use Rattle.std.proofs.lemmas.Bool.{true≢false}
use Rattle.std.proofs.lemmas.List.{append-nil, length-set}
use Rattle.std.specs.Prelude.{◌≡◌, ◌<◌, ◌^◌, ℕ, not, Bool, true, false, List, [], ◌++◌, None, Some, length, sum_by}
use Rattle.std.specs.List.{filter}
use Rattle.io_rules.specs.declared.control.Control.TheVariants as control
use Rattle.io_rules.specs.declared.event.Event.{Event}
use Rattle.io_rules.specs.declared.event.Event.TheVariants as event
use Rattle.io_rules.specs.declared.limits.Limits.{Limits}
use Rattle.io_rules.specs.declared.name.Name.{Name}
use Rattle.io_rules.specs.declared.op.Wait.{Wait}
use Rattle.io_rules.specs.declared.operation.Side.{Side}
use Rattle.io_rules.specs.declared.operation.Side.TheVariants as side
use Rattle.io_rules.specs.declared.place.Life.TheVariants as life
use Rattle.io_rules.specs.declared.request.Marks.{Marks}
use Rattle.io_rules.specs.Cancelling.{is_among, is_out_for}
use Rattle.io_rules.specs.Changes.{is_out}
use Rattle.io_rules.specs.Legal.{IsLegal, MayHappen, after, state_of}
use Rattle.io_rules.specs.Names.{Names, is_free, with_life}
use Rattle.io_rules.specs.Room.{one_if}
use Rattle.io_rules.specs.Serving.{first_of}
use Rattle.io_rules.specs.State.{ContextState, StreamState, new_stream, stream_at, with_stream}
use Rattle.io_strands.specs.declared.ready.ReadyOp.{ReadyOp}
use Rattle.io_strands.specs.Cell.{Cell}
use Rattle.io_jobs.specs.Listed.{JobList}
use Rattle.io_streams.specs.Pending.{IsIdle, StreamList, opened}
use Rattle.io_timers.specs.Pending.{Timers}
use Rattle.io_scheduler.specs.declared.counts.Counts.{Counts}
use Rattle.io_scheduler.specs.declared.streaming.Streaming.{Streaming}
use Rattle.io_scheduler.specs.declared.tally.Tally.{Tally}
use Rattle.io_scheduler.specs.declared.waiting.Waiting.{Waiting}
use Rattle.io_scheduler.specs.Opened.{socket_kind}
use Rattle.io_scheduler.specs.Outside.{IsOutside}
use Rattle.io_scheduler.specs.Shown.{Shows}
use Rattle.io_scheduler.specs.Streaming.{on_sides}
use Rattle.io_scheduler.specs.Streams.{IsStill, ShowsStreams}
use Rattle.io_scheduler.specs.Tallied.{IsTally}
use Rattle.io_scheduler.specs.Waits.{ShowsWaits}
use Rattle.io_scheduler.proofs.PlacedLemmas.{at_with, placed_shown, placed_tally, placed_waits, plain_with, sum_same, with_placed}
use Rattle.io_scheduler.proofs.StayedLemmas.{none_among}
use Rattle.io_scheduler.proofs.UnusedLemmas.{free_place, idle_at}

abbrev pub new_socket : Bool → StreamState
new_socket listener = record new_stream { listener = listener }

-- the place of the name is there, and nothing is at it
pub record MayOpenAt (name : Name) (s : ContextState) : Type 0 where
  pub within : name.place < length s.names.streams
  pub idle : stream_at s.streams name ≡ new_stream

pub may_open_at : (limits : Limits) (past : List Event) → IsLegal limits past → (name : Name) →
    is_free (state_of limits past).names.streams name ≡ true → MayOpenAt name (state_of limits past)
may_open_at limits past legal name free =
    let place = free_place limits past legal name free in
    record { within = place.within; idle = idle_at limits past legal name.place place.unused }

pub may_make_socket : (s : ContextState) (listener : Bool) (name : Name) → s.finishing ≡ false →
    is_free s.names.streams name ≡ true → MayHappen s (event.Changed None (control.Make (socket_kind listener) name))
may_make_socket s true name going free = record { going = going; caller = tt; allowed = free }
may_make_socket s false name going free = record { going = going; caller = tt; allowed = free }

pub idle_new : (streams : List StreamState) (name : Name) → stream_at streams name ≡ new_stream →
    IsIdle (stream_at streams name)
idle_new streams name is =
    subst IsIdle (sym is) (record { reads = refl; writes = refl; connects = refl })

abbrev placed_new : Bool → Name → ContextState → ContextState
placed_new listener name s =
    with_placed (with_life life.Alive name s.names.streams) (with_stream name (new_socket listener) s.streams) s

after_made : (s : ContextState) (listener : Bool) (name : Name) → s.settled ≡ [] →
    after (event.Changed None (control.Make (socket_kind listener) name)) s ≡ placed_new listener name s
after_made s listener name none = by_kind listener
  where
    quiet : (b : Bool) →
        record (placed_new b name s) {
          settled = s.settled ++ [];
          waits = filter (λ (wait : Wait). not (is_among [] wait.op)) s.waits;
        } ≡ placed_new b name s
    quiet b =
        ap
        (λ (xs : List ℕ).
        record (placed_new b name s) { settled = xs; waits = filter (λ (wait : Wait). not (is_among [] wait.op)) s.waits })
        (append-nil s.settled)
        ∙ ap (λ (ws : List Wait). record (placed_new b name s) { waits = ws }) (none_among s.waits)

    by_kind : (b : Bool) → after (event.Changed None (control.Make (socket_kind b) name)) s ≡ placed_new b name s
    by_kind true = quiet true
    by_kind false = quiet false

none_first : (listener : Bool) (on : Side) (n : ℕ) → first_of on (new_socket listener) ≡ Some n → ⊥
none_first listener side.Read n is = cc
none_first listener side.Write n is = cc
none_first listener side.Connect n is = cc

streams_opened : {H : Type 0} (marks : H → Marks) (limits : Limits) (streams : StreamList (Streaming H)) (s : ContextState)
    (listener : Bool) (name : Name) → MayOpenAt name s → ShowsStreams marks limits streams s →
    ShowsStreams marks limits (opened name listener false streams) (placed_new listener name s)
streams_opened {H} marks limits streams s listener name may shows =
    let new = new_socket listener in
    let open_at = with_stream name new in
    let many = shows.places in
    let place = may.within in
    let within : name.place < length s.streams = omega (arith, place, many) in
    let one : length (open_at s.streams) ≡ length s.streams = length-set s.streams name.place new in
    let few = shows.few in
    record {
      streams_are = ap open_at shows.streams_are;
      places = one ∙ shows.places ∙ sym (length-set s.names.streams name.place _);
      few = subst (λ n. n < 2 ^ 32) (sym one) few;
      each = shows.each;
      all = shows.all ∙ sym (sum_same on_sides s.streams name new within (sym (ap on_sides may.idle)));
      room = shows.room;
      plain = plain_with s.streams name new within (record { held = refl; searched = refl; connects = refl }) shows.plain;
      heads = λ other on op head.
          at_with (λ stream. first_of on stream ≡ Some op.op → IsStill stream op.item) streams.streams name new
          (subst (λ states. name.place < length states) (sym shows.streams_are) within) other
          (λ here first. absurd (none_first listener on op.op first))
          (λ elsewhere first.
          shows.heads other on op
          (record { first = first; numbered = head.numbered; place = head.place; on = head.on })) head.first;
      busy = λ other on.
          at_with (λ stream. is_out_for on stream.out ≡ true → first_of on stream ≡ None → ⊥) s.streams name new within other
          (λ here out. absurd (true≢false (sym out))) (λ elsewhere. shows.busy other on);
    }

module _ (limits : Limits) (s : ContextState) (listener : Bool) (name : Name) (none : s.settled ≡ [])
    (may : MayOpenAt name s) where
  pub shows_opened : {H S : Type 0} (marks : H → Marks) (counts : Counts) (names : Names) (cells : List (Cell H S)) (jobs : JobList (ReadyOp H)) →
      Shows marks limits counts names cells jobs s →
      Shows marks limits counts (record names { streams = with_life life.Alive name names.streams }) cells jobs
      (after (event.Changed None (control.Make (socket_kind listener) name)) s)
  shows_opened marks counts names cells jobs shows =
      let new = after (event.Changed None (control.Make (socket_kind listener) name)) s in
      subst
      (λ places.
      Shows marks limits counts (record names { streams = with_life life.Alive name places }) cells jobs new)
      (sym (ap (λ (ns : Names). ns.streams) shows.names_are))
      (subst
      (Shows marks limits counts (record names { streams = with_life life.Alive name s.names.streams }) cells jobs)
      (sym (after_made s listener name none))
      (placed_shown marks limits counts names cells jobs s _ _ shows))

  same_sum : (f : StreamState → ℕ) → length s.streams ≡ length s.names.streams →
      f (new_socket listener) ≡ f new_stream →
      sum_by f (with_stream name (new_socket listener) s.streams) ≡ sum_by f s.streams
  same_sum f many alike =
      let place = may.within in
      sum_same f s.streams name (new_socket listener) (omega (arith, place, many)) (alike ∙ sym (ap f may.idle))

  pub tally_opened : (tally : Tally) → length s.streams ≡ length s.names.streams → IsTally tally s →
      IsTally tally (after (event.Changed None (control.Make (socket_kind listener) name)) s)
  tally_opened tally many shows =
      subst (IsTally tally) (sym (after_made s listener name none))
      (placed_tally tally tally s _ _ refl refl refl (same_sum on_sides many refl)
      (shows.out ∙ sym (same_sum (λ (stream : StreamState). one_if (is_out stream.out)) many refl)) shows)

  pub waits_opened : {H : Type 0} (marks : H → Marks) (timers : Timers (Waiting H)) → length s.streams ≡ length s.names.streams →
      ShowsWaits marks limits timers s →
      ShowsWaits marks limits timers (after (event.Changed None (control.Make (socket_kind listener) name)) s)
  waits_opened marks timers many shows =
      subst (ShowsWaits marks limits timers) (sym (after_made s listener name none))
      (placed_waits marks limits timers s _ _ (same_sum on_sides many refl) shows)

  pub streams_made : {H : Type 0} (marks : H → Marks) (streams : StreamList (Streaming H)) → ShowsStreams marks limits streams s →
      ShowsStreams marks limits (opened name listener false streams)
      (after (event.Changed None (control.Make (socket_kind listener) name)) s)
  streams_made marks streams shows =
      subst (ShowsStreams marks limits (opened name listener false streams)) (sym (after_made s listener name none))
      (streams_opened marks limits streams s listener name may shows)

pub outside_made : (listener : Bool) (name : Name) →
    IsOutside (event.Changed None (control.Make (socket_kind listener) name))
outside_made listener name = record { nobody = refl; no_begin = λ begins. begins }

-- it may be opened
pub record IsIdleAt {H : Type 0} (name : Name) (streams : StreamList (Streaming H)) : Type 0 where
  pub within : name.place < length streams.streams
  pub idle : IsIdle (stream_at streams.streams name)

pub idle_shown : {H : Type 0} (marks : H → Marks) (limits : Limits) (past : List Event) (streams : StreamList (Streaming H))
    (name : Name) → IsLegal limits past → is_free (state_of limits past).names.streams name ≡ true →
    ShowsStreams marks limits streams (state_of limits past) → IsIdleAt name streams
idle_shown marks limits past streams name legal free shows =
    let may = may_open_at limits past legal name free in
    let place = may.within in
    let many = shows.places in let same = ap length shows.streams_are in
    record {
      within = omega (arith, place, many, same);
      idle = subst (λ states. IsIdle (stream_at states name)) (sym shows.streams_are)
          (idle_new (state_of limits past).streams name may.idle);
    }
