-- What an accept made is connected: what is kept shows the state behind that.
use Rattle.std.proofs.Common.{ap, refl, subst, sym, ◌∙◌}
use Rattle.std.proofs.lemmas.Bool.{true≢false}
use Rattle.std.proofs.lemmas.List.{length-set}
use Rattle.std.specs.Prelude.{◌≡◌, ◌<◌, ◌^◌, ℕ, true, false, List, Option, Some, None, length}
use Rattle.std.specs.List.{slice_index_or}
use Rattle.asio_types.specs.declared.code.Code.{Code}
use Rattle.io_rules.specs.declared.limits.Limits.{Limits}
use Rattle.io_rules.specs.declared.name.Name.{Name}
use Rattle.io_rules.specs.declared.operation.Side.{Side}
use Rattle.io_rules.specs.declared.operation.Side.TheVariants as side
use Rattle.io_rules.specs.declared.request.Marks.{Marks}
use Rattle.io_rules.specs.Cancelling.{is_out_for}
use Rattle.io_rules.specs.Changes.{is_out}
use Rattle.io_rules.specs.Names.{Names}
use Rattle.io_rules.specs.Room.{one_if}
use Rattle.io_rules.specs.Serving.{first_of}
use Rattle.io_rules.specs.State.{ContextState, StreamState, new_stream, stream_at, with_stream}
use Rattle.io_strands.specs.declared.ready.ReadyOp.{ReadyOp}
use Rattle.io_strands.specs.Cell.{Cell}
use Rattle.io_jobs.specs.Listed.{JobList}
use Rattle.io_streams.specs.declared.pending.PendingOp.{PendingOp}
use Rattle.io_streams.specs.Pending.{IsHead, StreamList, opened}
use Rattle.io_timers.specs.Pending.{Timers}
use Rattle.io_scheduler.specs.declared.counts.Counts.{Counts}
use Rattle.io_scheduler.specs.declared.streaming.Streaming.{Streaming}
use Rattle.io_scheduler.specs.declared.tally.Tally.{Tally}
use Rattle.io_scheduler.specs.declared.waiting.Waiting.{Waiting}
use Rattle.io_scheduler.specs.Back.{IsUnusedAt, MayOpen, opened_of}
use Rattle.io_scheduler.specs.Settling.{IsSettling, with_settled}
use Rattle.io_scheduler.specs.Streaming.{on_sides, on_streams, out_in}
use Rattle.io_scheduler.specs.Streams.{IsStill}
use Rattle.io_scheduler.proofs.PlacedLemmas.{at_with, placed_tally, placed_waits, plain_with, streams_shown, sum_same}

none_is : {X : Type 0} (a : X) → None ≡ Some a → ⊥
none_is a is = cc

-- a stream that is connected, on which nothing is pending
abbrev pub linked_stream : StreamState
linked_stream = record new_stream { linked = true }

-- the state with what was made
abbrev pub opened_state : Option Name → ContextState → ContextState
opened_state None s = s
opened_state (Some made) s = record s { streams = with_stream made linked_stream s.streams }

pub settled_opened : (made : Option Name) (n : ℕ) (given : Code) (size : ℕ) (s : ContextState) →
    with_settled n given size (opened_state made s) ≡ opened_state made (with_settled n given size s)
settled_opened None n given size s = refl
settled_opened (Some made) n given size s = refl

pub none_new : (on : Side) → first_of on new_stream ≡ None
none_new side.Read = refl
none_new side.Write = refl
none_new side.Connect = refl

none_linked : (on : Side) → first_of on linked_stream ≡ None
none_linked side.Read = refl
none_linked side.Write = refl
none_linked side.Connect = refl

-- where an operation is pending, a stream is
pub apart_unused : (streams : List StreamState) (name made : Name) (sd : Side) (n : ℕ) →
    first_of sd (stream_at streams name) ≡ Some n → stream_at streams made ≡ new_stream → made.place ≡ name.place → ⊥
apart_unused streams name made sd n first unused same =
    none_is n
    (sym (none_new sd) ∙ ap (first_of sd) (sym unused)
    ∙ ap (λ k. first_of sd (slice_index_or streams k new_stream)) same ∙ first)

-- a change of the other stream leaves its place
pub open_with : (made : Option Name) (streams : List StreamState) (name : Name) (sd : Side) (n : ℕ) (new : StreamState) →
    name.place < length streams → first_of sd (stream_at streams name) ≡ Some n → MayOpen made streams →
    MayOpen made (with_stream name new streams)
open_with None streams name sd n new within first may = tt
open_with (Some made) streams name sd n new within first may = record {
  within = subst (λ k. made.place < k) (sym (length-set streams name.place new)) may.within;
  unused =
      at_with (λ st. st ≡ new_stream) streams name new within made
      (λ here. absurd (apart_unused streams name made sd n first may.unused (sym here))) (λ elsewhere. may.unused);
}

-- another stream stays as it was
pub opened_at : {H : Type 0} (made : Option Name) (streams : StreamList (Streaming H)) (name : Name) (sd : Side) (n : ℕ) →
    first_of sd (stream_at streams.streams name) ≡ Some n → MayOpen made streams.streams →
    stream_at (opened_of made streams).streams name ≡ stream_at streams.streams name
opened_at None streams name sd n first may = refl
opened_at (Some made) streams name sd n first may =
    at_with (λ st. st ≡ stream_at streams.streams name) streams.streams made linked_stream may.within name
    (λ here. absurd (apart_unused streams.streams name made sd n first may.unused here)) (λ elsewhere. refl)

-- an operation that is first of a side was so
record Before {H : Type 0} (streams : StreamList (Streaming H)) (made other : Name) (on : Side) (x : PendingOp (Streaming H)) :
    Type 0 where
  pub head : IsHead other on streams x
  pub elsewhere : made.place ≡ other.place → ⊥

module _ {H S : Type 0} (marks : H → Marks) (limits : Limits) (counts : Counts) (names : Names)
    (cells : List (Cell H S)) (jobs : JobList (ReadyOp H)) (timers : Timers (Waiting H)) (streams : StreamList (Streaming H))
    (tally : Tally) (name : Name) (sd : Side) (place : ℕ) (given : Code) (size : ℕ) (s : ContextState) where
  module _ (made : Name) (may : IsUnusedAt streams.streams made)
      (it : IsSettling marks limits counts names cells jobs timers streams tally name sd place given size s) where
    abbrev v : ContextState
    v = it.waiting

    within : made.place < length v.streams
    within = subst (λ xs. made.place < length xs) it.pending.streams_are may.within

    unused : stream_at v.streams made ≡ new_stream
    unused = ap (λ xs. stream_at xs made) (sym it.pending.streams_are) ∙ may.unused

    many : on_streams (with_stream made linked_stream v.streams) ≡ on_streams v.streams
    many = sum_same on_sides v.streams made linked_stream within (sym (ap on_sides unused))

    outs : out_in (with_stream made linked_stream v.streams) ≡ out_in v.streams
    outs =
        sum_same (λ (stream : StreamState). one_if (is_out stream.out)) v.streams made linked_stream within
        (sym (ap (λ (stream : StreamState). one_if (is_out stream.out)) unused))

    before : (other : Name) (on : Side) (x : PendingOp (Streaming H)) → IsHead other on (opened made false true streams) x →
        Before streams made other on x
    before other on x head =
        at_with (λ st. first_of on st ≡ Some x.op → Before streams made other on x) streams.streams made linked_stream may.within other
        (λ here first. absurd (none_is x.op (sym (none_linked on) ∙ first)))
        (λ elsewhere first.
        record {
          head = record { first = first; numbered = head.numbered; place = head.place; on = head.on };
          elsewhere = elsewhere;
        }) head.first

    opened_settling : IsSettling marks limits counts names cells jobs timers (opened made false true streams) tally name sd place
        given size (opened_state (Some made) s)
    opened_settling = record {
      waiting = record v { streams = with_stream made linked_stream v.streams };
      op = it.op;
      found = it.found;
      head = record {
        first =
            at_with (λ st. first_of sd st ≡ Some it.op.op) streams.streams made linked_stream may.within name
            (λ here. absurd (apart_unused streams.streams name made sd it.op.op it.head.first may.unused here))
            (λ elsewhere. it.head.first);
        numbered = it.head.numbered;
        place = it.head.place;
        on = it.head.on;
      };
      is = ap (opened_state (Some made)) it.is;
      back =
          at_with (λ st. is_out_for sd st.out ≡ false) v.streams made linked_stream within name (λ here. refl)
          (λ elsewhere. it.back);
      within = subst (λ k. name.place < k) (sym (length-set streams.streams made.place linked_stream)) it.within;
      shows = streams_shown marks limits counts names cells jobs v (with_stream made linked_stream v.streams) it.shows;
      waits =
          placed_waits marks limits timers v v.names.streams (with_stream made linked_stream v.streams) many it.waits;
      tallied =
          placed_tally tally tally v v.names.streams (with_stream made linked_stream v.streams) refl refl refl many
          (it.tallied.out ∙ sym outs) it.tallied;
      pending = record {
        streams_are = ap (with_stream made linked_stream) it.pending.streams_are;
        places = length-set v.streams made.place linked_stream ∙ it.pending.places;
        few = subst (λ k. k < 2 ^ 32) (sym (length-set v.streams made.place linked_stream)) it.pending.few;
        each = it.pending.each;
        all = it.pending.all ∙ sym many;
        room = it.pending.room;
        plain =
            plain_with v.streams made linked_stream within (record { held = refl; searched = refl; connects = refl })
            it.pending.plain;
        busy = λ other on.
            at_with (λ st. is_out_for on st.out ≡ true → first_of on st ≡ None → ⊥) v.streams made linked_stream within other
            (λ here out none. true≢false (sym out)) (λ elsewhere. it.pending.busy other on);
      };
      still = λ other on x head apart_from.
          let old = before other on x head in
          at_with (λ st. IsStill st x.item) streams.streams made linked_stream may.within other
          (λ here. absurd (old.elsewhere here)) (λ elsewhere. it.still other on x old.head apart_from);
    }

  pub opened_next : (made : Option Name) → MayOpen made streams.streams →
      IsSettling marks limits counts names cells jobs timers streams tally name sd place given size s →
      IsSettling marks limits counts names cells jobs timers (opened_of made streams) tally name sd place given size
      (opened_state made s)
  opened_next None may it = it
  opened_next (Some made) may it = opened_settling made may it
