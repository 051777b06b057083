-- A stream that was closed during a system call is gone: what is kept shows the state behind that.
use Rattle.std.proofs.Common.{ap, refl, subst, sym, ◌∙◌, ⊎_elim}
use Rattle.std.proofs.lemmas.Bool.{true≢false}
use Rattle.std.proofs.lemmas.List.{length-set, set-get_or, set-set}
use Rattle.std.specs.Prelude.{◌≡◌, ◌<◌, ◌^◌, ℕ, ◌+◌, true, List, [], Some, None, length}
use Rattle.std.specs.List.{slice_set}
use Rattle.io_rules.specs.declared.limits.Limits.{Limits}
use Rattle.io_rules.specs.declared.name.Name.{Name}
use Rattle.io_rules.specs.declared.operation.Side.{Side}
use Rattle.io_rules.specs.declared.operation.Side.TheVariants as side
use Rattle.io_rules.specs.declared.place.Place.{Place}
use Rattle.io_rules.specs.declared.request.Marks.{Marks}
use Rattle.io_rules.specs.Cancelling.{is_out_for, queue_of}
use Rattle.io_rules.specs.Changes.{is_out}
use Rattle.io_rules.specs.Completing.{side_left, streams_left}
use Rattle.io_rules.specs.Names.{Names, with_freed}
use Rattle.io_rules.specs.Operations.{Target}
use Rattle.io_rules.specs.Room.{one_if}
use Rattle.io_rules.specs.Serving.{first_of, with_queue}
use Rattle.io_rules.specs.State.{ContextState, StreamState, new_stream, stream_at, with_stream}
use Rattle.io_strands.specs.declared.ready.ReadyOp.{ReadyOp}
use Rattle.io_strands.specs.Cell.{Cell}
use Rattle.io_jobs.specs.Listed.{JobList}
use Rattle.io_streams.specs.Pending.{IsIdle, StreamList, forgotten}
use Rattle.io_timers.specs.Pending.{Timers}
use Rattle.io_scheduler.specs.declared.counts.Counts.{Counts}
use Rattle.io_scheduler.specs.declared.streaming.Streaming.{Streaming}
use Rattle.io_scheduler.specs.declared.tally.Tally.{Tally}
use Rattle.io_scheduler.specs.declared.waiting.Waiting.{Waiting}
use Rattle.io_scheduler.specs.Shown.{Shows}
use Rattle.io_scheduler.specs.Streaming.{on_sides, on_streams, out_in}
use Rattle.io_scheduler.specs.Streams.{IsStill, ShowsStreams}
use Rattle.io_scheduler.specs.Tallied.{IsTally}
use Rattle.io_scheduler.specs.Vacated.{IsAlone, without_name, without_stream}
use Rattle.io_scheduler.specs.Waits.{ShowsWaits}
use Rattle.io_scheduler.proofs.LeavingLemmas.{queue_other, queue_own, same_or}
use Rattle.io_scheduler.proofs.LinkedLemmas.{none_new}
use Rattle.io_scheduler.proofs.PlacedLemmas.{at_with, placed_shown, placed_tally, placed_waits, plain_with, sum_same}

none_is : {X : Type 0} (a : X) → None ≡ Some a → ⊥
none_is a is = cc

abbrev names_placed : List Place → Names → Names
names_placed places names = record names { streams = places }

idle_sides : (stream : StreamState) → IsIdle stream → on_sides stream ≡ 0
idle_sides stream idle =
    ap (λ q. length q + length stream.writes + length stream.connects) idle.reads
    ∙ ap (λ q. 0 + length q + length stream.connects) idle.writes
    ∙ ap (λ q. 0 + 0 + length q) idle.connects

-- once the only operation has left
pub none_left : (sd : Side) (n : ℕ) (stream : StreamState) → IsAlone sd n stream → (on : Side) →
    queue_of on (with_queue sd [] stream) ≡ []
none_left sd n stream alone on =
    ⊎_elim (λ (isnt : sd ≡ on → ⊥). queue_other sd on [] stream isnt ∙ alone.others on isnt)
    (λ (is : sd ≡ on). ap (λ o. queue_of o (with_queue sd [] stream)) (sym is) ∙ queue_own sd [] stream) (same_or sd on)

pub idle_left : (sd : Side) (n : ℕ) (stream : StreamState) → IsAlone sd n stream → IsIdle (with_queue sd [] stream)
idle_left sd n stream alone = record {
  reads = none_left sd n stream alone side.Read;
  writes = none_left sd n stream alone side.Write;
  connects = none_left sd n stream alone side.Connect;
}

side_new : (sd : Side) (n : ℕ) → side_left sd n new_stream ≡ new_stream
side_new side.Read n = refl
side_new side.Write n = refl
side_new side.Connect n = refl

-- where a stream is gone, nothing can leave it
pub left_new : (n : ℕ) (target : Target) (streams : List StreamState) → stream_at streams target.stream ≡ new_stream →
    streams_left n (Some target) streams ≡ streams
left_new n target streams is =
    ap (λ st. with_stream target.stream (side_left target.side n st) streams) is
    ∙ ap (λ st. with_stream target.stream st streams) (side_new target.side n)
    ∙ ap (λ st. with_stream target.stream st streams) (sym is)
    ∙ set-get_or streams target.stream.place new_stream

-- and what has left it before is nothing then
pub new_over : (name other : Name) (stream : StreamState) (streams : List StreamState) → other.place ≡ name.place →
    with_stream name new_stream (with_stream other stream streams) ≡ with_stream name new_stream streams
new_over name other stream streams at =
    ap (λ k. with_stream name new_stream (slice_set streams k stream)) at ∙ set-set streams name.place stream new_stream

module _ {H S : Type 0} (marks : H → Marks) (limits : Limits) (counts : Counts) (names : Names)
    (cells : List (Cell H S)) (jobs : JobList (ReadyOp H)) (timers : Timers (Waiting H)) (kept : StreamList (Streaming H))
    (tally : Tally) (name : Name) (x : ContextState) (inside : name.place < length kept.streams)
    (idle : IsIdle (stream_at kept.streams name)) (back : (stream_at kept.streams name).out ≡ None)
    (shows : Shows marks limits counts names cells jobs x) (waits : ShowsWaits marks limits timers x)
    (tallied : IsTally tally x) (streaming : ShowsStreams marks limits kept x) where
  within : name.place < length x.streams
  within = subst (λ xs. name.place < length xs) streaming.streams_are inside

  at_state : stream_at x.streams name ≡ stream_at kept.streams name
  at_state = ap (λ xs. stream_at xs name) (sym streaming.streams_are)

  many : on_streams (with_stream name new_stream x.streams) ≡ on_streams x.streams
  many =
      sum_same on_sides x.streams name new_stream within
      (sym (ap on_sides at_state ∙ idle_sides (stream_at kept.streams name) idle))

  outs : out_in (with_stream name new_stream x.streams) ≡ out_in x.streams
  outs =
      sum_same (λ (stream : StreamState). one_if (is_out stream.out)) x.streams name new_stream within
      (sym (ap (λ (stream : StreamState). one_if (is_out stream.out)) at_state ∙ ap (λ o. one_if (is_out o)) back))

  pub gone_shown : Shows marks limits counts (without_name name names) cells jobs (without_stream name x)
  gone_shown =
      subst (λ ns. Shows marks limits counts ns cells jobs (without_stream name x))
      (ap (λ (ns : Names). names_placed (with_freed name ns.streams) names) (sym shows.names_are))
      (placed_shown marks limits counts names cells jobs x (with_freed name x.names.streams)
      (with_stream name new_stream x.streams) shows)

  pub gone_waits : ShowsWaits marks limits timers (without_stream name x)
  gone_waits =
      placed_waits marks limits timers x (with_freed name x.names.streams) (with_stream name new_stream x.streams) many waits

  pub gone_tally : IsTally tally (without_stream name x)
  gone_tally =
      placed_tally tally tally x (with_freed name x.names.streams) (with_stream name new_stream x.streams) refl refl refl many
      (tallied.out ∙ sym outs) tallied

  pub gone_streams : ShowsStreams marks limits (forgotten name kept) (without_stream name x)
  gone_streams = record {
    streams_are = ap (with_stream name new_stream) streaming.streams_are;
    places =
        length-set x.streams name.place new_stream ∙ streaming.places ∙ sym (length-set x.names.streams name.place _);
    few = subst (λ k. k < 2 ^ 32) (sym (length-set x.streams name.place new_stream)) streaming.few;
    each = streaming.each;
    all = streaming.all ∙ sym many;
    room = streaming.room;
    plain =
        plain_with x.streams name new_stream within (record { held = refl; searched = refl; connects = refl }) streaming.plain;
    heads = λ other on y head.
        at_with (λ st. first_of on st ≡ Some y.op → IsStill st y.item) kept.streams name new_stream inside other
        (λ here first. absurd (none_is y.op (sym (none_new on) ∙ first)))
        (λ elsewhere first.
        streaming.heads other on y
        (record { first = first; numbered = head.numbered; place = head.place; on = head.on })) head.first;
    busy = λ other on.
        at_with (λ st. is_out_for on st.out ≡ true → first_of on st ≡ None → ⊥) x.streams name new_stream within other
        (λ here out none. true≢false (sym out)) (λ elsewhere. streaming.busy other on);
  }
