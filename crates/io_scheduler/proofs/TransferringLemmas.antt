-- An operation on a stream is initiated from outside, and is pending then: all that the call needs and leaves.
use Rattle.std.proofs.Common.{arith, ap, subst, sym, ◌∙◌}
use Rattle.std.specs.Global.{Vec}
use Rattle.std.specs.Bool.{OnFalse, OnTrue}
use Rattle.std.specs.Prelude.{◌≡◌, ◌<◌, ℕ, ◌+◌, ◌∷◌, ◌++◌, [], Bool, true, false, List, Option, Some, None, length}
use Rattle.io_rules.specs.declared.event.Event.{Event}
use Rattle.io_rules.specs.declared.event.Event.TheVariants as event
use Rattle.io_rules.specs.declared.limits.Limits.{Limits}
use Rattle.io_rules.specs.declared.name.Lane.{Lane}
use Rattle.io_rules.specs.declared.op.Op.{Op}
use Rattle.io_rules.specs.declared.operation.Operation.{Operation}
use Rattle.io_rules.specs.declared.request.Gone.TheVariants as gone
use Rattle.io_rules.specs.declared.request.Marks.{Marks}
use Rattle.io_rules.specs.Legal.{IsLegal, after, state_of}
use Rattle.io_rules.specs.Calls.{is_lane_gone, is_target_gone, streams_called}
use Rattle.io_rules.specs.Cancelling.{queue_of}
use Rattle.io_rules.specs.Names.{Names, is_alive, is_current, is_living, place_at}
use Rattle.io_rules.specs.Operations.{Target, target_of}
use Rattle.io_rules.specs.Room.{places_in}
use Rattle.io_rules.specs.Serving.{first_of, with_queue}
use Rattle.io_rules.specs.State.{ContextState, StreamState, stream_at}
use Rattle.io_rules.proofs.RoomLemmas.{places_add_up}
use Rattle.io_rules.proofs.StageLemmas.{staged}
use Rattle.io_rules.proofs.StrandLemmas.{both}
use Rattle.io_rules.proofs.TotalLemmas.{sum_by-total, total}
use Rattle.io_rules.proofs.OnceLemmas.{total-less}
use Rattle.io_jobs.specs.Listed.{JobList}
use Rattle.io_queues.specs.Ordered.{Each}
use Rattle.io_strands.specs.declared.ready.ReadyOp.{ReadyOp}
use Rattle.io_strands.specs.Cell.{Cell}
use Rattle.io_streams.specs.declared.pending.PendingOp.{PendingOp}
use Rattle.io_streams.specs.Pending.{IsHead, StreamList, number_of, with_op}
use Rattle.io_timers.specs.Pending.{Timers}
use Rattle.io_scheduler.specs.declared.counts.Counts.{Counts}
use Rattle.io_scheduler.specs.declared.streaming.Streaming.{Streaming}
use Rattle.io_scheduler.specs.declared.tally.Tally.{Tally}
use Rattle.io_scheduler.specs.declared.waiting.Waiting.{Waiting}
use Rattle.io_scheduler.specs.Accepted.{later_cells}
use Rattle.io_scheduler.specs.Posted.{counts_posted, posting}
use Rattle.io_scheduler.specs.Shown.{Shows}
use Rattle.io_scheduler.specs.Streams.{ShowsStreams}
use Rattle.io_scheduler.specs.Tallied.{IsTally, tally_pended}
use Rattle.io_scheduler.specs.Transferred.{is_transfer, may_transfer, settled_at_once}
use Rattle.io_scheduler.specs.Waits.{ShowsWaits}
use Rattle.io_scheduler.proofs.AcceptedLemmas.{accepted_with, shows_pending}
use Rattle.io_scheduler.proofs.IdleLemmas.{idles, idles_place, incomplete_total}
use Rattle.io_scheduler.proofs.TallyLemmas.{tally_transfers}
use Rattle.io_scheduler.proofs.SpaceLemmas.{not_gone, within_places}
use Rattle.io_scheduler.proofs.TransferLemmas.{FirstIs, after_transfer, may_parts, out_with}
use Rattle.io_scheduler.proofs.TransferredLemmas.{below_streams, first_is, sides_longer, streams_transferred, waits_transferred}

pub transfer_last : {H S : Type 0} (marks : H → Marks) (limits : Limits) (counts : Counts) (names : Names)
    (cells : List (Cell H S)) (jobs : JobList (ReadyOp H)) (streams : StreamList (Streaming H)) (s : ContextState) →
    Shows marks limits counts names cells jobs s → ShowsStreams marks limits streams s →
    Each (λ other. number_of other < counts.next) streams.ops
transfer_last marks limits counts names cells jobs streams s shows on_streams =
    subst (λ n. Each (λ other. number_of other < n) streams.ops) (sym (ap (λ (c : Counts). c.next) shows.counts_are))
    (below_streams marks s.next s.ops streams.ops shows.below on_streams.each)

-- there is room for it
pub room_on : {H : Type 0} (marks : H → Marks) (limits : Limits) (timers : Timers (Waiting H))
    (streams : StreamList (Streaming H)) (s : ContextState) →
    s.room + total (λ (op : Op). places_in op.phase) s.ops ≡ limits.operations → 0 < s.room →
    ShowsWaits marks limits timers s → ShowsStreams marks limits streams s → 0 < streams.room
room_on marks limits timers streams s places some waits on_them =
    let less = total-less (staged idles) (λ (op : Op). places_in op.phase) idles_place s.ops in
    let count = incomplete_total s.ops in
    let all = waits.all in let more = on_them.all in let most = on_them.room in
    omega (arith, places, less, count, all, more, most, some)

pub transfer_some : {H : Type 0} (marks : H → Marks) (limits : Limits) (past : List Event) (timers : Timers (Waiting H))
    (streams : StreamList (Streaming H)) (on : Lane) (kind : Operation) → IsLegal limits past →
    ShowsWaits marks limits timers (state_of limits past) → ShowsStreams marks limits streams (state_of limits past) →
    may_transfer (state_of limits past) on kind ≡ true → 0 < streams.room
transfer_some marks limits past timers streams on kind legal waits on_them may =
    let s = state_of limits past in
    let sum = sum_by-total (λ (op : Op). places_in op.phase) s.ops in
    let places = places_add_up limits past legal in
    room_on marks limits timers streams s (omega (arith, sum, places)) (may_parts s on kind may).room waits on_them

-- the place of what is there
pub there_within : {H : Type 0} (marks : H → Marks) (limits : Limits) (streams : StreamList (Streaming H)) (s : ContextState)
    (kind : Operation) (t : Target) → target_of kind ≡ Some t → is_target_gone s kind (target_of kind) ≡ false →
    ShowsStreams marks limits streams s → t.stream.place < length s.streams
there_within marks limits streams s kind t at there shows =
    let alive : is_alive s.names.streams t.stream ≡ true =
    (both (is_alive s.names.streams t.stream) _
    (not_gone _ (sym (ap (λ o. is_target_gone s kind o) at) ∙ there))).one in
    let lt = within_places s.names.streams t.stream
    (both (is_current s.names.streams t.stream) (is_living (place_at s.names.streams t.stream.place).life) alive).other in
    let many = shows.places in
    omega (arith, lt, many)

module _ {H S : Type 0} (marks : H → Marks) (limits : Limits) (s : ContextState) (counts : Counts) (names : Names)
    (cells : List (Cell H S)) (jobs : JobList (ReadyOp H)) (timers : Timers (Waiting H)) (streams : StreamList (Streaming H))
    (tally : Tally) (on : Lane) (kind : Operation) (t : Target) (handler : H) (first : Bool)
    (transfers : is_transfer kind ≡ true) (at : target_of kind ≡ Some t)
    (shows : Shows marks limits counts names cells jobs s)
    (waits : ShowsWaits marks limits timers s)
    (on_them : ShowsStreams marks limits streams s) (counted : IsTally tally s)
    (there : is_lane_gone s.names on ≡ false) (target_there : is_target_gone s kind (target_of kind) ≡ false)
    (empty : OnTrue first (first_of t.side (stream_at streams.streams t.stream) ≡ None))
    (head : OnFalse first ((op : PendingOp (Streaming H)) × IsHead t.stream t.side streams op))
    (pending : settled_at_once s kind ≡ None) where
  abbrev longer : StreamState
  longer =
      with_queue t.side (queue_of t.side (stream_at s.streams t.stream) ++ s.next ∷ []) (stream_at s.streams t.stream)

  next_is : counts.next ≡ s.next
  next_is = ap (λ (c : Counts). c.next) shows.counts_are

  within : t.stream.place < length s.streams
  within = there_within marks limits streams s kind t at target_there on_them

  first_one : FirstIs s t kind
  first_one = first_is marks limits streams s kind t first at on_them empty head pending

  behind_it : after (event.Called s.next None (posting on kind (marks handler)) gone.Nothing) s
      ≡ accepted_with s.next on kind (marks handler) (s.settled ++ [] ++ []) (s.waits ++ [])
      (streams_called s.next gone.Nothing (Some t) s.streams) s
  behind_it = after_transfer s on kind (marks handler) t transfers at shows.below within (on_them.plain t.stream) first_one

  abbrev behind : ℕ → ContextState
  behind n = after (event.Called n None (posting on kind (marks handler)) gone.Nothing) s

  pub transfer_shown : (op : ReadyOp H) → op.number ≡ counts.next →
      Shows marks limits (counts_posted counts) names (later_cells on op cells) jobs (behind counts.next)
  transfer_shown op number =
      subst (λ n. Shows marks limits (counts_posted counts) names (later_cells on op cells) jobs (behind n)) (sym next_is)
      (subst (Shows marks limits (counts_posted counts) names (later_cells on op cells) jobs) (sym behind_it)
      (shows_pending marks limits counts names cells jobs s kind (s.settled ++ [] ++ []) (s.waits ++ [])
      (streams_called s.next gone.Nothing (Some t) s.streams) (ap (λ xs. xs ++ [] ++ []) shows.settled) handler op shows on
      there (number ∙ next_is)))

  pub transfer_tallied : IsTally (tally_pended tally) (behind counts.next)
  transfer_tallied =
      subst (λ n. IsTally (tally_pended tally) (behind n)) (sym next_is)
      (subst (IsTally (tally_pended tally)) (sym behind_it)
      (tally_transfers tally s on kind (marks handler) (s.settled ++ [] ++ []) (s.waits ++ []) t.stream.place longer counted
      within (sides_longer t.side s.next (stream_at s.streams t.stream))
      (out_with t.side _ (stream_at s.streams t.stream))))

  pub transfer_waits : ShowsWaits marks limits timers (behind counts.next)
  transfer_waits =
      subst (λ n. ShowsWaits marks limits timers (behind n)) (sym next_is)
      (subst (ShowsWaits marks limits timers) (sym behind_it)
      (waits_transferred marks limits streams timers s on kind t handler None 0 transfers at shows.below within on_them
      waits first_one))

  pub transfer_streams : (buffer : Option (Vec ℕ)) (place : ℕ) → 0 < streams.room →
      ShowsStreams marks limits
      (with_op (record {
        place = place;
        item = record {
          op = counts.next;
          stream = t.stream;
          side = t.side;
          item = record { lane = on; kind = kind; moved = 0; cancelled = false; buffer = buffer; handler = handler };
        };
      }) streams)
      (behind counts.next)
  transfer_streams buffer place some =
      subst
      (λ n. ShowsStreams marks limits
      (with_op (record {
        place = place;
        item = record {
          op = n;
          stream = t.stream;
          side = t.side;
          item = record { lane = on; kind = kind; moved = 0; cancelled = false; buffer = buffer; handler = handler };
        };
      }) streams)
      (behind n)) (sym next_is)
      (subst
      (ShowsStreams marks limits
      (with_op (record {
        place = place;
        item = record {
          op = s.next;
          stream = t.stream;
          side = t.side;
          item = record { lane = on; kind = kind; moved = 0; cancelled = false; buffer = buffer; handler = handler };
        };
      }) streams)) (sym behind_it)
      (streams_transferred marks limits streams timers s on kind t handler buffer place transfers at shows.below within
      on_them waits first_one some))
