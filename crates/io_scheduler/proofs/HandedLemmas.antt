-- An operation on a stream is initiated by a handler, and is pending then: all that its call needs and leaves.
use Rattle.std.proofs.Common.{arith, ap, refl, subst, sym, ◌∙◌}
use Rattle.std.specs.Bool.{OnFalse, OnTrue}
use Rattle.std.specs.Global.{Vec}
use Rattle.std.specs.Prelude.{◌≡◌, ◌<◌, ℕ, ◌+◌, ◌-◌, Bool, true, false, List, Option, Some, None}
use Rattle.io_rules.specs.declared.event.Event.{Event}
use Rattle.io_rules.specs.declared.event.Event.TheVariants as event
use Rattle.io_rules.specs.declared.limits.Limits.{Limits}
use Rattle.io_rules.specs.declared.name.Lane.{Lane}
use Rattle.io_rules.specs.declared.operation.Operation.{Operation}
use Rattle.io_rules.specs.declared.request.Gone.TheVariants as gone
use Rattle.io_rules.specs.declared.request.Marks.{Marks}
use Rattle.io_rules.specs.Calls.{gone_by, is_lane_gone, is_target_gone}
use Rattle.io_rules.specs.Legal.{IsLegal, after, state_of}
use Rattle.io_rules.specs.Names.{Names}
use Rattle.io_rules.specs.Operations.{Target, target_of}
use Rattle.io_rules.specs.Serving.{first_of}
use Rattle.io_rules.specs.State.{ContextState, stream_at}
use Rattle.io_handlers.specs.Initiated.{is_transfer}
use Rattle.io_jobs.specs.Listed.{JobList}
use Rattle.io_strands.specs.declared.ready.ReadyOp.{ReadyOp}
use Rattle.io_strands.specs.Cell.{Cell}
use Rattle.io_streams.specs.declared.pending.PendingOp.{PendingOp}
use Rattle.io_streams.specs.Pending.{IsHead, StreamList, with_op}
use Rattle.io_timers.specs.Pending.{Timers}
use Rattle.io_scheduler.specs.declared.counts.Counts.{Counts}
use Rattle.io_scheduler.specs.declared.streaming.Streaming.{Streaming}
use Rattle.io_scheduler.specs.declared.tally.Tally.{Tally}
use Rattle.io_scheduler.specs.declared.waiting.Waiting.{Waiting}
use Rattle.io_scheduler.specs.Accepted.{later_cells}
use Rattle.io_scheduler.specs.Posted.{counts_called, posting}
use Rattle.io_scheduler.specs.Running.{Execution, MayGive}
use Rattle.io_scheduler.specs.Shown.{Shows}
use Rattle.io_scheduler.specs.Streams.{ShowsStreams}
use Rattle.io_scheduler.specs.Tallied.{IsTally, tally_pended}
use Rattle.io_scheduler.specs.Transferred.{gone_for_transfer, settled_at_once}
use Rattle.io_scheduler.specs.Waits.{ShowsWaits}
use Rattle.io_scheduler.proofs.GivenLemmas.{counts_given, given_space, given_state, shows_given}
use Rattle.io_scheduler.proofs.OverLemmas.{given_as}
use Rattle.io_scheduler.proofs.StayedLemmas.{stays_given, waits_stay}
use Rattle.io_scheduler.proofs.StreamedLemmas.{streams_stay}
use Rattle.io_scheduler.proofs.TallyLemmas.{tally_given}
use Rattle.io_scheduler.proofs.TransferringLemmas.{room_on, transfer_shown, transfer_streams, transfer_tallied, transfer_waits}

-- the counts, with so much room
abbrev counts_with : Counts → ℕ → Counts
counts_with c room = record c { next = c.next + 1; promised = c.promised - 1; room = room }

taken_back : (room : ℕ) → room + 1 - 1 ≡ room
taken_back room = omega arith

pub all_for : (s : ContextState) (on : Lane) (kind : Operation) → is_lane_gone s.names on ≡ false →
    is_target_gone s kind (target_of kind) ≡ false → gone.Nothing ≡ gone_for_transfer s on kind
all_for s on kind lane there =
    sym
    (ap (λ b. gone_by b false false (is_target_gone s kind (target_of kind))) lane ∙ ap (λ b. gone_by false false false b) there)

-- there is room for it
pub handed_room : {H S : Type 0} (marks : H → Marks) (limits : Limits) (past : List Event) (counts : Counts) (names : Names)
    (cells : List (Cell H S)) (jobs : JobList (ReadyOp H)) (timers : Timers (Waiting H)) (streams : StreamList (Streaming H))
    (runs : Execution) → IsLegal limits past → MayGive (state_of limits past) runs →
    Shows marks limits counts names cells jobs (state_of limits past) → ShowsWaits marks limits timers (state_of limits past) →
    ShowsStreams marks limits streams (state_of limits past) → 0 < streams.room
handed_room marks limits past counts names cells jobs timers streams runs legal gives shows waits on_them =
    let s = state_of limits past in
    let g = given_state runs.op s in
    let space = given_space limits past runs.op gives.it.op gives.own gives.grant runs.spares legal shows.going
    gives.it.is gives.it.runs gives.some in
    room_on marks limits timers streams g space.places space.room
    (waits_stay marks limits timers s g waits (stays_given s runs.op))
    (streams_stay marks limits streams s g on_them (stays_given s runs.op) refl)

module _ {H S : Type 0} (marks : H → Marks) (limits : Limits) (s : ContextState) (counts : Counts) (names : Names)
    (cells : List (Cell H S)) (jobs : JobList (ReadyOp H)) (timers : Timers (Waiting H)) (streams : StreamList (Streaming H))
    (tally : Tally) (by : ℕ) (on : Lane) (kind : Operation) (t : Target) (handler : H) (first : Bool)
    (transfers : is_transfer kind ≡ true) (at : target_of kind ≡ Some t)
    (shows : Shows marks limits counts names cells jobs s) (waits : ShowsWaits marks limits timers s)
    (on_them : ShowsStreams marks limits streams s) (counted : IsTally tally s)
    (lane : is_lane_gone s.names on ≡ false) (there : is_target_gone s kind (target_of kind) ≡ false)
    (empty : OnTrue first (first_of t.side (stream_at streams.streams t.stream) ≡ None))
    (head : OnFalse first ((op : PendingOp (Streaming H)) × IsHead t.stream t.side streams op))
    (pending : settled_at_once s kind ≡ None) where
  abbrev g : ContextState
  g = given_state by s

  given_shows : Shows marks limits (counts_given counts) names cells jobs g
  given_shows = shows_given marks limits counts names cells jobs s by shows

  given_waits : ShowsWaits marks limits timers g
  given_waits = waits_stay marks limits timers s g waits (stays_given s by)

  given_streams : ShowsStreams marks limits streams g
  given_streams = streams_stay marks limits streams s g on_them (stays_given s by) refl

  given_tally : IsTally tally g
  given_tally = tally_given tally s by counted

  abbrev behind : ContextState
  behind = after (event.Called counts.next (Some by) (posting on kind (marks handler)) gone.Nothing) s

  behind_is : behind ≡ after (event.Called counts.next None (posting on kind (marks handler)) gone.Nothing) g
  behind_is = given_as s counts.next by on kind (marks handler) transfers

  pub handed_shown : (op : ReadyOp H) → op.number ≡ counts.next →
      Shows marks limits (counts_called counts) names (later_cells on op cells) jobs behind
  handed_shown op number =
      subst (Shows marks limits (counts_called counts) names (later_cells on op cells) jobs) (sym behind_is)
      (subst
      (λ room. Shows marks limits (counts_with counts room) names (later_cells on op cells) jobs
      (after (event.Called counts.next None (posting on kind (marks handler)) gone.Nothing) g)) (taken_back counts.room)
      (transfer_shown marks limits g (counts_given counts) names cells jobs timers streams tally on kind t handler first
      transfers at given_shows given_waits given_streams given_tally lane there empty head pending op number))

  pub handed_tallied : IsTally (tally_pended tally) behind
  handed_tallied =
      subst (IsTally (tally_pended tally)) (sym behind_is)
      (transfer_tallied marks limits g (counts_given counts) names cells jobs timers streams tally on kind t handler first
      transfers at given_shows given_waits given_streams given_tally lane there empty head pending)

  pub handed_waits : ShowsWaits marks limits timers behind
  handed_waits =
      subst (ShowsWaits marks limits timers) (sym behind_is)
      (transfer_waits marks limits g (counts_given counts) names cells jobs timers streams tally on kind t handler first
      transfers at given_shows given_waits given_streams given_tally lane there empty head pending)

  pub handed_streams : (buffer : Option (Vec ℕ)) (place : ℕ) → 0 < streams.room →
      ShowsStreams marks limits
      (with_op (record {
        place = place;
        item = record {
          op = counts.next;
          stream = t.stream;
          side = t.side;
          item = record { lane = on; kind = kind; moved = 0; cancelled = false; buffer = buffer; handler = handler };
        };
      }) streams)
      behind
  handed_streams buffer place some =
      subst
      (ShowsStreams marks limits
      (with_op (record {
        place = place;
        item = record {
          op = counts.next;
          stream = t.stream;
          side = t.side;
          item = record { lane = on; kind = kind; moved = 0; cancelled = false; buffer = buffer; handler = handler };
        };
      }) streams)) (sym behind_is)
      (transfer_streams marks limits g (counts_given counts) names cells jobs timers streams tally on kind t handler first
      transfers at given_shows given_waits given_streams given_tally lane there empty head pending buffer place some)
