-- An operation on a stream that a handler initiates completes at once: where something that it names is gone, or as one
-- that is the first of its side.
use Rattle.std.proofs.Common.{arith, ap, refl, subst, sym, ◌∙◌}
use Rattle.std.proofs.lemmas.Bool.{true≢false}
use Rattle.std.specs.Global.{Vec}
use Rattle.std.specs.Prelude.{◌≡◌, ℕ, ◌+◌, ◌-◌, Bool, true, false, List, [], ◌∷◌, ◌++◌, Option, Some, None, length, slice_get}
use Rattle.asio_types.specs.declared.code.Code.{Code}
use Rattle.asio_types.specs.declared.code.Code.TheVariants as code
use Rattle.io_rules.specs.declared.event.Event.TheVariants as event
use Rattle.io_rules.specs.declared.limits.Limits.{Limits}
use Rattle.io_rules.specs.declared.name.Lane.{Lane}
use Rattle.io_rules.specs.declared.op.Op.{Op}
use Rattle.io_rules.specs.declared.op.Phase.TheVariants as phase
use Rattle.io_rules.specs.declared.operation.Operation.{Operation}
use Rattle.io_rules.specs.declared.operation.Operation.TheVariants as operation
use Rattle.io_rules.specs.declared.operation.Side.TheVariants as side
use Rattle.io_rules.specs.declared.request.Gone.{Gone}
use Rattle.io_rules.specs.declared.request.Gone.TheVariants as gone
use Rattle.io_rules.specs.declared.request.Marks.{Marks}
use Rattle.io_rules.specs.Calls.{gone_by, gone_of, is_lane_gone, is_target_gone, is_timer_gone}
use Rattle.io_rules.specs.Cancelling.{is_out_for}
use Rattle.io_rules.specs.Completing.{MayCompleteAs, binding_of, kind_of, others_than, slots_left, streams_left}
use Rattle.io_rules.specs.Legal.{MayHappen, after}
use Rattle.io_rules.specs.Names.{Names}
use Rattle.io_rules.specs.Operations.{Target, behind_connect, target_of}
use Rattle.io_rules.specs.Ops.{is_pending, lane_of, op_at, with_phase}
use Rattle.io_rules.specs.Room.{place_given, place_given_by}
use Rattle.io_rules.specs.Serving.{first_of, served, served_on, stays}
use Rattle.io_rules.specs.State.{ContextState, StrandState, StreamState, stream_at}
use Rattle.io_rules.specs.Strands.{Last, called_on, on_lane, ready_on}
use Rattle.io_rules.proofs.StrandLemmas.{by_test}
use Rattle.io_handlers.specs.Initiated.{is_transfer}
use Rattle.io_history.proofs.AtLemmas.{at-changed_of, at-push}
use Rattle.io_strands.specs.declared.ready.ReadyOp.{ReadyOp}
use Rattle.io_strands.specs.Cell.{Cell}
use Rattle.io_jobs.specs.Listed.{JobList}
use Rattle.io_streams.specs.Kept.{IsWhole}
use Rattle.io_streams.specs.Pending.{StreamList}
use Rattle.io_timers.specs.Pending.{Timers}
use Rattle.io_scheduler.specs.declared.counts.Counts.{Counts}
use Rattle.io_scheduler.specs.declared.streaming.Streaming.{Streaming}
use Rattle.io_scheduler.specs.declared.tally.Tally.{Tally}
use Rattle.io_scheduler.specs.declared.waiting.Waiting.{Waiting}
use Rattle.io_scheduler.specs.Called.{lane_left}
use Rattle.io_scheduler.specs.Entered.{entered_cells, entered_jobs}
use Rattle.io_scheduler.specs.Posted.{counts_called, posting, ready_posting}
use Rattle.io_scheduler.specs.Shown.{AreBelow, Shows}
use Rattle.io_scheduler.specs.Streams.{ShowsStreams}
use Rattle.io_scheduler.specs.Tallied.{IsTally, tally_called}
use Rattle.io_scheduler.specs.Transferred.{code_at_once, gone_for_transfer, settled_at_once}
use Rattle.io_scheduler.specs.Waits.{ShowsWaits}
use Rattle.io_scheduler.proofs.AbsentLemmas.{absent_left, has_head}
use Rattle.io_scheduler.proofs.AtOnceLemmas.{SettlesFirst, settles_first}
use Rattle.io_scheduler.proofs.BegunLemmas.{below_begun}
use Rattle.io_scheduler.proofs.CalledLemmas.{called_with, shows_with}
use Rattle.io_scheduler.proofs.DoneAtOnceLemmas.{behind_both, may_be_done, no_connect}
use Rattle.io_scheduler.proofs.DoneAtOnceLemmas as at_once
use Rattle.io_scheduler.proofs.GivenLemmas.{given_state}
use Rattle.io_scheduler.proofs.PostedLemmas.{posted_op}
use Rattle.io_scheduler.proofs.ReadyLemmas.{at_new, changed_new}
use Rattle.io_scheduler.proofs.RefusedLemmas.{gone_state, left_settled, left_waits, none_settled, ready_tied, refused_op}
use Rattle.io_scheduler.proofs.ServedLemmas.{IsUnserved, served_nothing}
use Rattle.io_scheduler.proofs.StayedLemmas.{StaysPending, given_same, others_wait, stays_pushed, waits_stay}
use Rattle.io_scheduler.proofs.StreamedLemmas.{streams_stay}
use Rattle.io_scheduler.proofs.TallyLemmas.{tally_pushed}
use Rattle.io_scheduler.proofs.TransferLemmas.{no_timer, unserved_by}
use Rattle.io_scheduler.proofs.TransferredLemmas.{below_streams, streaming_at}
use Rattle.io_scheduler.proofs.TransferringLemmas.{there_within}

some_same : {X : Type 0} (x y : X) → Some x ≡ Some y → x ≡ y
some_same x y is = cc

-- ---- which of its names is gone

pub gone_transfer : (s : ContextState) (on : Lane) (kind : Operation) (marks : Marks) → is_transfer kind ≡ true →
    gone_for_transfer s on kind ≡ gone_of s (posting on kind marks)
gone_transfer s on kind marks is =
    let lost = is_target_gone s kind (target_of kind) in
    sym (ap (λ o. gone_by (is_lane_gone s.names on) false (is_timer_gone s.names o) lost) (no_timer kind is))

-- all is there
pub record ThereFor (s : ContextState) (on : Lane) (kind : Operation) : Type 0 where
  pub lane : is_lane_gone s.names on ≡ false
  pub target : is_target_gone s kind (target_of kind) ≡ false

nothing_if : (b t : Bool) → gone.Nothing ≡ gone_by b false false t → (b ≡ false) × (t ≡ false)
nothing_if false false is = (refl, refl)
nothing_if true t is = absurd (cc)
nothing_if false true is = absurd (cc)

pub there_for : (s : ContextState) (on : Lane) (kind : Operation) → gone.Nothing ≡ gone_for_transfer s on kind →
    ThereFor s on kind
there_for s on kind is =
    let parts = nothing_if (is_lane_gone s.names on) (is_target_gone s kind (target_of kind)) is in
    record { lane = parts.0; target = parts.1 }

other_if : (b t : Bool) → gone.Other ≡ gone_by b false false t → b ≡ false
other_if false t is = refl
other_if true t is = absurd (cc)

-- ---- the state behind its call is as from outside, with a place more

taken_back : (room : ℕ) → room + 1 - 1 ≡ room
taken_back room = omega arith

pub given_as : (s : ContextState) (n by : ℕ) (on : Lane) (kind : Operation) (marks : Marks) → is_transfer kind ≡ true →
    after (event.Called n (Some by) (posting on kind marks) gone.Nothing) s
    ≡ after (event.Called n None (posting on kind marks) gone.Nothing) (given_state by s)
given_as s n by on (operation.ReadSome stream size) marks is =
    ap
    (λ room. record (after (event.Called n None (posting on (operation.ReadSome stream size) marks) gone.Nothing) (given_state by s)) {
      room = room;
    }) (sym (taken_back s.room))
given_as s n by on (operation.WriteSome stream size) marks is =
    ap
    (λ room. record (after (event.Called n None (posting on (operation.WriteSome stream size) marks) gone.Nothing) (given_state by s)) {
      room = room;
    }) (sym (taken_back s.room))
given_as s n by on (operation.WriteAll stream size) marks is =
    ap
    (λ room. record (after (event.Called n None (posting on (operation.WriteAll stream size) marks) gone.Nothing) (given_state by s)) {
      room = room;
    }) (sym (taken_back s.room))
given_as s n by on (operation.Accept listener) marks is =
    ap
    (λ room. record (after (event.Called n None (posting on (operation.Accept listener) marks) gone.Nothing) (given_state by s)) {
      room = room;
    }) (sym (taken_back s.room))
given_as s n by on _ marks is = absurd (true≢false (sym is))

-- ---- it completes at once

pub record IsOver (s : ContextState) (n by : ℕ) (on : Lane) (kind : Operation) (marks : Marks) (given : Gone) (c : Code) :
    Type 0 where
  pub left : List ℕ
  pub may : MayHappen (after (event.Called n (Some by) (posting on kind marks) given) s) (event.Done n c 0)
  pub behind : after (event.Done n c 0) (after (event.Called n (Some by) (posting on kind marks) given) s)
      ≡ called_with false n by (lane_left on given) (posted_op n (lane_left on given) kind marks c) left
      (left_waits n (s.waits ++ [])) s s.room
  pub none : left ≡ []
  pub there : is_lane_gone s.names (lane_left on given) ≡ false

-- where something is gone
gone_call : (given : Gone) (n by : ℕ) (on : Lane) (kind : Operation) (marks : Marks) (s : ContextState) →
    (given ≡ gone.Nothing → ⊥) → is_transfer kind ≡ true →
    after (event.Called n (Some by) (posting on kind marks) given) s
    ≡ gone_state n by (lane_left on given) (refused_op n (lane_left on given) kind marks) s
gone_call gone.Nothing n by on kind marks s any is = absurd (any refl)
gone_call gone.Strand n by on (operation.ReadSome stream size) marks s any is = refl
gone_call gone.Strand n by on (operation.WriteSome stream size) marks s any is = refl
gone_call gone.Strand n by on (operation.WriteAll stream size) marks s any is = refl
gone_call gone.Strand n by on (operation.Accept listener) marks s any is = refl
gone_call gone.Strand n by on _ marks s any is = absurd (true≢false (sym is))
gone_call gone.Other n by on (operation.ReadSome stream size) marks s any is = refl
gone_call gone.Other n by on (operation.WriteSome stream size) marks s any is = refl
gone_call gone.Other n by on (operation.WriteAll stream size) marks s any is = refl
gone_call gone.Other n by on (operation.Accept listener) marks s any is = refl
gone_call gone.Other n by on _ marks s any is = absurd (true≢false (sym is))

module _ {H : Type 0} (hmarks : H → Marks) (limits : Limits) (streams : StreamList (Streaming H)) (s : ContextState) (by : ℕ)
    (on : Lane) (kind : Operation) (marks : Marks) (t : Target) (transfers : is_transfer kind ≡ true)
    (at : target_of kind ≡ Some t) (below : AreBelow s.next s.ops) (none : s.settled ≡ []) (going : s.finishing ≡ false)
    (whole : IsWhole streams) (shows : ShowsStreams hmarks limits streams s) where
  module _ (given : Gone) (any : given ≡ gone.Nothing → ⊥) where
    abbrev to : Lane
    to = lane_left on given

    abbrev it : Op
    it = refused_op s.next to kind marks

    abbrev called : ContextState
    called = gone_state s.next by to it s

    abbrev fewer : List Op
    fewer = place_given_by (Some by) s.ops

    fewer_below : AreBelow s.next fewer
    fewer_below = below_begun s.next by (λ o. place_given o.phase) s.ops below

    called_is : after (event.Called s.next (Some by) (posting on kind marks) given) s ≡ called
    called_is = gone_call given s.next by on kind marks s any transfers

    refused_may : MayHappen (after (event.Called s.next (Some by) (posting on kind marks) given) s)
        (event.Done s.next code.Bad 0)
    refused_may =
        subst (λ x. MayHappen x (event.Done s.next code.Bad 0)) (sym called_is)
        (record {
          going = going;
          completes = subst (MayCompleteAs called s.next code.Bad 0) (sym (at_new fewer it fewer_below))
              (record {
                first = ap (λ xs. slice_get (xs ++ (s.next ∷ []) ++ []) 0) none;
                same_code = refl;
                same_size = refl;
              });
        })

    abbrev over : List StreamState → ContextState
    over states = record called {
      ops = fewer ++ posted_op s.next to kind marks code.Bad ∷ [];
      settled = others_than s.next called.settled;
      waits = left_waits s.next called.waits;
      strands = on_lane to (called_on Last s.next) s.strands;
      streams = states;
    }

    -- the first of this side gets nothing
    nobody : (k : ℕ) (x : Op) → first_of t.side (stream_at s.streams t.stream) ≡ Some k →
        op_at (over s.streams).ops k ≡ Some x → IsUnserved (stream_at s.streams t.stream) t.side x
    nobody k x first is =
        let head = has_head t.stream t.side streams k whole
        (ap (λ xs. first_of t.side (stream_at xs t.stream)) shows.streams_are ∙ first) in
        let known = streaming_at hmarks s.ops head.it.op head.it streams.ops head.head.numbered shows.each in
        let found : op_at s.ops k ≡ Some known.op = ap (op_at s.ops) (sym head.number) ∙ known.is in
        let kept : op_at (over s.streams).ops k ≡ Some known.op =
        at-push k fewer (posted_op s.next to kind marks code.Bad) known.op
        (at-changed_of (Some by) k (λ o. place_given o.phase) s.ops known.op
        (given_same known.op (ap is_pending known.phase)) found) in
        let same : known.op ≡ x = some_same known.op x (sym kept ∙ is) in
        let still = shows.heads t.stream t.side head.it head.head in
        subst (IsUnserved (stream_at s.streams t.stream) t.side) same
        (unserved_by (stream_at s.streams t.stream) t.side known.op head.it.item.moved head.it.item.cancelled known.phase
        (subst
        (λ xs. served_on (stream_at xs t.stream) head.it.item.moved head.it.item.cancelled known.op.kind
        ≡ stays head.it.item.moved head.it.item.cancelled (stream_at xs t.stream).held) shows.streams_are
        (ap (served_on (stream_at streams.streams t.stream) head.it.item.moved head.it.item.cancelled) known.kind ∙ still)))

    abbrev done_with : Option Target → Option Target → Option Target → List Op → List StrandState → List StreamState →
        ContextState
    done_with target read write ops strands states =
        served write
        (served read
        (served target (record called {
          ops = ops;
          settled = others_than s.next called.settled;
          waits = left_waits s.next called.waits;
          strands = strands;
          streams = states;
        })))

    abbrev done_of : Option Op → ContextState
    done_of o =
        served (behind_connect side.Write (kind_of o))
        (served (behind_connect side.Read (kind_of o))
        (served (target_of (kind_of o)) (record called {
          ops = with_phase s.next (phase.Ready code.Bad 0) called.ops;
          settled = others_than s.next called.settled;
          waits = left_waits s.next called.waits;
          strands = on_lane (lane_of o) (ready_on s.next) called.strands;
          slots = slots_left s.next (binding_of o) called.slots;
          streams = streams_left s.next (target_of (kind_of o)) called.streams;
        })))

    refused_behind : after (event.Done s.next code.Bad 0) (after (event.Called s.next (Some by) (posting on kind marks) given) s)
        ≡ called_with false s.next by to (posted_op s.next to kind marks code.Bad)
        (left_settled s.next (s.settled ++ (s.next ∷ []) ++ [])) (left_waits s.next (s.waits ++ [])) s s.room
    refused_behind =
        let ready = with_phase s.next (phase.Ready code.Bad 0) called.ops in
        let strands = on_lane to (ready_on s.next) called.strands in
        let new = fewer ++ posted_op s.next to kind marks code.Bad ∷ [] in
        ap (after (event.Done s.next code.Bad 0)) called_is
        ∙ ap done_of (at_new fewer it fewer_below)
        ∙ ap (λ o. done_with o (behind_connect side.Read kind) (behind_connect side.Write kind) ready strands
        (streams_left s.next o called.streams)) at
        ∙ ap (λ o. done_with (Some t) o (behind_connect side.Write kind) ready strands (streams_left s.next (Some t) called.streams))
        (no_connect side.Read kind transfers)
        ∙ ap (λ o. done_with (Some t) None o ready strands (streams_left s.next (Some t) called.streams))
        (no_connect side.Write kind transfers)
        ∙ ap (λ ops. done_with (Some t) None None ops strands (streams_left s.next (Some t) called.streams))
        (changed_new (λ op. phase.Ready code.Bad 0) fewer it fewer_below)
        ∙ ap (λ xs. done_with (Some t) None None new xs (streams_left s.next (Some t) called.streams)) (ready_tied to s.next s.strands)
        ∙ ap (done_with (Some t) None None new (on_lane to (called_on Last s.next) s.strands))
        (absent_left s.next t streams s.streams shows.streams_are whole
        (below_streams hmarks s.next s.ops streams.ops below shows.each) (shows.plain t.stream))
        ∙ ap (λ x. served None (served None x)) (served_nothing (over s.streams) t (shows.plain t.stream) nobody)

    refused_over : (c : Code) → Some code.Bad ≡ Some c → is_lane_gone s.names to ≡ false →
        IsOver s s.next by on kind marks given c
    refused_over c bad lane =
        subst (IsOver s s.next by on kind marks given) (some_same code.Bad c bad)
        (record {
          left = left_settled s.next (s.settled ++ (s.next ∷ []) ++ []);
          may = refused_may;
          behind = refused_behind;
          none = ap (λ xs. left_settled s.next (xs ++ (s.next ∷ []) ++ [])) none ∙ none_settled s.next;
          there = lane;
        })

  -- as the first of its side
  settled_over : (c : Code) → ThereFor s on kind → settled_at_once s kind ≡ Some c →
      IsOver s s.next by on kind marks gone.Nothing c
  settled_over c there settled =
      let g = given_state by s in
      let first : SettlesFirst (stream_at s.streams t.stream) t kind c = settles_first s kind t c at settled in
      let within = there_within hmarks limits streams s kind t at there.target shows in
      let less = below_begun s.next by (λ o. place_given o.phase) s.ops below in
      let free : is_out_for t.side (stream_at s.streams t.stream).out ≡ false =
      by_test (is_out_for t.side (stream_at s.streams t.stream).out)
      (λ out. absurd (shows.busy t.stream t.side out (ap (λ q. slice_get q 0) first.empty)))
      (λ in_it. in_it) in
      let left = left_settled s.next ((s.settled ++ []) ++ s.next ∷ []) in
      record {
        left = left;
        may = subst (λ x. MayHappen x (event.Done s.next c 0)) (sym (given_as s s.next by on kind marks transfers))
            (may_be_done g on kind marks t c transfers at less within (shows.plain t.stream) free first none going);
        behind = ap (after (event.Done s.next c 0)) (given_as s s.next by on kind marks transfers)
            ∙ behind_both g on kind marks t c transfers at less within (shows.plain t.stream) free first none
            ∙ ap (called_with false s.next by on (posted_op s.next on kind marks c) left (left_waits s.next (s.waits ++ [])) s)
            (taken_back s.room);
        none = at_once.none_settled g on kind marks t c transfers at less within (shows.plain t.stream) free first none;
        there = there.lane;
      }

  over_at_once : (given : Gone) (c : Code) → given ≡ gone_for_transfer s on kind →
      code_at_once s kind given ≡ Some c → IsOver s s.next by on kind marks given c
  over_at_once gone.Nothing c is over = settled_over c (there_for s on kind is) over
  over_at_once gone.Strand c is over = refused_over gone.Strand (λ e. cc) c over refl
  over_at_once gone.Other c is over =
      refused_over gone.Other (λ e. cc) c over
      (other_if (is_lane_gone s.names on) (is_target_gone s kind (target_of kind)) is)

  -- with the number that is kept
  pub over_is : (given : Gone) (c : Code) → given ≡ gone_for_transfer s on kind → code_at_once s kind given ≡ Some c →
      (number : ℕ) → number ≡ s.next → IsOver s number by on kind marks given c
  over_is given c is over number next =
      subst (λ k. IsOver s k by on kind marks given c) (sym next) (over_at_once given c is over)

-- ---- what is kept shows the state behind both

module _ {H S : Type 0} (marks : H → Marks) (limits : Limits) (counts : Counts) (names : Names)
    (cells : List (Cell H S)) (jobs : JobList (ReadyOp H)) (timers : Timers (Waiting H)) (streams : StreamList (Streaming H))
    (tally : Tally) (s : ContextState) (n by : ℕ) (on : Lane) (kind : Operation) (given : Gone) (c : Code)
    (buffer : Option (Vec ℕ)) (handler : H) (number : n ≡ s.next) (over : IsOver s n by on kind (marks handler) given c)
    (shows : Shows marks limits counts names cells jobs s) (waits : ShowsWaits marks limits timers s)
    (on_them : ShowsStreams marks limits streams s) (counted : IsTally tally s) where
  abbrev both_events : ContextState
  both_events = after (event.Done n c 0) (after (event.Called n (Some by) (posting on kind (marks handler)) given) s)

  pub over_shown : Shows marks limits (counts_called counts) names
      (entered_cells false (lane_left on given) (ready_posting n c buffer handler) cells)
      (entered_jobs false (lane_left on given) (ready_posting n c buffer handler) cells jobs) both_events
  over_shown =
      subst
      (Shows marks limits (counts_called counts) names
      (entered_cells false (lane_left on given) (ready_posting n c buffer handler) cells)
      (entered_jobs false (lane_left on given) (ready_posting n c buffer handler) cells jobs)) (sym over.behind)
      (shows_with marks limits counts names cells jobs s false n by (lane_left on given) kind c buffer handler over.left
      (left_waits n (s.waits ++ [])) number over.none over.there shows)

  pub over_tallied : IsTally (tally_called tally) both_events
  over_tallied =
      tally_pushed tally s both_events (Some by) (posted_op n (lane_left on given) kind (marks handler) c) counted refl
      (ap (λ (x : ContextState). x.ops) over.behind) (ap (λ (x : ContextState). x.next) over.behind)
      (ap (λ (x : ContextState). x.streams) over.behind)

  over_stays : StaysPending s both_events
  over_stays =
      stays_pushed s both_events (Some by) (posted_op n (lane_left on given) kind (marks handler) c) refl
      (ap (λ (x : ContextState). x.ops) over.behind) (ap (λ (x : ContextState). x.timers) over.behind)
      (ap (λ (x : ContextState). x.names) over.behind)
      (ap (λ (x : ContextState). x.waits) over.behind ∙ others_wait marks limits timers s n number shows.below waits)
      (ap (λ (x : ContextState). x.streams) over.behind)

  pub over_waits : ShowsWaits marks limits timers both_events
  over_waits = waits_stay marks limits timers s both_events waits over_stays

  pub over_streams : ShowsStreams marks limits streams both_events
  over_streams =
      streams_stay marks limits streams s both_events on_them over_stays
      (ap (λ (x : ContextState). length x.names.streams) over.behind)
