-- A stream was closed: the first of what is left on it completes, and what is kept shows the state behind that.
use Rattle.std.proofs.Common.{arith, ap, refl, subst, sym, ◌∙◌, ⊎_elim}
use Rattle.std.proofs.lemmas.Bool.{true≢false}
use Rattle.std.proofs.lemmas.List.{length-set}
use Rattle.std.specs.Global.{Vec}
use Rattle.std.specs.Prelude.{◌≡◌, ◌<◌, ℕ, ◌+◌, ◌==◌, ◌&&◌, ◌||◌, not, cond, Bool, true, false, List, [], ◌∷◌, Option, None, Some, drop, length, slice_get, if◌then◌else◌}
use Rattle.std.specs.List.{filter, slice_index_or}
use Rattle.asio_types.specs.declared.code.Code.TheVariants as code
use Rattle.io_rules.specs.declared.event.Event.{Event}
use Rattle.io_rules.specs.declared.event.Event.TheVariants as event
use Rattle.io_rules.specs.declared.limits.Limits.{Limits}
use Rattle.io_rules.specs.declared.name.Name.{Name}
use Rattle.io_rules.specs.declared.op.Op.{Op}
use Rattle.io_rules.specs.declared.op.Phase.{Phase}
use Rattle.io_rules.specs.declared.op.Phase.TheVariants as phase
use Rattle.io_rules.specs.declared.operation.Side.{Side}
use Rattle.io_rules.specs.declared.operation.Side.TheVariants as side
use Rattle.io_rules.specs.declared.request.Marks.{Marks}
use Rattle.io_rules.specs.Cancelling.{cancelled, cancelled_phase, is_among, is_first, is_out_for, is_tried, is_tried_at, ops_cancelled, queue_of, same_side}
use Rattle.io_rules.specs.Changes.{is_out, place_freed}
use Rattle.io_rules.specs.Completing.{others_than, side_left, streams_left}
use Rattle.io_rules.specs.Legal.{IsLegal, MayHappen, after, state_of}
use Rattle.io_rules.specs.Names.{Names, is_current}
use Rattle.io_rules.specs.Operations.{Target, at, target_of}
use Rattle.io_rules.specs.Ops.{is_pending, op_at, phase_changed}
use Rattle.io_rules.specs.Room.{places_in}
use Rattle.io_rules.specs.Serving.{first_of, served_phase, with_queue}
use Rattle.io_rules.specs.State.{ContextState, StreamState, new_stream, stream_at, with_stream}
use Rattle.io_rules.proofs.FitLemmas.{FitsStrand, runs_on, tied_to}
use Rattle.io_rules.proofs.FitLemmas as fits_of
use Rattle.io_rules.proofs.RoomLemmas.{places_add_up}
use Rattle.io_rules.proofs.StageLemmas.{stage_of, total-cancelled}
use Rattle.io_rules.proofs.StrandLemmas.{both, by_test}
use Rattle.io_rules.proofs.StrandStateLemmas.{strands_fit}
use Rattle.io_rules.proofs.TotalLemmas.{apart, equal, number-op_at, sum_by-total, total}
use Rattle.io_history.proofs.AtLemmas.{at-changed}
use Rattle.io_strands.specs.declared.ready.ReadyOp.{ReadyOp}
use Rattle.io_strands.specs.Cell.{Cell}
use Rattle.io_jobs.specs.Listed.{JobList}
use Rattle.io_queues.proofs.FoundLemmas.{IsIn}
use Rattle.io_streams.specs.declared.pending.PendingOp.{PendingOp}
use Rattle.io_streams.specs.Kept.{IsWhole}
use Rattle.io_streams.specs.Pending.{Entry, StreamList, first_in, is_at, is_tried_in, numbered_in, untried_on, without_op}
use Rattle.io_streams.proofs.InOrderLemmas.{cancelled_in_order}
use Rattle.io_timers.specs.Kept.{Each}
use Rattle.io_timers.specs.Pending.{Timers}
use Rattle.io_scheduler.specs.declared.counts.Counts.{Counts}
use Rattle.io_scheduler.specs.declared.streaming.Streaming.{Streaming}
use Rattle.io_scheduler.specs.declared.tally.Tally.{Tally}
use Rattle.io_scheduler.specs.declared.waiting.Waiting.{Waiting}
use Rattle.io_scheduler.specs.Closing.{IsClosing, StillApart, numbers_of, with_closed}
use Rattle.io_scheduler.specs.Expired.{left_waits}
use Rattle.io_scheduler.specs.Completed.{MayBeReadyOn, completed_state, readied_cells, readied_jobs}
use Rattle.io_scheduler.specs.Settling.{ShowsPending, op_done}
use Rattle.io_scheduler.specs.Streams.{AreStreaming, IsPlain, IsStreamingAs}
use Rattle.io_scheduler.specs.Streaming.{on_streams}
use Rattle.io_scheduler.specs.Tallied.{tally_completed}
use Rattle.io_scheduler.specs.Waits.{IsThere}
use Rattle.io_scheduler.proofs.AbortingLemmas as aborting
use Rattle.io_scheduler.proofs.AbsentLemmas.{headed, sides_equal}
use Rattle.io_scheduler.proofs.CancelledLemmas.{IsToCancel}
use Rattle.io_scheduler.proofs.ClosingLemmas.{IsBeside, closing_gone, closing_may, closing_out}
use Rattle.io_scheduler.proofs.CompletedLemmas.{ready_with}
use Rattle.io_scheduler.proofs.CurrentLemmas.{came_cancelled}
use Rattle.io_scheduler.proofs.ExpiredLemmas.{room_on, shows_on, there_tied}
use Rattle.io_scheduler.proofs.LeavingLemmas.{LeavesSide, left_is, out_queue, queue_own, side_at, side_fewer, side_out_same, side_pending, side_still}
use Rattle.io_scheduler.proofs.OnItLemmas.{Cut, IsUntried, Passes, Up, each_apart, first_cut, first_passes, in_among, is_untried, kept_first, only_in, only_left, others_fewer, side_itself, untried_is, up_filter}
use Rattle.io_scheduler.proofs.PlacedLemmas.{streams_shown}
use Rattle.io_scheduler.proofs.ReadyLemmas.{at_changed}
use Rattle.io_scheduler.proofs.ServedLemmas.{IsUnserved}
use Rattle.io_scheduler.proofs.SettledLemmas.{unready_op, waits_done, waits_same}
use Rattle.io_scheduler.proofs.TallyLemmas.{tally_incomplete, tally_leaves}
use Rattle.io_scheduler.proofs.TriedLemmas.{streaming_at}

some_is : {X : Type 0} (a b : X) → Some a ≡ Some b → a ≡ b
some_is a b is = cc

-- ---- what a cancellation makes of them

in_streaming : {H : Type 0} (marks : H → Marks) (ops : List Op) (w : Entry (PendingOp (Streaming H)))
    (xs : List (Entry (PendingOp (Streaming H)))) → IsIn w xs → AreStreaming marks ops xs → IsStreamingAs marks ops w.item
in_streaming marks ops w [] at all = absurd at
in_streaming {H} marks ops w (x ∷ xs) at all =
    ⊎_elim
    (λ (here : w ≡ x). subst (λ (y : Entry (PendingOp (Streaming H))). IsStreamingAs marks ops y.item) (sym here) all.0)
    (λ (later : IsIn w xs). in_streaming marks ops w xs later all.1) at

tried_as : (current out first : Bool) → (out && first) ≡ false → (current && out && first) ≡ false
tried_as true out first is = is
tried_as false out first is = refl

-- no system call is under way for it
untried_here : {H : Type 0} (marks : H → Marks) (v : ContextState) (name : Name) (x : PendingOp (Streaming H))
    (it : IsStreamingAs marks v.ops x) → IsUntried name (stream_at v.streams name) x → is_tried v it.op ≡ false
untried_here marks v name x it is =
    let here : stream_at v.streams x.stream ≡ stream_at v.streams name =
    ap (λ k. slice_index_or v.streams k new_stream) (equal x.stream.place name.place is.place) in
    ap (is_tried_at v it.op.number) (ap target_of it.kind ∙ it.target)
    ∙ ap (λ k. is_tried_at v k (at x.stream x.side)) (number-op_at x.op v.ops it.op it.is)
    ∙ tried_as (is_current v.names.streams x.stream) (is_out_for x.side (stream_at v.streams x.stream).out)
    (is_first (first_of x.side (stream_at v.streams x.stream)) x.op)
    (ap (λ (st : StreamState). is_out_for x.side st.out && is_first (first_of x.side st) x.op) here ∙ is.untried)

pub to_cancel_at : {H : Type 0} (marks : H → Marks) (v : ContextState) (name : Name) (x : PendingOp (Streaming H)) →
    IsStreamingAs marks v.ops x → IsUntried name (stream_at v.streams name) x → IsToCancel v x.op
to_cancel_at marks v name x it is = record {
  op = it.op;
  is = it.is;
  settles =
      ap (λ p. is_pending p && not (is_tried v it.op)) it.phase ∙ ap not (untried_here marks v name x it is);
}

-- each of them is settled
pub each_to_cancel : {H : Type 0} (marks : H → Marks) (v : ContextState) (name : Name)
    (xs : List (Entry (PendingOp (Streaming H)))) → AreStreaming marks v.ops xs →
    Each (IsToCancel v) (numbers_of (filter (is_untried name (stream_at v.streams name)) xs))
each_to_cancel marks v name [] all = tt
each_to_cancel {H} marks v name (x ∷ xs) all =
    let test : Entry (PendingOp (Streaming H)) → Bool = is_untried name (stream_at v.streams name) in
    by_test (test x)
    (λ yes.
    subst (λ b. Each (IsToCancel v) (numbers_of (cond b (x ∷ filter test xs) (filter test xs)))) (sym yes) (
      to_cancel_at marks v name x.item all.0 (untried_is name (stream_at v.streams name) x yes),
      each_to_cancel marks v name xs all.1,
    ))
    (λ other.
    subst (λ b. Each (IsToCancel v) (numbers_of (cond b (x ∷ filter test xs) (filter test xs)))) (sym other)
    (each_to_cancel marks v name xs all.1))

ended_phase : (p : Phase) → is_pending (cancelled_phase false p) ≡ false
ended_phase (phase.Pending moved cancelled) = refl
ended_phase (phase.Settled given size) = refl
ended_phase (phase.Ready given size) = refl
ended_phase (phase.Running own grant spares) = refl

-- and then it isn't pending
not_pending : (s : ContextState) (n : ℕ) (x : Op) (numbers : List ℕ) (ops : List Op) → op_at ops n ≡ Some x →
    is_tried s x ≡ false → is_among numbers n ≡ true → (o : Op) → op_at (ops_cancelled s numbers ops) n ≡ Some o →
    is_pending o.phase ≡ false
not_pending s n x [] ops is untried among o found = absurd (true≢false (sym among))
not_pending s n x (m ∷ numbers) ops is untried among o found =
    let g : Op → Phase = λ op. cancelled_phase (is_tried s op) op.phase in
    by_test (m == n)
    (λ here.
    let at : m ≡ n = equal m n here in
    let came = came_cancelled s numbers (phase_changed m g ops) n o found in
    let now : Op = record x { phase = g x } in
    let is_now : op_at (phase_changed m g ops) n ≡ Some now =
    ap (λ k. op_at (phase_changed k g ops) n) at ∙ at_changed n g ops x is in
    let same : came.op ≡ now = some_is came.op now (sym came.is ∙ is_now) in
    let ended : is_pending came.op.phase ≡ false =
    ap (λ (op : Op). is_pending op.phase) same ∙ ap (λ t. is_pending (cancelled_phase t x.phase)) untried ∙ ended_phase x.phase in
    by_test (is_pending o.phase) (λ yes. absurd (true≢false (sym (came.pending yes) ∙ ended))) (λ isnt. isnt))
    (λ other.
    not_pending s n x numbers (phase_changed m g ops)
    (at-changed m n g ops x (λ (at : m ≡ n). absurd (apart m n other (sym at))) is) untried
    (sym (ap (λ b. b || is_among numbers n) other) ∙ among) o found)

-- so that nothing serves it
unserved_ended : (stream : StreamState) (on : Side) (o : Op) → is_pending o.phase ≡ false → IsUnserved stream on o
unserved_ended stream on o ended = by_phase (is_out_for on stream.out) o.phase ended
  where
    by_phase : (b : Bool) (p : Phase) → is_pending p ≡ false →
        (if b then record { phase = p; held = stream.held } else served_phase stream o.kind p)
        ≡ record { phase = p; held = stream.held }
    by_phase true p ended = refl
    by_phase false (phase.Pending moved cancelled) ended = absurd (true≢false ended)
    by_phase false (phase.Settled given size) ended = refl
    by_phase false (phase.Ready given size) ended = refl
    by_phase false (phase.Running own grant spares) ended = refl

unserved_out : (stream : StreamState) (on : Side) (o : Op) → is_out_for on stream.out ≡ true → IsUnserved stream on o
unserved_out stream on o out =
    ap (λ b. if b then record { phase = o.phase; held = stream.held } else served_phase stream o.kind o.phase) out

fits_closed : (kept : Bool) (name : Name) (numbers : List ℕ) (v : ContextState) (strand : Name) →
    FitsStrand (with_closed kept name (cancelled numbers v)) strand → FitsStrand v strand
fits_closed kept name numbers v strand fits =
    let tied = total-cancelled (tied_to strand) v numbers v.ops in
    let runs = total-cancelled (runs_on strand) v numbers v.ops in
    let waits = total-cancelled (fits_of.waits_on strand) v numbers v.ops in
    let le = fits.tied_fits in
    record {
      tied_fits = omega (arith, le, tied);
      runs_fits = sym runs ∙ fits.runs_fits;
      waits_fits = sym waits ∙ fits.waits_fits;
    }

module _ {H S : Type 0} (marks : H → Marks) (limits : Limits) (past : List Event) (counts : Counts) (names : Names)
    (cells : List (Cell H S)) (jobs : JobList (ReadyOp H)) (timers : Timers (Waiting H)) (streams : StreamList (Streaming H))
    (tally : Tally) (name : Name) (it : PendingOp (Streaming H))
    (closing : IsClosing marks limits counts names cells jobs timers streams tally name (state_of limits past))
    (first : first_in (untried_on name streams) ≡ Some it) (numbered : numbered_in it.op streams.ops ≡ Some it)
    (whole : IsWhole streams) where
  abbrev v : ContextState
  v = closing.waiting

  abbrev stream : StreamState
  stream = stream_at streams.streams name

  abbrev kept : Bool
  kept = is_out stream.out

  stream_is : stream ≡ stream_at v.streams name
  stream_is = ap (λ xs. stream_at xs name) closing.pending.streams_are

  passing : Passes (is_untried name stream) streams.ops it
  passing = first_passes (is_untried name stream) streams.ops it first

  this : IsUntried name stream it
  this = subst (IsUntried name stream) passing.item (untried_is name stream passing.entry passing.passes)

  place : it.stream.place ≡ name.place
  place = equal it.stream.place name.place this.place

  known : IsStreamingAs marks v.ops it
  known = streaming_at marks v.ops it.op it streams.ops numbered closing.pending.each

  this_here : IsUntried name (stream_at v.streams name) it
  this_here = subst (λ st. IsUntried name st it) stream_is this

  untried : is_tried v known.op ≡ false
  untried = untried_here marks v name it known this_here

  pub next_cut : Cut (untried_on name streams) it
  next_cut = first_cut (untried_on name streams) it first

  abbrev rest : List ℕ
  rest = numbers_of next_cut.rest

  numbers_are : numbers_of (untried_on name streams) ≡ it.op ∷ rest
  numbers_are = ap numbers_of next_cut.is ∙ ap (λ (x : PendingOp (Streaming H)). x.op ∷ rest) next_cut.item

  others : Each (λ m. m ≡ it.op → ⊥) rest
  others =
      let up = subst Up numbers_are (up_filter (is_untried name stream) streams.ops whole.rises) in each_apart it.op rest up.0

  to_cancel : Each (IsToCancel v) rest
  to_cancel =
      let all : Each (IsToCancel v) (it.op ∷ rest) =
      subst (Each (IsToCancel v))
      (ap (λ st. numbers_of (filter (is_untried name st) streams.ops)) (sym stream_is) ∙ numbers_are)
      (each_to_cancel marks v name streams.ops closing.pending.each) in
      all.1

  pub next_left : untried_on name (without_op it streams) ≡ next_cut.rest
  next_left = cancelled_in_order name streams it whole first ∙ ap (drop 1) next_cut.is

  is : state_of limits past ≡ with_closed kept name (cancelled (it.op ∷ rest) v)
  is = closing.is ∙ ap (λ ns. with_closed kept name (cancelled ns v)) numbers_are

  -- ---- its side

  plain : IsPlain stream
  plain = subst IsPlain (sym stream_is) (closing.pending.plain name)

  -- it is one of its side
  among_side : is_among (queue_of it.side stream) it.op ≡ true
  among_side =
      let at_side : is_at name.place it.side passing.entry ≡ true =
      ap (λ (x : PendingOp (Streaming H)). (x.stream.place == name.place) && same_side x.side it.side) passing.item
      ∙ ap (λ b. b && same_side it.side it.side) this.place ∙ side_itself it.side in
      ap (λ q. is_among q it.op) (whole.sides name it.side)
      ∙ ap (λ (x : PendingOp (Streaming H)). is_among (numbers_of (filter (is_at name.place it.side) streams.ops)) x.op) (sym passing.item)
      ∙ in_among (is_at name.place it.side) passing.entry streams.ops passing.there at_side

  abbrev leaves : LeavesSide name it.side streams it
  leaves = record {
    numbered = numbered;
    place = place;
    on = refl;
    within = closing.within;
    rest = others_than it.op (queue_of it.side stream);
    fewer =
        others_fewer it.op (queue_of it.side stream)
        (subst Up (sym (whole.sides name it.side)) (up_filter (is_at name.place it.side) streams.ops whole.rises)) among_side;
    left = left_is it.side it.op stream plain.searched;
  }

  -- the one for which a system call is under way stays first
  stays_first : (on : Side) → is_out_for on stream.out ≡ true →
      first_of on (with_queue it.side (others_than it.op (queue_of it.side stream)) stream) ≡ first_of on stream
  stays_first on = kept_first it.side on it.op stream this.untried

  busy_side : is_out_for it.side stream.out ≡ true → slice_get (others_than it.op (queue_of it.side stream)) 0 ≡ None → ⊥
  busy_side out none =
      closing.pending.busy name it.side (ap (λ (st : StreamState). is_out_for it.side st.out) (sym stream_is) ∙ out)
      (ap (first_of it.side) (sym stream_is) ∙ sym (stays_first it.side out)
      ∙ ap (λ q. slice_get q 0) (queue_own it.side (others_than it.op (queue_of it.side stream)) stream) ∙ none)

  not_connect : it.side ≡ side.Connect → ⊥
  not_connect connects =
      true≢false
      (sym among_side ∙ ap (λ on. is_among (queue_of on stream) it.op) connects ∙ ap (λ q. is_among q it.op) plain.connects)

  abbrev target : Target
  target = record { stream = it.stream; side = it.side }

  abbrev behind : ContextState
  behind = op_done it.op code.Aborted it.item.moved it.item.lane target v

  abbrev left_streams : StreamList (Streaming H)
  left_streams = without_op it streams

  stream_here : stream_at v.streams it.stream ≡ stream
  stream_here = ap (λ k. slice_index_or v.streams k new_stream) place ∙ sym stream_is

  left_here : stream_at behind.streams it.stream ≡ stream_at left_streams.streams name
  left_here =
      ap (λ k. slice_index_or behind.streams k new_stream) place
      ∙ ap (λ xs. stream_at (streams_left it.op (Some target) xs) name) (sym closing.pending.streams_are)

  beside : IsBeside v it.op target
  beside = record {
    kept = λ on.
        subst (λ st. is_out_for on st.out ≡ true → first_of on (side_left it.side it.op st) ≡ first_of on st) (sym stream_here)
        (λ out. ap (first_of on) leaves.left ∙ stays_first on out);
  }

  pending_now : ShowsPending marks limits left_streams behind
  pending_now =
      side_pending marks limits streams v name it.side it closing.pending whole leaves busy_side
      (phase.Ready code.Aborted it.item.moved) behind refl refl refl

  plain_now : IsPlain (stream_at behind.streams it.stream)
  plain_now = pending_now.plain it.stream

  -- the next of its side is settled too, unless a system call is under way for it
  rests : IsWhole left_streams → (k : ℕ) (o : Op) → first_of it.side (stream_at behind.streams it.stream) ≡ Some k →
      op_at (cancelled rest behind).ops k ≡ Some o → IsUnserved (stream_at behind.streams it.stream) it.side o
  rests whole_now k o at_first found =
      let now = stream_at behind.streams it.stream in
      let first_now : first_of it.side (stream_at left_streams.streams name) ≡ Some k =
      ap (first_of it.side) (sym left_here) ∙ at_first in
      by_test (is_out_for it.side now.out)
      (λ out. unserved_out now it.side o out)
      (λ isnt.
      let next = headed (is_at name.place it.side) k left_streams.ops
      (sym (ap (λ q. slice_get q 0) (whole_now.sides name it.side)) ∙ first_now) in
      let x = next.it.item in
      let halves = both (x.stream.place == name.place) (same_side x.side it.side) next.passes in
      let as_now = in_streaming marks behind.ops next.it left_streams.ops next.there pending_now.each in
      let off : is_tried_in (stream_at left_streams.streams name) x ≡ false =
      ap (λ on. is_out_for on (stream_at left_streams.streams name).out && is_first (first_of x.side (stream_at left_streams.streams name)) x.op)
      (sides_equal x.side it.side halves.other)
      ∙ ap (λ (st : StreamState). is_out_for it.side st.out && is_first (first_of x.side (stream_at left_streams.streams name)) x.op) (sym left_here)
      ∙ ap (λ b. b && is_first (first_of x.side (stream_at left_streams.streams name)) x.op) isnt in
      let at_name : stream_at behind.streams name ≡ stream_at left_streams.streams name =
      sym (ap (λ j. slice_index_or behind.streams j new_stream) place) ∙ left_here in
      let listed : is_among rest k ≡ true =
      ap (λ l. is_among (numbers_of l) k) (sym next_left)
      ∙ ap (is_among (numbers_of (untried_on name left_streams))) (sym next.number)
      ∙ in_among (is_untried name (stream_at left_streams.streams name)) next.it left_streams.ops next.there
      (ap (λ b. b && not (is_tried_in (stream_at left_streams.streams name) x))
      (sym (only_in name next.it left_streams.ops (only_left name it.op streams.ops closing.only) next.there) ∙ halves.one)
      ∙ ap not off) in
      unserved_ended now it.side o
      (not_pending behind k as_now.op rest behind.ops (ap (op_at behind.ops) (sym next.number) ∙ as_now.is)
      (untried_here marks behind name x as_now (record { place = halves.one; untried = ap (λ st. is_tried_in st x) at_name ∙ off }))
      listed o found))

  -- ---- the step

  pub next_may : MayHappen (state_of limits past) (event.Done it.op code.Aborted it.item.moved)
  next_may =
      subst (λ t. MayHappen t (event.Done it.op code.Aborted it.item.moved)) (sym is)
      (closing_may marks v it known closing.shows.settled rest others to_cancel untried
      (place_freed true kept name v.names.streams) (if kept then v.streams else with_stream name new_stream v.streams)
      closing.shows.going)

  next_after : IsWhole left_streams → left_waits it.op v.waits ≡ v.waits →
      after (event.Done it.op code.Aborted it.item.moved) (with_closed kept name (cancelled (it.op ∷ rest) v))
      ≡ with_closed kept name (cancelled rest behind)
  next_after whole_now waits = by_place kept
    where
      by_place : (b : Bool) →
          after (event.Done it.op code.Aborted it.item.moved) (with_closed b name (cancelled (it.op ∷ rest) v))
          ≡ with_closed b name (cancelled rest behind)
      by_place true =
          closing_out marks v it known closing.shows.settled rest others to_cancel untried name waits not_connect beside
          plain_now (rests whole_now)
      by_place false =
          closing_gone marks v it known closing.shows.settled rest others to_cancel untried name waits not_connect beside
          place (subst (λ xs. name.place < length xs) closing.pending.streams_are closing.within)

  pub next_number : tally.waiting < counts.next
  next_number =
      let less = tally_incomplete tally v it.op known.op closing.tallied known.is (ap stage_of known.phase) in
      let next = ap (λ (c : Counts). c.next) closing.shows.counts_are in
      omega (arith, less, next)

  still_now : StillApart name left_streams
  still_now other on x head apart_from =
      side_still marks limits streams v name it.side it closing.pending whole leaves other on x head
      (λ here.
      by_test (is_out_for on stream.out)
      (λ out. stays_first on out)
      (λ isnt. absurd (apart_from here (ap (λ k. is_out_for on (slice_index_or left_streams.streams k new_stream).out) (sym here) ∙ out_on on ∙ isnt))))
      (λ was. closing.still other on x was
      (λ here isnt.
      apart_from here
      (ap (λ k. is_out_for on (slice_index_or left_streams.streams k new_stream).out) (sym here) ∙ out_on on
      ∙ ap (λ k. is_out_for on (slice_index_or streams.streams k new_stream).out) here ∙ isnt)))
    where
      out_on : (on : Side) → is_out_for on (stream_at left_streams.streams name).out ≡ is_out_for on stream.out
      out_on on =
          ap (λ (st : StreamState). is_out_for on st.out) (side_at marks limits streams v name it.side it closing.pending whole leaves)
          ∙ ap (is_out_for on) (out_queue it.side leaves.rest stream)

  module _ (legal : IsLegal limits past) where
    fits : (strand : Name) → FitsStrand v strand
    fits strand =
        fits_closed kept name (it.op ∷ rest) v strand
        (subst (λ t. FitsStrand t strand) is
        (strands_fit limits past legal (ap (λ (t : ContextState). t.finishing) is ∙ closing.shows.going) strand))

    there : IsThere v.names.strands it.item.lane
    there = there_tied marks limits counts names cells jobs v closing.shows fits it.op known.op known.is it.item.lane known.lane

    pub next_room : MayBeReadyOn it.item.lane cells jobs
    next_room =
        let sum = sum_by-total (λ (op : Op). places_in op.phase) (state_of limits past).ops in
        let places = places_add_up limits past legal in
        let room = ap (λ (t : ContextState). t.room) is in
        let ops = ap (λ (t : ContextState). total (λ (op : Op). places_in op.phase) t.ops) is in
        let alike = aborting.total-cancelled (λ op. places_in op.phase) v (λ t op. aborting.same_places t op.phase)
        (it.op ∷ rest) v.ops in
        room_on marks limits counts names cells jobs v closing.shows it.op it.item.handler
        (omega (arith, sum, places, room, ops, alike)) fits it.item.lane there
        (unready_op marks v it known closing.shows.settled code.Aborted it.item.moved) (ap stage_of known.phase)

    pub next_closing : IsWhole left_streams → (buffer : Option (Vec ℕ)) (made : Option Name) →
        IsClosing marks limits counts names
        (readied_cells it.item.lane (ready_with it.op code.Aborted it.item.moved buffer made it.item.handler) cells)
        (readied_jobs it.item.lane (ready_with it.op code.Aborted it.item.moved buffer made it.item.handler) cells jobs) timers
        (without_op it streams) (tally_completed tally) name
        (after (event.Done it.op code.Aborted it.item.moved) (state_of limits past))
    next_closing whole_now buffer made =
        let new = behind in
        let waits = waits_same marks limits timers v it known closing.waits in
        let fewer = ap (λ xs. on_streams (streams_left it.op (Some target) xs) + 1) (sym closing.pending.streams_are)
        ∙ side_fewer marks limits streams v name it.side it closing.pending whole leaves
        ∙ ap on_streams closing.pending.streams_are in
        record {
          waiting = new;
          is =
              ap (after (event.Done it.op code.Aborted it.item.moved)) is
              ∙ next_after whole_now waits
              ∙ ap (λ ns. with_closed kept name (cancelled ns new)) (ap numbers_of (sym next_left))
              ∙ ap (λ b. with_closed b name (cancelled (numbers_of (untried_on name left_streams)) new))
              (ap is_out (sym (out_queue it.side leaves.rest stream))
              ∙ ap (λ (st : StreamState). is_out st.out)
              (sym (side_at marks limits streams v name it.side it closing.pending whole leaves)));
          within = subst (λ n. name.place < n) (sym (length-set streams.streams it.stream.place _)) closing.within;
          only = only_left name it.op streams.ops closing.only;
          shows =
              streams_shown marks limits counts names _ _ (completed_state it.op code.Aborted it.item.moved it.item.lane [] v.waits v)
              new.streams
              (shows_on marks limits counts names cells jobs v closing.shows it.op code.Aborted it.item.moved buffer made
              it.item.handler [] v.waits refl it.item.lane there
              (unready_op marks v it known closing.shows.settled code.Aborted it.item.moved));
          waits = waits_done marks limits timers v it code.Aborted it.item.moved target known fewer closing.waits;
          tallied =
              tally_leaves tally v it.op code.Aborted it.item.moved it.item.lane target known.op closing.tallied known.is
              (ap stage_of known.phase) fewer (side_out_same marks limits streams v name it.side it closing.pending whole leaves);
          pending = pending_now;
          still = still_now;
        }
