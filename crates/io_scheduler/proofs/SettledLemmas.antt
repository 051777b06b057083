-- The first operation of a side is settled, and completes: its event may come, and what is kept then.
use Rattle.std.proofs.Common.{arith, ap, refl, subst, sym, ◌∙◌}
use Rattle.std.proofs.lemmas.List.{append-nil, length-set}
use Rattle.std.specs.Global.{Vec}
use Rattle.std.specs.Prelude.{◌≡◌, ◌<◌, ℕ, ◌+◌, ◌==◌, cond, not, true, false, List, [], ◌∷◌, ◌++◌, Option, Some, None, map, slice_get, sum_by, if◌then◌else◌}
use Rattle.std.specs.Option.{is_some}
use Rattle.asio_types.specs.declared.code.Code.{Code}
use Rattle.io_rules.specs.declared.event.Event.{Event}
use Rattle.io_rules.specs.declared.event.Event.TheVariants as event
use Rattle.io_rules.specs.declared.limits.Limits.{Limits}
use Rattle.io_rules.specs.declared.name.Lane.{Lane}
use Rattle.io_rules.specs.declared.name.Name.{Name}
use Rattle.io_rules.specs.declared.op.Op.{Op}
use Rattle.io_rules.specs.declared.op.Phase.{Phase}
use Rattle.io_rules.specs.declared.op.Phase.TheVariants as phase
use Rattle.io_rules.specs.declared.op.Wait.{Wait}
use Rattle.io_rules.specs.declared.operation.Binding.{Binding}
use Rattle.io_rules.specs.declared.operation.Operation.{Operation}
use Rattle.io_rules.specs.declared.operation.Operation.TheVariants as operation
use Rattle.io_rules.specs.declared.operation.Side.{Side}
use Rattle.io_rules.specs.declared.operation.Side.TheVariants as side
use Rattle.io_rules.specs.declared.request.Marks.{Marks}
use Rattle.io_rules.specs.Cancelling.{is_out_for}
use Rattle.io_rules.specs.Completing.{MayCompleteAs, binding_of, kind_of, others_than, slots_left, streams_left}
use Rattle.io_rules.specs.Legal.{IsLegal, MayHappen, after, state_of}
use Rattle.io_rules.specs.Names.{Names}
use Rattle.io_rules.specs.Operations.{Target, at, behind_connect, target_of}
use Rattle.io_rules.specs.Ops.{is_ready, lane_of, op_at, with_phase}
use Rattle.io_rules.specs.Room.{places_in}
use Rattle.io_rules.specs.Serving.{first_of, served}
use Rattle.io_rules.specs.State.{ContextState, stream_at}
use Rattle.io_rules.specs.Strands.{on_lane, ready_on}
use Rattle.io_rules.proofs.FitLemmas.{FitsStrand, FitsWith, runs_on, tied_to}
use Rattle.io_rules.proofs.FitLemmas as fits_of
use Rattle.io_rules.proofs.RoomLemmas.{places_add_up}
use Rattle.io_rules.proofs.StageLemmas.{Idle, Stage, stage_of, staged}
use Rattle.io_rules.proofs.StrandStateLemmas.{strands_fit}
use Rattle.io_rules.proofs.StrandLemmas.{by_test}
use Rattle.io_rules.proofs.TotalLemmas.{equal, same, sum_by-total, total, total-changed}
use Rattle.io_history.proofs.AtLemmas.{at-changed}
use Rattle.io_strands.specs.declared.ready.ReadyOp.{ReadyOp}
use Rattle.io_strands.specs.Cell.{Cell}
use Rattle.io_jobs.specs.Listed.{JobList}
use Rattle.io_queues.specs.Queued.{found_in}
use Rattle.io_queues.specs.Queued as queued
use Rattle.io_streams.specs.declared.pending.PendingOp.{PendingOp}
use Rattle.io_streams.specs.Kept.{IsWhole}
use Rattle.io_streams.specs.Pending.{IsHead, StreamList, without_op}
use Rattle.io_timers.specs.declared.pending.PendingWait.{PendingWait}
use Rattle.io_timers.specs.Kept.{Each}
use Rattle.io_timers.specs.Pending.{Entry, Timers, wait_of}
use Rattle.io_timers.proofs.OrderLemmas.{filter-all}
use Rattle.io_scheduler.specs.declared.counts.Counts.{Counts}
use Rattle.io_scheduler.specs.declared.streaming.Streaming.{Streaming}
use Rattle.io_scheduler.specs.declared.tally.Tally.{Tally}
use Rattle.io_scheduler.specs.declared.waiting.Waiting.{Waiting}
use Rattle.io_scheduler.specs.Completed.{MayBeReadyOn, completed_state, readied_cells, readied_jobs}
use Rattle.io_scheduler.specs.Expired.{left_waits}
use Rattle.io_scheduler.specs.Settling.{IsServing, IsSettling, ShowsPending, op_done, with_settled}
use Rattle.io_scheduler.specs.Streaming.{on_streams}
use Rattle.io_scheduler.specs.Streams.{IsStreamingAs}
use Rattle.io_scheduler.specs.Tallied.{tally_completed}
use Rattle.io_scheduler.specs.Waits.{ArePending, IsThere, IsWaitingAs, ShowsWaits}
use Rattle.io_scheduler.proofs.CompletedLemmas.{IsUnready, ready_with}
use Rattle.io_scheduler.proofs.ExpiredLemmas.{room_on, shows_on, there_tied}
use Rattle.io_scheduler.proofs.IdleLemmas.{idles, incomplete_total}
use Rattle.io_scheduler.proofs.LeavingLemmas.{fewer_now, out_left, out_same, pending_left, still_left}
use Rattle.io_scheduler.proofs.PlacedLemmas.{streams_shown}
use Rattle.io_scheduler.proofs.ReadyLemmas.{at_changed}
use Rattle.io_scheduler.proofs.TallyLemmas.{tally_leaves, tally_incomplete}
use Rattle.io_scheduler.proofs.TriedLemmas.{streaming_at}

none_is : {X : Type 0} (a : X) → None ≡ Some a → ⊥
none_is a is = cc

phase-twice : (n : ℕ) (p q : Phase) (ops : List Op) → with_phase n p (with_phase n q ops) ≡ with_phase n p ops
phase-twice n p q [] = refl
phase-twice n p q (x ∷ ops) =
    let mid : Op = record x { phase = q } in
    let new : Op = record x { phase = p } in
    by_test (x.number == n)
    (λ here.
    ap (λ b. with_phase n p (if b then mid ∷ ops else x ∷ with_phase n q ops)) here
    ∙ ap (λ b. if b then new ∷ ops else mid ∷ with_phase n p ops) here
    ∙ sym (ap (λ b. if b then new ∷ ops else x ∷ with_phase n p ops) here))
    (λ other.
    ap (λ b. with_phase n p (if b then mid ∷ ops else x ∷ with_phase n q ops)) other
    ∙ ap (λ b. if b then new ∷ with_phase n q ops else x ∷ with_phase n p (with_phase n q ops)) other
    ∙ ap (λ rest. x ∷ rest) (phase-twice n p q ops)
    ∙ sym (ap (λ b. if b then new ∷ ops else x ∷ with_phase n p ops) other))

-- ---- the state behind its completion

abbrev pub done_by : ℕ → Code → ℕ → Option Target → Option Target → Option Target → Option Binding → Lane → List Op →
    List ℕ → List Wait → ContextState → ContextState
done_by n given size target read write binding on ops settled waits v =
    served write
    (served read
    (served target (record v {
      ops = ops;
      settled = settled;
      waits = waits;
      strands = on_lane on (ready_on n) v.strands;
      slots = slots_left n binding v.slots;
      streams = streams_left n target v.streams;
    })))

abbrev side_or : Option Target → Side
side_or None = side.Connect
side_or (Some target) = target.side

pub no_connect : (on : Side) (kind : Operation) (stream : Name) (sd : Side) → target_of kind ≡ at stream sd →
    (sd ≡ side.Connect → ⊥) → behind_connect on kind ≡ None
no_connect on operation.Post stream sd is other = refl
no_connect on operation.Defer stream sd is other = refl
no_connect on operation.Dispatch stream sd is other = refl
no_connect on (operation.Wait timer) stream sd is other = refl
no_connect on (operation.ReadSome name size) stream sd is other = refl
no_connect on (operation.ReadAll name size) stream sd is other = refl
no_connect on (operation.ReadUntil name max) stream sd is other = refl
no_connect on (operation.WriteSome name size) stream sd is other = refl
no_connect on (operation.WriteAll name size) stream sd is other = refl
no_connect on (operation.Accept listener) stream sd is other = refl
no_connect on (operation.Connect name) stream sd is other = absurd (other (sym (side_is is)))
  where
    side_is : at name side.Connect ≡ at stream sd → side.Connect ≡ sd
    side_is is = ap side_or is

pub served_none : (s : ContextState) → served None s ≡ s
served_none s = ap (λ l. record s { settled = l }) (append-nil s.settled)

module _ {H : Type 0} (marks : H → Marks) (v : ContextState) (it : PendingOp (Streaming H))
    (known : IsStreamingAs marks v.ops it) (none : v.settled ≡ []) (given : Code) (size : ℕ) where
  -- its event may come
  pub settled_may : v.finishing ≡ false → MayHappen (with_settled it.op given size v) (event.Done it.op given size)
  settled_may going = record {
    going = going;
    completes =
        subst (MayCompleteAs (with_settled it.op given size v) it.op given size)
        (sym (at_changed it.op (λ o. phase.Settled given size) v.ops known.op known.is))
        (record { first = ap (λ l. slice_get (l ++ it.op ∷ []) 0) none; same_code = refl; same_size = refl });
  }

  pub done_is : (waits : left_waits it.op v.waits ≡ v.waits) → (it.side ≡ side.Connect → ⊥) →
      after (event.Done it.op given size) (with_settled it.op given size v)
      ≡ served (at it.stream it.side)
      (op_done it.op given size it.item.lane (record { stream = it.stream; side = it.side }) v)
  done_is waits apart_from =
      let n = it.op in
      let ops = with_phase n (phase.Ready given size) (with_phase n (phase.Settled given size) v.ops) in
      let left = others_than n (v.settled ++ n ∷ []) in
      let ws = left_waits n v.waits in
      let kind = it.item.kind in
      let here = at it.stream it.side in
      ap (λ o. done_by n given size (target_of (kind_of o)) (behind_connect side.Read (kind_of o))
      (behind_connect side.Write (kind_of o)) (binding_of o) (lane_of o) ops left ws v)
      (at_changed n (λ o. phase.Settled given size) v.ops known.op known.is)
      ∙ ap (λ k. done_by n given size (target_of k) (behind_connect side.Read k) (behind_connect side.Write k)
      known.op.binding known.op.lane ops left ws v) known.kind
      ∙ ap (λ t. done_by n given size t (behind_connect side.Read kind) (behind_connect side.Write kind)
      known.op.binding known.op.lane ops left ws v) known.target
      ∙ ap (λ t. done_by n given size here t (behind_connect side.Write kind) known.op.binding known.op.lane ops left ws v)
      (no_connect side.Read kind it.stream it.side known.target apart_from)
      ∙ ap (λ t. done_by n given size here None t known.op.binding known.op.lane ops left ws v)
      (no_connect side.Write kind it.stream it.side known.target apart_from)
      ∙ ap (λ b. done_by n given size here None None b known.op.lane ops left ws v) known.binding
      ∙ ap (λ l. done_by n given size here None None None l ops left ws v) known.lane
      ∙ ap (λ os. done_by n given size here None None None it.item.lane os left ws v)
      (phase-twice n (phase.Ready given size) (phase.Settled given size) v.ops)
      ∙ ap (λ l. done_by n given size here None None None it.item.lane (with_phase n (phase.Ready given size) v.ops) l ws v)
      (ap (λ l. others_than n (l ++ n ∷ [])) none ∙ ap (λ b. cond (not b) (n ∷ []) []) (same n))
      ∙ ap (λ w. done_by n given size here None None None it.item.lane (with_phase n (phase.Ready given size) v.ops) [] w v) waits
      ∙ served_none _ ∙ served_none _

  abbrev pub unready_op : IsUnready marks v.ops it.item.lane it.op it.item.handler
  unready_op = record {
    op = known.op;
    is = known.is;
    lane = known.lane;
    given = known.given;
    unready = ap is_ready known.phase;
  }

-- ---- no wait is one of a stream's operations

not_wait : (kind : Operation) (timer stream : Name) (sd : Side) → kind ≡ operation.Wait timer → target_of kind ≡ at stream sd → ⊥
not_wait kind timer stream sd is on =
    none_is (record { stream = stream; side = sd }) (sym (ap target_of is) ∙ on)

some_is : {X : Type 0} (a b : X) → Some a ≡ Some b → a ≡ b
some_is a b is = cc

module _ {H : Type 0} (marks : H → Marks) (ops : List Op) (it : PendingOp (Streaming H)) (known : IsStreamingAs marks ops it) where
  not_this : (wait : PendingWait (Waiting H)) → IsWaitingAs marks ops wait → it.op ≡ wait.op → ⊥
  not_this wait waiting here =
      let one : waiting.op ≡ known.op = some_is waiting.op known.op (sym waiting.is ∙ ap (op_at ops) (sym here) ∙ known.is) in
      not_wait it.item.kind wait.timer it.stream it.side
      (sym known.kind ∙ ap (λ (o : Op). o.kind) (sym one) ∙ waiting.kind) known.target

  waits_apart : (waits : List (Entry (PendingWait (Waiting H)))) → ArePending marks ops waits →
      Each (λ (w : Wait). not (w.op == it.op) ≡ true) (map wait_of waits)
  waits_apart [] all = tt
  waits_apart (x ∷ waits) all = (
    by_test (x.item.op == it.op)
        (λ here. absurd (not_this x.item all.0 (sym (equal x.item.op it.op here))))
        (λ other. ap not other),
    waits_apart waits all.1,
  )

  pub others_pending : (p : Phase) (waits : List (Entry (PendingWait (Waiting H)))) → ArePending marks ops waits →
      ArePending marks (with_phase it.op p ops) waits
  others_pending p [] all = tt
  others_pending p (x ∷ waits) all =
      let w = all.0 in (
        record {
          op = w.op;
          is = at-changed it.op x.item.op (λ o. p) ops w.op (λ (here : it.op ≡ x.item.op). absurd (not_this x.item w here)) w.is;
          lane = w.lane;
          binding = w.binding;
          kind = w.kind;
          given = w.given;
          phase = w.phase;
        },
        others_pending p waits all.1,
      )

-- ---- what is kept behind it

pub waits_done : {H : Type 0} (marks : H → Marks) (limits : Limits) (timers : Timers (Waiting H)) (v : ContextState)
    (it : PendingOp (Streaming H)) (given : Code) (size : ℕ) (target : Target) → IsStreamingAs marks v.ops it →
    on_streams (streams_left it.op (Some target) v.streams) + 1 ≡ on_streams v.streams → ShowsWaits marks limits timers v →
    ShowsWaits marks limits timers (op_done it.op given size it.item.lane target v)
waits_done marks limits timers v it given size target known fewer shows =
    let all = shows.all in
    let before = incomplete_total v.ops in
    let behind = incomplete_total (with_phase it.op (phase.Ready given size) v.ops) in
    let step = total-changed (staged idles) it.op (λ o. phase.Ready given size) v.ops known.op known.is in
    let one : staged idles known.op ≡ 1 = ap (idles known.op.number known.op.lane) (ap stage_of known.phase) in
    record {
      timers_are = shows.timers_are;
      places = shows.places;
      waits_are = shows.waits_are;
      rises = shows.rises;
      each = others_pending marks v.ops it known (phase.Ready given size) timers.waits shows.each;
      all = omega (arith, all, fewer, before, behind, step, one);
      room = shows.room;
    }

pub waits_same : {H : Type 0} (marks : H → Marks) (limits : Limits) (timers : Timers (Waiting H)) (v : ContextState)
    (it : PendingOp (Streaming H)) → IsStreamingAs marks v.ops it → ShowsWaits marks limits timers v →
    left_waits it.op v.waits ≡ v.waits
waits_same marks limits timers v it known shows =
    filter-all (λ (w : Wait). not (w.op == it.op)) v.waits
    (subst (Each (λ (w : Wait). not (w.op == it.op) ≡ true)) shows.waits_are
    (waits_apart marks v.ops it known timers.waits shows.each))

-- strands and places are as before it was settled
total_settled : (f : Op → ℕ) (n : ℕ) (given : Code) (size : ℕ) (ops : List Op) (it : Op) → op_at ops n ≡ Some it →
    f (record it { phase = phase.Settled given size }) ≡ f it → total f (with_phase n (phase.Settled given size) ops) ≡ total f ops
total_settled f n given size ops it is alike =
    let step = total-changed f n (λ o. phase.Settled given size) ops it is in omega (arith, step, alike)

module _ (n : ℕ) (given : Code) (size : ℕ) (v : ContextState) (it : Op) (is : op_at v.ops n ≡ Some it)
    (idle : stage_of it.phase ≡ Idle) where
  same_total : (h : ℕ → Lane → Stage → ℕ) →
      total (staged h) (with_phase n (phase.Settled given size) v.ops) ≡ total (staged h) v.ops
  same_total h = total_settled (staged h) n given size v.ops it is (ap (h it.number it.lane) (sym idle))

  fits_settled : (name : Name) → FitsStrand (with_settled n given size v) name → FitsStrand v name
  fits_settled name fits =
      let tied = same_total (tied_to name) in
      let runs = same_total (runs_on name) in
      let waits = same_total (fits_of.waits_on name) in
      let le = fits.tied_fits in
      record {
        tied_fits = omega (arith, le, tied);
        runs_fits = sym runs ∙ fits.runs_fits;
        waits_fits = sym waits ∙ fits.waits_fits;
      }

-- no connect is pending
pub not_connect : {H : Type 0} (marks : H → Marks) (limits : Limits) (streams : StreamList (Streaming H)) (v : ContextState)
    (name : Name) (sd : Side) (it : PendingOp (Streaming H)) → ShowsPending marks limits streams v →
    IsHead name sd streams it → sd ≡ side.Connect → ⊥
not_connect marks limits streams v name sd it pending head connects =
    none_is it.op
    (ap (λ q. slice_get q 0) (sym (pending.plain name).connects)
    ∙ ap (λ on. first_of on (stream_at v.streams name)) (sym connects)
    ∙ ap (λ xs. first_of sd (stream_at xs name)) (sym pending.streams_are) ∙ head.first)

-- strands know their operations, and places add up
pub record IsSound (limits : Limits) (s : ContextState) : Type 0 where
  pub fits : (strand : Name) → FitsStrand s strand
  pub places : s.room + sum_by (λ (op : Op). places_in op.phase) s.ops ≡ limits.operations

pub sound : (limits : Limits) (past : List Event) → IsLegal limits past → (state_of limits past).finishing ≡ false →
    IsSound limits (state_of limits past)
sound limits past legal going = record {
  fits = strands_fit limits past legal going;
  places = places_add_up limits past legal;
}

module _ {H S : Type 0} (marks : H → Marks) (limits : Limits) (s : ContextState) (counts : Counts) (names : Names)
    (cells : List (Cell H S)) (jobs : JobList (ReadyOp H)) (timers : Timers (Waiting H)) (streams : StreamList (Streaming H))
    (tally : Tally) (name : Name) (sd : Side) (place : ℕ) (given : Code) (size : ℕ) (it : PendingOp (Streaming H))
    (settling : IsSettling marks limits counts names cells jobs timers streams tally name sd place given size s)
    (found : found_in place streams.ops ≡ Some it) where
  abbrev v : ContextState
  v = settling.waiting

  same_op : settling.op ≡ it
  same_op = some_is settling.op it (sym settling.found ∙ found)

  head : IsHead name sd streams it
  head = subst (IsHead name sd streams) same_op settling.head

  known : IsStreamingAs marks v.ops it
  known = streaming_at marks v.ops it.op it streams.ops head.numbered settling.pending.each

  is : s ≡ with_settled it.op given size v
  is = settling.is ∙ ap (λ (o : PendingOp (Streaming H)). with_settled o.op given size v) same_op

  pub done_going : s.finishing ≡ false
  done_going = ap (λ (t : ContextState). t.finishing) is ∙ settling.shows.going

  pub done_may : MayHappen s (event.Done it.op given size)
  done_may =
      subst (λ t. MayHappen t (event.Done it.op given size)) (sym is)
      (settled_may marks v it known settling.shows.settled given size settling.shows.going)

  pub done_number : tally.waiting < counts.next
  done_number =
      let less = tally_incomplete tally v it.op known.op settling.tallied known.is (ap stage_of known.phase) in
      let next = ap (λ (c : Counts). c.next) settling.shows.counts_are in
      omega (arith, less, next)

  module _ (going : IsSound limits s) where
    fits : (strand : Name) → FitsStrand v strand
    fits strand =
        fits_settled it.op given size v known.op known.is (ap stage_of known.phase) strand
        (subst (λ t. FitsStrand t strand) is (going.fits strand))

    there : IsThere v.names.strands it.item.lane
    there = there_tied marks limits counts names cells jobs v settling.shows fits it.op known.op known.is it.item.lane known.lane

    pub done_room : MayBeReadyOn it.item.lane cells jobs
    done_room =
        let sum = sum_by-total (λ (op : Op). places_in op.phase) s.ops in
        let places = going.places in
        let room = ap (λ (t : ContextState). t.room) is in
        let ops = ap (λ (t : ContextState). total (λ (op : Op). places_in op.phase) t.ops) is in
        let alike = total_settled (λ (op : Op). places_in op.phase) it.op given size v.ops known.op known.is
        (ap places_in (sym known.phase)) in
        room_on marks limits counts names cells jobs v settling.shows it.op it.item.handler
        (omega (arith, sum, places, room, ops, alike)) fits it.item.lane there
        (unready_op marks v it known settling.shows.settled given size) (ap stage_of known.phase)

    pub done_serving : (buffer : Option (Vec ℕ)) (made : Option Name) → IsWhole streams →
        IsServing marks limits counts names
        (readied_cells it.item.lane (ready_with it.op given size buffer made it.item.handler) cells)
        (readied_jobs it.item.lane (ready_with it.op given size buffer made it.item.handler) cells jobs) timers
        (without_op it streams) (tally_completed tally) name sd (after (event.Done it.op given size) s)
    done_serving buffer made whole =
        let target : Target = record { stream = it.stream; side = it.side } in
        let new = op_done it.op given size it.item.lane target v in
        let waits = waits_same marks limits timers v it known settling.waits in
        let fewer = ap (λ xs. on_streams (streams_left it.op (Some target) xs) + 1) (sym settling.pending.streams_are)
        ∙ fewer_now marks limits streams v name sd it settling.pending whole head
        ∙ ap on_streams settling.pending.streams_are in
        record {
          waiting = new;
          is =
              ap (after (event.Done it.op given size)) is
              ∙ done_is marks v it known settling.shows.settled given size waits
              (λ connects. not_connect marks limits streams v name sd it settling.pending head (sym head.on ∙ connects))
              ∙ ap (λ on. served (at it.stream on) new) head.on
              ∙ ap (λ k. served (at (record { place = k; generation = it.stream.generation }) sd) new) head.place;
          back = ap (is_out_for sd) (out_left marks limits streams v name sd it settling.pending whole head) ∙ settling.back;
          within = subst (λ n. name.place < n) (sym (length-set streams.streams it.stream.place _)) settling.within;
          shows =
              streams_shown marks limits counts names _ _ (completed_state it.op given size it.item.lane [] v.waits v) new.streams
              (shows_on marks limits counts names cells jobs v settling.shows it.op given size buffer made it.item.handler []
              v.waits refl it.item.lane there (unready_op marks v it known settling.shows.settled given size));
          waits = waits_done marks limits timers v it given size target known fewer settling.waits;
          tallied =
              tally_leaves tally v it.op given size it.item.lane target known.op settling.tallied known.is
              (ap stage_of known.phase) fewer (out_same marks limits streams v name sd it settling.pending whole head);
          pending = pending_left marks limits streams v name sd it settling.pending whole head settling.back (phase.Ready given size) new
              refl refl refl;
          still = still_left marks limits streams v name sd it settling.pending whole head settling.still;
        }

pub found_there : {T : Type 0} (place : ℕ) (op : PendingOp T) (ops : List (queued.Entry (PendingOp T))) →
    found_in place ops ≡ Some op → is_some (found_in place ops) ≡ true
found_there place op ops found = ap is_some found
