-- A stream was closed: the first of what is left on it completes, and leaves the state in which those behind it are
-- settled. Its place is as new, or its socket is in a system call, whose operation stays first of its side.
use Rattle.std.proofs.Common.{ap, refl, subst, sym, ◌∙◌}
use Rattle.std.proofs.lemmas.List.{append-nil, get_or-set_same, set-get_or, set-set}
use Rattle.std.specs.Prelude.{◌≡◌, ◌<◌, ℕ, ◌&&◌, not, min, Bool, true, false, List, [], ◌∷◌, ◌++◌, Option, None, Some, filter, length, slice_get}
use Rattle.std.specs.List.{slice_index_or, slice_set}
use Rattle.asio_types.specs.declared.code.Code.TheVariants as code
use Rattle.io_rules.specs.declared.event.Event.TheVariants as event
use Rattle.io_rules.specs.declared.name.Lane.{Lane}
use Rattle.io_rules.specs.declared.name.Name.{Name}
use Rattle.io_rules.specs.declared.op.Op.{Op}
use Rattle.io_rules.specs.declared.op.Phase.{Phase}
use Rattle.io_rules.specs.declared.op.Phase.TheVariants as phase
use Rattle.io_rules.specs.declared.op.Wait.{Wait}
use Rattle.io_rules.specs.declared.operation.Side.{Side}
use Rattle.io_rules.specs.declared.operation.Side.TheVariants as side
use Rattle.io_rules.specs.declared.place.Life.TheVariants as life
use Rattle.io_rules.specs.declared.place.Place.{Place}
use Rattle.io_rules.specs.declared.request.Marks.{Marks}
use Rattle.io_rules.specs.Cancelling.{cancelled, cancelled_phase, is_among, is_first, is_out_for, is_settled_by_cancel, is_tried, is_tried_at, ops_cancelled, queue_of}
use Rattle.io_rules.specs.Completing.{MayCompleteAs, binding_of, kind_of, others_than, side_left, streams_left}
use Rattle.io_rules.specs.Legal.{MayHappen, after}
use Rattle.io_rules.specs.Names.{is_current, with_freed, with_life}
use Rattle.io_rules.specs.Operations.{Target, at, behind_connect, target_of}
use Rattle.io_rules.specs.Ops.{is_pending, lane_of, op_at, phase_changed, phase_changed_of, with_phase}
use Rattle.io_rules.specs.Serving.{first_of, now_held, now_settled, op_of, served, served_op, with_held}
use Rattle.io_rules.specs.State.{ContextState, StreamState, new_stream, stream_at, with_stream}
use Rattle.io_rules.specs.Strands.{on_lane, ready_on}
use Rattle.io_rules.proofs.StrandLemmas.{by_test}
use Rattle.io_history.proofs.AtLemmas.{at-changed}
use Rattle.io_streams.specs.declared.pending.PendingOp.{PendingOp}
use Rattle.io_timers.specs.Kept.{Each}
use Rattle.io_scheduler.specs.declared.streaming.Streaming.{Streaming}
use Rattle.io_scheduler.specs.Closing.{with_closed}
use Rattle.io_scheduler.specs.Expired.{left_waits}
use Rattle.io_scheduler.specs.Settling.{op_done}
use Rattle.io_scheduler.specs.Streams.{IsPlain, IsStreamingAs}
use Rattle.io_scheduler.proofs.CancelledLemmas.{IsToCancel, at_cancelled, cancelled_alike, cancelled_comm, changed_twice, filter_off, first_off, first_settles, settles_all, waits_commute}
use Rattle.io_scheduler.proofs.KnownStillLemmas.{at_set, out_side}
use Rattle.io_scheduler.proofs.PlacedLemmas.{with_placed}
use Rattle.io_scheduler.proofs.ReadyLemmas.{at_changed}
use Rattle.io_scheduler.proofs.ServedLemmas.{IsUnserved, served_nothing}
use Rattle.io_scheduler.proofs.SettledLemmas.{done_by, no_connect, served_none}

-- ---- nothing is at its place

with_same : (streams : List StreamState) (name : Name) → stream_at streams name ≡ new_stream →
    with_stream name new_stream streams ≡ streams
with_same streams name is =
    ap (λ st. with_stream name st streams) (sym is) ∙ set-get_or streams name.place new_stream

left_new : (on : Side) (n : ℕ) → side_left on n new_stream ≡ new_stream
left_new side.Read n = refl
left_new side.Write n = refl
left_new side.Connect n = refl

streams_same : (n : ℕ) (t : Target) (streams : List StreamState) → stream_at streams t.stream ≡ new_stream →
    streams_left n (Some t) streams ≡ streams
streams_same n t streams is =
    ap (λ st. with_stream t.stream (side_left t.side n st) streams) is
    ∙ ap (λ st. with_stream t.stream st streams) (left_new t.side n) ∙ with_same streams t.stream is

abbrev served_with : Target → ContextState → StreamState → ContextState
served_with t x st =
    let held = now_held st t.side (op_of x.ops (first_of t.side st)) in
    record x {
      ops = phase_changed_of (first_of t.side st) (λ op. (served_op st t.side op).phase) x.ops;
      settled = x.settled ++ now_settled st t.side (op_of x.ops (first_of t.side st));
      streams = with_stream t.stream (with_held held (min st.searched held) st) x.streams;
    }

served_at_new : (t : Target) (x : ContextState) →
    served_with t x new_stream
    ≡ record x { settled = x.settled ++ []; streams = with_stream t.stream new_stream x.streams }
served_at_new t x = by_side t.side
  where
    by_side : (on : Side) →
        served_with (record { stream = t.stream; side = on }) x new_stream
        ≡ record x { settled = x.settled ++ []; streams = with_stream t.stream new_stream x.streams }
    by_side side.Read = refl
    by_side side.Write = refl
    by_side side.Connect = refl

served_same : (t : Target) (x : ContextState) → stream_at x.streams t.stream ≡ new_stream → served (Some t) x ≡ x
served_same t x is =
    ap (served_with t x) is ∙ served_at_new t x
    ∙ ap (λ l. record x { settled = l; streams = with_stream t.stream new_stream x.streams }) (append-nil x.settled)
    ∙ ap (λ xs. record x { streams = xs }) (with_same x.streams t.stream is)

-- ---- what is tried stays so

off_both : (a b : Bool) → (a && false && b) ≡ false
off_both true true = refl
off_both true false = refl
off_both false true = refl
off_both false false = refl

-- no system call is under way for the first of these, and so the first of a side for which one is stays
pub record IsBeside (v : ContextState) (n : ℕ) (target : Target) : Type 0 where
  pub kept : (on : Side) → is_out_for on (stream_at v.streams target.stream).out ≡ true →
      first_of on (side_left target.side n (stream_at v.streams target.stream))
      ≡ first_of on (stream_at v.streams target.stream)

module _ (v : ContextState) (n : ℕ) (lane : Lane) (target : Target) (moved : ℕ) (beside : IsBeside v n target) where
  abbrev behind : ContextState
  behind = op_done n code.Aborted moved lane target v

  abbrev tried_on : Target → ℕ → StreamState → Bool
  tried_on t k st =
      is_current v.names.streams t.stream && is_out_for t.side st.out && is_first (slice_get (queue_of t.side st) 0) k

  tried_alike : (t : Target) (k : ℕ) (a b : StreamState) → a.out ≡ b.out →
      (is_out_for t.side b.out ≡ true → first_of t.side a ≡ first_of t.side b) → tried_on t k a ≡ tried_on t k b
  tried_alike t k a b out first =
      ap (λ o. is_current v.names.streams t.stream && is_out_for t.side o && is_first (slice_get (queue_of t.side a) 0) k) out
      ∙ by_test (is_out_for t.side b.out)
      (λ is. ap (λ f. is_current v.names.streams t.stream && is_out_for t.side b.out && is_first f k) (first is))
      (λ isnt.
      ap (λ c. is_current v.names.streams t.stream && c && is_first (first_of t.side a) k) isnt
      ∙ off_both (is_current v.names.streams t.stream) (is_first (first_of t.side a) k)
      ∙ sym (ap (λ c. is_current v.names.streams t.stream && c && is_first (first_of t.side b) k) isnt
      ∙ off_both (is_current v.names.streams t.stream) (is_first (first_of t.side b) k)))

  alike_at : (k : ℕ) (t : Option Target) → is_tried_at behind k t ≡ is_tried_at v k t
  alike_at k None = refl
  alike_at k (Some t) =
      at_set (λ st. tried_on t k st ≡ tried_on t k (stream_at v.streams t.stream)) v.streams target.stream.place
      (side_left target.side n (stream_at v.streams target.stream)) t.stream.place
      (λ at lt.
      let same : stream_at v.streams target.stream ≡ stream_at v.streams t.stream =
      ap (λ j. slice_index_or v.streams j new_stream) at in
      tried_alike t k (side_left target.side n (stream_at v.streams target.stream)) (stream_at v.streams target.stream)
      (out_side target.side n (stream_at v.streams target.stream)) (beside.kept t.side) ∙ ap (tried_on t k) same)
      refl

  pub alike : (op : Op) → is_tried behind op ≡ is_tried v op
  alike op = alike_at op.number (target_of op.kind)

  still_to_cancel : (left : List ℕ) → Each (λ m. m ≡ n → ⊥) left → Each (IsToCancel v) left → Each (IsToCancel behind) left
  still_to_cancel [] others all = tt
  still_to_cancel (m ∷ left) others all = (
    record {
      op = all.0.op;
      is = at-changed n m (λ o. phase.Ready code.Aborted moved) v.ops all.0.op
          (λ (here : n ≡ m). absurd (others.0 (sym here))) all.0.is;
      settles = ap (λ b. is_pending all.0.op.phase && not b) (alike all.0.op) ∙ all.0.settles;
    },
    still_to_cancel left others.1 all.1,
  )

-- ---- the step

module _ {H : Type 0} (marks : H → Marks) (v : ContextState) (it : PendingOp (Streaming H))
    (known : IsStreamingAs marks v.ops it) (none : v.settled ≡ []) (left : List ℕ)
    (others : Each (λ m. m ≡ it.op → ⊥) left) (all : Each (IsToCancel v) left)
    (untried : is_tried v known.op ≡ false) where
  abbrev n : ℕ
  n = it.op

  abbrev moved : ℕ
  moved = it.item.moved

  abbrev target : Target
  target = record { stream = it.stream; side = it.side }

  abbrev settled_op : Op
  settled_op = record known.op { phase = phase.Settled code.Aborted it.item.moved }

  to_cancel : IsToCancel v n
  to_cancel = record {
    op = known.op;
    is = known.is;
    settles = ap (λ p. is_pending p && not (is_tried v known.op)) known.phase ∙ ap not untried;
  }

  settled_is : (cancelled (n ∷ left) v).settled ≡ n ∷ left
  settled_is =
      ap (λ xs. xs ++ filter (is_settled_by_cancel v) (n ∷ left)) none ∙ first_settles v n left to_cancel all

  settled_there : op_at (cancelled (n ∷ left) v).ops n ≡ Some settled_op
  settled_there =
      let g : Op → Phase = λ op. cancelled_phase (is_tried v op) op.phase in
      let new : Phase → Op = λ p. record known.op { phase = p } in
      at_cancelled v n (record known.op { phase = g known.op }) left (phase_changed n g v.ops)
      (at_changed n g v.ops known.op known.is) others
      ∙ ap (λ t. Some (new (cancelled_phase t known.op.phase))) untried
      ∙ ap (λ p. Some (new (cancelled_phase false p))) known.phase

  module _ (places : List Place) (xs : List StreamState) where
    abbrev now : ContextState
    now = with_placed places xs (cancelled (n ∷ left) v)

    -- its completion may come, with operation_aborted
    pub closing_may : v.finishing ≡ false → MayHappen now (event.Done n code.Aborted moved)
    closing_may going = record {
      going = going;
      completes =
          subst (MayCompleteAs now n code.Aborted moved) (sym settled_there)
          (record { first = ap (λ xs. slice_get xs 0) settled_is; same_code = refl; same_size = refl });
    }

    abbrev w : ContextState
    w = op_done n code.Aborted moved it.item.lane target v

    abbrev parts : List Op → List ℕ → List Wait → ContextState
    parts ops settled waits = record now {
      ops = ops;
      settled = settled;
      waits = waits;
      strands = on_lane it.item.lane (ready_on n) v.strands;
      streams = streams_left n (Some target) xs;
    }

    -- and leaves the state in which the others are settled, once the next of its side is served
    pub closing_after : left_waits n v.waits ≡ v.waits → (it.side ≡ side.Connect → ⊥) → IsBeside v n target →
        after (event.Done n code.Aborted moved) now
        ≡ served (Some target) (with_placed places (streams_left n (Some target) xs) (cancelled left w))
    closing_after waits apart_from beside =
        let p : Phase = phase.Ready code.Aborted moved in
        let g : Op → Phase = λ op. cancelled_phase (is_tried v op) op.phase in
        let ops = with_phase n p now.ops in
        let settled = others_than n now.settled in
        let ws = left_waits n now.waits in
        let kind = it.item.kind in
        let here = at it.stream it.side in
        let ops_are : ops ≡ ops_cancelled w left w.ops =
        cancelled_comm v n p left (phase_changed n g v.ops) others
        ∙ ap (ops_cancelled v left) (changed_twice n p g v.ops)
        ∙ sym (cancelled_alike v w (alike v n it.item.lane target moved beside) left (with_phase n p v.ops)) in
        let settled_are : settled ≡ w.settled ++ filter (is_settled_by_cancel w) left =
        ap (others_than n) settled_is ∙ first_off n left ∙ filter_off n left others
        ∙ sym (settles_all w left (still_to_cancel v n it.item.lane target moved beside left others all)) in
        let waits_are : ws ≡ filter (λ wait. not (is_among left wait.op)) w.waits =
        waits_commute n left v.waits ∙ ap (filter (λ (wait : Wait). not (is_among left wait.op))) waits in
        ap (λ o. done_by n code.Aborted moved (target_of (kind_of o)) (behind_connect side.Read (kind_of o))
        (behind_connect side.Write (kind_of o)) (binding_of o) (lane_of o) ops settled ws now)
        settled_there
        ∙ ap (λ k. done_by n code.Aborted moved (target_of k) (behind_connect side.Read k) (behind_connect side.Write k)
        known.op.binding known.op.lane ops settled ws now) known.kind
        ∙ ap (λ t. done_by n code.Aborted moved t (behind_connect side.Read kind) (behind_connect side.Write kind)
        known.op.binding known.op.lane ops settled ws now) known.target
        ∙ ap (λ t. done_by n code.Aborted moved here t (behind_connect side.Write kind) known.op.binding known.op.lane ops settled ws now)
        (no_connect side.Read kind it.stream it.side known.target apart_from)
        ∙ ap (λ t. done_by n code.Aborted moved here None t known.op.binding known.op.lane ops settled ws now)
        (no_connect side.Write kind it.stream it.side known.target apart_from)
        ∙ ap (λ b. done_by n code.Aborted moved here None None b known.op.lane ops settled ws now) known.binding
        ∙ ap (λ l. done_by n code.Aborted moved here None None None l ops settled ws now) known.lane
        ∙ served_none _ ∙ served_none _
        ∙ ap (λ os. served here (parts os settled ws)) ops_are
        ∙ ap (λ l. served here (parts (ops_cancelled w left w.ops) l ws)) settled_are
        ∙ ap (λ l. served here (parts (ops_cancelled w left w.ops) (w.settled ++ filter (is_settled_by_cancel w) left) l)) waits_are

  -- where nothing is at its place any more
  pub closing_gone : (name : Name) → left_waits n v.waits ≡ v.waits → (it.side ≡ side.Connect → ⊥) → IsBeside v n target →
      it.stream.place ≡ name.place → name.place < length v.streams →
      after (event.Done n code.Aborted moved) (with_closed false name (cancelled (n ∷ left) v))
      ≡ with_closed false name (cancelled left (op_done n code.Aborted moved it.item.lane target v))
  closing_gone name waits apart_from beside place within =
      let gone : List StreamState = with_stream name new_stream v.streams in
      let new : ContextState = cancelled left (op_done n code.Aborted moved it.item.lane target v) in
      let places : List Place = with_freed name v.names.streams in
      let at_it : stream_at gone it.stream ≡ new_stream =
      ap (λ j. slice_index_or gone j new_stream) place
      ∙ get_or-set_same v.streams name.place new_stream new_stream within in
      let before : gone ≡ with_stream name new_stream (streams_left n (Some target) v.streams) =
      sym (ap (λ k. slice_set (slice_set v.streams k (side_left it.side n (stream_at v.streams it.stream))) name.place new_stream) place
      ∙ set-set v.streams name.place (side_left it.side n (stream_at v.streams it.stream)) new_stream) in
      closing_after places gone waits apart_from beside
      ∙ ap (λ (xs : List StreamState). served (Some target) (with_placed places xs new)) (streams_same n target gone at_it)
      ∙ served_same target (with_placed places gone new) at_it
      ∙ ap (λ (xs : List StreamState). with_placed places xs new) before

  -- where its socket is in a system call
  pub closing_out : (name : Name) → left_waits n v.waits ≡ v.waits → (it.side ≡ side.Connect → ⊥) → IsBeside v n target →
      IsPlain (stream_at (streams_left n (Some target) v.streams) it.stream) →
      ((k : ℕ) (o : Op) → first_of it.side (stream_at (streams_left n (Some target) v.streams) it.stream) ≡ Some k →
      op_at (cancelled left (op_done n code.Aborted moved it.item.lane target v)).ops k ≡ Some o →
      IsUnserved (stream_at (streams_left n (Some target) v.streams) it.stream) it.side o) →
      after (event.Done n code.Aborted moved) (with_closed true name (cancelled (n ∷ left) v))
      ≡ with_closed true name (cancelled left (op_done n code.Aborted moved it.item.lane target v))
  closing_out name waits apart_from beside plain rests =
      let new : ContextState = with_closed true name (cancelled left (op_done n code.Aborted moved it.item.lane target v)) in
      closing_after (with_life life.Closing name v.names.streams) v.streams waits apart_from beside
      ∙ served_nothing new target plain rests ∙ ap (λ l. record new { settled = l }) (append-nil new.settled)
