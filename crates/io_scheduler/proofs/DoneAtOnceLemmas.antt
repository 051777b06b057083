-- An operation on a stream is initiated, and completes at once: what its completion makes of the state.
use Rattle.std.proofs.Common.{ap, refl, subst, sym, ◌∙◌}
use Rattle.std.proofs.lemmas.Bool.{true≢false}
use Rattle.std.proofs.lemmas.List.{get_or-set_same, set-get_or, set-set}
use Rattle.std.specs.Prelude.{◌≡◌, ◌<◌, ℕ, not, true, false, List, [], ◌∷◌, ◌++◌, Option, Some, None, length, slice_get, if◌then◌else◌}
use Rattle.asio_types.specs.declared.code.Code.{Code}
use Rattle.io_rules.specs.declared.event.Event.TheVariants as event
use Rattle.io_rules.specs.declared.name.Lane.{Lane}
use Rattle.io_rules.specs.declared.op.Op.{Op}
use Rattle.io_rules.specs.declared.op.Phase.TheVariants as phase
use Rattle.io_rules.specs.declared.operation.Operation.{Operation}
use Rattle.io_rules.specs.declared.operation.Operation.TheVariants as operation
use Rattle.io_rules.specs.declared.operation.Side.{Side}
use Rattle.io_rules.specs.declared.operation.Side.TheVariants as side
use Rattle.io_rules.specs.declared.request.Gone.TheVariants as gone
use Rattle.io_rules.specs.declared.request.Marks.{Marks}
use Rattle.io_rules.specs.Calls.{streams_called}
use Rattle.io_rules.specs.Cancelling.{is_out_for, queue_of}
use Rattle.io_rules.specs.Completing.{MayCompleteAs, binding_of, kind_of, others_than, side_left, slots_left, streams_left}
use Rattle.io_rules.specs.Legal.{MayHappen, after}
use Rattle.io_rules.specs.Operations.{Target, behind_connect, target_of}
use Rattle.io_rules.specs.Ops.{lane_of, op_at, with_phase}
use Rattle.io_rules.specs.Serving.{first_of, served, with_queue}
use Rattle.io_rules.specs.State.{ContextState, StrandState, StreamState, new_stream, stream_at, with_stream}
use Rattle.io_rules.specs.Strands.{Last, called_on, on_lane, ready_on}
use Rattle.io_rules.proofs.TotalLemmas.{same}
use Rattle.io_scheduler.specs.Expired.{left_settled, left_waits}
use Rattle.io_scheduler.specs.Posted.{posting}
use Rattle.io_scheduler.specs.Shown.{AreBelow}
use Rattle.io_scheduler.specs.Streams.{IsPlain}
use Rattle.io_scheduler.specs.Transferred.{is_transfer}
use Rattle.io_scheduler.proofs.AcceptedLemmas.{accepted_with}
use Rattle.io_scheduler.proofs.AtOnceLemmas.{SettlesFirst, after_called, settled_op}
use Rattle.io_scheduler.proofs.PostedLemmas.{posted, posted_op}
use Rattle.io_scheduler.proofs.ReadyLemmas.{at_new, changed_new}
use Rattle.io_scheduler.proofs.RefusedLemmas.{ready_tied}
use Rattle.io_scheduler.proofs.ServedLemmas.{IsUnserved, served_nothing}
use Rattle.io_scheduler.proofs.TransferLemmas.{IsWay, Reads, Writes, way_of}

none_is : {X : Type 0} (x : X) → None ≡ Some x → ⊥
none_is x is = cc

pub no_connect : (of : Side) (kind : Operation) → is_transfer kind ≡ true → behind_connect of kind ≡ None
no_connect of (operation.ReadSome stream size) is = refl
no_connect of (operation.WriteSome stream size) is = refl
no_connect of (operation.WriteAll stream size) is = refl
no_connect of (operation.Accept listener) is = refl
no_connect of _ is = absurd (true≢false (sym is))

-- an operation that was alone on its side leaves it as it was
left_same : (on : Side) (n : ℕ) (stream : StreamState) → IsWay on → queue_of on stream ≡ [] → stream.searched ≡ 0 →
    side_left on n (with_queue on (queue_of on stream ++ n ∷ []) stream) ≡ stream
left_same side.Read n stream Reads empty searched =
    let alone : StreamState = record stream { reads = n ∷ [] } in
    ap (λ q. side_left side.Read n (record stream { reads = q ++ n ∷ [] })) empty
    ∙ ap (λ b. with_queue side.Read (if not b then n ∷ [] else []) (if b then record alone { searched = 0 } else alone)) (same n)
    ∙ ap (λ q. record stream { reads = q; searched = 0 }) (sym empty)
    ∙ ap (λ k. record stream { searched = k }) (sym searched)
left_same side.Write n stream Writes empty searched =
    let alone : StreamState = record stream { writes = n ∷ [] } in
    ap (λ q. side_left side.Write n (record stream { writes = q ++ n ∷ [] })) empty
    ∙ ap (λ b. with_queue side.Write (if not b then n ∷ [] else []) alone) (same n)
    ∙ ap (λ q. record stream { writes = q }) (sym empty)
left_same side.Connect n stream way empty searched = elim way [ ]

module _ (s : ContextState) (on : Lane) (kind : Operation) (marks : Marks) (t : Target) (c : Code)
    (transfers : is_transfer kind ≡ true) (at : target_of kind ≡ Some t) (below : AreBelow s.next s.ops)
    (within : t.stream.place < length s.streams) (plain : IsPlain (stream_at s.streams t.stream))
    (free : is_out_for t.side (stream_at s.streams t.stream).out ≡ false)
    (first : SettlesFirst (stream_at s.streams t.stream) t kind c) (none : s.settled ≡ []) where
  abbrev stream : StreamState
  stream = stream_at s.streams t.stream

  abbrev longer : StreamState
  longer = with_queue t.side (queue_of t.side stream ++ s.next ∷ []) stream

  abbrev it : Op
  it = settled_op s.next on kind marks c

  abbrev called : ContextState
  called =
      record (accepted_with s.next on kind marks (s.settled ++ []) (s.waits ++ [])
      (streams_called s.next gone.Nothing (Some t) s.streams) s) {
        ops = s.ops ++ it ∷ [];
        settled = (s.settled ++ []) ++ s.next ∷ [];
      }

  called_is : after (event.Called s.next None (posting on kind marks) gone.Nothing) s ≡ called
  called_is = after_called s on kind marks t c transfers at below within plain free first

  -- it may complete: nothing else was settled
  pub may_be_done : s.finishing ≡ false →
      MayHappen (after (event.Called s.next None (posting on kind marks) gone.Nothing) s) (event.Done s.next c 0)
  may_be_done going =
      subst (λ x. MayHappen x (event.Done s.next c 0)) (sym called_is)
      (record {
        going = going;
        completes = subst (MayCompleteAs called s.next c 0) (sym (at_new s.ops it below))
            (record {
              first = ap (λ xs. slice_get ((xs ++ []) ++ s.next ∷ []) 0) none;
              same_code = refl;
              same_size = refl;
            });
      })

  abbrev done_with : Option Target → Option Target → Option Target → List Op → List StrandState → List StreamState →
      ContextState
  done_with target read write ops strands streams =
      served write
      (served read
      (served target (record called {
        ops = ops;
        settled = others_than s.next called.settled;
        waits = left_waits s.next called.waits;
        strands = strands;
        streams = streams;
      })))

  abbrev done_of : Option Op → ContextState
  done_of o =
      served (behind_connect side.Write (kind_of o))
      (served (behind_connect side.Read (kind_of o))
      (served (target_of (kind_of o)) (record called {
        ops = with_phase s.next (phase.Ready c 0) called.ops;
        settled = others_than s.next called.settled;
        waits = left_waits s.next called.waits;
        strands = on_lane (lane_of o) (ready_on s.next) called.strands;
        slots = slots_left s.next (binding_of o) called.slots;
        streams = streams_left s.next (target_of (kind_of o)) called.streams;
      })))

  streams_back : streams_left s.next (Some t) called.streams ≡ s.streams
  streams_back =
      ap (λ st. with_stream t.stream (side_left t.side s.next st) called.streams)
      (get_or-set_same s.streams t.stream.place longer new_stream within)
      ∙ ap (λ st. with_stream t.stream st called.streams)
      (left_same t.side s.next stream (way_of kind t transfers at) first.empty plain.searched)
      ∙ set-set s.streams t.stream.place longer stream
      ∙ set-get_or s.streams t.stream.place new_stream

  abbrev over : ContextState
  over = record called {
    ops = s.ops ++ posted_op s.next on kind marks c ∷ [];
    settled = others_than s.next called.settled;
    waits = left_waits s.next called.waits;
    strands = on_lane on (called_on Last s.next) s.strands;
    streams = s.streams;
  }

  nobody_left : (n : ℕ) (x : Op) → first_of t.side stream ≡ Some n → op_at over.ops n ≡ Some x → IsUnserved stream t.side x
  nobody_left n x head is = absurd (none_is n (sym (ap (λ q. slice_get q 0) first.empty) ∙ head))

  pub behind_both : after (event.Done s.next c 0) (after (event.Called s.next None (posting on kind marks) gone.Nothing) s)
      ≡ posted false s.next on (posted_op s.next on kind marks c) (left_settled s.next ((s.settled ++ []) ++ s.next ∷ []))
      (left_waits s.next (s.waits ++ [])) s
  behind_both =
      let ready = with_phase s.next (phase.Ready c 0) called.ops in
      let strands = on_lane on (ready_on s.next) called.strands in
      let new = s.ops ++ posted_op s.next on kind marks c ∷ [] in
      ap (after (event.Done s.next c 0)) called_is
      ∙ ap done_of (at_new s.ops it below)
      ∙ ap (λ o. done_with o (behind_connect side.Read kind) (behind_connect side.Write kind) ready strands
      (streams_left s.next o called.streams)) at
      ∙ ap (λ o. done_with (Some t) o (behind_connect side.Write kind) ready strands (streams_left s.next (Some t) called.streams))
      (no_connect side.Read kind transfers)
      ∙ ap (λ o. done_with (Some t) None o ready strands (streams_left s.next (Some t) called.streams))
      (no_connect side.Write kind transfers)
      ∙ ap (λ ops. done_with (Some t) None None ops strands (streams_left s.next (Some t) called.streams))
      (changed_new (λ op. phase.Ready c 0) s.ops it below)
      ∙ ap (λ xs. done_with (Some t) None None new xs (streams_left s.next (Some t) called.streams)) (ready_tied on s.next s.strands)
      ∙ ap (done_with (Some t) None None new (on_lane on (called_on Last s.next) s.strands)) streams_back
      ∙ ap (λ x. served None (served None x)) (served_nothing over t plain nobody_left)

  pub none_settled : left_settled s.next ((s.settled ++ []) ++ s.next ∷ []) ≡ []
  none_settled =
      ap (λ xs. left_settled s.next ((xs ++ []) ++ s.next ∷ [])) none
      ∙ ap (λ b. (if not b then s.next ∷ [] else []) ++ [] ++ [] ++ []) (same s.next)
