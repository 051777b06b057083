-- An operation on a stream is initiated, and completes at once: what that makes of the state.
use Rattle.std.proofs.Common.{ap, refl, subst, sym, ◌∙◌}
use Rattle.std.proofs.lemmas.Bool.{true≢false}
use Rattle.std.proofs.lemmas.List.{get_or-set_same}
use Rattle.std.specs.Prelude.{◌≡◌, ◌<◌, ℕ, ◌==◌, cond, Bool, true, false, List, [], ◌∷◌, ◌++◌, Some, None, length, slice_get, if◌then◌else◌}
use Rattle.asio_types.specs.declared.code.Code.{Code}
use Rattle.asio_types.specs.declared.code.Code.TheVariants as code
use Rattle.io_rules.specs.declared.event.Event.TheVariants as event
use Rattle.io_rules.specs.declared.name.Lane.{Lane}
use Rattle.io_rules.specs.declared.op.Op.{Op}
use Rattle.io_rules.specs.declared.op.Phase.TheVariants as phase
use Rattle.io_rules.specs.declared.operation.Operation.{Operation}
use Rattle.io_rules.specs.declared.operation.Operation.TheVariants as operation
use Rattle.io_rules.specs.declared.request.Gone.TheVariants as gone
use Rattle.io_rules.specs.declared.request.Marks.{Marks}
use Rattle.io_rules.specs.Calls.{streams_called}
use Rattle.io_rules.specs.Cancelling.{is_out_for, queue_of}
use Rattle.io_rules.specs.Legal.{after}
use Rattle.io_rules.specs.Operations.{Target, target_of}
use Rattle.io_rules.specs.Serving.{Served, first_of, is_none_of, served, served_on, served_op, served_phase, settles, with_queue}
use Rattle.io_rules.specs.State.{ContextState, StreamState, new_stream, stream_at}
use Rattle.io_rules.proofs.StrandLemmas.{by_test}
use Rattle.io_scheduler.specs.Posted.{posting}
use Rattle.io_scheduler.specs.Shown.{AreBelow}
use Rattle.io_scheduler.specs.Streams.{IsPlain}
use Rattle.io_scheduler.specs.Transferred.{is_transfer, settled_at_once, settled_now, settled_on, stream_for}
use Rattle.io_scheduler.proofs.AcceptedLemmas.{accepted_with, pending_op}
use Rattle.io_scheduler.proofs.ReadyLemmas.{at_new, changed_new}
use Rattle.io_scheduler.proofs.ServedLemmas.{served_settled}
use Rattle.io_scheduler.proofs.TransferLemmas.{called_as, held_with, out_with, plain_with, queue_with, served_alike, way_of}

some_is : {X : Type 0} (x y : X) → Some x ≡ Some y → x ≡ y
some_is x y is = cc

none_is : {X : Type 0} (x : X) → None ≡ Some x → ⊥
none_is x is = cc

-- ---- what settles it

inner_ok : (b : Bool) (c : Code) → cond b (Some code.Ok) None ≡ Some c → b ≡ true
inner_ok true c is = refl
inner_ok false c is = absurd (none_is c is)

inner_is : (b : Bool) (c : Code) → cond b (Some code.Ok) None ≡ Some c → code.Ok ≡ c
inner_is true c is = some_is code.Ok c is
inner_is false c is = absurd (none_is c is)

-- a read of some bytes, or a write
by_link : (s : StreamState) (kind : Operation) (c : Code) (size : ℕ) → cond s.linked (cond (size == 0) (Some code.Ok) None)
    (Some code.Bad) ≡ Some c → (s.linked ≡ true → (size == 0) ≡ true → served_on s 0 false kind ≡ settles code.Ok 0 s.held) →
    (s.linked ≡ false → served_on s 0 false kind ≡ settles code.Bad 0 s.held) →
    served_on s 0 false kind ≡ settles c 0 s.held
by_link s kind c size is empty apart =
    by_test s.linked
    (λ linked.
    let inner = sym (ap (λ b. cond b (cond (size == 0) (Some code.Ok) None) (Some code.Bad)) linked) ∙ is in
    empty linked (inner_ok (size == 0) c inner) ∙ ap (λ k. settles k 0 s.held) (inner_is (size == 0) c inner))
    (λ unlinked.
    let bad = sym (ap (λ b. cond b (cond (size == 0) (Some code.Ok) None) (Some code.Bad)) unlinked) ∙ is in
    apart unlinked ∙ ap (λ k. settles k 0 s.held) (some_is code.Bad c bad))

pub settles_now : (s : StreamState) (kind : Operation) (c : Code) → is_transfer kind ≡ true → IsPlain s →
    settled_now s.linked kind ≡ Some c → served_on s 0 false kind ≡ settles c 0 s.held
settles_now s (operation.Accept listener) c is plain now = absurd (none_is c now)
settles_now s (operation.ReadSome stream size) c is plain now =
    by_link s (operation.ReadSome stream size) c size now (λ linked empty. rw (plain.connects, linked, empty) refl)
    (λ unlinked. rw (plain.connects, unlinked) refl)
settles_now s (operation.WriteSome stream size) c is plain now =
    by_link s (operation.WriteSome stream size) c size now (λ linked empty. rw (plain.connects, linked, empty) refl)
    (λ unlinked. rw (plain.connects, unlinked) refl)
settles_now s (operation.WriteAll stream size) c is plain now =
    by_link s (operation.WriteAll stream size) c size now (λ linked empty. rw (plain.connects, linked, empty) refl)
    (λ unlinked. rw (plain.connects, unlinked) refl)
settles_now s _ c is plain now = absurd (true≢false (sym is))

-- it is the first of its side, and is settled then
pub record SettlesFirst (stream : StreamState) (t : Target) (kind : Operation) (c : Code) : Type 0 where
  pub empty : queue_of t.side stream ≡ []
  pub now : settled_now stream.linked kind ≡ Some c

pub settles_first : (s : ContextState) (kind : Operation) (t : Target) (c : Code) → target_of kind ≡ Some t →
    settled_at_once s kind ≡ Some c → SettlesFirst (stream_at s.streams t.stream) t kind c
settles_first s kind t c at is =
    by_queue (queue_of t.side stream) refl (sym (ap (λ o. settled_on (stream_for s o) o kind) at) ∙ is)
  where
    stream : StreamState
    stream = stream_at s.streams t.stream

    by_queue : (q : List ℕ) → queue_of t.side stream ≡ q →
        cond (is_none_of (queue_of t.side stream)) (settled_now stream.linked kind) None ≡ Some c →
        SettlesFirst stream t kind c
    by_queue [] empty given =
        record { empty = empty; now = sym (ap (λ q. cond (is_none_of q) (settled_now stream.linked kind) None) empty) ∙ given }
    by_queue (x ∷ q) more given =
        absurd (none_is c (sym (ap (λ q. cond (is_none_of q) (settled_now stream.linked kind) None) more) ∙ given))

-- ---- the state behind its call

abbrev pub settled_op : ℕ → Lane → Operation → Marks → Code → Op
settled_op n on kind marks given = record {
  number = n;
  lane = on;
  binding = None;
  kind = kind;
  marks = marks;
  phase = phase.Settled given 0;
}

module _ (s : ContextState) (on : Lane) (kind : Operation) (marks : Marks) (t : Target) (c : Code)
    (transfers : is_transfer kind ≡ true) (at : target_of kind ≡ Some t) (below : AreBelow s.next s.ops)
    (within : t.stream.place < length s.streams) (plain : IsPlain (stream_at s.streams t.stream))
    (free : is_out_for t.side (stream_at s.streams t.stream).out ≡ false)
    (first : SettlesFirst (stream_at s.streams t.stream) t kind c) where
  abbrev stream : StreamState
  stream = stream_at s.streams t.stream

  abbrev longer : StreamState
  longer = with_queue t.side (queue_of t.side stream ++ s.next ∷ []) stream

  abbrev accepted : ContextState
  accepted =
      accepted_with s.next on kind marks (s.settled ++ []) (s.waits ++ []) (streams_called s.next gone.Nothing (Some t) s.streams) s

  abbrev called : ContextState
  called = record accepted {
    ops = s.ops ++ settled_op s.next on kind marks c ∷ [];
    settled = (s.settled ++ []) ++ s.next ∷ [];
  }

  there : stream_at accepted.streams t.stream ≡ longer
  there = get_or-set_same s.streams t.stream.place longer new_stream within

  first_there : first_of t.side longer ≡ Some s.next
  first_there =
      ap (λ q. slice_get q 0) (queue_with t.side (queue_of t.side stream ++ s.next ∷ []) stream)
      ∙ ap (λ q. slice_get (q ++ s.next ∷ []) 0) first.empty

  gets : served_op longer t.side (pending_op s.next on kind marks) ≡ settles c 0 longer.held
  gets =
      let it = pending_op s.next on kind marks in
      let stays_so : Served = record { phase = it.phase; held = longer.held } in
      ap (λ b. if b then stays_so else served_phase longer it.kind it.phase)
      (ap (is_out_for t.side) (out_with t.side _ stream) ∙ free)
      ∙ served_alike t.side _ stream 0 false kind (way_of kind t transfers at)
      ∙ settles_now stream kind c transfers plain first.now ∙ ap (settles c 0) (sym (held_with t.side _ stream))

  pub after_called : after (event.Called s.next None (posting on kind marks) gone.Nothing) s ≡ called
  after_called =
      let it = pending_op s.next on kind marks in
      called_as s s.next on kind marks transfers
      ∙ ap (λ o. served o (accepted_with s.next on kind marks (s.settled ++ []) (s.waits ++ [])
      (streams_called s.next gone.Nothing o s.streams) s)) at
      ∙ served_settled accepted t s.next it c 0 (ap (first_of t.side) there ∙ first_there)
      (at_new s.ops it below) refl
      (ap (λ st. served_op st t.side it) there ∙ gets ∙ ap (λ (st : StreamState). settles c 0 st.held) (sym there))
      (subst IsPlain (sym there) (plain_with t.side _ stream (way_of kind t transfers at) plain))
      ∙ ap (λ ops. record accepted { ops = ops; settled = (s.settled ++ []) ++ s.next ∷ [] })
      (changed_new (λ op. phase.Settled c 0) s.ops it below)
