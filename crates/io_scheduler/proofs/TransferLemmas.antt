-- An operation on a stream is initiated, and is pending then: what its call makes of the state.
use Rattle.std.proofs.Common.{ap, refl, subst, sym, ◌∙◌}
use Rattle.std.proofs.lemmas.Bool.{ltb-true, true≢false}
use Rattle.std.proofs.lemmas.List.{get_or-set_same}
use Rattle.std.specs.Prelude.{◌≡◌, ◌<◌, ℕ, ◌==◌, cond, nat_lt, not, Bool, true, false, List, [], ◌∷◌, ◌++◌, Option, Some, None, length, slice_get, if◌then◌else◌}
use Rattle.asio_types.specs.declared.code.Code.{Code}
use Rattle.asio_types.specs.declared.code.Code.TheVariants as code
use Rattle.io_rules.specs.declared.event.Event.TheVariants as event
use Rattle.io_rules.specs.declared.name.Lane.{Lane}
use Rattle.io_rules.specs.declared.op.Op.{Op}
use Rattle.io_rules.specs.declared.op.Phase.{Phase}
use Rattle.io_rules.specs.declared.op.Phase.TheVariants as phase
use Rattle.io_rules.specs.declared.operation.Operation.{Operation}
use Rattle.io_rules.specs.declared.operation.Operation.TheVariants as operation
use Rattle.io_rules.specs.declared.operation.Side.{Side}
use Rattle.io_rules.specs.declared.operation.Side.TheVariants as side
use Rattle.io_rules.specs.declared.request.Gone.TheVariants as gone
use Rattle.io_rules.specs.declared.request.Marks.{Marks}
use Rattle.io_rules.specs.Calls.{IsWithin, gone_by, is_lane_gone, is_target_gone, is_timer_gone, streams_called}
use Rattle.io_rules.specs.Cancelling.{is_out_for, queue_of}
use Rattle.io_rules.specs.Legal.{MayHappen, after}
use Rattle.io_rules.specs.Operations.{Target, target_of, timer_of}
use Rattle.io_rules.specs.Ops.{op_at}
use Rattle.io_rules.specs.Room.{numbers_left}
use Rattle.io_rules.specs.Serving.{Served, first_of, served, served_on, served_phase, stays, with_queue}
use Rattle.io_rules.specs.State.{ContextState, StreamState, new_stream, stream_at}
use Rattle.io_rules.proofs.StrandLemmas.{both, by_test}
use Rattle.io_history.proofs.AtLemmas.{at-push}
use Rattle.io_scheduler.specs.Counted.{may_post}
use Rattle.io_scheduler.specs.Posted.{posting}
use Rattle.io_scheduler.specs.Shown.{AreBelow}
use Rattle.io_scheduler.specs.Streams.{IsPlain}
use Rattle.io_scheduler.specs.Transferred.{is_transfer, may_transfer, settled_now}
use Rattle.io_scheduler.proofs.AcceptedLemmas.{accepted_with, pending_op}
use Rattle.io_scheduler.proofs.ReadyLemmas.{at_new}
use Rattle.io_scheduler.proofs.ServedLemmas.{IsUnserved, served_nothing}
use Rattle.io_scheduler.proofs.SpaceLemmas.{there_if, three}

-- ---- it may be called

pub record MayTransfer (s : ContextState) (on : Lane) (kind : Operation) : Type 0 where
  pub room : 0 < s.room
  pub numbers : 0 < numbers_left s
  pub there : is_lane_gone s.names on ≡ false
  pub target : is_target_gone s kind (target_of kind) ≡ false

pub may_parts : (s : ContextState) (on : Lane) (kind : Operation) → may_transfer s on kind ≡ true → MayTransfer s on kind
may_parts s on kind may =
    let halves = both (may_post s on) (not (is_target_gone s kind (target_of kind))) may in
    let parts = three (nat_lt 0 s.room) (nat_lt 0 (numbers_left s)) (not (is_lane_gone s.names on)) halves.one in
    record {
      room = ltb-true 0 s.room parts.one;
      numbers = ltb-true 0 (numbers_left s) parts.two;
      there = there_if (is_lane_gone s.names on) parts.three;
      target = there_if (is_target_gone s kind (target_of kind)) halves.other;
    }

pub posts : (s : ContextState) (on : Lane) (kind : Operation) → may_transfer s on kind ≡ true → may_post s on ≡ true
posts s on kind may = (both (may_post s on) (not (is_target_gone s kind (target_of kind))) may).one

pub no_timer : (kind : Operation) → is_transfer kind ≡ true → timer_of kind ≡ None
no_timer (operation.ReadSome stream size) is = refl
no_timer (operation.WriteSome stream size) is = refl
no_timer (operation.WriteAll stream size) is = refl
no_timer (operation.Accept listener) is = refl
no_timer _ is = absurd (true≢false (sym is))

within_transfer : (held : ℕ) (kind : Operation) → is_transfer kind ≡ true → IsWithin held kind
within_transfer held (operation.ReadSome stream size) is = tt
within_transfer held (operation.WriteSome stream size) is = tt
within_transfer held (operation.WriteAll stream size) is = tt
within_transfer held (operation.Accept listener) is = tt
within_transfer held _ is = absurd (true≢false (sym is))

pub may_be_transferred : (s : ContextState) (n : ℕ) (on : Lane) (kind : Operation) (marks : Marks) →
    is_transfer kind ≡ true → s.finishing ≡ false → n ≡ s.next → MayTransfer s on kind →
    MayHappen s (event.Called n None (posting on kind marks) gone.Nothing)
may_be_transferred s n on kind marks transfers going is may =
    let lost = is_target_gone s kind (target_of kind) in
    record {
      going = going;
      number = is;
      names = sym
          (ap (λ b. gone_by b false (is_timer_gone s.names (timer_of kind)) lost) may.there
          ∙ ap (λ o. gone_by false false (is_timer_gone s.names o) lost) (no_timer kind transfers)
          ∙ ap (λ b. gone_by false false false b) may.target);
      allowed = record { room = may.room; numbers = may.numbers; there = refl };
      within = within_transfer s.limits.held kind transfers;
    }

-- ---- the state behind it

pub called_as : (s : ContextState) (n : ℕ) (on : Lane) (kind : Operation) (marks : Marks) → is_transfer kind ≡ true →
    after (event.Called n None (posting on kind marks) gone.Nothing) s
    ≡ served (target_of kind)
    (accepted_with n on kind marks (s.settled ++ []) (s.waits ++ []) (streams_called n gone.Nothing (target_of kind) s.streams) s)
called_as s n on (operation.ReadSome stream size) marks is = refl
called_as s n on (operation.WriteSome stream size) marks is = refl
called_as s n on (operation.WriteAll stream size) marks is = refl
called_as s n on (operation.Accept listener) marks is = refl
called_as s n on _ marks is = absurd (true≢false (sym is))

-- reads and writes are no connects
pub data IsWay : Side → Type 0 where
  Reads : IsWay side.Read
  Writes : IsWay side.Write

pub way_of : (kind : Operation) (t : Target) → is_transfer kind ≡ true → target_of kind ≡ Some t → IsWay t.side
way_of (operation.ReadSome stream size) t is at = subst IsWay (ap (λ (x : Target). x.side) (some_is _ t at)) Reads
  where
    some_is : (x y : Target) → Some x ≡ Some y → x ≡ y
    some_is x y is = cc
way_of (operation.WriteSome stream size) t is at = subst IsWay (ap (λ (x : Target). x.side) (some_is _ t at)) Writes
  where
    some_is : (x y : Target) → Some x ≡ Some y → x ≡ y
    some_is x y is = cc
way_of (operation.WriteAll stream size) t is at = subst IsWay (ap (λ (x : Target). x.side) (some_is _ t at)) Writes
  where
    some_is : (x y : Target) → Some x ≡ Some y → x ≡ y
    some_is x y is = cc
way_of (operation.Accept listener) t is at = subst IsWay (ap (λ (x : Target). x.side) (some_is _ t at)) Reads
  where
    some_is : (x y : Target) → Some x ≡ Some y → x ≡ y
    some_is x y is = cc
way_of _ t is at = absurd (true≢false (sym is))

pub queue_with : (on : Side) (q : List ℕ) (stream : StreamState) → queue_of on (with_queue on q stream) ≡ q
queue_with side.Read q stream = refl
queue_with side.Write q stream = refl
queue_with side.Connect q stream = refl

pub linked_with : (on : Side) (q : List ℕ) (stream : StreamState) → (with_queue on q stream).linked ≡ stream.linked
linked_with side.Read q stream = refl
linked_with side.Write q stream = refl
linked_with side.Connect q stream = refl

pub held_with : (on : Side) (q : List ℕ) (stream : StreamState) → (with_queue on q stream).held ≡ stream.held
held_with side.Read q stream = refl
held_with side.Write q stream = refl
held_with side.Connect q stream = refl

pub out_with : (on : Side) (q : List ℕ) (stream : StreamState) → (with_queue on q stream).out ≡ stream.out
out_with side.Read q stream = refl
out_with side.Write q stream = refl
out_with side.Connect q stream = refl

pub plain_with : (on : Side) (q : List ℕ) (stream : StreamState) → IsWay on → IsPlain stream →
    IsPlain (with_queue on q stream)
plain_with side.Read q stream Reads plain =
    record { held = plain.held; searched = plain.searched; connects = plain.connects }
plain_with side.Write q stream Writes plain =
    record { held = plain.held; searched = plain.searched; connects = plain.connects }
plain_with side.Connect q stream way plain = elim way [ ]

-- what a side has to do with no system call doesn't depend on its reads and writes
reads_alike : (q : List ℕ) (s : StreamState) (moved : ℕ) (cancelled : Bool) (kind : Operation) →
    served_on (record s { reads = q }) moved cancelled kind ≡ served_on s moved cancelled kind
reads_alike q s moved cancelled operation.Post = refl
reads_alike q s moved cancelled operation.Defer = refl
reads_alike q s moved cancelled operation.Dispatch = refl
reads_alike q s moved cancelled (operation.Wait timer) = refl
reads_alike q s moved cancelled (operation.ReadSome stream size) = refl
reads_alike q s moved cancelled (operation.ReadAll stream size) = refl
reads_alike q s moved cancelled (operation.ReadUntil stream max) = refl
reads_alike q s moved cancelled (operation.WriteSome stream size) = refl
reads_alike q s moved cancelled (operation.WriteAll stream size) = refl
reads_alike q s moved cancelled (operation.Accept listener) = refl
reads_alike q s moved cancelled (operation.Connect stream) = refl

writes_alike : (q : List ℕ) (s : StreamState) (moved : ℕ) (cancelled : Bool) (kind : Operation) →
    served_on (record s { writes = q }) moved cancelled kind ≡ served_on s moved cancelled kind
writes_alike q s moved cancelled operation.Post = refl
writes_alike q s moved cancelled operation.Defer = refl
writes_alike q s moved cancelled operation.Dispatch = refl
writes_alike q s moved cancelled (operation.Wait timer) = refl
writes_alike q s moved cancelled (operation.ReadSome stream size) = refl
writes_alike q s moved cancelled (operation.ReadAll stream size) = refl
writes_alike q s moved cancelled (operation.ReadUntil stream max) = refl
writes_alike q s moved cancelled (operation.WriteSome stream size) = refl
writes_alike q s moved cancelled (operation.WriteAll stream size) = refl
writes_alike q s moved cancelled (operation.Accept listener) = refl
writes_alike q s moved cancelled (operation.Connect stream) = refl

pub served_alike : (on : Side) (q : List ℕ) (s : StreamState) (moved : ℕ) (cancelled : Bool) (kind : Operation) → IsWay on →
    served_on (with_queue on q s) moved cancelled kind ≡ served_on s moved cancelled kind
served_alike side.Read q s moved cancelled kind Reads = reads_alike q s moved cancelled kind
served_alike side.Write q s moved cancelled kind Writes = writes_alike q s moved cancelled kind
served_alike side.Connect q s moved cancelled kind way = elim way [ ]

-- one that isn't settled at once stays
linked_if : (b : Bool) (x : Option Code) → cond b x (Some code.Bad) ≡ None → b ≡ true
linked_if true x none = refl
linked_if false x none = absurd (some_none code.Bad none)
  where
    some_none : (c : Code) → Some c ≡ None → ⊥
    some_none c is = cc

inner_if : (b : Bool) (x : Option Code) → cond b x (Some code.Bad) ≡ None → x ≡ None
inner_if true x none = none
inner_if false x none = absurd (some_none code.Bad none)
  where
    some_none : (c : Code) → Some c ≡ None → ⊥
    some_none c is = cc

some_if : (b : Bool) → cond b (Some code.Ok) None ≡ None → b ≡ false
some_if false none = refl
some_if true none = absurd (some_none code.Ok none)
  where
    some_none : (c : Code) → Some c ≡ None → ⊥
    some_none c is = cc

pub stays_now : (s : StreamState) (kind : Operation) → is_transfer kind ≡ true → IsPlain s →
    settled_now s.linked kind ≡ None → served_on s 0 false kind ≡ stays 0 false s.held
stays_now s (operation.Accept listener) is plain none = refl
stays_now s (operation.ReadSome stream size) is plain none =
    let linked = linked_if s.linked _ none in
    let some = some_if (size == 0) (inner_if s.linked _ none) in
    rw (plain.connects, linked, some, plain.held) refl
stays_now s (operation.WriteSome stream size) is plain none =
    let linked = linked_if s.linked _ none in
    let some = some_if (size == 0) (inner_if s.linked _ none) in
    rw (plain.connects, linked, some) refl
stays_now s (operation.WriteAll stream size) is plain none =
    let linked = linked_if s.linked _ none in
    let some = some_if (size == 0) (inner_if s.linked _ none) in
    rw (plain.connects, linked, some) refl
stays_now s _ is plain none = absurd (true≢false (sym is))

pub unserved_by : (s : StreamState) (on : Side) (it : Op) (moved : ℕ) (cancelled : Bool) →
    it.phase ≡ phase.Pending moved cancelled → served_on s moved cancelled it.kind ≡ stays moved cancelled s.held →
    IsUnserved s on it
unserved_by s on it moved cancelled is gets =
    let same : Served = record { phase = it.phase; held = s.held } in
    by_test (is_out_for on s.out)
    (λ out. ap (λ b. if b then same else served_phase s it.kind it.phase) out)
    (λ in_it.
    ap (λ b. if b then same else served_phase s it.kind it.phase) in_it
    ∙ ap (served_phase s it.kind) is ∙ gets
    ∙ ap (λ (p : Phase). record { phase = p; held = s.held }) (sym is))

some_same : {X : Type 0} (x y : X) → Some x ≡ Some y → x ≡ y
some_same x y is = cc

-- ---- the first of its side, or behind others

-- the first one gets nothing with no system call
pub record HeadStill (s : ContextState) (t : Target) (n : ℕ) : Type 0 where
  pub op : Op
  pub is : op_at s.ops n ≡ Some op
  pub moved : ℕ
  pub cancelled : Bool
  pub pending : op.phase ≡ phase.Pending moved cancelled
  pub gets : served_on (stream_at s.streams t.stream) moved cancelled op.kind
      ≡ stays moved cancelled (stream_at s.streams t.stream).held

-- of the queue to which one was added
pub data FirstIs (s : ContextState) (t : Target) (kind : Operation) : Type 0 where
  Empty : (none : queue_of t.side (stream_at s.streams t.stream) ≡ [])
      (stays : settled_now (stream_at s.streams t.stream).linked kind ≡ None) → FirstIs s t kind
  Other : (n : ℕ) (first : first_of t.side (stream_at s.streams t.stream) ≡ Some n) (head : HeadStill s t n) → FirstIs s t kind

pub first_push : (q : List ℕ) (n m : ℕ) → slice_get q 0 ≡ Some m → slice_get (q ++ n ∷ []) 0 ≡ Some m
first_push [] n m is = absurd (none_some m is)
  where
    none_some : (m : ℕ) → None ≡ Some m → ⊥
    none_some m is = cc
first_push (x ∷ q) n m is = is

module _ (s : ContextState) (on : Lane) (kind : Operation) (marks : Marks) (t : Target) (transfers : is_transfer kind ≡ true)
    (at : target_of kind ≡ Some t) (below : AreBelow s.next s.ops) (within : t.stream.place < length s.streams)
    (plain : IsPlain (stream_at s.streams t.stream)) where
  abbrev stream : StreamState
  stream = stream_at s.streams t.stream

  abbrev longer : StreamState
  longer = with_queue t.side (queue_of t.side stream ++ s.next ∷ []) stream

  abbrev accepted : ContextState
  accepted =
      accepted_with s.next on kind marks (s.settled ++ []) (s.waits ++ []) (streams_called s.next gone.Nothing (Some t) s.streams) s

  there : stream_at accepted.streams t.stream ≡ longer
  there = get_or-set_same s.streams t.stream.place longer new_stream within

  new_still : queue_of t.side stream ≡ [] → settled_now stream.linked kind ≡ None → (n : ℕ) (it : Op) →
      first_of t.side longer ≡ Some n → op_at accepted.ops n ≡ Some it → IsUnserved longer t.side it
  new_still none now n it first is =
      let number : s.next ≡ n =
      some_same s.next n
      (ap (λ q. slice_get (q ++ s.next ∷ []) 0) (sym none)
      ∙ sym (ap (λ q. slice_get q 0) (queue_with t.side (queue_of t.side stream ++ s.next ∷ []) stream)) ∙ first) in
      let same : pending_op s.next on kind marks ≡ it =
      some_same _ it (sym (at_new s.ops (pending_op s.next on kind marks) below) ∙ ap (op_at accepted.ops) number ∙ is) in
      subst (IsUnserved longer t.side) same
      (unserved_by longer t.side (pending_op s.next on kind marks) 0 false refl
      (served_alike t.side _ stream 0 false kind (way_of kind t transfers at)
      ∙ stays_now stream kind transfers plain now ∙ ap (stays 0 false) (sym (held_with t.side _ stream))))

  old_still : (m : ℕ) → first_of t.side stream ≡ Some m → HeadStill s t m → (n : ℕ) (it : Op) →
      first_of t.side longer ≡ Some n → op_at accepted.ops n ≡ Some it → IsUnserved longer t.side it
  old_still m old head n it first is =
      let number : m ≡ n =
      some_same m n
      (sym (ap (λ q. slice_get q 0) (queue_with t.side (queue_of t.side stream ++ s.next ∷ []) stream)
      ∙ first_push (queue_of t.side stream) s.next m old) ∙ first) in
      let same : head.op ≡ it =
      some_same head.op it
      (sym (at-push m s.ops (pending_op s.next on kind marks) head.op head.is) ∙ ap (op_at accepted.ops) number ∙ is) in
      subst (IsUnserved longer t.side) same
      (unserved_by longer t.side head.op head.moved head.cancelled head.pending
      (served_alike t.side _ stream head.moved head.cancelled head.op.kind (way_of kind t transfers at)
      ∙ head.gets ∙ ap (stays head.moved head.cancelled) (sym (held_with t.side _ stream))))

  still_accepted : FirstIs s t kind → (n : ℕ) (it : Op) → first_of t.side longer ≡ Some n →
      op_at accepted.ops n ≡ Some it → IsUnserved longer t.side it
  still_accepted (Empty none now) = new_still none now
  still_accepted (Other m first head) = old_still m first head

  pub transferred_state : ContextState
  transferred_state =
      accepted_with s.next on kind marks (s.settled ++ [] ++ []) (s.waits ++ [])
      (streams_called s.next gone.Nothing (Some t) s.streams) s

  pub after_transfer : FirstIs s t kind →
      after (event.Called s.next None (posting on kind marks) gone.Nothing) s
      ≡ accepted_with s.next on kind marks (s.settled ++ [] ++ []) (s.waits ++ [])
      (streams_called s.next gone.Nothing (Some t) s.streams) s
  after_transfer first =
      called_as s s.next on kind marks transfers
      ∙ ap (λ o. served o (accepted_with s.next on kind marks (s.settled ++ []) (s.waits ++ [])
      (streams_called s.next gone.Nothing o s.streams) s)) at
      ∙ served_nothing accepted t
      (subst IsPlain (sym there) (plain_with t.side _ stream (way_of kind t transfers at) plain))
      (subst (λ st. (n : ℕ) (it : Op) → first_of t.side st ≡ Some n → op_at accepted.ops n ≡ Some it → IsUnserved st t.side it)
      (sym there) (still_accepted first))
