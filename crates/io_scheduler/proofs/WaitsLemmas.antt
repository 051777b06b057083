-- A wait that is pending completes: its event may come, and what is pending then.
use Rattle.std.proofs.Common.{arith, ap, refl, subst, sym, ◌∙◌}
use Rattle.std.specs.List.{filter}
use Rattle.std.specs.Prelude.{◌≡◌, ◌<◌, ℕ, ◌+◌, ◌==◌, cond, not, true, false, List, [], ◌∷◌, Option, Some, None, length, map}
use Rattle.asio_types.specs.declared.code.Code.{Code}
use Rattle.asio_types.specs.declared.code.Code.TheVariants as code
use Rattle.io_rules.specs.declared.event.Event.TheVariants as event
use Rattle.io_rules.specs.declared.limits.Limits.{Limits}
use Rattle.io_rules.specs.declared.name.Lane.{Lane}
use Rattle.io_rules.specs.declared.name.Name.{Name}
use Rattle.io_rules.specs.declared.op.Op.{Op}
use Rattle.io_rules.specs.declared.op.Phase.{Phase}
use Rattle.io_rules.specs.declared.op.Phase.TheVariants as phase
use Rattle.io_rules.specs.declared.operation.Binding.{Binding}
use Rattle.io_rules.specs.declared.operation.Operation.{Operation}
use Rattle.io_rules.specs.declared.operation.Operation.TheVariants as operation
use Rattle.io_rules.specs.declared.operation.Side.TheVariants as side
use Rattle.io_rules.specs.declared.request.Marks.{Marks}
use Rattle.io_rules.specs.Completing.{MayCompleteAs, MayCompleteIn, binding_of, kind_of, others_than, slots_left, streams_left}
use Rattle.io_rules.specs.Legal.{MayHappen, after}
use Rattle.io_rules.specs.Operations.{behind_connect, target_of}
use Rattle.io_rules.specs.Ops.{is_ready, lane_of, op_at, with_phase}
use Rattle.io_rules.specs.Room.{one_if}
use Rattle.io_rules.specs.Serving.{served}
use Rattle.io_rules.specs.State.{ContextState, TimerState}
use Rattle.io_rules.specs.Strands.{on_lane, ready_on}
use Rattle.io_rules.specs.Timers.{due, due_by, earliest}
use Rattle.io_rules.proofs.StrandLemmas.{by_test}
use Rattle.io_rules.proofs.TotalLemmas.{apart, equal, sum_by-total, total-changed}
use Rattle.io_history.proofs.AtLemmas.{at-changed}
use Rattle.io_timers.specs.declared.pending.PendingWait.{PendingWait}
use Rattle.io_timers.specs.Kept.{Each, Rises}
use Rattle.io_timers.specs.Pending.{Entry, Timers, is_other, next_wait, number_of, numbered_in, wait_of, without_wait}
use Rattle.io_timers.proofs.FoundLemmas.{apart_test}
use Rattle.io_timers.proofs.OrderLemmas.{each-weaker, filter-all, rises-filter}
use Rattle.io_scheduler.specs.declared.waiting.Waiting.{Waiting}
use Rattle.io_scheduler.specs.Expired.{left_waits, wait_done}
use Rattle.io_scheduler.specs.Shown.{AreBelow}
use Rattle.io_scheduler.specs.Waits.{ArePending, IsWaitingAs, ShowsWaits, incomplete_in, is_incomplete}
use Rattle.io_scheduler.proofs.CompletedLemmas.{IsUnready}
use Rattle.io_scheduler.proofs.ReadyLemmas.{at_below}

abbrev done_parts : Operation → Option Binding → Lane → ℕ → Code → ContextState → ContextState
done_parts kind binding on n code s =
    served (behind_connect side.Write kind)
    (served (behind_connect side.Read kind)
    (served (target_of kind) (record s {
      ops = with_phase n (phase.Ready code 0) s.ops;
      settled = others_than n s.settled;
      waits = left_waits n s.waits;
      strands = on_lane on (ready_on n) s.strands;
      slots = slots_left n binding s.slots;
      streams = streams_left n (target_of kind) s.streams;
    })))

-- the state behind the completion of a wait
pub after_done_of : (s : ContextState) (n : ℕ) (code : Code) (timer : Name) (on : Lane) (op : Op) → op_at s.ops n ≡ Some op →
    op.kind ≡ operation.Wait timer → op.binding ≡ None → op.lane ≡ on →
    after (event.Done n code 0) s ≡ wait_done n code on s
after_done_of s n code timer on op is kind binding lane =
    ap (λ (o : Option Op). done_parts (kind_of o) (binding_of o) (lane_of o) n code s) is
    ∙ ap (λ k. done_parts k op.binding op.lane n code s) kind
    ∙ ap (λ b. done_parts (operation.Wait timer) b op.lane n code s) binding
    ∙ ap (λ l. done_parts (operation.Wait timer) None l n code s) lane

module _ {H : Type 0} (marks : H → Marks) (s : ContextState) (wait : PendingWait (Waiting H)) where
  pub after_wait : (code : Code) → IsWaitingAs marks s.ops wait →
      after (event.Done wait.op code 0) s ≡ wait_done wait.op code wait.item.lane s
  after_wait code it = after_done_of s wait.op code wait.timer wait.item.lane it.op it.is it.kind it.binding it.lane

  abbrev pub unready : IsWaitingAs marks s.ops wait → IsUnready marks s.ops wait.item.lane wait.op wait.item.handler
  unready it = record {
    op = it.op;
    is = it.is;
    lane = it.lane;
    given = it.given;
    unready = ap is_ready it.phase;
  }

  -- what is due may complete
  pub may_expire : s.finishing ≡ false → IsWaitingAs marks s.ops wait → due s ≡ Some wait.op →
      MayHappen s (event.Done wait.op code.Ok 0)
  may_expire going it is_due = record {
    going = going;
    completes =
        subst (MayCompleteAs s wait.op code.Ok 0) (sym it.is)
        (subst (MayCompleteIn s wait.op code.Ok 0) (sym it.phase)
        (record { is_due = is_due; ok = refl; empty = refl }));
  }

-- the next wait that is kept is the one that is due
pub due_shown : {H : Type 0} (marks : H → Marks) (limits : Limits) (timers : Timers (Waiting H)) (s : ContextState) →
    ShowsWaits marks limits timers s → due_by timers.timers s.now (next_wait timers) ≡ due s
due_shown marks limits timers s shows =
    ap (λ (ts : List TimerState). due_by ts s.now (earliest ts (map wait_of timers.waits))) shows.timers_are
    ∙ ap (λ ws. due_by s.timers s.now (earliest s.timers ws)) shows.waits_are

some_is : {X : Type 0} (x y : X) → Some x ≡ Some y → x ≡ y
some_is x y is = cc

none_is : {X : Type 0} (x : X) → None ≡ Some x → ⊥
none_is x is = cc

-- the wait with a number is pending
pub pending_at : {H : Type 0} (marks : H → Marks) (ops : List Op) (n : ℕ) (wait : PendingWait (Waiting H))
    (waits : List (Entry (PendingWait (Waiting H)))) → numbered_in n waits ≡ Some wait → ArePending marks ops waits →
    IsWaitingAs marks ops wait
pending_at marks ops n wait [] is all = absurd (none_is wait is)
pending_at marks ops n wait (x ∷ waits) is all =
    by_test (x.item.op == n)
    (λ here.
    subst (IsWaitingAs marks ops)
    (some_is x.item wait (sym (ap (λ b. cond b (Some x.item) (numbered_in n waits)) here) ∙ is)) all.0)
    (λ other.
    pending_at marks ops n wait waits (sym (ap (λ b. cond b (Some x.item) (numbered_in n waits)) other) ∙ is) all.1)

pub map-filter : {H : Type 0} (n : ℕ) (waits : List (Entry (PendingWait (Waiting H)))) →
    map wait_of (filter (is_other n) waits) ≡ left_waits n (map wait_of waits)
map-filter n [] = refl
map-filter n (x ∷ waits) =
    by_test (x.item.op == n)
    (λ here.
    ap (λ b. map wait_of (cond (not b) (x ∷ filter (is_other n) waits) (filter (is_other n) waits))) here
    ∙ map-filter n waits
    ∙ sym (ap (λ b. cond (not b) (wait_of x ∷ left_waits n (map wait_of waits)) (left_waits n (map wait_of waits))) here))
    (λ other.
    ap (λ b. map wait_of (cond (not b) (x ∷ filter (is_other n) waits) (filter (is_other n) waits))) other
    ∙ ap (λ ws. wait_of x ∷ ws) (map-filter n waits)
    ∙ sym (ap (λ b. cond (not b) (wait_of x ∷ left_waits n (map wait_of waits)) (left_waits n (map wait_of waits))) other))

-- exactly one leaves
pub fewer : {H : Type 0} (n : ℕ) (wait : PendingWait (Waiting H)) (waits : List (Entry (PendingWait (Waiting H)))) →
    Rises waits → numbered_in n waits ≡ Some wait → length (filter (is_other n) waits) + 1 ≡ length waits
fewer n wait [] rises is = absurd (none_is wait is)
fewer n wait (x ∷ waits) rises is =
    by_test (x.item.op == n)
    (λ here.
    let at : x.item.op ≡ n = equal x.item.op n here in
    let rest : filter (is_other n) waits ≡ waits =
    filter-all (is_other n) waits
    (each-weaker (λ other. number_of x < number_of other) (λ other. is_other n other ≡ true) waits
    (λ other less. ap not (apart_test (number_of other) n (λ e. omega (arith, less, at, e)))) rises.0) in
    let now = ap (λ b. length (cond (not b) (x ∷ filter (is_other n) waits) (filter (is_other n) waits))) here
    ∙ ap length rest in
    omega (arith, now))
    (λ other.
    let rest = fewer n wait waits rises.1
    (sym (ap (λ b. cond b (Some x.item) (numbered_in n waits)) other) ∙ is) in
    let now = ap (λ b. length (cond (not b) (x ∷ filter (is_other n) waits) (filter (is_other n) waits))) other in
    omega (arith, now, rest))

pub fewer_waits : {H : Type 0} (n : ℕ) (wait : PendingWait (Waiting H)) (waits : List (Entry (PendingWait (Waiting H)))) →
    Rises waits → numbered_in n waits ≡ Some wait → length (filter (is_other n) waits) < length waits
fewer_waits n wait waits rises is = let one = fewer n wait waits rises is in omega (arith, one)

-- the others stay pending
pending_left : {H : Type 0} (marks : H → Marks) (ops : List Op) (n : ℕ) (p : Phase)
    (waits : List (Entry (PendingWait (Waiting H)))) → ArePending marks ops waits →
    ArePending marks (with_phase n p ops) (filter (is_other n) waits)
pending_left marks ops n p [] all = tt
pending_left marks ops n p (x ∷ waits) all =
    by_test (x.item.op == n)
    (λ here.
    subst (ArePending marks (with_phase n p ops))
    (sym (ap (λ b. cond (not b) (x ∷ filter (is_other n) waits) (filter (is_other n) waits)) here))
    (pending_left marks ops n p waits all.1))
    (λ other.
    let it = all.0 in
    subst (ArePending marks (with_phase n p ops))
    (sym (ap (λ b. cond (not b) (x ∷ filter (is_other n) waits) (filter (is_other n) waits)) other)) (
      record {
        op = it.op;
        is = at-changed n x.item.op (λ o. p) ops it.op
            (λ (here : n ≡ x.item.op). absurd (apart x.item.op n other here)) it.is;
        lane = it.lane;
        binding = it.binding;
        kind = it.kind;
        given = it.given;
        phase = it.phase;
      },
      pending_left marks ops n p waits all.1,
    ))

fewer_incomplete : (n : ℕ) (code : Code) (ops : List Op) (it : Op) → op_at ops n ≡ Some it →
    it.phase ≡ phase.Pending 0 false → incomplete_in (with_phase n (phase.Ready code 0) ops) + 1 ≡ incomplete_in ops
fewer_incomplete n code ops it is at =
    let f : Op → ℕ = λ op. one_if (is_incomplete op.phase) in
    let old = sum_by-total f ops in
    let new = sum_by-total f (with_phase n (phase.Ready code 0) ops) in
    let step = total-changed f n (λ op. phase.Ready code 0) ops it is in
    let before = ap (λ p. one_if (is_incomplete p)) at in
    omega (arith, old, new, step, before)

-- the numbers of pending waits were given
pub below_next : {H : Type 0} (marks : H → Marks) (next : ℕ) (ops : List Op)
    (waits : List (Entry (PendingWait (Waiting H)))) → AreBelow next ops → ArePending marks ops waits →
    Each (λ wait. number_of wait < next) waits
below_next marks next ops [] below all = tt
below_next marks next ops (x ∷ waits) below all =
    (at_below next x.item.op ops all.0.op below all.0.is, below_next marks next ops waits below all.1)

-- what is pending behind it
pub waits_left : {H : Type 0} (marks : H → Marks) (limits : Limits) (timers : Timers (Waiting H)) (s : ContextState)
    (wait : PendingWait (Waiting H)) (code : Code) → ShowsWaits marks limits timers s →
    numbered_in wait.op timers.waits ≡ Some wait →
    ShowsWaits marks limits (without_wait wait.op timers) (wait_done wait.op code wait.item.lane s)
waits_left marks limits timers s wait code shows is =
    let it = pending_at marks s.ops wait.op wait timers.waits is shows.each in
    let less = fewer wait.op wait timers.waits shows.rises is in
    let fewer_ops = fewer_incomplete wait.op code s.ops it.op it.is it.phase in
    let all = shows.all in let room = shows.room in
    record {
      timers_are = shows.timers_are;
      places = shows.places;
      waits_are = map-filter wait.op timers.waits ∙ ap (left_waits wait.op) shows.waits_are;
      rises = rises-filter (is_other wait.op) timers.waits shows.rises;
      each = pending_left marks s.ops wait.op (phase.Ready code 0) timers.waits shows.each;
      all = omega (arith, less, fewer_ops, all);
      room = omega (arith, less, room);
    }
