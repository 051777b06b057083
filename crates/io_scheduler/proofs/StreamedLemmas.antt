-- What leaves the operations that are pending on streams: what is kept of them shows the state behind it.
use Rattle.std.proofs.Common.{ap, refl, subst, sym, ◌∙◌}
use Rattle.std.proofs.lemmas.List.{append-nil}
use Rattle.std.specs.Prelude.{◌≡◌, ◌<◌, ◌^◌, ℕ, ◌==◌, nat_le, not, Bool, true, false, List, [], ◌∷◌, ◌++◌, Option, Some, None, filter, length, map, slice_get, take, if◌then◌else◌}
use Rattle.asio_types.specs.declared.code.Code.{Code}
use Rattle.asio_types.specs.declared.code.Code.TheVariants as code
use Rattle.io_rules.specs.declared.event.Event.{Event}
use Rattle.io_rules.specs.declared.event.Event.TheVariants as event
use Rattle.io_rules.specs.declared.limits.Limits.{Limits}
use Rattle.io_rules.specs.declared.name.Lane.{Lane}
use Rattle.io_rules.specs.declared.name.Name.{Name}
use Rattle.io_rules.specs.declared.op.Op.{Op}
use Rattle.io_rules.specs.declared.op.Phase.{Phase}
use Rattle.io_rules.specs.declared.op.Phase.TheVariants as phase
use Rattle.io_rules.specs.declared.op.Wait.{Wait}
use Rattle.io_rules.specs.declared.operation.Operation.{Operation}
use Rattle.io_rules.specs.declared.operation.Operation.TheVariants as operation
use Rattle.io_rules.specs.declared.operation.Side.{Side}
use Rattle.io_rules.specs.declared.operation.Side.TheVariants as side
use Rattle.io_rules.specs.declared.request.Gone.TheVariants as gone
use Rattle.io_rules.specs.declared.request.Marks.{Marks}
use Rattle.io_rules.specs.Cancelling.{cancelled, cancelled_phase, is_among, is_out_for, is_settled_by_cancel, is_tried, ops_cancelled, waits_of}
use Rattle.io_rules.specs.Changes.{reached}
use Rattle.io_rules.specs.Completing.{MayCompleteAs, MayCompleteIn, binding_of, kind_of, others_than, slots_left, streams_left}
use Rattle.io_rules.specs.Legal.{MayHappen, after, state_of}
use Rattle.io_rules.specs.Names.{same_name}
use Rattle.io_rules.specs.Operations.{Target, at, behind_connect, target_of}
use Rattle.io_rules.specs.Ops.{is_pending, lane_at, op_at, phase_changed, with_phase}
use Rattle.io_rules.specs.Room.{place_given, place_given_by}
use Rattle.io_rules.specs.Serving.{first_of, served}
use Rattle.io_rules.specs.State.{ContextState, TimerState, stream_at}
use Rattle.io_rules.specs.Strands.{on_lane, ready_on}
use Rattle.io_rules.specs.Timers.{due_by, earlier, earliest, expiry_of}
use Rattle.io_rules.proofs.StrandLemmas.{by_test}
use Rattle.io_history.proofs.AtLemmas.{at-changed, at-changed_of, at-push}
use Rattle.io_streams.specs.declared.pending.PendingOp.{PendingOp}
use Rattle.io_streams.specs.Pending.{Entry, StreamList}
use Rattle.io_timers.specs.declared.pending.PendingWait.{PendingWait}
use Rattle.io_timers.specs.Kept.{Each}
use Rattle.io_timers.specs.Pending as timers
use Rattle.io_timers.specs.Pending.{Timers, wait_of}
use Rattle.io_timers.proofs.OrderLemmas.{each-filter, each-weaker}
use Rattle.io_scheduler.specs.declared.streaming.Streaming.{Streaming}
use Rattle.io_scheduler.specs.declared.waiting.Waiting.{Waiting}
use Rattle.io_scheduler.specs.Accepted.{waiting_on}
use Rattle.io_scheduler.specs.Come.{HaveCome, MayCome, behind, changes, completions}
use Rattle.io_scheduler.specs.Expired.{HasPassed}
use Rattle.io_scheduler.specs.Streaming.{on_streams}
use Rattle.io_scheduler.specs.Streams.{AreStreaming, IsPlain, ShowsStreams, StaysStreaming}
use Rattle.io_scheduler.specs.Timing.{control_of}
use Rattle.io_scheduler.specs.declared.timing.TimerChange.{TimerChange}
use Rattle.io_scheduler.specs.declared.timing.TimerChange.TheVariants as change
use Rattle.io_scheduler.specs.Waits.{ArePending, ShowsWaits}
use Rattle.io_scheduler.proofs.ComeLemmas.{state_with}
use Rattle.io_scheduler.proofs.StayedLemmas.{StaysPending, given_same}

still : {H : Type 0} (marks : H → Marks) (s new : ContextState) (ops : List (Entry (PendingOp (Streaming H)))) →
    StaysStreaming s new → AreStreaming marks s.ops ops → AreStreaming marks new.ops ops
still marks s new [] stays all = tt
still marks s new (x ∷ ops) stays all =
    let old = all.0 in (
      record {
        op = old.op;
        is = stays.ops x.item.op old.op (record { stream = x.item.stream; side = x.item.side }) old.is
            (ap is_pending old.phase) (ap target_of old.kind ∙ old.target);
        lane = old.lane;
        binding = old.binding;
        kind = old.kind;
        target = old.target;
        given = old.given;
        phase = old.phase;
      },
      still marks s new ops stays all.1,
    )

module _ {H : Type 0} (marks : H → Marks) (limits : Limits) (streams : StreamList (Streaming H)) (s new : ContextState)
    (shows : ShowsStreams marks limits streams s) where
  pub streams_still : StaysStreaming s new → ShowsStreams marks limits streams new
  streams_still stays = record {
    streams_are = shows.streams_are ∙ sym stays.streams;
    places = ap length stays.streams ∙ shows.places ∙ sym stays.places;
    few = subst (λ states. length states < 2 ^ 32) (sym stays.streams) shows.few;
    each = still marks s new streams.ops stays shows.each;
    all = shows.all ∙ sym (ap on_streams stays.streams);
    room = shows.room;
    plain = λ name. subst (λ xs. IsPlain (stream_at xs name)) (sym stays.streams) (shows.plain name);
    heads = shows.heads;
    busy = λ name side.
        subst (λ xs. is_out_for side (stream_at xs name).out ≡ true → first_of side (stream_at xs name) ≡ None → ⊥)
        (sym stays.streams) (shows.busy name side);
  }

  pub streams_stay : StaysPending s new → length new.names.streams ≡ length s.names.streams →
      ShowsStreams marks limits streams new
  streams_stay stays places =
      streams_still (record { streams = stays.streams; places = places; ops = λ n it target is pending on. stays.ops n it is pending })

pub still_itself : (s : ContextState) → StaysStreaming s s
still_itself s = record { streams = refl; places = refl; ops = λ n it target is pending on. is }

pub still_behind : (s mid new : ContextState) → StaysStreaming s mid → StaysStreaming mid new → StaysStreaming s new
still_behind s mid new first second = record {
  streams = second.streams ∙ first.streams;
  places = second.places ∙ first.places;
  ops = λ n it target is pending on. second.ops n it target (first.ops n it target is pending on) pending on;
}

-- a wait is accepted
pub still_waiting : (s : ContextState) (n : ℕ) (by : Option ℕ) (on : Lane) (timer : Name) (marks : Marks) →
    StaysStreaming s (after (event.Called n by (waiting_on on timer marks) gone.Nothing) s)
still_waiting s n by on timer marks = record {
  streams = refl;
  places = refl;
  ops = λ m it target is pending on_it.
      at-push m (place_given_by by s.ops) _ it
      (at-changed_of by m (λ o. place_given o.phase) s.ops it (given_same it pending) is);
}

-- ---- the operation with a number isn't one of a stream

abbrev IsApart : List Op → ℕ → Type 0
IsApart ops n = target_of (kind_of (op_at ops n)) ≡ None

none_is : {X : Type 0} (x : X) → None ≡ Some x → ⊥
none_is x is = cc

some_is : {X : Type 0} (x y : X) → Some x ≡ Some y → x ≡ y
some_is x y is = cc

-- another one is
other : (ops : List Op) (n m : ℕ) (it : Op) (target : Target) → IsApart ops n → op_at ops m ≡ Some it →
    target_of it.kind ≡ Some target → n ≡ m → ⊥
other ops n m it target apart is on same =
    none_is target
    (sym apart ∙ ap (λ k. target_of (kind_of (op_at ops k))) same ∙ ap (λ o. target_of (kind_of o)) is ∙ on)

kind-changed : (n : ℕ) (f : Op → Phase) (ops : List Op) (k : ℕ) →
    kind_of (op_at (phase_changed n f ops) k) ≡ kind_of (op_at ops k)
kind-changed n f [] k = refl
kind-changed n f (x ∷ ops) k =
    let rest = kind-changed n f ops k in
    let new : Op = record x { phase = f x } in
    by_test (x.number == n)
    (λ here.
    ap (λ b. kind_of (op_at (if b then new ∷ ops else x ∷ phase_changed n f ops) k)) here
    ∙ by_test (x.number == k)
    (λ found.
    ap (λ b. kind_of (if b then Some new else op_at ops k)) found
    ∙ sym (ap (λ b. kind_of (if b then Some x else op_at ops k)) found))
    (λ missed.
    ap (λ b. kind_of (if b then Some new else op_at ops k)) missed
    ∙ sym (ap (λ b. kind_of (if b then Some x else op_at ops k)) missed)))
    (λ behind_it.
    ap (λ b. kind_of (op_at (if b then new ∷ ops else x ∷ phase_changed n f ops) k)) behind_it
    ∙ by_test (x.number == k)
    (λ found.
    ap (λ b. kind_of (if b then Some x else op_at (phase_changed n f ops) k)) found
    ∙ sym (ap (λ b. kind_of (if b then Some x else op_at ops k)) found))
    (λ missed.
    ap (λ b. kind_of (if b then Some x else op_at (phase_changed n f ops) k)) missed ∙ rest
    ∙ sym (ap (λ b. kind_of (if b then Some x else op_at ops k)) missed)))

kind-cancelled : (s : ContextState) (numbers : List ℕ) (ops : List Op) (k : ℕ) →
    kind_of (op_at (ops_cancelled s numbers ops) k) ≡ kind_of (op_at ops k)
kind-cancelled s [] ops k = refl
kind-cancelled s (n ∷ numbers) ops k =
    kind-cancelled s numbers (phase_changed n (λ op. cancelled_phase (is_tried s op) op.phase) ops) k
    ∙ kind-changed n (λ op. cancelled_phase (is_tried s op) op.phase) ops k

-- neither what waits nor what is settled is an operation of a stream
record AreApart (s : ContextState) : Type 0 where
  waits : Each (λ wait. IsApart s.ops wait.op) s.waits
  settled : Each (IsApart s.ops) s.settled

waits_apart : {H : Type 0} (marks : H → Marks) (ops : List Op) (waits : List (timers.Entry (PendingWait (Waiting H)))) →
    ArePending marks ops waits → Each (λ (wait : Wait). IsApart ops wait.op) (map wait_of waits)
waits_apart marks ops [] all = tt
waits_apart marks ops (x ∷ waits) all = (
  ap (λ o. target_of (kind_of o)) all.0.is ∙ ap target_of all.0.kind,
  waits_apart marks ops waits all.1,
)

are_apart : {H : Type 0} (marks : H → Marks) (limits : Limits) (timers : Timers (Waiting H)) (s : ContextState) →
    s.settled ≡ [] → ShowsWaits marks limits timers s → AreApart s
are_apart marks limits timers s none shows = record {
  waits = subst (Each (λ (wait : Wait). IsApart s.ops wait.op)) shows.waits_are
      (waits_apart marks s.ops timers.waits shows.each);
  settled = subst (Each (IsApart s.ops)) (sym none) tt;
}

-- ---- one of them completes

earlier_is : (P : Wait → Type 0) (timers : List TimerState) (wait : Wait) (o : Option Wait) → P wait →
    ((w : Wait) → o ≡ Some w → P w) → P (earlier timers wait o)
earlier_is P timers wait None here rest = here
earlier_is P timers wait (Some w) here rest =
    by_test (nat_le (expiry_of timers wait) (expiry_of timers w))
    (λ before. subst P (sym (ap (λ b. if b then wait else w) before)) here)
    (λ behind_it. subst P (sym (ap (λ b. if b then wait else w) behind_it)) (rest w refl))

earliest_is : (P : Wait → Type 0) (timers : List TimerState) (waits : List Wait) (w : Wait) → Each P waits →
    earliest timers waits ≡ Some w → P w
earliest_is P timers [] w all is = absurd (none_is w is)
earliest_is P timers (x ∷ waits) w all is =
    subst P (some_is _ w is)
    (earlier_is P timers x (earliest timers waits) all.0 (λ v found. earliest_is P timers waits v all.1 found))

due_is : (P : ℕ → Type 0) (timers : List TimerState) (now : ℕ) (waits : List Wait) (n : ℕ) →
    Each (λ w. P w.op) waits → due_by timers now (earliest timers waits) ≡ Some n → P n
due_is P timers now waits n all is = by_first (earliest timers waits) refl is
  where
    by_first : (o : Option Wait) → earliest timers waits ≡ o → due_by timers now o ≡ Some n → P n
    by_first None at_it due_it = absurd (none_is n due_it)
    by_first (Some w) at_it due_it =
        by_test (nat_le (expiry_of timers w) now)
        (λ late.
        subst P (some_is w.op n (sym (ap (λ b. if b then Some w.op else None) late) ∙ due_it))
        (earliest_is (λ v. P v.op) timers waits w all at_it))
        (λ soon. absurd (none_is n (sym (ap (λ b. if b then Some w.op else None) soon) ∙ due_it)))

first_is : (P : ℕ → Type 0) (numbers : List ℕ) (n : ℕ) → Each P numbers → slice_get numbers 0 ≡ Some n → P n
first_is P [] n all is = absurd (none_is n is)
first_is P (x ∷ numbers) n all is = subst P (some_is x n is) all.0

done_apart : (s : ContextState) (n : ℕ) (given : Code) (size : ℕ) → AreApart s → MayHappen s (event.Done n given size) →
    IsApart s.ops n
done_apart s n given size apart may = by_op (op_at s.ops n) may.completes
  where
    by_phase : (p : Phase) → MayCompleteIn s n given size p → IsApart s.ops n
    by_phase (phase.Pending moved cancelled) completes =
        due_is (IsApart s.ops) s.timers s.now s.waits n apart.waits completes.is_due
    by_phase (phase.Settled known moved) completes =
        first_is (IsApart s.ops) s.settled n apart.settled completes.first
    by_phase (phase.Ready known moved) completes = absurd completes
    by_phase (phase.Running own grant spares) completes = absurd completes

    by_op : (o : Option Op) → MayCompleteAs s n given size o → IsApart s.ops n
    by_op None completes = absurd completes
    by_op (Some it) completes = by_phase it.phase completes

abbrev done_by : ContextState → ℕ → Code → ℕ → Option Target → Option Target → Option Target → ContextState
done_by s n given size target read write =
    served write
    (served read
    (served target (record s {
      ops = with_phase n (phase.Ready given size) s.ops;
      settled = others_than n s.settled;
      waits = filter (λ wait. not (wait.op == n)) s.waits;
      strands = on_lane (lane_at s.ops n) (ready_on n) s.strands;
      slots = slots_left n (binding_of (op_at s.ops n)) s.slots;
      streams = streams_left n target s.streams;
    })))

no_connect : (on : Side) (kind : Operation) → target_of kind ≡ None → behind_connect on kind ≡ None
no_connect on operation.Post none = refl
no_connect on operation.Defer none = refl
no_connect on operation.Dispatch none = refl
no_connect on (operation.Wait timer) none = refl
no_connect on (operation.ReadSome stream size) none = refl
no_connect on (operation.ReadAll stream size) none = refl
no_connect on (operation.ReadUntil stream max) none = refl
no_connect on (operation.WriteSome stream size) none = refl
no_connect on (operation.WriteAll stream size) none = refl
no_connect on (operation.Accept listener) none = refl
no_connect on (operation.Connect stream) none = absurd (none_is (record { stream = stream; side = side.Connect }) (sym none))

done_is : (s : ContextState) (n : ℕ) (given : Code) (size : ℕ) → IsApart s.ops n →
    after (event.Done n given size) s ≡ done_by s n given size None None None
done_is s n given size apart =
    let kind = kind_of (op_at s.ops n) in
    ap (λ t. done_by s n given size t (behind_connect side.Read kind) (behind_connect side.Write kind)) apart
    ∙ ap (λ t. done_by s n given size None t (behind_connect side.Write kind)) (no_connect side.Read kind apart)
    ∙ ap (done_by s n given size None None) (no_connect side.Write kind apart)

pub still_done : (s : ContextState) (n : ℕ) (given : Code) (size : ℕ) → IsApart s.ops n →
    StaysStreaming s (after (event.Done n given size) s)
still_done s n given size apart =
    subst (StaysStreaming s) (sym (done_is s n given size apart))
    (record {
      streams = refl;
      places = refl;
      ops = λ m it target is pending on.
          at-changed n m (λ o. phase.Ready given size) s.ops it
          (λ (here : n ≡ m). absurd (other s.ops n m it target apart is on here)) is;
    })

apart_done : (s : ContextState) (n : ℕ) (given : Code) (size : ℕ) → IsApart s.ops n → AreApart s →
    AreApart (after (event.Done n given size) s)
apart_done s n given size apart all =
    subst AreApart (sym (done_is s n given size apart))
    (record {
      waits = each-weaker (λ (wait : Wait). IsApart s.ops wait.op) (λ wait. IsApart new wait.op) _ (λ wait is. now wait.op is)
          (each-filter (λ (wait : Wait). IsApart s.ops wait.op) (λ wait. not (wait.op == n)) s.waits all.waits);
      settled = subst (Each (IsApart new)) (sym nothing_more)
          (each-weaker (IsApart s.ops) (IsApart new) (others_than n s.settled) now
          (each-filter (IsApart s.ops) (λ k. not (k == n)) s.settled all.settled));
    })
  where
    new : List Op
    new = with_phase n (phase.Ready given size) s.ops

    now : (k : ℕ) → IsApart s.ops k → IsApart new k
    now k is = ap target_of (kind-changed n (λ o. phase.Ready given size) s.ops k) ∙ is

    nothing_more : others_than n s.settled ++ [] ++ [] ++ [] ≡ others_than n s.settled
    nothing_more =
        append-nil (others_than n s.settled ++ [] ++ []) ∙ append-nil (others_than n s.settled ++ [])
        ∙ append-nil (others_than n s.settled)

still_completions : (given : Code) (numbers : List ℕ) (s : ContextState) → AreApart s →
    MayCome (completions given numbers) s → StaysStreaming s (behind (completions given numbers) s)
still_completions given [] s apart may = still_itself s
still_completions given (n ∷ numbers) s apart may =
    let it = done_apart s n given 0 apart may.0 in
    let new = after (event.Done n given 0) s in
    still_behind s new (behind (completions given numbers) new) (still_done s n given 0 it)
    (still_completions given numbers new (apart_done s n given 0 it apart) may.1)

module _ {H : Type 0} (marks : H → Marks) (limits : Limits) (timers : Timers (Waiting H)) (old : List Event)
    (none : (state_of limits old).settled ≡ []) (shows : ShowsWaits marks limits timers (state_of limits old)) where
  -- time passes
  pub still_passed : (now : ℕ) (new : List Event) → HasPassed limits now old new →
      StaysStreaming (state_of limits old) (state_of limits new)
  still_passed now new passed =
      let s = state_of limits old in
      let apart = are_apart marks limits timers s none shows in
      let all = completions code.Ok passed.ops in
      let first : ContextState = after (event.Passed now) s in
      subst (StaysStreaming s)
      (sym (ap (state_of limits) passed.come.is ∙ state_with limits (event.Passed now ∷ all) old))
      (still_behind s first (behind all first) (record { streams = refl; places = refl; ops = λ n it target is pending on. is })
      (still_completions code.Ok passed.ops first (record { waits = apart.waits; settled = apart.settled }) passed.come.may.1))

-- ---- a timer is changed

-- what such a change does
record ChangesTimer (s new : ContextState) (numbers : List ℕ) : Type 0 where
  streams : new.streams ≡ s.streams
  places : length new.names.streams ≡ length s.names.streams
  ops : new.ops ≡ ops_cancelled s numbers s.ops
  waits : new.waits ≡ filter (λ wait. not (is_among numbers wait.op)) s.waits
  settled : new.settled ≡ s.settled ++ filter (is_settled_by_cancel s) numbers

changes_timer : (s : ContextState) (by : Option ℕ) (timer : Name) (change : TimerChange) →
    ChangesTimer s (after (event.Changed by (control_of timer change)) s) (reached s (control_of timer change))
changes_timer s by timer (change.ExpiresAt at) =
    record { streams = refl; places = refl; ops = refl; waits = refl; settled = refl }
changes_timer s by timer change.Cancel =
    record { streams = refl; places = refl; ops = refl; waits = refl; settled = refl }
changes_timer s by timer change.CancelOne =
    record { streams = refl; places = refl; ops = refl; waits = refl; settled = refl }
changes_timer s by timer change.Free =
    record { streams = refl; places = refl; ops = refl; waits = refl; settled = refl }

each_if : (P : ℕ → Type 0) (b : Bool) (numbers : List ℕ) → Each P numbers → Each P (if b then numbers else [])
each_if P true numbers all = all
each_if P false numbers all = tt

each_op : (P : ℕ → Type 0) (waits : List Wait) → Each (λ w. P w.op) waits → Each P (map (λ w. w.op) waits)
each_op P [] all = tt
each_op P (w ∷ waits) all = (all.0, each_op P waits all.1)

each_first : (P : ℕ → Type 0) (numbers : List ℕ) → Each P numbers → Each P (take 1 numbers)
each_first P [] all = tt
each_first P (n ∷ numbers) all = (all.0, tt)

each_more : (P : ℕ → Type 0) (xs ys : List ℕ) → Each P xs → Each P ys → Each P (xs ++ ys)
each_more P [] ys first rest = rest
each_more P (x ∷ xs) ys first rest = (first.0, each_more P xs ys first.1 rest)

each_reached : (P : ℕ → Type 0) (s : ContextState) (timer : Name) (made : TimerChange) → Each (λ w. P w.op) s.waits →
    Each P (reached s (control_of timer made))
each_reached P s timer made all = by_change made
  where
    those : Each P (waits_of timer s)
    those =
        each_op P (filter (λ wait. same_name wait.timer timer) s.waits)
        (each-filter (λ w. P w.op) (λ wait. same_name wait.timer timer) s.waits all)

    by_change : (it : TimerChange) → Each P (reached s (control_of timer it))
    by_change (change.ExpiresAt at) = each_if P _ (waits_of timer s) those
    by_change change.Cancel = each_if P _ (waits_of timer s) those
    by_change change.CancelOne = each_if P _ (take 1 (waits_of timer s)) (each_first P (waits_of timer s) those)
    by_change change.Free = each_if P _ (waits_of timer s) those

cancelled_still : (s : ContextState) (numbers : List ℕ) (ops : List Op) (m : ℕ) (it : Op) (target : Target) →
    Each (IsApart ops) numbers → op_at ops m ≡ Some it → target_of it.kind ≡ Some target →
    op_at (ops_cancelled s numbers ops) m ≡ Some it
cancelled_still s [] ops m it target apart is on = is
cancelled_still s (n ∷ numbers) ops m it target apart is on =
    let f : Op → Phase = λ op. cancelled_phase (is_tried s op) op.phase in
    cancelled_still s numbers (phase_changed n f ops) m it target
    (each-weaker (IsApart ops) (IsApart (phase_changed n f ops)) numbers
    (λ k is_apart. ap target_of (kind-changed n f ops k) ∙ is_apart) apart.1)
    (at-changed n m f ops it (λ (here : n ≡ m). absurd (other ops n m it target apart.0 is on here)) is) on

still_by : (s new : ContextState) (numbers : List ℕ) → Each (IsApart s.ops) numbers → ChangesTimer s new numbers →
    StaysStreaming s new
still_by s new numbers apart changed = record {
  streams = changed.streams;
  places = changed.places;
  ops = λ m it target is pending on.
      ap (λ ops. op_at ops m) changed.ops ∙ cancelled_still s numbers s.ops m it target apart is on;
}

apart_by : (s new : ContextState) (numbers : List ℕ) → Each (IsApart s.ops) numbers → AreApart s →
    ChangesTimer s new numbers → AreApart new
apart_by s new numbers apart all changed = record {
  waits = subst (Each (λ (wait : Wait). IsApart new.ops wait.op)) (sym changed.waits)
      (each-weaker (λ (wait : Wait). IsApart s.ops wait.op) (λ wait. IsApart new.ops wait.op) _ (λ wait is. now wait.op is)
      (each-filter (λ (wait : Wait). IsApart s.ops wait.op) (λ wait. not (is_among numbers wait.op)) s.waits all.waits));
  settled = subst (Each (IsApart new.ops)) (sym changed.settled)
      (each-weaker (IsApart s.ops) (IsApart new.ops) _ now
      (each_more (IsApart s.ops) s.settled (filter (is_settled_by_cancel s) numbers) all.settled
      (each-filter (IsApart s.ops) (is_settled_by_cancel s) numbers apart)));
}
  where
    now : (k : ℕ) → IsApart s.ops k → IsApart new.ops k
    now k is =
        ap (λ ops. target_of (kind_of (op_at ops k))) changed.ops ∙ ap target_of (kind-cancelled s numbers s.ops k) ∙ is

module _ {H : Type 0} (marks : H → Marks) (limits : Limits) (timers : Timers (Waiting H)) (old : List Event)
    (none : (state_of limits old).settled ≡ []) (shows : ShowsWaits marks limits timers (state_of limits old)) where
  pub still_changed : (by : Option ℕ) (timer : Name) (change : TimerChange) (new : List Event) →
      HaveCome limits (changes by (control_of timer change) (state_of limits old)) old new →
      StaysStreaming (state_of limits old) (state_of limits new)
  still_changed by timer change new come =
      let s = state_of limits old in
      let apart = are_apart marks limits timers s none shows in
      let numbers = reached s (control_of timer change) in
      let those = each_reached (IsApart s.ops) s timer change apart.waits in
      let all = completions code.Aborted numbers in
      let first : ContextState = after (event.Changed by (control_of timer change)) s in
      let changed = changes_timer s by timer change in
      subst (StaysStreaming s)
      (sym (ap (state_of limits) come.is ∙ state_with limits (event.Changed by (control_of timer change) ∷ all) old))
      (still_behind s first (behind all first) (still_by s first numbers those changed)
      (still_completions code.Aborted numbers first (apart_by s first numbers those apart changed) come.may.1))
