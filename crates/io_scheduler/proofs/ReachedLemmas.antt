-- What the closing of a stream or a listener reaches is what is kept as pending on it, in order of acceptance.
use Rattle.std.proofs.Common.{arith, ap, refl, subst, sym, ◌∙◌}
use Rattle.std.proofs.lemmas.List.Sums.{sum_by-cons}
use Rattle.std.specs.Prelude.{◌≡◌, ◌≤◌, ◌<◌, ℕ, ◌+◌, ◌==◌, ◌&&◌, not, cond, Bool, true, false, List, [], ◌∷◌, Option, None, Some, length, map, if◌then◌else◌}
use Rattle.std.specs.List.{filter}
use Rattle.io_rules.specs.declared.control.Control.TheVariants as control
use Rattle.io_rules.specs.declared.event.Event.TheVariants as event
use Rattle.io_rules.specs.declared.limits.Limits.{Limits}
use Rattle.io_rules.specs.declared.name.Name.{Name}
use Rattle.io_rules.specs.declared.op.Op.{Op}
use Rattle.io_rules.specs.declared.op.Phase.{Phase}
use Rattle.io_rules.specs.declared.op.Phase.TheVariants as phase
use Rattle.io_rules.specs.declared.request.Marks.{Marks}
use Rattle.io_rules.specs.Cancelling.{is_stream_of, pending_of}
use Rattle.io_rules.specs.Legal.{MayHappen}
use Rattle.io_rules.specs.Names.{is_alive, same_name}
use Rattle.io_rules.specs.Operations.{Target, target_of}
use Rattle.io_rules.specs.Ops.{is_pending, op_at}
use Rattle.io_rules.specs.Room.{one_if}
use Rattle.io_rules.specs.State.{ContextState, stream_at}
use Rattle.io_rules.proofs.RiseLemmas.{Rises}
use Rattle.io_rules.proofs.StrandLemmas.{by_test}
use Rattle.io_rules.proofs.TotalLemmas.{each-at, equal, number-op_at}
use Rattle.io_queues.specs.Ordered as queues
use Rattle.io_streams.specs.declared.pending.PendingOp.{PendingOp}
use Rattle.io_streams.specs.Pending.{Entry, StreamList, is_of, op_of}
use Rattle.io_timers.specs.declared.pending.PendingWait.{PendingWait}
use Rattle.io_timers.specs.Kept as timed
use Rattle.io_timers.specs.Kept.{Each}
use Rattle.io_timers.specs.Pending as waiting
use Rattle.io_scheduler.specs.declared.streaming.Streaming.{Streaming}
use Rattle.io_scheduler.specs.declared.waiting.Waiting.{Waiting}
use Rattle.io_scheduler.specs.Closing.{numbers_of}
use Rattle.io_scheduler.specs.Opened.{socket_kind}
use Rattle.io_scheduler.specs.Outside.{IsOutside}
use Rattle.io_scheduler.specs.Streams.{AreStreaming, ShowsStreams}
use Rattle.io_scheduler.specs.Waits.{ArePending, ShowsWaits, incomplete_in, is_incomplete}
use Rattle.io_scheduler.proofs.OnItLemmas.{Up, no_on, on_it, up_filter, yes_on}

pub may_close : (s : ContextState) (name : Name) (listener : Bool) → s.finishing ≡ false →
    is_alive s.names.streams name ≡ true → (stream_at s.streams name).listener ≡ listener →
    MayHappen s (event.Changed None (control.Free (socket_kind listener) name))
may_close s name true going alive is = record {
  going = going;
  caller = tt;
  allowed = ap (λ b. b && (stream_at s.streams name).listener) alive ∙ is;
}
may_close s name false going alive is = record {
  going = going;
  caller = tt;
  allowed = ap (λ b. b && not (stream_at s.streams name).listener) alive ∙ ap not is;
}

pub outside_closed : (listener : Bool) (name : Name) →
    IsOutside (event.Changed None (control.Free (socket_kind listener) name))
outside_closed listener name = record { nobody = refl; no_begin = λ begins. begins }

-- ---- numbers of operations that pass a test

record Passing (test : Op → Bool) (ops : List Op) (n : ℕ) : Type 0 where
  op : Op
  is : op_at ops n ≡ Some op
  passes : test op ≡ true

some_is : {X : Type 0} (a b : X) → Some a ≡ Some b → a ≡ b
some_is a b is = cc

at_yes : (x : Op) (ops : List Op) (n : ℕ) → (x.number == n) ≡ true → op_at (x ∷ ops) n ≡ Some x
at_yes x ops n is = ap (λ b. if b then Some x else op_at ops n) is

at_no : (x : Op) (ops : List Op) (n : ℕ) → (x.number == n) ≡ false → op_at (x ∷ ops) n ≡ op_at ops n
at_no x ops n is = ap (λ b. if b then Some x else op_at ops n) is

yes_if : (test : Op → Bool) (x : Op) (ops : List Op) → test x ≡ true → filter test (x ∷ ops) ≡ x ∷ filter test ops
yes_if test x ops is = ap (λ b. cond b (x ∷ filter test ops) (filter test ops)) is

no_if : (test : Op → Bool) (x : Op) (ops : List Op) → test x ≡ false → filter test (x ∷ ops) ≡ filter test ops
no_if test x ops is = ap (λ b. cond b (x ∷ filter test ops) (filter test ops)) is

differs : (a b : ℕ) → a < b → (a == b) ≡ false
differs a b less = by_test (a == b) (λ is. let same = equal a b is in absurd (omega (arith, less, same))) (λ isnt. isnt)

behind_all : (test : Op → Bool) (x : Op) (ops : List Op) (numbers : List ℕ) → Each (λ m. x.number < m) numbers →
    Each (Passing test (x ∷ ops)) numbers → Each (Passing test ops) numbers
behind_all test x ops [] above all = tt
behind_all test x ops (m ∷ numbers) above all = (
  record {
    op = all.0.op;
    is = sym (at_no x ops m (differs x.number m above.0)) ∙ all.0.is;
    passes = all.0.passes;
  },
  behind_all test x ops numbers above.1 all.1,
)

above_more : (a b : ℕ) (numbers : List ℕ) → a < b → Each (λ m. b < m) numbers → Each (λ m. a < m) numbers
above_more a b [] less all = tt
above_more a b (m ∷ numbers) less all = let more = all.0 in (omega (arith, less, more), above_more a b numbers less all.1)

none_long : {X : Type 0} (xs : List X) → length xs ≤ 0 → xs ≡ []
none_long [] le = refl
none_long (x ∷ xs) le = absurd (omega (arith, le))

-- they are among these, and all of them where these are no more
record Among (test : Op → Bool) (ops : List Op) (numbers : List ℕ) : Type 0 where
  few : length numbers ≤ length (filter test ops)
  all : length (filter test ops) ≤ length numbers → map (λ (op : Op). op.number) (filter test ops) ≡ numbers

among : (test : Op → Bool) (ops : List Op) (numbers : List ℕ) → Rises ops → Up numbers → Each (Passing test ops) numbers →
    Among test ops numbers
among test ops [] rises up found = record {
  few = omega arith;
  all = λ le. ap (map (λ (op : Op). op.number)) (none_long (filter test ops) le);
}
among test [] (n ∷ numbers) rises up found = absurd (nothing found.0.op found.0.is)
  where
    nothing : (op : Op) → None ≡ Some op → ⊥
    nothing op is = cc
among test (x ∷ ops) (n ∷ numbers) rises up found =
    by_test (x.number == n)
    (λ here.
    let at : x.number ≡ n = equal x.number n here in
    let it : x ≡ found.0.op = some_is x found.0.op (sym (at_yes x ops n here) ∙ found.0.is) in
    let yes = yes_if test x ops (ap test it ∙ found.0.passes) in
    let rest = among test ops numbers rises.1 up.1
    (behind_all test x ops numbers (subst (λ k. Each (λ m. k < m) numbers) (sym at) up.0) found.1) in
    let few = rest.few in let long = ap length yes in
    record {
      few = omega (arith, few, long);
      all = λ le.
          ap (map (λ (op : Op). op.number)) yes
          ∙ ap (λ k. k ∷ map (λ (op : Op). op.number) (filter test ops)) at
          ∙ ap (λ l. n ∷ l) (rest.all (omega (arith, le, long)));
    })
    (λ other.
    let less = each-at (λ k on. x.number < k) n ops found.0.op rises.0 (sym (at_no x ops n other) ∙ found.0.is) in
    let number = number-op_at n ops found.0.op (sym (at_no x ops n other) ∙ found.0.is) in
    let before : x.number < n = omega (arith, less, number) in
    let rest = among test ops (n ∷ numbers) rises.1 up
    (behind_all test x ops (n ∷ numbers) (before, above_more x.number n numbers before up.0) found) in
    let few = rest.few in
    by_test (test x)
    (λ yes.
    let long = ap length (yes_if test x ops yes) in
    record { few = omega (arith, few, long); all = λ le. absurd (omega (arith, few, long, le)) })
    (λ no.
    let same = no_if test x ops no in let long = ap length same in
    record {
      few = omega (arith, few, long);
      all = λ le. ap (map (λ (op : Op). op.number)) same ∙ rest.all (omega (arith, le, long));
    }))

-- ---- what hasn't completed: a wait, an operation of this stream, or of another

abbrev is_on_other : Name → Option Target → Bool
is_on_other name None = false
is_on_other name (Some target) = not (same_name target.stream name)

abbrev is_on_none : Option Target → Bool
is_on_none None = true
is_on_none (Some target) = false

abbrev of_this : Name → Op → Bool
of_this name op = is_pending op.phase && is_stream_of name (target_of op.kind)

abbrev of_other : Name → Op → Bool
of_other name op = is_pending op.phase && is_on_other name (target_of op.kind)

abbrev of_none : Op → Bool
of_none op = is_pending op.phase && is_on_none (target_of op.kind)

abbrev Shares : Bool → Name → Option Target → ℕ
Shares p name t = one_if (p && is_stream_of name t) + one_if (p && is_on_other name t) + one_if (p && is_on_none t)

shares_one : (name : Name) (t : Option Target) → Shares true name t ≡ 1
shares_one name None = refl
shares_one name (Some target) = by_name (same_name target.stream name)
  where
    by_name : (b : Bool) → one_if b + one_if (not b) + 0 ≡ 1
    by_name true = refl
    by_name false = refl

shares_phase : (p : Phase) (name : Name) (t : Option Target) → Shares (is_pending p) name t ≤ one_if (is_incomplete p)
shares_phase (phase.Pending m c) name t = let one = shares_one name t in omega (arith, one)
shares_phase (phase.Settled given size) name t = omega arith
shares_phase (phase.Ready given size) name t = omega arith
shares_phase (phase.Running own grant spares) name t = omega arith

long_if : (test : Op → Bool) (x : Op) (ops : List Op) →
    length (filter test (x ∷ ops)) ≡ one_if (test x) + length (filter test ops)
long_if test x ops = by_pass (test x)
  where
    by_pass : (b : Bool) → length (cond b (x ∷ filter test ops) (filter test ops)) ≡ one_if b + length (filter test ops)
    by_pass true = omega arith
    by_pass false = omega arith

counted : (name : Name) (ops : List Op) →
    length (filter (of_this name) ops) + length (filter (of_other name) ops) + length (filter of_none ops) ≤ incomplete_in ops
counted name [] = omega arith
counted name (x ∷ ops) =
    let rest = counted name ops in
    let one = long_if (of_this name) x ops in let other = long_if (of_other name) x ops in let none = long_if of_none x ops in
    let here = shares_phase x.phase name (target_of x.kind) in
    let sum = sum_by-cons (λ (op : Op). one_if (is_incomplete op.phase)) x ops in
    omega (arith, rest, one, other, none, here, sum)

-- ---- what is kept of them

up_waits : {T : Type 0} (ws : List (waiting.Entry (PendingWait T))) → timed.Rises ws → Up (map waiting.number_of ws)
up_waits [] rises = tt
up_waits (w ∷ ws) rises = (above (waiting.number_of w) ws rises.0, up_waits ws rises.1)
  where
    above : {T : Type 0} (n : ℕ) (ys : List (waiting.Entry (PendingWait T))) → Each (λ y. n < waiting.number_of y) ys →
        Each (λ m. n < m) (map waiting.number_of ys)
    above n [] all = tt
    above n (y ∷ ys) all = (all.0, above n ys all.1)

these_pass : {H : Type 0} (marks : H → Marks) (ops : List Op) (name : Name) (xs : List (Entry (PendingOp (Streaming H)))) →
    AreStreaming marks ops xs → Each (Passing (of_this name) ops) (numbers_of (on_it name xs))
these_pass marks ops name [] all = tt
these_pass marks ops name (x ∷ xs) all =
    by_test (is_of name x)
    (λ yes.
    let it = all.0 in
    subst (λ l. Each (Passing (of_this name) ops) (numbers_of l)) (sym (yes_on name x xs yes)) (
      record {
        op = it.op;
        is = it.is;
        passes =
            ap (λ b. b && is_stream_of name (target_of it.op.kind)) (ap is_pending it.phase)
            ∙ ap (is_stream_of name) (ap target_of it.kind ∙ it.target) ∙ yes;
      },
      these_pass marks ops name xs all.1,
    ))
    (λ other.
    subst (λ l. Each (Passing (of_this name) ops) (numbers_of l)) (sym (no_on name x xs other))
    (these_pass marks ops name xs all.1))

abbrev off_it : {T : Type 0} → Name → List (Entry (PendingOp T)) → List (Entry (PendingOp T))
off_it name xs = filter (λ x. not (is_of name x)) xs

others_pass : {H : Type 0} (marks : H → Marks) (ops : List Op) (name : Name) (xs : List (Entry (PendingOp (Streaming H)))) →
    AreStreaming marks ops xs → Each (Passing (of_other name) ops) (numbers_of (off_it name xs))
others_pass marks ops name [] all = tt
others_pass marks ops name (x ∷ xs) all =
    by_test (is_of name x)
    (λ yes.
    subst (λ l. Each (Passing (of_other name) ops) (numbers_of l))
    (sym (ap (λ b. cond (not b) (x ∷ off_it name xs) (off_it name xs)) yes)) (others_pass marks ops name xs all.1))
    (λ other.
    let it = all.0 in
    subst (λ l. Each (Passing (of_other name) ops) (numbers_of l))
    (sym (ap (λ b. cond (not b) (x ∷ off_it name xs) (off_it name xs)) other)) (
      record {
        op = it.op;
        is = it.is;
        passes =
            ap (λ b. b && is_on_other name (target_of it.op.kind)) (ap is_pending it.phase)
            ∙ ap (is_on_other name) (ap target_of it.kind ∙ it.target) ∙ ap not other;
      },
      others_pass marks ops name xs all.1,
    ))

waits_pass : {H : Type 0} (marks : H → Marks) (ops : List Op) (ws : List (waiting.Entry (PendingWait (Waiting H)))) →
    ArePending marks ops ws → Each (Passing of_none ops) (map waiting.number_of ws)
waits_pass marks ops [] all = tt
waits_pass marks ops (w ∷ ws) all = (
  record {
    op = all.0.op;
    is = all.0.is;
    passes =
        ap (λ b. b && is_on_none (target_of all.0.op.kind)) (ap is_pending all.0.phase)
        ∙ ap (λ k. is_on_none (target_of k)) all.0.kind;
  },
  waits_pass marks ops ws all.1,
)

both_long : {T : Type 0} (name : Name) (xs : List (Entry (PendingOp T))) →
    length (numbers_of (on_it name xs)) + length (numbers_of (off_it name xs)) ≡ length xs
both_long name [] = refl
both_long name (x ∷ xs) =
    let rest = both_long name xs in by_name (is_of name x) rest
  where
    by_name : (b : Bool) →
        length (numbers_of (on_it name xs)) + length (numbers_of (off_it name xs)) ≡ length xs →
        length (numbers_of (cond b (x ∷ on_it name xs) (on_it name xs)))
        + length (numbers_of (cond (not b) (x ∷ off_it name xs) (off_it name xs))) ≡ length (x ∷ xs)
    by_name true rest = omega (arith, rest)
    by_name false rest = omega (arith, rest)

waits_long : {T : Type 0} (ws : List (waiting.Entry (PendingWait T))) → length (map waiting.number_of ws) ≡ length ws
waits_long [] = refl
waits_long (w ∷ ws) = let rest = waits_long ws in omega (arith, rest)

pub reached_are : {H : Type 0} (marks : H → Marks) (limits : Limits) (timers : waiting.Timers (Waiting H))
    (streams : StreamList (Streaming H)) (s : ContextState) (name : Name) → Rises s.ops → queues.Rises op_of streams.ops →
    ShowsWaits marks limits timers s → ShowsStreams marks limits streams s →
    pending_of name s ≡ numbers_of (on_it name streams.ops)
reached_are marks limits timers streams s name rises rising waits shows =
    let these = among (of_this name) s.ops (numbers_of (on_it name streams.ops)) rises (up_filter (is_of name) streams.ops rising)
    (these_pass marks s.ops name streams.ops shows.each) in
    let others = among (of_other name) s.ops (numbers_of (off_it name streams.ops)) rises
    (up_filter (λ x. not (is_of name x)) streams.ops rising) (others_pass marks s.ops name streams.ops shows.each) in
    let none = among of_none s.ops (map waiting.number_of timers.waits) rises (up_waits timers.waits waits.rises)
    (waits_pass marks s.ops timers.waits waits.each) in
    let count = counted name s.ops in let all = waits.all in let kept = shows.all in
    let many = both_long name streams.ops in let wait = waits_long timers.waits in
    let a = others.few in let b = none.few in
    these.all (omega (arith, count, all, kept, many, wait, a, b))
