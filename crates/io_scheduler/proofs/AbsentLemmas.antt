-- The sides of streams by the operations that are pending there: a number that isn't there changes nothing, and the first
-- one is an operation.
use Rattle.std.proofs.Common.{arith, ap, inl, inr, refl, sym, ◌∙◌}
use Rattle.std.proofs.lemmas.Bool.{true≢false}
use Rattle.std.proofs.lemmas.List.{set-get_or}
use Rattle.std.specs.Prelude.{◌≡◌, ◌<◌, ℕ, ◌==◌, cond, not, Bool, true, false, List, [], ◌∷◌, Some, None, filter, map, slice_get}
use Rattle.io_rules.specs.declared.name.Name.{Name}
use Rattle.io_rules.specs.declared.operation.Side.{Side}
use Rattle.io_rules.specs.declared.operation.Side.TheVariants as side
use Rattle.io_rules.specs.Cancelling.{queue_of, same_side}
use Rattle.io_rules.specs.Completing.{others_than, streams_left}
use Rattle.io_rules.specs.Operations.{Target}
use Rattle.io_rules.specs.Serving.{first_of, with_queue}
use Rattle.io_rules.specs.State.{StreamState, new_stream, stream_at, with_stream}
use Rattle.io_rules.proofs.StrandLemmas.{both, by_test}
use Rattle.io_rules.proofs.TotalLemmas.{equal}
use Rattle.io_queues.specs.Ordered.{Each}
use Rattle.io_queues.proofs.FoundLemmas.{IsIn, in-numbered}
use Rattle.io_timers.proofs.FoundLemmas.{apart_test}
use Rattle.io_streams.specs.declared.pending.PendingOp.{PendingOp}
use Rattle.io_streams.specs.Kept.{IsWhole}
use Rattle.io_streams.specs.Pending.{Entry, IsHead, StreamList, is_at, number_of, op_of}
use Rattle.io_scheduler.specs.Streams.{IsPlain}
use Rattle.io_scheduler.proofs.LeavingLemmas.{left_is}

some_is : {X : Type 0} (x y : X) → Some x ≡ Some y → x ≡ y
some_is x y is = cc

none_is : {X : Type 0} (x : X) → None ≡ Some x → ⊥
none_is x is = cc

-- ---- a number above all that are pending

others_all : {T : Type 0} (n : ℕ) (test : Entry (PendingOp T) → Bool) (xs : List (Entry (PendingOp T))) →
    Each (λ it. number_of it < n) xs →
    others_than n (map number_of (filter test xs)) ≡ map number_of (filter test xs)
others_all n test [] below = refl
others_all {T} n test (x ∷ xs) below =
    let rest = filter test xs in
    let parts : Bool → List (Entry (PendingOp T)) = λ b. cond b (x ∷ rest) rest in
    let later = others_all n test xs below.1 in
    let less = below.0 in
    let other : (number_of x == n) ≡ false = apart_test (number_of x) n (λ e. omega (arith, less, e)) in
    by_test (test x)
    (λ is.
    ap (λ b. others_than n (map number_of (parts b))) is
    ∙ ap (λ b. cond (not b) (number_of x ∷ others_than n (map number_of rest)) (others_than n (map number_of rest))) other
    ∙ ap (λ l. number_of x ∷ l) later ∙ sym (ap (λ b. map number_of (parts b)) is))
    (λ is.
    ap (λ b. others_than n (map number_of (parts b))) is ∙ later ∙ sym (ap (λ b. map number_of (parts b)) is))

queue_itself : (on : Side) (stream : StreamState) → with_queue on (queue_of on stream) stream ≡ stream
queue_itself side.Read stream = refl
queue_itself side.Write stream = refl
queue_itself side.Connect stream = refl

-- it leaves all sides as they are
pub absent_left : {T : Type 0} (n : ℕ) (t : Target) (streams : StreamList T) (states : List StreamState) →
    streams.streams ≡ states → IsWhole streams → Each (λ it. number_of it < n) streams.ops →
    IsPlain (stream_at states t.stream) → streams_left n (Some t) states ≡ states
absent_left n t streams states are whole below plain =
    let stream = stream_at states t.stream in
    let queue : queue_of t.side stream ≡ map number_of (filter (is_at t.stream.place t.side) streams.ops) =
    ap (λ xs. queue_of t.side (stream_at xs t.stream)) (sym are) ∙ whole.sides t.stream t.side in
    let same : others_than n (queue_of t.side stream) ≡ queue_of t.side stream =
    ap (others_than n) queue ∙ others_all n (is_at t.stream.place t.side) streams.ops below ∙ sym queue in
    ap (λ st. with_stream t.stream st states)
    (left_is t.side n stream plain.searched ∙ ap (λ q. with_queue t.side q stream) same ∙ queue_itself t.side stream)
    ∙ set-get_or states t.stream.place new_stream

-- ---- the first of a side

pub record Headed {T : Type 0} (test : Entry (PendingOp T) → Bool) (n : ℕ) (xs : List (Entry (PendingOp T))) : Type 0 where
  pub it : Entry (PendingOp T)
  pub there : IsIn it xs
  pub passes : test it ≡ true
  pub number : number_of it ≡ n

pub headed : {T : Type 0} (test : Entry (PendingOp T) → Bool) (n : ℕ) (xs : List (Entry (PendingOp T))) →
    slice_get (map number_of (filter test xs)) 0 ≡ Some n → Headed test n xs
headed test n [] is = absurd (none_is n is)
headed {T} test n (x ∷ xs) is =
    let rest = filter test xs in
    let parts : Bool → List (Entry (PendingOp T)) = λ b. cond b (x ∷ rest) rest in
    by_test (test x)
    (λ here. record {
      it = x;
      there = inl refl;
      passes = here;
      number = some_is (number_of x) n (sym (ap (λ b. slice_get (map number_of (parts b)) 0) here) ∙ is);
    })
    (λ other.
    let later = headed test n xs (sym (ap (λ b. slice_get (map number_of (parts b)) 0) other) ∙ is) in
    record { it = later.it; there = inr later.there; passes = later.passes; number = later.number })

pub sides_equal : (a b : Side) → same_side a b ≡ true → a ≡ b
sides_equal side.Read side.Read is = refl
sides_equal side.Write side.Write is = refl
sides_equal side.Connect side.Connect is = refl
sides_equal side.Read side.Write is = absurd (true≢false (sym is))
sides_equal side.Read side.Connect is = absurd (true≢false (sym is))
sides_equal side.Write side.Read is = absurd (true≢false (sym is))
sides_equal side.Write side.Connect is = absurd (true≢false (sym is))
sides_equal side.Connect side.Read is = absurd (true≢false (sym is))
sides_equal side.Connect side.Write is = absurd (true≢false (sym is))

-- the operation with the first number
pub record HasHead {T : Type 0} (name : Name) (on : Side) (streams : StreamList T) (n : ℕ) : Type 0 where
  pub it : PendingOp T
  pub number : it.op ≡ n
  pub head : IsHead name on streams it

pub has_head : {T : Type 0} (name : Name) (on : Side) (streams : StreamList T) (n : ℕ) → IsWhole streams →
    first_of on (stream_at streams.streams name) ≡ Some n → HasHead name on streams n
has_head name on streams n whole first =
    let found = headed (is_at name.place on) n streams.ops
    (sym (ap (λ q. slice_get q 0) (whole.sides name on)) ∙ first) in
    let halves = both (found.it.item.stream.place == name.place) (same_side found.it.item.side on) found.passes in
    record {
      it = found.it.item;
      number = found.number;
      head = record {
        first = first ∙ ap Some (sym found.number);
        numbered = in-numbered op_of found.it streams.ops whole.rises found.there;
        place = equal found.it.item.stream.place name.place halves.one;
        on = sides_equal found.it.item.side on halves.other;
      };
    }
