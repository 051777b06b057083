-- What is pending on streams is taken out, one after another, as operations with their handlers.
use Rattle.std.proofs.Common.{arith, ap, refl, subst, sym, ◌∙◌}
use Rattle.std.proofs.lemmas.List.{append-nil}
use Rattle.std.proofs.lemmas.List.Elements.{All-cons, All-nil}
use Rattle.std.proofs.lemmas.List.Sorted.{IsPermutation-cons, IsPermutation-middle, IsPermutation-pop_more, IsPermutation-refl, IsPermutation-trans}
use Rattle.std.specs.Prelude.{◌≡◌, ◌<◌, ◌≤◌, ℕ, ◌+◌, ◌==◌, cond, not, Bool, true, List, [], ◌∷◌, ◌++◌, None, Some, length}
use Rattle.std.specs.List.{All, filter}
use Rattle.std.specs.List.Sorted.{IsPermutation}
use Rattle.io_rules.specs.declared.op.Op.{Op}
use Rattle.io_rules.specs.declared.request.Marks.{Marks}
use Rattle.io_rules.specs.Ops.{op_at}
use Rattle.io_rules.specs.Room.{one_if}
use Rattle.io_rules.proofs.StageLemmas.{stage_of, staged}
use Rattle.io_rules.proofs.StrandLemmas.{by_test}
use Rattle.io_rules.proofs.TotalLemmas.{equal}
use Rattle.io_strands.specs.declared.ready.ReadyOp.{ReadyOp}
use Rattle.io_streams.specs.declared.pending.PendingOp.{PendingOp}
use Rattle.io_queues.specs.Ordered.{Each, Rises}
use Rattle.io_streams.specs.Pending.{Entry, is_other, number_of, numbered_in, op_of}
use Rattle.io_queues.proofs.FoundLemmas.{apart_test}
use Rattle.io_queues.proofs.OrderLemmas.{each-filter, each-weaker, filter-all}
use Rattle.io_scheduler.specs.declared.streaming.Streaming.{Streaming}
use Rattle.io_scheduler.specs.Left.{op_left, ops_left}
use Rattle.io_scheduler.specs.Streams.{AreStreaming, IsStreamingAs}
use Rattle.io_scheduler.proofs.EntryLemmas.{IsEntry, IsIn, IsOnce, many}
use Rattle.io_scheduler.proofs.IdleLemmas.{idles}

some_is : {X : Type 0} (x y : X) → Some x ≡ Some y → x ≡ y
some_is x y is = cc

none_is : {X : Type 0} (x : X) → None ≡ Some x → ⊥
none_is x is = cc

-- exactly one leaves
pub fewer_ops : {H : Type 0} (n : ℕ) (it : PendingOp (Streaming H)) (pending : List (Entry (PendingOp (Streaming H)))) →
    Rises op_of pending → numbered_in n pending ≡ Some it → length (filter (is_other n) pending) + 1 ≡ length pending
fewer_ops n it [] rises is = absurd (none_is it is)
fewer_ops n it (x ∷ pending) rises is =
    by_test (x.item.op == n)
    (λ here.
    let at : x.item.op ≡ n = equal x.item.op n here in
    let rest : filter (is_other n) pending ≡ pending =
    filter-all (is_other n) pending
    (each-weaker (λ other. number_of x < number_of other) (λ other. is_other n other ≡ true) pending
    (λ other less. ap not (apart_test (number_of other) n (λ e. omega (arith, less, at, e)))) rises.0) in
    let now = ap (λ b. length (cond (not b) (x ∷ filter (is_other n) pending) (filter (is_other n) pending))) here
    ∙ ap length rest in
    omega (arith, now))
    (λ other.
    let rest = fewer_ops n it pending rises.1
    (sym (ap (λ b. cond b (Some x.item) (numbered_in n pending)) other) ∙ is) in
    let now = ap (λ b. length (cond (not b) (x ∷ filter (is_other n) pending) (filter (is_other n) pending))) other in
    omega (arith, now, rest))

pub fewer_streams : {H : Type 0} (n : ℕ) (it : PendingOp (Streaming H)) (pending : List (Entry (PendingOp (Streaming H)))) →
    Rises op_of pending → numbered_in n pending ≡ Some it → length (filter (is_other n) pending) < length pending
fewer_streams n it pending rises is = let one = fewer_ops n it pending rises is in omega (arith, one)

rises-filter : {H : Type 0} (p : Entry (PendingOp (Streaming H)) → Bool) (pending : List (Entry (PendingOp (Streaming H)))) →
    Rises op_of pending → Rises op_of (filter p pending)
rises-filter p [] rises = tt
rises-filter p (x ∷ pending) rises =
    by_test (p x)
    (λ is.
    subst (Rises op_of) (sym (ap (λ b. cond b (x ∷ filter p pending) (filter p pending)) is)) (
      each-filter (λ other. number_of x < number_of other) p pending rises.0,
      rises-filter p pending rises.1,
    ))
    (λ is.
    subst (Rises op_of) (sym (ap (λ b. cond b (x ∷ filter p pending) (filter p pending)) is)) (rises-filter p pending rises.1))

-- each is an operation that hasn't completed
pub streams_in : {H : Type 0} (marks : H → Marks) (w : Op → ℕ) (ops : List Op)
    (pending : List (Entry (PendingOp (Streaming H)))) → ((op : Op) → staged idles op ≡ 1 → w op ≡ 1) →
    AreStreaming marks ops pending → All (IsIn w ops) (ops_left pending)
streams_in marks w ops [] counts all = All-nil (IsIn w ops)
streams_in marks w ops (x ∷ pending) counts all =
    All-cons (IsIn w ops) (op_left x.item) (ops_left pending)
    (record {
      op = all.0.op;
      is = all.0.is;
      one = counts all.0.op (ap (λ p. idles 0 all.0.op.lane (stage_of p)) all.0.phase);
    })
    (streams_in marks w ops pending counts all.1)

pub streams_entries : {H : Type 0} (marks : H → Marks) (ops : List Op) (pending : List (Entry (PendingOp (Streaming H)))) →
    AreStreaming marks ops pending → All (IsEntry marks ops) (ops_left pending)
streams_entries marks ops [] all = All-nil (IsEntry marks ops)
streams_entries marks ops (x ∷ pending) all =
    All-cons (IsEntry marks ops) (op_left x.item) (ops_left pending)
    (record { op = all.0.op; is = all.0.is; given = all.0.given }) (streams_entries marks ops pending all.1)

many_above : {H : Type 0} (n : ℕ) (pending : List (Entry (PendingOp (Streaming H)))) →
    Each (λ it. n < number_of it) pending → many n (ops_left pending) ≡ 0
many_above n [] above = refl
many_above n (x ∷ pending) above =
    let lt = above.0 in
    let none = ap one_if (apart_test (number_of x) n (λ e. omega (arith, lt, e))) in
    let rest = many_above n pending above.1 in
    omega (arith, none, rest)

pub streams_once : {H : Type 0} (pending : List (Entry (PendingOp (Streaming H)))) → Rises op_of pending → IsOnce (ops_left pending)
streams_once [] rises n = omega arith
streams_once (x ∷ pending) rises n =
    by_test (x.item.op == n)
    (λ here.
    let one = ap one_if here in
    let at = equal x.item.op n here in
    let none = many_above n pending
    (each-weaker (λ it. number_of x < number_of it) (λ it. n < number_of it) pending
    (λ it less. omega (arith, less, at)) rises.0) in
    omega (arith, one, none))
    (λ other. let one = ap one_if other in let rest = streams_once pending rises.1 n in omega (arith, one, rest))

-- a number that none of them may have
streams_unless : {H : Type 0} (marks : H → Marks) (ops : List Op) (n : ℕ)
    (pending : List (Entry (PendingOp (Streaming H)))) →
    ((it : PendingOp (Streaming H)) → IsStreamingAs marks ops it → it.op ≡ n → ⊥) → AreStreaming marks ops pending →
    many n (ops_left pending) ≡ 0
streams_unless marks ops n [] unless all = refl
streams_unless marks ops n (x ∷ pending) unless all =
    let rest = streams_unless marks ops n pending unless all.1 in
    by_test (x.item.op == n)
    (λ here. absurd (unless x.item all.0 (equal x.item.op n here)))
    (λ other. let one = ap one_if other in omega (arith, one, rest))

-- that of no operation
pub streams_absent : {H : Type 0} (marks : H → Marks) (ops : List Op) (n : ℕ)
    (pending : List (Entry (PendingOp (Streaming H)))) → op_at ops n ≡ None → AreStreaming marks ops pending →
    many n (ops_left pending) ≡ 0
streams_absent marks ops n pending none all =
    streams_unless marks ops n pending (λ it is here. none_is is.op (sym none ∙ ap (op_at ops) (sym here) ∙ is.is)) all

-- or of one that differs from them
pub streams_unlike : {H : Type 0} (marks : H → Marks) (ops : List Op) (n : ℕ) (it : Op)
    (pending : List (Entry (PendingOp (Streaming H)))) → op_at ops n ≡ Some it →
    ((op : PendingOp (Streaming H)) (known : IsStreamingAs marks ops op) → known.op ≡ it → ⊥) →
    AreStreaming marks ops pending → many n (ops_left pending) ≡ 0
streams_unlike marks ops n it pending is unlike all =
    streams_unless marks ops n pending
    (λ op known here. unlike op known (some_is known.op it (sym known.is ∙ ap (op_at ops) here ∙ is))) all

-- one is taken out
op_out : {H : Type 0} (n : ℕ) (it : PendingOp (Streaming H)) (pending : List (Entry (PendingOp (Streaming H)))) →
    Rises op_of pending → numbered_in n pending ≡ Some it →
    IsPermutation (ops_left pending) (op_left it ∷ ops_left (filter (is_other n) pending))
op_out n it [] rises is = absurd (none_is it is)
op_out n it (x ∷ pending) rises is =
    by_test (x.item.op == n)
    (λ here.
    let at : x.item.op ≡ n = equal x.item.op n here in
    let item : x.item ≡ it = some_is x.item it (sym (ap (λ b. cond b (Some x.item) (numbered_in n pending)) here) ∙ is) in
    let rest : filter (is_other n) (x ∷ pending) ≡ pending =
    ap (λ b. cond (not b) (x ∷ filter (is_other n) pending) (filter (is_other n) pending)) here
    ∙ filter-all (is_other n) pending
    (each-weaker (λ other. number_of x < number_of other) (λ other. is_other n other ≡ true) pending
    (λ other less. ap not (apart_test (number_of other) n (λ e. omega (arith, less, at, e)))) rises.0) in
    subst (λ (w : PendingOp _). IsPermutation (ops_left (x ∷ pending))
    (op_left w ∷ ops_left (filter (is_other n) (x ∷ pending)))) item
    (subst (λ ys. IsPermutation (ops_left (x ∷ pending)) (op_left x.item ∷ ops_left ys)) (sym rest)
    (IsPermutation-refl (ops_left (x ∷ pending)))))
    (λ other.
    let later = op_out n it pending rises.1 (sym (ap (λ b. cond b (Some x.item) (numbered_in n pending)) other) ∙ is) in
    let left = filter (is_other n) pending in
    subst (λ ys. IsPermutation (ops_left (x ∷ pending)) (op_left it ∷ ops_left ys))
    (sym (ap (λ b. cond (not b) (x ∷ left) left) other))
    (IsPermutation-trans (ops_left (x ∷ pending)) (op_left x.item ∷ op_left it ∷ ops_left left)
    (op_left it ∷ op_left x.item ∷ ops_left left)
    (IsPermutation-cons (op_left x.item) (ops_left pending) (op_left it ∷ ops_left left) later)
    (IsPermutation-middle (op_left x.item ∷ []) (op_left it) (ops_left left))))

-- what is taken out so far, and what is left
pub record StreamsOut {H : Type 0} (room : ℕ) (all left : List (ReadyOp H)) (pending : List (Entry (PendingOp (Streaming H)))) :
    Type 0 where
  pub moved : IsPermutation all (left ++ ops_left pending)
  pub room_left : length left + length pending ≤ room
  pub rises : Rises op_of pending

pub streams_more : {H : Type 0} (room : ℕ) (all left : List (ReadyOp H)) (pending : List (Entry (PendingOp (Streaming H))))
    (it : PendingOp (Streaming H)) → numbered_in it.op pending ≡ Some it → StreamsOut room all left pending →
    length (left ++ op_left it ∷ []) ≡ length left + 1 →
    StreamsOut room all (left ++ op_left it ∷ []) (filter (is_other it.op) pending)
streams_more room all left pending it is out longer =
    let less = fewer_ops it.op it pending out.rises is in let le = out.room_left in
    record {
      moved = IsPermutation-pop_more all left (ops_left pending) (ops_left (filter (is_other it.op) pending)) (op_left it)
          out.moved (op_out it.op it pending out.rises is);
      room_left = omega (arith, less, le, longer);
      rises = rises-filter (is_other it.op) pending out.rises;
    }

pub streams_room : {H : Type 0} (room : ℕ) (all left : List (ReadyOp H)) (pending : List (Entry (PendingOp (Streaming H))))
    (it : PendingOp (Streaming H)) → numbered_in it.op pending ≡ Some it → StreamsOut room all left pending →
    length left < room
streams_room room all left pending it is out =
    let less = fewer_ops it.op it pending out.rises is in let le = out.room_left in omega (arith, less, le)

pub streams_out : {H : Type 0} (room : ℕ) (all left : List (ReadyOp H)) (pending : List (Entry (PendingOp (Streaming H)))) →
    pending ≡ [] → StreamsOut room all left pending → IsPermutation all left
streams_out room all left pending none out =
    subst (IsPermutation all) (ap (λ ws. left ++ ops_left ws) none ∙ append-nil left) out.moved
