-- What is left of a queue from which an operation was cancelled.
use Rattle.std.proofs.Common.{◌≡◌, ℕ, ◌+◌, ◌-◌, ◌≤◌, Bool, true, false, cond, not, List, [], ◌∷◌, ◌++◌, length, map, filter, suc, refl, ap, ◌∙◌, arith}
use Rattle.std.specs.List.{All}
use Rattle.std.proofs.lemmas.List.{length-append}
use Rattle.stream_rules.specs.declared.queue.Completion.{Completion}
use Rattle.stream_rules.specs.Queue.{Pending}
use Rattle.stream_rules.specs.Serving.{Reading, Writing}
use Rattle.history_rules.specs.Performing.{all_aborted, is_of}
use Rattle.proactor_core.specs.declared.pending.PendingOp.{PendingOp}
use Rattle.proactor_core.specs.Aborting.{abort_of_pending, is_pending_op}
use Rattle.proactor_core.specs.Due.{Due, listed}
use Rattle.proactor_core.specs.Held.{HeldBytes}
use Rattle.proactor_core.specs.Pending.{pending_read, pending_write, progress_in, AreReads, IsNewRead}
use Rattle.proactor_core.specs.Streams.{StreamView}
use Rattle.proactor_core.proofs.QueueLemmas.{all-cons, reads-behind}

-- these came to what is due
pub due-listed : (old new : Due) (completed : List Completion) → new.coming ≡ old.coming ++ completed →
    new.spare + length new.coming ≡ old.spare + length old.coming → new ≡ listed completed old
due-listed old new completed is room =
    let due = λ (coming : List Completion) (spare : ℕ). let d : Due = record { coming = coming; spare = spare } in d in
    let count : new.spare ≡ old.spare - length completed =
    omega (arith, ap length is, length-append old.coming completed) in
    ap (λ coming. due coming new.spare) is ∙ ap (λ spare. due (old.coming ++ completed) spare) count

-- an operation that is kept or not, as the rules of streams see it
seen-step : {Asks : Type 0} (see : PendingOp → Pending Asks) (x : PendingOp) (stays : Bool) (xs : List PendingOp)
    (rest : List (Pending Asks)) → rest ≡ map see xs →
    cond stays (see x ∷ rest) rest ≡ map see (cond stays (x ∷ xs) xs)
seen-step see x true xs rest e = ap (λ r. see x ∷ r) e
seen-step see x false xs rest e = e

pub reads-left : (op : ℕ) (xs : List PendingOp) →
    filter (λ pending. not (is_of op pending)) (map pending_read xs)
    ≡ map pending_read (filter (λ pending. not (is_pending_op op pending)) xs)
reads-left op [] = refl
reads-left op (x ∷ xs) =
    seen-step pending_read x (not (is_pending_op op x)) (filter (λ pending. not (is_pending_op op pending)) xs)
    (filter (λ pending. not (is_of op pending)) (map pending_read xs)) (reads-left op xs)

pub writes-left : (op : ℕ) (xs : List PendingOp) →
    filter (λ pending. not (is_of op pending)) (map pending_write xs)
    ≡ map pending_write (filter (λ pending. not (is_pending_op op pending)) xs)
writes-left op [] = refl
writes-left op (x ∷ xs) =
    seen-step pending_write x (not (is_pending_op op x)) (filter (λ pending. not (is_pending_op op pending)) xs)
    (filter (λ pending. not (is_of op pending)) (map pending_write xs)) (writes-left op xs)

aborts-step : {Asks : Type 0} (p : Pending Asks) (c : Completion) (x : PendingOp) (goes : Bool) (xs : List PendingOp)
    (rest : List (Pending Asks)) → all_aborted (p ∷ []) ≡ c ∷ [] → c ≡ abort_of_pending x →
    all_aborted rest ≡ map abort_of_pending xs →
    all_aborted (cond goes (p ∷ rest) rest) ≡ map abort_of_pending (cond goes (x ∷ xs) xs)
aborts-step p c x true xs rest one same e = cc
aborts-step p c x false xs rest one same e = e

pub reads-aborted : (op : ℕ) (xs : List PendingOp) →
    all_aborted (filter (is_of op) (map pending_read xs)) ≡ map abort_of_pending (filter (is_pending_op op) xs)
reads-aborted op [] = refl
reads-aborted op (x ∷ xs) =
    aborts-step (pending_read x) (abort_of_pending x) x (is_pending_op op x) (filter (is_pending_op op) xs)
    (filter (is_of op) (map pending_read xs)) refl refl (reads-aborted op xs)

pub writes-aborted : (op : ℕ) (xs : List PendingOp) →
    all_aborted (filter (is_of op) (map pending_write xs)) ≡ map abort_of_pending (filter (is_pending_op op) xs)
writes-aborted op [] = refl
writes-aborted op (x ∷ xs) =
    aborts-step (pending_write x) (abort_of_pending x) x (is_pending_op op x) (filter (is_pending_op op) xs)
    (filter (is_of op) (map pending_write xs)) refl refl (writes-aborted op xs)

fewer-step : (x : PendingOp) (goes : Bool) (xs all : List PendingOp) → length (map abort_of_pending xs) ≤ length all →
    length (map abort_of_pending (cond goes (x ∷ xs) xs)) ≤ length (x ∷ all)
fewer-step x true xs all e = omega arith
fewer-step x false xs all e = omega arith

-- no more than the queue holds are cancelled
pub aborts-fewer : (op : ℕ) (xs : List PendingOp) →
    length (map abort_of_pending (filter (is_pending_op op) xs)) ≤ length xs
aborts-fewer op [] = omega arith
aborts-fewer op (x ∷ xs) = fewer-step x (is_pending_op op x) (filter (is_pending_op op) xs) xs (aborts-fewer op xs)

all-kept : {X : Type 0} (P : X → Type 0) (x : X) (xs : List X) (stays : Bool) → P x → All P xs →
    All P (cond stays (x ∷ xs) xs)
all-kept P x xs true px all = all-cons P x xs px all
all-kept P x xs false px all = all

pub all-filtered : {X : Type 0} (P : X → Type 0) (test : X → Bool) (xs : List X) → All P xs → All P (filter test xs)
all-filtered P test [] all = all
all-filtered P test (x ∷ xs) all =
    all-kept P x (filter test xs) (test x) (all 0 x (omega arith))
    (all-filtered P test xs (λ k d within. all (suc k) d (omega arith)))

reads-kept : (buffer : ℕ) (held : HeldBytes) (head : PendingOp) (queue rest : List PendingOp) (stays : Bool) →
    AreReads buffer held (head ∷ queue) → All (λ pending. IsNewRead buffer held.room (progress_in pending)) rest →
    AreReads buffer held (cond stays (head ∷ rest) rest)
reads-kept buffer held head queue rest true reads new = (reads.0, new)
reads-kept buffer held head queue rest false reads new = reads-behind buffer held rest new

pub reads-filtered : (buffer : ℕ) (held : HeldBytes) (test : PendingOp → Bool) (queue : List PendingOp) →
    AreReads buffer held queue → AreReads buffer held (filter test queue)
reads-filtered buffer held test [] reads = reads
reads-filtered buffer held test (head ∷ queue) reads =
    reads-kept buffer held head queue (filter test queue) (test head) reads
    (all-filtered (λ pending. IsNewRead buffer held.room (progress_in pending)) test queue reads.1)

pub joined-same : (first later other further : List Completion) → first ≡ other → later ≡ further →
    first ++ later ≡ other ++ further
joined-same first later other further e f = rw (e, f)

-- a stream of which the queues changed alone
pub view-changed : (view : StreamView) (reads r : List (Pending Reading)) (writes w : List (Pending Writing))
    (reads_room n writes_room m : ℕ) → r ≡ reads → w ≡ writes → n ≡ reads_room → m ≡ writes_room →
    (let one : StreamView = record view { reads = r; writes = w; reads_room = n; writes_room = m } in
    let two : StreamView = record view {
      reads = reads;
      writes = writes;
      reads_room = reads_room;
      writes_room = writes_room;
    } in
    one ≡ two)
view-changed view reads r writes w reads_room n writes_room m = λ e f g h. rw (e, f, g, h)
