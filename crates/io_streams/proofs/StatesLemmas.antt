-- What is seen of the streams: what one more operation, one fewer, and another state of a stream make of it.
use Rattle.std.proofs.Common.{◌≡◌, ℕ, zero, suc, ◌+◌, ◌*◌, ◌<◌, List, [], ◌∷◌, length, get_or, set, map, ap, sym, refl, subst, arith}
use Rattle.std.specs.Prelude.{false, None, replicate}
use Rattle.io_rules.specs.declared.operation.Side.{Side}
use Rattle.io_rules.specs.declared.operation.Side.TheVariants as side
use Rattle.io_rules.specs.Cancelling.{queue_of}
use Rattle.io_rules.specs.Serving.{with_queue}
use Rattle.io_rules.specs.State.{StreamState, new_stream}
use Rattle.io_streams.specs.declared.pending.PendingOp.{PendingOp}
use Rattle.io_streams.specs.declared.stream.Stream.{Stream}
use Rattle.io_streams.specs.Kept.{queue_number, state_of, states_of}
use Rattle.io_streams.specs.Pending.{Entry, number_of}

-- what is known of a stream that isn't there
abbrev pub no_stream : Stream
no_stream = record {
  listener = false;
  linked = false;
  held = 0;
  searched = 0;
  out = None;
  reserved = None;
}

-- three queues for each stream
abbrev pub AreThree : {T : Type 0} → List Stream → List (List (Entry (PendingOp T))) → Type 0
AreThree [] [] = Unit {0}
AreThree (s ∷ ss) (r ∷ w ∷ c ∷ qs) = AreThree ss qs
AreThree _ _ = ⊥

pub three : {T : Type 0} (ss : List Stream) (qs : List (List (Entry (PendingOp T)))) → length qs ≡ length ss * 3 →
    AreThree ss qs
three [] [] many = tt
three [] (r ∷ qs) many = absurd (omega (arith, many))
three (s ∷ ss) [] many = absurd (omega (arith, many))
three (s ∷ ss) (r ∷ []) many = absurd (omega (arith, many))
three (s ∷ ss) (r ∷ w ∷ []) many = absurd (omega (arith, many))
three (s ∷ ss) (r ∷ w ∷ c ∷ qs) many = three ss qs (omega (arith, many))

-- ---- the number of a queue

pub number_within : (k n : ℕ) (s : Side) → k < n → queue_number k s < n * 3
number_within zero (suc n) side.Read lt = omega arith
number_within zero (suc n) side.Write lt = omega arith
number_within zero (suc n) side.Connect lt = omega arith
number_within (suc k) (suc n) s lt =
    let rest = number_within k n s (omega (arith, lt)) in omega (arith, rest)
number_within k zero s lt = absurd (omega (arith, lt))

pub number_is : (k : ℕ) → (queue_number k side.Read ≡ k * 3) × (queue_number k side.Write ≡ k * 3 + 1)
    × (queue_number k side.Connect ≡ k * 3 + 2)
number_is zero = (refl, refl, refl)
number_is (suc k) =
    let rest = number_is k in
    let r = rest.0 in let w = rest.1 in let c = rest.2 in
    (omega (arith, r), omega (arith, w), omega (arith, c))

pub number_same : (j k : ℕ) (s t : Side) → queue_number j s ≡ queue_number k t → (j ≡ k) × (s ≡ t)
number_same zero zero side.Read side.Read is = (refl, refl)
number_same zero zero side.Write side.Write is = (refl, refl)
number_same zero zero side.Connect side.Connect is = (refl, refl)
number_same zero zero side.Read side.Write is = absurd (omega (arith, is))
number_same zero zero side.Read side.Connect is = absurd (omega (arith, is))
number_same zero zero side.Write side.Read is = absurd (omega (arith, is))
number_same zero zero side.Write side.Connect is = absurd (omega (arith, is))
number_same zero zero side.Connect side.Read is = absurd (omega (arith, is))
number_same zero zero side.Connect side.Write is = absurd (omega (arith, is))
number_same zero (suc k) side.Read t is = absurd (omega (arith, is))
number_same zero (suc k) side.Write t is = absurd (omega (arith, is))
number_same zero (suc k) side.Connect t is = absurd (omega (arith, is))
number_same (suc j) zero s side.Read is = absurd (omega (arith, is))
number_same (suc j) zero s side.Write is = absurd (omega (arith, is))
number_same (suc j) zero s side.Connect is = absurd (omega (arith, is))
number_same (suc j) (suc k) s t is =
    let rest = number_same j k s t (omega (arith, is)) in (ap suc rest.0, rest.1)

-- ---- all streams

pub states-length : {T : Type 0} (ss : List Stream) (qs : List (List (Entry (PendingOp T)))) → AreThree ss qs →
    length (states_of ss qs) ≡ length ss
states-length [] [] three = refl
states-length [] (q ∷ qs) three = absurd three
states-length (s ∷ ss) [] three = absurd three
states-length (s ∷ ss) (r ∷ []) three = absurd three
states-length (s ∷ ss) (r ∷ w ∷ []) three = absurd three
states-length (s ∷ ss) (r ∷ w ∷ c ∷ qs) three = ap suc (states-length ss qs three)

-- one of them
pub state_is : {T : Type 0} (ss : List Stream) (qs : List (List (Entry (PendingOp T)))) (k : ℕ) → AreThree ss qs →
    get_or (states_of ss qs) k new_stream
    ≡ state_of (get_or ss k no_stream) (get_or qs (queue_number k side.Read) [])
    (get_or qs (queue_number k side.Write) []) (get_or qs (queue_number k side.Connect) [])
state_is [] [] k three = refl
state_is [] (q ∷ qs) k three = absurd three
state_is (s ∷ ss) [] k three = absurd three
state_is (s ∷ ss) (r ∷ []) k three = absurd three
state_is (s ∷ ss) (r ∷ w ∷ []) k three = absurd three
state_is (s ∷ ss) (r ∷ w ∷ c ∷ qs) zero three = refl
state_is (s ∷ ss) (r ∷ w ∷ c ∷ qs) (suc k) three = state_is ss qs k three

pub side_is : {T : Type 0} (ss : List Stream) (qs : List (List (Entry (PendingOp T)))) (k : ℕ) (s : Side) →
    AreThree ss qs →
    queue_of s (get_or (states_of ss qs) k new_stream) ≡ map number_of (get_or qs (queue_number k s) [])
side_is ss qs k side.Read three = ap (λ (s : StreamState). s.reads) (state_is ss qs k three)
side_is ss qs k side.Write three = ap (λ (s : StreamState). s.writes) (state_is ss qs k three)
side_is ss qs k side.Connect three = ap (λ (s : StreamState). s.connects) (state_is ss qs k three)

-- a stream comes to another state
pub states-set : {T : Type 0} (ss : List Stream) (qs : List (List (Entry (PendingOp T)))) (k : ℕ) (new : Stream) →
    AreThree ss qs →
    states_of (set ss k new) qs
    ≡ set (states_of ss qs) k (state_of new (get_or qs (queue_number k side.Read) [])
    (get_or qs (queue_number k side.Write) []) (get_or qs (queue_number k side.Connect) []))
states-set [] [] k new three = refl
states-set [] (q ∷ qs) k new three = absurd three
states-set (s ∷ ss) [] k new three = absurd three
states-set (s ∷ ss) (r ∷ []) k new three = absurd three
states-set (s ∷ ss) (r ∷ w ∷ []) k new three = absurd three
states-set (s ∷ ss) (r ∷ w ∷ c ∷ qs) zero new three = refl
states-set (s ∷ ss) (r ∷ w ∷ c ∷ qs) (suc k) new three =
    ap (λ l. state_of s r w c ∷ l) (states-set ss qs k new three)

-- a side has other operations
pub states-queue : {T : Type 0} (ss : List Stream) (qs : List (List (Entry (PendingOp T)))) (k : ℕ) (s : Side)
    (q : List (Entry (PendingOp T))) → AreThree ss qs →
    states_of ss (set qs (queue_number k s) q)
    ≡ set (states_of ss qs) k (with_queue s (map number_of q) (get_or (states_of ss qs) k new_stream))
states-queue [] [] k s q three = refl
states-queue [] (p ∷ qs) k s q three = absurd three
states-queue (x ∷ ss) [] k s q three = absurd three
states-queue (x ∷ ss) (r ∷ []) k s q three = absurd three
states-queue (x ∷ ss) (r ∷ w ∷ []) k s q three = absurd three
states-queue (x ∷ ss) (r ∷ w ∷ c ∷ qs) zero side.Read q three = refl
states-queue (x ∷ ss) (r ∷ w ∷ c ∷ qs) zero side.Write q three = refl
states-queue (x ∷ ss) (r ∷ w ∷ c ∷ qs) zero side.Connect q three = refl
states-queue (x ∷ ss) (r ∷ w ∷ c ∷ qs) (suc k) s q three =
    ap (λ l. state_of x r w c ∷ l) (states-queue ss qs k s q three)

-- there still are three for each
pub three-set : {T : Type 0} (ss : List Stream) (qs : List (List (Entry (PendingOp T)))) (k : ℕ) (new : Stream) →
    AreThree ss qs → AreThree (set ss k new) qs
three-set [] [] k new three = tt
three-set [] (q ∷ qs) k new three = absurd three
three-set (s ∷ ss) [] k new three = absurd three
three-set (s ∷ ss) (r ∷ []) k new three = absurd three
three-set (s ∷ ss) (r ∷ w ∷ []) k new three = absurd three
three-set (s ∷ ss) (r ∷ w ∷ c ∷ qs) zero new three = three
three-set (s ∷ ss) (r ∷ w ∷ c ∷ qs) (suc k) new three = three-set ss qs k new three

-- none has an operation yet
pub no_states : (T : Type 0) (n m : ℕ) → m ≡ n * 3 →
    states_of {T = T} (replicate n no_stream) (replicate m []) ≡ replicate n new_stream
no_states T zero m is = subst (λ m. states_of {T = T} (replicate 0 no_stream) (replicate m []) ≡ []) (sym is) refl
no_states T (suc n) m is =
    let more : suc (suc (suc (n * 3))) ≡ m = omega (arith, is) in
    subst (λ m. states_of {T = T} (replicate (suc n) no_stream) (replicate m []) ≡ replicate (suc n) new_stream) more
    (ap (λ l. new_stream ∷ l) (no_states T n (n * 3) refl))
