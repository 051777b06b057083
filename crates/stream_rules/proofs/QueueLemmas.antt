-- How a queue is served step by step.
use Rattle.std.proofs.Common.{◌≡◌, ℕ, Option, None, Some, List, [], ◌∷◌, ◌++◌, map, refl, sym, ap, ◌∙◌, append_assoc, false, suc, length, ◌<◌, arith}
use Rattle.std.specs.Bool.{IsTrue}
use Rattle.std.specs.List.{All}
use Rattle.std.specs.Option.{IfSome, IsNone}
use Rattle.stream_rules.specs.declared.queue.Queued.{Queued}
use Rattle.stream_rules.specs.Queue.{asked, served_head, served_queue, Completion, Pending, QueueServed, Side}
use Rattle.stream_rules.specs.Serving.{Outcome, Served}
use Rattle.stream_rules.specs.Stream.{Stream}

-- what was done before, and what serving the rest gives, is what serving the whole queue gives
pub record ServedSoFar {Asks : Type 0} (side : Side Asks) (asks : ℕ → Asks) (whole : QueueServed Asks)
    (before done : List Completion) (queue : List Queued) (here : Stream) : Type 0 where
  pub completed : done ++ (served_queue side (map (asked asks) queue) here).completed ≡ before ++ whole.completed
  pub staying : (served_queue side (map (asked asks) queue) here).staying ≡ whole.staying
  pub stream : (served_queue side (map (asked asks) queue) here).stream ≡ whole.stream

-- what the rules say of a head and the queue behind it, once it is served
served-head : {Asks : Type 0} (side : Side Asks) (asks : ℕ → Asks) (head : Queued) (queue : List Queued)
    (here left : Stream) (served : Served) (outcome : Option Outcome) →
    served ≡ side.served (asks head.op) head.moved here → left ≡ side.after (asks head.op) head.moved served.used here →
    served.outcome ≡ outcome →
    served_queue side (map (asked asks) (head ∷ queue)) here
    ≡ served_head (asked asks head) (map (asked asks) queue) served.used left
    (served_queue side (map (asked asks) queue) left) outcome
served-head {Asks = Asks} side asks head queue here left served outcome is after completes =
    let behind : List (Pending Asks) = map (asked asks) queue in
    let with_served = λ (s : Served).
    let l = side.after (asks head.op) head.moved s.used here in
    served_head (asked asks head) behind s.used l (served_queue side behind l) s.outcome in
    let with_left = λ (l : Stream).
    served_head (asked asks head) behind served.used l (served_queue side behind l) served.outcome in
    let with_outcome = λ (o : Option Outcome).
    served_head (asked asks head) behind served.used left (served_queue side behind left) o in
    ap with_served (sym is) ∙ ap with_left (sym after) ∙ ap with_outcome completes

-- the head completed
pub served-completed : {Asks : Type 0} (side : Side Asks) (asks : ℕ → Asks) (whole : QueueServed Asks)
    (before done : List Completion) (head : Queued) (queue : List Queued) (here left : Stream) (served : Served)
    (outcome : Outcome) → served ≡ side.served (asks head.op) head.moved here →
    left ≡ side.after (asks head.op) head.moved served.used here → served.outcome ≡ Some outcome →
    ServedSoFar side asks whole before done (head ∷ queue) here →
    ServedSoFar side asks whole before (done ++ record { op = head.op; outcome = outcome } ∷ []) queue left
served-completed {Asks = Asks} side asks whole before done head queue here left served outcome is after completes so_far =
    let step = served-head side asks head queue here left served (Some outcome) is after completes in
    let rest : QueueServed Asks = served_queue side (map (asked asks) queue) left in
    record {
      completed =
          append_assoc done (record { op = head.op; outcome = outcome } ∷ []) rest.completed
          ∙ ap (λ (q : QueueServed Asks). done ++ q.completed) (sym step) ∙ so_far.completed;
      staying = ap (λ (q : QueueServed Asks). q.staying) (sym step) ∙ so_far.staying;
      stream = ap (λ (q : QueueServed Asks). q.stream) (sym step) ∙ so_far.stream;
    }

-- the queue goes on behind a head that didn't stay
pub served-goes_on : {Asks : Type 0} (side : Side Asks) (asks : ℕ → Asks) (whole : QueueServed Asks)
    (before done next : List Completion) (head : Queued) (queue later : List Queued) (here left : Stream)
    (served : Served) (outcome : Option Outcome) → served.outcome ≡ outcome → (IsNone outcome → IsTrue false) →
    served ≡ side.served (asks head.op) head.moved here → left ≡ side.after (asks head.op) head.moved served.used here →
    IfSome outcome (λ o. next ≡ done ++ record { op = head.op; outcome = o } ∷ []) →
    IfSome outcome (λ o. later ≡ queue) → ServedSoFar side asks whole before done (head ∷ queue) here →
    ServedSoFar side asks whole before next later left
served-goes_on side asks whole before done next head queue later here left served None completes some is after listed
    gone so_far =
    let never : IsTrue false = some refl in absurd (cc)
served-goes_on side asks whole before done next head queue later here left served (Some outcome) completes some is after
    listed gone so_far =
    rw (listed, gone) (served-completed side asks whole before done head queue here left served outcome is after completes so_far)

-- what holds for a value that is there
pub there : {X : Type 0} (o : Option X) (P : Type 0) → (IsNone o → IsTrue false) → IfSome o (λ x. P) → P
there None P some holds = let never : IsTrue false = some refl in absurd (cc)
there (Some x) P some holds = holds

-- what holds for each of a queue holds behind its head
pub All-behind : (IsKind : ℕ → Type 0) (head : Queued) (all queue later : List Queued) → all ≡ head ∷ queue →
    later ≡ queue → All (λ (q : Queued). IsKind q.op) all → All (λ (q : Queued). IsKind q.op) later
All-behind IsKind head all queue later is gone holds = λ k d b.
    let at = rw is at holds in
    let within = rw gone at b in
    let inside : suc k < length (head ∷ queue) = omega arith in
    rw gone (at (suc k) d inside)
