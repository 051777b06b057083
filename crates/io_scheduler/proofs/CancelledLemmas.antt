-- Waits are cancelled, one after another: each that completes leaves the state in which the others are cancelled.
use Rattle.std.proofs.Common.{ap, refl, subst, sym, ◌∙◌}
use Rattle.std.proofs.lemmas.List.{append-nil}
use Rattle.std.specs.Prelude.{◌≡◌, ℕ, ◌==◌, ◌&&◌, ◌||◌, cond, not, Bool, true, false, List, [], ◌∷◌, ◌++◌, Some, None, slice_get, if◌then◌else◌}
use Rattle.std.specs.List.{filter}
use Rattle.asio_types.specs.declared.code.Code.TheVariants as code
use Rattle.io_rules.specs.declared.event.Event.TheVariants as event
use Rattle.io_rules.specs.declared.name.Lane.{Lane}
use Rattle.io_rules.specs.declared.name.Name.{Name}
use Rattle.io_rules.specs.declared.op.Op.{Op}
use Rattle.io_rules.specs.declared.op.Phase.{Phase}
use Rattle.io_rules.specs.declared.op.Phase.TheVariants as phase
use Rattle.io_rules.specs.declared.op.Wait.{Wait}
use Rattle.io_rules.specs.declared.operation.Operation.TheVariants as operation
use Rattle.io_rules.specs.Cancelling.{cancelled, cancelled_phase, is_among, is_settled_by_cancel, is_tried, is_tried_at, ops_cancelled, settles_at}
use Rattle.io_rules.specs.Completing.{MayCompleteAs, others_than}
use Rattle.io_rules.specs.Legal.{IsStep, MayHappen, after}
use Rattle.io_rules.specs.Operations.{target_of}
use Rattle.io_rules.specs.Ops.{is_pending, op_at, phase_changed, with_phase}
use Rattle.io_rules.specs.Names.{Names}
use Rattle.io_rules.specs.State.{ContextState, TimerState}
use Rattle.io_rules.specs.Strands.{on_lane, ready_on}
use Rattle.io_rules.proofs.StrandLemmas.{by_test}
use Rattle.io_rules.proofs.TotalLemmas.{apart, equal, same}
use Rattle.io_history.proofs.AtLemmas.{at-changed}
use Rattle.io_timers.specs.Kept.{Each}
use Rattle.io_timers.proofs.OrderLemmas.{filter-all}
use Rattle.io_scheduler.specs.Aborting.{with_changed}
use Rattle.io_scheduler.specs.Expired.{left_settled, left_waits, wait_done}
use Rattle.io_scheduler.proofs.ReadyLemmas.{at_changed, differ}
use Rattle.io_scheduler.proofs.WaitsLemmas.{after_done_of}

-- a wait on this timer, without a slot, whose handler is to execute on this lane
pub record IsPendingWait (s : ContextState) (n : ℕ) (timer : Name) (on : Lane) : Type 0 where
  pub op : Op
  pub is : op_at s.ops n ≡ Some op
  pub lane : op.lane ≡ on
  pub binding : op.binding ≡ None
  pub kind : op.kind ≡ operation.Wait timer
  pub phase : op.phase ≡ phase.Pending 0 false

-- an operation that a cancellation settles
pub record IsToCancel (s : ContextState) (n : ℕ) : Type 0 where
  pub op : Op
  pub is : op_at s.ops n ≡ Some op
  pub settles : (is_pending op.phase && not (is_tried s op)) ≡ true

-- ---- changes of phases

changed_yes : (n : ℕ) (g : Op → Phase) (x : Op) (ops : List Op) → (x.number == n) ≡ true →
    phase_changed n g (x ∷ ops) ≡ record x { phase = g x } ∷ ops
changed_yes n g x ops is =
    let new : Op = record x { phase = g x } in ap (λ b. if b then new ∷ ops else x ∷ phase_changed n g ops) is

changed_no : (n : ℕ) (g : Op → Phase) (x : Op) (ops : List Op) → (x.number == n) ≡ false →
    phase_changed n g (x ∷ ops) ≡ x ∷ phase_changed n g ops
changed_no n g x ops is =
    let new : Op = record x { phase = g x } in ap (λ b. if b then new ∷ ops else x ∷ phase_changed n g ops) is

not_both : (x m n : ℕ) → (m ≡ n → ⊥) → (x == n) ≡ true → (x == m) ≡ false
not_both x m n other is = differ x m (λ at. other (sym at ∙ equal x n is))

-- of two operations, in either order
pub changed_comm : (m n : ℕ) (f g : Op → Phase) (ops : List Op) → (m ≡ n → ⊥) →
    phase_changed n f (phase_changed m g ops) ≡ phase_changed m g (phase_changed n f ops)
changed_comm m n f g [] other = refl
changed_comm m n f g (x ∷ ops) other =
    by_test (x.number == n)
    (λ here.
    let not_m = not_both x.number m n other here in
    ap (phase_changed n f) (changed_no m g x ops not_m) ∙ changed_yes n f x (phase_changed m g ops) here
    ∙ sym (ap (phase_changed m g) (changed_yes n f x ops here)
    ∙ changed_no m g (record x { phase = f x }) ops not_m))
    (λ elsewhere.
    by_test (x.number == m)
    (λ there.
    ap (phase_changed n f) (changed_yes m g x ops there)
    ∙ changed_no n f (record x { phase = g x }) ops elsewhere
    ∙ sym (ap (phase_changed m g) (changed_no n f x ops elsewhere) ∙ changed_yes m g x (phase_changed n f ops) there))
    (λ neither.
    ap (phase_changed n f) (changed_no m g x ops neither) ∙ changed_no n f x (phase_changed m g ops) elsewhere
    ∙ ap (λ rest. x ∷ rest) (changed_comm m n f g ops other)
    ∙ sym (ap (phase_changed m g) (changed_no n f x ops elsewhere) ∙ changed_no m g x (phase_changed n f ops) neither)))

-- twice the same operation
pub changed_twice : (n : ℕ) (p : Phase) (g : Op → Phase) (ops : List Op) →
    with_phase n p (phase_changed n g ops) ≡ with_phase n p ops
changed_twice n p g [] = refl
changed_twice n p g (x ∷ ops) =
    by_test (x.number == n)
    (λ here.
    ap (with_phase n p) (changed_yes n g x ops here) ∙ changed_yes n (λ o. p) (record x { phase = g x }) ops here
    ∙ sym (changed_yes n (λ o. p) x ops here))
    (λ other.
    ap (with_phase n p) (changed_no n g x ops other) ∙ changed_no n (λ o. p) x (phase_changed n g ops) other
    ∙ ap (λ rest. x ∷ rest) (changed_twice n p g ops) ∙ sym (changed_no n (λ o. p) x ops other))

-- a change of one that isn't cancelled
pub cancelled_comm : (s : ContextState) (n : ℕ) (p : Phase) (numbers : List ℕ) (ops : List Op) →
    Each (λ m. m ≡ n → ⊥) numbers →
    with_phase n p (ops_cancelled s numbers ops) ≡ ops_cancelled s numbers (with_phase n p ops)
cancelled_comm s n p [] ops others = refl
cancelled_comm s n p (m ∷ numbers) ops others =
    cancelled_comm s n p numbers (phase_changed m (λ op. cancelled_phase (is_tried s op) op.phase) ops) others.1
    ∙ ap (ops_cancelled s numbers)
    (changed_comm m n (λ o. p) (λ op. cancelled_phase (is_tried s op) op.phase) ops others.0)

-- in a state in which the same is tried
pub cancelled_alike : (s new : ContextState) (alike : (op : Op) → is_tried new op ≡ is_tried s op) (numbers : List ℕ)
    (ops : List Op) → ops_cancelled new numbers ops ≡ ops_cancelled s numbers ops
cancelled_alike s new alike [] ops = refl
cancelled_alike s new alike (m ∷ numbers) ops =
    cancelled_alike s new alike numbers (phase_changed m (λ op. cancelled_phase (is_tried new op) op.phase) ops)
    ∙ (λ k. ops_cancelled s numbers (phase_changed m (λ op. cancelled_phase (alike op k) op.phase) ops))

-- ---- what is settled, and what waits

pub filter_off : (n : ℕ) (numbers : List ℕ) → Each (λ m. m ≡ n → ⊥) numbers → others_than n numbers ≡ numbers
filter_off n numbers others =
    filter-all (λ k. not (k == n)) numbers (each_off n numbers others)
  where
    each_off : (n : ℕ) (numbers : List ℕ) → Each (λ m. m ≡ n → ⊥) numbers → Each (λ k. not (k == n) ≡ true) numbers
    each_off n [] others = tt
    each_off n (m ∷ numbers) others = (ap not (differ m n others.0), each_off n numbers others.1)

pub settles_all : (s : ContextState) (numbers : List ℕ) → Each (IsToCancel s) numbers →
    filter (is_settled_by_cancel s) numbers ≡ numbers
settles_all s numbers all = filter-all (is_settled_by_cancel s) numbers (each_settles numbers all)
  where
    each_settles : (numbers : List ℕ) → Each (IsToCancel s) numbers → Each (λ n. is_settled_by_cancel s n ≡ true) numbers
    each_settles [] all = tt
    each_settles (m ∷ numbers) all = (ap (settles_at s) all.0.is ∙ all.0.settles, each_settles numbers all.1)

pub turned : (m n : ℕ) → (m == n) ≡ (n == m)
turned m n =
    by_test (n == m)
    (λ is. ap (λ k. k == n) (sym (equal n m is)) ∙ same n ∙ sym is)
    (λ other. differ m n (λ at. apart n m other at) ∙ sym other)

-- those that are left: neither this one nor one of the others
pub kept_test : (n k : ℕ) (b : Bool) → not ((n == k) || b) ≡ cond (not (k == n)) (not b) false
kept_test n k b =
    by_test (k == n)
    (λ is.
    ap (λ c. not (c || b)) (turned n k ∙ is) ∙ sym (ap (λ c. cond (not c) (not b) false) is))
    (λ other.
    ap (λ c. not (c || b)) (turned n k ∙ other) ∙ sym (ap (λ c. cond (not c) (not b) false) other))

-- two filters, as one
pub filter_twice : (p q r : Wait → Bool) → ((w : Wait) → r w ≡ cond (p w) (q w) false) → (waits : List Wait) →
    filter r waits ≡ filter q (filter p waits)
filter_twice p q r are [] = refl
filter_twice p q r are (w ∷ waits) =
    by_test (p w)
    (λ yes.
    let at : r w ≡ q w = are w ∙ ap (λ c. cond c (q w) false) yes in
    ap (λ c. cond c (w ∷ filter r waits) (filter r waits)) at
    ∙ ap (λ l. cond (q w) (w ∷ l) l) (filter_twice p q r are waits)
    ∙ sym (ap (λ c. filter q (cond c (w ∷ filter p waits) (filter p waits))) yes))
    (λ no.
    let at : r w ≡ false = are w ∙ ap (λ c. cond c (q w) false) no in
    ap (λ c. cond c (w ∷ filter r waits) (filter r waits)) at ∙ filter_twice p q r are waits
    ∙ sym (ap (λ c. filter q (cond c (w ∷ filter p waits) (filter p waits))) no))

true_if : (b : Bool) → cond (not b) true false ≡ not b
true_if true = refl
true_if false = refl

among_twice : (n k : ℕ) (b : Bool) → not ((n == k) || b) ≡ cond (not ((n == k) || b)) (not (k == n)) false
among_twice n k b =
    by_test (n == k)
    (λ is. ap (λ c. not (c || b)) is ∙ sym (ap (λ c. cond (not (c || b)) (not (k == n)) false) is))
    (λ other.
    let off = turned k n ∙ other in
    ap (λ c. not (c || b)) other
    ∙ sym (ap (λ c. cond (not (c || b)) (not (k == n)) false) other ∙ ap (λ c. cond (not b) (not c) false) off ∙ true_if b))

pub waits_commute : (n : ℕ) (numbers : List ℕ) (waits : List Wait) →
    left_waits n (filter (λ wait. not (is_among (n ∷ numbers) wait.op)) waits)
    ≡ filter (λ wait. not (is_among numbers wait.op)) (left_waits n waits)
waits_commute n numbers waits =
    sym (filter_twice (λ wait. not (is_among (n ∷ numbers) wait.op)) (λ wait. not (wait.op == n))
    (λ wait. not (is_among (n ∷ numbers) wait.op))
    (λ wait. among_twice n wait.op (is_among numbers wait.op)) waits)
    ∙ filter_twice (λ wait. not (wait.op == n)) (λ wait. not (is_among numbers wait.op))
    (λ wait. not (is_among (n ∷ numbers) wait.op))
    (λ wait. kept_test n wait.op (is_among numbers wait.op)) waits

-- ---- the step

-- what a wait's cancellation makes of it
not_tried : (s : ContextState) (op : Op) (timer : Name) → op.kind ≡ operation.Wait timer → is_tried s op ≡ false
not_tried s op timer kind = ap (λ k. is_tried_at s op.number (target_of k)) kind

pub to_cancel : (s : ContextState) (n : ℕ) (timer : Name) (on : Lane) → IsPendingWait s n timer on → IsToCancel s n
to_cancel s n timer on it = record {
  op = it.op;
  is = it.is;
  settles =
      ap (λ p. is_pending p && not (is_tried s it.op)) it.phase ∙ ap not (not_tried s it.op timer it.kind);
}

-- those behind it still are to be cancelled once it has completed
still_to_cancel : (s : ContextState) (n : ℕ) (on : Lane) (numbers : List ℕ) → Each (λ m. m ≡ n → ⊥) numbers →
    Each (IsToCancel s) numbers → Each (IsToCancel (wait_done n code.Aborted on s)) numbers
still_to_cancel s n on [] others all = tt
still_to_cancel s n on (m ∷ numbers) others all = (
  record {
    op = all.0.op;
    is = at-changed n m (λ o. phase.Ready code.Aborted 0) s.ops all.0.op (λ (here : n ≡ m). absurd (others.0 (sym here)))
        all.0.is;
    settles = all.0.settles;
  },
  still_to_cancel s n on numbers others.1 all.1,
)

pub three_nil : (xs : List ℕ) → xs ++ [] ++ [] ++ [] ≡ xs
three_nil xs = append-nil (xs ++ [] ++ []) ∙ append-nil (xs ++ []) ∙ append-nil xs

pub first_off : (n : ℕ) (numbers : List ℕ) → others_than n (n ∷ numbers) ≡ others_than n numbers
first_off n numbers = ap (λ b. cond (not b) (n ∷ others_than n numbers) (others_than n numbers)) (same n)

pub first_settles : (s : ContextState) (n : ℕ) (numbers : List ℕ) → IsToCancel s n → Each (IsToCancel s) numbers →
    filter (is_settled_by_cancel s) (n ∷ numbers) ≡ n ∷ numbers
first_settles s n numbers it all =
    ap (λ b. cond b (n ∷ filter (is_settled_by_cancel s) numbers) (filter (is_settled_by_cancel s) numbers))
    (ap (settles_at s) it.is ∙ it.settles)
    ∙ ap (λ l. n ∷ l) (settles_all s numbers all)

abbrev made_of : ℕ → Lane → ContextState → List Op → List ℕ → List Wait → ContextState
made_of n on s ops settled waits =
    record s { ops = ops; settled = settled; waits = waits; strands = on_lane on (ready_on n) s.strands }

module _ (s : ContextState) (n : ℕ) (timer : Name) (on : Lane) (numbers : List ℕ)
    (it : IsPendingWait s n timer on) (none : s.settled ≡ []) (others : Each (λ m. m ≡ n → ⊥) numbers)
    (all : Each (IsToCancel s) numbers) where
  settled_is : (cancelled (n ∷ numbers) s).settled ≡ n ∷ numbers
  settled_is =
      ap (λ xs. xs ++ filter (is_settled_by_cancel s) (n ∷ numbers)) none
      ∙ first_settles s n numbers (to_cancel s n timer on it) all

  -- the first of those that are cancelled completes
  pub done_of_cancelled :
      wait_done n code.Aborted on (cancelled (n ∷ numbers) s)
      ≡ cancelled numbers (wait_done n code.Aborted on s)
  done_of_cancelled =
      let v = wait_done n code.Aborted on s in
      let g : Op → Phase = λ op. cancelled_phase (is_tried s op) op.phase in
      let p : Phase = phase.Ready code.Aborted 0 in
      let ops = cancelled_comm s n p numbers (phase_changed n g s.ops) others
      ∙ ap (ops_cancelled s numbers) (changed_twice n p g s.ops)
      ∙ sym (cancelled_alike s v (λ op. refl) numbers (with_phase n p s.ops)) in
      let settled = ap (left_settled n) settled_is ∙ three_nil (others_than n (n ∷ numbers)) ∙ first_off n numbers
      ∙ filter_off n numbers others
      ∙ sym (ap (λ xs. left_settled n xs ++ filter (is_settled_by_cancel v) numbers) none
      ∙ settles_all v numbers (still_to_cancel s n on numbers others all)) in
      let waits = waits_commute n numbers s.waits in
      ap (λ x. made_of n on s x (left_settled n (cancelled (n ∷ numbers) s).settled)
      (left_waits n (cancelled (n ∷ numbers) s).waits)) ops
      ∙ ap (λ x. made_of n on s (ops_cancelled v numbers (with_phase n p s.ops)) x
      (left_waits n (cancelled (n ∷ numbers) s).waits)) settled
      ∙ ap (λ x. made_of n on s (ops_cancelled v numbers (with_phase n p s.ops))
      (left_settled n s.settled ++ filter (is_settled_by_cancel v) numbers) x) waits

-- an operation that others' cancellations leave
pub at_cancelled : (s : ContextState) (n : ℕ) (op : Op) (numbers : List ℕ) (ops : List Op) → op_at ops n ≡ Some op →
    Each (λ m. m ≡ n → ⊥) numbers → op_at (ops_cancelled s numbers ops) n ≡ Some op
at_cancelled s n op [] ops is others = is
at_cancelled s n op (m ∷ numbers) ops is others =
    at_cancelled s n op numbers (phase_changed m (λ o. cancelled_phase (is_tried s o) o.phase) ops)
    (at-changed m n (λ o. cancelled_phase (is_tried s o) o.phase) ops op (λ (here : m ≡ n). absurd (others.0 here)) is)
    others.1

module _ (s : ContextState) (n : ℕ) (timer : Name) (on : Lane) (numbers : List ℕ)
    (it : IsPendingWait s n timer on) (none : s.settled ≡ []) (others : Each (λ m. m ≡ n → ⊥) numbers)
    (all : Each (IsToCancel s) numbers) where
  aborted : Op
  aborted = record it.op { phase = phase.Settled code.Aborted 0 }

  aborted_there : op_at (cancelled (n ∷ numbers) s).ops n ≡ Some aborted
  unfolding aborted
  aborted_there =
      let g : Op → Phase = λ op. cancelled_phase (is_tried s op) op.phase in
      let new : Phase → Op = λ p. record it.op { phase = p } in
      at_cancelled s n (record it.op { phase = g it.op }) numbers (phase_changed n g s.ops)
      (at_changed n g s.ops it.op it.is) others
      ∙ ap (λ t. Some (new (cancelled_phase t it.op.phase))) (not_tried s it.op timer it.kind)
      ∙ ap (λ p. Some (new (cancelled_phase false p))) it.phase

  -- its completion may come, with operation_aborted
  pub may_be_aborted : (names : Names) (timers : List TimerState) → s.finishing ≡ false →
      MayHappen (with_changed names timers (cancelled (n ∷ numbers) s)) (event.Done n code.Aborted 0)
  unfolding aborted
  may_be_aborted names timers going = record {
    going = going;
    completes =
        subst (MayCompleteAs (with_changed names timers (cancelled (n ∷ numbers) s)) n code.Aborted 0)
        (sym aborted_there)
        (record {
          first = ap (λ xs. slice_get xs 0) (settled_is s n timer on numbers it none others all);
          same_code = refl;
          same_size = refl;
        });
  }

  -- and leaves the state in which the others are cancelled
  pub after_aborted : (names : Names) (timers : List TimerState) →
      after (event.Done n code.Aborted 0) (with_changed names timers (cancelled (n ∷ numbers) s))
      ≡ with_changed names timers (cancelled numbers (wait_done n code.Aborted on s))
  unfolding aborted
  after_aborted names timers =
      after_done_of (with_changed names timers (cancelled (n ∷ numbers) s)) n code.Aborted timer on aborted
      aborted_there it.kind it.binding it.lane
      ∙ ap (with_changed names timers) (done_of_cancelled s n timer on numbers it none others all)

-- one after another: the first one that is cancelled completes, and leaves the state in which those behind it are
pub complete_in_turn : (s : ContextState) (n : ℕ) (timer : Name) (on : Lane) (numbers : List ℕ) (names : Names)
    (timers : List TimerState) → IsPendingWait s n timer on → s.finishing ≡ false → s.settled ≡ [] →
    Each (λ m. m ≡ n → ⊥) numbers → Each (IsToCancel s) numbers →
    IsStep (with_changed names timers (cancelled (n ∷ numbers) s)) (event.Done n code.Aborted 0)
    (with_changed names timers (cancelled numbers (wait_done n code.Aborted on s)))
complete_in_turn s n timer on numbers names timers it going none others all = record {
  may = may_be_aborted s n timer on numbers it none others all names timers going;
  is = sym (after_aborted s n timer on numbers it none others all names timers);
}
