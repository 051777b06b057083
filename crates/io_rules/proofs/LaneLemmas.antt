-- Where handlers execute: what a history says and what its state says are the same.
use Rattle.std.proofs.Common.{arith, ap, refl, sym, ◌∙◌}
use Rattle.std.specs.Prelude.{◌≡◌, ◌<◌, ℕ, ◌+◌, ◌==◌, List, [], ◌∷◌, Option, Some, None, if◌then◌else◌}
use Rattle.io_rules.specs.declared.event.Event.{Event}
use Rattle.io_rules.specs.declared.event.Event.TheVariants as event
use Rattle.io_rules.specs.declared.limits.Limits.{Limits}
use Rattle.io_rules.specs.declared.name.Lane.{Lane}
use Rattle.io_rules.specs.declared.request.Gone.{Gone}
use Rattle.io_rules.specs.Calls.{MayCallBy, accepted, caller_lane, new_op, target_if}
use Rattle.io_rules.specs.History.{caller_in, lane_in}
use Rattle.io_rules.specs.Legal.{IsLegal, after, state_of}
use Rattle.io_rules.specs.Operations.{target_of}
use Rattle.io_rules.specs.Ops.{lane_at, op_at}
use Rattle.io_rules.specs.Room.{has_place, place_given, place_given_by}
use Rattle.io_rules.specs.State.{Op}
use Rattle.io_rules.specs.Strands.{entry_of, lane_given}
use Rattle.io_rules.proofs.TotalLemmas.{Each, apart, each-at, each-changed, each-changed_of, each-push, each-weaker, each-without, equal, found, lane-found, number-op_at}
use Rattle.io_rules.proofs.EventLemmas.{StaysSo, stays-after, stays-served}
use Rattle.io_rules.proofs.StrandLemmas.{by_test}

-- numbers and lanes stay
each_stays : (P : ℕ → Lane → Type 0) → StaysSo (Each P)
each_stays P = record { changed = each-changed P; without = each-without P }

-- the history has its lane, and its number was given
abbrev IsOf : List Event → ℕ → ℕ → Lane → Type 0
IsOf past next k on = (lane_in past k ≡ on) × (k < next)

still_of : (past : List Event) (next op k : ℕ) (on new : Lane) → op ≡ next → IsOf past next k on →
    ((if op == k then new else lane_in past k) ≡ on) × (k < next + 1)
still_of past next op k on new is of =
    let lt = of.1 in
    by_test (op == k)
    (λ same_number. let k_is : op ≡ k = equal op k same_number in absurd (omega (arith, lt)))
    (λ other. (ap (λ b. if b then new else lane_in past k) other ∙ of.0, omega (arith, lt)))

here_of : (past : List Event) (next op : ℕ) (new : Lane) → op ≡ next →
    ((if op == op then new else lane_in past op) ≡ new) × (op < next + 1)
here_of past next op new is =
    by_test (op == op)
    (λ same_number. (ap (λ b. if b then new else lane_in past op) same_number, omega arith))
    (λ other. absurd (apart op op other refl))

lanes : (limits : Limits) (past : List Event) → IsLegal limits past →
    Each (IsOf past (state_of limits past).next) (state_of limits past).ops
lanes limits [] legal = tt
lanes limits (event.Called op by request gone ∷ past) legal =
    let s = state_of limits past in
    let P : ℕ → Lane → Type 0 = IsOf (event.Called op by request gone ∷ past) (s.next + 1) in
    let entry = entry_of (caller_lane s.ops by) request gone in
    stays-served (Each P) (each_stays P) (accepted entry op by request gone s) (target_if gone (target_of request.kind))
    (each-push P (place_given_by by s.ops) (new_op entry op request gone)
    (each-changed_of P by (λ it. place_given it.phase) s.ops
    (each-weaker (IsOf past s.next) P
    (λ k on of. still_of past s.next op k on (lane_given request gone) legal.0.number of) s.ops
    (lanes limits past legal.1)))
    (here_of past s.next op (lane_given request gone) legal.0.number))
lanes limits (e ∷ past) legal =
    let s = state_of limits past in
    let P : ℕ → Lane → Type 0 = IsOf (e ∷ past) (after e s).next in
    stays-after (Each P) (each_stays P) e s refl (lanes limits past legal.1)

-- where an operation that is there executes
pub lane_known : (limits : Limits) (past : List Event) → IsLegal limits past → (op : ℕ) (it : Op) →
    op_at (state_of limits past).ops op ≡ Some it → lane_in past op ≡ lane_at (state_of limits past).ops op
lane_known limits past legal op it is =
    let s = state_of limits past in
    let of = each-at (IsOf past s.next) op s.ops it (lanes limits past legal) is in
    ap (lane_in past) (sym (number-op_at op s.ops it is)) ∙ of.0 ∙ sym (lane-found s.ops op it is)

-- and of each of them
pub lanes_known : (limits : Limits) (past : List Event) → IsLegal limits past →
    Each (λ k on. lane_in past k ≡ on) (state_of limits past).ops
lanes_known limits past legal =
    each-weaker (IsOf past (state_of limits past).next) (λ k on. lane_in past k ≡ on) (λ k on of. of.0)
    (state_of limits past).ops (lanes limits past legal)

-- and where the handler that initiates something does
pub caller_known : (limits : Limits) (past : List Event) → IsLegal limits past → (given : Gone) (by : Option ℕ) →
    MayCallBy (state_of limits past) given by → caller_in past by ≡ caller_lane (state_of limits past).ops by
caller_known limits past legal given None may = refl
caller_known limits past legal given (Some by) may =
    let it = found has_place (state_of limits past).ops by may in lane_known limits past legal by it.op it.is
