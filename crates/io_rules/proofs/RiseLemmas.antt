-- In each legal history operations stand by rising number.
use Rattle.std.proofs.Common.{arith, refl, subst, sym}
use Rattle.std.specs.Prelude.{◌≡◌, ◌<◌, ℕ, Bool, true, false, List, [], ◌∷◌, ◌++◌, if◌then◌else◌, ◌==◌, ◌+◌}
use Rattle.io_rules.specs.declared.event.Event.{Event}
use Rattle.io_rules.specs.declared.event.Event.TheVariants as event
use Rattle.io_rules.specs.declared.limits.Limits.{Limits}
use Rattle.io_rules.specs.Calls.{accepted, caller_lane, new_op, target_if}
use Rattle.io_rules.specs.Legal.{IsLegal, after, state_of}
use Rattle.io_rules.specs.Operations.{target_of}
use Rattle.io_rules.specs.Ops.{phase_changed, without}
use Rattle.io_rules.specs.Room.{place_given, place_given_by}
use Rattle.io_rules.specs.State.{Op, Phase}
use Rattle.io_rules.specs.Strands.{entry_of}
use Rattle.io_rules.proofs.EventLemmas.{StaysSo, stays-after, stays-changed_of, stays-served}
use Rattle.io_rules.proofs.TotalLemmas.{Each, each-changed, each-push, each-weaker, each-without}

-- each number is below all those behind it
abbrev pub Rises : List Op → Type 0
Rises [] = Unit {0}
Rises (op ∷ ops) = Each (λ k on. op.number < k) ops × Rises ops

changed_here : (g : Op → Phase) (x : Op) (ops rest : List Op) (b : Bool) → Each (λ k on. x.number < k) ops →
    Each (λ k on. x.number < k) rest → Rises ops → Rises rest →
    Rises (if b then record x { phase = g x } ∷ ops else x ∷ rest)
changed_here g x ops rest true above later all rises = (above, all)
changed_here g x ops rest false above later all rises = (later, rises)

rises-changed : (n : ℕ) (g : Op → Phase) (ops : List Op) → Rises ops → Rises (phase_changed n g ops)
rises-changed n g [] all = tt
rises-changed n g (x ∷ ops) all =
    changed_here g x ops (phase_changed n g ops) (x.number == n) all.0
    (each-changed (λ k on. x.number < k) n g ops all.0) all.1 (rises-changed n g ops all.1)

without_here : (x : Op) (ops rest : List Op) (b : Bool) → Each (λ k on. x.number < k) rest → Rises ops → Rises rest →
    Rises (if b then ops else x ∷ rest)
without_here x ops rest true later all rises = all
without_here x ops rest false later all rises = (later, rises)

rises-without : (n : ℕ) (ops : List Op) → Rises ops → Rises (without n ops)
rises-without n [] all = tt
rises-without n (x ∷ ops) all =
    without_here x ops (without n ops) (x.number == n) (each-without (λ k on. x.number < k) n ops all.0) all.1
    (rises-without n ops all.1)

rises-push : (ops : List Op) (op : Op) → Rises ops → Each (λ k on. k < op.number) ops → Rises (ops ++ op ∷ [])
rises-push [] op all below = (tt, tt)
rises-push (x ∷ ops) op all below =
    (each-push (λ k on. x.number < k) ops op all.0 below.0, rises-push ops op all.1 below.1)

-- with all numbers below the next one
abbrev RisesBelow : ℕ → List Op → Type 0
RisesBelow next ops = Rises ops × Each (λ k on. k < next) ops

stays : (next : ℕ) → StaysSo (RisesBelow next)
stays next = record {
  changed = λ n g ops all. (rises-changed n g ops all.0, each-changed (λ k on. k < next) n g ops all.1);
  without = λ n ops all. (rises-without n ops all.0, each-without (λ k on. k < next) n ops all.1);
}

pushed : (next : ℕ) (ops : List Op) (op : Op) → op.number ≡ next → RisesBelow next ops →
    RisesBelow (next + 1) (ops ++ op ∷ [])
pushed next ops op is all = (
  rises-push ops op all.0 (subst (λ n. Each (λ k on. k < n) ops) (sym is) all.1),
  each-push (λ k on. k < next + 1) ops op
      (each-weaker (λ k on. k < next) (λ k on. k < next + 1) (λ k on lt. omega (arith, lt)) ops all.1)
      (omega (arith, is)),
)

rising : (limits : Limits) (past : List Event) → IsLegal limits past →
    RisesBelow (state_of limits past).next (state_of limits past).ops
rising limits [] legal = (tt, tt)
rising limits (event.Called op by request gone ∷ past) legal =
    let s = state_of limits past in
    let entry = entry_of (caller_lane s.ops by) request gone in
    stays-served (RisesBelow (s.next + 1)) (stays (s.next + 1)) (accepted entry op by request gone s)
    (target_if gone (target_of request.kind))
    (pushed s.next (place_given_by by s.ops) (new_op entry op request gone) legal.0.number
    (stays-changed_of (RisesBelow s.next) (stays s.next) by (λ it. place_given it.phase) s.ops
    (rising limits past legal.1)))
rising limits (e ∷ past) legal =
    let s = state_of limits past in
    stays-after (RisesBelow (after e s).next) (stays (after e s).next) e s refl (rising limits past legal.1)

pub ops_rise : (limits : Limits) (past : List Event) → IsLegal limits past → Rises (state_of limits past).ops
ops_rise limits past legal = (rising limits past legal).0
