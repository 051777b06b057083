-- What calls, completions, begins and ends make of the stages of operations.
use Rattle.std.proofs.Common.{ap, refl, subst, sym, ◌∙◌}
use Rattle.std.proofs.lemmas.Bool.{true≢false}
use Rattle.std.specs.Prelude.{◌≡◌, ℕ, ◌+◌, ◌==◌, Bool, true, false, List, [], ◌∷◌, Option, Some, None, if◌then◌else◌}
use Rattle.asio_types.specs.declared.code.Code.{Code}
use Rattle.io_rules.specs.declared.name.Lane.{Lane}
use Rattle.io_rules.specs.declared.op.Phase.TheVariants as phase
use Rattle.io_rules.specs.declared.operation.Side.TheVariants as side
use Rattle.io_rules.specs.declared.request.Gone.{Gone}
use Rattle.io_rules.specs.declared.request.Request.{Request}
use Rattle.io_rules.specs.declared.spares.Spares.{Spares}
use Rattle.io_rules.specs.Calls.{accepted, after_call, caller_lane, first_phase, new_op, target_if}
use Rattle.io_rules.specs.Completing.{MayBeDone, MayCompleteAs, MayCompleteIn, after_done, completed, kind_of}
use Rattle.io_rules.specs.Executions.{MayBegin, MayEnd, after_begin, after_end}
use Rattle.io_rules.specs.Operations.{behind_connect, target_of}
use Rattle.io_rules.specs.Ops.{is_ready, is_running, lane_at, op_at, with_phase, without}
use Rattle.io_rules.specs.Room.{place_given, place_given_by}
use Rattle.io_rules.specs.Serving.{served}
use Rattle.io_rules.specs.State.{ContextState, Op, Phase}
use Rattle.io_rules.specs.Stopping.{MayDrop, after_drop, first_number}
use Rattle.io_rules.specs.Strands.{entry_of, lane_given}
use Rattle.io_rules.proofs.StageLemmas.{Stage, Idle, Prepared, Executing, stage_of, staged, give_keeps, kept_of, total-served}
use Rattle.io_rules.proofs.TotalLemmas.{found, lane-found, number-op_at, same, total, total-changed, total-push, total-without}

abbrev Shares : Type 0
Shares = ℕ → Lane → Stage → ℕ

-- a call adds its operation
pub total-called : (h : Shares) (op : ℕ) (by : Option ℕ) (request : Request) (gone : Gone) (s : ContextState) →
    total (staged h) (after_call op by request gone s).ops
    ≡ total (staged h) s.ops
    + h op (lane_given request gone)
    (stage_of (first_phase (entry_of (caller_lane s.ops by) request gone) gone))
total-called h op by request gone s =
    let entry = entry_of (caller_lane s.ops by) request gone in
    total-served h (accepted entry op by request gone s) (target_if gone (target_of request.kind))
    ∙ total-push (staged h) (place_given_by by s.ops) (new_op entry op request gone)
    ∙ ap (λ n. n + h op (lane_given request gone) (stage_of (first_phase entry gone)))
    (kept_of h by (λ it. place_given it.phase) (λ it. give_keeps it.phase) s.ops)

-- one operation comes from this stage to that
abbrev pub Moves : Shares → List Op → List Op → ℕ → Lane → Stage → Stage → Type 0
Moves h old new op lane from to = total (staged h) new + h op lane from ≡ total (staged h) old + h op lane to

moves_to : (h : Shares) (old : List Op) (op : ℕ) (to : Phase) (from : Stage) (it : Op) → op_at old op ≡ Some it →
    stage_of it.phase ≡ from → Moves h old (with_phase op to old) op (lane_at old op) from (stage_of to)
moves_to h old op to from it is at =
    subst (λ stage. Moves h old (with_phase op to old) op (lane_at old op) stage (stage_of to)) at
    (subst (λ lane. Moves h old (with_phase op to old) op lane (stage_of it.phase) (stage_of to))
    (sym (lane-found old op it is))
    (subst (λ n. Moves h old (with_phase op to old) n it.lane (stage_of it.phase) (stage_of to))
    (number-op_at op old it is) (total-changed (staged h) op (λ other. to) old it is)))

ready_stage : (p : Phase) → is_ready p ≡ true → stage_of p ≡ Prepared
ready_stage (phase.Ready code size) is = refl
ready_stage (phase.Pending moved cancelled) is = absurd (true≢false (sym is))
ready_stage (phase.Settled code size) is = absurd (true≢false (sym is))
ready_stage (phase.Running own grant spares) is = absurd (true≢false (sym is))

pub running_stage : (p : Phase) → is_running p ≡ true → stage_of p ≡ Executing
running_stage (phase.Running own grant spares) is = refl
running_stage (phase.Pending moved cancelled) is = absurd (true≢false (sym is))
running_stage (phase.Settled code size) is = absurd (true≢false (sym is))
running_stage (phase.Ready code size) is = absurd (true≢false (sym is))

-- a ready handler begins
pub begun-moves : (h : Shares) (op : ℕ) (spares : Spares) (s : ContextState) → MayBegin s op spares →
    Moves h s.ops (after_begin op spares s).ops op (lane_at s.ops op) Prepared Executing
begun-moves h op spares s may =
    let it = found is_ready s.ops op may.ready in
    moves_to h s.ops op _ Prepared it.op it.is (ready_stage it.op.phase it.passed)

idle_in : (s : ContextState) (op : ℕ) (given : Code) (size : ℕ) (p : Phase) → MayCompleteIn s op given size p →
    stage_of p ≡ Idle
idle_in s op given size (phase.Pending moved cancelled) may = refl
idle_in s op given size (phase.Settled code moved) may = refl
idle_in s op given size (phase.Ready code moved) may = absurd may
idle_in s op given size (phase.Running own grant spares) may = absurd may

-- the operation that completes
pub record Completing (ops : List Op) (op : ℕ) : Type 0 where
  pub it : Op
  pub is : op_at ops op ≡ Some it
  pub idle : stage_of it.phase ≡ Idle

completing_at : (s : ContextState) (op : ℕ) (given : Code) (size : ℕ) (at : Option Op) → op_at s.ops op ≡ at →
    MayCompleteAs s op given size at → Completing s.ops op
completing_at s op given size None is may = absurd may
completing_at s op given size (Some it) is may =
    record { it = it; is = is; idle = idle_in s op given size it.phase may }

pub completing : (s : ContextState) (op : ℕ) (given : Code) (size : ℕ) → MayBeDone s op given size →
    Completing s.ops op
completing s op given size may = completing_at s op given size (op_at s.ops op) refl may.completes

-- a pending or settled operation completes
pub done-moves : (h : Shares) (op : ℕ) (given : Code) (size : ℕ) (s : ContextState) → MayBeDone s op given size →
    Moves h s.ops (after_done op given size s).ops op (lane_at s.ops op) Idle Prepared
done-moves h op given size s may =
    let it = completing s op given size may in
    let kind = kind_of (op_at s.ops op) in
    let first = completed op given size s in
    let second = served (target_of kind) first in
    let third = served (behind_connect side.Read kind) second in
    let same_total =
    total-served h third (behind_connect side.Write kind)
    ∙ total-served h second (behind_connect side.Read kind) ∙ total-served h first (target_of kind) in
    ap (λ n. n + h op (lane_at s.ops op) Idle) same_total
    ∙ moves_to h s.ops op (phase.Ready given size) Idle it.it it.is it.idle

-- one operation of this stage is over
abbrev pub Leaves : Shares → List Op → List Op → ℕ → Lane → Stage → Type 0
Leaves h old new op lane stage = total (staged h) new + h op lane stage ≡ total (staged h) old

leaves : (h : Shares) (old : List Op) (op : ℕ) (from : Stage) (it : Op) → op_at old op ≡ Some it →
    stage_of it.phase ≡ from → Leaves h old (without op old) op (lane_at old op) from
leaves h old op from it is at =
    subst (λ stage. Leaves h old (without op old) op (lane_at old op) stage) at
    (subst (λ lane. Leaves h old (without op old) op lane (stage_of it.phase)) (sym (lane-found old op it is))
    (subst (λ n. Leaves h old (without op old) n it.lane (stage_of it.phase)) (number-op_at op old it is)
    (total-without (staged h) op old it is)))

-- a handler that executes ends
pub ended-leaves : (h : Shares) (op mark : ℕ) (s : ContextState) → MayEnd s op mark →
    Leaves h s.ops (after_end op s).ops op (lane_at s.ops op) Executing
ended-leaves h op mark s may =
    let it = found is_running s.ops op may.runs in
    leaves h s.ops op Executing it.op it.is (running_stage it.op.phase it.passed)

-- the operation whose handler is destroyed
pub record Dropping (ops : List Op) (op : ℕ) : Type 0 where
  pub it : Op
  pub is : op_at ops op ≡ Some it

number_of : Op → ℕ
number_of op = op.number

least_at : (ops : List Op) (op : ℕ) → first_number ops ≡ Some op → Dropping ops op
least_at [] op is = absurd (cc)
least_at (x ∷ ops) op is =
    let first : x.number ≡ op = cc in
    record {
      it = x;
      is =
          subst (λ n. (if (x.number == n) then Some x else op_at ops n) ≡ Some x) first
          (go (x.number == x.number) (same x.number));
    }
  where
    go : (b : Bool) → b ≡ true → (if b then Some x else op_at ops x.number) ≡ Some x
    go true is = refl
    go false is = absurd (true≢false (sym is))

pub dropping : (s : ContextState) (op mark : ℕ) → MayDrop s op mark → Dropping s.ops op
dropping s op mark may = least_at s.ops op may.least

pub dropped-leaves : (h : Shares) (op mark : ℕ) (s : ContextState) (may : MayDrop s op mark) →
    Leaves h s.ops (after_drop op s).ops op (lane_at s.ops op) (stage_of (dropping s op mark may).it.phase)
dropped-leaves h op mark s may =
    let it = dropping s op mark may in leaves h s.ops op (stage_of it.it.phase) it.it it.is refl
