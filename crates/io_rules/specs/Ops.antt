-- The operations that are accepted and not over, by their numbers.
use Rattle.std.specs.Prelude.{ℕ, ◌==◌, Bool, true, false, List, [], ◌∷◌, Option, Some, None, if◌then◌else◌}
use Rattle.io_rules.specs.declared.name.Lane.{Lane}
use Rattle.io_rules.specs.declared.name.Lane.TheVariants as lane
use Rattle.io_rules.specs.declared.op.Phase.TheVariants as phase
use Rattle.io_rules.specs.State.{Op, Phase}

-- the operation with this number
abbrev pub op_at : List Op → ℕ → Option Op
op_at [] n = None
op_at (op ∷ ops) n = if op.number == n then Some op else op_at ops n

-- it comes to the phase that this gives
abbrev pub phase_changed : ℕ → (Op → Phase) → List Op → List Op
phase_changed n change [] = []
phase_changed n change (op ∷ ops) =
    if op.number == n then record op { phase = change op } ∷ ops
    else op ∷ phase_changed n change ops

-- likewise, if there is one
abbrev pub phase_changed_of : Option ℕ → (Op → Phase) → List Op → List Op
phase_changed_of None change ops = ops
phase_changed_of (Some n) change ops = phase_changed n change ops

abbrev pub with_phase : ℕ → Phase → List Op → List Op
with_phase n new ops = phase_changed n (λ op. new) ops

-- it is over
abbrev pub without : ℕ → List Op → List Op
without n [] = []
without n (op ∷ ops) = if op.number == n then ops else op ∷ without n ops

abbrev pub is_pending : Phase → Bool
is_pending (phase.Pending moved cancelled) = true
is_pending _ = false

-- it isn't cancelled either
abbrev pub is_untouched : Phase → Bool
is_untouched (phase.Pending moved cancelled) = if cancelled then false else true
is_untouched _ = false

abbrev pub is_settled : Phase → Bool
is_settled (phase.Settled code size) = true
is_settled _ = false

abbrev pub is_ready : Phase → Bool
is_ready (phase.Ready code size) = true
is_ready _ = false

abbrev pub is_running : Phase → Bool
is_running (phase.Running own grant spares) = true
is_running _ = false

abbrev pub passes : (Phase → Bool) → Option Op → Bool
passes test None = false
passes test (Some op) = test op.phase

-- there is such an operation, and its phase passes the test
abbrev pub is_at : (Phase → Bool) → List Op → ℕ → Bool
is_at test ops n = passes test (op_at ops n)

abbrev pub lane_of : Option Op → Lane
lane_of None = lane.Own
lane_of (Some op) = op.lane

-- where the handler of an operation executes
abbrev pub lane_at : List Op → ℕ → Lane
lane_at ops n = lane_of (op_at ops n)
