use Rattle.std.proofs.Common.{◌≡◌, ◌∙◌, true, arith, sym, subst}
use Rattle.std.specs.Prelude.{IsSome}
use mathlib.Core.Logic.{dite}
use native.Mathlib.Decide.{ℕ_discrete}
use Rattle.lane_map.specs.LaneNumbers.{home_lane}
use Rattle.session_script.specs.Script.{is_op}
use Rattle.lane_turns.specs.Discarding.{held_on}
use Rattle.lane_turns.proofs.discarding.holds_none.Goals as goal

pub loop-op-init : goal.loop-op-init
loop-op-init g c = λ op less is held. absurd (omega (arith, less))

pub loop-op-preserved : goal.loop-op-preserved
loop-op-preserved g c =
    λ op less is held.
    dite (ℕ_discrete op c.loop-op.op)
    (λ (same : op ≡ c.loop-op.op).
    cc (
    sym
    (c.is_held.ensures (subst (λ n. is_op c.args.script.now n ≡ true) same is)
    (subst (λ n. IsSome (held_on c.args.hands.now (home_lane c.args.script.now n) n)) same held))
    ∙ c.if-is_held.false
    ))
    (λ ne. c.loop-op.invariant op (omega (arith, less, ne)) is held)

pub returns : goal.returns
returns g c =
    λ is op less here held.
    c.loop-op.invariant op (omega (arith, less, c.acts-op-end.ensures.count)) here held
