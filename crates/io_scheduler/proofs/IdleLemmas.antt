-- How many operations haven't completed.
use Rattle.std.proofs.Common.{arith, refl, ◌∙◌}
use Rattle.std.specs.Prelude.{◌≡◌, ◌≤◌, ℕ, List, [], ◌∷◌}
use Rattle.io_rules.specs.declared.name.Lane.{Lane}
use Rattle.io_rules.specs.declared.op.Op.{Op}
use Rattle.io_rules.specs.declared.op.Phase.{Phase}
use Rattle.io_rules.specs.declared.op.Phase.TheVariants as phase
use Rattle.io_rules.specs.Room.{one_if, places_in}
use Rattle.io_rules.proofs.StageLemmas.{Executing, Idle, Prepared, Stage, stage_of, staged}
use Rattle.io_rules.proofs.TotalLemmas.{sum_by-total, total}
use Rattle.io_scheduler.specs.Waits.{incomplete_in, is_incomplete}

abbrev if_idle : Stage → ℕ
if_idle Idle = 1
if_idle Prepared = 0
if_idle Executing = 0

abbrev pub idles : ℕ → Lane → Stage → ℕ
idles n on stage = if_idle stage

pub idles_is : (p : Phase) → one_if (is_incomplete p) ≡ if_idle (stage_of p)
idles_is (phase.Pending moved cancelled) = refl
idles_is (phase.Settled code size) = refl
idles_is (phase.Ready code size) = refl
idles_is (phase.Running own grant spares) = refl

same_total : (ops : List Op) → total (λ op. one_if (is_incomplete op.phase)) ops ≡ total (staged idles) ops
same_total [] = refl
same_total (op ∷ ops) =
    let here = idles_is op.phase in let rest = same_total ops in omega (arith, here, rest)

pub incomplete_total : (ops : List Op) → incomplete_in ops ≡ total (staged idles) ops
incomplete_total ops = sum_by-total (λ (op : Op). one_if (is_incomplete op.phase)) ops ∙ same_total ops

-- each has a place
idle_place : (p : Phase) → if_idle (stage_of p) ≤ places_in p
idle_place (phase.Pending moved cancelled) = omega arith
idle_place (phase.Settled code size) = omega arith
idle_place (phase.Ready code size) = omega arith
idle_place (phase.Running own grant spares) = omega arith

pub idles_place : (op : Op) → staged idles op ≤ places_in op.phase
idles_place op = idle_place op.phase
