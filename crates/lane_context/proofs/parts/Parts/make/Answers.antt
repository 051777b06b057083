use Rattle.std.proofs.Common.{◌∙◌, ap, arith, length}
use Rattle.session_script.specs.Script.{ScriptModel}
use Rattle.lane_map.specs.LaneNumbers.{cells_of}
use Rattle.lane_turns.proofs.LogRoomLemmas.{few_lanes}
use Rattle.lane_context.proofs.parts.Parts.make.Goals as goal

pub make-requires-clause-seats : goal.make-requires-clause-seats
make-requires-clause-seats c =
    omega (
      arith,
      few_lanes c.args.script.now c.scripts_are_well_formed.ensures,
      c.lanes_have_cells.ensures.count,
      ap length (c.cells.ensures ∙ ap (λ (script : ScriptModel). cells_of script) c.requires),
      c.worker_count-workers.ensures.few,
    )
