use Rattle.std.proofs.Common.{◌≤◌, length, ap, arith}
use Rattle.execution_laws.proofs.RecordRoomLemmas.{lines-below, rounds-below}
use Rattle.history_merge.proofs.room.most_merged.Goals as goal
use Rattle.history_merge.proofs.room.most_merged.Goals.{After-as_slice, After-rounds}

few_rounds : (c : After-rounds) → length c.rounds.result.now ≤ 64
few_rounds c =
    omega (
      arith,
      c.scripts_are_well_formed.ensures.round_count,
      rounds-below c.args.script.now.version,
      ap length c.rounds.ensures,
    )

few_lines : (c : After-as_slice) → length c.as_slice.result.now ≤ 1024
few_lines c =
    omega (
      arith,
      c.scripts_are_well_formed.ensures.line_count,
      lines-below c.args.script.now.version,
      ap length c.as_slice.ensures,
      ap (λ w. length w.lines) c.world.ensures,
    )

pub overflow_cast-rounds : goal.overflow_cast-rounds
overflow_cast-rounds c = omega (arith, few_rounds (goal.at.overflow_cast-rounds c).After-rounds)

pub overflow_cast-lines : goal.overflow_cast-lines
overflow_cast-lines c = omega (arith, few_lines (goal.at.overflow_cast-lines c).After-as_slice)

pub overflow_mul-result-2 : goal.overflow_mul-result-2
overflow_mul-result-2 c = omega (arith, few_rounds (goal.at.overflow_mul-result-2 c).After-rounds)

pub overflow_add-result : goal.overflow_add-result
overflow_add-result c =
    omega (arith, few_rounds (goal.at.overflow_add-result c).After-rounds, c.acts.ensures.limit)

pub overflow_add-result-2 : goal.overflow_add-result-2
overflow_add-result-2 c =
    omega (
      arith,
      few_lines (goal.at.overflow_add-result-2 c).After-as_slice,
      few_rounds (goal.at.overflow_add-result-2 c).After-rounds,
      c.acts.ensures.limit,
    )

pub overflow_add-result-3 : goal.overflow_add-result-3
overflow_add-result-3 c =
    omega (
      arith,
      few_lines (goal.at.overflow_add-result-3 c).After-as_slice,
      few_rounds (goal.at.overflow_add-result-3 c).After-rounds,
      c.acts.ensures.limit,
    )
