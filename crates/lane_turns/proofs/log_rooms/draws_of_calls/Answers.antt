use Rattle.std.proofs.Common.{arith}
use Rattle.lane_turns.proofs.LogRoomLemmas.{few_acts, next_drawn}
use Rattle.lane_turns.proofs.log_rooms.draws_of_calls.Goals as goal

pub overflow_add-draws : goal.overflow_add-draws
overflow_add-draws c =
    omega (
      arith,
      c.loop-act.invariant,
      c.draws_of_call-draws.ensures,
      next_drawn c.args.script.now c.args.acts.now c.loop-act.act-index c.loop-act-test.true,
      few_acts c.args.script.now c.scripts_are_well_formed.ensures,
      c.requires.few,
    )
