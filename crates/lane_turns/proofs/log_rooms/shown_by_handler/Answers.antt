use Rattle.std.proofs.Common.{◌∙◌, Some, arith, ap}
use Rattle.asio_types.specs.declared.code.Class.TheVariants as class
use Rattle.strand_core.specs.Room.{shown_in}
use Rattle.lane_turns.proofs.LogRoomLemmas.{acts_few, acts_known, acts_shown, drawn_shown, few_acts}
use Rattle.lane_turns.proofs.log_rooms.shown_by_handler.Goals as goal

pub draws_of_calls-done-requires-clause-known : goal.draws_of_calls-done-requires-clause-known
draws_of_calls-done-requires-clause-known c =
    acts_known c.args.script.now (Some (c.args.op, class.Ok)) c.branch-script.result.now c.branch-script.ensures

pub draws_of_calls-done-requires-clause-few : goal.draws_of_calls-done-requires-clause-few
draws_of_calls-done-requires-clause-few c =
    acts_few c.args.script.now (Some (c.args.op, class.Ok)) c.branch-script.result.now c.branch-script.ensures

pub draws_of_calls-aborted-requires-clause-known : goal.draws_of_calls-aborted-requires-clause-known
draws_of_calls-aborted-requires-clause-known c =
    acts_known c.args.script.now (Some (c.args.op, class.Abort)) c.branch-script-2.result.now c.branch-script-2.ensures

pub draws_of_calls-aborted-requires-clause-few : goal.draws_of_calls-aborted-requires-clause-few
draws_of_calls-aborted-requires-clause-few c =
    acts_few c.args.script.now (Some (c.args.op, class.Abort)) c.branch-script-2.result.now c.branch-script-2.ensures

pub draws_of_calls-other-requires-clause-known : goal.draws_of_calls-other-requires-clause-known
draws_of_calls-other-requires-clause-known c =
    acts_known c.args.script.now (Some (c.args.op, class.Other)) c.branch-script-3.result.now c.branch-script-3.ensures

pub draws_of_calls-other-requires-clause-few : goal.draws_of_calls-other-requires-clause-few
draws_of_calls-other-requires-clause-few c =
    acts_few c.args.script.now (Some (c.args.op, class.Other)) c.branch-script-3.result.now c.branch-script-3.ensures

pub overflow_add-result : goal.overflow_add-result
overflow_add-result c =
    let acts = few_acts c.args.script.now c.scripts_are_well_formed.ensures in
    let first =
    acts_shown c.args.script.now (Some (c.args.op, class.Ok)) c.branch-script.result.now c.branch-script.ensures in
    let second =
    acts_shown c.args.script.now (Some (c.args.op, class.Abort)) c.branch-script-2.result.now c.branch-script-2.ensures in
    let third =
    acts_shown c.args.script.now (Some (c.args.op, class.Other)) c.branch-script-3.result.now c.branch-script-3.ensures in
    omega (
      arith,
      acts,
      first,
      second,
      third,
      c.draws_of_calls-done.ensures,
      c.draws_of_calls-aborted.ensures,
      c.draws_of_calls-other.ensures,
    )

pub overflow_add-result-2 : goal.overflow_add-result-2
overflow_add-result-2 c =
    let acts = few_acts c.args.script.now c.scripts_are_well_formed.ensures in
    let first =
    acts_shown c.args.script.now (Some (c.args.op, class.Ok)) c.branch-script.result.now c.branch-script.ensures in
    let second =
    acts_shown c.args.script.now (Some (c.args.op, class.Abort)) c.branch-script-2.result.now c.branch-script-2.ensures in
    let third =
    acts_shown c.args.script.now (Some (c.args.op, class.Other)) c.branch-script-3.result.now c.branch-script-3.ensures in
    omega (
      arith,
      acts,
      first,
      second,
      third,
      c.draws_of_calls-done.ensures,
      c.draws_of_calls-aborted.ensures,
      c.draws_of_calls-other.ensures,
    )

pub overflow_add-result-3 : goal.overflow_add-result-3
overflow_add-result-3 c =
    let acts = few_acts c.args.script.now c.scripts_are_well_formed.ensures in
    let first =
    acts_shown c.args.script.now (Some (c.args.op, class.Ok)) c.branch-script.result.now c.branch-script.ensures in
    let second =
    acts_shown c.args.script.now (Some (c.args.op, class.Abort)) c.branch-script-2.result.now c.branch-script-2.ensures in
    let third =
    acts_shown c.args.script.now (Some (c.args.op, class.Other)) c.branch-script-3.result.now c.branch-script-3.ensures in
    omega (
      arith,
      acts,
      first,
      second,
      third,
      c.draws_of_calls-done.ensures,
      c.draws_of_calls-aborted.ensures,
      c.draws_of_calls-other.ensures,
    )

pub returns : goal.returns
returns c =
    let first =
    c.draws_of_calls-done.ensures ∙ drawn_shown c.args.script.now c.branch-script.result.now
    ∙ ap (shown_in c.args.script.now) c.branch-script.ensures in
    let second =
    c.draws_of_calls-aborted.ensures ∙ drawn_shown c.args.script.now c.branch-script-2.result.now
    ∙ ap (shown_in c.args.script.now) c.branch-script-2.ensures in
    let third =
    c.draws_of_calls-other.ensures ∙ drawn_shown c.args.script.now c.branch-script-3.result.now
    ∙ ap (shown_in c.args.script.now) c.branch-script-3.ensures in
    omega (arith, first, second, third)
