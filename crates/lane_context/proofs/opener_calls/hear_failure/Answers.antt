use Rattle.std.proofs.Common.{length, subst, sym, ◌∙◌}
use Rattle.lane_turns.specs.LaneOf.{seat_of}
use Rattle.lane_turns.proofs.EventCutLemmas.{cuts_go_on}
use Rattle.lane_turns.proofs.MeetAllLemmas.{failure_heard}
use Rattle.lane_context.proofs.opener_calls.hear_failure.Goals as goal

pub returns-clause-failed : goal.returns-clause-failed
returns-clause-failed g c done =
    record {
      on = c.hear_all.ensures.on;
      knows =
          failure_heard seat_of g.N.LaneSession.names.script c.hear_all.new.opener c.args.bench.now c.requires.lanes
          c.hear_all.ensures.heard (c.has_failed.ensures.stopped c.if-not-has_failed.false);
      had = c.has_failed.ensures.failed c.if-not-has_failed.false;
    }

pub returns-clause-cuts : goal.returns-clause-cuts
returns-clause-cuts g c =
    cuts_go_on g.N.LaneSession.names.script c.args.opener.now c.hear_all.new.opener c.is_one.ensures.number
    c.hear_all.ensures.on c.requires.cuts
