use Rattle.std.proofs.Common.{◌≡◌}
use Rattle.lane_turns.specs.Attending.{HasGoneOn, HaveAttended}
use Rattle.lane_turns.specs.Benches.{AreInRound}
use Rattle.lane_turns.specs.Besides.{rests_of}
use Rattle.lane_turns.proofs.bench.attend_all.Given as goal

abbrev pub invariant-loop-one : goal.invariant-loop-one
invariant-loop-one g l = record {
  on : HasGoneOn l.fn.opener l.opener;
  attended : HaveAttended g.T.Attendee.seat g.N.LaneSession.names.script l.fn.opener l.opener l.initial.all l.all
      l.one-index;
  round : AreInRound g.T.Attendee.base g.T.Attendee.running g.N.LaneSession.names.script l.opener.stand l.all
      l.one-index;
  rest : rests_of g.T.Attendee.rest l.all ≡ rests_of g.T.Attendee.rest l.initial.all;
}
