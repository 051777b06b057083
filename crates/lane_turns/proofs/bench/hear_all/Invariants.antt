use Rattle.std.proofs.Common.{◌≡◌}
use Rattle.lane_turns.specs.Attending.{AreHeard, AreKnown, HasGoneOn}
use Rattle.lane_turns.specs.Benches.{HaveAllStarted}
use Rattle.lane_turns.proofs.bench.hear_all.Given as goal

abbrev pub invariant-loop-one : goal.invariant-loop-one
invariant-loop-one g l = record {
  same : l.all ≡ l.initial.all;
  on : HasGoneOn l.fn.opener l.opener;
  heard : AreHeard g.T.Attendee.seat g.N.LaneSession.names.script l.opener l.initial.all l.one-index;
  known : AreKnown g.T.Attendee.seat l.opener l.initial.all l.one-index;
  started : HaveAllStarted g.T.Attendee.seat g.T.Attendee.place l.initial.all l.one-index;
}
