use Rattle.lane_turns.specs.Benches.{places_of}
use Rattle.lane_turns.specs.Closing.{HaveLooked}
use Rattle.lane_turns.proofs.weighing.are_empty.Given as goal

abbrev pub invariant-loop-lane : goal.invariant-loop-lane
invariant-loop-lane g l = HaveLooked l.map (places_of g.B.Attendee.place l.lanes) l.lane-index l.fn.pen l.pen
