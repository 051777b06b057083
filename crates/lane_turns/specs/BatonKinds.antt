-- What a lane's box holds, as contracts see it.
use Rattle.lane_turns.specs.declared.baton.BatonKind.{BatonKind}
use Rattle.lane_turns.specs.declared.baton.BatonKind.TheVariants.{Handlers, Reactor}
use Rattle.lane_turns.specs.LaneValues.{LaneValue, handlers, reactor}

abbrev pub value_of : {X H N : Type 0} → BatonKind X H N → LaneValue H X
value_of (Handlers slot) = handlers slot
value_of (Reactor slot) = reactor slot
