-- Serving the streams is what a history says of the reactor's half, where bytes are told.
use Rattle.std.specs.Prelude.{ℕ, ◌≡◌, ◌<◌, Bool, Option, Some, List, length, map}
use Rattle.std.specs.Option.{option_map}
use Rattle.stream_rules.specs.World.{stream_at}
use Rattle.history_rules.specs.Settling.{served_below}
use Rattle.history_rules.specs.State.{ReactorHalf}
use Rattle.reactor_trait.specs.Reactor.{Outside}
use Rattle.proactor_core.specs.Due.{Due}
use Rattle.proactor_core.specs.Reactor.{whole_told}
use Rattle.proactor_core.specs.Streams.{queues_in, stream_in, AreServedBelow, StreamView}

-- the half of a history has these streams, and what is due
pub record AreStreamsOf (half : ReactorHalf) (streams : List StreamView) (told : Option Outside)
    (due : Due) : Type 0 where
  pub queues : half.queues ≡ map queues_in streams
  pub count : length half.streams ≡ length streams
  pub told_count : option_map (λ outside. length outside.streams) told ≡ Some (length streams)
  pub bytes : (number : ℕ) → number < length streams →
      stream_at half.streams number ≡ whole_told (stream_in streams number).held told number
  pub coming : half.due ≡ due.coming

-- all streams are served as in a history
abbrev pub StreamsFollow : Type 0
StreamsFollow =
    (last : Bool) (half : ReactorHalf) (old new : List StreamView) (told left : Option Outside)
    (due later : Due) →
    AreStreamsOf half old told due → AreServedBelow last (length old) old new told left due later →
    AreStreamsOf (served_below (length old) half) new left later
