-- A history as it is recorded.
use Rattle.std.specs.Prelude.{ℕ, List}
use Rattle.asio_types.specs.declared.event.Event.{Event}

pub record Recorded : Type 0 where
  -- the events, in order
  pub events : List Event
  -- for how many more room is reserved
  pub spare : ℕ
