-- What is known of the legal whole histories of a script.
use Rattle.std.specs.Prelude.{Bool, List, map}
use Rattle.asio_types.specs.declared.event.Event.{Event}
use Rattle.history_book.specs.History.{Recorded}

-- the events of histories
abbrev pub events_in : List Recorded → List (List Event)
events_in histories = map (λ history. history.events) histories

pub record Listed : Type 0 where
  -- some of them
  pub orders : List (List Event)
  -- whether these are all
  pub all : Bool
