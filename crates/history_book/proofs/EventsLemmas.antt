-- Events whose numbers fit their types.
use Rattle.std.proofs.Common.{List, [], ◌∷◌, ◌++◌}
use Rattle.asio_types.specs.declared.event.Event.{Event}
use Rattle.history_book.specs.Trace.{AreEvents, HasItsNumbers}

-- one more event
pub AreEvents-push : (events : List Event) (event : Event) → AreEvents events → HasItsNumbers event →
    AreEvents (events ++ event ∷ [])
AreEvents-push [] event all here = (here, all)
AreEvents-push (first ∷ rest) event all here = (all.0, AreEvents-push rest event all.1 here)
