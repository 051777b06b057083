-- Which marks a history shows: those of the handlers that its operations had.
use Rattle.std.specs.Prelude.{◌≡◌, ℕ, List, [], ◌∷◌}
use Rattle.asio_types.specs.declared.event.Event.{Event}
use Rattle.asio_types.specs.declared.event.Event.TheVariants as event

-- an end shows the run mark of its operation's handler, a drop its drop mark
abbrev pub ShowsMark : (ℕ → ℕ) → (ℕ → ℕ) → Event → Type 0
ShowsMark run drop (event.End o mark) = mark ≡ run o
ShowsMark run drop (event.Dropped o mark) = mark ≡ drop o
ShowsMark run drop _ = Unit {0}

abbrev pub HasMarks : (ℕ → ℕ) → (ℕ → ℕ) → List Event → Type 0
HasMarks run drop [] = Unit {0}
HasMarks run drop (event ∷ events) = ShowsMark run drop event × HasMarks run drop events
