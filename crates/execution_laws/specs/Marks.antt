-- Which marks a history shows: those of the handlers that its operations had, each called with what its
-- begin says.
use Rattle.std.specs.Prelude.{◌≡◌, ℕ, List, [], ◌∷◌, Some, slice_get}
use Rattle.asio_types.specs.declared.code.Code.{Code}
use Rattle.asio_types.specs.declared.event.Event.{Event}
use Rattle.asio_types.specs.declared.event.Event.TheVariants as event

-- of each event: HasMark says which mark an end of an operation shows, and a drop shows its drop mark
abbrev pub IsMarked : (ℕ → ℕ → Type 0) → (ℕ → ℕ) → Event → Type 0
IsMarked HasMark drop (event.End o mark) = HasMark o mark
IsMarked HasMark drop (event.Dropped o mark) = mark ≡ drop o
IsMarked HasMark drop _ = Unit {0}

abbrev pub AreMarked : (ℕ → ℕ → Type 0) → (ℕ → ℕ) → List Event → Type 0
AreMarked HasMark drop [] = Unit {0}
AreMarked HasMark drop (event ∷ events) = IsMarked HasMark drop event × AreMarked HasMark drop events

-- the mark that the handler of an operation answers where it is called with the operation, the code
-- and the size of a begin of it, and with the position of that begin
pub record IsToldMark (run : ℕ → Code → ℕ → ℕ → ℕ) (Begins : ℕ → Code → ℕ → ℕ → Type 0)
    (o mark : ℕ) : Type 0 where
  pub code : Code
  pub size : ℕ
  pub begun : ℕ
  pub begins : Begins o code size begun
  pub is : mark ≡ run o code size begun

-- the operation begins at this position of a history, with this code and size
abbrev pub BeginsAt : List Event → ℕ → Code → ℕ → ℕ → Type 0
BeginsAt history o code size begun = slice_get history begun ≡ Some (event.Begin o code size)

-- an end shows the run mark of its operation's handler, called as the begin says; a drop its drop mark
abbrev pub HasToldMarks : (ℕ → Code → ℕ → ℕ → ℕ) → (ℕ → ℕ) → List Event → Type 0
HasToldMarks run drop events = AreMarked (IsToldMark run (BeginsAt events)) drop events
