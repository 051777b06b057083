-- What a critical section notes.
use Rattle.std.specs.Prelude.{◌≡◌, Bool, true, false, List, ◌∷◌}
use Rattle.io_rules.specs.declared.event.Event.{Event}
use Rattle.io_rules.specs.declared.limits.Limits.{Limits}
use Rattle.io_rules.specs.Legal.{state_of}
use Rattle.io_rules.specs.State.{ContextState}

-- this event alone, which leads from one state to the other
pub record Notes (limits : Limits) (e : Event) (before after : List Event) (old new : ContextState) : Type 0 where
  pub one : after ≡ e ∷ before
  pub from : state_of limits before ≡ old
  pub to : state_of limits after ≡ new

-- nothing, in this state
pub record NotesNothing (limits : Limits) (before after : List Event) (old : ContextState) : Type 0 where
  pub none : after ≡ before
  pub at : state_of limits after ≡ old

-- the event, or nothing
abbrev pub NotesIf : Bool → Limits → Event → List Event → List Event → ContextState → ContextState → Type 0
NotesIf true limits e before after old new = Notes limits e before after old new
NotesIf false limits e before after old new = NotesNothing limits before after old
