-- A step that is made, or nothing.
use Rattle.std.specs.Prelude.{◌≡◌, Bool, true, false}
use Rattle.io_rules.specs.declared.event.Event.{Event}
use Rattle.io_rules.specs.Legal.{IsStep}
use Rattle.io_rules.specs.State.{ContextState}

-- where it is made the state is the one behind the event, else it stays
abbrev pub IsStepIf : Bool → ContextState → Event → ContextState → Type 0
IsStepIf true old e new = IsStep old e new
IsStepIf false old e new = new ≡ old
