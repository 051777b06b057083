-- A history of a small server, as an example of the rules: it accepts a connection, reads from it with
-- an idle timer beside, answers, dispatches to its strand, closes, and is destroyed.
use Rattle.std.specs.Prelude.{ℕ, List, [], ◌∷◌, Some, None}
use Rattle.asio_types.specs.declared.code.Code.TheVariants as code
use Rattle.io_rules.specs.declared.control.Control.TheVariants as control
use Rattle.io_rules.specs.declared.event.Event.{Event}
use Rattle.io_rules.specs.declared.event.Event.TheVariants as event
use Rattle.io_rules.specs.declared.gave.Gave.TheVariants as gave
use Rattle.io_rules.specs.declared.limits.Limits.{Limits}
use Rattle.io_rules.specs.declared.name.Kind.TheVariants as kind
use Rattle.io_rules.specs.declared.name.Lane.{Lane}
use Rattle.io_rules.specs.declared.name.Lane.TheVariants as lane
use Rattle.io_rules.specs.declared.name.Name.{Name}
use Rattle.io_rules.specs.declared.operation.Operation.{Operation}
use Rattle.io_rules.specs.declared.operation.Operation.TheVariants as operation
use Rattle.io_rules.specs.declared.operation.Side.TheVariants as side
use Rattle.io_rules.specs.declared.request.Gone.TheVariants as gone
use Rattle.io_rules.specs.declared.request.Request.{Request}
use Rattle.io_rules.specs.declared.spares.Spares.{Spares}
use Rattle.io_rules.specs.Legal.{IsLegal, IsWhole, state_of}

abbrev pub small : Limits
small = record {
  operations = 4;
  strands = 2;
  timers = 2;
  slots = 1;
  streams = 3;
  grant = 2;
  staged = 8;
  held = 16;
}

abbrev pub first_at : ℕ → Name
first_at place = record { place = place; generation = 0 }

-- a request whose handler returns 1 when it is called and 0 when it is destroyed
abbrev pub asks : Lane → Operation → Request
asks lane kind =
    record { lane = lane; binding = None; kind = kind; marks = record { run = 1; drop = 0 } }

abbrev pub spare : ℕ → ℕ → Spares
spare strand timer = record {
  strand = Some (first_at strand);
  timer = Some (first_at timer);
  slot = Some (first_at 0);
  stream = Some (first_at 2);
}

-- no strand is left, and no timer
abbrev pub few : Spares
few = record { strand = None; timer = None; slot = Some (first_at 0); stream = Some (first_at 2) }

abbrev pub on_strand : Lane
on_strand = lane.Strand (first_at 0)

abbrev pub accepting : List Event
accepting =
    event.Begun 0 (spare 0 0)
    ∷ (event.Done 0 code.Ok 0
    ∷ (event.Back (first_at 0) side.Read gave.Made
    ∷ (event.Tried (first_at 0) side.Read (Some (first_at 1))
    ∷ (event.Called 0 None (asks lane.Own (operation.Accept (first_at 0))) gone.Nothing
    ∷ (event.Changed None (control.Make kind.Listener (first_at 0)) ∷ [])))))

abbrev pub reading : List Event
reading =
    event.Begun 1 (spare 1 1)
    ∷ (event.Done 1 code.Ok 5
    ∷ (event.Back (first_at 1) side.Read (gave.Moved 5)
    ∷ (event.Tried (first_at 1) side.Read None
    ∷ (event.Ended 0 1
    ∷ (event.Called 2 (Some 0) (asks on_strand (operation.Wait (first_at 0))) gone.Nothing
    ∷ (event.Called 1 (Some 0) (asks on_strand (operation.ReadSome (first_at 1) 8)) gone.Nothing
    ∷ (event.Changed (Some 0) (control.Expires (first_at 0) 100)
    ∷ (event.Changed (Some 0) (control.Make kind.Timer (first_at 0))
    ∷ (event.Changed (Some 0) (control.Make kind.Strand (first_at 0)) ∷ accepting)))))))))

-- the dispatched handler goes before the answer; it closes, and frees the timer
abbrev pub closing : List Event
closing =
    event.Done 2 code.Aborted 0
    ∷ (event.Done 3 code.Aborted 0
    ∷ (event.Changed (Some 4) (control.Free kind.Timer (first_at 0))
    ∷ (event.Changed (Some 4) (control.Free kind.Stream (first_at 1))
    ∷ (event.Begun 4 (spare 1 1)
    ∷ (event.Ended 1 1
    ∷ (event.Called 4 (Some 1) (asks on_strand operation.Dispatch) gone.Nothing
    ∷ (event.Called 3 (Some 1) (asks on_strand (operation.WriteAll (first_at 1) 5)) gone.Nothing
    ∷ reading)))))))

-- the last handler frees its strand, and one is destroyed with the context
abbrev pub example : List Event
example =
    event.Dropped 5 0
    ∷ (event.Finishing
    ∷ (event.Returned
    ∷ (event.Changed None control.Stop
    ∷ (event.Called 5 None (asks lane.Own operation.Post) gone.Nothing
    ∷ (event.Ended 2 1
    ∷ (event.Changed (Some 2) (control.Free kind.Strand (first_at 0))
    ∷ (event.Begun 2 (spare 1 1)
    ∷ (event.Ended 3 1
    ∷ (event.Begun 3 (spare 1 1) ∷ (event.Ended 4 1 ∷ closing))))))))))

-- it is legal and whole
pub record ExampleIsLegal : Type 0 where
  pub legal : IsLegal small example
  pub whole : IsWhole (state_of small example)
