-- A lane's log: its own steps are whole executions or whole turns of the reactor, one after another,
-- and the log has their events at the positions that were drawn (Asio reference,
-- io_context::strand; Overview, "Strands: Use Threads Without Explicit Locking").
use Rattle.std.specs.Prelude.{◌≡◌, ℕ, ◌<◌, ◌≤◌, Bool, false, not, ◌&&◌, ◌==◌, List, [], ◌∷◌, Option, None}
use Rattle.std.specs.List.{list_any}
use Rattle.asio_types.specs.declared.event.Event.{Event}
use Rattle.asio_types.specs.declared.event.Event.TheVariants as event
use Rattle.session_script.specs.Lanes.{is_inline}
use Rattle.strand_core.specs.Execution.{IsWholeExecution}
use Rattle.history_rules.specs.Legal.{reactor_after}
use Rattle.history_rules.specs.State.{ReactorHalf}
use Rattle.history_rules.specs.Time.{pending_count}
use Rattle.lane_clock.specs.declared.found.Found.{Found}
use Rattle.lane_clock.specs.declared.note.Note.{Note}
use Rattle.lane_clock.specs.declared.step.ClockStep.{ClockStep}
use Rattle.lane_clock.specs.declared.step.ClockStep.TheVariants.{Draw, Load, Place, Put, Look, Join}
use Rattle.lane_map.specs.LaneNumbers.{is_op_on, reactor_lane}
use Rattle.lane_logs.specs.declared.log.LogEntry.{LogEntry}
use Rattle.lane_logs.specs.Half.{half_of}
use Rattle.lane_logs.specs.Knowing.{known_steps}
use Rattle.lane_logs.specs.Labels.{AreDrawn, entries_in, events_in, steps_in}
use Rattle.lane_logs.specs.Names.{SessionNames, IsNamedMark}
use Rattle.lane_logs.specs.Parts.{Part, idle, executed, turned, failed, missing, ExecutedPart, TurnPart, FailedPart, are_broken, first_missed, labels_of, next_place}
use Rattle.lane_logs.specs.ReactorTurns.{EndsTurn, MayStartTurn, may_take, start_event}
use Rattle.lane_logs.specs.SeatNumbers.{opener_seat}
use Rattle.lane_logs.specs.Stand.{base_of, is_running_round}

-- an operation begins
abbrev pub is_begin_of : ℕ → Event → Bool
is_begin_of op (event.Begin other code size) = other == op
is_begin_of op _ = false

abbrev pub has_begun : ℕ → List Event → Bool
has_begun op events = list_any (is_begin_of op) events

-- whether a lane still has the handler of an operation that doesn't execute inside its call
abbrev pub may_execute : SessionNames → ℕ → List LogEntry → ℕ → Bool
may_execute names lane entries op =
    is_op_on names.script lane op && not (is_inline names.script op)
    && not (has_begun op (events_in entries))

-- the opener's steps as far as they are known, and the number of a lane
module _ (names : SessionNames) (opener : List ClockStep) (lane : ℕ) where
  abbrev pub entries_after : List Part → List LogEntry
  entries_after parts = entries_in (labels_of names.script lane parts)

  abbrev pub steps_after : List Part → List ClockStep
  steps_after parts = steps_in (labels_of names.script lane parts)

  abbrev pub half_after : List Part → ReactorHalf
  half_after parts = half_of names.script names.told (entries_after parts)

  -- the opener's steps that the lane knew after these parts
  abbrev pub opener_after : List Part → List ClockStep
  opener_after parts = known_steps opener (opener_seat names.script) (steps_after parts)

  -- a load found no stop since the last restart, in a round that is open
  abbrev pub FoundGoing : List Part → Found → Type 0
  FoundGoing parts load = load.stops ≡ base_of names.script (opener_after parts)

  -- a handler of the lane executes: the one whose note was seen at the lane's next place
  pub record IsExecutedPart (parts : List Part) (part : ExecutedPart) : Type 0 where
    pub strand : lane < reactor_lane names.script
    pub next : part.place ≡ next_place parts
    pub going : FoundGoing parts part.load
    pub whole : IsWholeExecution names.script (IsNamedMark names) part.note.op part.note.code
        part.note.size part.calls
    pub drawn : AreDrawn names.script part.calls part.labels

  -- the reactor makes a turn
  pub record IsTurnPart (parts : List Part) (part : TurnPart) : Type 0 where
    pub reactor : lane ≡ reactor_lane names.script
    pub working : are_broken parts ≡ false
    pub next : part.place ≡ next_place parts
    pub going : FoundGoing parts part.load
    pub starts : MayStartTurn names.script (half_after parts)
        (is_running_round names.script (opener_after parts)) part.load part.start
    pub ends : EndsTurn names.script names.told
        (reactor_after names.script names.told (half_after parts) (start_event part.start)) part.end

  -- the reactor fails before its time has moved, which moves only where something is pending
  pub record IsFailedPart (parts : List Part) (part : FailedPart) : Type 0 where
    pub reactor : lane ≡ reactor_lane names.script
    pub working : are_broken parts ≡ false
    pub next : part.place ≡ next_place parts
    pub going : FoundGoing parts part.load
    pub pending : 1 ≤ pending_count (half_after parts)

  -- the lane neither has the handler of what it saw at its next place, nor is that a request that it
  -- may take; only the first is kept
  pub record IsMissingPart (parts : List Part) (place : ℕ) (note : Note) : Type 0 where
    pub first : first_missed parts ≡ None
    pub working : are_broken parts ≡ false
    pub next : place ≡ next_place parts
    pub no_handler : lane < reactor_lane names.script →
        may_execute names lane (entries_after parts) note.op ≡ false
    pub no_request : lane ≡ reactor_lane names.script →
        may_take names.script (half_after parts) note.op ≡ false

  -- a step by itself: of its own cells the lane looks at the next
  abbrev pub IsIdleStep : List Part → ClockStep → Type 0
  IsIdleStep parts (Draw shown change found) = ⊥
  IsIdleStep parts (Load found) = Unit {0}
  IsIdleStep parts (Place at place) = ⊥
  IsIdleStep parts (Put at place note) = ⊥
  IsIdleStep parts (Look at place held) = (at ≡ lane) × (place ≡ next_place parts)
  IsIdleStep parts (Join counts) = Unit {0}

  abbrev pub MayFollow : List Part → Part → Type 0
  MayFollow parts (idle step) = IsIdleStep parts step
  MayFollow parts (executed part) = IsExecutedPart parts part
  MayFollow parts (turned part) = IsTurnPart parts part
  MayFollow parts (failed part) = IsFailedPart parts part
  MayFollow parts (missing place note) = IsMissingPart parts place note

  abbrev pub AreParts : List Part → Type 0
  AreParts [] = Unit {0}
  AreParts (part ∷ parts) = AreParts parts × MayFollow parts part

  -- the lane's own steps are such parts, these are their events, and this was missed
  pub record IsLaneLog (own_steps : List ClockStep) (entries : List LogEntry) (missed : Option ℕ)
      : Type 0 where
    pub parts : List Part
    pub are : AreParts parts
    pub steps : own_steps ≡ steps_after parts
    pub shown : entries ≡ entries_after parts
    pub first : missed ≡ first_missed parts
