-- The parts of a lane's own steps, one after another: whole executions, whole turns of the reactor,
-- and single steps between them. Lists of parts have the newest first.
use Rattle.std.specs.Prelude.{ℕ, ◌+◌, Bool, true, false, ◌||◌, List, [], ◌∷◌, ◌++◌, Option, Some, None, nat_lt, slice_index, if◌then◌else◌}
use Rattle.std.specs.Option.{option_or}
use Rattle.asio_types.specs.declared.event.Event.{Event}
use Rattle.asio_types.specs.declared.event.Event.TheVariants as event
use Rattle.session_script.specs.Script.{ScriptModel}
use Rattle.strand_core.specs.declared.posted.Posted.{Posted}
use Rattle.lane_clock.specs.declared.found.Change.{Change}
use Rattle.lane_clock.specs.declared.found.Change.TheVariants as change
use Rattle.lane_clock.specs.declared.found.Found.{Found}
use Rattle.lane_clock.specs.declared.note.Note.{Note}
use Rattle.lane_clock.specs.declared.step.ClockStep.{ClockStep}
use Rattle.lane_clock.specs.declared.step.ClockStep.TheVariants.{Load, Look}
use Rattle.lane_map.specs.LaneNumbers.{cells_of}
use Rattle.lane_logs.specs.Labels.{Labelled, silent, shows}

-- An execution: the note that was seen at the lane's next place, the load after that, and then the
-- calls with the steps that make them
pub record ExecutedPart : Type 0 where
  pub place : ℕ
  pub note : Note
  pub load : Found
  pub calls : List Posted
  pub labels : List Labelled

-- A turn of the reactor takes the request whose note was seen, or passes to a time point where the
-- next cell was seen empty
pub data TurnStart : Type 0 where
  takes : (note : Note) (changes : Change) → TurnStart
  passes : (shown : Event) → TurnStart

-- It tells what completed, or the reactor failed in it
pub data TurnEnd : Type 0 where
  tells : (labels : List Labelled) → TurnEnd
  fails : (found : Found) → TurnEnd

pub record TurnPart : Type 0 where
  pub place : ℕ
  pub load : Found
  pub start : TurnStart
  -- what the draw of its first event found
  pub drawn : Found
  pub end : TurnEnd

-- The reactor failed before the time had moved
pub record FailedPart : Type 0 where
  pub place : ℕ
  pub load : Found
  pub drawn : Found

pub data Part : Type 0 where
  -- a load, a look or a join
  idle : (step : ClockStep) → Part
  executed : (part : ExecutedPart) → Part
  turned : (part : TurnPart) → Part
  failed : (part : FailedPart) → Part
  -- the note that was seen names what the lane doesn't have
  missing : (place : ℕ) (note : Note) → Part

-- the next cell, where the lane has one, was seen empty
abbrev pub looks_empty : ScriptModel → ℕ → ℕ → List Labelled
looks_empty script lane place =
    if nat_lt place (slice_index (cells_of script) lane) then silent (Look lane place None) ∷ []
    else []

abbrev pub looks_full : ℕ → ℕ → Note → List Labelled
looks_full lane place note = silent (Look lane place (Some note)) ∷ []

abbrev pub start_labels : ScriptModel → ℕ → ℕ → Found → Found → TurnStart → List Labelled
start_labels script lane place load found (takes note changes) =
    looks_full lane place note
    ++ silent (Load load) ∷ shows (event.Take note.op) changes found ∷ []
start_labels script lane place load found (passes shown) =
    looks_empty script lane place ++ silent (Load load) ∷ shows shown change.Same found ∷ []

abbrev pub fault_label : Found → Labelled
fault_label found = shows event.Fault change.Stop found

abbrev pub end_labels : TurnEnd → List Labelled
end_labels (tells labels) = labels
end_labels (fails found) = fault_label found ∷ []

-- the labelled steps of a part of a lane
abbrev pub labels_in : ScriptModel → ℕ → Part → List Labelled
labels_in script lane (idle step) = silent step ∷ []
labels_in script lane (executed part) =
    looks_full lane part.place part.note ++ silent (Load part.load) ∷ part.labels
labels_in script lane (turned part) =
    start_labels script lane part.place part.load part.drawn part.start ++ end_labels part.end
labels_in script lane (failed part) =
    looks_empty script lane part.place ++ silent (Load part.load) ∷ fault_label part.drawn ∷ []
labels_in script lane (missing place note) = looks_full lane place note

abbrev pub labels_of : ScriptModel → ℕ → List Part → List Labelled
labels_of script lane [] = []
labels_of script lane (part ∷ parts) = labels_of script lane parts ++ labels_in script lane part

-- whether a part uses up the lane's next place
abbrev pub takes_place : TurnStart → Bool
takes_place (takes note changes) = true
takes_place (passes shown) = false

abbrev pub places_used : Part → ℕ
places_used (idle step) = 0
places_used (executed part) = 1
places_used (turned part) = if takes_place part.start then 1 else 0
places_used (failed part) = 0
places_used (missing place note) = 0

-- the lane's next place: how many were executed or taken
abbrev pub next_place : List Part → ℕ
next_place [] = 0
next_place (part ∷ parts) = next_place parts + places_used part

-- whether the reactor has failed
abbrev pub is_failing : TurnEnd → Bool
is_failing (tells labels) = false
is_failing (fails found) = true

abbrev pub is_broken : Part → Bool
is_broken (idle step) = false
is_broken (executed part) = false
is_broken (turned part) = is_failing part.end
is_broken (failed part) = true
is_broken (missing place note) = false

abbrev pub are_broken : List Part → Bool
are_broken [] = false
are_broken (part ∷ parts) = is_broken part || are_broken parts

-- the operation that was missed first
abbrev pub missed_in : Part → Option ℕ
missed_in (idle step) = None
missed_in (executed part) = None
missed_in (turned part) = None
missed_in (failed part) = None
missed_in (missing place note) = Some note.op

abbrev pub first_missed : List Part → Option ℕ
first_missed [] = None
first_missed (part ∷ parts) = option_or (first_missed parts) (missed_in part)
