-- Logs of a strand that were spoilt: no lane leaves them (Asio reference, Overview, "Strands: Use
-- Threads Without Explicit Locking"). They are of the script
-- `session 1 strands 1 open { post 0 { } post 0 { } } run 4`, whose lane 0 is its strand.
use Rattle.std.specs.Prelude.{◌≡◌, ℕ, ◌+◌, ◌<◌, Bool, true, false, List, [], ◌∷◌, Option, None, Some}
use Rattle.asio_types.specs.declared.code.Code.TheVariants as code
use Rattle.asio_types.specs.declared.event.Event.TheVariants as event
use Rattle.session_script.specs.Script.{Entry, ScriptModel}
use Rattle.session_script.specs.declared.act.Act.TheVariants as act
use Rattle.session_script.specs.declared.round.Pace.TheVariants as pace
use Rattle.lane_clock.specs.declared.found.Change.TheVariants as change
use Rattle.lane_clock.specs.declared.found.Found.{Found}
use Rattle.lane_clock.specs.declared.note.Note.{Note}
use Rattle.lane_clock.specs.declared.step.ClockStep.{ClockStep}
use Rattle.lane_clock.specs.declared.step.ClockStep.TheVariants.{Draw, Load, Place, Put, Look, Join}
use Rattle.lane_map.specs.LaneNumbers.{reactor_lane}
use Rattle.lane_logs.specs.declared.log.LogEntry.{LogEntry}
use Rattle.lane_logs.specs.LaneLog.{IsLaneLog}
use Rattle.lane_logs.specs.Names.{SessionNames}

abbrev pub posting : Entry
posting = record { act = act.Post (Some 0); parent = None }

abbrev pub two_postings : ScriptModel
two_postings = record {
  version = 1;
  strands = 1;
  timers = 0;
  slots = 0;
  guards = 0;
  acts = posting ∷ posting ∷ [];
  world = record { streams = 0; lines = [] };
  rounds = record { restart = false; pace = pace.Run; workers = 4 } ∷ [];
}

-- the handlers have the marks 1000 and 1001
abbrev pub two_names : SessionNames
two_names = record {
  script = two_postings;
  told = false;
  run = λ op call. 1000 + op;
  drop = λ op. 1000 + op;
}

-- these own steps and entries are a log of the strand, whatever it knew of the opener
abbrev pub IsStrandLog : List ClockStep → List LogEntry → Type 0
IsStrandLog own entries =
    (opener : List ClockStep) × (missed : Option ℕ)
    × IsLaneLog two_names opener 0 own entries missed

-- the clock word after the calls of `open`, and so many events later, with so much work left
abbrev pub later : ℕ → ℕ → Found
later events work = record { clock = 4 + events; work = work; stops = 0 }

abbrev pub note_of : ℕ → Note
note_of op = record { op = op; code = code.Ok; size = 0 }

-- a handler executes: its note is seen at a place, a load finds no stop, it begins and ends
abbrev pub steps_of : ℕ → ℕ → ℕ → ℕ → List ClockStep → List ClockStep
steps_of place op events work steps =
    Look 0 place (Some (note_of op)) ∷ Load (later events work)
    ∷ Draw (event.Begin op code.Ok 0) change.Same (later events work)
    ∷ Draw (event.End op (1000 + op)) change.Down (later (events + 1) work) ∷ steps

abbrev pub entries_for : ℕ → ℕ → List LogEntry → List LogEntry
entries_for op events entries =
    record { position = 4 + events; event = event.Begin op code.Ok 0 }
    ∷ record { position = 5 + events; event = event.End op (1000 + op) } ∷ entries

-- the handler of place 1 executes, and then that of place 0
abbrev pub exchanged_steps : List ClockStep
exchanged_steps = steps_of 1 1 0 2 (steps_of 0 0 2 1 [])

abbrev pub exchanged_entries : List LogEntry
exchanged_entries = entries_for 1 0 (entries_for 0 2 [])

-- the handler of place 0 begins behind a load, and nothing was looked at
abbrev pub unlooked_steps : List ClockStep
unlooked_steps =
    Load (later 0 2) ∷ Draw (event.Begin 0 code.Ok 0) change.Same (later 0 2)
    ∷ Draw (event.End 0 1000) change.Down (later 1 2) ∷ []

abbrev pub unlooked_entries : List LogEntry
unlooked_entries = entries_for 0 0 []

-- the lane and the place of the first look
abbrev pub first_look : List ClockStep → Option (ℕ × ℕ)
first_look [] = None
first_look (Look at place held ∷ steps) = Some (at, place)
first_look (Draw shown changes found ∷ steps) = first_look steps
first_look (Load found ∷ steps) = first_look steps
first_look (Place at place ∷ steps) = first_look steps
first_look (Put at place note ∷ steps) = first_look steps
first_look (Join counts ∷ steps) = first_look steps

-- whether something is drawn before anything was looked at
abbrev pub draws_unseeing : List ClockStep → Bool
draws_unseeing [] = false
draws_unseeing (Look at place held ∷ steps) = false
draws_unseeing (Draw shown changes found ∷ steps) = true
draws_unseeing (Load found ∷ steps) = draws_unseeing steps
draws_unseeing (Place at place ∷ steps) = draws_unseeing steps
draws_unseeing (Put at place note ∷ steps) = draws_unseeing steps
draws_unseeing (Join counts ∷ steps) = draws_unseeing steps

-- a first look, if there is one, is at the lane's own place 0
abbrev pub IsAtFirstPlace : ℕ → Option (ℕ × ℕ) → Type 0
IsAtFirstPlace lane None = Unit {0}
IsAtFirstPlace lane (Some at) = at ≡ (lane, 0)

-- what holds of the own steps of each strand, in every session
abbrev pub OfEachStrand : (ℕ → List ClockStep → Type 0) → Type 0
OfEachStrand Holds =
    (names : SessionNames) (opener own : List ClockStep) (lane : ℕ) (entries : List LogEntry)
    (missed : Option ℕ) → lane < reactor_lane names.script →
    IsLaneLog names opener lane own entries missed → Holds lane own
