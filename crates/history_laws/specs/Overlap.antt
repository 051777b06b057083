-- Two legal histories in which handlers of two strands run at a time (Asio reference, Overview,
-- "Strands: Use Threads Without Explicit Locking": handlers of different strands may run at once).
use Rattle.std.specs.Prelude.{◌≢◌, ℕ, Bool, false, List, [], ◌∷◌, Some, None}
use Rattle.asio_types.specs.declared.code.Code.TheVariants as code
use Rattle.asio_types.specs.declared.event.Event.{Event}
use Rattle.asio_types.specs.declared.event.Event.TheVariants as event
use Rattle.session_script.specs.declared.act.Act.TheVariants as act
use Rattle.session_script.specs.declared.round.Pace.TheVariants as pace
use Rattle.session_script.specs.Lanes.{lane_of}
use Rattle.session_script.specs.Script.{Entry, ScriptModel}
use Rattle.session_script.specs.WellFormed.{IsWellFormed}
use Rattle.history_rules.specs.Legal.{IsLegal}
use Rattle.history_laws.specs.Events.{RunsAt}

-- `open` posts to this strand
abbrev pub posted_to : ℕ → Entry
posted_to strand = record { act = act.Post (Some strand); parent = None }

-- session 1 strands 2 open { post 0 { } post 1 { } } run 2
abbrev pub two_strands : ScriptModel
two_strands = record {
  version = 1;
  strands = 2;
  timers = 0;
  slots = 0;
  guards = 0;
  acts = posted_to 0 ∷ (posted_to 1 ∷ []);
  world = record { streams = 0; lines = [] };
  rounds = record { restart = false; pace = pace.Run; workers = 2 } ∷ [];
}

-- both handlers run before one of them returns
abbrev pub overlapping : ℕ → ℕ → List Event
overlapping first second =
    event.Call 0
    ∷ (event.Back 0
    ∷ (event.Call 1
    ∷ (event.Back 1
    ∷ (event.Begin first code.Ok 0
    ∷ (event.Begin second code.Ok 0 ∷ (event.End first 0 ∷ (event.End second 0 ∷ (event.Ended ∷ []))))))))

-- at this place handlers of two strands run
pub record RunTogether (script : ScriptModel) (events : List Event) (place first second : ℕ) : Type 0
  where
    pub first_runs : RunsAt events place first
    pub second_runs : RunsAt events place second
    pub apart : lane_of script first ≢ lane_of script second

-- It is a script, and both orders are histories of it, whether bytes are told or not.
pub record StrandsMayOverlap : Type 0 where
  pub well : IsWellFormed two_strands
  pub legal : (told : Bool) → IsLegal two_strands told (overlapping 0 1)
  pub other : (told : Bool) → IsLegal two_strands told (overlapping 1 0)
  pub together : RunTogether two_strands (overlapping 0 1) 6 0 1
  pub too : RunTogether two_strands (overlapping 1 0) 6 0 1
