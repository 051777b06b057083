-- How often handlers begin, the reactor turns and rounds close (Asio reference, io_context::poll_one
-- and ::run_one, which return 0 once nothing is left to do; the bounds are this project's own).
use Rattle.std.specs.Prelude.{◌≤◌, ◌+◌, ◌*◌, Bool, true, false, List, length, count_by}
use Rattle.asio_types.specs.declared.event.Event.{Event}
use Rattle.asio_types.specs.declared.event.Event.TheVariants as event
use Rattle.session_script.specs.Script.{ScriptModel}
use Rattle.session_script.specs.WellFormed.{IsWellFormed}
use Rattle.history_rules.specs.Legal.{IsLegalSoFar}
use Rattle.history_laws.specs.AfterStop.{is_round_end, is_turn}

-- a handler begins
abbrev pub is_begin : Event → Bool
is_begin (event.Begin op code size) = true
is_begin _ = false

-- No more handlers begin than there are acts. The reactor turns at most twice for each act, which it
-- takes and to whose expiry time moves, once for each line of the world, and once at the last point.
-- No more rounds close than there are.
pub record WorkIsBounded (script : ScriptModel) (events : List Event) : Type 0 where
  pub begins : count_by is_begin events ≤ length script.acts
  pub turns : count_by is_turn events ≤ 2 * length script.acts + length script.world.lines + 1
  pub closings : count_by is_round_end events ≤ length script.rounds

-- it holds of each history that is legal so far, whether bytes are told or not
abbrev pub HoldsOfLegalBeginnings : (ScriptModel → List Event → Type 0) → Type 0
HoldsOfLegalBeginnings law =
    (script : ScriptModel) (told : Bool) (events : List Event) → IsWellFormed script →
    IsLegalSoFar script told events → law script events
