-- Where the rounds of a session stand by what the opener has drawn: its draws are those of the calls
-- of `open`, then for each round its restart, if it has one, and its closing (Asio reference,
-- io_context::run, ::poll, ::restart).
use Rattle.std.specs.Prelude.{ℕ, zero, suc, ◌+◌, ◌^◌, Bool, true, false, not, ◌&&◌, ◌==◌, nat_lt, List, [], ◌∷◌, Option, length, slice_get, sum_by, if◌then◌else◌, ◌-◌, ◌*◌}
use Rattle.session_script.specs.Script.{ScriptModel, opening_of, stops}
use Rattle.session_script.specs.declared.round.Round.{Round}
use Rattle.history_rules.specs.Rounds.{restarts, runs}
use Rattle.lane_clock.specs.declared.found.Found.{Found}
use Rattle.lane_clock.specs.declared.step.ClockStep.{ClockStep}
use Rattle.lane_clock.specs.declared.step.ClockStep.TheVariants.{Draw, Load, Place, Put, Look, Join}

pub record Stand : Type 0 where
  -- how many draws of the calls of `open` are still to come
  pub opening : ℕ
  -- how many rounds are closed, and whether the restart of the next one was drawn
  pub closings : ℕ
  pub restarted : Bool
  -- the stops that the last restart found
  pub base : ℕ

-- a call and its back, and a stop's own draw
abbrev pub draws_of_call : ScriptModel → ℕ → ℕ
draws_of_call script act = if stops script act then 3 else 2

abbrev pub first_stand : ScriptModel → Stand
first_stand script = record {
  opening = sum_by (draws_of_call script) (opening_of script);
  closings = 0;
  restarted = false;
  base = 0;
}

-- the round that isn't closed yet
abbrev pub round_at : ScriptModel → Stand → Option Round
round_at script stand = slice_get script.rounds stand.closings

-- its restart is still to come
abbrev pub wants_restart : ScriptModel → Stand → Bool
wants_restart script stand = restarts (round_at script stand) && not stand.restarted

-- a draw that isn't of `open` restarts or closes a round
abbrev pub after_round_draw : ScriptModel → Stand → Found → Stand
after_round_draw script stand found =
    if wants_restart script stand then record stand { restarted = true; base = found.stops }
    else record stand { closings = stand.closings + 1; restarted = false }

abbrev pub after_opening_draw : ℕ → ScriptModel → Stand → Found → Stand
after_opening_draw zero script stand found = after_round_draw script stand found
after_opening_draw (suc left) script stand found = record stand { opening = left }

abbrev pub after_draw : ScriptModel → Stand → Found → Stand
after_draw script stand found = after_opening_draw stand.opening script stand found

abbrev pub stand_from : ScriptModel → Stand → List ClockStep → Stand
stand_from script stand [] = stand
stand_from script stand (Draw shown change found ∷ steps) =
    stand_from script (after_draw script stand found) steps
stand_from script stand (Load found ∷ steps) = stand_from script stand steps
stand_from script stand (Place lane place ∷ steps) = stand_from script stand steps
stand_from script stand (Put lane place note ∷ steps) = stand_from script stand steps
stand_from script stand (Look lane place held ∷ steps) = stand_from script stand steps
stand_from script stand (Join counts ∷ steps) = stand_from script stand steps

-- after these steps of the opener
abbrev pub stand_of : ScriptModel → List ClockStep → Stand
stand_of script steps = stand_from script (first_stand script) steps

abbrev pub is_round_open : ScriptModel → Stand → Bool
is_round_open script stand =
    (stand.opening == 0) && nat_lt stand.closings (length script.rounds)
    && not (wants_restart script stand)

-- stops that no clock finds: where no round is open, lanes are shut
abbrev pub shut : ℕ
shut = 2 ^ 16

-- the stops with which a lane that knows these steps of the opener may begin something
abbrev pub base_of : ScriptModel → List ClockStep → ℕ
base_of script steps =
    let stand = stand_of script steps in if is_round_open script stand then stand.base else shut

-- whether the round is one in which time may move
abbrev pub is_running_round : ScriptModel → List ClockStep → Bool
is_running_round script steps = runs (round_at script (stand_of script steps))

-- how many draws of rounds are still to come at most: a restart and a closing of each that isn't
-- closed
abbrev pub rounds_to_come : ScriptModel → Stand → ℕ
rounds_to_come script stand =
    let most = 2 * (length script.rounds - stand.closings) in
    if stand.restarted then most - 1 else most

abbrev pub draws_to_come : ScriptModel → Stand → ℕ
draws_to_come script stand = stand.opening + rounds_to_come script stand

-- the stops with which a lane may begin something where the rounds stand so
abbrev pub base_at : ScriptModel → Stand → ℕ
base_at script stand = if is_round_open script stand then stand.base else shut
