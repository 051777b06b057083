-- What a seat knows of a failure of the reactor (Asio reference, Overview, "The Proactor Design
-- Pattern"): a step of the reactor's lane sets the stop word, as nothing else there does.
use Rattle.std.specs.Prelude.{◌≡◌, Any, Bool, true, false, List, Option, Some, None, slice_get}
use Rattle.session_script.specs.Script.{ScriptModel}
use Rattle.lane_clock.specs.declared.step.ClockStep.{ClockStep}
use Rattle.lane_clock.specs.Seats.{SeatView, own}
use Rattle.lane_map.specs.LaneNumbers.{reactor_lane}
use Rattle.lane_logs.specs.Cuts.{is_stop_draw}
use Rattle.lane_logs.specs.Knowing.{lists_of}
use Rattle.lane_turns.specs.declared.run_end.RunEnd.{RunEnd}
use Rattle.lane_turns.specs.declared.run_end.RunEnd.TheVariants as end

-- one of these steps stops the context
abbrev pub SomeStop : List ClockStep → Type 0
SomeStop steps = Any (λ step. is_stop_draw step ≡ true) steps

abbrev pub KnowsFault : ScriptModel → SeatView → Type 0
KnowsFault script seat = SomeStop (lists_of seat (reactor_lane script))

-- the reactor has failed, by what its own lane did
abbrev pub ReactorFailed : {T : Type 0} → (T → SeatView) → ScriptModel → List T → Type 0
ReactorFailed {T} seat script lanes =
    (one : T) → slice_get lanes (reactor_lane script) ≡ Some one → SomeStop (own (seat one))

-- whose last call ended by a fault knows it
abbrev pub KnowsAfterFault : ScriptModel → Option RunEnd → SeatView → Type 0
KnowsAfterFault script last seat = last ≡ Some end.Fault → KnowsFault script seat

-- whether the last call ended by a fault
abbrev pub has_faulted : Option RunEnd → Bool
has_faulted None = false
has_faulted (Some end.Ended) = false
has_faulted (Some end.Stopped) = false
has_faulted (Some end.Idle) = false
has_faulted (Some end.Fault) = true
