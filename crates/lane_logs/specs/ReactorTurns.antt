-- When a turn of the reactor is whole, by the reactor's half that the earlier turns of its log leave
-- (Asio reference, Overview, "The Proactor Design Pattern"; steady_timer; that time moves only where
-- nothing else is outstanding is this project's own rule).
use Rattle.std.specs.Prelude.{◌≡◌, ℕ, ◌+◌, ◌≤◌, Bool, true, not, ◌&&◌, List, [], ◌∷◌, ◌++◌, nat_lt, if◌then◌else◌}
use Rattle.asio_types.specs.declared.code.Code.{Code}
use Rattle.asio_types.specs.declared.event.Event.{Event}
use Rattle.asio_types.specs.declared.event.Event.TheVariants as event
use Rattle.asio_types.specs.declared.outside.Point.{Point}
use Rattle.asio_types.specs.declared.outside.Point.TheVariants as point
use Rattle.session_script.specs.Script.{ScriptModel}
use Rattle.history_rules.specs.Kinds.{is_act, is_control}
use Rattle.history_rules.specs.Order.{was_taken}
use Rattle.history_rules.specs.Performing.{performed}
use Rattle.history_rules.specs.Requests.{MayTell}
use Rattle.history_rules.specs.Rounds.{IsDrained}
use Rattle.history_rules.specs.State.{ReactorHalf}
use Rattle.history_rules.specs.Time.{next_time, pending_count}
use Rattle.lane_clock.specs.declared.found.Change.{Change}
use Rattle.lane_clock.specs.declared.found.Change.TheVariants as change
use Rattle.lane_clock.specs.declared.found.Found.{Found}
use Rattle.lane_clock.specs.declared.note.Note.{Note}
use Rattle.lane_map.specs.LaneNumbers.{act_passes, asks_reactor, home_lane}
use Rattle.lane_logs.specs.Labels.{Labelled, shows, allots, entries_in, put_within}
use Rattle.lane_logs.specs.Half.{half_from, held_guards}
use Rattle.lane_logs.specs.Parts.{TurnStart, takes, passes, TurnEnd, tells, fails}

-- a request that wasn't taken
abbrev pub may_take : ScriptModel → ReactorHalf → ℕ → Bool
may_take script half act = act_passes asks_reactor script act && not (was_taken half act)

-- whether performing an act lets a guard go that was held
abbrev pub lets_go : ScriptModel → ReactorHalf → ℕ → Bool
lets_go script half act = nat_lt (held_guards (performed script act half)) (held_guards half)

-- what the take of a request changes: an operation stays outstanding, and a control act is done,
-- which may also let a guard go
abbrev pub take_change : ScriptModel → ReactorHalf → ℕ → Change
take_change script half act =
    if is_act is_control script act
    then (if lets_go script half act then change.DownTwo else change.Down) else change.Same

-- the event by which time moves to a point
abbrev pub point_event : Point → Event
point_event (point.Time now) = event.Tick now
point_event point.Last = event.Last

abbrev pub start_event : TurnStart → Event
start_event (takes note changes) = event.Take note.op
start_event (passes shown) = shown

-- time may pass by what was loaded: in a round of `run`, where something is pending and nothing
-- else is outstanding, to the next time point
pub record MayPass (script : ScriptModel) (half : ReactorHalf) (running : Bool) (load : Found)
    (shown : Event) : Type 0 where
  pub runs : running ≡ true
  pub pending : 1 ≤ pending_count half
  pub idle : load.work ≡ pending_count half + held_guards half
  pub next : shown ≡ point_event (next_time script half)

-- the request wasn't taken, and its take changes what it has to
pub record MayTakeNoted (script : ScriptModel) (half : ReactorHalf) (note : Note) (changes : Change)
    : Type 0 where
  pub request : may_take script half note.op ≡ true
  pub changed : changes ≡ take_change script half note.op

abbrev pub MayStartTurn : ScriptModel → ReactorHalf → Bool → Found → TurnStart → Type 0
MayStartTurn script half running load (takes note changes) = MayTakeNoted script half note changes
MayStartTurn script half running load (passes shown) = MayPass script half running load shown

-- the note of a completed operation
abbrev pub done_note : ℕ → Code → ℕ → Note
done_note op code size = record { op = op; code = code; size = size }

-- one completion: the operation gets a place on its lane, its done is drawn, and it is put there
abbrev pub done_labels : ScriptModel → ℕ → Code → ℕ → ℕ → Found → List Labelled
done_labels script op code size place found =
    allots op (home_lane script op) place ∷ shows (event.Done op code size) change.Same found
    ∷ put_within script (home_lane script op) place (done_note op code size)

-- completions one after another, each of which may be told after those before it
pub data AreTold (script : ScriptModel) (told : Bool) (from : ReactorHalf)
    : List Labelled → Type 0 where
  none_told : AreTold script told from []
  one_told : {labels : List Labelled} (op : ℕ) (with_code : Code) (size place : ℕ) (found : Found) →
      AreTold script told from labels →
      MayTell script told (half_from script told from (entries_in labels)) op with_code size →
      AreTold script told from (labels ++ done_labels script op with_code size place found)

-- all completions are told
pub record AreAllTold (script : ScriptModel) (told : Bool) (from : ReactorHalf)
    (labels : List Labelled) : Type 0 where
  pub told_so : AreTold script told from labels
  pub none_due : (half_from script told from (entries_in labels)).due ≡ []
  pub drained : IsDrained (half_from script told from (entries_in labels))

-- a turn that goes on from this half ends so
abbrev pub EndsTurn : ScriptModel → Bool → ReactorHalf → TurnEnd → Type 0
EndsTurn script told from (tells labels) = AreAllTold script told from labels
EndsTurn script told from (fails found) = Unit {0}
