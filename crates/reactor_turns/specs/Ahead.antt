-- How many events the turns of the reactor may still show, so that room for them can be made before
-- (Asio reference, Overview, "The Proactor Design Pattern"; steady_timer; the counts are this
-- project's own).
use Rattle.std.specs.Prelude.{◌≡◌, ◌≤◌, ℕ, ◌+◌, ◌*◌, Bool, true, false, ◌||◌, Option, Some, None, length, sum_by, if◌then◌else◌, []}
use Rattle.std.specs.List.{range_with_len}
use Rattle.asio_types.specs.declared.event.Event.{Event}
use Rattle.asio_types.specs.declared.event.Event.TheVariants as event
use Rattle.asio_types.specs.declared.outside.Point.{Point}
use Rattle.asio_types.specs.declared.outside.Point.TheVariants as point
use Rattle.session_script.specs.declared.act.Act.{Act}
use Rattle.session_script.specs.Script.{ScriptModel, act_of}
use Rattle.session_script.specs.WellFormed.{IsWellFormed}
use Rattle.stream_rules.specs.World.{times_after}
use Rattle.history_rules.specs.Bounds.{AllAhead}
use Rattle.history_rules.specs.Kinds.{is_control}
use Rattle.history_rules.specs.Legal.{reactor_after}
use Rattle.history_rules.specs.Order.{was_taken}
use Rattle.history_rules.specs.Requests.{MayTell}
use Rattle.history_rules.specs.Rounds.{IsDrained}
use Rattle.history_rules.specs.State.{ReactorHalf, first_reactor}
use Rattle.history_rules.specs.Time.{next_time, pending_count}
use Rattle.reactor_turns.specs.Standing.{is_awaited, stands}

abbrev pub one_unless : Bool → ℕ
one_unless happened = if happened then 0 else 1

-- an asynchronous operation shows its take and its completion, and a wait of a timer the tick to its
-- expiry; a control act shows its take
abbrev pub shown_by_request : Act → ℕ
shown_by_request act = if is_awaited act then 3 else if is_control act then 1 else 0

abbrev pub shown_by_act : Option Act → ℕ
shown_by_act None = 0
shown_by_act (Some act) = shown_by_request act

abbrev pub untaken_shows : ScriptModel → ReactorHalf → ℕ → ℕ
untaken_shows script half n = if was_taken half n then 0 else shown_by_act (act_of script n)

-- each request that wasn't taken, the completion of each operation that is pending, a tick to each
-- wait's expiry and to each time of the world, the last time point, and a failure
abbrev pub events_ahead : ScriptModel → ReactorHalf → ℕ
events_ahead script half =
    sum_by (untaken_shows script half) (range_with_len 0 (length script.acts))
    + pending_count half
    + length half.waits
    + length (times_after half.now script.world.lines)
    + one_unless half.last
    + one_unless half.failed

-- that many are ahead at most before the first turn
abbrev pub most_turn_events : ScriptModel → ℕ
most_turn_events script = 3 * length script.acts + length script.world.lines + 2

-- the reactor's half of the state of a history of this script
pub record IsHalfOf (script : ScriptModel) (half : ReactorHalf) : Type 0 where
  -- each act has its mark, and each stream its queues
  pub marks : length half.taken ≡ length script.acts
  pub streams : length half.queues ≡ script.world.streams
  -- no pending wait has expired
  pub ahead : AllAhead half
  -- only what was taken is to be completed
  pub taken : (n : ℕ) → was_taken half n ≡ false → stands n half ≡ 0

-- a request of the script that wasn't taken
pub record IsOpenRequest (script : ScriptModel) (half : ReactorHalf) (a : ℕ) : Type 0 where
  pub act : Act
  pub is : act_of script a ≡ Some act
  pub asks : (is_awaited act || is_control act) ≡ true
  pub untaken : was_taken half a ≡ false

-- time may move to this point, between two turns
pub record MayPassTo (script : ScriptModel) (half : ReactorHalf) (to : Point) : Type 0 where
  pub pending : 1 ≤ pending_count half
  pub told : half.due ≡ []
  pub drained : IsDrained half
  pub next : next_time script half ≡ to

-- what the reactor may show next
abbrev pub MayShow : ScriptModel → Bool → ReactorHalf → Event → Type 0
MayShow script told half (event.Take a) = IsOpenRequest script half a
MayShow script told half (event.Done op code size) = MayTell script told half op code size
MayShow script told half (event.Tick now) = MayPassTo script half (point.Time now)
MayShow script told half event.Last = MayPassTo script half point.Last
MayShow script told half event.Fault = half.failed ≡ false
MayShow script told half _ = ⊥

-- each event leaves one less ahead: so a turn shows at most what was ahead before it
pub record LeavesRoom (script : ScriptModel) (old new : ReactorHalf) : Type 0 where
  pub is_half : IsHalfOf script new
  pub fewer : events_ahead script new + 1 ≤ events_ahead script old

abbrev pub TurnsKeepRoom : Type 0
TurnsKeepRoom =
    (script : ScriptModel) (told : Bool) (half : ReactorHalf) (shown : Event) →
    IsWellFormed script → IsHalfOf script half → MayShow script told half shown →
    LeavesRoom script half (reactor_after script told half shown)

-- the half before the first turn
pub record StartsBounded (script : ScriptModel) (half : ReactorHalf) : Type 0 where
  pub is_half : IsHalfOf script half
  pub bounded : events_ahead script half ≤ most_turn_events script

abbrev pub TurnsAreBounded : Type 0
TurnsAreBounded =
    (script : ScriptModel) (told : Bool) → StartsBounded script (first_reactor script told)
