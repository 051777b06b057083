-- A proactor as its callers see it: that it is sound, and which half of a history's state it is at
-- (Asio reference, io_context; Overview, "The Proactor Design Pattern").
use Rattle.std.specs.Prelude.{◌≡◌, ◌<◌, ◌≤◌, ◌⊎◌, ◌+◌, ℕ, All, Bool, List, Option, Some, None, true, false, length, map, IfSome, IsTrue}
use Rattle.std.specs.List.{slice_set}
use Rattle.asio_types.specs.declared.outside.Point.{Point}
use Rattle.asio_types.specs.declared.outside.Point.TheVariants as point
use Rattle.asio_types.specs.declared.outside.SetupFault.{SetupFault}
use Rattle.asio_types.specs.declared.outside.SetupFault.TheVariants as setup_fault
use Rattle.asio_types.specs.Faults.{Rose}
use Rattle.session_script.specs.declared.act.Act.{Act}
use Rattle.session_script.specs.Limits.{most_acts}
use Rattle.session_script.specs.Script.{ScriptModel, act_of}
use Rattle.stream_rules.specs.Stream.{Stream}
use Rattle.stream_rules.specs.World.{lines_after, next_point, stream_at, times_after}
use Rattle.history_rules.specs.Rounds.{IsEmptied}
use Rattle.history_rules.specs.State.{ReactorHalf, first_reactor}
use Rattle.history_rules.specs.Time.{least_of, reactor_after_last, reactor_after_tick}
use Rattle.history_rules.specs.Bounds.{latest}
use Rattle.history_rules.specs.Waits.{expiry_in}
use Rattle.cancel_slots.specs.declared.connection.Connection.{Connection}
use Rattle.reactor_trait.specs.Reactor.{Outside, ReactorState, state_at, state_refused}
use Rattle.proactor_core.specs.declared.stream_rooms.StreamSide.TheVariants as side
use Rattle.proactor_core.specs.Due.{Due}
use Rattle.proactor_core.specs.Following.{IsConnected}
use Rattle.proactor_core.specs.Reactor.{whole_told}
pub use Rattle.proactor_core.specs.Reactor.{tells}
use Rattle.proactor_core.specs.Room.{HasRoomLeft, IsUntaken}
use Rattle.proactor_core.specs.Rooms.{acts_below, untaken_below}
use Rattle.proactor_core.specs.StreamRooms.{is_on_side, bytes_asked_at}
use Rattle.proactor_core.specs.Streams.{AreServable, StreamView, new_stream_view, pending_in_all, queues_in, stream_in}
use Rattle.proactor_core.specs.Tables.{TableState, with_tables}
use Rattle.proactor_core.specs.Untold.{IsUnservedOf, IsUntoldOf}
use Rattle.proactor_core.specs.Works.{with_works}

pub record ProactorView (X : Type 0) : Type 0 where
  pub script : ScriptModel
  pub tables : TableState
  pub streams : List StreamView
  pub reactor : X

-- there are as many as the script declares
pub record FitScript (script : ScriptModel) (all : List Bool) (times : List ℕ)
    (plugs : List (Option Connection)) (holds : List Bool) (views : List StreamView) : Type 0 where
  pub most : length script.acts ≤ most_acts
  pub few : length views < 256
  pub taken : length all ≡ length script.acts
  pub expiries : length times ≡ script.timers
  pub slots : length plugs ≡ script.slots
  pub guards : length holds ≡ script.guards
  pub streams : length views ≡ script.world.streams

-- each stream has room for its operations and their bytes
pub record HaveStreamRoom (script : ScriptModel) (taken : List Bool) (streams : List StreamView)
    : Type 0 where
  pub reads : (n : ℕ) → n < length streams →
      length (stream_in streams n).reads
      + untaken_below (is_on_side side.Reads n) script taken (length taken)
      ≤ (stream_in streams n).reads_room
  pub writes : (n : ℕ) → n < length streams →
      length (stream_in streams n).writes
      + untaken_below (is_on_side side.Writes n) script taken (length taken)
      ≤ (stream_in streams n).writes_room
  pub sizes : (a n : ℕ) (act : Act) → n < length streams → act_of script a ≡ Some act →
      bytes_asked_at n act ≤ (stream_in streams n).room

-- no more is due than there are acts, and times are within bounds
pub record IsWithinBounds (script : ScriptModel) (accepted time : ℕ) (times : List ℕ) (list : Due)
    : Type 0 where
  pub due : list.spare + length list.coming ≤ length script.acts
  pub now : time ≤ latest accepted
  pub expiries : All (λ expiry. expiry ≤ latest accepted) times

-- tables and streams are those of the script, with room for all acts that are still to come
pub record HasRoomForActs (script : ScriptModel) (s : TableState) (streams : List StreamView)
    : Type 0 where
  pub fit : FitScript script s.taken s.waiting.expiries s.slots s.guards streams
  pub tables : HasRoomLeft script (pending_in_all streams) s
  pub queues : HaveStreamRoom script s.taken streams
  pub connected : All (IsConnected script) s.slots
  pub within : IsWithinBounds script s.accepted s.time s.waiting.expiries s.due
  pub working : s.failed ≡ false

-- tables and streams of a script before anything was taken
pub record AreAtStart (script : ScriptModel) (s : TableState) (streams : List StreamView)
    : Type 0 where
  pub half : (told : Bool) → with_tables s (first_reactor script told) ≡ first_reactor script told
  pub room : HasRoomLeft script 0 s
  pub spare : s.due.spare ≡ length script.acts
  pub count : length streams ≡ script.world.streams
  pub opened : (n : ℕ) → n < script.world.streams → let view =
      stream_in streams n in view ≡ new_stream_view view.room view.reads_room view.writes_room
  pub sizes : (a n : ℕ) (act : Act) → n < script.world.streams → act_of script a ≡ Some act →
      bytes_asked_at n act ≤ (stream_in streams n).room
  pub reads : (n : ℕ) → n < script.world.streams →
      (stream_in streams n).reads_room
      ≡ acts_below (is_on_side side.Reads n) script (length script.acts)
  pub writes : (n : ℕ) → n < script.world.streams →
      (stream_in streams n).writes_room
      ≡ acts_below (is_on_side side.Writes n) script (length script.acts)

-- the reactor is set up, and stands at the same time with the same streams closed
pub record IsInStep (script : ScriptModel) (s : TableState) (streams : List StreamView)
    (state : ReactorState) (told : Option Outside) : Type 0 where
  pub now : state.now ≡ s.time
  pub times : state.times ≡ times_after s.time script.world.lines
  pub last : state.last ≡ s.last
  pub servable : AreServable streams state told

-- the proactor is in a turn
pub record IsTurning {X : Type 0} (state : X → ReactorState) (told : X → Option Outside)
    (view : ProactorView X) : Type 0 where
  pub room : HasRoomForActs view.script view.tables view.streams
  pub step : IsInStep view.script view.tables view.streams (state view.reactor) (told view.reactor)

-- an act that wasn't taken may be taken in this turn
pub record MayTakeAct {X : Type 0} (state : X → ReactorState) (told : X → Option Outside) (a : ℕ)
    (view : ProactorView X) : Type 0 where
  pub turning : IsTurning state told view
  pub untaken : IsUntaken a view.tables

-- the same of an act that the script has as this
pub record MayPerform {X : Type 0} (state : X → ReactorState) (told : X → Option Outside) (a : ℕ)
    (act : Act) (view : ProactorView X) : Type 0 where
  pub turning : IsTurning state told view
  pub untaken : IsUntaken a view.tables
  pub is_act : act_of view.script a ≡ Some act

-- an operation of the script is connected to its slot in this turn
pub record MayConnect {X : Type 0} (state : X → ReactorState) (told : X → Option Outside) (op : ℕ)
    (act : Act) (view : ProactorView X) : Type 0 where
  pub turning : IsTurning state told view
  pub is_act : act_of view.script op ≡ Some act

-- tables and streams alone changed, and the act was taken
pub record TakesAct {X : Type 0} (a : ℕ) (old new : ProactorView X) : Type 0 where
  pub others : new ≡ record old { tables = new.tables; streams = new.streams }
  pub taken : new.tables.taken ≡ slice_set old.tables.taken a true

-- after the last time point no operation of a stream is pending between turns
abbrev pub AreDrained : Bool → List StreamView → Type 0
AreDrained last streams = last ≡ true → All (λ view. IsEmptied (queues_in view)) streams

-- the proactor has not failed, and is between its turns: no timer has expired that is waited for
pub record IsSound {X : Type 0} (state : X → ReactorState) (told : X → Option Outside)
    (view : ProactorView X) : Type 0 where
  pub turning : IsTurning state told view
  pub ahead : All (λ wait. view.tables.time < expiry_in view.tables.waiting.expiries wait)
      view.tables.waiting.waits
  pub drained : AreDrained view.tables.last view.streams

-- the proactor is at this half of a history's state by all that it knows itself: acts, time,
-- timers, waits, slots, guards, its whole list of what is due, and the operations of each stream
-- with what they moved. Of bytes something is said where the reactor tells them
pub record IsAt {X : Type 0} (told : X → Option Outside) (view : ProactorView X)
    (half : ReactorHalf) : Type 0 where
  pub works : with_works view.tables view.streams half ≡ half
  pub count : length half.streams ≡ length view.streams
  pub told_count : IfSome (told view.reactor)
      (λ outside. length outside.streams ≡ length view.streams)
  -- of each stream the bytes that are held and those that the reactor tells
  pub bytes : (n : ℕ) → n < length view.streams →
      IfSome (told view.reactor) (λ _.
      stream_at half.streams n
      ≡ whole_told (stream_in view.streams n).held (told view.reactor) n)
  pub lines : IfSome (told view.reactor)
      (λ outside. outside.lines ≡ lines_after view.tables.time view.script.world.lines)

-- over a reactor that tells no bytes the history's half differs from what the proactor knows: it
-- has in its queues still what streams have given and wasn't told
pub record FollowsUntold {X : Type 0} (told : X → Option Outside) (view : ProactorView X)
    (half : ReactorHalf) : Type 0 where
  -- what the proactor knows
  pub mid : ReactorHalf
  pub is_at : IsAt told view mid
  pub untold : IsUntoldOf view.script mid half

-- the proactor follows a history to this half of its state
pub record Follows {X : Type 0} (told : X → Option Outside) (view : ProactorView X)
    (half : ReactorHalf) : Type 0 where
  pub where_told : tells (told view.reactor) ≡ true → IsAt told view half
  pub where_untold : tells (told view.reactor) ≡ false → FollowsUntold told view half

-- in a turn, before the streams are served, they have given nothing
pub record FollowsUntoldInTurn {X : Type 0} (told : X → Option Outside) (view : ProactorView X)
    (half : ReactorHalf) : Type 0 where
  pub mid : ReactorHalf
  pub is_at : IsAt told view mid
  pub unserved : IsUnservedOf view.script mid half

pub record FollowsInTurn {X : Type 0} (told : X → Option Outside) (view : ProactorView X)
    (half : ReactorHalf) : Type 0 where
  pub where_told : tells (told view.reactor) ≡ true → IsAt told view half
  pub where_untold : tells (told view.reactor) ≡ false → FollowsUntoldInTurn told view half

-- time moved to this point, over a reactor that tells its bytes or doesn't
abbrev pub after_point : ScriptModel → Bool → Point → ReactorHalf → ReactorHalf
after_point script telling (point.Time now) half = reactor_after_tick script telling half now
after_point script telling point.Last half = reactor_after_last telling half

-- the next time point, where each wait that is pending expires after now
abbrev pub point_ahead : ScriptModel → TableState → Point
point_ahead script s =
    next_point (least_of (map (expiry_in s.waiting.expiries) s.waiting.waits))
    (times_after s.time script.world.lines)

-- what a reactor tells whose time has moved to a point, if it moved
abbrev pub moved_state : Option Point → ReactorState → ReactorState
moved_state None state = state
moved_state (Some point) state = state_at point state

-- all bytes that the peer of a stream took
abbrev pub sent_to_peer : Stream → List ℕ
sent_to_peer stream = stream.sent

-- the reactor is set up, stands at the time of this half, and where it tells its bytes, it has sent
-- those of the half
pub record StandsAt (state : ReactorState) (told : Option Outside) (half : ReactorHalf)
    : Type 0 where
  pub up : IsTrue state.up
  pub now : state.now ≡ half.now
  pub sent : IfSome told
      (λ outside. map sent_to_peer outside.streams ≡ map sent_to_peer half.streams)

-- a reactor that wasn't set up: nothing but that changed, and want of memory may come before it is
-- asked
abbrev pub SetupIsRefused : SetupFault → ReactorState → ReactorState → Type 0
SetupIsRefused setup_fault.Failed old new = new ≡ state_refused old
SetupIsRefused setup_fault.NoMemory old new = (new ≡ old) ⊎ (new ≡ state_refused old)

-- only a failure raises the count of faults
abbrev pub CountsRefusal : SetupFault → ℕ → ℕ → Type 0
CountsRefusal setup_fault.Failed old new = Rose old new
CountsRefusal setup_fault.NoMemory old new = new ≡ old
