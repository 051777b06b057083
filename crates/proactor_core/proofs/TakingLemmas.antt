-- What taking an act leaves: room, and the half of a history's state.
use Rattle.std.proofs.Common.{◌≡◌, ℕ, ◌+◌, ◌≤◌, Bool, true, false, not, List, [], Option, Some, None, filter, get_or, set, refl, sym, ap, ◌∙◌, arith}
use Rattle.std.proofs.lemmas.List.{get_or_default, length-append, length-map, length-set}
use Rattle.std.proofs.lemmas.List.Elements.{All-set}
use Rattle.std.proofs.lemmas.List.Filters.{length-filter_both}
use Rattle.asio_types.specs.Faults.{one_more}
use Rattle.cancel_slots.specs.declared.connection.Connection.{Connection}
use Rattle.session_script.specs.Script.{ScriptModel}
use Rattle.stream_rules.specs.World.{times_after}
use Rattle.history_rules.specs.Performing.{aborted, connected, is_wait_for, is_wait_of, with_taken}
use Rattle.history_rules.specs.State.{ReactorHalf}
use Rattle.history_rules.specs.Bounds.{latest}
use Rattle.history_rules.specs.declared.wait.Wait.{Wait}
use Rattle.reactor_trait.specs.Reactor.{Outside, ReactorState}
use Rattle.proactor_core.specs.Due.{listed}
use Rattle.proactor_core.specs.Following.{IsConnected}
use Rattle.proactor_core.specs.Proactor.{FitScript, HasRoomForActs, HaveStreamRoom, IsAt, IsTurning, IsWithinBounds, ProactorView}
use Rattle.proactor_core.specs.Room.{AsksToWait, HasRoomLeft, IsUntaken}
use Rattle.proactor_core.specs.StreamRooms.{is_on_side}
use Rattle.proactor_core.specs.declared.stream_rooms.StreamSide.TheVariants as side
use Rattle.proactor_core.specs.Streams.{StreamView, pending_in_all}
use Rattle.proactor_core.specs.Tables.{TableState, act_taken, guard_gone, slot_taken, timer_set, wait_begun, with_tables}
use Rattle.proactor_core.specs.Waits.{abort_of_one, aborts, without, without_one}
use Rattle.proactor_core.specs.Works.{with_works}
use Rattle.proactor_core.proofs.AtLemmas.{clock_of, tabled, tables-step}
use Rattle.proactor_core.proofs.FollowingLemmas.{follows}
use Rattle.proactor_core.proofs.RoomLemmas.{count-taken, keeps-room, less-untaken}

-- room for more is room for fewer
pub room-weaker : (script : ScriptModel) (n m : ℕ) (s : TableState) → n ≤ m → HasRoomLeft script m s →
    HasRoomLeft script n s
room-weaker script n m s less room =
    let spare = room.spare in
    record {
      acts = room.acts;
      waits_taken = room.waits_taken;
      rooms = room.rooms;
      counted = room.counted;
      accepted = room.accepted;
      spare = omega arith;
    }

pub untaken-true : (s : TableState) (a : ℕ) → IsUntaken a s → get_or s.taken a true ≡ false
untaken-true s a un = get_or_default s.taken a true false un.within ∙ un.untaken

-- one more act was taken
pub accepts : (script : ScriptModel) (s : TableState) (streams : List StreamView) (a : ℕ) →
    HasRoomForActs script s streams → IsUntaken a s → one_more s.accepted ≡ s.accepted + 1
accepts script s streams a room un =
    let accepted = room.tables.accepted in
    let most = room.fit.most in
    let acts = room.fit.taken in
    let total = count-taken s.taken a un.within un.untaken in
    omega arith

taken-queues : (script : ScriptModel) (s : TableState) (streams : List StreamView) (a : ℕ) → IsUntaken a s →
    HaveStreamRoom script s.taken streams → HaveStreamRoom script (set s.taken a true) streams
taken-queues script s streams a un room =
    let long = length-set s.taken a true in
    record {
      reads = λ n b.
          let before = room.reads n b in
          let less = less-untaken (is_on_side side.Reads n) script s.taken a un.within (untaken-true s a un) in
          rw long (omega arith);
      writes = λ n b.
          let before = room.writes n b in
          let less = less-untaken (is_on_side side.Writes n) script s.taken a un.within (untaken-true s a un) in
          rw long (omega arith);
      sizes = room.sizes;
    }

pub taken-fit : (script : ScriptModel) (s : TableState) (streams : List StreamView) (a : ℕ) →
    FitScript script s.taken s.waiting.expiries s.slots s.guards streams →
    FitScript script (set s.taken a true) s.waiting.expiries s.slots s.guards streams
taken-fit script s streams a fit = record {
  most = fit.most;
  few = fit.few;
  taken = length-set s.taken a true ∙ fit.taken;
  expiries = fit.expiries;
  slots = fit.slots;
  guards = fit.guards;
  streams = fit.streams;
}

pub taken-within : (script : ScriptModel) (s : TableState) (streams : List StreamView) (a : ℕ) →
    HasRoomForActs script s streams → IsUntaken a s →
    IsWithinBounds script (one_more s.accepted) s.time s.waiting.expiries s.due
taken-within script s streams a room un =
    let more = accepts script s streams a room un in
    let now = room.within.now in
    record {
      due = room.within.due;
      now = omega arith;
      expiries = λ k d b. let here = room.within.expiries k d b in omega arith;
    }

-- an act that asks for nothing more was taken
pub act-room : (script : ScriptModel) (s : TableState) (streams : List StreamView) (a : ℕ) →
    HasRoomForActs script s streams → IsUntaken a s → HasRoomForActs script (act_taken a s) streams
act-room script s streams a room un = record {
  fit = taken-fit script s streams a room.fit;
  tables =
      room-weaker script (pending_in_all streams) (pending_in_all streams + 1) (act_taken a s) (omega arith)
      ((keeps-room script (pending_in_all streams) s room.tables).stream a un);
  queues = taken-queues script s streams a un room.queues;
  connected = room.connected;
  within = taken-within script s streams a room un;
  working = room.working;
}

-- a wait was taken
pub wait-room : (script : ScriptModel) (s : TableState) (streams : List StreamView) (a timer : ℕ) →
    HasRoomForActs script s streams → AsksToWait script a timer s →
    HasRoomForActs script (act_taken a (wait_begun a timer s)) streams
wait-room script s streams a timer room asks =
    let taken = act-room script s streams a room asks.untaken in
    record {
      fit = taken.fit;
      tables = (keeps-room script (pending_in_all streams) s room.tables).wait a timer asks;
      queues = taken.queues;
      connected = taken.connected;
      within = taken.within;
      working = taken.working;
    }

-- waits were cancelled
pub cancel-room : (script : ScriptModel) (s : TableState) (streams : List StreamView) (test : Wait → Bool) →
    HasRoomForActs script s streams →
    HasRoomForActs script (record s { waiting = without test s.waiting; due = listed (aborts test s.waiting) s.due })
    streams
cancel-room script s streams test room =
    let count = length-map (filter test s.waiting.waits) (λ (wait : Wait). aborted wait.op 0) in
    let long = length-append s.due.coming (aborts test s.waiting) in
    let fewer = length-filter_both test (λ wait. not (test wait)) (λ wait. refl) s.waiting.waits in
    let spare = room.tables.spare in
    let due = room.within.due in
    record {
      fit = room.fit;
      tables = (keeps-room script (pending_in_all streams) s room.tables).cancel test;
      queues = room.queues;
      connected = room.connected;
      within = record { due = omega arith; now = room.within.now; expiries = room.within.expiries };
      working = room.working;
    }

-- one wait was cancelled, if there is one
pub first-room : (script : ScriptModel) (s : TableState) (streams : List StreamView) (found : Option Wait) →
    HasRoomForActs script s streams →
    HasRoomForActs script
    (record s { waiting = without_one found s.waiting; due = listed (abort_of_one found s.waiting) s.due }) streams
first-room script s streams None room =
    let long = length-append s.due.coming [] in
    let left = room.tables in
    let due = room.within.due in
    record {
      fit = room.fit;
      tables =
          record {
            acts = left.acts;
            waits_taken = left.waits_taken;
            rooms = left.rooms;
            counted = left.counted;
            accepted = left.accepted;
            spare = let spare = left.spare in omega arith;
          };
      queues = room.queues;
      connected = room.connected;
      within = record { due = omega arith; now = room.within.now; expiries = room.within.expiries };
      working = room.working;
    }
first-room script s streams (Some wait) room = cancel-room script s streams (is_wait_for wait.op) room

-- a guard holds the context no more
pub guard-room : (script : ScriptModel) (s : TableState) (streams : List StreamView) (guard : ℕ) →
    HasRoomForActs script s streams → HasRoomForActs script (guard_gone guard s) streams
guard-room script s streams guard room =
    let fit = room.fit in
    let left = room.tables in
    record {
      fit =
          record {
            most = fit.most;
            few = fit.few;
            taken = fit.taken;
            expiries = fit.expiries;
            slots = fit.slots;
            guards = length-set s.guards guard false ∙ fit.guards;
            streams = fit.streams;
          };
      tables =
          record {
            acts = left.acts;
            waits_taken = left.waits_taken;
            rooms = left.rooms;
            counted = left.counted;
            accepted = left.accepted;
            spare = left.spare;
          };
      queues = room.queues;
      connected = room.connected;
      within = room.within;
      working = room.working;
    }

-- an operation of the script is connected
pub connect-room : (script : ScriptModel) (s : TableState) (streams : List StreamView) (slot : Option ℕ)
    (op types : ℕ) → IsConnected script (Some (record { op = op; supported = types })) →
    HasRoomForActs script s streams → HasRoomForActs script (slot_taken slot op types s) streams
connect-room script s streams None op types is room = room
connect-room script s streams (Some slot) op types is room =
    let fit = room.fit in
    let left = room.tables in
    let there : Option Connection = Some (record { op = op; supported = types }) in
    record {
      fit =
          record {
            most = fit.most;
            few = fit.few;
            taken = fit.taken;
            expiries = fit.expiries;
            slots = length-set s.slots slot there ∙ fit.slots;
            guards = fit.guards;
            streams = fit.streams;
          };
      tables =
          record {
            acts = left.acts;
            waits_taken = left.waits_taken;
            rooms = left.rooms;
            counted = left.counted;
            accepted = left.accepted;
            spare = left.spare;
          };
      queues = room.queues;
      connected = All-set (IsConnected script) s.slots slot there is room.connected;
      within = room.within;
      working = room.working;
    }

-- a timer was given an expiry, and the act was taken
pub expiry-room : (script : ScriptModel) (s : TableState) (streams : List StreamView) (a timer expiry : ℕ) →
    expiry ≤ latest (s.accepted + 1) → HasRoomForActs script s streams → IsUntaken a s →
    HasRoomForActs script (act_taken a (timer_set timer expiry s)) streams
expiry-room script s streams a timer expiry within room un =
    let cancelled = cancel-room script s streams (is_wait_of timer) room in
    let taken =
    act-room script
    (record s
    { waiting = without (is_wait_of timer) s.waiting; due = listed (aborts (is_wait_of timer) s.waiting) s.due })
    streams a cancelled (record { within = un.within; untaken = un.untaken }) in
    let fit = taken.fit in
    let more = accepts script s streams a room un in
    let keeps = (keeps-room script (pending_in_all streams) s room.tables).expiry timer expiry in
    record {
      fit =
          record {
            most = fit.most;
            few = fit.few;
            taken = fit.taken;
            expiries = length-set s.waiting.expiries timer expiry ∙ fit.expiries;
            slots = fit.slots;
            guards = fit.guards;
            streams = fit.streams;
          };
      tables =
          room-weaker script (pending_in_all streams) (pending_in_all streams + 1)
          (act_taken a (timer_set timer expiry s)) (omega arith)
          ((keeps-room script (pending_in_all streams) (timer_set timer expiry s) keeps).stream a
          (record { within = un.within; untaken = un.untaken }));
      queues = taken.queues;
      connected = taken.connected;
      within = record {
        due = taken.within.due;
        now = taken.within.now;
        expiries =
            All-set (λ e. e ≤ latest (one_more s.accepted)) s.waiting.expiries timer expiry (omega arith) taken.within.expiries;
      };
      working = taken.working;
    }

-- the tables changed alone, and the time is as it was
pub tables-turning : {X : Type 0} (state : X → ReactorState) (told : X → Option Outside) (view : ProactorView X)
    (s : TableState) → clock_of s ≡ clock_of view.tables → HasRoomForActs view.script s view.streams →
    IsTurning state told view → IsTurning state told (tabled s view)
tables-turning state told view s clock room turning = record {
  room = room;
  step = record {
    now = turning.step.now ∙ sym (ap (λ c. c.0) clock);
    times = turning.step.times ∙ ap (λ c. times_after c.0 view.script.world.lines) (sym clock);
    last = turning.step.last ∙ sym (ap (λ c. c.1) clock);
    servable = turning.step.servable;
  };
}

-- an act was taken after what it does to the tables
pub taken-step : {X : Type 0} (told : X → Option Outside) (view : ProactorView X) (s : TableState)
    (half after : ReactorHalf) (a : ℕ) → s.time ≡ view.tables.time →
    with_tables s (with_works view.tables view.streams half) ≡ after → IsAt told view half →
    IsAt told (tabled (act_taken a s) view) (with_taken a after)
taken-step told view s half after a time step is =
    tables-step told view (act_taken a s) half (with_taken a after) time
    ((follows view.script s (with_works view.tables view.streams half)).take a ∙ ap (with_taken a) step) is

-- an operation was connected to its slot
pub connect-step : {X : Type 0} (told : X → Option Outside) (view : ProactorView X) (half : ReactorHalf)
    (slot : Option ℕ) (op types : ℕ) → IsAt told view half →
    IsAt told (tabled (slot_taken slot op types view.tables) view) (connected slot op half)
connect-step told view half slot op types is =
    tables-step told view (slot_taken slot op types view.tables) half (connected slot op half)
    (slot-time slot op types view.tables)
    ((follows view.script view.tables (with_works view.tables view.streams half)).connect slot op types
    ∙ ap (connected slot op) is.works) is
  where
    slot-time : (slot : Option ℕ) (op types : ℕ) (s : TableState) → (slot_taken slot op types s).time ≡ s.time
    slot-time None op types s = refl
    slot-time (Some slot) op types s = refl

pub connect-turning : {X : Type 0} (state : X → ReactorState) (told : X → Option Outside) (view : ProactorView X)
    (slot : Option ℕ) (op types : ℕ) → IsConnected view.script (Some (record { op = op; supported = types })) →
    IsTurning state told view → IsTurning state told (tabled (slot_taken slot op types view.tables) view)
connect-turning state told view None op types is turning = turning
connect-turning state told view (Some slot) op types is turning =
    tables-turning state told view (slot_taken (Some slot) op types view.tables) refl
    (connect-room view.script view.tables view.streams (Some slot) op types is turning.room) turning

pub connect-taken : (slot : Option ℕ) (op types : ℕ) (s : TableState) → (slot_taken slot op types s).taken ≡ s.taken
connect-taken None op types s = refl
connect-taken (Some slot) op types s = refl
