-- A replay of a history.
use Rattle.std.specs.Prelude.{◌≡◌, ◌<◌, ◌≤◌, ℕ, ◌+◌, Bool, List, length, map, sum_by}
use Rattle.std.specs.List.{slice_index_or}
use Rattle.std.specs.Global.{Vec}
use Rattle.std.specs.Vec.{vec_capacity}
use Rattle.session_script.specs.Script.{ScriptModel}
use Rattle.stream_rules.specs.declared.queue.Completion.{Completion}
use Rattle.history_book.specs.Asking.{AreQueues, queues_of}
use Rattle.history_book.specs.Played.{Played}
use Rattle.history_book.specs.QueueRoom.{ops_on}
use Rattle.history_book.specs.declared.asking.Queues.{Queues}
use Rattle.history_rules.specs.Bounds.{pending_in}
use Rattle.history_rules.specs.State.{ReactorHalf, State, StreamQueues}
use Rattle.history_rules.specs.declared.wait.Wait.{Wait}

pub record Replayed : Type 0 where
  -- the script that the events are held to
  pub script : ScriptModel
  -- whether the reactor tells its bytes
  pub told : Bool
  -- the state after the events so far
  pub state : State

-- the reactor's half of a replay
pub record ReactorReplayed : Type 0 where
  pub script : ScriptModel
  pub told : Bool
  pub half : ReactorHalf

-- the world is the script's, each stream has its queues with room for its operations, and there is
-- room for all acts
pub record IsRoomy (script : ScriptModel) (world : Played) (waits : Vec Wait) (queues : List Queues)
    (due : Vec Completion) : Type 0 where
  pub same_lines : world.lines ≡ script.world.lines
  pub paired : length queues ≤ length world.streams
  pub each : (stream : ℕ) (any : Queues) → stream < length queues →
      AreQueues script (ops_on script stream) (slice_index_or queues stream any)
  pub waits_room : length script.acts ≤ vec_capacity waits
  pub due_room : length script.acts ≤ vec_capacity due
  pub pending : pending_in waits.items (map (queues_of script) queues) due.items
      ≤ length script.acts
