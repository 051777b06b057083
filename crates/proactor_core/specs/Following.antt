-- What the calls of the tables do is what the definitions of a history say of the reactor's half,
-- whatever its streams are.
use Rattle.std.specs.Prelude.{◌≡◌, ℕ, Option, Some, None, find, bit_and}
use Rattle.session_script.specs.declared.act.Act.{Act}
use Rattle.session_script.specs.Script.{ScriptModel, act_of}
use Rattle.cancel_slots.specs.declared.connection.Connection.{Connection}
use Rattle.cancel_slots.specs.Slots.{chosen_by}
use Rattle.history_rules.specs.Kinds.{filter_of, supported_by}
use Rattle.history_rules.specs.Performing.{connected, emitted, expiry_set, guard_released, is_wait_for, is_wait_of, one_wait_cancelled, operation_cancelled, wait_accepted, waits_cancelled, with_taken}
use Rattle.history_rules.specs.Requests.{disconnected}
use Rattle.history_rules.specs.Settling.{with_waits_served}
use Rattle.history_rules.specs.State.{ReactorHalf}
use Rattle.history_rules.specs.Time.{reactor_after_fault}
use Rattle.proactor_core.specs.Tables.{TableState, act_taken, first_cancelled, guard_gone, op_in, reactor_lost, slot_left, slot_taken, timer_cancelled, timer_set, wait_begun, wait_cancelled, waits_completed, with_tables}

-- an operation that an emit has chosen is cancelled, by what its act is
abbrev pub chosen_cancelled : ScriptModel → Option ℕ → ReactorHalf → ReactorHalf
chosen_cancelled script None half = half
chosen_cancelled script (Some op) half = cancelled_by (act_of script op) op half
  where
    cancelled_by : Option Act → ℕ → ReactorHalf → ReactorHalf
    cancelled_by None op half = half
    cancelled_by (Some act) op half = operation_cancelled act op half

-- what is connected to a slot is an operation of the script, with the types that it supports and
-- lets through
abbrev pub IsConnected : ScriptModel → Option Connection → Type 0
IsConnected script None = Unit {0}
IsConnected script (Some there) =
    (act : Act) × (act_of script there.op ≡ Some act)
    × (there.supported ≡ bit_and (supported_by act) (filter_of act))

pub record FollowsHistories (script : ScriptModel) (s : TableState) (half : ReactorHalf)
    : Type 0 where
  pub wait : (op timer : ℕ) →
      with_tables (wait_begun op timer s) half ≡ wait_accepted op timer (with_tables s half)
  pub expiry : (timer expiry : ℕ) →
      with_tables (timer_set timer expiry s) half ≡ expiry_set timer expiry (with_tables s half)
  pub cancel : (timer : ℕ) →
      with_tables (timer_cancelled timer s) half
      ≡ waits_cancelled (is_wait_of timer) (with_tables s half)
  pub cancel_one : (timer : ℕ) →
      with_tables (first_cancelled timer s) half
      ≡ one_wait_cancelled (find (is_wait_of timer) s.waiting.waits) (with_tables s half)
  pub cancel_wait : (op : ℕ) →
      with_tables (wait_cancelled op s) half ≡ waits_cancelled (is_wait_for op) (with_tables s half)
  pub connect : (slot : Option ℕ) (op types : ℕ) →
      with_tables (slot_taken slot op types s) half ≡ connected slot op (with_tables s half)
  pub disconnect : (slot : Option ℕ) (op : ℕ) →
      with_tables (slot_left slot op s) half ≡ disconnected op slot (with_tables s half)
  pub emit : (there : Option Connection) (types : ℕ) → IsConnected script there →
      emitted script (op_in there) types (with_tables s half)
      ≡ chosen_cancelled script (chosen_by there types) (with_tables s half)
  pub release : (guard : ℕ) →
      with_tables (guard_gone guard s) half ≡ guard_released guard (with_tables s half)
  pub take : (a : ℕ) → with_tables (act_taken a s) half ≡ with_taken a (with_tables s half)
  pub settle : with_tables (waits_completed s) half ≡ with_waits_served (with_tables s half)
  pub fault : with_tables (reactor_lost s) half ≡ reactor_after_fault (with_tables s half)
