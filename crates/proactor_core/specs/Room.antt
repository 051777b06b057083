-- That a proactor's tables have room for all acts that are still to come, so that no call of them
-- needs memory.
use Rattle.std.specs.Prelude.{◌≡◌, ◌≢◌, ◌<◌, ◌≤◌, ℕ, ◌+◌, Bool, true, false, not, All, Some, length, filter, count_by}
use Rattle.std.specs.List.{slice_index_or}
use Rattle.session_script.specs.declared.act.Act.{Act}
use Rattle.session_script.specs.Script.{ScriptModel, act_of}
use Rattle.history_rules.specs.Performing.{is_wait_of}
use Rattle.history_rules.specs.declared.wait.Wait.{Wait}
use Rattle.proactor_core.specs.Due.{listed}
use Rattle.proactor_core.specs.Rooms.{untaken_below, waits_for}
use Rattle.proactor_core.specs.Tables.{TableState, act_taken, timer_set, wait_begun, waits_completed}
use Rattle.proactor_core.specs.Waits.{aborts, without}

-- where so many operations of streams are pending
pub record HasRoomLeft (script : ScriptModel) (streams : ℕ) (s : TableState) : Type 0 where
  pub acts : s.waiting.acts ≡ length s.taken
  pub waits_taken : All (λ wait. slice_index_or s.taken wait.op false ≡ true) s.waiting.waits
  pub rooms : (timer : ℕ) → timer < length s.waiting.expiries →
      length (filter (is_wait_of timer) s.waiting.waits)
      + untaken_below (waits_for timer) script s.taken (length s.taken)
      ≤ slice_index_or s.waiting.rooms timer 0
  pub counted : s.waiting.accepted + count_by not s.taken ≤ length s.taken
  pub accepted : s.accepted + count_by not s.taken ≤ length s.taken
  pub spare : length s.waiting.waits + streams + count_by not s.taken ≤ s.due.spare

-- an act that wasn't taken
pub record IsUntaken (a : ℕ) (s : TableState) : Type 0 where
  pub within : a < length s.taken
  pub untaken : slice_index_or s.taken a false ≡ false

-- a wait of that timer may begin
pub record MayWait (op timer : ℕ) (s : TableState) : Type 0 where
  pub within : op < s.waiting.acts
  pub new : All (λ wait. wait.op ≢ op) s.waiting.waits
  pub room : length (filter (is_wait_of timer) s.waiting.waits)
      < slice_index_or s.waiting.rooms timer 0
  pub few : s.waiting.accepted < s.waiting.acts

-- an act that wasn't taken waits for this timer
pub record AsksToWait (script : ScriptModel) (a timer : ℕ) (s : TableState) : Type 0 where
  pub untaken : IsUntaken a s
  pub act : Act
  pub is_act : act_of script a ≡ Some act
  pub waits : waits_for timer act ≡ true
  pub known : timer < length s.waiting.expiries

-- each call leaves the room that later ones need
pub record CallsKeepRoom (script : ScriptModel) (streams : ℕ) (s : TableState) : Type 0 where
  pub may_wait : (a timer : ℕ) → AsksToWait script a timer s → MayWait a timer s
  pub wait : (a timer : ℕ) → AsksToWait script a timer s →
      HasRoomLeft script streams (act_taken a (wait_begun a timer s))
  pub stream : (a : ℕ) → IsUntaken a s → HasRoomLeft script (streams + 1) (act_taken a s)
  pub cancel : (test : Wait → Bool) →
      HasRoomLeft script streams
      (record s { waiting = without test s.waiting; due = listed (aborts test s.waiting) s.due })
  pub expiry : (timer expiry : ℕ) → HasRoomLeft script streams (timer_set timer expiry s)
  pub complete : HasRoomLeft script streams (waits_completed s)
