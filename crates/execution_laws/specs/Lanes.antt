-- What the lanes of a session may begin while it isn't stopped.
use Rattle.std.specs.Prelude.{◌≡◌, ℕ, false, List, length}
use Rattle.session_script.specs.Script.{ScriptModel}
use Rattle.session_script.specs.Lanes.{lane_of}
use Rattle.session_script.specs.WellFormed.{IsWellFormed}
use Rattle.history_rules.specs.declared.phase.Allowance.TheVariants as allowance
use Rattle.history_rules.specs.Requests.{turn_begun}
use Rattle.history_rules.specs.Rounds.{after_restart}
use Rattle.history_rules.specs.State.{ContextState, all_lanes}
use Rattle.history_rules.specs.Stopping.{MayStart}
use Rattle.strand_core.specs.declared.posted.Posted.{Posted}
use Rattle.execution_laws.specs.Executed.{IsExecuted}
use Rattle.execution_laws.specs.Opened.{IsOpened}

-- a context that isn't stopped lets each lane begin any number
pub record IsFreeUnlessStopped (script : ScriptModel) (s : ContextState) : Type 0 where
  pub lanes : length s.allowances.strands ≡ script.strands
  pub free : s.stopped ≡ false → s.allowances ≡ all_lanes allowance.Free script.strands

abbrev pub OpeningsLeaveLanesFree : Type 0
OpeningsLeaveLanesFree =
    (script : ScriptModel) (calls : List Posted) (t : ContextState) → IsOpened script calls t →
    IsFreeUnlessStopped script t

abbrev pub ExecutionsLeaveLanesFree : Type 0
ExecutionsLeaveLanesFree =
    (script : ScriptModel) (op : ℕ) (calls : List Posted) (s t : ContextState) →
    IsFreeUnlessStopped script s → IsExecuted script op calls s t → IsFreeUnlessStopped script t

abbrev pub TurnsLeaveLanesFree : Type 0
TurnsLeaveLanesFree =
    (script : ScriptModel) (s : ContextState) → IsFreeUnlessStopped script s →
    IsFreeUnlessStopped script (turn_begun s)

abbrev pub RestartsFreeLanes : Type 0
RestartsFreeLanes =
    (script : ScriptModel) (s : ContextState) → length s.allowances.strands ≡ script.strands →
    IsFreeUnlessStopped script (after_restart s)

-- a lane of the script that is free may begin something
abbrev pub FreeLanesMayStart : Type 0
FreeLanesMayStart =
    (script : ScriptModel) (s : ContextState) (n : ℕ) →
    IsWellFormed script → IsFreeUnlessStopped script s → s.stopped ≡ false →
    MayStart s (lane_of script n)
