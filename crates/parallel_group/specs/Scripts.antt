-- The script of some group.
use Rattle.std.specs.Prelude.{◌≡◌, ℕ}
use Rattle.session_script.specs.Script.{ScriptModel}
use Rattle.group_script.specs.Group.{Group, script_of}
use Rattle.group_script.specs.Limits.{FitsGroup}

pub record IsGroupScript (script : ScriptModel) (workers : ℕ) : Type 0 where
  pub group : Group
  pub fits : FitsGroup group
  pub is : script ≡ script_of group
  pub workers_are : group.workers ≡ workers
