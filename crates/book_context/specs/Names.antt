-- What stands for the names of a session where nobody picked them.
use Rattle.std.specs.Prelude.{[]}
use Rattle.session_script.specs.Script.{ScriptModel}
-- whether a reactor tells its bytes
pub use Rattle.proactor_core.specs.Proactor.{tells}

-- no act, no world and no round
abbrev pub no_script : ScriptModel
no_script = record {
  version = 1;
  strands = 0;
  timers = 0;
  slots = 0;
  guards = 0;
  acts = [];
  world = record { streams = 0; lines = [] };
  rounds = [];
}
