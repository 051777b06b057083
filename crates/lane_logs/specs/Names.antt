-- A session of the context without a lock by its names: what its contracts speak of.
use Rattle.std.specs.Prelude.{◌≡◌, ℕ, Bool, false, []}
use Rattle.op_handlers.specs.declared.call.Call.{Call}
use Rattle.session_script.specs.Script.{ScriptModel}
use Rattle.lane_clock.specs.Seats.{ClockId}

pub record SessionNames : Type 0 where
  pub script : ScriptModel
  -- whether the reactor tells its bytes
  pub told : Bool
  -- the run mark, by what it is called with, and the drop mark of the handler of each operation
  pub run : ℕ → Call → ℕ
  pub drop : ℕ → ℕ

-- a handler's run mark is the one that is named
abbrev pub IsNamedMark : SessionNames → Call → ℕ → Type 0
IsNamedMark names call mark = mark ≡ names.run call.op call

-- no act, no world and no round
abbrev pub no_script : ScriptModel
no_script = record {
  version = 1;
  strands = 0;
  timers = 0;
  slots = 0;
  guards = 0;
  acts = [];
  world = record { streams = 0; lines = [] };
  rounds = [];
}

-- the names of a session that nobody named
abbrev pub no_names : SessionNames
no_names = record { script = no_script; told = false; run = λ op call. 0; drop = λ op. 0 }

-- and its clock, which has no words
abbrev pub no_clock : ClockId
no_clock = record {
  table = record {
    words = 0;
    slots = 0;
    views_name = 0;
    atom = 0;
    block = 0;
    offset = 0;
    slot_names = [];
  };
  plan = record { guards = 0; seats = 0; cells = [] };
}
