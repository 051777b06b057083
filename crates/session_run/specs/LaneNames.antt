-- The names of a session on a context without a lock.
use Rattle.std.specs.Prelude.{Bool}
use Rattle.session_script.specs.Script.{ScriptModel}
use Rattle.op_handlers.specs.Marks.{Marks}
use Rattle.op_handlers.specs.declared.rack.Rack.{Rack}
use Rattle.lane_logs.specs.Names.{SessionNames}
use Rattle.session_run.specs.RackMarks.{drop_mark, rack_run_mark}

-- the script, whether bytes are told, and the marks that the handlers of the rack have
abbrev pub names_of : {H : Type 0} → (H → Marks) → ScriptModel → Bool → Rack H → SessionNames
names_of marks script told rack = record {
  script = script;
  told = told;
  run = rack_run_mark marks rack;
  drop = drop_mark marks rack;
}
