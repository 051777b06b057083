-- What a name names of which nothing was said yet.
use Rattle.std.specs.Prelude.{[]}
use Rattle.atomic_table.specs.Seated.{TableId}
use Rattle.io_rules.specs.declared.limits.Limits.{Limits}

abbrev pub no_table : TableId
no_table = record { words = 0; slots = 0; views_name = 0; atom = 0; block = 0; offset = 0; slot_names = [] }

abbrev pub no_limits : Limits
no_limits = record {
  operations = 0;
  strands = 0;
  timers = 0;
  slots = 0;
  streams = 0;
  grant = 0;
  staged = 0;
  held = 0;
}
