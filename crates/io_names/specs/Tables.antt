-- The tables of all kinds, as the rules have them.
use Rattle.std.specs.Prelude.{ℕ, List}
use Rattle.io_rules.specs.declared.name.Name.{Name}
use Rattle.io_rules.specs.declared.place.Place.{Place}
use Rattle.io_rules.specs.Names.{Names, place_at}
use Rattle.io_names.specs.declared.names.NameTables.{NameTables}

abbrev pub names_of : NameTables → Names
names_of tables = record {
  strands = tables.strands;
  timers = tables.timers;
  slots = tables.slots;
  streams = tables.streams;
}

-- the name of what is at a place
abbrev pub name_at : List Place → ℕ → Name
name_at places place =
    record { place = place; generation = (place_at places place).generation }
