-- What a socket is registered as: the place of its name in the lower half, the generation in the upper.
use Rattle.std.specs.Prelude.{ℕ, ◌+◌, ◌*◌, ◌/◌, ◌%◌}
use Rattle.io_rules.specs.declared.name.Name.{Name}

-- how many places there can be
abbrev pub most_places : ℕ
most_places = 0x100000000

abbrev pub token_of : Name → ℕ
token_of name = name.generation * most_places + name.place

abbrev pub name_at : ℕ → Name
name_at token = record { place = token % most_places; generation = token / most_places }
