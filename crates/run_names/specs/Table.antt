-- Names of one kind.
use Rattle.std.specs.Prelude.{ℕ, List, Option, nat_eq}
use Rattle.std.specs.HashMap.{get}
use Rattle.std.specs.Option.{option_map}
use Rattle.run_names.specs.declared.table.NameTable.{NameTable}

abbrev pub text_at : NameTable → ℕ → Option (List ℕ)
text_at kept number = option_map (λ text. text.items) (get nat_eq kept.texts number)
