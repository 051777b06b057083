-- The names that are kept.
use Rattle.std.specs.Prelude.{ℕ, Bool, true, false, List, Option}
use Rattle.run_lines.specs.declared.name.Kind.{Kind}
use Rattle.run_lines.specs.declared.name.Kind.TheVariants as kind
use Rattle.run_names.specs.Table.{text_at}
use Rattle.run_names.specs.declared.names.Names.{Names}

abbrev pub same_kind : Kind → Kind → Bool
same_kind kind.Strand kind.Strand = true
same_kind kind.Thing kind.Thing = true
same_kind kind.Op kind.Op = true
same_kind kind.Thread kind.Thread = true
same_kind kind.Context kind.Context = true
same_kind kind.Lock kind.Lock = true
same_kind kind.Mark kind.Mark = true
same_kind _ _ = false

-- the name of what has this number among its kind
abbrev pub name_at : Names → Kind → ℕ → Option (List ℕ)
name_at kept kind.Strand number = text_at kept.strands number
name_at kept kind.Thing number = text_at kept.things number
name_at kept kind.Op number = text_at kept.ops number
name_at kept kind.Thread number = text_at kept.threads number
name_at kept kind.Context number = text_at kept.contexts number
name_at kept kind.Lock number = text_at kept.locks number
name_at kept kind.Mark number = text_at kept.marks number
