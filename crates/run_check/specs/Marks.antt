-- The marks that the checker keeps.
use Rattle.std.specs.Prelude.{ℕ, Bool, nat_eq}
use Rattle.std.specs.HashSet.{contains}
use Rattle.run_check.specs.declared.marks.Marks.{Marks}

abbrev pub has_mark : Marks → ℕ → Bool
has_mark kept mark = contains nat_eq kept.numbers mark
