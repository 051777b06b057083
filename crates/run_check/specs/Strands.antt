-- The strands that run something.
use Rattle.std.specs.Prelude.{ℕ, Option, nat_eq}
use Rattle.std.specs.HashMap.{get}
use Rattle.run_check.specs.declared.strands.Strands.{Strands}

abbrev pub holder_of : Strands → ℕ → Option ℕ
holder_of kept strand = get nat_eq kept.holders strand
