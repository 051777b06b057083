-- Turns of strands that have ended.
use Rattle.std.proofs.Common.{◌≡◌, ◌<◌, ℕ, List, [], subst, arith}
use Rattle.std.specs.List.{Contains}
use Rattle.std.specs.Prelude.{◌⊎◌, ◌==◌, if◌then◌else◌, Option, Some, None, nat_eq}
use Rattle.std.specs.HashMap.{get}
use Rattle.run_lines.specs.declared.line.Line.{Line}
use Rattle.run_forced.specs.declared.turns.Ended.{Ended}
use Rattle.run_forced.specs.declared.turns.Turns.{Turns}
use Rattle.run_forced.specs.Turns.{HasEnded, HaveEnded}
use Rattle.run_forced.proofs.SourceLemmas.{table_less, table_put}

pub turns_less : (run : List Line) (strand : ℕ) (old new : Turns)
    → ((other : ℕ) → get nat_eq new.by_strand other ≡ (if strand == other then None else get nat_eq old.by_strand other))
    → HaveEnded run old → HaveEnded run new
turns_less run strand old new is have =
    table_less (λ (k : ℕ) (v : _). (ended : Ended) → Contains v.items ended → HasEnded run k ended) (λ k. get nat_eq old.by_strand k)
    (λ k. get nat_eq new.by_strand k) strand is have

pub turns_put : (run : List Line) (strand : ℕ) (old new : Turns) (list : _)
    → ((other : ℕ) → get nat_eq new.by_strand other ≡ (if strand == other then Some list else get nat_eq old.by_strand other))
    → HaveEnded run old → ((ended : Ended) → Contains list.items ended → HasEnded run strand ended) → HaveEnded run new
turns_put run strand old new list is have here =
    table_put (λ (k : ℕ) (v : _). (ended : Ended) → Contains v.items ended → HasEnded run k ended) (λ k. get nat_eq old.by_strand k)
    (λ k. get nat_eq new.by_strand k) strand list is have here

pub none_taken : (ended : Ended) (list : List Ended) → list ≡ [] → Contains list ended → ⊥
none_taken ended list none contains =
    let within = (subst (λ (l : List Ended). Contains l ended) none contains).1 in absurd (no_less within)
  where
    no_less : {n : ℕ} → n < 0 → ⊥
    no_less less = absurd (omega arith)
