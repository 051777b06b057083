-- An object that bytes come from or go to, as it is seen before and after a call.
use Rattle.std.specs.Prelude.{ℕ, List, Option}
use Rattle.asio_types.specs.Faults.{Rose}
use Rattle.asio_types.specs.Sink.{Extends, ExtendsByPart}

-- an object: what it told, and how often it had failed
pub record Seen (T : Type 0) : Type 0 where
  pub told_before : Option T
  pub told_after : Option T
  pub faults_before : ℕ
  pub faults_after : ℕ

-- an object of which these two tell
abbrev pub seen_by : {X T : Type 0} → (X → Option T) → (X → ℕ) → X → X → Seen T
seen_by told faults before after =
    record {
      told_before = told before;
      told_after = told after;
      faults_before = faults before;
      faults_after = faults after;
    }

-- all of this was written
abbrev pub Writes : Seen (List ℕ) → List ℕ → Type 0
Writes sink text = Extends sink.told_before text sink.told_after

-- a first part of this was written, and the sink failed
abbrev pub WritesPart : Seen (List ℕ) → List ℕ → Type 0
WritesPart sink text =
    ExtendsByPart sink.told_before text sink.told_after × Rose sink.faults_before sink.faults_after
