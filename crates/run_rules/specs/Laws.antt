-- What follows from the rules of runs.
use Rattle.std.specs.Prelude.{◌≡◌, ◌≢◌, ◌≤◌, ◌+◌, ℕ, List, [], ◌∷◌, true, ◌||◌, if◌then◌else◌, length, Some, IsSome}
use Rattle.run_lines.specs.declared.code.Code.{Code}
use Rattle.run_lines.specs.declared.line.Line.{Line}
use Rattle.run_rules.specs.declared.level.Level.{Level}
use Rattle.run_rules.specs.declared.level.Strictness.TheVariants.{Plain}
use Rattle.run_rules.specs.declared.taking.Resource.{Resource}
use Rattle.run_rules.specs.Calls.{Waits, begins, drops, call_of, strand_of, is_begun, is_dropped}
use Rattle.run_rules.specs.Takings.{has_taken}
use Rattle.run_rules.specs.Stacks.{stack}
use Rattle.run_rules.specs.Strict.{IsStrict, MayBeginStrictly}
use Rattle.run_rules.specs.StrictOrder.{GoesAhead, readiness}
use Rattle.run_rules.specs.Starting.{Holds, IsInside, IsPlacedBefore}
use Rattle.run_rules.specs.MayCome.{MayBegin}
use Rattle.run_rules.specs.Legal.{IsLegalSoFar, IsWhole}

-- how often the handler of an operation was called or destroyed
abbrev pub times_spent : List Line → ℕ → ℕ
times_spent [] op = 0
times_spent (line ∷ past) op = (if begins line.does op || drops line.does op then 1 else 0) + times_spent past op

abbrev pub SpendOnce : Level → List Line → Type 0
SpendOnce level past = IsLegalSoFar level past → (op : ℕ) → times_spent past op ≤ 1

abbrev pub SpendEach : Level → List Line → Type 0
SpendEach level past = IsLegalSoFar level past → IsWhole past → (op : ℕ) → IsSome (call_of past op) → times_spent past op ≡ 1

abbrev pub RunOneAtATime : Level → List Line → Type 0
RunOneAtATime level past = IsLegalSoFar level past → (strand one other : ℕ) → Holds past one strand →
    Holds past other strand → one ≡ other

-- in a strict run a thread executes one handler at a time
abbrev pub NestNothing : Level → List Line → Type 0
NestNothing level past = IsStrict level → IsLegalSoFar level past → (thread : ℕ) → length (stack past thread) ≤ 1

abbrev pub HoldAlone : Level → List Line → Type 0
HoldAlone level past = IsLegalSoFar level past → (resource : Resource) (one other : ℕ) →
    has_taken past one resource ≡ true → has_taken past other resource ≡ true → one ≡ other

-- an operation that may begin here, and not inside, finds all begun or dropped that was placed before its entry on its strand
abbrev pub KeepTheOrderOfCalls : Level → List Line → Type 0
KeepTheOrderOfCalls level past =
    level.strictness ≡ Plain → IsLegalSoFar level past → (thread op strand first : ℕ) (code : Code) (size : ℕ) →
    MayBegin level past thread op code size → ¬ (IsInside past thread op)
    → strand_of past op ≡ Some strand → strand_of past first ≡ Some strand → IsPlacedBefore past first op →
    (is_begun past first || is_dropped past first) ≡ true

-- in a strict run an operation that may begin here goes ahead of all others that are ready on its strand and wait
abbrev pub KeepTheStrictOrder : Level → List Line → Type 0
KeepTheStrictOrder level past =
    IsStrict level → IsLegalSoFar level past → (thread op strand other : ℕ) → MayBeginStrictly past thread op
    → strand_of past op ≡ Some strand → strand_of past other ≡ Some strand → Waits past other →
    IsSome (readiness past other) → other ≢ op → GoesAhead past op other
