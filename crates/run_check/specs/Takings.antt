-- What the checker keeps of what is taken.
use Rattle.std.specs.Prelude.{◌≡◌, ◌≢◌, ◌+◌, ℕ, List, [], ◌∷◌, Bool, false, ◌==◌, ◌&&◌, if◌then◌else◌, length}
use Rattle.std.specs.List.{list_any}
use Rattle.run_rules.specs.declared.frame.Frame.{Frame}
use Rattle.run_rules.specs.declared.taking.Resource.{Resource}
use Rattle.run_rules.specs.declared.taking.Taking.{Taking}
use Rattle.run_rules.specs.Stacks.{same_frame}
use Rattle.run_rules.specs.Takings.{same_resource, same_taking}
use Rattle.run_check.specs.Counts.{count_of}
use Rattle.run_check.specs.declared.takings.Claimant.{Claimant}
use Rattle.run_check.specs.declared.takings.Takings.{Takings}

-- how many pass a test
abbrev pub times : (Taking → Bool) → List Taking → ℕ
times test [] = 0
times test (one ∷ others) = (if test one then 1 else 0) + times test others

abbrev pub is_of : ℕ → Resource → Taking → Bool
is_of thread resource one = one.thread == thread && same_resource one.resource resource

abbrev pub same_claimant : Claimant → Claimant → Bool
same_claimant one other = one.thread == other.thread && same_resource one.resource other.resource

abbrev pub is_in : Taking → List Taking → Bool
is_in taking all = list_any (λ (one : Taking). same_taking one taking) all

abbrev pub has_frame : Frame → List Taking → Bool
has_frame who all = list_any (λ (one : Taking). same_frame one.frame who) all

-- no other thread has this
abbrev pub IsAlone : ℕ → Resource → List Taking → Type 0
IsAlone thread resource all = (other : ℕ) → other ≢ thread → list_any (is_of other resource) all ≡ false

-- all is counted, by each question that is asked
pub record AreCounted (all : List Taking) (kept : Takings) : Type 0 where
  pub exact : (taking : Taking) → count_of same_taking kept.exact taking ≡ times (λ (one : Taking). same_taking one taking) all
  pub by_frame : (who : Frame) → count_of same_frame kept.by_frame who ≡ times (λ (one : Taking). same_frame one.frame who) all
  pub by_resource : (resource : Resource) →
      count_of same_resource kept.by_resource resource ≡ times (λ (one : Taking). same_resource one.resource resource) all
  pub by_thread : (thread : ℕ) (resource : Resource) →
      count_of same_claimant kept.by_thread (record { thread = thread; resource = resource }) ≡ times (is_of thread resource) all
  pub number : kept.number ≡ length all
