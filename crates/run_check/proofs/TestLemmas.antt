-- What `==` computes at the keys of the checker's tables.
use Rattle.std.proofs.Common.{◌≡◌, ◌+◌, ◌-◌, refl, ap, sym, subst, ◌∙◌}
use Rattle.std.specs.Prelude.{Bool, ◌==◌, ◌&&◌, if◌then◌else◌}
use Rattle.run_rules.specs.declared.frame.Frame.{Frame}
use Rattle.run_rules.specs.declared.frame.Frame.TheVariants.{Execution, Outside}
use Rattle.run_rules.specs.declared.taking.Resource.{Resource}
use Rattle.run_rules.specs.declared.taking.Resource.TheVariants.{Thing, Lock}
use Rattle.run_rules.specs.declared.taking.Taking.{Taking}
use Rattle.run_rules.specs.Stacks.{same_frame}
use Rattle.run_rules.specs.Takings.{same_resource, same_taking}
use Rattle.run_rules.specs.contracts.frame.FramePartialEq.TheImpl as frames
use Rattle.run_rules.specs.contracts.taking.ResourcePartialEq.TheImpl as resources
use Rattle.run_rules.specs.contracts.taking.TakingPartialEq.TheImpl as takings
use Rattle.run_check.specs.Counts.{count_of}
use Rattle.run_check.specs.Takings.{same_claimant}
use Rattle.run_check.specs.contracts.takings.ClaimantPartialEq.TheImpl as claimants
use Rattle.run_check.specs.declared.counts.Counts.{Counts}
use Rattle.run_check.specs.declared.takings.Claimant.{Claimant}

pub frame_test_at : (one other : Frame) → (frames.eq-value).it one other ≡ same_frame one other
frame_test_at (Execution op) (Execution other) = refl
frame_test_at (Outside thread) (Outside other) = refl
frame_test_at (Execution op) (Outside thread) = refl
frame_test_at (Outside thread) (Execution op) = refl

pub frame_test : (frames.eq-value).it ≡ same_frame
frame_test = λ i one other. frame_test_at one other i

pub resource_test_at : (one other : Resource) → (resources.eq-value).it one other ≡ same_resource one other
resource_test_at (Thing thing) (Thing other) = refl
resource_test_at (Lock lock) (Lock other) = refl
resource_test_at (Thing thing) (Lock lock) = refl
resource_test_at (Lock lock) (Thing thing) = refl

pub resource_test : (resources.eq-value).it ≡ same_resource
resource_test = λ i one other. resource_test_at one other i

pub taking_test_at : (one other : Taking) → (takings.eq-value).it one other ≡ same_taking one other
taking_test_at one other =
    ap (λ (b : Bool). one.thread == other.thread && (b && (resources.eq-value).it one.resource other.resource))
    (frame_test_at one.frame other.frame)
    ∙ ap (λ (b : Bool). one.thread == other.thread && (same_frame one.frame other.frame && b))
    (resource_test_at one.resource other.resource)

pub taking_test : (takings.eq-value).it ≡ same_taking
taking_test = λ i one other. taking_test_at one other i

pub claimant_test_at : (one other : Claimant) → (claimants.eq-value).it one other ≡ same_claimant one other
claimant_test_at one other = ap (λ (b : Bool). one.thread == other.thread && b) (resource_test_at one.resource other.resource)

pub claimant_test : (claimants.eq-value).it ≡ same_claimant
claimant_test = λ i one other. claimant_test_at one other i

-- a count goes by whichever test says the same
pub count_by : {K : Type 0} (it same : K → K → Bool) → it ≡ same → (kept : Counts K) (key : K)
    → count_of same kept key ≡ count_of it kept key
count_by {K} it same e kept key = sym (ap (λ (test : K → K → Bool). count_of test kept key) e)

pub added_by : {K : Type 0} (it same : K → K → Bool) → it ≡ same → (old new : Counts K) (key : K)
    → ((q : K) → count_of it new q ≡ (if it key q then 1 else 0) + count_of it old q)
    → (q : K) → count_of same new q ≡ (if same key q then 1 else 0) + count_of same old q
added_by {K} it same e old new key adds =
    let P : (K → K → Bool) → Type 0 = λ test. (q : K) → count_of test new q
    ≡ (if test key q then 1 else 0) + count_of test old q in subst P e adds

pub taken_away_by : {K : Type 0} (it same : K → K → Bool) → it ≡ same → (old new : Counts K) (key : K)
    → ((q : K) → count_of it new q ≡ count_of it old q - (if it key q then 1 else 0))
    → (q : K) → count_of same new q ≡ count_of same old q - (if same key q then 1 else 0)
taken_away_by {K} it same e old new key takes =
    let P : (K → K → Bool) → Type 0 = λ test. (q : K) → count_of test new q
    ≡ count_of test old q - (if test key q then 1 else 0) in subst P e takes
