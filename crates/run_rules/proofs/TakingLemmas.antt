-- What threads have taken.
use Rattle.std.proofs.Common.{◌≡◌, ℕ, List, [], ◌∷◌, ap, subst, sym, ◌∙◌, inl, inr, ⊎_elim}
use Rattle.std.proofs.lemmas.Bool.{or_cases, or_left, or_right, eqb-true, cond_both, cases_eq, both_ways, and_parts}
use Rattle.std.specs.Prelude.{Bool, true, false, ◌==◌, ◌&&◌, ◌⊎◌}
use Rattle.std.specs.List.{list_any}
use Rattle.run_lines.specs.declared.line.Doing.{Doing}
use Rattle.run_lines.specs.declared.line.Doing.TheVariants as doing
use Rattle.run_lines.specs.declared.line.Line.{Line}
use Rattle.run_rules.specs.declared.frame.Frame.{Frame}
use Rattle.run_rules.specs.declared.level.Level.{Level}
use Rattle.run_rules.specs.declared.taking.Resource.{Resource}
use Rattle.run_rules.specs.declared.taking.Resource.TheVariants.{Thing, Lock}
use Rattle.run_rules.specs.declared.taking.Taking.{Taking}
use Rattle.run_rules.specs.Stacks.{frame}
use Rattle.run_rules.specs.Takings.{same_resource, same_taking, without, taken, taken_after, has_taken}
use Rattle.run_rules.specs.MayCome.{MayDo}
use Rattle.run_rules.specs.Legal.{IsLegalSoFar}

-- what is left without one taking was there with it
pub any-without : (test : Taking → Bool) (gone : Taking) (all : List Taking) →
    list_any test (without gone all) ≡ true → list_any test all ≡ true
any-without test gone [] is = is
any-without test gone (one ∷ others) is =
    cond_both (same_taking one gone) others (one ∷ without gone others)
    (λ (left : List Taking). list_any test left ≡ true → list_any test (one ∷ others) ≡ true)
    (λ found there. or_right (test one) (list_any test others) there)
    (λ passed there. ⊎_elim (λ here. or_left (test one) (list_any test others) here)
    (λ later. or_right (test one) (list_any test others) (any-without test gone others later))
    (or_cases (test one) (list_any test (without gone others)) there)) is

-- a line that takes this
abbrev pub Takes : Doing → Resource → Type 0
Takes (doing.Claim thing) resource = same_resource (Thing thing) resource ≡ true
Takes (doing.Lock lock) resource = same_resource (Lock lock) resource ≡ true
Takes _ resource = ⊥

-- a taking of this resource by this thread
abbrev pub is_of : ℕ → Resource → Taking → Bool
is_of thread resource one = one.thread == thread && same_resource one.resource resource

takes-after : (by : ℕ) (who : Frame) (does : Doing) (thread : ℕ) (resource : Resource) (all : List Taking) →
    list_any (is_of thread resource) (taken_after by who does all) ≡ true
    → (list_any (is_of thread resource) all ≡ true) ⊎ ((by ≡ thread) × Takes does resource)
takes-after by who (doing.Claim thing) thread resource all is =
    ⊎_elim (λ takes. let parts =
    and_parts (by == thread) (same_resource (Thing thing) resource) takes
    in inr (eqb-true by thread parts.0, parts.1)) (λ held. inl held)
    (or_cases (by == thread && same_resource (Thing thing) resource) (list_any (is_of thread resource) all) is)
takes-after by who (doing.Lock lock) thread resource all is =
    ⊎_elim (λ takes. let parts =
    and_parts (by == thread) (same_resource (Lock lock) resource) takes
    in inr (eqb-true by thread parts.0, parts.1)) (λ held. inl held)
    (or_cases (by == thread && same_resource (Lock lock) resource) (list_any (is_of thread resource) all) is)
takes-after by who (doing.Release thing) thread resource all is =
    inl (any-without (is_of thread resource) (record { thread = by; frame = who; resource = Thing thing }) all is)
takes-after by who (doing.Unlock lock) thread resource all is =
    inl (any-without (is_of thread resource) (record { thread = by; frame = who; resource = Lock lock }) all is)
takes-after by who _ thread resource all is = inl is

-- who has something behind a line had it before, or takes it
pub has_taken-next : (past : List Line) (line : Line) (thread : ℕ) (resource : Resource) →
    has_taken (line ∷ past) thread resource ≡ true
    → (has_taken past thread resource ≡ true) ⊎ ((line.thread ≡ thread) × Takes line.does resource)
has_taken-next past line thread resource is =
    takes-after line.thread (frame past line.thread) line.does thread resource (taken past) is

pub same_resource-is : (one other : Resource) → same_resource one other ≡ true → one ≡ other
same_resource-is (Thing thing) (Thing other) is = ap Thing (eqb-true thing other is)
same_resource-is (Lock lock) (Lock other) is = ap Lock (eqb-true lock other is)
same_resource-is (Thing thing) (Lock lock) is = cc
same_resource-is (Lock lock) (Thing thing) is = cc

untouched_alone : (past : List Line) (thread other : ℕ) (resource mine : Resource) →
    same_resource mine resource ≡ true → ((user : ℕ) → (user ≡ thread → ⊥) → has_taken past user mine ≡ false)
    → has_taken past other resource ≡ true → other ≡ thread
untouched_alone past thread other resource mine same untouched has =
    ⊎_elim (λ (e : other ≡ thread). e)
    (λ apart. absurd (both_ways (has_taken past other mine) (untouched other apart)
    (let P : Resource → Type 0 = λ r. has_taken past other r ≡ true in subst P (sym (same_resource-is mine resource same)) has)))
    (cases_eq other thread)

takes_alone : (level : Level) (past : List Line) (thread other : ℕ) (resource : Resource) (does : Doing) →
    MayDo level past thread does → Takes does resource → has_taken past other resource ≡ true → other ≡ thread
takes_alone level past thread other resource (doing.Claim thing) may takes has =
    untouched_alone past thread other resource (Thing thing) takes may.untouched has
takes_alone level past thread other resource (doing.Lock lock) may takes has =
    untouched_alone past thread other resource (Lock lock) takes may.unlocked has
takes_alone level past thread other resource _ may takes has = absurd takes

-- two threads that have one thing are one
pub takers_agree : (level : Level) (past : List Line) → IsLegalSoFar level past →
    (resource : Resource) (one other : ℕ) → has_taken past one resource ≡ true →
    has_taken past other resource ≡ true → one ≡ other
takers_agree level [] legal resource one other first second = cc
takers_agree level (line ∷ past) legal resource one other first second =
    ⊎_elim
    (λ held. ⊎_elim (λ has. takers_agree level past legal.0 resource one other held has)
    (λ takes. takes_alone level past line.thread one resource line.does legal.1.rules takes.1 held ∙ takes.0)
    (has_taken-next past line other resource second))
    (λ took. ⊎_elim (λ has. sym took.0 ∙ sym (takes_alone level past line.thread other resource line.does legal.1.rules took.1 has))
    (λ takes. sym took.0 ∙ takes.0) (has_taken-next past line other resource second))
    (has_taken-next past line one resource first)
