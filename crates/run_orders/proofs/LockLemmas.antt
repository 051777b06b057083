-- A mutex that guards a claim is locked in an order while the claim is held.
use Rattle.std.proofs.Common.{◌≡◌, ℕ, List, [], ◌∷◌, refl, ap, sym, subst, ◌∙◌, ⊎_elim}
use Rattle.std.proofs.lemmas.Bool.{and_parts, cases_eq, cond_both, eq-eqb, eqb-true, or_cases, or_left, or_right, both_ways}
use Rattle.std.specs.Prelude.{Bool, true, ◌==◌, ◌&&◌}
use Rattle.std.specs.List.{list_any}
use Rattle.run_lines.specs.declared.line.Doing.{Doing}
use Rattle.run_lines.specs.declared.line.Doing.TheVariants as doing
use Rattle.run_lines.specs.declared.line.Line.{Line}
use Rattle.run_rules.specs.declared.frame.Frame.{Frame}
use Rattle.run_rules.specs.declared.frame.Frame.TheVariants.{Execution, Outside}
use Rattle.run_rules.specs.declared.taking.Resource.{Resource}
use Rattle.run_rules.specs.declared.taking.Resource.TheVariants.{Lock, Thing}
use Rattle.run_rules.specs.declared.taking.Taking.{Taking}
use Rattle.run_rules.specs.Stacks.{frame, same_frame}
use Rattle.run_rules.specs.Takings.{has_taken, is_taken_by, same_resource, same_taking, taken, taken_after, without}
use Rattle.run_rules.proofs.TakingLemmas.{Takes, has_taken-next, same_resource-is}
use Rattle.run_orders.specs.Orders.{IsLegalBut, MayDoBut}

-- a lock is held by one thread

lock_alone : (past : List Line) (thread other lock : ℕ) (does : Doing) → MayDoBut past thread does → Takes does (Lock lock)
    → has_taken past other (Lock lock) ≡ true → other ≡ thread
lock_alone past thread other lock (doing.Lock mine) may takes has =
    let same : mine ≡ lock = eqb-true mine lock takes in
    ⊎_elim (λ (e : other ≡ thread). e)
    (λ apart. absurd (both_ways (has_taken past other (Lock mine)) (may.unlocked other apart)
    (subst (λ (l : ℕ). has_taken past other (Lock l) ≡ true) (sym same) has))) (cases_eq other thread)
lock_alone past thread other lock (doing.Claim thing) may takes has = cc
lock_alone past thread other lock _ may takes has = absurd takes

pub lockers_agree : (past : List Line) → IsLegalBut past → (lock one other : ℕ) → has_taken past one (Lock lock) ≡ true
    → has_taken past other (Lock lock) ≡ true → one ≡ other
lockers_agree [] but lock one other first second = cc
lockers_agree (line ∷ past) but lock one other first second =
    ⊎_elim
    (λ held. ⊎_elim (λ has. lockers_agree past but.0 lock one other held has)
    (λ takes. lock_alone past line.thread one lock line.does but.1 takes.1 held ∙ takes.0)
    (has_taken-next past line other (Lock lock) second))
    (λ took. ⊎_elim (λ has. sym took.0 ∙ sym (lock_alone past line.thread other lock line.does but.1 took.1 has))
    (λ takes. sym took.0 ∙ takes.0) (has_taken-next past line other (Lock lock) second))
    (has_taken-next past line one (Lock lock) first)

-- what a frame has locked stays locked but for its own unlock

abbrev pub locked_by : ℕ → Frame → ℕ → Taking
locked_by thread who lock = record { thread = thread; frame = who; resource = Lock lock }

same_frame-is : (one other : Frame) → same_frame one other ≡ true → one ≡ other
same_frame-is (Execution op) (Execution other) is = ap Execution (eqb-true op other is)
same_frame-is (Outside thread) (Outside other) is = ap Outside (eqb-true thread other is)
same_frame-is (Execution op) (Outside thread) is = cc
same_frame-is (Outside thread) (Execution op) is = cc

same_frame-refl : (who : Frame) → same_frame who who ≡ true
same_frame-refl (Execution op) = eq-eqb op op refl
same_frame-refl (Outside thread) = eq-eqb thread thread refl

-- two takings that are the same
pub record AreSame (one other : Taking) : Type 0 where
  pub thread : one.thread ≡ other.thread
  pub who : one.frame ≡ other.frame
  pub resource : one.resource ≡ other.resource

pub are_same : (one other : Taking) → same_taking one other ≡ true → AreSame one other
are_same one other is =
    let parts = and_parts (one.thread == other.thread) (same_frame one.frame other.frame && same_resource one.resource other.resource) is in
    let inner = and_parts (same_frame one.frame other.frame) (same_resource one.resource other.resource) parts.1 in
    record {
      thread = eqb-true one.thread other.thread parts.0;
      who = same_frame-is one.frame other.frame inner.0;
      resource = same_resource-is one.resource other.resource inner.1;
    }

taking_is : (one other : Taking) → AreSame one other → one ≡ other
taking_is one other are =
    ap (λ (t : ℕ). taking t one.frame one.resource) are.thread ∙ ap (λ (f : Frame). taking other.thread f one.resource) are.who
    ∙ ap (λ (r : Resource). taking other.thread other.frame r) are.resource
  where
    taking : ℕ → Frame → Resource → Taking
    taking thread who resource = record { thread = thread; frame = who; resource = resource }

abbrev pub is_it : Taking → Taking → Bool
is_it it one = same_taking one it

any_kept : (it gone : Taking) → (same_taking gone it ≡ true → ⊥) → (all : List Taking) → list_any (is_it it) all ≡ true
    → list_any (is_it it) (without gone all) ≡ true
any_kept it gone apart [] is = is
any_kept it gone apart (one ∷ others) is =
    cond_both (same_taking one gone) others (one ∷ without gone others)
    (λ (left : List Taking). list_any (is_it it) left ≡ true)
    (λ goes. ⊎_elim
    (λ here. absurd (apart (ap (λ (t : Taking). same_taking t it) (sym (taking_is one gone (are_same one gone goes))) ∙ here)))
    (λ behind. behind) (or_cases (same_taking one it) (list_any (is_it it) others) is))
    (λ stays. ⊎_elim (λ here. or_left (same_taking one it) (list_any (is_it it) (without gone others)) here)
    (λ behind. or_right (same_taking one it) (list_any (is_it it) (without gone others)) (any_kept it gone apart others behind))
    (or_cases (same_taking one it) (list_any (is_it it) others) is))

stays_taken : (by : ℕ) (writes : Frame) (does : Doing) (all : List Taking) (thread : ℕ) (who : Frame) (lock : ℕ)
    → (does ≡ doing.Unlock lock → by ≡ thread → writes ≡ who → ⊥) → list_any (is_it (locked_by thread who lock)) all ≡ true
    → list_any (is_it (locked_by thread who lock)) (taken_after by writes does all) ≡ true
stays_taken by writes (doing.Claim thing) all thread who lock keeps is =
    or_right (same_taking (record { thread = by; frame = writes; resource = Thing thing }) (locked_by thread who lock))
    (list_any (is_it (locked_by thread who lock)) all) is
stays_taken by writes (doing.Lock other) all thread who lock keeps is =
    or_right (same_taking (locked_by by writes other) (locked_by thread who lock)) (list_any (is_it (locked_by thread who lock)) all) is
stays_taken by writes (doing.Release thing) all thread who lock keeps is =
    any_kept (locked_by thread who lock) (record { thread = by; frame = writes; resource = Thing thing })
    (λ same. let e : Thing thing ≡ Lock lock =
    (are_same (record { thread = by; frame = writes; resource = Thing thing }) (locked_by thread who lock) same).resource in cc) all is
stays_taken by writes (doing.Unlock other) all thread who lock keeps is =
    any_kept (locked_by thread who lock) (locked_by by writes other)
    (λ same. let are = are_same (locked_by by writes other) (locked_by thread who lock) same in
    let e : other ≡ lock = lock_is other lock are.resource in keeps (ap doing.Unlock e) are.thread are.who) all is
  where
    lock_is : (one other : ℕ) → Lock one ≡ Lock other → one ≡ other
    lock_is one other e = cc
stays_taken by writes _ all thread who lock keeps is = is

pub lock_stays : (past : List Line) (line : Line) (thread : ℕ) (who : Frame) (lock : ℕ)
    → (line.does ≡ doing.Unlock lock → line.thread ≡ thread → frame past line.thread ≡ who → ⊥)
    → is_taken_by past thread who (Lock lock) ≡ true → is_taken_by (line ∷ past) thread who (Lock lock) ≡ true
lock_stays past line thread who lock keeps is =
    stays_taken line.thread (frame past line.thread) line.does (taken past) thread who lock keeps is

pub lock_taken : (past : List Line) (line : Line) (lock : ℕ) → line.does ≡ doing.Lock lock
    → is_taken_by (line ∷ past) line.thread (frame past line.thread) (Lock lock) ≡ true
lock_taken past line lock locks =
    ap (λ (d : Doing). list_any (is_it (locked_by line.thread (frame past line.thread) lock))
    (taken_after line.thread (frame past line.thread) d (taken past))) locks
    ∙ or_left (same_taking (locked_by line.thread (frame past line.thread) lock) (locked_by line.thread (frame past line.thread) lock))
    (list_any (is_it (locked_by line.thread (frame past line.thread) lock)) (taken past))
    (rw (eq-eqb line.thread line.thread refl, same_frame-refl (frame past line.thread), eq-eqb lock lock refl) refl)

-- a frame has what its thread has
pub thread_has : (past : List Line) (thread : ℕ) (who : Frame) (resource : Resource) → is_taken_by past thread who resource ≡ true
    → has_taken past thread resource ≡ true
thread_has past thread who resource is = weaker (taken past) is
  where
    weaker : (all : List Taking)
        → list_any (λ (one : Taking). same_taking one (record { thread = thread; frame = who; resource = resource })) all ≡ true
        → list_any (λ (one : Taking). one.thread == thread && same_resource one.resource resource) all ≡ true
    weaker [] is = is
    weaker (one ∷ others) is =
        ⊎_elim
        (λ here. or_left (one.thread == thread && same_resource one.resource resource)
        (list_any (λ (one : Taking). one.thread == thread && same_resource one.resource resource) others) (less here))
        (λ behind. or_right (one.thread == thread && same_resource one.resource resource)
        (list_any (λ (one : Taking). one.thread == thread && same_resource one.resource resource) others) (weaker others behind))
        (or_cases (same_taking one (record { thread = thread; frame = who; resource = resource }))
        (list_any (λ (one : Taking). same_taking one (record { thread = thread; frame = who; resource = resource })) others) is)
      where
        less : same_taking one (record { thread = thread; frame = who; resource = resource }) ≡ true
            → (one.thread == thread && same_resource one.resource resource) ≡ true
        less same =
            let parts = and_parts (one.thread == thread) (same_frame one.frame who && same_resource one.resource resource) same in
            let inner = and_parts (same_frame one.frame who) (same_resource one.resource resource) parts.1 in
            rw (parts.0, inner.1) refl
