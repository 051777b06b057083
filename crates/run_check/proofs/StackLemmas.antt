-- Each operation executes in one place at most, and what executes hasn't ended.
use Rattle.std.proofs.Common.{◌≡◌, ℕ, List, [], ◌∷◌, refl, ap, subst, sym, ◌∙◌, inl, inr, ⊎_elim}
use Rattle.std.proofs.lemmas.Bool.{or_cases, or_left, or_right, eqb-true, eq-eqb, cond_both, both_ways, false_from_ne_true}
use Rattle.std.specs.Prelude.{Bool, true, false, cond, ◌==◌, ◌⊎◌, IsSome}
use Rattle.std.specs.List.{list_any}
use Rattle.run_lines.specs.declared.line.Doing.{Doing}
use Rattle.run_lines.specs.declared.line.Doing.TheVariants as doing
use Rattle.run_lines.specs.declared.line.Line.{Line}
use Rattle.run_rules.specs.declared.frame.Frame.TheVariants.{Execution, Outside}
use Rattle.run_rules.specs.declared.level.Level.{Level}
use Rattle.run_rules.specs.Stacks.{stack, stack_after, outer, frame, frame_of}
use Rattle.run_rules.specs.Calls.{begins, drops, call_of, is_begun, is_dropped, Waits}
use Rattle.run_rules.specs.MayCome.{MayDo}
use Rattle.run_rules.specs.Legal.{IsLegalSoFar}
use Rattle.run_rules.proofs.CallsLemmas.{called-next}
use Rattle.run_check.specs.After.{is_dead}
use Rattle.run_check.specs.LastCalls.{ends_frame}

-- whether an operation is among these
abbrev pub is_among : ℕ → List ℕ → Bool
is_among op ops = list_any (λ (other : ℕ). other == op) ops

among-outer : (op : ℕ) (ops : List ℕ) → is_among op (outer ops) ≡ true → is_among op ops ≡ true
among-outer op [] is = is
among-outer op (first ∷ ops) is = or_right (first == op) (is_among op ops) is

among-after : (op : ℕ) (does : Doing) (ops : List ℕ) → is_among op (stack_after does ops) ≡ true
    → (is_among op ops ≡ true) ⊎ (begins does op ≡ true)
among-after op (doing.Begin number code size) ops is =
    ⊎_elim (λ starts. inr starts) (λ there. inl there) (or_cases (number == op) (is_among op ops) is)
among-after op (doing.End number) ops is = inl (among-outer op ops is)
among-after op (doing.Throw number) ops is = inl (among-outer op ops is)
among-after op _ ops is = inl is

-- what executes behind a line executed before, or begins by it
pub among-next : (past : List Line) (line : Line) (thread op : ℕ) → is_among op (stack (line ∷ past) thread) ≡ true
    → (is_among op (stack past thread) ≡ true) ⊎ ((line.thread ≡ thread) × (begins line.does op ≡ true))
among-next past line thread op is =
    cond_both (line.thread == thread) (stack_after line.does (stack past thread)) (stack past thread)
    (λ (ops : List ℕ). is_among op ops ≡ true → (is_among op (stack past thread) ≡ true)
    ⊎ ((line.thread ≡ thread) × (begins line.does op ≡ true)))
    (λ here there. ⊎_elim (λ before. inl before) (λ starts. inr (eqb-true line.thread thread here, starts))
    (among-after op line.does (stack past thread) there))
    (λ elsewhere there. inl there) is

-- what executes has begun
pub executes_begun : (past : List Line) (thread op : ℕ) → is_among op (stack past thread) ≡ true → is_begun past op ≡ true
executes_begun [] thread op is = cc
executes_begun (line ∷ past) thread op is =
    ⊎_elim (λ before. or_right (begins line.does op) (is_begun past op) (executes_begun past thread op before))
    (λ starts. or_left (begins line.does op) (is_begun past op) starts.1) (among-next past line thread op is)

-- what a line begins waits
pub beginner_waits : (level : Level) (past : List Line) (thread op : ℕ) (does : Doing) → MayDo level past thread does
    → begins does op ≡ true → Waits past op
beginner_waits level past thread op (doing.Begin number code size) may is =
    subst (λ (n : ℕ). Waits past n) (eqb-true number op is) may.waiting
beginner_waits level past thread op _ may is = cc

pub dropper_waits : (level : Level) (past : List Line) (thread op : ℕ) (does : Doing) → MayDo level past thread does
    → drops does op ≡ true → Waits past op
dropper_waits level past thread op (doing.Drop number) may is =
    subst (λ (n : ℕ). Waits past n) (eqb-true number op is) may.waiting
dropper_waits level past thread op _ may is = cc

-- an operation executes on one thread
pub one_thread : (level : Level) (past : List Line) → IsLegalSoFar level past → (op one other : ℕ)
    → is_among op (stack past one) ≡ true → is_among op (stack past other) ≡ true → one ≡ other
one_thread level [] legal op one other first second = cc
one_thread level (line ∷ past) legal op one other first second =
    ⊎_elim
    (λ before. ⊎_elim (λ too. one_thread level past legal.0 op one other before too)
    (λ starts. absurd (both_ways (is_begun past op) (beginner_waits level past line.thread op line.does legal.1.rules
    starts.1).not_begun (executes_begun past one op before))) (among-next past line other op second))
    (λ began. ⊎_elim (λ before. absurd (both_ways (is_begun past op)
    (beginner_waits level past line.thread op line.does legal.1.rules began.1).not_begun (executes_begun past other op before)))
    (λ starts. sym began.0 ∙ starts.0) (among-next past line other op second))
    (among-next past line one op first)

-- no operation stands twice among these
abbrev pub AreApart : List ℕ → Type 0
AreApart [] = Unit {0}
AreApart (op ∷ ops) = (is_among op ops ≡ false) × AreApart ops

apart-outer : (ops : List ℕ) → AreApart ops → AreApart (outer ops)
apart-outer [] apart = tt
apart-outer (op ∷ ops) apart = apart.1

apart-after : (level : Level) (past : List Line) (thread : ℕ) (does : Doing) → MayDo level past thread does → (other : ℕ)
    → AreApart (stack past other) → AreApart (stack_after does (stack past other))
apart-after level past thread (doing.Begin op code size) may other apart = (
  false_from_ne_true (is_among op (stack past other))
      (λ there. both_ways (is_begun past op) may.waiting.not_begun (executes_begun past other op there)),
  apart,
)
apart-after level past thread (doing.End op) may other apart = apart-outer (stack past other) apart
apart-after level past thread (doing.Throw op) may other apart = apart-outer (stack past other) apart
apart-after level past thread _ may other apart = apart

pub stack_apart : (level : Level) (past : List Line) → IsLegalSoFar level past → (thread : ℕ) → AreApart (stack past thread)
stack_apart level [] legal thread = tt
stack_apart level (line ∷ past) legal thread =
    cond_both (line.thread == thread) (stack_after line.does (stack past thread)) (stack past thread)
    (λ (ops : List ℕ). AreApart ops)
    (λ here. apart-after level past line.thread line.does legal.1.rules thread (stack_apart level past legal.0 thread))
    (λ elsewhere. stack_apart level past legal.0 thread)

execution_is : (a b : ℕ) → Execution a ≡ Execution b → a ≡ b
execution_is a b e = cc

outside_not : (a b : ℕ) → Outside a ≡ Execution b → ⊥
outside_not a b e = cc

-- the innermost execution comes first
pub frame_first : (ops : List ℕ) (thread op : ℕ) → frame_of ops thread ≡ Execution op → ops ≡ op ∷ outer ops
frame_first [] thread op is = absurd (outside_not thread op is)
frame_first (first ∷ ops) thread op is = ap (λ (n : ℕ). n ∷ ops) (execution_is first op is)

-- which execution a line ends
pub ender : (level : Level) (past : List Line) (thread op : ℕ) (does : Doing) → MayDo level past thread does
    → ends_frame does (Execution op) ≡ true → (frame past thread ≡ Execution op)
    × (stack_after does (stack past thread) ≡ outer (stack past thread))
ender level past thread op (doing.End number) may is = (may.innermost ∙ ap Execution (eqb-true number op is), refl)
ender level past thread op (doing.Throw number) may is = (may.innermost ∙ ap Execution (eqb-true number op is), refl)
ender level past thread op _ may is = cc

pub dead_begun : (level : Level) (past : List Line) → IsLegalSoFar level past → (op : ℕ) → is_dead past (Execution op) ≡ true
    → is_begun past op ≡ true
dead_begun level [] legal op is = cc
dead_begun level (line ∷ past) legal op is =
    ⊎_elim
    (λ ends. let at = ender level past line.thread op line.does legal.1.rules ends in
    let there : is_among op (stack past line.thread) ≡ true =
    subst (λ (ops : List ℕ). is_among op ops ≡ true) (sym (frame_first (stack past line.thread) line.thread op at.0))
    (or_left (op == op) (is_among op (outer (stack past line.thread))) (eq-eqb op op refl)) in
    or_right (begins line.does op) (is_begun past op) (executes_begun past line.thread op there))
    (λ before. or_right (begins line.does op) (is_begun past op) (dead_begun level past legal.0 op before))
    (or_cases (ends_frame line.does (Execution op)) (is_dead past (Execution op)) is)

-- what is gone by a line is gone behind it
among-ended : (op : ℕ) (ops : List ℕ) → AreApart ops → ops ≡ op ∷ outer ops → is_among op (outer ops) ≡ true → ⊥
among-ended op [] apart is there = cc
among-ended op (first ∷ ops) apart is there =
    let same : first ≡ op = head_is first op ops ops is in
    both_ways (is_among op ops) (subst (λ (n : ℕ). is_among n ops ≡ false) same apart.0) there
  where
    head_is : (a b : ℕ) (xs ys : List ℕ) → a ∷ xs ≡ b ∷ ys → a ≡ b
    head_is a b xs ys e = cc

-- what executes hasn't ended
pub executes_alive : (level : Level) (past : List Line) → IsLegalSoFar level past → (thread op : ℕ)
    → is_among op (stack past thread) ≡ true → is_dead past (Execution op) ≡ false
executes_alive level [] legal thread op is = refl
executes_alive level (line ∷ past) legal thread op is =
    let quiet : is_dead past (Execution op) ≡ false = ⊎_elim (λ before. executes_alive level past legal.0 thread op before)
    (λ starts. false_from_ne_true (is_dead past (Execution op))
    (λ dead. both_ways (is_begun past op) (beginner_waits level past line.thread op line.does legal.1.rules starts.1).not_begun
    (dead_begun level past legal.0 op dead)))
    (among-next past line thread op is) in
    let goes_on : ends_frame line.does (Execution op) ≡ false = false_from_ne_true (ends_frame line.does (Execution op)) (λ ends.
    let at = ender level past line.thread op line.does legal.1.rules ends in
    let first : stack past line.thread ≡ op ∷ outer (stack past line.thread) =
    frame_first (stack past line.thread) line.thread op at.0 in
    let there : is_among op (stack past line.thread) ≡ true =
    subst (λ (ops : List ℕ). is_among op ops ≡ true) (sym first)
    (or_left (op == op) (is_among op (outer (stack past line.thread))) (eq-eqb op op refl)) in
    ⊎_elim
    (λ before. let same : line.thread ≡ thread = one_thread level past legal.0 op line.thread thread there before in
    let here : (line.thread == thread) ≡ true = eq-eqb line.thread thread same in
    let now_there : is_among op (stack_after line.does (stack past thread)) ≡ true =
    picked line.thread thread here (stack_after line.does (stack past thread)) (stack past thread) op is in
    among-ended op (stack past line.thread) (stack_apart level past legal.0 line.thread) first
    (subst (λ (ops : List ℕ). is_among op ops ≡ true) (ap (λ (t : ℕ). stack_after line.does (stack past t)) (sym same)
    ∙ at.1) now_there))
    (λ starts. both_ways (is_begun past op) (beginner_waits level past line.thread op line.does legal.1.rules starts.1).not_begun
    (executes_begun past line.thread op there))
    (among-next past line thread op is)) in
    rw (goes_on, quiet) refl
  where
    picked : (a b : ℕ) → (a == b) ≡ true → (xs ys : List ℕ) (op : ℕ) → is_among op (cond (a == b) xs ys) ≡ true
        → is_among op xs ≡ true
    picked a b here xs ys op is = subst (λ (t : Bool). is_among op (cond t xs ys) ≡ true) here is

never_outside : (thread : ℕ) (does : Doing) → ends_frame does (Outside thread) ≡ false
never_outside thread (doing.End op) = refl
never_outside thread (doing.Throw op) = refl
never_outside thread _ = refl

outside_alive : (past : List Line) (thread : ℕ) → is_dead past (Outside thread) ≡ false
outside_alive [] thread = refl
outside_alive (line ∷ past) thread = rw (never_outside thread line.does, outside_alive past thread) refl

alive_by : (level : Level) (past : List Line) → IsLegalSoFar level past → (thread : ℕ) (ops : List ℕ) → stack past thread ≡ ops
    → is_dead past (frame_of ops thread) ≡ false
alive_by level past legal thread [] is = outside_alive past thread
alive_by level past legal thread (op ∷ ops) is = executes_alive level past legal thread op
    (subst (λ (all : List ℕ). is_among op all ≡ true) (sym is) (or_left (op == op) (is_among op ops) (eq-eqb op op refl)))

-- who writes hasn't ended
pub frame_alive : (level : Level) (past : List Line) → IsLegalSoFar level past → (thread : ℕ)
    → is_dead past (frame past thread) ≡ false
frame_alive level past legal thread = alive_by level past legal thread (stack past thread) refl

-- what was begun, dropped or done was called
pub begun_called : (level : Level) (past : List Line) → IsLegalSoFar level past → (op : ℕ) → is_begun past op ≡ true
    → IsSome (call_of past op)
begun_called level [] legal op is = cc
begun_called level (line ∷ past) legal op is =
    called-next level past line op legal.1.rules
    (⊎_elim (λ here. (beginner_waits level past line.thread op line.does legal.1.rules here).called)
    (λ before. begun_called level past legal.0 op before) (or_cases (begins line.does op) (is_begun past op) is))

pub dropped_called : (level : Level) (past : List Line) → IsLegalSoFar level past → (op : ℕ) → is_dropped past op ≡ true
    → IsSome (call_of past op)
dropped_called level [] legal op is = cc
dropped_called level (line ∷ past) legal op is =
    called-next level past line op legal.1.rules
    (⊎_elim (λ here. (dropper_waits level past line.thread op line.does legal.1.rules here).called)
    (λ before. dropped_called level past legal.0 op before) (or_cases (drops line.does op) (is_dropped past op) is))
