-- How often a handler is called or destroyed.
use Rattle.std.proofs.Common.{◌≡◌, ℕ, ◌+◌, ◌≤◌, List, [], ◌∷◌, refl, subst, arith, ⊎_elim}
use Rattle.std.proofs.lemmas.Bool.{or_parts, eqb-true, cases_Bool}
use Rattle.std.specs.Prelude.{Bool, true, false, ◌==◌, ◌||◌, IsSome, if◌then◌else◌}
use Rattle.run_lines.specs.declared.line.Doing.{Doing}
use Rattle.run_lines.specs.declared.line.Doing.TheVariants as doing
use Rattle.run_lines.specs.declared.line.Line.{Line}
use Rattle.run_rules.specs.declared.level.Level.{Level}
use Rattle.run_rules.specs.Calls.{Waits, begins, drops, is_begun, is_dropped, call_of}
use Rattle.run_rules.specs.MayCome.{MayDo}
use Rattle.run_rules.specs.Legal.{IsLegalSoFar, IsWhole}
use Rattle.run_rules.specs.Laws.{times_spent}

-- `or` with a test that failed
or-false_is : (b : Bool) → (b || false) ≡ true → b ≡ true
or-false_is true is = refl
or-false_is false is = is

-- what was neither called nor destroyed is not spent
pub times_spent-none : (past : List Line) (op : ℕ) → is_begun past op ≡ false → is_dropped past op ≡ false →
    times_spent past op ≡ 0
times_spent-none [] op unbegun undropped = refl
times_spent-none (line ∷ past) op unbegun undropped =
    let b = or_parts (begins line.does op) (is_begun past op) unbegun in
    let d = or_parts (drops line.does op) (is_dropped past op) undropped in
    rw (b.0, d.0) (rw (times_spent-none past op b.1 d.1) refl)

unspent-step : (b d begun dropped : Bool) (rest : ℕ) → (rest ≡ 0 → (begun ≡ false) × (dropped ≡ false)) →
    (if b || d then 1 else 0) + rest ≡ 0 → ((b || begun) ≡ false) × ((d || dropped) ≡ false)
unspent-step true d begun dropped rest earlier none = absurd (omega arith)
unspent-step false true begun dropped rest earlier none = absurd (omega arith)
unspent-step false false begun dropped rest earlier none = earlier (omega arith)

-- and the other way round
pub unspent : (past : List Line) (op : ℕ) → times_spent past op ≡ 0 → (is_begun past op ≡ false) × (is_dropped past op ≡ false)
unspent [] op none = (refl, refl)
unspent (line ∷ past) op none =
    unspent-step (begins line.does op) (drops line.does op) (is_begun past op) (is_dropped past op)
    (times_spent past op) (unspent past op) none

-- what a line may begin or drop waits
pub spender_waits : (level : Level) (past : List Line) (thread op : ℕ) (does : Doing) →
    MayDo level past thread does → (begins does op || drops does op) ≡ true → Waits past op
spender_waits level past thread op (doing.Begin number code size) may is =
    let same : number ≡ op = eqb-true number op (or-false_is (number == op) is) in
    subst (λ (n : ℕ). Waits past n) same may.waiting
spender_waits level past thread op (doing.Drop number) may is =
    let same : number ≡ op = eqb-true number op is in
    subst (λ (n : ℕ). Waits past n) same may.waiting
spender_waits level past thread op _ may is = cc

-- no handler is called or destroyed twice
pub spend_once : (level : Level) (past : List Line) → IsLegalSoFar level past → (op : ℕ) → times_spent past op ≤ 1
spend_once level [] legal op = omega arith
spend_once level (line ∷ past) legal op =
    ⊎_elim
    (λ spends. let waits : Waits past op = spender_waits level past line.thread op line.does legal.1.rules spends in
    let none : times_spent past op ≡ 0 = times_spent-none past op waits.not_begun waits.not_dropped in
    rw (spends, none) (omega arith))
    (λ spends. rw spends (let earlier : times_spent past op ≤ 1 = spend_once level past legal.0 op in omega arith))
    (cases_Bool (begins line.does op || drops line.does op))

-- what was called and doesn't wait was called or destroyed
pub spend_each : (level : Level) (past : List Line) → IsLegalSoFar level past → IsWhole past → (op : ℕ) →
    IsSome (call_of past op) → times_spent past op ≡ 1
spend_each level past legal whole op called =
    let most : times_spent past op ≤ 1 = spend_once level past legal op in
    let some : times_spent past op ≡ 0 → ⊥ =
    λ none. whole.nothing_waits op
    (record { called = called; not_begun = (unspent past op none).0; not_dropped = (unspent past op none).1 }) in
    omega arith
