-- In an order, too, one thread holds a strand, and the strands of operations are those of the run.
use Rattle.std.proofs.Common.{◌≡◌, ℕ, List, [], ◌∷◌, refl, ap, sym, subst, ◌∙◌, inl, inr, ⊎_elim}
use Rattle.std.proofs.lemmas.Bool.{cond_both, eqb-true, or_cases, or_right}
use Rattle.std.specs.Prelude.{Bool, true, ◌==◌, ◌⊎◌, Option, IsSome}
use Rattle.std.specs.List.{list_any}
use Rattle.run_lines.specs.declared.line.Doing.{Doing}
use Rattle.run_lines.specs.declared.line.Doing.TheVariants as doing
use Rattle.run_lines.specs.declared.line.Line.{Line}
use Rattle.run_rules.specs.Calls.{Calling, call_of, strand_of}
use Rattle.run_rules.specs.MayCome.{MayDo}
use Rattle.run_rules.specs.Starting.{Holds, is_on}
use Rattle.run_rules.specs.Stacks.{outer, stack, stack_after}
use Rattle.run_rules.proofs.CallsLemmas.{call_of-next}
use Rattle.run_rules.proofs.StrandLemmas.{AreCalled, StartsOn, is_on-is, on-next, stack_called_before}
use Rattle.run_orders.specs.Orders.{IsLegalBut, MayDoBut, plain}

-- a line that keeps all rules but one keeps that one too, or claims something
but_may : (past : List Line) (thread : ℕ) (does : Doing) → MayDoBut past thread does
    → MayDo plain past thread does ⊎ ((thing : ℕ) × (does ≡ doing.Claim thing))
but_may past thread (doing.Claim thing) may = inr (thing, refl)
but_may past thread (doing.Call op word context strand thing) may = inl may
but_may past thread (doing.Back op) may = inl may
but_may past thread (doing.Done op code size) may = inl may
but_may past thread (doing.Begin op code size) may = inl may
but_may past thread (doing.End op) may = inl may
but_may past thread (doing.Throw op) may = inl may
but_may past thread (doing.Drop op) may = inl may
but_may past thread (doing.Release thing) may = inl may
but_may past thread (doing.Lock lock) may = inl may
but_may past thread (doing.Unlock lock) may = inl may
but_may past thread (doing.Mark mark) may = inl may
but_may past thread (doing.After mark) may = inl may
but_may past thread (doing.Cancel thing) may = inl may
but_may past thread (doing.Work context) may = inl may
but_may past thread (doing.Stop context) may = inl may
but_may past thread (doing.Restart context) may = inl may

-- a claim changes neither calls nor executions

claim_calls : (past : List Line) (thread thing op : ℕ)
    → call_of (record { thread = thread; does = doing.Claim thing } ∷ past) op ≡ call_of past op
claim_calls past thread thing op = refl

claim_stack : (past : List Line) (by thing thread : ℕ)
    → stack (record { thread = by; does = doing.Claim thing } ∷ past) thread ≡ stack past thread
claim_stack past by thing thread =
    cond_both (by == thread) (stack past thread) (stack past thread) (λ (ops : List ℕ). ops ≡ stack past thread) (λ is. refl) (λ not. refl)

claim_on : (past : List Line) (thread thing strand : ℕ) (ops : List ℕ)
    → list_any (is_on (record { thread = thread; does = doing.Claim thing } ∷ past) strand) ops ≡ list_any (is_on past strand) ops
claim_on past thread thing strand ops = refl

claim_called : (past : List Line) (thread thing : ℕ) (ops : List ℕ) → AreCalled past ops
    → AreCalled (record { thread = thread; does = doing.Claim thing } ∷ past) ops
claim_called past thread thing [] all = tt
claim_called past thread thing (op ∷ ops) all = (all.0, claim_called past thread thing ops all.1)

claim_holds : (past : List Line) (by thing thread strand : ℕ) → Holds (record { thread = by; does = doing.Claim thing } ∷ past) thread strand
    → Holds past thread strand
claim_holds past by thing thread strand holds =
    subst (λ (ops : List ℕ). list_any (is_on past strand) ops ≡ true) (claim_stack past by thing thread) holds

-- what was called stays so

called_still : (past : List Line) (line : Line) (op : ℕ) → MayDo plain past line.thread line.does → (ops : List ℕ) → AreCalled past ops
    → AreCalled (line ∷ past) ops
called_still past line op may [] all = tt
called_still past line op may (one ∷ ops) all = (
  subst (λ (o : Option Calling). IsSome o) (sym (call_of-next plain past line one may all.0)) all.0,
  called_still past line op may ops all.1,
)

stack_called_but : (past : List Line) → IsLegalBut past → (thread : ℕ) → AreCalled past (stack past thread)
stack_called_but [] but thread = tt
stack_called_but (line ∷ past) but thread =
    ⊎_elim
    (λ may. called_still past line 0 may (stack (line ∷ past) thread)
    (stack_called_before plain past line thread may (stack_called_but past but.0 thread)))
    (λ claims. subst (λ (d : Doing). AreCalled (record { thread = line.thread; does = d } ∷ past)
    (stack (record { thread = line.thread; does = d } ∷ past) thread)) (sym claims.1)
    (subst (λ (ops : List ℕ). AreCalled (record { thread = line.thread; does = doing.Claim claims.0 } ∷ past) ops)
    (sym (claim_stack past line.thread claims.0 thread))
    (claim_called past line.thread claims.0 (stack past thread) (stack_called_but past but.0 thread))))
    (but_may past line.thread line.does but.1)

-- who holds a strand

any-outer : (test : ℕ → Bool) (ops : List ℕ) → list_any test (outer ops) ≡ true → list_any test ops ≡ true
any-outer test [] is = is
any-outer test (op ∷ ops) is = or_right (test op) (list_any test ops) is

any-after : (past : List Line) (strand : ℕ) (does : Doing) (ops : List ℕ) → list_any (is_on past strand) (stack_after does ops) ≡ true
    → (list_any (is_on past strand) ops ≡ true) ⊎ StartsOn past does strand
any-after past strand (doing.Begin op code size) ops is =
    ⊎_elim (λ starts. inr (is_on-is (strand_of past op) strand starts)) (λ held. inl held)
    (or_cases (is_on past strand op) (list_any (is_on past strand) ops) is)
any-after past strand (doing.End op) ops is = inl (any-outer (is_on past strand) ops is)
any-after past strand (doing.Throw op) ops is = inl (any-outer (is_on past strand) ops is)
any-after past strand _ ops is = inl is

holds_next : (past : List Line) (line : Line) → IsLegalBut past → MayDo plain past line.thread line.does → (thread strand : ℕ)
    → Holds (line ∷ past) thread strand → Holds past thread strand ⊎ ((line.thread ≡ thread) × StartsOn past line.does strand)
holds_next past line but may thread strand holds =
    cond_both (line.thread == thread) (stack_after line.does (stack past thread)) (stack past thread)
    (λ (ops : List ℕ). AreCalled past ops → list_any (is_on (line ∷ past) strand) ops ≡ true →
    Holds past thread strand ⊎ ((line.thread ≡ thread) × StartsOn past line.does strand))
    (λ here called is. ⊎_elim (λ held. inl held) (λ starts. inr (eqb-true line.thread thread here, starts))
    (any-after past strand line.does (stack past thread)
    (sym (on-next plain past line strand (stack_after line.does (stack past thread)) may called) ∙ is)))
    (λ elsewhere called is. inl (sym (on-next plain past line strand (stack past thread) may called) ∙ is))
    (stack_called_before plain past line thread may (stack_called_but past but thread)) holds

starts_alone : (past : List Line) (thread strand other : ℕ) (does : Doing) → MayDo plain past thread does → StartsOn past does strand
    → Holds past other strand → other ≡ thread
starts_alone past thread strand other (doing.Begin op code size) may starts holds = (may.free strand other starts holds).0
starts_alone past thread strand other _ may starts holds = absurd starts

pub holders_agree_but : (past : List Line) → IsLegalBut past → (strand one other : ℕ) → Holds past one strand → Holds past other strand
    → one ≡ other
holders_agree_but [] but strand one other first second = cc
holders_agree_but (line ∷ past) but strand one other first second =
    ⊎_elim
    (λ may. ⊎_elim
    (λ held. ⊎_elim (λ holds. holders_agree_but past but.0 strand one other held holds)
    (λ starts. starts_alone past line.thread strand one line.does may starts.1 held ∙ starts.0)
    (holds_next past line but.0 may other strand second))
    (λ began. ⊎_elim
    (λ holds. sym began.0 ∙ sym (starts_alone past line.thread strand other line.does may began.1 holds))
    (λ starts. sym began.0 ∙ starts.0) (holds_next past line but.0 may other strand second))
    (holds_next past line but.0 may one strand first))
    (λ claims. holders_agree_but past but.0 strand one other (through claims.0 claims.1 one first)
    (through claims.0 claims.1 other second))
    (but_may past line.thread line.does but.1)
  where
    through : (thing : ℕ) → line.does ≡ doing.Claim thing → (thread : ℕ) → Holds (line ∷ past) thread strand → Holds past thread strand
    through thing is thread holds =
        claim_holds past line.thread thing thread strand
        (subst (λ (d : Doing). Holds (record { thread = line.thread; does = d } ∷ past) thread strand) is holds)

-- what was called on a strand stays so
pub strand_next_but : (past : List Line) (line : Line) (op : ℕ) → MayDoBut past line.thread line.does → IsSome (call_of past op)
    → call_of (line ∷ past) op ≡ call_of past op
strand_next_but past line op but called =
    ⊎_elim (λ may. call_of-next plain past line op may called)
    (λ claims. ap (λ (d : Doing). call_of (record { thread = line.thread; does = d } ∷ past) op) claims.1)
    (but_may past line.thread line.does but)
