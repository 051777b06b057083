-- Executions of one strand: who holds it, and who begins on it.
use Rattle.std.proofs.Common.{◌≡◌, ℕ, List, [], ◌∷◌, refl, ap, sym, ◌∙◌, inl, inr, ⊎_elim}
use Rattle.std.proofs.lemmas.Bool.{or_cases, or_right, eqb-true, cond_both, true_from_ne_false, or_parts}
use Rattle.std.specs.Prelude.{Bool, true, false, ◌==◌, ◌||◌, ◌⊎◌, Option, Some, None, IsSome, nat_eq}
use Rattle.std.specs.List.{list_any}
use Rattle.std.specs.Option.{option_eq, option_and_then}
use Rattle.run_lines.specs.declared.code.Code.{Code}
use Rattle.run_lines.specs.declared.line.Doing.{Doing}
use Rattle.run_lines.specs.declared.line.Doing.TheVariants as doing
use Rattle.run_lines.specs.declared.line.Line.{Line}
use Rattle.run_rules.specs.declared.level.Level.{Level}
use Rattle.run_rules.specs.declared.level.Strictness.TheVariants.{Plain}
use Rattle.run_rules.specs.Stacks.{stack, stack_after, outer}
use Rattle.run_rules.specs.Calls.{Calling, call_of, strand_of, is_begun, is_dropped}
use Rattle.run_rules.specs.Starting.{is_on, Holds, IsInside, IsPlacedBefore}
use Rattle.run_rules.specs.MayCome.{MayDo, MayBegin}
use Rattle.run_rules.specs.Legal.{IsLegalSoFar}
use Rattle.run_rules.proofs.CallsLemmas.{strand_of-next, called-next}

-- each of these operations was called
abbrev pub AreCalled : List Line → List ℕ → Type 0
AreCalled past [] = Unit {0}
AreCalled past (op ∷ ops) = IsSome (call_of past op) × AreCalled past ops

are_called-next : (level : Level) (past : List Line) (line : Line) (ops : List ℕ) → MayDo level past line.thread line.does →
    AreCalled past ops → AreCalled (line ∷ past) ops
are_called-next level past line [] may called = tt
are_called-next level past line (op ∷ ops) may called =
    (called-next level past line op may called.0, are_called-next level past line ops may called.1)

are_called-outer : (past : List Line) (ops : List ℕ) → AreCalled past ops → AreCalled past (outer ops)
are_called-outer past [] called = tt
are_called-outer past (op ∷ ops) called = called.1

are_called-after : (level : Level) (past : List Line) (thread : ℕ) (does : Doing) (ops : List ℕ) →
    MayDo level past thread does → AreCalled past ops → AreCalled past (stack_after does ops)
are_called-after level past thread (doing.Begin op code size) ops may called = (may.waiting.called, called)
are_called-after level past thread (doing.End op) ops may called = are_called-outer past ops called
are_called-after level past thread (doing.Throw op) ops may called = are_called-outer past ops called
are_called-after level past thread _ ops may called = called

-- what executes was called, also before the line that began it
pub stack_called_before : (level : Level) (past : List Line) (line : Line) (thread : ℕ) →
    MayDo level past line.thread line.does → AreCalled past (stack past thread) → AreCalled past (stack (line ∷ past) thread)
stack_called_before level past line thread may called =
    cond_both (line.thread == thread) (stack_after line.does (stack past thread)) (stack past thread)
    (λ (ops : List ℕ). AreCalled past ops)
    (λ here. are_called-after level past line.thread line.does (stack past thread) may called) (λ elsewhere. called)

pub stack_called : (level : Level) (past : List Line) → IsLegalSoFar level past → (thread : ℕ) →
    AreCalled past (stack past thread)
stack_called level [] legal thread = tt
stack_called level (line ∷ past) legal thread =
    are_called-next level past line (stack (line ∷ past) thread) legal.1.rules
    (stack_called_before level past line thread legal.1.rules (stack_called level past legal.0 thread))

-- a line that may come changes no strand of what was called
pub on-next : (level : Level) (past : List Line) (line : Line) (strand : ℕ) (ops : List ℕ) →
    MayDo level past line.thread line.does → AreCalled past ops → list_any (is_on (line ∷ past) strand) ops ≡ list_any (is_on past strand) ops
on-next level past line strand [] may called = refl
on-next level past line strand (op ∷ ops) may called =
    let first : is_on (line ∷ past) strand op ≡ is_on past strand op =
    ap (λ (o : Option ℕ). option_eq nat_eq o (Some strand)) (strand_of-next level past line op may called.0) in
    let others : list_any (is_on (line ∷ past) strand) ops ≡ list_any (is_on past strand) ops =
    on-next level past line strand ops may called.1 in
    ap (λ (b : Bool). b || list_any (is_on (line ∷ past) strand) ops) first ∙ ap (λ (b : Bool). is_on past strand op || b) others

any-outer : (test : ℕ → Bool) (ops : List ℕ) → list_any test (outer ops) ≡ true → list_any test ops ≡ true
any-outer test [] is = is
any-outer test (op ∷ ops) is = or_right (test op) (list_any test ops) is

-- a begin of an operation of this strand
abbrev pub StartsOn : List Line → Doing → ℕ → Type 0
StartsOn past (doing.Begin op code size) strand = strand_of past op ≡ Some strand
StartsOn past _ strand = ⊥

pub is_on-is : (o : Option ℕ) (strand : ℕ) → option_eq nat_eq o (Some strand) ≡ true → o ≡ Some strand
is_on-is None strand is = cc
is_on-is (Some other) strand is = ap Some (eqb-true other strand is)

any-after : (past : List Line) (strand : ℕ) (does : Doing) (ops : List ℕ) →
    list_any (is_on past strand) (stack_after does ops) ≡ true → (list_any (is_on past strand) ops ≡ true)
    ⊎ StartsOn past does strand
any-after past strand (doing.Begin op code size) ops is =
    ⊎_elim (λ starts. inr (is_on-is (strand_of past op) strand starts)) (λ held. inl held)
    (or_cases (is_on past strand op) (list_any (is_on past strand) ops) is)
any-after past strand (doing.End op) ops is = inl (any-outer (is_on past strand) ops is)
any-after past strand (doing.Throw op) ops is = inl (any-outer (is_on past strand) ops is)
any-after past strand _ ops is = inl is

-- who holds a strand behind a line held it before, or begins on it
pub holds-next : (level : Level) (past : List Line) (line : Line) → IsLegalSoFar level (line ∷ past) →
    (thread strand : ℕ) → Holds (line ∷ past) thread strand
    → Holds past thread strand ⊎ ((line.thread ≡ thread) × StartsOn past line.does strand)
holds-next level past line legal thread strand holds =
    cond_both (line.thread == thread) (stack_after line.does (stack past thread)) (stack past thread)
    (λ (ops : List ℕ). AreCalled past ops → list_any (is_on (line ∷ past) strand) ops ≡ true →
    Holds past thread strand ⊎ ((line.thread ≡ thread) × StartsOn past line.does strand))
    (λ here called is. ⊎_elim (λ held. inl held) (λ starts. inr (eqb-true line.thread thread here, starts))
    (any-after past strand line.does (stack past thread)
    (sym (on-next level past line strand (stack_after line.does (stack past thread)) legal.1.rules called) ∙ is)))
    (λ elsewhere called is. inl (sym (on-next level past line strand (stack past thread) legal.1.rules called) ∙ is))
    (stack_called_before level past line thread legal.1.rules (stack_called level past legal.0 thread)) holds

-- who begins on a strand shares it with nobody else
starts_alone : (level : Level) (past : List Line) (thread strand other : ℕ) (does : Doing) →
    MayDo level past thread does → StartsOn past does strand → Holds past other strand → other ≡ thread
starts_alone level past thread strand other (doing.Begin op code size) may starts holds = (may.free strand other starts holds).0
starts_alone level past thread strand other _ may starts holds = absurd starts

-- two threads that hold one strand are one
pub holders_agree : (level : Level) (past : List Line) → IsLegalSoFar level past → (strand one other : ℕ) →
    Holds past one strand → Holds past other strand → one ≡ other
holders_agree level [] legal strand one other first second = cc
holders_agree level (line ∷ past) legal strand one other first second =
    ⊎_elim
    (λ held. ⊎_elim (λ holds. holders_agree level past legal.0 strand one other held holds)
    (λ starts. starts_alone level past line.thread strand one line.does legal.1.rules starts.1 held ∙ starts.0)
    (holds-next level past line legal other strand second))
    (λ began. ⊎_elim
    (λ holds. sym began.0 ∙ sym (starts_alone level past line.thread strand other line.does legal.1.rules began.1 holds))
    (λ starts. sym began.0 ∙ starts.0) (holds-next level past line legal other strand second))
    (holds-next level past line legal one strand first)

-- an operation with a strand was called
called_by_strand : (o : Option Calling) (strand : ℕ) →
    option_and_then (λ (call : Calling). call.strand) o ≡ Some strand → IsSome o
called_by_strand None strand is = cc
called_by_strand (Some call) strand is = refl

-- what was placed before is no longer there
pub order_kept : (level : Level) (past : List Line) (thread op strand first : ℕ) (code : Code) (size : ℕ) →
    level.strictness ≡ Plain → MayBegin level past thread op code size → (IsInside past thread op → ⊥)
    → strand_of past op ≡ Some strand → strand_of past first ≡ Some strand → IsPlacedBefore past first op →
    (is_begun past first || is_dropped past first) ≡ true
order_kept level past thread op strand first code size plain may outside on same placed =
    true_from_ne_false (is_begun past first || is_dropped past first)
    (λ unspent. let parts : (is_begun past first ≡ false) × (is_dropped past first ≡ false) =
    or_parts (is_begun past first) (is_dropped past first) unspent in
    may.first strand first plain on (λ other holds. outside (may.free strand other on holds).1)
    (record {
      waits =
          record {
            called = called_by_strand (call_of past first) strand same;
            not_begun = parts.0;
            not_dropped =
                parts.1;
          };
      same = same;
      placed = placed;
    }))
