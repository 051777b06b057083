-- What the checker answers is what the rules say.
use Rattle.std.proofs.Common.{◌≡◌, ℕ, ◌≤◌, List, refl, ap, subst, sym, ◌∙◌, arith}
use Rattle.std.proofs.lemmas.Bool.{eqb-true, eqb-false, eq-eqb, ltb-true, ltb-false, leb-true, le-leb, both_ways, and_parts}
use Rattle.std.specs.Prelude.{Bool, true, false, ◌==◌, ◌&&◌, ◌↔◌, nat_lt, if◌then◌else◌, Option, Some, None, IfSome, IsSomeAnd, IsTrue, Ok, Err, MatchResult, is_some}
use Rattle.run_lines.specs.declared.code.Code.{Code}
use Rattle.run_lines.specs.declared.line.Doing.{Doing}
use Rattle.run_lines.specs.declared.line.Doing.TheVariants as doing
use Rattle.run_lines.specs.declared.line.Line.{Line}
use Rattle.run_lines.specs.declared.word.Word.{Word}
use Rattle.run_rules.specs.declared.frame.Frame.TheVariants.{Execution, Outside}
use Rattle.run_rules.specs.declared.rule.Rule.{Rule}
use Rattle.run_rules.specs.declared.rule.Rule.TheVariants as rule
use Rattle.run_rules.specs.Stacks.{frame}
use Rattle.run_rules.specs.Calls.{strand_of}
use Rattle.run_rules.specs.Takings.{has_any}
use Rattle.run_rules.specs.Starting.{GoesBefore, Holds, IsFirst}
use Rattle.run_rules.specs.MayCome.{MayDo, is_marked, last_call}
use Rattle.run_rules.specs.Breaks.{BreaksByDoing}
use Rattle.run_check.specs.After.{IsAfter, JudgesDoing, called_last, loose, plain, spot_of, waiter_of}
use Rattle.run_check.specs.Beginning.{BeginsInside, MayHaveOutcome, SomeGoesBefore}
use Rattle.run_check.specs.Judging.{Judged, asked, completion_judged, end_judged, is_above, is_first_by, is_number, is_upto, start_judged}
use Rattle.run_check.specs.Stacks.{frame_at, innermost_of}
use Rattle.run_check.specs.Strands.{holder_of}
use Rattle.run_check.specs.Waiting.{waiting_at}
use Rattle.run_check.specs.declared.checker.Checker.{Checker}
use Rattle.run_check.specs.declared.waiting.CallKind.{CallKind}
use Rattle.run_check.specs.declared.waiting.CallKind.TheVariants as kind
use Rattle.run_check.specs.declared.waiting.Outcome.{Outcome}
use Rattle.run_check.specs.declared.waiting.Waiter.{Waiter}
use Rattle.run_check.proofs.RuleLemmas.{
  Says,
  new_above,
  new_first,
  new_not,
  may_call_new,
  kept_frame,
  waiter_says,
  says_waits,
  waits_not,
  says_posting,
  says_no_posting,
  says_undone,
  says_done,
  outcome_fits,
  outcome_refits,
  says_strand,
  no_number,
  some_number,
  no_strand_free,
  no_strand_first,
  holder_is,
  holder_holds,
  idle_free,
  inside_free,
  held_first,
  inside_says,
  says_inside,
  before_says,
  says_before,
}

-- an answer to a test
asked_judges : (past : List Line) (thread : ℕ) (does : Doing) (broken : Rule) (test : Bool)
    → (test ≡ true → MayDo loose past thread does) → (test ≡ false → BreaksByDoing loose past thread does broken)
    → JudgesDoing past thread does (asked test broken)
asked_judges past thread does broken true holds fails = holds refl
asked_judges past thread does broken false holds fails = fails refl

above_judges : (past : List Line) (op : ℕ) (how : Word) (context : ℕ) (strand thing : Option ℕ) (checker : Checker)
    → IsAfter past checker → (last : Option ℕ) → called_last past ≡ last
    → JudgesDoing past 0 (doing.Call op how context strand thing) (asked (is_above last op) rule.New)
above_judges past op how context strand thing checker after None is =
    may_call_new past op how thing (new_first past op after.legal is)
above_judges past op how context strand thing checker after (Some last) is =
    asked_judges past 0 (doing.Call op how context strand thing) rule.New (nat_lt last op)
    (λ less. may_call_new past op how thing (new_above past op last after.legal is (ltb-true last op less)))
    (λ not. new_not past op last is (ltb-false last op not))

pub call_judges : (past : List Line) (checker : Checker) (op : ℕ) (how : Word) (context : ℕ) (strand thing : Option ℕ)
    → IsAfter past checker → (answer : Judged) → answer ≡ asked (is_above checker.greatest op) rule.New
    → JudgesDoing past 0 (doing.Call op how context strand thing) answer
call_judges past checker op how context strand thing after answer is =
    subst (λ (a : Judged). JudgesDoing past 0 (doing.Call op how context strand thing) a) (sym is)
    (above_judges past op how context strand thing checker after checker.greatest (sym after.called))

number_is : (o : Option ℕ) (op : ℕ) → is_number o op ≡ true → o ≡ Some op
number_is None op is = cc
number_is (Some number) op is = ap (λ (n : ℕ). Some n) (eqb-true number op is)

number_not : (o : Option ℕ) (op : ℕ) → is_number o op ≡ false → o ≡ Some op → ⊥
number_not None op not is = cc
number_not (Some number) op not is = eqb-false number op not (some_number number op is)
  where
    some_number : (a b : ℕ) → Some a ≡ Some b → a ≡ b
    some_number a b e = cc

pub return_judges : (past : List Line) (thread op : ℕ) (last : Option ℕ) → last ≡ last_call past (frame past thread)
    → (answer : Judged) → answer ≡ asked (is_number last op) rule.Returns → JudgesDoing past thread (doing.Back op) answer
return_judges past thread op last same answer is =
    subst (λ (a : Judged). JudgesDoing past thread (doing.Back op) a) (sym is)
    (asked_judges past thread (doing.Back op) rule.Returns (is_number last op) (λ yes. record {
      returns = sym same
          ∙ number_is last op yes;
    }) (λ no e. number_not last op no (same ∙ e)))

completion_by : (past : List Line) (op : ℕ) (what : Code) (size : ℕ) (waiter : Waiter) → Says past op waiter
    → (how : CallKind) (outcome : Option Outcome) → waiter.kind ≡ how → waiter.outcome ≡ outcome
    → JudgesDoing past 0 (doing.Done op what size) (completion_judged (Some (record waiter { kind = how; outcome = outcome })))
completion_by past op what size waiter says kind.Posting outcome k o =
    (says_waits past op waiter says, says_posting past op waiter says (λ e. posting_async (sym k ∙ e)))
  where
    posting_async : kind.Posting ≡ kind.Asynchronous → ⊥
    posting_async e = cc
completion_by past op what size waiter says kind.Dispatch outcome k o =
    (says_waits past op waiter says, says_posting past op waiter says (λ e. dispatch_async (sym k ∙ e)))
  where
    dispatch_async : kind.Dispatch ≡ kind.Asynchronous → ⊥
    dispatch_async e = cc
completion_by past op what size waiter says kind.Asynchronous None k o =
    record {
      waiting = says_waits past op waiter says;
      asynchronous = says_no_posting past op waiter says k;
      done_once =
          says_undone past op waiter says o;
    }
completion_by past op what size waiter says kind.Asynchronous (Some outcome) k o =
    (says_waits past op waiter says, says_no_posting past op waiter says k, says_done past op waiter outcome says o)

completion_at : (past : List Line) (op : ℕ) (what : Code) (size : ℕ) (found : Option Waiter) → waiter_of past op ≡ found
    → JudgesDoing past 0 (doing.Done op what size) (completion_judged found)
completion_at past op what size None is = waits_not past op is
completion_at past op what size (Some waiter) is =
    completion_by past op what size waiter (waiter_says past op waiter is) waiter.kind waiter.outcome refl refl

pub completion_judges : (past : List Line) (checker : Checker) (op : ℕ) (what : Code) (size : ℕ) → IsAfter past checker
    → (answer : Judged) → answer ≡ completion_judged (waiting_at checker.waiting op)
    → JudgesDoing past 0 (doing.Done op what size) answer
completion_judges past checker op what size after answer is =
    subst (λ (a : Judged). JudgesDoing past 0 (doing.Done op what size) a) (sym is)
    (completion_at past op what size (waiting_at checker.waiting op) (sym (after.waiting op)))

drop_at : (past : List Line) (op : ℕ) (found : Option Waiter) → waiter_of past op ≡ found
    → JudgesDoing past 0 (doing.Drop op) (asked (is_some found) rule.Waiting)
drop_at past op None is = waits_not past op is
drop_at past op (Some waiter) is = record { waiting = says_waits past op waiter (waiter_says past op waiter is) }

pub drop_judges : (past : List Line) (checker : Checker) (op : ℕ) → IsAfter past checker → (answer : Judged)
    → answer ≡ asked (is_some (waiting_at checker.waiting op)) rule.Waiting → JudgesDoing past 0 (doing.Drop op) answer
drop_judges past checker op after answer is =
    subst (λ (a : Judged). JudgesDoing past 0 (doing.Drop op) a) (sym is)
    (drop_at past op (waiting_at checker.waiting op) (sym (after.waiting op)))

-- what a number on top of a stack says of who writes
frame_some : (past : List Line) (checker : Checker) → IsAfter past checker → (thread op : ℕ)
    → innermost_of checker.stacks thread ≡ Some op → frame past thread ≡ Execution op
frame_some past checker after thread op is = sym (kept_frame past checker after thread)
    ∙ ap (λ (o : Option ℕ). frame_at o thread) is

frame_none : (past : List Line) (checker : Checker) → IsAfter past checker → (thread op : ℕ)
    → innermost_of checker.stacks thread ≡ None → frame past thread ≡ Execution op → ⊥
frame_none past checker after thread op is e = outside_not (sym (ap (λ (o : Option ℕ). frame_at o thread) is)
    ∙ kept_frame past checker after thread ∙ e)
  where
    outside_not : Outside thread ≡ Execution op → ⊥
    outside_not h = cc

some_execution : (a b : ℕ) → Execution a ≡ Execution b → a ≡ b
some_execution a b e = cc

end_at : (past : List Line) (checker : Checker) → IsAfter past checker → (thread op : ℕ) (taken : Bool)
    → taken ≡ has_any past (Execution op) → (top : Option ℕ) → innermost_of checker.stacks thread ≡ top
    → JudgesDoing past thread (doing.End op) (end_judged top op taken)
end_at past checker after thread op taken is None top = frame_none past checker after thread op top
end_at past checker after thread op taken is (Some innermost) top = by_test (innermost == op) refl
  where
    by_taken : frame past thread ≡ Execution op → (b : Bool) → b ≡ has_any past (Execution op)
        → JudgesDoing past thread (doing.End op) (if b then Err rule.Clean else Ok tt)
    by_taken first true e = (first, λ clean. both_ways (has_any past (Execution op)) clean (sym e))
    by_taken first false e = record { innermost = first; clean = sym e }

    by_test : (b : Bool) → (innermost == op) ≡ b → JudgesDoing past thread (doing.End op)
        (if b then (if taken then Err rule.Clean else Ok tt) else Err rule.Innermost)
    by_test true e = by_taken (frame_some past checker after thread innermost top
        ∙ ap Execution (eqb-true innermost op e)) taken is
    by_test false e = λ first. eqb-false innermost op e
        (some_execution innermost op (sym (frame_some past checker after thread innermost top) ∙ first))

pub end_judges : (past : List Line) (checker : Checker) → IsAfter past checker → (thread op : ℕ) (taken : Bool)
    → taken ≡ has_any past (Execution op) → (answer : Judged) → answer ≡ end_judged (innermost_of checker.stacks thread) op taken
    → JudgesDoing past thread (doing.End op) answer
end_judges past checker after thread op taken same answer is =
    subst (λ (a : Judged). JudgesDoing past thread (doing.End op) a) (sym is)
    (end_at past checker after thread op taken same (innermost_of checker.stacks thread) refl)

-- an end by an exception is judged like one without
pub throw_judges : (past : List Line) (thread op : ℕ) (answer : Judged) → JudgesDoing past thread (doing.End op) answer
    → JudgesDoing past thread (doing.Throw op) answer
throw_judges past thread op (Ok done) judged = judged
throw_judges past thread op (Err rule.New) judged = judged
throw_judges past thread op (Err rule.Single) judged = judged
throw_judges past thread op (Err rule.Returns) judged = judged
throw_judges past thread op (Err rule.Waiting) judged = judged
throw_judges past thread op (Err rule.Asynchronous) judged = judged
throw_judges past thread op (Err rule.DoneOnce) judged = judged
throw_judges past thread op (Err rule.Outcome) judged = judged
throw_judges past thread op (Err rule.Free) judged = judged
throw_judges past thread op (Err rule.First) judged = judged
throw_judges past thread op (Err rule.Ready) judged = judged
throw_judges past thread op (Err rule.Order) judged = judged
throw_judges past thread op (Err rule.Stopped) judged = judged
throw_judges past thread op (Err rule.Nested) judged = judged
throw_judges past thread op (Err rule.Finishing) judged = judged
throw_judges past thread op (Err rule.Innermost) judged = judged
throw_judges past thread op (Err rule.Clean) judged = judged
throw_judges past thread op (Err rule.Untouched) judged = judged
throw_judges past thread op (Err rule.Unlocked) judged = judged
throw_judges past thread op (Err rule.Claimed) judged = judged
throw_judges past thread op (Err rule.Locked) judged = judged
throw_judges past thread op (Err rule.Marked) judged = judged

-- the first of a queue says whether any stands there so long
pub upto_from : (past : List Line) (strand : ℕ) (first : Option (ℕ × ℕ)) (entry : Option ℕ)
    → ((op place : ℕ) → spot_of past op ≡ Some (strand, place) → IsSomeAnd first (λ f. f.0 ≤ place))
    → IfSome first (λ f. spot_of past f.1 ≡ Some (strand, f.0)) → IsTrue (is_upto first entry) ↔ SomeGoesBefore past strand entry
upto_from past strand None entry least stands = (
  λ yes. absurd (false_true yes),
  λ before. absurd (least before.0 before.1 before.2),
)
  where
    false_true : false ≡ true → ⊥
    false_true e = cc
upto_from past strand (Some first) None least stands = (λ yes. absurd (false_true yes), λ before. absurd before.3)
  where
    false_true : false ≡ true → ⊥
    false_true e = cc
upto_from past strand (Some first) (Some entry) least stands = (
  λ yes. (first.1, first.0, stands, leb-true first.0 entry yes),
  λ before. let below : first.0 ≤ before.1 = least before.0 before.1 before.2 in let upto : before.1 ≤ entry = before.3 in
      le-leb first.0 entry (omega arith),
)

-- where no order is asked
not_asked : (past : List Line) (op : ℕ) → IsFirst loose past op
not_asked past op strand first level = cc

-- what a strand says of an operation that may begin otherwise
start_at : (past : List Line) (checker : Checker) → IsAfter past checker
    → (thread op : ℕ) (what : Code) (size strand : ℕ) (waiter : Waiter) → Says past op waiter → MayHaveOutcome waiter what size
    → strand_of past op ≡ Some strand
    → (inside : Bool) → IsTrue inside ↔ BeginsInside checker.stacks thread waiter
    → (holder : Option ℕ) → holder_of checker.strands strand ≡ holder
    → JudgesDoing past thread (doing.Begin op what size) (start_judged holder thread inside)
start_at past checker after thread op what size strand waiter says fits on inside is_inside None is = record {
  waiting = says_waits past op waiter says;
  outcome = outcome_fits past op waiter what size after.legal says fits;
  free = idle_free past checker after thread op strand on is;
  first = not_asked past op;
}
start_at past checker after thread op what size strand waiter says fits on inside is_inside (Some holder) is =
    by_test (holder == thread && inside) refl
  where
    by_test : (b : Bool) → (holder == thread && inside) ≡ b
        → JudgesDoing past thread (doing.Begin op what size) (if b then Ok tt else Err rule.Free)
    by_test true e = let parts = and_parts (holder == thread) inside e in
        let held : holder_of checker.strands strand ≡ Some thread = is
        ∙ ap (λ (n : ℕ). Some n) (eqb-true holder thread parts.0) in
        record {
          waiting = says_waits past op waiter says;
          outcome = outcome_fits past op waiter what size after.legal says fits;
          free = inside_free past checker after thread op strand on held
              (inside_says past checker after thread op waiter says (is_inside.0 parts.1));
          first = not_asked past op;
        }
    by_test false e = (
      says_waits past op waiter says,
      outcome_fits past op waiter what size after.legal says fits,
      λ free.
          let may = free strand holder on (holder_holds past checker after holder strand is) in
          not_both (holder == thread) inside e (eq-eqb holder thread may.0)
          (is_inside.1 (says_inside past checker after thread op waiter says may.1)),
    )
      where
        not_both : (a b : Bool) → (a && b) ≡ false → a ≡ true → b ≡ true → ⊥
        not_both true true e a b = cc
        not_both true false e a b = cc
        not_both false b e a c = cc

pub start_judges : (past : List Line) (checker : Checker) → IsAfter past checker
    → (thread op : ℕ) (what : Code) (size strand : ℕ) (waiter : Waiter) → waiter_of past op ≡ Some waiter
    → MayHaveOutcome waiter what size → waiter.strand ≡ Some strand
    → (inside : Bool) → IsTrue inside ↔ BeginsInside checker.stacks thread waiter → (answer : Judged)
    → answer ≡ start_judged (holder_of checker.strands strand) thread inside
    → JudgesDoing past thread (doing.Begin op what size) answer
start_judges past checker after thread op what size strand waiter found fits on inside is_inside answer is =
    let says : Says past op waiter = waiter_says past op waiter found in
    subst (λ (a : Judged). JudgesDoing past thread (doing.Begin op what size) a) (sym is)
    (start_at past checker after thread op what size strand waiter says fits (says_strand past op waiter says
    ∙ on) inside is_inside (holder_of checker.strands strand) refl)

pub free_judges : (past : List Line) (checker : Checker) → IsAfter past checker
    → (thread op : ℕ) (what : Code) (size : ℕ) (waiter : Waiter) → waiter_of past op ≡ Some waiter
    → MayHaveOutcome waiter what size → waiter.strand ≡ None
    → MayDo loose past thread (doing.Begin op what size)
free_judges past checker after thread op what size waiter found fits none =
    let says : Says past op waiter = waiter_says past op waiter found in
    let off : strand_of past op ≡ None = says_strand past op waiter says ∙ none in
    record {
      waiting = says_waits past op waiter says;
      outcome =
          outcome_fits past op waiter what size after.legal says fits;
      free = no_strand_free past thread op off;
      first = not_asked past op;
    }

pub misfit_judges : (past : List Line) (thread op : ℕ) (what : Code) (size : ℕ) (waiter : Waiter)
    → waiter_of past op ≡ Some waiter → (MayHaveOutcome waiter what size → ⊥)
    → BreaksByDoing loose past thread (doing.Begin op what size) rule.Outcome
misfit_judges past thread op what size waiter found misfits =
    let says : Says past op waiter = waiter_says past op waiter found in
    (says_waits past op waiter says, λ has. misfits (outcome_refits past op waiter what size says has))

-- whether an operation is the first of its strand
first_at : (past : List Line) (checker : Checker) → IsAfter past checker → (op strand : ℕ) (waiter : Waiter)
    → Says past op waiter → strand_of past op ≡ Some strand → (later : Bool)
    → IsTrue later ↔ SomeGoesBefore past strand waiter.entry → (holder : Option ℕ) → holder_of checker.strands strand ≡ holder
    → IsTrue (is_first_by holder later) ↔ IsFirst plain past op
first_at past checker after op strand waiter says on later is_later (Some holder) is =
    (λ yes. held_first past checker after holder op strand on is, λ first. refl)
first_at past checker after op strand waiter says on true is_later None is = (
  λ yes. absurd (false_true yes),
  λ first. let found = before_says past op strand waiter says (is_later.0 refl) in
      absurd (first strand found.0 refl on (λ other holds. free_none other holds) found.1),
)
  where
    false_true : false ≡ true → ⊥
    false_true e = cc

    free_none : (other : ℕ) → Holds past other strand → ⊥
    free_none other holds = no_number other (sym is ∙ holder_is past checker after other strand holds)
first_at past checker after op strand waiter says on false is_later None is = (
  λ yes other first level here idle before. let same : strand ≡ other = some_number strand other (sym on ∙ here) in
      false_true (is_later.1 (says_before past op strand first waiter says
      (subst (λ (s : ℕ). GoesBefore past first op s) (sym same) before))),
  λ first. refl,
)
  where
    false_true : false ≡ true → ⊥
    false_true e = cc

pub first_judged : (past : List Line) (checker : Checker) → IsAfter past checker → (op strand : ℕ) (waiter : Waiter)
    → waiter_of past op ≡ Some waiter → waiter.strand ≡ Some strand → (later answer : Bool)
    → IsTrue later ↔ SomeGoesBefore past strand waiter.entry → answer ≡ is_first_by (holder_of checker.strands strand) later
    → IsTrue answer ↔ IsFirst plain past op
first_judged past checker after op strand waiter found on later answer is_later is =
    let says : Says past op waiter = waiter_says past op waiter found in
    subst (λ (b : Bool). IsTrue b ↔ IsFirst plain past op) (sym is)
    (first_at past checker after op strand waiter says (says_strand past op waiter says ∙ on) later is_later
    (holder_of checker.strands strand) refl)

pub strandless_first : (past : List Line) (op : ℕ) (waiter : Waiter) → waiter_of past op ≡ Some waiter → waiter.strand ≡ None
    → IsFirst plain past op
strandless_first past op waiter found none =
    let says : Says past op waiter = waiter_says past op waiter found in
    no_strand_first past op (says_strand past op waiter says ∙ none)

-- an answer to a test that is a fact
pub fact_judges : {P : Type 0} (test : Bool) (broken : Rule) → IsTrue test ↔ P → (answer : Judged) → answer ≡ asked test broken
    → MatchResult answer (λ _. P) (λ named. (named ≡ broken) × (P → ⊥))
fact_judges {P} true broken iff answer is = subst (λ (a : Judged). MatchResult a (λ _. P) (λ named. (named ≡ broken)
    × (P → ⊥))) (sym is) (iff.0 refl)
fact_judges {P} false broken iff answer is = subst
    (λ (a : Judged). MatchResult a (λ _. P) (λ named. (named ≡ broken) × (P → ⊥))) (sym is) (refl, λ p. false_true (iff.1 p))
  where
    false_true : false ≡ true → ⊥
    false_true e = cc

pub mark_judges : (past : List Line) (mark : ℕ) (test : Bool) → test ≡ is_marked past mark → (answer : Judged)
    → answer ≡ asked test rule.Marked → JudgesDoing past 0 (doing.After mark) answer
mark_judges past mark test same answer is =
    subst (λ (a : Judged). JudgesDoing past 0 (doing.After mark) a) (sym is)
    (asked_judges past 0 (doing.After mark) rule.Marked test (λ yes. record { marked = sym same ∙ yes })
    (λ no marked. both_ways test no (same ∙ marked)))
