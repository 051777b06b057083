-- Of two executions of one strand, the one that has begun in an order ends there before the other one begins.
use Rattle.std.proofs.Common.{◌≡◌, ◌≢◌, ℕ, List, [], ◌∷◌, refl, ap, sym, subst, ◌∙◌, inl, inr, ⊎_elim}
use Rattle.std.proofs.lemmas.Bool.{cases_eq, eqb-true}
use Rattle.std.specs.Prelude.{true, ◌⊎◌, Option, Some, None, IsSome}
use Rattle.std.specs.Option.{option_and_then}
use Rattle.run_lines.specs.declared.code.Code.{Code}
use Rattle.run_lines.specs.declared.line.Doing.{Doing}
use Rattle.run_lines.specs.declared.line.Doing.TheVariants as doing
use Rattle.run_lines.specs.declared.line.Line.{Line}
use Rattle.run_rules.specs.Calls.{Calling, begins, call_of, strand_of}
use Rattle.run_rules.specs.Legal.{IsLegalSoFar}
use Rattle.run_rules.specs.MayCome.{MayBegin}
use Rattle.run_rules.specs.Stacks.{stack, stack_after}
use Rattle.run_rules.specs.Starting.{Holds}
use Rattle.run_orders.specs.declared.order.Step.{Step}
use Rattle.run_orders.specs.Causes.{ends}
use Rattle.run_orders.specs.Orders.{EachMayStand, IsLegalBut, IsPut, MayDoBut, Stands, lines_of, plain, renumbered}
use Rattle.run_orders.specs.Trees.{Spot, spot_at}
use Rattle.run_orders.proofs.TreeLemmas.{IsIn, end_more, found, some_same}
use Rattle.run_orders.proofs.StandLemmas.{Executes, equal_ops, one_number, op_of_begin, op_of_end, renumbered_begins, renumbered_ends, stands_step, stood}
use Rattle.run_orders.proofs.RunningLemmas.{in_next, spot_legal}
use Rattle.run_orders.proofs.CalledLemmas.{begin_strand, begins_called, holds_strand, strand_in_run}
use Rattle.run_orders.proofs.EndingLemmas.{ends_once, stack_here}
use Rattle.run_orders.proofs.NestedLemmas.{held_in_run}

stands_or : (steps : List Step) (place : ℕ) → Stands steps place ⊎ (Stands steps place → ⊥)
stands_or [] place = inr (λ stands. stands)
stands_or (step ∷ before) place =
    ⊎_elim (λ (here : step.place ≡ place). inl (inl here))
    (λ (apart : step.place ≢ place). ⊎_elim (λ behind. inl (inr behind))
    (λ not. inr (λ stands. ⊎_elim (λ is. apart is) (λ is. not is) stands)) (stands_or before place)) (cases_eq step.place place)

begin_in : (does : Doing) (number : ℕ) (ops : List ℕ) → begins does number ≡ true → IsIn number (stack_after does ops)
begin_in (doing.Begin op code size) number ops is = inl (eqb-true op number is)
begin_in _ number ops is = cc

-- an execution of an order goes on there as long as no line that ends it stands there
runs_on : (run : List Line) (apart : List ℕ) (steps : List Step) → EachMayStand run apart steps → IsLegalBut (lines_of steps)
    → (start : Spot) (op thread : ℕ) → begins start.line.does op ≡ true → (ex : Executes run steps start op thread)
    → ((at : ℕ) (later : Spot) → spot_at run at ≡ Some later → ends later.line.does ≡ Some op → ¬ (Stands steps at))
    → IsIn ex.number (stack (lines_of steps) thread)
runs_on run apart [] each but start op thread begun ex none = absurd ex.put.stands
runs_on run apart (step ∷ before) each but start op thread begun ex none =
    ⊎_elim
    (λ (here : step ≡ ex.begin).
    subst (λ (t : ℕ). IsIn ex.number (stack (step.line ∷ lines_of before) t)) (ap (λ (s : Step). s.line.thread) here ∙ ex.on)
    (subst (λ (ops : List ℕ). IsIn ex.number ops) (sym (stack_here step.line (lines_of before)))
    (begin_in step.line.does ex.number (stack (lines_of before) step.line.thread)
    (ap (λ (s : Step). begins s.line.does ex.number) here ∙ ex.copied))))
    (λ behind.
    let put : IsPut run before ex.begin start = record { stands = behind; there = ex.put.there } in
    let earlier : Executes run before start op thread = record {
      number = ex.number;
      begin = ex.begin;
      put = put;
      copied = ex.copied;
      on = ex.on;
    } in
    in_next (lines_of before) step.line thread ex.number but.1
    (runs_on run apart before each.0 but.0 start op thread begun earlier
    (λ at later there ended stands. none at later there ended (inr stands)))
    (λ ended. let may = each.1 in
    let original = renumbered_ends may.spot.line.does may.copied.0 ex.number (ap (λ (d : Doing). ends d) (sym may.copied.1) ∙ ended) in
    let same : op ≡ original.0 =
    equal_ops op original.0 ex.number
    (one_number start.line.does may.spot.line.does ex.begin.line.does step.line.does op original.0 ex.number ex.number
    (may.numbered ex.begin start put) (op_of_begin start.line.does op begun) (op_of_end may.spot.line.does original.0 original.1)
    (op_of_begin ex.begin.line.does ex.number ex.copied) (op_of_end step.line.does ex.number ended)) in
    none step.place may.spot may.there (original.1 ∙ ap Some (sym same)) (inl refl))) ex.put.stands

-- what has a strand was called
pub called_on : (past : List Line) (op strand : ℕ) → strand_of past op ≡ Some strand → IsSome (call_of past op)
called_on past op strand is = by_call (call_of past op) is
  where
    by_call : (o : Option Calling) → option_and_then (λ (call : Calling). call.strand) o ≡ Some strand → IsSome o
    by_call None on = cc
    by_call (Some call) on = refl

-- an execution of the run that stands in an order
pub executes_at : (run : List Line) (apart : List ℕ) (steps : List Step) → EachMayStand run apart steps → (start : Spot) (op place : ℕ)
    → begins start.line.does op ≡ true → spot_at run place ≡ Some start → Stands steps place
    → (thread : ℕ) × Executes run steps start op thread
executes_at run apart steps each start op place begun there stands =
    let here = stands_step steps place stands in
    let put : IsPut run steps here.0 start = record { stands = here.1; there = ap (spot_at run) here.2 ∙ there } in
    let was = stood run apart steps each here.0 start here.1 put.there in (
      (here.0).line.thread,
      record {
        number = was.may.copied.0;
        begin = here.0;
        put = put;
        copied =
            ap (λ (d : Doing). begins d was.may.copied.0) was.may.copied.1
            ∙ renumbered_begins was.may.spot.line.does op was.may.copied.0
            (ap (λ (s : Spot). begins s.line.does op) was.same ∙ begun);
        on = refl;
      },
    )

-- an operation of a strand begins behind these steps, and nobody holds the strand
pub record BeginsFree (before : List Step) (step : Step) (strand : ℕ) : Type 0 where
  pub number : ℕ
  pub code : Code
  pub size : ℕ
  pub does : step.line.does ≡ doing.Begin number code size
  pub may : MayBegin plain (lines_of before) step.line.thread number code size
  pub on : strand_of (lines_of before) number ≡ Some strand
  pub free : (thread : ℕ) → Holds (lines_of before) thread strand → ⊥

begin_copied : (number : ℕ) (does : Doing) (op : ℕ) → begins does op ≡ true
    → (code : Code) × (size : ℕ) × (renumbered number does ≡ doing.Begin number code size)
begin_copied number (doing.Begin was code size) op is = (code, size, refl)
begin_copied number _ op is = cc

pub begins_free : (run : List Line) → IsLegalSoFar plain run → (apart : List ℕ) (before : List Step) (step : Step)
    → EachMayStand run apart (step ∷ before) → IsLegalBut (lines_of (step ∷ before)) → (other : Spot)
    → spot_at run step.place ≡ Some other → (next strand : ℕ) → begins other.line.does next ≡ true
    → strand_of other.past next ≡ Some strand → ¬ (Holds other.past other.line.thread strand) → BeginsFree before step strand
begins_free run legal apart before step each but other there next strand begun on unheld =
    let may = each.1 in
    let same : may.spot ≡ other = some_same may.spot other (sym may.there ∙ there) in
    let number = may.copied.0 in
    let mine : begins may.spot.line.does next ≡ true = ap (λ (s : Spot). begins s.line.does next) same ∙ begun in
    let copy = begin_copied number may.spot.line.does next mine in
    let does : step.line.does ≡ doing.Begin number copy.0 copy.1 = may.copied.1 ∙ copy.2 in
    let may_begin : MayBegin plain (lines_of before) step.line.thread number copy.0 copy.1 =
    subst (λ (d : Doing). MayDoBut (lines_of before) step.line.thread d) does but.1 in
    let ex : Executes run (step ∷ before) may.spot next step.line.thread = record {
      number = number;
      begin = step;
      put = record { stands = inl refl; there = may.there };
      copied = ap (λ (d : Doing). begins d number) may.copied.1 ∙ renumbered_begins may.spot.line.does next number mine;
      on = refl;
    } in
    let strand_is : strand_of (lines_of before) number ≡ Some strand =
    sym (ap (λ (d : Doing). strand_of (record { thread = step.line.thread; does = d } ∷ lines_of before) number) does)
    ∙ begin_strand run legal apart (step ∷ before) each but may.spot (found run step.place may.spot may.there).end next step.line.thread
    mine ex
    ∙ ap (λ (s : Spot). strand_of s.past next) same ∙ on in
    record {
      number = number;
      code = copy.0;
      size = copy.1;
      does = does;
      may = may_begin;
      on = strand_is;
      free = λ thread holds.
          let here : thread ≡ step.line.thread = (may_begin.free strand thread strand_is holds).0 in
          unheld
          (subst (λ (s : Spot). Holds s.past s.line.thread strand) same
          (held_in_run run legal apart before each.0 but.0 step may next strand mine
          (subst (λ (t : ℕ). Holds (lines_of before) t strand) here holds)));
    }

-- so an execution of this strand that has begun has ended
pub ended_before : (run : List Line) → IsLegalSoFar plain run → (apart : List ℕ) (before : List Step) → EachMayStand run apart before
    → IsLegalBut (lines_of before) → (strand : ℕ) → ((thread : ℕ) → Holds (lines_of before) thread strand → ⊥)
    → (start : Spot) (op thread : ℕ) → begins start.line.does op ≡ true → Executes run before start op thread
    → (first : ℕ) (one : Spot) → spot_at run first ≡ Some one → ends one.line.does ≡ Some op → strand_of one.past op ≡ Some strand
    → Stands before first
ended_before run legal apart before each but strand free start op thread begun ex first one there ended on =
    let end = (found run ex.begin.place start ex.put.there).end in
    let end_too = (found run first one there).end in
    let strand_is : strand_of start.past op ≡ Some strand =
    sym (strand_in_run run start.past legal (end_more run start.line start.past end) op
    (begins_called start.past start.line.thread op start.line.does (spot_legal run legal start end) begun))
    ∙ strand_in_run run one.past legal (end_more run one.line one.past end_too) op (called_on one.past op strand on) ∙ on in
    ⊎_elim (λ stands. stands)
    (λ not. absurd (free thread (holds_strand (lines_of before) thread strand ex.number
    (runs_on run apart before each but start op thread begun ex
    (λ at later at_there at_ended stands. not (subst (λ (p : ℕ). Stands before p)
    (ends_once run legal at first later one at_there there op at_ended ended) stands)))
    (begin_strand run legal apart before each but start end op thread begun ex ∙ strand_is)))) (stands_or before first)
