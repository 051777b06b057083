-- What is round an execution in an order is round it in the run.
use Rattle.std.proofs.Common.{◌≡◌, ℕ, List, [], ◌∷◌, refl, ap, sym, subst, ◌∙◌, inl, inr, ⊎_elim, length}
use Rattle.std.proofs.lemmas.Bool.{cond_both, eq-eqb, eqb-true, or_cases}
use Rattle.std.specs.Prelude.{Bool, true, false, ◌==◌, if◌then◌else◌, Option, Some, IsSome, nat_eq}
use Rattle.std.specs.Option.{option_eq}
use Rattle.std.specs.List.{list_any}
use Rattle.run_lines.specs.declared.code.Code.{Code}
use Rattle.run_lines.specs.declared.line.Doing.{Doing}
use Rattle.run_lines.specs.declared.line.Doing.TheVariants as doing
use Rattle.run_lines.specs.declared.line.Line.{Line}
use Rattle.run_rules.specs.declared.frame.Frame.TheVariants.{Execution}
use Rattle.run_rules.specs.Calls.{begins, call_of, strand_of}
use Rattle.run_rules.specs.Legal.{IsLegalSoFar}
use Rattle.run_rules.specs.Stacks.{frame_of, outer, stack, stack_after}
use Rattle.run_rules.specs.Starting.{Holds, is_on}
use Rattle.run_rules.proofs.StrandLemmas.{AreCalled, is_on-is, stack_called}
use Rattle.run_orders.specs.declared.order.Step.{Step}
use Rattle.run_orders.specs.Orders.{EachMayStand, IsLegalBut, IsPut, MayStand, lines_of, plain, renumbered}
use Rattle.run_orders.specs.Trees.{Spot, frame_by, is_among, root, spot_at, tree, writer}
use Rattle.run_orders.proofs.TreeLemmas.{IsEnd, IsIn, end_more, found}
use Rattle.run_orders.proofs.BeginLemmas.{IsBegun, around_begin, begun_before, only_begin}
use Rattle.run_orders.proofs.StandLemmas.{Executes, executes_more, renumbered_begins, stack_of, stands_step, stood}
use Rattle.run_orders.proofs.CalledLemmas.{any_in, begin_strand, begins_called, strand_in_run}
use Rattle.run_orders.proofs.EndingLemmas.{legal_at}
use Rattle.run_orders.proofs.RunningLemmas.{spot_legal}
use Rattle.run_orders.proofs.UnderLockLemmas.{outside_stack, same_begun}

-- an execution of an order, and the one of the run that it is
pub record ComesFrom (run : List Line) (steps : List Step) (thread number op : ℕ) : Type 0 where
  pub start : Spot
  pub executes : Executes run steps start op thread
  pub begun : begins start.line.does op ≡ true
  pub same : executes.number ≡ number

-- each of these executions of an order is one of those of the run
abbrev pub AllFrom : List Line → List Step → ℕ → List ℕ → List ℕ → Type 0
AllFrom run steps thread [] ops = Unit {0}
AllFrom run steps thread (number ∷ numbers) ops =
    ((op : ℕ) × IsIn op ops × ComesFrom run steps thread number op) × AllFrom run steps thread numbers ops

-- of these executions of an order, each stands inside the next one, and in the run it stands inside all that come behind it
abbrev pub AreNested : List Line → List Step → ℕ → List ℕ → Type 0
AreNested run steps thread [] = Unit {0}
AreNested run steps thread (number ∷ numbers) =
    ((op : ℕ) × (from : ComesFrom run steps thread number op) × AllFrom run steps thread numbers (stack_of from.start))
    × AreNested run steps thread numbers

abbrev from_more : (run : List Line) (step : Step) (before : List Step) (thread number op : ℕ) → ComesFrom run before thread number op
    → ComesFrom run (step ∷ before) thread number op
from_more run step before thread number op from = record {
  start = from.start;
  executes = executes_more run step before from.start op thread from.executes;
  begun = from.begun;
  same = from.same;
}

all_more : (run : List Line) (step : Step) (before : List Step) (thread : ℕ) (numbers ops : List ℕ) → AllFrom run before thread numbers ops
    → AllFrom run (step ∷ before) thread numbers ops
all_more run step before thread [] ops all = tt
all_more run step before thread (number ∷ numbers) ops ((op, within, from), all) =
    ((op, within, from_more run step before thread number op from), all_more run step before thread numbers ops all)

all_within : (run : List Line) (steps : List Step) (thread : ℕ) (numbers ops more : List ℕ) → ((op : ℕ) → IsIn op ops → IsIn op more)
    → AllFrom run steps thread numbers ops → AllFrom run steps thread numbers more
all_within run steps thread [] ops more is all = tt
all_within run steps thread (number ∷ numbers) ops more is ((op, within, from), all) =
    ((op, is op within, from), all_within run steps thread numbers ops more is all)

nested_more : (run : List Line) (step : Step) (before : List Step) (thread : ℕ) (numbers : List ℕ) → AreNested run before thread numbers
    → AreNested run (step ∷ before) thread numbers
nested_more run step before thread [] are = tt
nested_more run step before thread (number ∷ numbers) ((op, from, all), are) = (
  (
    op,
    from_more run step before thread number op from,
    all_more run step before thread numbers (stack_of from.start) all,
  ),
  nested_more run step before thread numbers are,
)

-- what is round a begin in an order is round it in the run

-- nothing is round the begin of a tree
idle_from : (run : List Line) (apart : List ℕ) (before : List Step) (step : Step) → (may : MayStand run apart before step) → (op : ℕ)
    → begins may.spot.line.does op ≡ true → root apart (op ∷ stack_of may.spot) ≡ Some op → (ops : List ℕ)
    → AllFrom run before step.line.thread (stack (lines_of before) step.line.thread) ops
idle_from run apart before step may op begun alone ops =
    let is : tree apart may.spot ≡ Execution op =
    ap (λ (all : List ℕ). frame_by may.spot.line.thread (root apart all)) (around_begin may.spot.line.does op (stack_of may.spot) begun)
    ∙ ap (frame_by may.spot.line.thread) alone in
    let none : stack (lines_of before) step.line.thread ≡ [] =
    (outside_stack (stack (lines_of before) step.line.thread) step.line.thread step.line.thread (may.idle (inr (op, begun, is)))).0 in
    subst (λ (numbers : List ℕ). AllFrom run before step.line.thread numbers ops) (sym none) tt

-- an execution that begins in the tree of the one round it
caller_from : (run : List Line) → IsLegalSoFar plain run → (apart : List ℕ) (before : List Step) → EachMayStand run apart before
    → (step : Step) → (may : MayStand run apart before step) → (op caller : ℕ) → begins may.spot.line.does op ≡ true
    → writer may.spot ≡ Execution caller
    → ((began : IsBegun run may.spot caller) → root apart (op ∷ stack_of may.spot) ≡ root apart (caller ∷ stack_of began.spot))
    → AreNested run before step.line.thread (stack (lines_of before) step.line.thread)
    → AllFrom run before step.line.thread (stack (lines_of before) step.line.thread) (stack_of may.spot)
caller_from run legal apart before each step may op caller begun writes roots nested =
    let end = (found run step.place may.spot may.there).end in
    let began = begun_before run plain legal may.spot end caller writes in
    let start = began.spot in
    let same : tree apart start ≡ tree apart may.spot =
    ap (λ (all : List ℕ). frame_by start.line.thread (root apart all)) (around_begin start.line.does caller (stack_of start) began.begun)
    ∙ ap (frame_by start.line.thread) (sym (roots began))
    ∙ ap (λ (t : ℕ). frame_by t (root apart (op ∷ stack_of may.spot))) began.on
    ∙ ap (λ (all : List ℕ). frame_by may.spot.line.thread (root apart all))
    (sym (around_begin may.spot.line.does op (stack_of may.spot) begun)) in
    let here = stands_step before (length start.past)
    (may.behind (length start.past) start began.there (record { earlier = began.earlier; reason = inl same })) in
    let put : IsPut run before here.0 start = record { stands = here.1; there = ap (spot_at run) here.2 ∙ began.there } in
    let was = stood run apart before each here.0 start here.1 put.there in
    let number = was.may.copied.0 in
    let copied : begins (here.0).line.does number ≡ true =
    ap (λ (d : Doing). begins d number) was.may.copied.1
    ∙ renumbered_begins was.may.spot.line.does caller number
    (ap (λ (s : Spot). begins s.line.does caller) was.same ∙ began.begun) in
    top_from (stack (lines_of before) step.line.thread) began here.0 put number copied
    (may.caller here.0 start caller number put same writes began.begun copied) nested
  where
    top_from : (numbers : List ℕ) → (began : IsBegun run may.spot caller) → (first : Step) → IsPut run before first began.spot
        → (number : ℕ) → begins first.line.does number ≡ true → frame_of numbers step.line.thread ≡ Execution number
        → AreNested run before step.line.thread numbers → AllFrom run before step.line.thread numbers (stack_of may.spot)
    top_from [] began first put number copied is nested = cc
    top_from (one ∷ numbers) began first put number copied is ((other, from, all), nested) =
        let same : one ≡ number = cc in
        let ex = from.executes in
        let equal : other ≡ caller =
        same_begun run apart before each ex.begin first from.start began.spot other caller number ex.put put from.begun began.begun
        (subst (λ (n : ℕ). begins ex.begin.line.does n ≡ true) (from.same ∙ same) ex.copied) copied in
        let start : began.spot ≡ from.start =
        only_begin plain run legal from.start caller (found run ex.begin.place from.start ex.put.there).end
        (subst (λ (o : ℕ). begins from.start.line.does o ≡ true) equal from.begun) began.spot began.alone in (
          (other, subst (IsIn other) (sym began.around) (inl (sym equal)), from),
          all_within run before step.line.thread numbers (stack_of from.start) (stack_of may.spot)
              (λ inner within. subst (IsIn inner) (sym began.around)
              (inr (subst (λ (s : Spot). IsIn inner (stack_of s)) (sym start) within))) all,
        )

inside_from : (run : List Line) → IsLegalSoFar plain run → (apart : List ℕ) (before : List Step) → EachMayStand run apart before
    → (step : Step) → (may : MayStand run apart before step) → (op : ℕ) → begins may.spot.line.does op ≡ true
    → AreNested run before step.line.thread (stack (lines_of before) step.line.thread)
    → AllFrom run before step.line.thread (stack (lines_of before) step.line.thread) (stack_of may.spot)
inside_from run legal apart before each step may op begun nested = by_stack (stack_of may.spot) refl
  where
    by_among : (caller : ℕ) (rest : List ℕ) → stack_of may.spot ≡ caller ∷ rest → (b : Bool) → is_among apart op ≡ b
        → AllFrom run before step.line.thread (stack (lines_of before) step.line.thread) (stack_of may.spot)
    by_among caller rest is true among =
        idle_from run apart before step may op begun
        (ap (λ (ops : List ℕ). root apart (op ∷ ops)) is
        ∙ ap (λ (b : Bool). if b then Some op else root apart (caller ∷ rest)) among) (stack_of may.spot)
    by_among caller rest is false among =
        caller_from run legal apart before each step may op caller begun
        (ap (λ (ops : List ℕ). frame_of ops may.spot.line.thread) is)
        (λ began. ap (λ (ops : List ℕ). root apart (op ∷ ops)) is
        ∙ ap (λ (b : Bool). if b then Some op else root apart (caller ∷ rest)) among
        ∙ ap (root apart) (sym is ∙ began.around)) nested

    by_stack : (ops : List ℕ) → stack_of may.spot ≡ ops
        → AllFrom run before step.line.thread (stack (lines_of before) step.line.thread) (stack_of may.spot)
    by_stack [] is =
        idle_from run apart before step may op begun (ap (λ (ops : List ℕ). root apart (op ∷ ops)) is) (stack_of may.spot)
    by_stack (caller ∷ rest) is = by_among caller rest is (is_among apart op) refl

begun_back : (k : ℕ) (does : Doing) (number : ℕ) (code : Code) (size : ℕ) → renumbered k does ≡ doing.Begin number code size
    → (op : ℕ) × (begins does op ≡ true)
begun_back k (doing.Begin op was bytes) number code size is = (op, eq-eqb op op refl)
begun_back k (doing.Call op word context strand thing) number code size is = cc
begun_back k (doing.Back op) number code size is = cc
begun_back k (doing.Done op was bytes) number code size is = cc
begun_back k (doing.End op) number code size is = cc
begun_back k (doing.Throw op) number code size is = cc
begun_back k (doing.Drop op) number code size is = cc
begun_back k _ number code size is = cc

outer_nested : (run : List Line) (steps : List Step) (thread : ℕ) (numbers : List ℕ) → AreNested run steps thread numbers
    → AreNested run steps thread (outer numbers)
outer_nested run steps thread [] are = tt
outer_nested run steps thread (number ∷ numbers) are = are.1

nested_after : (run : List Line) → IsLegalSoFar plain run → (apart : List ℕ) (before : List Step) → EachMayStand run apart before
    → (step : Step) → MayStand run apart before step → (does : Doing) → step.line.does ≡ does
    → AreNested run before step.line.thread (stack (lines_of before) step.line.thread)
    → AreNested run (step ∷ before) step.line.thread (stack_after does (stack (lines_of before) step.line.thread))
nested_after run legal apart before each step may (doing.Begin number code size) is nested =
    let original = begun_back may.copied.0 may.spot.line.does number code size (sym may.copied.1 ∙ is) in (
      (
        original.0,
        record {
          start = may.spot;
          executes =
              record {
                number = number;
                begin = step;
                put = record { stands = inl refl; there = may.there };
                copied = ap (λ (d : Doing). begins d number) is ∙ eq-eqb number number refl;
                on = refl;
              };
          begun = original.1;
          same = refl;
        },
        all_more run step before step.line.thread (stack (lines_of before) step.line.thread) (stack_of may.spot)
            (inside_from run legal apart before each step may original.0 original.1 nested),
      ),
      nested_more run step before step.line.thread (stack (lines_of before) step.line.thread) nested,
    )
nested_after run legal apart before each step may (doing.End op) is nested =
    outer_nested run (step ∷ before) step.line.thread (stack (lines_of before) step.line.thread)
    (nested_more run step before step.line.thread (stack (lines_of before) step.line.thread) nested)
nested_after run legal apart before each step may (doing.Throw op) is nested =
    outer_nested run (step ∷ before) step.line.thread (stack (lines_of before) step.line.thread)
    (nested_more run step before step.line.thread (stack (lines_of before) step.line.thread) nested)
nested_after run legal apart before each step may _ is nested =
    nested_more run step before step.line.thread (stack (lines_of before) step.line.thread) nested

all_nested : (run : List Line) → IsLegalSoFar plain run → (apart : List ℕ) (steps : List Step) → EachMayStand run apart steps
    → (thread : ℕ) → AreNested run steps thread (stack (lines_of steps) thread)
all_nested run legal apart [] each thread = tt
all_nested run legal apart (step ∷ before) each thread =
    cond_both (step.line.thread == thread) (stack_after step.line.does (stack (lines_of before) thread)) (stack (lines_of before) thread)
    (λ (numbers : List ℕ). AreNested run (step ∷ before) thread numbers)
    (λ here. subst (λ (t : ℕ). AreNested run (step ∷ before) t (stack_after step.line.does (stack (lines_of before) t)))
    (eqb-true step.line.thread thread here)
    (nested_after run legal apart before each.0 step each.1 step.line.does refl
    (all_nested run legal apart before each.0 step.line.thread)))
    (λ elsewhere. nested_more run step before thread (stack (lines_of before) thread) (all_nested run legal apart before each.0 thread))

-- a thread that holds a strand where an execution begins in an order holds it there in the run

called_in : (past : List Line) (ops : List ℕ) (op : ℕ) → AreCalled past ops → IsIn op ops → IsSome (call_of past op)
called_in past [] op called is = absurd is
called_in past (one ∷ ops) op called is =
    ⊎_elim (λ (here : one ≡ op). subst (λ (o : ℕ). IsSome (call_of past o)) here called.0)
    (λ behind. called_in past ops op called.1 behind) is

-- one of these executions of the run is on this strand
abbrev IsOneOn : List Line → List ℕ → ℕ → Type 0
IsOneOn run ops strand = (op : ℕ) × IsIn op ops × (strand_of run op ≡ Some strand)

one_on : (run : List Line) → IsLegalSoFar plain run → (apart : List ℕ) (steps : List Step) → EachMayStand run apart steps
    → IsLegalBut (lines_of steps) → (thread strand : ℕ) (numbers ops : List ℕ) → AllFrom run steps thread numbers ops
    → list_any (is_on (lines_of steps) strand) numbers ≡ true → IsOneOn run ops strand
one_on run legal apart steps each but thread strand [] ops all is = cc
one_on run legal apart steps each but thread strand (number ∷ numbers) ops ((op, within, from), all) is =
    ⊎_elim
    (λ here.
    let start = from.start in
    let end = (found run from.executes.begin.place start from.executes.put.there).end in
    let on : strand_of (lines_of steps) number ≡ Some strand = is_on-is (strand_of (lines_of steps) number) strand here in (
      op,
      within,
      strand_in_run run start.past legal (end_more run start.line start.past end) op
          (begins_called start.past start.line.thread op start.line.does (spot_legal run legal start end) from.begun)
          ∙ sym (begin_strand run legal apart steps each but start end op thread from.begun from.executes)
          ∙ ap (λ (n : ℕ). strand_of (lines_of steps) n) from.same ∙ on,
    ))
    (λ behind. one_on run legal apart steps each but thread strand numbers ops all behind)
    (or_cases (is_on (lines_of steps) strand number) (list_any (is_on (lines_of steps) strand) numbers) is)

pub held_in_run : (run : List Line) → IsLegalSoFar plain run → (apart : List ℕ) (before : List Step) → EachMayStand run apart before
    → IsLegalBut (lines_of before) → (step : Step) → (may : MayStand run apart before step) → (op strand : ℕ)
    → begins may.spot.line.does op ≡ true → Holds (lines_of before) step.line.thread strand
    → Holds may.spot.past may.spot.line.thread strand
held_in_run run legal apart before each but step may op strand begun holds =
    let spot = may.spot in
    let end = (found run step.place spot may.there).end in
    let deep : IsEnd run spot.past = end_more run spot.line spot.past end in
    let one = one_on run legal apart before each but step.line.thread strand (stack (lines_of before) step.line.thread) (stack_of spot)
    (inside_from run legal apart before each step may op begun (all_nested run legal apart before each step.line.thread)) holds in
    let called = called_in spot.past (stack_of spot) one.0
    (stack_called plain spot.past (legal_at run legal spot.past deep) spot.line.thread) one.1 in
    any_in (is_on spot.past strand) (stack_of spot) one.0 one.1
    (is_on_by (strand_of spot.past one.0) strand (sym (strand_in_run run spot.past legal deep one.0 called) ∙ one.2))
  where
    is_on_by : (o : Option ℕ) (strand : ℕ) → o ≡ Some strand → option_eq nat_eq o (Some strand) ≡ true
    is_on_by o strand is = ap (λ (p : Option ℕ). option_eq nat_eq p (Some strand)) is ∙ eq-eqb strand strand refl
