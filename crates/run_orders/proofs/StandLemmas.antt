-- What stands in an order of a run.
use Rattle.std.proofs.Common.{◌≡◌, ℕ, List, [], ◌∷◌, refl, ap, sym, subst, ◌∙◌, inl, inr, ⊎_elim, length}
use Rattle.std.proofs.lemmas.Bool.{eq-eqb, eqb-true}
use Rattle.std.specs.Prelude.{true, ◌==◌, Option, Some, nat_eq}
use Rattle.std.specs.Option.{option_eq}
use Rattle.run_lines.specs.declared.line.Doing.{Doing}
use Rattle.run_lines.specs.declared.line.Doing.TheVariants as doing
use Rattle.run_lines.specs.declared.line.Line.{Line}
use Rattle.run_rules.specs.Against.{op_of}
use Rattle.run_rules.specs.Calls.{begins}
use Rattle.run_rules.specs.Stacks.{frame, stack}
use Rattle.run_rules.specs.declared.frame.Frame.{Frame}
use Rattle.run_rules.specs.declared.frame.Frame.TheVariants.{Execution}
use Rattle.run_orders.specs.declared.order.Step.{Step}
use Rattle.run_orders.specs.Causes.{IsCause, ends}
use Rattle.run_orders.specs.Orders.{EachMayStand, IsPut, IsStep, MayStand, Stands, lines_of, plain, renumbered, same_op}
use Rattle.run_orders.specs.Trees.{Spot, around_by, frame_by, root, spot_at, tree, writer}
use Rattle.run_orders.proofs.TreeLemmas.{some_same}
use Rattle.run_orders.proofs.BeginLemmas.{IsBegun, around_begin}

-- the executions on the thread of a line, before it
abbrev pub stack_of : Spot → List ℕ
stack_of spot = stack spot.past spot.line.thread

-- who writes the next line of a thread in an order
abbrev pub frame_in : List Step → ℕ → Frame
frame_in before thread = frame (lines_of before) thread

pub stands_step : (steps : List Step) (place : ℕ) → Stands steps place → (step : Step) × IsStep steps step × (step.place ≡ place)
stands_step [] place stands = absurd stands
stands_step (step ∷ before) place stands =
    ⊎_elim (λ (here : step.place ≡ place). (step, inl refl, here))
    (λ behind. let s = stands_step before place behind in (s.0, inr s.1, s.2)) stands

pub step_stands : (steps : List Step) (step : Step) → IsStep steps step → Stands steps step.place
step_stands [] step stands = absurd stands
step_stands (one ∷ before) step stands =
    ⊎_elim (λ (here : one ≡ step). inl (ap (λ (s : Step). s.place) here)) (λ behind. inr (step_stands before step behind)) stands

-- one tree is on one thread

pub same_spot : (run : List Line) (one other : Step) (a b : Spot) → one ≡ other → spot_at run one.place ≡ Some a
    → spot_at run other.place ≡ Some b → a ≡ b
same_spot run one other a b same first second =
    some_same a b (sym first ∙ ap (λ (s : Step). spot_at run s.place) same ∙ second)

pub same_thread : (run : List Line) (apart : List ℕ) (steps : List Step) → EachMayStand run apart steps → (one two : Step) (a b : Spot)
    → IsStep steps one → spot_at run one.place ≡ Some a → IsStep steps two → spot_at run two.place ≡ Some b
    → tree apart a ≡ tree apart b → one.line.thread ≡ two.line.thread
same_thread run apart [] each one two a b stands there too where_two same = absurd stands
same_thread run apart (step ∷ before) each one two a b stands there too where_two same =
    ⊎_elim
    (λ (here : step ≡ one). ⊎_elim
    (λ (also : step ≡ two). ap (λ (s : Step). s.line.thread) (sym here ∙ also))
    (λ behind. sym (each.1.together two b (record { stands = behind; there = where_two })
    (sym same ∙ ap (tree apart) (same_spot run one step a each.1.spot (sym here) there each.1.there))
    ∙ ap (λ (s : Step). s.line.thread) here))
    too)
    (λ behind. ⊎_elim
    (λ (also : step ≡ two). each.1.together one a (record { stands = behind; there = there })
    (same ∙ ap (tree apart) (same_spot run two step b each.1.spot (sym also) where_two each.1.there))
    ∙ ap (λ (s : Step). s.line.thread) also)
    (λ both. same_thread run apart before each.0 one two a b behind there both where_two same) too) stands

-- what stands before a step of an order
pub record IsStood (run : List Line) (apart : List ℕ) (steps : List Step) (step : Step) (spot : Spot) : Type 0 where
  pub before : List Step
  pub may : MayStand run apart before step
  pub same : may.spot ≡ spot
  pub within : (one : Step) → IsStep before one → IsStep steps one

pub stood : (run : List Line) (apart : List ℕ) (steps : List Step) → EachMayStand run apart steps → (step : Step) (spot : Spot)
    → IsStep steps step → spot_at run step.place ≡ Some spot → IsStood run apart steps step spot
stood run apart [] each step spot stands there = absurd stands
stood run apart (one ∷ before) each step spot stands there =
    ⊎_elim
    (λ (here : one ≡ step). subst (λ (s : Step). spot_at run s.place ≡ Some spot → IsStood run apart (one ∷ before) s spot) here
    (λ at. record {
      before = before;
      may = each.1;
      same = some_same each.1.spot spot (sym each.1.there ∙ at);
      within = λ other is. inr is;
    }) there)
    (λ behind. let was = stood run apart before each.0 step spot behind there in
    record { before = was.before; may = was.may; same = was.same; within = λ other is. inr (was.within other is) }) stands

pub stood_stands : (run : List Line) (apart : List ℕ) (steps : List Step) (step : Step) (spot : Spot)
    → (is : IsStood run apart steps step spot) → (place : ℕ) → Stands is.before place → Stands steps place
stood_stands run apart steps step spot is place stands =
    let one = stands_step is.before place stands in
    subst (λ (p : ℕ). Stands steps p) one.2 (step_stands steps one.0 (is.within one.0 one.1))

-- a cause stands before what it causes
pub cause_stands : (run : List Line) (apart : List ℕ) (steps : List Step) (step : Step) (spot : Spot)
    → (is : IsStood run apart steps step spot) → (place : ℕ) (first : Spot) → spot_at run place ≡ Some first
    → IsCause apart first spot → Stands is.before place
cause_stands run apart steps step spot is place first there cause =
    is.may.behind place first there (subst (λ (s : Spot). IsCause apart first s) (sym is.same) cause)

-- the same line with another number

pub renumbered_begins : (does : Doing) (op number : ℕ) → begins does op ≡ true → begins (renumbered number does) number ≡ true
renumbered_begins (doing.Begin was code size) op number is = eq-eqb number number refl
renumbered_begins _ op number is = cc

pub op_of_begin : (does : Doing) (op : ℕ) → begins does op ≡ true → op_of does ≡ Some op
op_of_begin (doing.Begin number code size) op is = ap Some (eqb-true number op is)
op_of_begin _ op is = cc

pub op_of_end : (does : Doing) (op : ℕ) → ends does ≡ Some op → op_of does ≡ Some op
op_of_end (doing.End number) op is = is
op_of_end (doing.Throw number) op is = is
op_of_end _ op is = cc

pub renumbered_ends : (does : Doing) (number op : ℕ) → ends (renumbered number does) ≡ Some op
    → (was : ℕ) × (ends does ≡ Some was)
renumbered_ends (doing.End was) number op is = (was, refl)
renumbered_ends (doing.Throw was) number op is = (was, refl)
renumbered_ends _ number op is = cc

-- of two pairs of lines that name one operation or two alike, the second names one
pub one_number : (a b c d : Doing) (op other number more : ℕ) → same_op a b ≡ same_op c d → op_of a ≡ Some op → op_of b ≡ Some other
    → op_of c ≡ Some number → op_of d ≡ Some more → (op == other) ≡ (number == more)
one_number a b c d op other number more same is too copy copied =
    sym (ap (λ (o : Option ℕ). option_eq nat_eq o (op_of b)) is ∙ ap (λ (o : Option ℕ). option_eq nat_eq (Some op) o) too)
    ∙ same ∙ ap (λ (o : Option ℕ). option_eq nat_eq o (op_of d)) copy ∙ ap (λ (o : Option ℕ). option_eq nat_eq (Some number) o) copied

pub equal_ops : (op other number : ℕ) → (op == other) ≡ (number == number) → op ≡ other
equal_ops op other number same = eqb-true op other (same ∙ eq-eqb number number refl)

-- the tree of a line of an execution is that of its begin
pub tree_of_begin : (run : List Line) (apart : List ℕ) (line : Spot) (op : ℕ) → (began : IsBegun run line op)
    → around_by line.line.does (stack_of line) ≡ stack_of line → tree apart began.spot ≡ tree apart line
tree_of_begin run apart line op began plain =
    ap (λ (ops : List ℕ). frame_by began.spot.line.thread (root apart ops))
    (around_begin began.spot.line.does op (stack_of began.spot) began.begun ∙ sym began.around ∙ sym plain)
    ∙ ap (λ (t : ℕ). frame_by t (root apart (around_by line.line.does (stack_of line)))) began.on

-- an execution of a run goes on in an order, on this thread
pub record Executes (run : List Line) (steps : List Step) (spot : Spot) (op thread : ℕ) : Type 0 where
  pub number : ℕ
  pub begin : Step
  pub put : IsPut run steps begin spot
  pub copied : begins begin.line.does number ≡ true
  pub on : begin.line.thread ≡ thread

abbrev pub executes_more : (run : List Line) (step : Step) (before : List Step) (spot : Spot) (op thread : ℕ)
    → Executes run before spot op thread → Executes run (step ∷ before) spot op thread
executes_more run step before spot op thread was = record {
  number = was.number;
  begin = was.begin;
  put = record { stands = inr was.put.stands; there = was.put.there };
  copied = was.copied;
  on = was.on;
}

-- the execution that writes a line has begun, and writes it there, too
pub record IsWritten (run : List Line) (before : List Step) (spot : Spot) (op thread : ℕ) : Type 0 where
  pub executes : Executes run before spot op thread
  pub writes : frame_in before thread ≡ Execution executes.number

pub written : (run : List Line) (apart : List ℕ) → (before : List Step) → EachMayStand run apart before
    → (step : Step) (may : MayStand run apart before step) (op : ℕ) → (began : IsBegun run may.spot op)
    → writer may.spot ≡ Execution op → around_by may.spot.line.does (stack_of may.spot) ≡ stack_of may.spot
    → IsWritten run before began.spot op step.line.thread
written run apart before each step may op began writes plain =
    let same = tree_of_begin run apart may.spot op began plain in
    let here = stands_step before (length began.spot.past)
    (may.behind (length began.spot.past) began.spot began.there (record { earlier = began.earlier; reason = inl same })) in
    let there : spot_at run (here.0).place ≡ Some began.spot = ap (spot_at run) here.2 ∙ began.there in
    let put : IsPut run before here.0 began.spot = record { stands = here.1; there = there } in
    let was = stood run apart before each here.0 began.spot here.1 there in
    let number = was.may.copied.0 in
    let copied : begins (here.0).line.does number ≡ true =
    ap (λ (d : Doing). begins d number) was.may.copied.1
    ∙ renumbered_begins was.may.spot.line.does op number (ap (λ (s : Spot). begins s.line.does op) was.same ∙ began.begun) in
    record {
      executes =
          record {
            number = number;
            begin = here.0;
            put = put;
            copied = copied;
            on = may.together here.0 began.spot put same;
          };
      writes = may.caller here.0 began.spot op number put same writes began.begun copied;
    }
