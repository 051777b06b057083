-- Orders of a run.
use Rattle.std.proofs.Common.{◌≡◌, ℕ, suc, ◌<◌, List, [], ◌∷◌, refl, ap, sym, subst, ◌∙◌, inl, inr, ⊎_elim, length, arith}
use Rattle.std.proofs.lemmas.Bool.{cases_Bool, eqb-true}
use Rattle.std.proofs.lemmas.List.Elements.{All-nil}
use Rattle.std.specs.Prelude.{true, false, ◌==◌, Some}
use Rattle.run_lines.specs.declared.line.Doing.{Doing}
use Rattle.run_lines.specs.declared.line.Doing.TheVariants as doing
use Rattle.run_lines.specs.declared.line.Line.{Line}
use Rattle.run_rules.specs.declared.frame.Frame.TheVariants.{Execution}
use Rattle.run_rules.specs.Calls.{begins}
use Rattle.run_rules.specs.Legal.{IsLegalSoFar}
use Rattle.run_rules.specs.MayCome.{MayDo}
use Rattle.run_rules.specs.Stacks.{frame, frame_of, stack}
use Rattle.run_orders.specs.declared.order.Step.{Step}
use Rattle.run_orders.specs.Apart.{StandsAlone}
use Rattle.run_orders.specs.Laws.{steps_of}
use Rattle.run_orders.specs.Holding.{HoldsBoth}
use Rattle.run_orders.specs.Orders.{BeginsTree, EachMayStand, IsLegalBut, IsOrderOf, IsStep, MayDoBut, MayStand, Stands, lines_of, plain, renumbered, same_op}
use Rattle.run_orders.specs.Trees.{Spot, spot_at, tree}
use Rattle.run_orders.proofs.StandLemmas.{same_thread}
use Rattle.run_orders.proofs.TreeLemmas.{IsEnd, begun_one, end_more, found, legal_end, some_same, spot_of_end, stack_alone, stack_outside, tree_on_thread}

-- one tree is on one thread

pub one_tree_apart : (run : List Line) (apart : List ℕ) (steps : List Step) (thing place other : ℕ) (one two : Spot)
    → IsOrderOf run apart steps → spot_at run place ≡ Some one → spot_at run other ≡ Some two → tree apart one ≡ tree apart two
    → HoldsBoth run steps thing place other → ⊥
one_tree_apart run apart steps thing place other one two order there too same holds =
    let x = holds.held in
    let y = holds.held_too in
    holds.apart
    (sym x.on
    ∙ same_thread run apart steps order.each x.step y.step one two x.put.stands (ap (spot_at run) x.here ∙ there) y.put.stands
    (ap (spot_at run) y.here ∙ too) same ∙ y.on)

-- a run is an order of itself

below : (past : List Line) (place : ℕ) → Stands (steps_of past) place → place < length past
below [] place stands = absurd stands
below (line ∷ past) place stands =
    ⊎_elim (λ (here : length past ≡ place). omega arith)
    (λ behind. let less : place < length past = below past place behind in omega arith) stands

stands_all : (past : List Line) (place : ℕ) → place < length past → Stands (steps_of past) place
stands_all [] place less = absurd (omega arith)
stands_all (line ∷ past) place less =
    ⊎_elim (λ (here : (length past == place) ≡ true). inl (eqb-true (length past) place here))
    (λ (elsewhere : (length past == place) ≡ false). inr (stands_all past place
    (let bound : place < suc (length past) = less in smaller (length past) place bound elsewhere)))
    (cases_Bool (length past == place))
  where
    smaller : (n place : ℕ) → place < suc n → (n == place) ≡ false → place < n
    smaller n place less apart = grind (arith)

itself : (does : Doing) → (number : ℕ) × (does ≡ renumbered number does)
itself (doing.Call op word context strand thing) = (op, refl)
itself (doing.Back op) = (op, refl)
itself (doing.Done op code size) = (op, refl)
itself (doing.Begin op code size) = (op, refl)
itself (doing.End op) = (op, refl)
itself (doing.Throw op) = (op, refl)
itself (doing.Drop op) = (op, refl)
itself _ = (0, refl)

-- each step is the line at its place
step_line : (run past : List Line) → IsEnd run past → (step : Step) → IsStep (steps_of past) step → (spot : Spot)
    → spot_at run step.place ≡ Some spot → spot.line ≡ step.line
step_line run [] end step stands spot there = absurd stands
step_line run (line ∷ past) end step stands spot there =
    ⊎_elim
    (λ (here : record { place = length past; line = line } ≡ step).
    let same : spot ≡ record { line = line; past = past } =
    some_same spot (record { line = line; past = past })
    (sym there ∙ ap (λ (s : Step). spot_at run s.place) (sym here) ∙ spot_of_end run line past end) in
    ap (λ (s : Spot). s.line) same ∙ ap (λ (s : Step). s.line) here)
    (λ behind. step_line run past (end_more run line past end) step behind spot there) stands

lines_are : (past : List Line) → lines_of (steps_of past) ≡ past
lines_are [] = refl
lines_are (line ∷ past) = ap (λ (all : List Line). line ∷ all) (lines_are past)

-- nothing executes on the thread of a line that begins a tree
nothing_round : (run : List Line) → IsLegalSoFar plain run → (line : Line) (past : List Line) → IsEnd run (line ∷ past)
    → BeginsTree [] (record { line = line; past = past }) → stack past line.thread ≡ []
nothing_round run legal line past (later, parted) first =
    ⊎_elim (λ outside. stack_outside (record { line = line; past = past }) outside)
    (λ begun. stack_alone plain (record { line = line; past = past })
    (legal_end plain later (line ∷ past) (subst (λ (all : List Line). IsLegalSoFar plain all) parted legal)) begun.0 begun.1 begun.2)
    first

stands_itself : (run : List Line) → IsLegalSoFar plain run → (line : Line) (past : List Line) → IsEnd run (line ∷ past)
    → MayStand run [] (steps_of past) (record { place = length past; line = line })
stands_itself run legal line past end =
    let before : IsEnd run past = end_more run line past end in
    let there = spot_of_end run line past end in
    record {
      spot = record { line = line; past = past };
      there = there;
      once = λ stands. let less : length past < length past = below past (length past) stands in omega arith;
      copied = itself line.does;
      numbered = λ other first put.
          ap (λ (l : Line). same_op l.does line.does) (step_line run past before other put.stands first put.there);
      behind = λ place first found_there cause.
          let place_is : length first.past ≡ place = (found run place first found_there).place_is in
          let less : length first.past < length past = cause.earlier in stands_all past place (omega arith);
      together = λ other first put same.
          ap (λ (l : Line). l.thread) (sym (step_line run past before other put.stands first put.there))
          ∙ tree_on_thread plain run legal first (record { line = line; past = past }) (found run other.place first put.there).end end same;
      outside = λ out. refl;
      caller = λ other first op number put same inside begun copied.
          let line_is : first.line ≡ other.line = step_line run past before other put.stands first put.there in
          let number_is : op ≡ number =
          begun_one other.line.does op number (subst (λ (l : Line). begins l.does op ≡ true) line_is begun) copied in
          ap (λ (all : List Line). frame all line.thread) (lines_are past) ∙ inside ∙ ap Execution number_is;
      idle = λ first.
          ap (λ (all : List Line). frame all line.thread) (lines_are past)
          ∙ ap (λ (ops : List ℕ). frame_of ops line.thread) (nothing_round run legal line past end first);
      worker = λ op context begun known.
          record {
            place = length past;
            spot = record { line = line; past = past };
            there = there;
            same = refl;
            works = inr (op, begun, known);
          };
      busy = λ op strand called among. cc;
    }

each_stands : (run : List Line) → IsLegalSoFar plain run → (past : List Line) → IsEnd run past → EachMayStand run [] (steps_of past)
each_stands run legal [] end = tt
each_stands run legal (line ∷ past) end =
    (each_stands run legal past (end_more run line past end), stands_itself run legal line past end)

may_but : (past : List Line) (thread : ℕ) (does : Doing) → MayDo plain past thread does → MayDoBut past thread does
may_but past thread (doing.Claim thing) may = tt
may_but past thread (doing.Call op word context strand thing) may = may
may_but past thread (doing.Back op) may = may
may_but past thread (doing.Done op code size) may = may
may_but past thread (doing.Begin op code size) may = may
may_but past thread (doing.End op) may = may
may_but past thread (doing.Throw op) may = may
may_but past thread (doing.Drop op) may = may
may_but past thread (doing.Release thing) may = may
may_but past thread (doing.Lock lock) may = may
may_but past thread (doing.Unlock lock) may = may
may_but past thread (doing.Mark mark) may = may
may_but past thread (doing.After mark) may = may
may_but past thread (doing.Cancel thing) may = may
may_but past thread (doing.Work context) may = may
may_but past thread (doing.Stop context) may = may
may_but past thread (doing.Restart context) may = may

pub legal_but : (past : List Line) → IsLegalSoFar plain past → IsLegalBut past
legal_but [] legal = tt
legal_but (line ∷ past) legal = (legal_but past legal.0, may_but past line.thread line.does legal.1.rules)

pub order_of_itself : (run : List Line) → IsLegalSoFar plain run → IsOrderOf run [] (steps_of run)
order_of_itself run legal = record {
  alone = All-nil (StandsAlone run);
  each = each_stands run legal run ([], refl);
  legal = subst IsLegalBut (sym (lines_are run)) (legal_but run legal);
}
