-- What may stand in an order may be put there.
use Rattle.std.proofs.Common.{◌≡◌, ℕ, List, [], ◌∷◌, refl, ap, sym, subst, ◌∙◌, inl, inr, ⊎_elim, length}
use Rattle.std.proofs.lemmas.Bool.{cases_Bool, cond_both, eq-eqb, eqb-true}
use Rattle.std.specs.Prelude.{Bool, true, false, ◌==◌, if◌then◌else◌, Option, Some, None}
use Rattle.std.specs.Option.{option_map, unwrap_or}
use Rattle.run_lines.specs.declared.line.Doing.{Doing}
use Rattle.run_lines.specs.declared.line.Doing.TheVariants as doing
use Rattle.run_lines.specs.declared.line.Line.{Line}
use Rattle.run_rules.specs.declared.frame.Frame.{Frame}
use Rattle.run_rules.specs.declared.frame.Frame.TheVariants.{Execution, Outside}
use Rattle.run_rules.specs.Against.{op_of}
use Rattle.run_rules.specs.Calls.{Calling, begins, call_of, context_of, done_of}
use Rattle.run_rules.specs.Stacks.{frame}
use Rattle.run_check.specs.After.{is_spent, loose, waiter_from, waiter_of}
use Rattle.run_check.specs.declared.waiting.Waiter.{Waiter}
use Rattle.run_orders.specs.declared.order.Step.{Step}
use Rattle.run_orders.specs.Orders.{BeginsTree, EachMayStand, IsPut, MayStand, Stands, lines_of, renumbered}
use Rattle.run_orders.specs.Trees.{Spot, around, around_by, frame_by, is_among, root, spot_at, tree, writer}
use Rattle.run_orders.proofs.BeginLemmas.{IsBegun, around_begin, begun_before}
use Rattle.run_orders.proofs.StandLemmas.{equal_ops, one_number, op_of_begin, renumbered_begins, stack_of, stands_step, stood}
use Rattle.run_orders.proofs.TreeLemmas.{found, some_same}
use Rattle.run_witness.specs.Facts.{AreFacts, begun_by, fact_of, works}
use Rattle.run_witness.specs.Placing.{BeginsIts, IsOrUnknown, IsPlacing, MayPair, MayPut, Pairs, number_of, op_named, position, thread_of}
use Rattle.run_witness.specs.declared.facts.Fact.{Fact}
use Rattle.run_witness.specs.declared.facts.Facts.{Facts}
use Rattle.run_witness.specs.declared.placing.Placing.{Placing}

or_unknown : (o : Option ℕ) (number : ℕ) → ((known : ℕ) → o ≡ Some known → known ≡ number) → IsOrUnknown o number
or_unknown None number is = tt
or_unknown (Some known) number is = is known refl

-- what doesn't stand has no position
no_position : (before : List Step) (place : ℕ) → (Stands before place → ⊥) → position before place ≡ None
no_position [] place none = refl
no_position (step ∷ before) place none =
    ⊎_elim (λ (here : (step.place == place) ≡ true). absurd (none (inl (eqb-true step.place place here))))
    (λ (elsewhere : (step.place == place) ≡ false). rw elsewhere (no_position before place (λ stands. none (inr stands))))
    (cases_Bool (step.place == place))

-- the number of what is renumbered
copied_with : (does copy : Doing) (number : ℕ) → copy ≡ renumbered number does
    → copy ≡ renumbered (unwrap_or (op_of copy) 0) does
copied_with (doing.Call op word context strand thing) copy number is = rw is refl
copied_with (doing.Back op) copy number is = rw is refl
copied_with (doing.Done op code size) copy number is = rw is refl
copied_with (doing.Begin op code size) copy number is = rw is refl
copied_with (doing.End op) copy number is = rw is refl
copied_with (doing.Throw op) copy number is = rw is refl
copied_with (doing.Drop op) copy number is = rw is refl
copied_with _ copy number is = is

op_copied : (does : Doing) (number : ℕ) → op_of (renumbered number does) ≡ option_map (λ (op : ℕ). number) (op_of does)
op_copied (doing.Call op word context strand thing) number = refl
op_copied (doing.Back op) number = refl
op_copied (doing.Done op code size) number = refl
op_copied (doing.Begin op code size) number = refl
op_copied (doing.End op) number = refl
op_copied (doing.Throw op) number = refl
op_copied (doing.Drop op) number = refl
op_copied _ number = refl

-- the numbers of a line that may stand
may_pair : {apart : List ℕ} (run : List Line) (before : List Step) (old : Placing) (step : Step)
    → IsPlacing run apart before old
    → (may : MayStand run apart before step) → (a b : Option ℕ) → op_of may.spot.line.does ≡ a → op_of step.line.does ≡ b
    → b ≡ option_map (λ (op : ℕ). may.copied.0) a → MayPair old a b
may_pair run before old step kept may None None is_a is_b both = tt
may_pair run before old step kept may None (Some number) is_a is_b both = cc
may_pair run before old step kept may (Some op) None is_a is_b both = cc
may_pair run before old step kept may (Some op) (Some number) is_a is_b both = (
  or_unknown (number_of old op) number (λ other is.
      let was = kept.numbered op other is in
      let same = one_number was.first.line.does may.spot.line.does was.step.line.does step.line.does op op other number
      (may.numbered was.step was.first was.put) was.has.0 is_a was.has.1 is_b in
      eqb-true other number (sym same ∙ eq-eqb op op refl)),
  or_unknown (op_named old number) op (λ other is.
      let was = kept.named other number is in
      equal_ops other op number
      (one_number was.first.line.does may.spot.line.does was.step.line.does step.line.does other op number number
      (may.numbered was.step was.first was.put) was.has.0 is_a was.has.1 is_b)),
)

-- what is in no execution is on its own thread
pub outside_tree : (thread other : ℕ) (o : Option ℕ) → frame_by thread o ≡ Outside other → (thread ≡ other) × (o ≡ None)
outside_tree thread other None is = ((let e : thread ≡ other = cc in e), refl)
outside_tree thread other (Some op) is = cc

-- the tree of a line of an execution is that of its begin
root_around : (apart : List ℕ) (thread : ℕ) (does : Doing) (op : ℕ) (ops : List ℕ)
    → ¬ (BeginsIts does (frame_by thread (root apart (around_by does (op ∷ ops)))))
    → root apart (op ∷ ops) ≡ root apart (around_by does (op ∷ ops))
root_around apart thread (doing.Begin other code size) op ops inside =
    cond_both (is_among apart other) (Some other) (root apart (op ∷ ops))
    (λ (o : Option ℕ). ¬ (BeginsIts (doing.Begin other code size) (frame_by thread o)) → root apart (op ∷ ops) ≡ o)
    (λ among not. absurd (not (eq-eqb other other refl))) (λ own not. refl) inside
root_around apart thread _ op ops inside = refl

one_tree : (apart : List ℕ) (run : List Line) (spot : Spot) (op : ℕ) → (began : IsBegun run spot op)
    → ¬ (BeginsIts spot.line.does (tree apart spot)) → tree apart began.spot ≡ tree apart spot
one_tree apart run spot op began inside =
    ap (λ (ops : List ℕ). frame_by began.spot.line.thread (root apart ops))
    (around_begin began.spot.line.does op (stack_of began.spot) began.begun ∙ sym began.around)
    ∙ ap (λ (t : ℕ). frame_by t (root apart (stack_of spot))) began.on
    ∙ ap (λ (o : Option ℕ). frame_by spot.line.thread o) (top spot.line.does (stack_of spot)
    (stack_of began.spot) began.around inside)
  where
    top : (does : Doing) (ops rest : List ℕ) → ops ≡ op ∷ rest
        → ¬ (BeginsIts does (frame_by spot.line.thread (root apart (around_by does ops))))
        → root apart ops ≡ root apart (around_by does ops)
    top does ops rest is =
        subst (λ (all : List ℕ). ¬ (BeginsIts does (frame_by spot.line.thread (root apart (around_by does all))))
        → root apart all ≡ root apart (around_by does all)) (sym is) (root_around apart spot.line.thread does op rest)

-- who writes a line writes it in the order, too
same_caller : {apart : List ℕ} (thing : ℕ) (run : List Line) (facts : Facts) (before : List Step) (old : Placing)
    (step : Step)
    → AreFacts apart thing run facts → IsPlacing run apart before old → EachMayStand run apart before
    → (may : MayStand run apart before step)
    → ¬ (BeginsIts may.spot.line.does (tree apart may.spot)) → (op number : ℕ) → writer may.spot ≡ Execution op
    → number_of old op ≡ Some number
    → frame (lines_of before) step.line.thread ≡ Execution number
same_caller {apart} thing run facts before old step are kept each may inside op number writes known =
    let spot = may.spot in
    let began = begun_before run loose are.legal spot (found run step.place spot may.there).end op writes in
    let same : tree apart began.spot ≡ tree apart spot = one_tree apart run spot op began inside in
    let here = stands_step before (length began.spot.past)
    (may.behind (length began.spot.past) began.spot began.there (record { earlier = began.earlier; reason = inl same })) in
    let there : spot_at run (here.0).place ≡ Some began.spot = ap (spot_at run) here.2 ∙ began.there in
    let put : IsPut run before here.0 began.spot = record { stands = here.1; there = there } in
    let was = stood run apart before each here.0 began.spot here.1 there in
    let copied : begins (here.0).line.does was.may.copied.0 ≡ true =
    ap (λ (d : Doing). begins d was.may.copied.0) was.may.copied.1
    ∙ renumbered_begins was.may.spot.line.does op was.may.copied.0 (ap (λ (s : Spot). begins s.line.does op) was.same
    ∙ began.begun) in
    let pair : Pairs old (Some op) (Some was.may.copied.0) =
    subst (λ (o : Option ℕ). Pairs old o (Some was.may.copied.0)) (op_of_begin began.spot.line.does op began.begun)
    (subst (λ (o : Option ℕ). Pairs old (op_of began.spot.line.does) o) (op_of_begin
    (here.0).line.does was.may.copied.0 copied)
    (kept.numbers here.0 began.spot put)) in
    may.caller here.0 began.spot op was.may.copied.0 put same writes began.begun copied
    ∙ ap Execution (some_same was.may.copied.0 number (sym pair.0 ∙ known))

-- a line begins its tree in the run, too
begins_tree : (apart : List ℕ) (spot : Spot) (tree_of : Frame) → tree apart spot ≡ tree_of
    → BeginsIts spot.line.does tree_of → BeginsTree apart spot
begins_tree apart spot (Outside thread) is begins =
    inl (is ∙ ap Outside (sym (outside_tree spot.line.thread thread (root apart (around spot)) is).0))
begins_tree apart spot (Execution op) is begins = inr (op, begins, is)

-- how an operation was called that waits
pub waiter_call : (past : List Line) (op : ℕ) (waiter : Waiter) → waiter_of past op ≡ Some waiter
    → (call : Calling) × (call_of past op ≡ Some call) × (waiter ≡ waiter_from (done_of past op) call)
waiter_call past op waiter is = by_spent (is_spent past op) (call_of past op) refl is
  where
    by_spent : (b : Bool) (o : Option Calling) → call_of past op ≡ o
        → (if b then None else option_map (waiter_from (done_of past op)) o) ≡ Some waiter
        → (call : Calling) × (call_of past op ≡ Some call) × (waiter ≡ waiter_from (done_of past op) call)
    by_spent true o called e = cc
    by_spent false None called e = cc
    by_spent false (Some call) called e =
        (call, called, sym (some_same (waiter_from (done_of past op) call) waiter e))

may_work : (run : List Line) (facts : Facts) (thread : ℕ) (past : List Line) (does : Doing) (waiter : Waiter)
    → ((op context : ℕ) → begins does op ≡ true → context_of past op ≡ Some context → works facts thread context ≡ true)
    → begun_by past does ≡ Some waiter → works facts thread waiter.context ≡ true
may_work run facts thread past (doing.Begin op code size) waiter works_for is =
    let call = waiter_call past op waiter is in
    works_for op waiter.context (eq-eqb op op refl)
    (ap (option_map (λ (c : Calling). c.context)) call.1 ∙ ap (λ (w : Waiter). Some w.context) (sym call.2))
may_work run facts thread past _ waiter works_for is = cc

-- a line that may stand may be put
pub may_put : {apart : List ℕ} (thing : ℕ) (run : List Line) (facts : Facts) (before : List Step) (old : Placing)
    (step : Step) (who : Frame) (fact : Fact)
    → AreFacts apart thing run facts → IsPlacing run apart before old → who ≡ frame (lines_of before) step.line.thread
    → EachMayStand run apart before → (may : MayStand run apart before step) → fact ≡ fact_of apart thing may.spot
    → MayPut old facts fact step who
may_put {apart} thing run facts before old step who fact are kept is each may is_fact =
    let spot = may.spot in
    subst (λ (f : Fact). MayPut old facts f step who) (sym is_fact)
    (record {
      once = kept.places step.place ∙ no_position before step.place may.once;
      copied = copied_with spot.line.does step.line.does may.copied.0 may.copied.1;
      numbered = may_pair run before old step kept may (op_of spot.line.does) (op_of step.line.does) refl refl
          (ap op_of may.copied.1 ∙ op_copied spot.line.does may.copied.0);
      together = or_unknown (thread_of old (tree apart spot)) step.line.thread (λ thread on.
          let was = kept.on (tree apart spot) thread on in
          sym was.has.1 ∙ may.together was.step was.first was.put was.has.0);
      home = λ thread outside.
          let own = (outside_tree spot.line.thread thread (root apart (around spot)) outside).0 in
          sym own ∙ sym (may.outside (outside ∙ ap Outside (sym own)));
      caller = λ inside op number writes known. is
          ∙ same_caller thing run facts before old step are kept each may inside op number writes known;
      idle = λ begins. is ∙ may.idle (begins_tree apart spot (tree apart spot) refl begins);
      worker = λ waiter begun. may_work run facts step.line.thread spot.past spot.line.does waiter
          (λ op context begins of_context. (are.workers step.line.thread context).1
          (may.worker op context begins of_context)) begun;
    })

-- what is known of no line stands for none
pub no_fact : (o : Option Spot) (spot : Spot) (f : Spot → Fact) → option_map f o ≡ None → o ≡ Some spot → ⊥
no_fact None spot f none is = cc
no_fact (Some other) spot f none is = cc
