-- What is forced before a line of a run stands before it in each order.
use Rattle.std.proofs.Common.{◌≡◌, ℕ, List, ◌∷◌, refl, ap, sym, subst, ◌∙◌, inl, inr, ⊎_elim}
use Rattle.std.specs.Prelude.{Some}
use Rattle.run_lines.specs.declared.line.Line.{Line}
use Rattle.run_rules.specs.declared.frame.Frame.TheVariants.{Execution}
use Rattle.run_rules.specs.Legal.{IsLegalSoFar}
use Rattle.run_orders.specs.declared.order.Step.{Step}
use Rattle.run_orders.specs.Causes.{IsCause}
use Rattle.run_orders.specs.Forced.{IsBeginOf, IsForced, IsOneAfter, IsSureCause, LeadsTo, at_once, in_line, in_queue, in_turn, through}
use Rattle.run_orders.specs.Holding.{GivesBack, HoldsBoth}
use Rattle.run_orders.specs.Orders.{EachMayStand, IsLegalBut, IsOrderOf, Stands, lines_of, plain}
use Rattle.run_orders.specs.Trees.{Spot, frame_by, root, spot_at, tree}
use Rattle.run_orders.proofs.TreeLemmas.{IsEnd, found, some_same}
use Rattle.run_orders.proofs.BeginLemmas.{begun_before, only_begin}
use Rattle.run_orders.proofs.StandLemmas.{stack_of, stands_step, step_stands, tree_of_begin}
use Rattle.run_orders.proofs.UnderLockLemmas.{same_tree}
use Rattle.run_orders.proofs.TurnLemmas.{begins_free, ended_before, executes_at}
use Rattle.run_orders.proofs.QueueLemmas.{around_plain, but_cut, cut_at, each_cut, queue_ends, stands_cut}

-- a begin of this execution is the one by which it began
begin_is : (run : List Line) → IsLegalSoFar plain run → (apart : List ℕ) (first later : Spot) → IsEnd run (first.line ∷ first.past)
    → IsEnd run (later.line ∷ later.past) → IsBeginOf first later → tree apart first ≡ tree apart later
begin_is run legal apart first later end end_too is =
    let began = begun_before run plain legal later end_too is.op is.writes in
    let same : began.spot ≡ first = only_begin plain run legal first is.op end is.begun began.spot began.alone in
    ap (tree apart) (sym same)
    ∙ tree_of_begin run apart later is.op began (around_plain later.line.does (stack_of later) is.plain)

-- what a thread does outside leads to what then begins there
leads : (apart : List ℕ) (first later : Spot) → (to : LeadsTo first later) → tree apart later ≡ Execution to.op
leads apart first later to = ap (λ (ops : List ℕ). frame_by later.line.thread (root apart ops)) to.alone

sure_cause : (run : List Line) → IsLegalSoFar plain run → (apart : List ℕ) (first later : Spot) → IsEnd run (first.line ∷ first.past)
    → IsEnd run (later.line ∷ later.past) → IsSureCause first later → IsCause apart first later
sure_cause run legal apart first later end end_too cause = record {
  earlier = cause.earlier;
  reason =
      ⊎_elim
      (λ (one : IsOneAfter first later). inl (same_tree run legal apart first later end end_too
      (around_plain first.line.does (stack_of first) one.plain) (around_plain later.line.does (stack_of later) one.plain_too) one.same))
      (λ rest. ⊎_elim (λ begin. inl (begin_is run legal apart first later end end_too begin))
      (λ more. ⊎_elim (λ enables. inr (inl enables))
      (λ more. ⊎_elim (λ aborts. inr (inr (inl aborts)))
      (λ more. ⊎_elim (λ wakes. inr (inr (inr (inl wakes))))
      (λ more. ⊎_elim
      (λ to. inr (inr (inr (inr (inl (record {
        op = to.op;
        same = to.same;
        outside = to.outside;
        begun = to.begun;
        alone = leads apart first later to;
      }))))))
      (λ leaves. inr (inr (inr (inr (inr leaves))))) more) more) more) more) rest) cause.reason;
}

-- what is forced before a line stands before it in each order
pub forced_before : (run : List Line) → IsLegalSoFar plain run → (apart : List ℕ) (before : List Step) (step : Step)
    → EachMayStand run apart (step ∷ before) → IsLegalBut (lines_of (step ∷ before)) → (first later : ℕ) → IsForced run first later
    → step.place ≡ later → Stands before first
forced_before run legal apart before step each but first later (at_once one other there too cause) here =
    let may = each.1 in
    let same : may.spot ≡ other = some_same may.spot other (sym may.there ∙ ap (spot_at run) here ∙ too) in
    may.behind first one there
    (subst (λ (s : Spot). IsCause apart one s) (sym same)
    (sure_cause run legal apart one other (found run first one there).end (found run later other too).end cause))
forced_before run legal apart before step each but first later (through middle sooner behind) here =
    let found_middle = stands_step before middle (forced_before run legal apart before step each but middle later behind here) in
    let cut = cut_at before found_middle.0 found_middle.1 in
    stands_cut before found_middle.0 cut first
    (forced_before run legal apart cut.before found_middle.0 (each_cut run apart before found_middle.0 cut each.0)
    (but_cut before found_middle.0 cut but.0) first middle sooner found_middle.2)
forced_before run legal apart before step each but first later
    (in_turn begin op next one other start there too start_there turn begun forced) here =
    let began = executes_at run apart before each.0 start op begin begun start_there
    (forced_before run legal apart before step each but begin later forced here) in
    let free = begins_free run legal apart before step each but other (ap (spot_at run) here ∙ too) next turn.strand turn.begun turn.on_too
    turn.unheld in
    ended_before run legal apart before each.0 but.0 turn.strand free.free start op began.0 begun began.1 first one there turn.ended turn.on
forced_before run legal apart before step each but first later
    (in_queue post behind entry op next one other posted back entered there too posted_there back_there entry_there turn queued next_posted
    forced) here =
    queue_ends run legal apart before step each but first post behind entry op next one other posted back entered there
    (ap (spot_at run) here ∙ too) (record { post_there = posted_there; back_there = back_there; entry_there = entry_there }) turn queued
    next_posted
    (λ last steps each_last but_last at. inr (forced_before run legal apart steps last each_last but_last behind entry forced at))
forced_before run legal apart before step each but first later
    (in_line post entry op next one other posted entered there too posted_there entry_there turn queued next_posted) here =
    queue_ends run legal apart before step each but first post entry entry op next one other posted entered entered there
    (ap (spot_at run) here ∙ too) (record { post_there = posted_there; back_there = entry_there; entry_there = entry_there }) turn queued
    next_posted (λ last steps each_last but_last at. inl at)

pub forced_stands : (run : List Line) → IsLegalSoFar plain run → (apart : List ℕ) (steps : List Step) → EachMayStand run apart steps
    → IsLegalBut (lines_of steps) → (first later : ℕ) → IsForced run first later → Stands steps later → Stands steps first
forced_stands run legal apart steps each but first later forced stands =
    let there = stands_step steps later stands in
    let cut = cut_at steps there.0 there.1 in
    stands_cut steps there.0 cut first
    (forced_before run legal apart cut.before there.0 (each_cut run apart steps there.0 cut each) (but_cut steps there.0 cut but) first
    later forced there.2)

pub forced_order : (run : List Line) (apart : List ℕ) (before : List Step) (step : Step) (first : ℕ) → IsLegalSoFar plain run
    → IsOrderOf run apart (step ∷ before) → IsForced run first step.place → Stands before first
forced_order run apart before step first legal order forced =
    forced_before run legal apart before step order.each order.legal first step.place forced refl

pub forced_apart : (run : List Line) (apart : List ℕ) (steps : List Step) (thing place other at : ℕ) (one later : Spot)
    → IsLegalSoFar plain run → IsOrderOf run apart steps → spot_at run place ≡ Some one → spot_at run at ≡ Some later
    → GivesBack thing one later → IsForced run at other → HoldsBoth run steps thing place other → ⊥
forced_apart run apart steps thing place other at one later legal order there too gives forced holds =
    let held = holds.held in
    let held_too = holds.held_too in
    let same : held.claim ≡ one = some_same held.claim one (sym held.there ∙ there) in
    held.kept at later too (subst (λ (s : Spot). GivesBack thing s later) (sym same) gives)
    (forced_stands run legal apart steps order.each order.legal at other forced
    (subst (λ (p : ℕ). Stands steps p) held_too.here (step_stands steps held_too.step held_too.put.stands)))
