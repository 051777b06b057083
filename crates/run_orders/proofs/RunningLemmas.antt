-- An execution that holds a thing in an order goes on there.
use Rattle.std.proofs.Common.{◌≡◌, ℕ, ◌<◌, List, [], ◌∷◌, ◌++◌, refl, ap, sym, subst, ◌∙◌, inl, inr, ⊎_elim, length, arith}
use Rattle.std.proofs.lemmas.Bool.{and_parts, cond_both, eqb-true, or_parts}
use Rattle.std.specs.Prelude.{Bool, true, false, ◌==◌, ◌&&◌, ◌||◌, ◌⊎◌, Some, None}
use Rattle.std.specs.List.{list_any}
use Rattle.run_lines.specs.declared.line.Doing.{Doing}
use Rattle.run_lines.specs.declared.line.Doing.TheVariants as doing
use Rattle.run_lines.specs.declared.line.Line.{Line}
use Rattle.run_rules.specs.declared.frame.Frame.{Frame}
use Rattle.run_rules.specs.declared.frame.Frame.TheVariants.{Execution}
use Rattle.run_rules.specs.declared.taking.Resource.{Resource}
use Rattle.run_rules.specs.declared.taking.Resource.TheVariants.{Thing}
use Rattle.run_rules.specs.declared.taking.Taking.{Taking}
use Rattle.run_rules.specs.Legal.{IsLegalSoFar}
use Rattle.run_rules.specs.MayCome.{MayDo, MayEnd}
use Rattle.run_rules.specs.Stacks.{frame, frame_of, outer, same_frame, stack, stack_after}
use Rattle.run_rules.specs.Takings.{has_any, is_taken_by, same_resource, same_taking, taken, taken_after}
use Rattle.run_orders.specs.declared.order.Step.{Step}
use Rattle.run_orders.specs.Causes.{ends}
use Rattle.run_orders.specs.Holding.{GivesBack}
use Rattle.run_orders.specs.Orders.{EachMayStand, IsLegalBut, IsPut, MayDoBut, MayStand, Stands, lines_of, plain, renumbered}
use Rattle.run_orders.specs.Trees.{Spot, around_by, spot_at, tree, writer}
use Rattle.run_orders.proofs.TreeLemmas.{IsEnd, IsIn, found, legal_end, some_same, spot_of_end}
use Rattle.run_orders.proofs.BeginLemmas.{IsBegun, begun_before, frame_top, one_frame}
use Rattle.run_orders.proofs.StandLemmas.{Executes, IsWritten, cause_stands, equal_ops, executes_more, one_number, op_of_begin, op_of_end, renumbered_ends, stack_of, stood, stood_stands, tree_of_begin, written}

-- what ends an execution

pub spot_legal : (run : List Line) → IsLegalSoFar plain run → (spot : Spot) → IsEnd run (spot.line ∷ spot.past)
    → MayDo plain spot.past spot.line.thread spot.line.does
spot_legal run legal spot (later, parted) =
    let whole : IsLegalSoFar plain (later ++ spot.line ∷ spot.past) = subst (λ (all : List Line). IsLegalSoFar plain all) parted legal in
    (legal_end plain later (spot.line ∷ spot.past) whole).1.rules

pub may_end : (past : List Line) (thread op : ℕ) (does : Doing) → MayDo plain past thread does → ends does ≡ Some op → MayEnd past thread op
may_end past thread op (doing.End number) may is = subst (λ (o : ℕ). MayEnd past thread o) (some_same number op is) may
may_end past thread op (doing.Throw number) may is = subst (λ (o : ℕ). MayEnd past thread o) (some_same number op is) may
may_end past thread op _ may is = cc

any_less : (p q : Taking → Bool) → ((one : Taking) → p one ≡ true → q one ≡ true) → (all : List Taking)
    → list_any q all ≡ false → list_any p all ≡ false
any_less p q less [] none = refl
any_less p q less (one ∷ all) none =
    let parts = or_parts (q one) (list_any q all) none in
    neither (p one) (list_any p all) (by_cases (p one) refl parts.0) (any_less p q less all parts.1)
  where
    neither : (a b : Bool) → a ≡ false → b ≡ false → (a || b) ≡ false
    neither false b not none = none
    neither true b not none = not

    by_cases : (b : Bool) → p one ≡ b → q one ≡ false → p one ≡ false
    by_cases false is not = is
    by_cases true is not = let e : true ≡ false = sym (less one is) ∙ not in cc

taken_not : (past : List Line) (thread : ℕ) (who : Frame) (resource : Resource) → has_any past who ≡ false
    → is_taken_by past thread who resource ≡ false
taken_not past thread who resource none =
    any_less (λ (one : Taking). same_taking one (record { thread = thread; frame = who; resource = resource }))
    (λ (one : Taking). same_frame one.frame who)
    (λ one is. (and_parts (same_frame one.frame who) (same_resource one.resource resource)
    ((and_parts (one.thread == thread) (same_frame one.frame who && same_resource one.resource resource) is).1)).0) (taken past) none

taken_end : (thread op : ℕ) (who : Frame) (does : Doing) (all : List Taking) → ends does ≡ Some op → taken_after thread who does all ≡ all
taken_end thread op who (doing.End number) all is = refl
taken_end thread op who (doing.Throw number) all is = refl
taken_end thread op who _ all is = cc

gone_behind : (spot : Spot) (thread op : ℕ) (who : Frame) (resource : Resource) → ends spot.line.does ≡ Some op
    → has_any spot.past who ≡ false → is_taken_by (spot.line ∷ spot.past) thread who resource ≡ false
gone_behind spot thread op who resource is none =
    ap (λ (all : List Taking). list_any (λ (one : Taking). same_taking one (record { thread = thread; frame = who; resource = resource })) all)
    (taken_end spot.line.thread op (frame spot.past spot.line.thread) spot.line.does (taken spot.past) is)
    ∙ taken_not spot.past thread who resource none

around_end : (does : Doing) (op : ℕ) (ops : List ℕ) → ends does ≡ Some op → around_by does ops ≡ ops
around_end (doing.End number) op ops is = refl
around_end (doing.Throw number) op ops is = refl
around_end _ op ops is = cc

-- a claim of a run, by an execution
pub record IsClaim (run : List Line) (claim : Spot) (thing op : ℕ) : Type 0 where
  pub end : IsEnd run (claim.line ∷ claim.past)
  pub claims : claim.line.does ≡ doing.Claim thing
  pub writes : writer claim ≡ Execution op

pub claim_begun : (run : List Line) → IsLegalSoFar plain run → (claim : Spot) (thing op : ℕ) → IsClaim run claim thing op
    → IsBegun run claim op
claim_begun run legal claim thing op is = begun_before run plain legal claim is.end op is.writes

claim_plain : (claim : Spot) (thing : ℕ) → claim.line.does ≡ doing.Claim thing → around_by claim.line.does (stack_of claim) ≡ stack_of claim
claim_plain claim thing is = ap (λ (d : Doing). around_by d (stack_of claim)) is

-- where a line ends the execution of a claim that stands, the claim is given back
pub end_gives_back : (run : List Line) → IsLegalSoFar plain run → (apart : List ℕ) (steps : List Step) → EachMayStand run apart steps
    → (claim : Spot) (thing op : ℕ) → IsClaim run claim thing op → (put : Step) → IsPut run steps put claim
    → (later : Spot) (place : ℕ) → spot_at run place ≡ Some later → ends later.line.does ≡ Some op
    → (Stands steps place → ⊥) → GivesBack thing claim later
end_gives_back run legal apart steps each claim thing op is put there later place at ended fresh =
    let end = found run place later at in
    let may = may_end later.past later.line.thread op later.line.does (spot_legal run legal later end.end) ended in
    let mine = claim_begun run legal claim thing op is in
    let other = begun_before run plain legal later end.end op may.innermost in
    let one = one_frame run later claim op other mine in
    let same : tree apart later ≡ tree apart claim =
    sym (tree_of_begin run apart later op other (around_end later.line.does op (stack_of later) ended))
    ∙ ap (tree apart) (some_same other.spot mine.spot (sym other.alone ∙ mine.alone))
    ∙ tree_of_begin run apart claim op mine (claim_plain claim thing is.claims) in
    ⊎_elim
    (λ (less : length claim.past < length later.past). record {
      behind = less;
      same = may.innermost ∙ sym is.writes;
      gone =
          gone_behind later claim.line.thread op (writer claim) (Thing thing) ended
          (ap (λ (f : Frame). has_any later.past f) is.writes ∙ may.clean);
    })
    (λ rest. ⊎_elim
    (λ (before : length later.past < length claim.past).
    let was = stood run apart steps each put claim there.stands there.there in
    let before_it = cause_stands run apart steps put claim was place later at (record { earlier = before; reason = inl same }) in
    absurd (fresh (stood_stands run apart steps put claim was place before_it)))
    (λ (e : length later.past ≡ length claim.past).
    let equal : later ≡ claim = some_same later claim (sym at ∙ ap (spot_at run) (sym end.place_is ∙ e) ∙ spot_of_end_of run claim is.end) in
    let no : None ≡ Some op = ap (λ (d : Doing). ends d) (sym is.claims) ∙ ap (λ (s : Spot). ends s.line.does) (sym equal) ∙ ended in cc)
    rest) (three (length claim.past) (length later.past))
  where
    three : (a b : ℕ) → (a < b) ⊎ ((b < a) ⊎ (b ≡ a))
    three a b = grind (arith)

    spot_of_end_of : (run : List Line) (spot : Spot) → IsEnd run (spot.line ∷ spot.past) → spot_at run (length spot.past) ≡ Some spot
    spot_of_end_of run spot end = spot_of_end run spot.line spot.past end

-- an execution on the stack stays there but for its end
in_after : (past : List Line) (thread number : ℕ) (does : Doing) → MayDoBut past thread does → IsIn number (stack past thread)
    → (ends does ≡ Some number → ⊥) → IsIn number (stack_after does (stack past thread))
in_after past thread number (doing.Begin op code size) may there goes_on = inr there
in_after past thread number (doing.End op) may there goes_on =
    inner (stack past thread) op (frame_top (stack past thread) thread op may.innermost) there goes_on
  where
    inner : (ops : List ℕ) (op : ℕ) → ops ≡ op ∷ outer ops → IsIn number ops → (Some op ≡ Some number → ⊥) → IsIn number (outer ops)
    inner [] op top there goes_on = absurd there
    inner (one ∷ rest) op top there goes_on =
        ⊎_elim (λ (e : one ≡ number). let same : one ≡ op = cc in absurd (goes_on (ap Some (sym same ∙ e)))) (λ is. is) there
in_after past thread number (doing.Throw op) may there goes_on =
    inner (stack past thread) op (frame_top (stack past thread) thread op may.innermost) there goes_on
  where
    inner : (ops : List ℕ) (op : ℕ) → ops ≡ op ∷ outer ops → IsIn number ops → (Some op ≡ Some number → ⊥) → IsIn number (outer ops)
    inner [] op top there goes_on = absurd there
    inner (one ∷ rest) op top there goes_on =
        ⊎_elim (λ (e : one ≡ number). let same : one ≡ op = cc in absurd (goes_on (ap Some (sym same ∙ e)))) (λ is. is) there
in_after past thread number _ may there goes_on = there

pub in_next : (past : List Line) (line : Line) (thread number : ℕ) → MayDoBut past line.thread line.does → IsIn number (stack past thread)
    → (ends line.does ≡ Some number → ⊥) → IsIn number (stack (line ∷ past) thread)
in_next past line thread number may there goes_on =
    cond_both (line.thread == thread) (stack_after line.does (stack past thread)) (stack past thread) (λ (ops : List ℕ). IsIn number ops)
    (λ here. let same : line.thread ≡ thread = eqb-true line.thread thread here in
    subst (λ (t : ℕ). IsIn number (stack past t) → IsIn number (stack_after line.does (stack past t))) same
    (λ is. in_after past line.thread number line.does may is goes_on) there) (λ elsewhere. there)

pub top_in : (ops : List ℕ) (thread number : ℕ) → frame_of ops thread ≡ Execution number → IsIn number ops
top_in [] thread number is = cc
top_in (one ∷ rest) thread number is = let e : one ≡ number = cc in inl e

-- what comes behind a claim that is held doesn't end its execution
goes_on : (run : List Line) → (legal : IsLegalSoFar plain run) → (apart : List ℕ) (before : List Step) → EachMayStand run apart before
    → (step : Step) → (may : MayStand run apart before step) → (claim : Spot) (thing op : ℕ) → (is : IsClaim run claim thing op)
    → (put : Step) → IsPut run before put claim
    → ((at : ℕ) (later : Spot) → spot_at run at ≡ Some later → GivesBack thing claim later → ¬ (Stands (step ∷ before) at))
    → (ex : Executes run before (claim_begun run legal claim thing op is).spot op put.line.thread)
    → ends step.line.does ≡ Some ex.number → ⊥
goes_on run legal apart before each step may claim thing op is put earlier kept ex ended =
    let original = renumbered_ends may.spot.line.does may.copied.0 ex.number (ap (λ (d : Doing). ends d) (sym may.copied.1) ∙ ended) in
    let mine = claim_begun run legal claim thing op is in
    let same : op ≡ original.0 =
    equal_ops op original.0 ex.number
    (one_number mine.spot.line.does may.spot.line.does ex.begin.line.does step.line.does op original.0 ex.number ex.number
    (may.numbered ex.begin mine.spot ex.put) (op_of_begin mine.spot.line.does op mine.begun)
    (op_of_end may.spot.line.does original.0 original.1) (op_of_begin ex.begin.line.does ex.number ex.copied)
    (op_of_end step.line.does ex.number ended)) in
    kept step.place may.spot may.there
    (end_gives_back run legal apart before each claim thing op is put earlier may.spot step.place may.there
    (original.1 ∙ ap Some (sym same)) may.once) (inl refl)

-- the execution of a claim that is held goes on on the thread of the claim
pub record Running (run : List Line) (steps : List Step) (spot : Spot) (op thread : ℕ) : Type 0 where
  pub executes : Executes run steps spot op thread
  pub within : IsIn executes.number (stack (lines_of steps) thread)

pub running : (run : List Line) → (legal : IsLegalSoFar plain run) → (apart : List ℕ) (steps : List Step) → EachMayStand run apart steps
    → IsLegalBut (lines_of steps) → (claim : Spot) (thing op : ℕ) → (is : IsClaim run claim thing op) → (put : Step)
    → IsPut run steps put claim
    → ((at : ℕ) (later : Spot) → spot_at run at ≡ Some later → GivesBack thing claim later → ¬ (Stands steps at))
    → Running run steps (claim_begun run legal claim thing op is).spot op put.line.thread
running run legal apart [] each but claim thing op is put there kept = absurd there.stands
running run legal apart (step ∷ before) each but claim thing op is put there kept =
    ⊎_elim
    (λ (here : step ≡ put).
    let mine = claim_begun run legal claim thing op is in
    let same : each.1.spot ≡ claim =
    some_same each.1.spot claim (sym each.1.there ∙ ap (λ (s : Step). spot_at run s.place) here ∙ there.there) in
    let w = subst (λ (s : Spot). (began : IsBegun run s op) → writer s ≡ Execution op → around_by s.line.does (stack_of s) ≡ stack_of s
    → IsWritten run before began.spot op step.line.thread) same (λ began. written run apart before each.0 step each.1 op began)
    mine is.writes (claim_plain claim thing is.claims) in
    subst (λ (t : ℕ). Running run (step ∷ before) mine.spot op t) (ap (λ (s : Step). s.line.thread) here)
    (record {
      executes = executes_more run step before mine.spot op step.line.thread w.executes;
      within =
          in_next (lines_of before) step.line step.line.thread w.executes.number but.1
          (top_in (stack (lines_of before) step.line.thread) step.line.thread w.executes.number w.writes)
          (λ ended. claims_end each.1.copied.0 each.1.spot.line.does w.executes.number
          (ap (λ (d : Doing). ends d) (sym each.1.copied.1) ∙ ended)
          (ap (λ (s : Spot). s.line.does) same ∙ is.claims));
    }))
    (λ behind.
    let earlier : IsPut run before put claim = record { stands = behind; there = there.there } in
    let was = running run legal apart before each.0 but.0 claim thing op is put earlier
    (λ at later found_at gives stands. kept at later found_at gives (inr stands)) in
    record {
      executes = executes_more run step before (claim_begun run legal claim thing op is).spot op put.line.thread was.executes;
      within =
          in_next (lines_of before) step.line put.line.thread was.executes.number but.1 was.within
          (λ ended. goes_on run legal apart before each.0 step each.1 claim thing op is put earlier kept was.executes ended);
    })
    there.stands
  where
    claims_end : (number : ℕ) (does : Doing) (op : ℕ) → ends (renumbered number does) ≡ Some op → does ≡ doing.Claim thing → ⊥
    claims_end number does op ended claims =
        let no : None ≡ Some op = ap (λ (d : Doing). ends (renumbered number d)) (sym claims) ∙ ended in cc
