-- What an execution of an order was called with: the strand and the context that it has in the run.
use Rattle.std.proofs.Common.{◌≡◌, ℕ, List, [], ◌∷◌, ◌++◌, refl, ap, sym, subst, ◌∙◌, inl, inr, ⊎_elim, length}
use Rattle.std.proofs.lemmas.Bool.{cond_both, eq-eqb, eqb-true, or_left, or_right}
use Rattle.std.specs.Prelude.{Bool, true, ◌==◌, ◌&&◌, ◌⊎◌, Option, Some, None, IsSome, nat_eq}
use Rattle.std.specs.List.{list_any}
use Rattle.std.specs.Option.{option_eq, option_and_then, option_or}
use Rattle.run_lines.specs.declared.line.Doing.{Doing}
use Rattle.run_lines.specs.declared.line.Doing.TheVariants as doing
use Rattle.run_lines.specs.declared.line.Line.{Line}
use Rattle.run_lines.specs.declared.word.Word.{Word}
use Rattle.run_rules.specs.declared.frame.Frame.{Frame}
use Rattle.run_rules.specs.Against.{calls, completes, op_of}
use Rattle.run_rules.specs.Calls.{Calling, begins, call_in, call_of, strand_of}
use Rattle.run_rules.specs.Legal.{IsLegalSoFar}
use Rattle.run_rules.specs.MayCome.{MayDo}
use Rattle.run_rules.specs.Starting.{Holds, is_on}
use Rattle.run_rules.specs.Stacks.{frame, stack}
use Rattle.run_rules.proofs.CallsLemmas.{call_of-next}
use Rattle.run_orders.specs.declared.order.Step.{Step}
use Rattle.run_orders.specs.Causes.{IsCause, takes_up}
use Rattle.run_orders.specs.Orders.{EachMayStand, IsLegalBut, IsStep, lines_of, plain, renumbered, same_op}
use Rattle.run_orders.specs.Trees.{Spot, spot_at}
use Rattle.run_orders.proofs.TreeLemmas.{IsEnd, IsIn, end_more, legal_end, some_same, spot_of_end}
use Rattle.run_orders.proofs.BeginLemmas.{end_of_end, shorter}
use Rattle.run_orders.proofs.StandLemmas.{Executes, cause_stands, one_number, op_of_begin, stands_step, stood}
use Rattle.run_orders.proofs.RunningLemmas.{IsClaim, claim_begun, spot_legal}
use Rattle.run_orders.proofs.StrandLemmas.{strand_next_but}

-- who writes a line
abbrev caller_at : Line → List Line → Frame
caller_at line past = frame past line.thread

-- two lines name one operation in an order where they do in the run
abbrev same_at : Spot → Spot → Step → Step → Type 0
same_at one other first second = same_op one.line.does other.line.does ≡ same_op first.line.does second.line.does

-- the line that called an operation
pub record IsCalled (past : List Line) (op : ℕ) (call : Calling) : Type 0 where
  pub spot : Spot
  pub end : IsEnd past (spot.line ∷ spot.past)
  pub calls_it : spot.line.does ≡ doing.Call op call.word call.context call.strand call.thing

call_by : (caller : Frame) (thread place : ℕ) (does : Doing) (op : ℕ) (call : Calling) → call_in caller thread place does op ≡ Some call
    → does ≡ doing.Call op call.word call.context call.strand call.thing
call_by caller thread place (doing.Call number word context strand thing) op call is =
    let made : Calling = record {
      word = word;
      context = context;
      strand = strand;
      thing = thing;
      caller = caller;
      thread = thread;
      place = place;
    } in
    cond_both (number == op) (Some made) None
    (λ (o : Option Calling). o ≡ Some call → doing.Call number word context strand thing
    ≡ doing.Call op call.word call.context call.strand call.thing)
    (λ here some. ap (λ (n : ℕ). doing.Call n word context strand thing) (eqb-true number op here)
    ∙ ap (λ (c : Calling). doing.Call op c.word c.context c.strand c.thing) (some_same made call some)) (λ elsewhere none. cc) is
call_by caller thread place _ op call is = cc

or_split : (one other : Option Calling) (call : Calling) → option_or one other ≡ Some call → (one ≡ Some call) ⊎ (other ≡ Some call)
or_split None other call is = inr is
or_split (Some one) other call is = inl is

call_found : (past : List Line) (op : ℕ) (call : Calling) → call_of past op ≡ Some call → IsCalled past op call
call_found [] op call is = cc
call_found (line ∷ past) op call is =
    ⊎_elim
    (λ here. record {
      spot = record { line = line; past = past };
      end = ([], refl);
      calls_it = call_by (caller_at line past) line.thread (length past) line.does op call here;
    })
    (λ behind. let was = call_found past op call behind in
    record {
      spot = was.spot;
      end = (line ∷ was.end.0, ap (λ (all : List Line). line ∷ all) was.end.1);
      calls_it = was.calls_it;
    })
    (or_split (call_in (caller_at line past) line.thread (length past) line.does op) (call_of past op) call is)

-- in the run the call of what has begun stays its call

pub begins_called : (past : List Line) (thread op : ℕ) (does : Doing) → MayDo plain past thread does → begins does op ≡ true
    → IsSome (call_of past op)
begins_called past thread op (doing.Begin number code size) may is =
    subst (λ (o : ℕ). IsSome (call_of past o)) (eqb-true number op is) may.waiting.called
begins_called past thread op _ may is = cc

call_always : (later past : List Line) (op : ℕ) → IsLegalSoFar plain (later ++ past) → IsSome (call_of past op)
    → call_of (later ++ past) op ≡ call_of past op
call_always [] past op legal called = refl
call_always (line ∷ later) past op legal called =
    let was = call_always later past op legal.0 called in
    call_of-next plain (later ++ past) line op legal.1.rules (subst (λ (o : Option Calling). IsSome o) (sym was) called) ∙ was

pub same_call : (run : List Line) → (legal : IsLegalSoFar plain run) → (claim : Spot) (thing op : ℕ)
    → (is : IsClaim run claim thing op) → call_of claim.past op ≡ call_of (claim_begun run legal claim thing op is).spot.past op
same_call run legal claim thing op is =
    let began = claim_begun run legal claim thing op is in
    let whole : IsEnd run claim.past = end_more run claim.line claim.past is.end in
    let here : IsLegalSoFar plain claim.past =
    legal_end plain whole.0 claim.past (subst (λ (l : List Line). IsLegalSoFar plain l) whole.1 legal) in
    let inside : IsEnd claim.past began.spot.past = end_more claim.past began.spot.line began.spot.past began.inside in
    let end : IsEnd run (began.spot.line ∷ began.spot.past) =
    end_of_end run claim.past (began.spot.line ∷ began.spot.past) whole began.inside in
    ap (λ (l : List Line). call_of l op) inside.1
    ∙ call_always inside.0 began.spot.past op (subst (λ (l : List Line). IsLegalSoFar plain l) inside.1 here)
    (begins_called began.spot.past began.spot.line.thread op began.spot.line.does (spot_legal run legal began.spot end) began.begun)

-- and the call in an order has the same strand

pub takes_begin : (does : Doing) (op : ℕ) → begins does op ≡ true → takes_up does ≡ Some op
takes_begin (doing.Begin number code size) op is = ap Some (eqb-true number op is)
takes_begin _ op is = cc

order_call : (steps : List Step) → IsLegalBut (lines_of steps) → (step : Step) → IsStep steps step
    → (number : ℕ) (word : Word) (context : ℕ) (strand thing : Option ℕ) → step.line.does ≡ doing.Call number word context strand thing
    → IsSome (call_of (lines_of steps) number) × (strand_of (lines_of steps) number ≡ strand)
order_call [] but step stands number word context strand thing calls_it = absurd stands
order_call (one ∷ before) but step stands number word context strand thing calls_it =
    ⊎_elim
    (λ (here : one ≡ step).
    let does : one.line.does ≡ doing.Call number word context strand thing = ap (λ (s : Step). s.line.does) here ∙ calls_it in
    subst (λ (d : Doing). IsSome (call_of (record { thread = one.line.thread; does = d } ∷ lines_of before) number)
    × (strand_of (record { thread = one.line.thread; does = d } ∷ lines_of before) number ≡ strand)) (sym does)
    (rw (eq-eqb number number refl) (refl, refl)))
    (λ behind.
    let was = order_call before but.0 step behind number word context strand thing calls_it in
    let still = strand_next_but (lines_of before) one.line number but.1 was.0 in (
      subst (λ (o : Option Calling). IsSome o) (sym still) was.0,
      ap (λ (o : Option Calling). option_and_then (λ (call : Calling). call.strand) o) still ∙ was.1,
    )) stands

call_known : (found : Option Calling) → IsSome found → (call : Calling) × (found ≡ Some call)
call_known None called = cc
call_known (Some call) called = (call, refl)

pub begin_strand : (run : List Line) → IsLegalSoFar plain run → (apart : List ℕ) (steps : List Step) → EachMayStand run apart steps
    → IsLegalBut (lines_of steps) → (start : Spot) → IsEnd run (start.line ∷ start.past) → (op thread : ℕ)
    → begins start.line.does op ≡ true → (ex : Executes run steps start op thread)
    → strand_of (lines_of steps) ex.number ≡ strand_of start.past op
begin_strand run legal apart steps each but start whole op thread begun ex =
    let call = call_known (call_of start.past op)
    (begins_called start.past start.line.thread op start.line.does (spot_legal run legal start whole) begun) in
    let c = call_found start.past op call.0 call.1 in
    let end : IsEnd run (c.spot.line ∷ c.spot.past) =
    end_of_end run start.past (c.spot.line ∷ c.spot.past) (end_more run start.line start.past whole) c.end in
    let there = spot_of_end run c.spot.line c.spot.past end in
    let was = stood run apart steps each ex.begin start ex.put.stands ex.put.there in
    let makes : calls c.spot.line.does op ≡ true = ap (λ (d : Doing). calls d op) c.calls_it ∙ eq-eqb op op refl in
    let cause : IsCause apart c.spot start = record {
      earlier = shorter c.end.0 c.spot.line c.spot.past start.past c.end.1;
      reason =
          inr
          (inl (
            op,
            takes_begin start.line.does op begun,
            or_left (calls c.spot.line.does op) (completes c.spot.line.does op && begins start.line.does op) makes,
          ));
    } in
    let put = stands_step was.before (length c.spot.past)
    (cause_stands run apart steps ex.begin start was (length c.spot.past) c.spot there cause) in
    let there_too : spot_at run (put.0).place ≡ Some c.spot = ap (spot_at run) put.2 ∙ there in
    let copy = stood run apart steps each put.0 c.spot (was.within put.0 put.1) there_too in
    let k = copy.may.copied.0 in
    let does : (put.0).line.does ≡ doing.Call k (call.0).word (call.0).context (call.0).strand (call.0).thing =
    copy.may.copied.1 ∙ ap (λ (s : Spot). renumbered k s.line.does) copy.same ∙ ap (λ (d : Doing). renumbered k d) c.calls_it in
    let numbers : (op == op) ≡ (k == ex.number) =
    one_number c.spot.line.does start.line.does (put.0).line.does ex.begin.line.does op op k ex.number
    (subst (λ (s : Spot). same_at c.spot s (put.0) ex.begin) was.same
    (was.may.numbered put.0 c.spot (record { stands = put.1; there = there_too })))
    (ap (λ (d : Doing). op_of d) c.calls_it) (op_of_begin start.line.does op begun) (ap (λ (d : Doing). op_of d) does)
    (op_of_begin ex.begin.line.does ex.number ex.copied) in
    let number : k ≡ ex.number = eqb-true k ex.number (sym numbers ∙ eq-eqb op op refl) in
    ap (λ (n : ℕ). strand_of (lines_of steps) n) (sym number)
    ∙ (order_call steps but put.0 (was.within put.0 put.1) k (call.0).word (call.0).context (call.0).strand (call.0).thing does).1
    ∙ sym (ap (λ (o : Option Calling). option_and_then (λ (c : Calling). c.strand) o) call.1)

pub order_strand : (run : List Line) → (legal : IsLegalSoFar plain run) → (apart : List ℕ) (steps : List Step)
    → EachMayStand run apart steps → IsLegalBut (lines_of steps) → (claim : Spot) (thing op strand : ℕ)
    → (is : IsClaim run claim thing op) → strand_of claim.past op ≡ Some strand → (thread : ℕ)
    → (ex : Executes run steps (claim_begun run legal claim thing op is).spot op thread)
    → strand_of (lines_of steps) ex.number ≡ Some strand
order_strand run legal apart steps each but claim thing op strand is on thread ex =
    let began = claim_begun run legal claim thing op is in
    begin_strand run legal apart steps each but began.spot
    (end_of_end run claim.past (began.spot.line ∷ began.spot.past) (end_more run claim.line claim.past is.end) began.inside) op thread
    began.begun ex
    ∙ ap (λ (o : Option Calling). option_and_then (λ (c : Calling). c.strand) o) (sym (same_call run legal claim thing op is)) ∙ on

-- the strand of what was called stays so in the run
pub strand_in_run : (run past : List Line) → IsLegalSoFar plain run → IsEnd run past → (op : ℕ) → IsSome (call_of past op)
    → strand_of run op ≡ strand_of past op
strand_in_run run past legal (later, parted) op called =
    ap (λ (l : List Line). strand_of l op) parted
    ∙ ap (λ (o : Option Calling). option_and_then (λ (c : Calling). c.strand) o)
    (call_always later past op (subst (λ (l : List Line). IsLegalSoFar plain l) parted legal) called)

-- what executes on a strand holds it
pub any_in : (test : ℕ → Bool) (ops : List ℕ) (op : ℕ) → IsIn op ops → test op ≡ true → list_any test ops ≡ true
any_in test [] op is true_of = absurd is
any_in test (one ∷ ops) op is true_of =
    ⊎_elim (λ (here : one ≡ op). or_left (test one) (list_any test ops) (ap test here ∙ true_of))
    (λ behind. or_right (test one) (list_any test ops) (any_in test ops op behind true_of)) is

pub holds_strand : (past : List Line) (thread strand number : ℕ) → IsIn number (stack past thread) → strand_of past number ≡ Some strand
    → Holds past thread strand
holds_strand past thread strand number is on =
    any_in (is_on past strand) (stack past thread) number is
    (ap (λ (o : Option ℕ). option_eq nat_eq o (Some strand)) on ∙ eq-eqb strand strand refl)
