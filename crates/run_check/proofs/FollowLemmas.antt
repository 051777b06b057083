-- What the checker keeps behind a line is what the definitions say of it.
use Rattle.std.proofs.Common.{◌≡◌, ℕ, ◌<◌, List, [], ◌∷◌, length, refl, ap, subst, sym, ◌∙◌, inl, inr, ⊎_elim, arith}
use Rattle.std.proofs.lemmas.Bool.{or_left, or_right, eqb-true, eq-eqb, ne_eqb, cases_Bool, cond_both, both_ways, false_from_ne_true}
use Rattle.std.specs.Prelude.{Bool, true, false, ◌==◌, ◌||◌, ◌⊎◌, if◌then◌else◌, Option, Some, None, IsSome, is_some, nat_eq}
use Rattle.std.specs.List.{list_any}
use Rattle.std.specs.Option.{option_eq, option_map, option_or}
use Rattle.run_lines.specs.declared.code.Code.{Code}
use Rattle.run_lines.specs.declared.line.Doing.{Doing}
use Rattle.run_lines.specs.declared.line.Doing.TheVariants as doing
use Rattle.run_lines.specs.declared.line.Line.{Line}
use Rattle.run_rules.specs.declared.frame.Frame.{Frame}
use Rattle.run_rules.specs.declared.frame.Frame.TheVariants.{Execution}
use Rattle.run_rules.specs.Against.{executing_after, is_executing}
use Rattle.run_rules.specs.Stacks.{stack, stack_after, outer, frame, same_frame}
use Rattle.run_rules.specs.Calls.{Calling, Completion, Waits, call_of, done_of, is_begun, is_dropped, is_posting, last_call_after, strand_of}
use Rattle.run_rules.specs.Entries.{Entry, entry_by}
use Rattle.run_rules.specs.Starting.{Holds, is_on}
use Rattle.run_rules.specs.MayCome.{MayDo, last_call}
use Rattle.run_rules.specs.Legal.{IsLegalSoFar}
use Rattle.run_rules.proofs.CallsLemmas.{strand_of-next}
use Rattle.run_rules.proofs.StrandLemmas.{AreCalled, holders_agree, on-next, stack_called, stack_called_before}
use Rattle.run_check.specs.After.{AreChained, first_of, is_dead, is_spent, kind_of, let_in, loose, waiter_from, waiter_of}
use Rattle.run_check.specs.Following.{completed, execution_after, holder_after, innermost_after, waiter_after}
use Rattle.run_check.specs.Judging.{is_number}
use Rattle.run_check.specs.LastCalls.{ends_frame, followed}
use Rattle.run_check.specs.Stacks.{execution_of, outer_of, strand_let_in}
use Rattle.run_check.specs.Steps.{GoesWith}
use Rattle.run_check.specs.declared.stacks.Execution.{Execution as Kept}
use Rattle.run_check.specs.declared.stacks.Stacks.{Stacks}
use Rattle.run_check.specs.declared.waiting.Waiter.{Waiter}
use Rattle.run_check.proofs.CountLemmas.{same_frame-is}
use Rattle.run_check.proofs.RuleLemmas.{done_known}
use Rattle.run_check.proofs.StackLemmas.{AreApart, begun_called, dropped_called, executes_begun, frame_alive, frame_first, is_among, one_thread, stack_apart}

-- the calls that aren't known to be back

calls_by : (ends same dead : Bool) (does : Doing) (last : Option ℕ) → (same ≡ true → dead ≡ false)
    → (if ends then None else (if same then last_call_after does (if dead then None else last) else
    (if dead then None else last)))
    ≡ (if ends || dead then None else (if same then last_call_after does last else last))
calls_by true same dead does last alive = refl
calls_by false true true does last alive = absurd (true_false (alive refl))
  where
    true_false : true ≡ false → ⊥
    true_false e = cc
calls_by false true false does last alive = refl
calls_by false false true does last alive = refl
calls_by false false false does last alive = refl

pub last_calls-next : (past : List Line) (line : Line) → IsLegalSoFar loose past → (who : Frame) (kept : Option ℕ)
    → kept ≡ (if is_dead past who then None else last_call past who)
    → followed (frame past line.thread) line.does who kept
    ≡ (if is_dead (line ∷ past) who then None else last_call (line ∷ past) who)
last_calls-next past line legal who kept is =
    ap (followed (frame past line.thread) line.does who) is
    ∙ calls_by (ends_frame line.does who) (same_frame (frame past line.thread) who) (is_dead past who) line.does
    (last_call past who)
    (λ same. subst (λ (f : Frame). is_dead past f ≡ false) (same_frame-is (frame past line.thread) who same)
    (frame_alive loose past legal line.thread))

-- what waits

uncalled_none : (o : Option Calling) → (IsSome o → ⊥) → o ≡ None
uncalled_none None not = refl
uncalled_none (Some call) not = absurd (not refl)

-- an operation that is called now is new in all
pub record IsFresh (past : List Line) (op : ℕ) : Type 0 where
  pub uncalled : call_of past op ≡ None
  pub unbegun : is_begun past op ≡ false
  pub undropped : is_dropped past op ≡ false
  pub undone : done_of past op ≡ None

pub fresh : (past : List Line) → IsLegalSoFar loose past → (op : ℕ) → (IsSome (call_of past op) → ⊥) → IsFresh past op
fresh past legal op not = record {
  uncalled = uncalled_none (call_of past op) not;
  unbegun = false_from_ne_true (is_begun past op) (λ is. not (begun_called loose past legal op is));
  undropped = false_from_ne_true (is_dropped past op) (λ is. not (dropped_called loose past legal op is));
  undone = ⊎_elim (λ none. none) (λ called. absurd (not called)) (done_known loose past legal op);
}

-- an operation that waits, with what differs
abbrev pub with_entry : Calling → Option ℕ → Option Completion → Waiter
with_entry call entry completion = record {
  kind = kind_of call.word;
  context = call.context;
  strand = call.strand;
  thing = call.thing;
  caller = call.caller;
  place = call.place;
  entry = entry;
  outcome = option_map (λ (c : Completion). record { code = c.code; size = c.size }) completion;
}

entry_is : (p : Bool) (call : Calling) → option_map (λ (e : Entry). e.place) (entry_by p call None)
    ≡ (if p then Some call.place else None)
entry_is true call = refl
entry_is false call = refl

no_posting : (call : Calling) → (Some (is_posting call.word) ≡ Some true → ⊥) → is_posting call.word ≡ false
no_posting call not = by_word (is_posting call.word) refl
  where
    by_word : (p : Bool) → is_posting call.word ≡ p → is_posting call.word ≡ false
    by_word true e = absurd (not (ap (λ (b : Bool). Some b) e))
    by_word false e = e

waiter_called : (past : List Line) (other place : ℕ) (b : Bool) (call : Calling) → (b ≡ true → IsFresh past other)
    → call.place ≡ place
    → (if is_begun past other || is_dropped past other then None else option_map (waiter_from (done_of past other))
    (option_or (if b then Some call else None) (call_of past other)))
    ≡ (if b then Some (with_entry call (if is_posting call.word then Some call.place else None) None) else waiter_of past other)
waiter_called past other place false call new is = refl
waiter_called past other place true call new is =
    let f : IsFresh past other = new refl in
    ap (λ (b : Bool). if b || is_dropped past other then None else Some (waiter_from (done_of past other) call)) f.unbegun
    ∙ ap (λ (b : Bool). if b then None else Some (waiter_from (done_of past other) call)) f.undropped
    ∙ ap (λ (o : Option Completion). Some (waiter_from o call)) f.undone
    ∙ ap (λ (entry : Option ℕ). Some (with_entry call entry None)) (entry_is (is_posting call.word) call)

waiter_done : (past : List Line) (other place : ℕ) (what : Code) (size : ℕ) (c : Completion) → c.code ≡ what → c.size ≡ size
    → c.place ≡ place → (found : Option Calling) → (option_map is_posting (option_map (λ (call : Calling). call.word) found)
    ≡ Some true → ⊥)
    → option_map (waiter_from (Some c)) found ≡ option_map (completed place what size) (option_map (waiter_from None) found)
waiter_done past other place what size c code_is size_is place_is None not = refl
waiter_done past other place what size c code_is size_is place_is (Some call) not =
    ap (λ (p : Bool). Some (with_entry call (option_map (λ (e : Entry). e.place) (entry_by p call (Some c))) (Some c)))
    (no_posting call not)
    ∙ ap (λ (n : ℕ). Some (with_entry call (Some n) (Some c))) place_is
    ∙ ap (λ (k : Code). Some (with_code k c.size)) code_is ∙ ap (λ (n : ℕ). Some (with_code what n)) size_is
  where
    with_code : Code → ℕ → Waiter
    with_code k n = completed place k n (waiter_from None call)

waiter_after_done : (past : List Line) (other thread place : ℕ) (what : Code) (size : ℕ) (b : Bool)
    → (b ≡ true → Waits past other × (done_of past other ≡ None)
    × (option_map is_posting (option_map (λ (call : Calling). call.word) (call_of past other)) ≡ Some true → ⊥))
    → (if is_begun past other || is_dropped past other then None else option_map
    (waiter_from (option_or (if b then Some (record { code = what; size = size; thread = thread; place = place }) else
    None) (done_of past other))) (call_of past other))
    ≡ (if b then option_map (completed place what size) (waiter_of past other) else waiter_of past other)
waiter_after_done past other thread place what size false known = refl
waiter_after_done past other thread place what size true known =
    let k = known refl in
    let unspent : is_spent past other ≡ false = rw (k.0.not_begun, k.0.not_dropped) refl in
    let c : Completion = record { code = what; size = size; thread = thread; place = place } in
    let before : waiter_of past other ≡ option_map (waiter_from None) (call_of past other) =
    ap (λ (b : Bool). if b then None else option_map (waiter_from (done_of past other)) (call_of past other)) unspent
    ∙ ap (λ (o : Option Completion). option_map (waiter_from o) (call_of past other)) k.1 in
    ap (λ (b : Bool). if b then None else option_map (waiter_from (Some c)) (call_of past other)) unspent
    ∙ waiter_done past other place what size c refl refl refl (call_of past other) k.2
    ∙ ap (option_map (completed place what size)) (sym before)

spent_begin : (b x y : Bool) (o : Option Waiter) → (if (b || x) || y then None else o)
    ≡ (if b then None else (if x || y then None else o))
spent_begin true x y o = refl
spent_begin false x y o = refl

spent_drop : (b x y : Bool) (o : Option Waiter) → (if x || (b || y) then None else o)
    ≡ (if b then None else (if x || y then None else o))
spent_drop true true y o = refl
spent_drop true false y o = refl
spent_drop false x y o = refl

waiter_by_doing : (past : List Line) → IsLegalSoFar loose past → (thread other : ℕ) (does : Doing) → MayDo loose past thread does
    → waiter_of (record { thread = thread; does = does } ∷ past) other
    ≡ waiter_after (frame past thread) (length past) does other (waiter_of past other)
waiter_by_doing past legal thread other (doing.Call op how context strand thing) may =
    waiter_called past other (length past) (op == other) (record {
      word = how;
      context = context;
      strand = strand;
      thing = thing;
      caller =
          frame past thread;
      thread = thread;
      place = length past;
    })
    (λ same. let e : op ≡ other = eqb-true op other same in
    fresh past legal other (λ called. let less : other < op = may.is_new other called in absurd (omega arith))) refl
waiter_by_doing past legal thread other (doing.Done op what size) may =
    waiter_after_done past other thread (length past) what size (op == other)
    (λ same. let e : op ≡ other = eqb-true op other same in (
      subst (λ (n : ℕ). Waits past n) e may.waiting,
      subst (λ (n : ℕ). done_of past n ≡ None) e may.done_once,
      subst (λ (n : ℕ). option_map is_posting (option_map (λ (call : Calling). call.word) (call_of past n)) ≡ Some true
          → ⊥) e may.asynchronous,
    ))
waiter_by_doing past legal thread other (doing.Begin op what size) may =
    spent_begin (op == other) (is_begun past other) (is_dropped past other)
    (option_map (waiter_from (done_of past other)) (call_of past other))
waiter_by_doing past legal thread other (doing.Drop op) may =
    spent_drop (op == other) (is_begun past other) (is_dropped past other)
    (option_map (waiter_from (done_of past other)) (call_of past other))
waiter_by_doing past legal thread other _ may = refl

pub waiter_of-next : (past : List Line) (line : Line) → IsLegalSoFar loose past → MayDo loose past line.thread line.does → (other : ℕ)
    → waiter_of (line ∷ past) other ≡ waiter_after (frame past line.thread) (length past) line.does other (waiter_of past other)
waiter_of-next past line legal may other = waiter_by_doing past legal line.thread other line.does may

-- what executes

chained_top : (past : List Line) (kept : Stacks) (ops : List ℕ) (op : ℕ) → AreChained past kept ops → ops ≡ op ∷ outer ops
    → execution_of kept op ≡ Some (record { outer = first_of (outer ops); strand = let_in past (strand_of past op) (outer ops) })
chained_top past kept [] op chained is = absurd (empty_not (op) is)
  where
    empty_not : (n : ℕ) → [] ≡ n ∷ [] → ⊥
    empty_not n e = cc
chained_top past kept (first ∷ ops) op chained is =
    let same : first ≡ op = head_is first op ops is in
    subst (λ (n : ℕ). execution_of kept n ≡ Some (record {
      outer = first_of ops;
      strand =
          let_in past (strand_of past n) ops;
    })) same chained.0
  where
    head_is : (a b : ℕ) (xs : List ℕ) → a ∷ xs ≡ b ∷ xs → a ≡ b
    head_is a b xs e = cc

first_pushed : (t : Bool) (op : ℕ) (ops : List ℕ) → first_of (if t then op ∷ ops else ops) ≡ (if t then Some op else first_of ops)
first_pushed true op ops = refl
first_pushed false op ops = refl

first_popped : (past : List Line) (kept : Stacks) (thread other op : ℕ) → AreChained past kept (stack past thread)
    → frame past thread ≡ Execution op → (t : Bool) → (thread == other) ≡ t
    → first_of (if t then outer (stack past other) else stack past other)
    ≡ (if t then outer_of (execution_of kept op) else first_of (stack past other))
first_popped past kept thread other op chained top false test = refl
first_popped past kept thread other op chained top true test =
    let same : thread ≡ other = eqb-true thread other test in
    sym (ap outer_of (chained_top past kept (stack past thread) op chained (frame_first (stack past thread) thread op top))
    ∙ ap (λ (t : ℕ). first_of (outer (stack past t))) same)

innermost_by_doing : (past : List Line) (kept : Stacks) (thread other : ℕ) (does : Doing)
    → AreChained past kept (stack past thread) → MayDo loose past thread does
    → first_of (if thread == other then stack_after does (stack past other) else stack past other)
    ≡ innermost_after (execution_of kept) thread does other (first_of (stack past other))
innermost_by_doing past kept thread other (doing.Begin op what size) chained may =
    first_pushed (thread == other) op (stack past other)
innermost_by_doing past kept thread other (doing.End op) chained may =
    first_popped past kept thread other op chained may.innermost (thread == other) refl
innermost_by_doing past kept thread other (doing.Throw op) chained may =
    first_popped past kept thread other op chained may.innermost (thread == other) refl
innermost_by_doing past kept thread other _ chained may = ap first_of (same_either (thread == other) (stack past other))
  where
    same_either : (t : Bool) (ops : List ℕ) → (if t then ops else ops) ≡ ops
    same_either true ops = refl
    same_either false ops = refl

pub innermost-next : (past : List Line) (line : Line) (kept : Stacks) → MayDo loose past line.thread line.does
    → AreChained past kept (stack past line.thread) → (other : ℕ)
    → innermost_after (execution_of kept) line.thread line.does other (first_of (stack past other))
    ≡ first_of (stack (line ∷ past) other)
innermost-next past line kept may chained other = sym (innermost_by_doing past kept line.thread other line.does chained may)

-- the chain goes by the executions that it names alone
chain_kept : (past : List Line) (kept new : Stacks) (ops : List ℕ)
    → ((op : ℕ) → is_among op ops ≡ true → execution_of new op ≡ execution_of kept op) → AreChained past kept ops
    → AreChained past new ops
chain_kept past kept new [] same chained = tt
chain_kept past kept new (op ∷ ops) same chained = (
  same op (or_left (op == op) (is_among op ops) (eq-eqb op op refl)) ∙ chained.0,
  chain_kept past kept new ops (λ other there. same other (or_right (op == other) (is_among other ops) there)) chained.1,
)

let_in-next : (past : List Line) (line : Line) → MayDo loose past line.thread line.does → (op : ℕ) (ops : List ℕ) → IsSome (call_of past op)
    → AreCalled past ops → let_in (line ∷ past) (strand_of (line ∷ past) op) ops ≡ let_in past (strand_of past op) ops
let_in-next past line may op ops called all =
    ap (λ (o : Option ℕ). let_in (line ∷ past) o ops) (strand_of-next loose past line op may called)
    ∙ by_strand (strand_of past op)
  where
    by_strand : (o : Option ℕ) → let_in (line ∷ past) o ops ≡ let_in past o ops
    by_strand None = refl
    by_strand (Some strand) = ap (λ (b : Bool). if b then None else Some strand) (on-next loose past line strand ops may all)

-- a line changes nothing of the chain's own terms
chain_next : (past : List Line) (line : Line) (kept : Stacks) (ops : List ℕ) → MayDo loose past line.thread line.does → AreCalled past ops
    → AreChained past kept ops → AreChained (line ∷ past) kept ops
chain_next past line kept [] may called chained = tt
chain_next past line kept (op ∷ ops) may called chained = (
  chained.0 ∙ ap (λ (s : Option ℕ). Some (kept_as (first_of ops) s))
      (sym (let_in-next past line may op ops called.0 called.1)),
  chain_next past line kept ops may called.1 chained.1,
)
  where
    kept_as : Option ℕ → Option ℕ → Kept
    kept_as o s = record { outer = o; strand = s }

not_among : (op other : ℕ) (ops : List ℕ) → is_among other ops ≡ true → (is_among op ops ≡ true → ⊥) → (op == other) ≡ false
not_among op other ops there not = ne_eqb op other (λ e. not (subst (λ (n : ℕ). is_among n ops ≡ true) (sym e) there))

pushed : (past : List Line) → IsLegalSoFar loose past → (kept new : Stacks) (thread other op : ℕ) (own : Option ℕ)
    → Waits past op → ((q : ℕ) → execution_of new q ≡ (if op == q then Some (record {
      outer =
          first_of (stack past thread);
      strand = own;
    }) else execution_of kept q))
    → own ≡ let_in past (strand_of past op) (stack past thread) → AreChained past kept (stack past other) → (t : Bool)
    → (thread == other) ≡ t → AreChained past new (if t then op ∷ stack past other else stack past other)
pushed past legal kept new thread other op own waits changes own_is chained t test = by_test t test
  where
    rest : AreChained past new (stack past other)
    rest = chain_kept past kept new (stack past other) (λ q there. changes q
        ∙ ap (λ (b : Bool). if b then Some (record { outer = first_of (stack past thread); strand = own }) else execution_of
        kept q)
        (not_among op q (stack past other) there (λ among. both_ways (is_begun past op) waits.not_begun
        (executes_begun past other op among)))) chained

    by_test : (b : Bool) → (thread == other) ≡ b → AreChained past new (if b then op ∷ stack past other else stack past other)
    by_test false e = rest
    by_test true e =
        let same : thread ≡ other = eqb-true thread other e in
        let here : (op == op) ≡ true = eq-eqb op op refl in (
          changes op ∙ ap (λ (b : Bool). if b then Some (record { outer = first_of (stack past thread); strand = own }) else
              execution_of kept op) here
              ∙ ap (λ (s : Option ℕ). Some (record { outer = first_of (stack past thread); strand = s })) own_is
              ∙ ap (λ (u : ℕ). Some (record {
                outer = first_of (stack past u);
                strand =
                    let_in past (strand_of past op) (stack past u);
              })) same,
          rest,
        )

among_outer : (op : ℕ) (ops : List ℕ) → is_among op (outer ops) ≡ true → is_among op ops ≡ true
among_outer op [] there = there
among_outer op (first ∷ ops) there = or_right (first == op) (is_among op ops) there

chained_outer : (past : List Line) (kept : Stacks) (ops : List ℕ) → AreChained past kept ops → AreChained past kept (outer ops)
chained_outer past kept [] chained = tt
chained_outer past kept (op ∷ ops) chained = chained.1

top_apart : (op : ℕ) (ops : List ℕ) → AreApart ops → ops ≡ op ∷ outer ops → is_among op (outer ops) ≡ false
top_apart op [] apart is = refl
top_apart op (first ∷ ops) apart is = subst (λ (n : ℕ). is_among n ops ≡ false) (head_is first op ops is) apart.0
  where
    head_is : (a b : ℕ) (xs : List ℕ) → a ∷ xs ≡ b ∷ xs → a ≡ b
    head_is a b xs e = cc

top_among : (op : ℕ) (ops : List ℕ) → ops ≡ op ∷ outer ops → is_among op ops ≡ true
top_among op ops is = subst (λ (all : List ℕ). is_among op all
    ≡ true) (sym is) (or_left (op == op) (is_among op (outer ops)) (eq-eqb op op refl))

popped : (past : List Line) → IsLegalSoFar loose past → (kept new : Stacks) (thread other op : ℕ)
    → frame past thread ≡ Execution op → ((q : ℕ) → execution_of new q ≡ (if op == q then None else execution_of kept q))
    → AreChained past kept (stack past other) → (t : Bool) → (thread == other) ≡ t
    → AreChained past new (if t then outer (stack past other) else stack past other)
popped past legal kept new thread other op top changes chained true test =
    let same : thread ≡ other = eqb-true thread other test in
    let first : stack past other ≡ op ∷ outer (stack past other) =
    frame_first (stack past other) other op (sym (ap (frame past) same) ∙ top) in
    chain_kept past kept new (outer (stack past other)) (λ q there. changes q
    ∙ ap (λ (b : Bool). if b then None else execution_of kept q)
    (not_among op q (outer (stack past other)) there (both_ways (is_among op (outer (stack past other)))
    (top_apart op (stack past other) (stack_apart loose past legal other) first))))
    (chained_outer past kept (stack past other) chained)
popped past legal kept new thread other op top changes chained false test =
    let first : stack past thread ≡ op ∷ outer (stack past thread) = frame_first (stack past thread) thread op top in
    chain_kept past kept new (stack past other) (λ q there. changes q
    ∙ ap (λ (b : Bool). if b then None else execution_of kept q)
    (not_among op q (stack past other) there (λ among. both_ways (thread == other) test
    (eq-eqb thread other (one_thread loose past legal op thread other (top_among op (stack past thread) first) among)))))
    chained

executions_by_doing : (past : List Line) → IsLegalSoFar loose past
    → (kept new : Stacks) (thread other : ℕ) (own : Option ℕ) (does : Doing) → MayDo loose past thread does
    → GoesWith past kept thread does own
    → ((q : ℕ) → execution_of new q ≡ execution_after (first_of (stack past thread)) own does q (execution_of kept q))
    → AreChained past kept (stack past other)
    → AreChained past new (if thread == other then stack_after does (stack past other) else stack past other)
executions_by_doing past legal kept new thread other own (doing.Begin op what size) may goes changes chained =
    pushed past legal kept new thread other op own may.waiting changes goes chained (thread == other) refl
executions_by_doing past legal kept new thread other own (doing.End op) may goes changes chained =
    popped past legal kept new thread other op may.innermost changes chained (thread == other) refl
executions_by_doing past legal kept new thread other own (doing.Throw op) may goes changes chained =
    popped past legal kept new thread other op may.innermost changes chained (thread == other) refl
executions_by_doing past legal kept new thread other own _ may goes changes chained =
    let P : List ℕ → Type 0 = λ ops. AreChained past new ops in
    cond_both (thread == other) (stack past other) (stack past other) P
    (λ here. chain_kept past kept new (stack past other) (λ q there. changes q) chained)
    (λ away. chain_kept past kept new (stack past other) (λ q there. changes q) chained)

pub executions-next : (past : List Line) (line : Line) → IsLegalSoFar loose past → MayDo loose past line.thread line.does
    → (kept new : Stacks) (own : Option ℕ) → GoesWith past kept line.thread line.does own
    → ((q : ℕ) → execution_of new q ≡ execution_after (first_of (stack past line.thread)) own line.does q
    (execution_of kept q)) → (other : ℕ) → AreChained past kept (stack past other)
    → AreChained (line ∷ past) new (stack (line ∷ past) other)
executions-next past line legal may kept new own goes changes other chained =
    chain_next past line new (stack (line ∷ past) other) may
    (stack_called_before loose past line other may (stack_called loose past legal other))
    (executions_by_doing past legal kept new line.thread other own line.does may goes changes chained)

-- who holds a strand

strand_case : (o : Option ℕ) → (o ≡ None) ⊎ ((s : ℕ) × (o ≡ Some s))
strand_case None = inl refl
strand_case (Some s) = inr (s, refl)

held_none : (o : Option ℕ) (strand : ℕ) → o ≡ None → option_eq nat_eq o (Some strand) ≡ false
held_none None strand is = refl
held_none (Some s) strand is = cc

-- a begin: the operation's strand is held by it, if it wasn't by one around it
pushed_holds : (past : List Line) (thread other op strand : ℕ) (holder : ℕ → Option ℕ)
    → ((t s : ℕ) → list_any (is_on past s) (stack past t) ≡ option_eq nat_eq (holder s) (Some t))
    → ((s user : ℕ) → strand_of past op ≡ Some s → Holds past user s → user ≡ thread) → (mine : Option ℕ)
    → strand_of past op ≡ mine → (t : Bool) → (thread == other) ≡ t
    → list_any (is_on past strand) (if t then op ∷ stack past other else stack past other)
    ≡ option_eq nat_eq (if is_number (let_in past mine (stack past thread)) strand then Some thread else holder strand)
    (Some other)
pushed_holds past thread other op strand holder held alone None mine_is true test =
    ap (λ (o : Option ℕ). option_eq nat_eq o (Some strand) || list_any (is_on past strand) (stack past other)) mine_is
    ∙ held other strand
pushed_holds past thread other op strand holder held alone None mine_is false test = held other strand
pushed_holds past thread other op strand holder held alone (Some s) mine_is t test =
    by_around (list_any (is_on past s) (stack past thread)) refl t test
  where
    on_is : is_on past strand op ≡ (s == strand)
    on_is = ap (λ (o : Option ℕ). option_eq nat_eq o (Some strand)) mine_is

    by_around : (around : Bool) → list_any (is_on past s) (stack past thread) ≡ around → (u : Bool) → (thread == other) ≡ u
        → list_any (is_on past strand) (if u then op ∷ stack past other else stack past other)
        ≡ option_eq nat_eq (if is_number (if around then None else Some s) strand then Some thread else holder strand)
        (Some other)
    by_around true has false away = held other strand
    by_around true has true here =
        let same : thread ≡ other = eqb-true thread other here in
        ⊎_elim
        (λ (on : (s == strand) ≡ true). let e : s ≡ strand = eqb-true s strand on in
        let there : list_any (is_on past strand) (stack past other) ≡ true =
        subst (λ (n : ℕ). list_any (is_on past n) (stack past other)
        ≡ true) e (subst (λ (n : ℕ). list_any (is_on past s) (stack past n) ≡ true) same has) in
        or_right (is_on past strand op) (list_any (is_on past strand) (stack past other)) there ∙ sym there ∙ held other strand)
        (λ (off : (s == strand) ≡ false). ap (λ (b : Bool). b || list_any (is_on past strand) (stack past other)) (on_is ∙ off)
        ∙ held other strand)
        (cases_Bool (s == strand))
    by_around false none true here =
        ⊎_elim
        (λ (on : (s == strand) ≡ true). or_left (is_on past strand op) (list_any (is_on past strand) (stack past other)) (on_is
        ∙ on)
        ∙ sym (ap (λ (b : Bool). option_eq nat_eq (if b then Some thread else holder strand) (Some other)) on ∙ here))
        (λ (off : (s == strand) ≡ false). ap (λ (b : Bool). b || list_any (is_on past strand) (stack past other)) (on_is ∙ off)
        ∙ held other strand
        ∙ sym (ap (λ (b : Bool). option_eq nat_eq (if b then Some thread else holder strand) (Some other)) off))
        (cases_Bool (s == strand))
    by_around false none false away =
        ⊎_elim
        (λ (on : (s == strand) ≡ true). let e : s ≡ strand = eqb-true s strand on in
        let nobody : list_any (is_on past strand) (stack past other) ≡ false =
        false_from_ne_true (list_any (is_on past strand) (stack past other)) (λ holds.
        both_ways (thread == other) away (eq-eqb thread other
        (sym (alone strand other (mine_is ∙ ap (λ (n : ℕ). Some n) e) holds)))) in
        nobody ∙ sym (ap (λ (b : Bool). option_eq nat_eq (if b then Some thread else holder strand) (Some other)) on ∙ away))
        (λ (off : (s == strand) ≡ false). held other strand
        ∙ sym (ap (λ (b : Bool). option_eq nat_eq (if b then Some thread else holder strand) (Some other)) off))
        (cases_Bool (s == strand))

-- an end: what it let in is let go
popped_holds : (past : List Line) → IsLegalSoFar loose past → (thread other op strand : ℕ) (holder : ℕ → Option ℕ)
    → ((t s : ℕ) → list_any (is_on past s) (stack past t) ≡ option_eq nat_eq (holder s) (Some t))
    → stack past thread ≡ op ∷ outer (stack past thread) → (mine : Option ℕ) → strand_of past op ≡ mine → (t : Bool)
    → (thread == other) ≡ t
    → list_any (is_on past strand) (if t then outer (stack past other) else stack past other)
    ≡ option_eq nat_eq (if is_number (let_in past mine (outer (stack past thread))) strand then None else holder strand)
    (Some other)
popped_holds past legal thread other op strand holder held first None mine_is false test = held other strand
popped_holds past legal thread other op strand holder held first None mine_is true test =
    let same : thread ≡ other = eqb-true thread other test in
    let whole : list_any (is_on past strand) (stack past thread) ≡ list_any (is_on past strand) (outer (stack past thread)) =
    ap (list_any (is_on past strand)) first ∙ ap (λ (o : Option ℕ). option_eq nat_eq o (Some strand) || list_any
    (is_on past strand) (outer (stack past thread))) mine_is in
    ap (λ (u : ℕ). list_any (is_on past strand) (outer (stack past u))) (sym same) ∙ sym whole ∙ held thread strand
    ∙ ap (λ (u : ℕ). option_eq nat_eq (holder strand) (Some u)) same
popped_holds past legal thread other op strand holder held first (Some s) mine_is t test =
    by_around (list_any (is_on past s) (outer (stack past thread))) refl t test
  where
    on_is : is_on past strand op ≡ (s == strand)
    on_is = ap (λ (o : Option ℕ). option_eq nat_eq o (Some strand)) mine_is

    whole : list_any (is_on past strand) (stack past thread)
        ≡ ((s == strand) || list_any (is_on past strand) (outer (stack past thread)))
    whole = ap (list_any (is_on past strand)) first ∙ ap
        (λ (b : Bool). b || list_any (is_on past strand) (outer (stack past thread))) on_is

    off_holds : (s == strand) ≡ false → thread ≡ other
        → list_any (is_on past strand) (outer (stack past other)) ≡ option_eq nat_eq (holder strand) (Some other)
    off_holds off same = ap (λ (u : ℕ). list_any (is_on past strand) (outer (stack past u))) (sym same)
        ∙ sym (whole ∙ ap (λ (b : Bool). b || list_any (is_on past strand) (outer (stack past thread))) off)
        ∙ held thread strand ∙ ap (λ (u : ℕ). option_eq nat_eq (holder strand) (Some u)) same

    by_around : (around : Bool) → list_any (is_on past s) (outer (stack past thread)) ≡ around → (u : Bool)
        → (thread == other) ≡ u
        → list_any (is_on past strand) (if u then outer (stack past other) else stack past other)
        ≡ option_eq nat_eq (if is_number (if around then None else Some s) strand then None else holder strand) (Some other)
    by_around true has false away = held other strand
    by_around true has true here =
        let same : thread ≡ other = eqb-true thread other here in
        ⊎_elim
        (λ (on : (s == strand) ≡ true). let e : s ≡ strand = eqb-true s strand on in
        let there : list_any (is_on past strand) (outer (stack past thread)) ≡ true =
        subst (λ (n : ℕ). list_any (is_on past n) (outer (stack past thread)) ≡ true) e has in
        ap (λ (u : ℕ). list_any (is_on past strand) (outer (stack past u))) (sym same) ∙ there
        ∙ sym (whole ∙ or_right (s == strand) (list_any (is_on past strand) (outer (stack past thread))) there)
        ∙ held thread strand ∙ ap (λ (u : ℕ). option_eq nat_eq (holder strand) (Some u)) same)
        (λ (off : (s == strand) ≡ false). off_holds off same)
        (cases_Bool (s == strand))
    by_around false none true here =
        let same : thread ≡ other = eqb-true thread other here in
        ⊎_elim
        (λ (on : (s == strand) ≡ true). let e : s ≡ strand = eqb-true s strand on in
        ap (λ (u : ℕ). list_any (is_on past strand) (outer (stack past u))) (sym same)
        ∙ subst (λ (n : ℕ). list_any (is_on past n) (outer (stack past thread)) ≡ false) e none
        ∙ sym (ap (λ (b : Bool). option_eq nat_eq (if b then None else holder strand) (Some other)) on))
        (λ (off : (s == strand) ≡ false). off_holds off same
        ∙ sym (ap (λ (b : Bool). option_eq nat_eq (if b then None else holder strand) (Some other)) off))
        (cases_Bool (s == strand))
    by_around false none false away =
        ⊎_elim
        (λ (on : (s == strand) ≡ true). let here : Holds past thread strand = whole
        ∙ or_left (s == strand) (list_any (is_on past strand) (outer (stack past thread))) on in
        let nobody : list_any (is_on past strand) (stack past other) ≡ false =
        false_from_ne_true (list_any (is_on past strand) (stack past other)) (λ holds.
        both_ways (thread == other) away (eq-eqb thread other (holders_agree loose past legal strand thread other here holds))) in
        nobody ∙ sym (ap (λ (b : Bool). option_eq nat_eq (if b then None else holder strand) (Some other)) on))
        (λ (off : (s == strand) ≡ false). held other strand
        ∙ sym (ap (λ (b : Bool). option_eq nat_eq (if b then None else holder strand) (Some other)) off))
        (cases_Bool (s == strand))

let_go_is : (past : List Line) (kept : Stacks) (thread op : ℕ) (own : Option ℕ) → AreChained past kept (stack past thread)
    → frame past thread ≡ Execution op → own ≡ strand_let_in (execution_of kept op)
    → own ≡ let_in past (strand_of past op) (outer (stack past thread))
let_go_is past kept thread op own chained top is = is
    ∙ ap strand_let_in (chained_top past kept (stack past thread) op chained (frame_first (stack past thread) thread op top))

held_by_doing : (past : List Line) → IsLegalSoFar loose past
    → (kept : Stacks) (thread other strand : ℕ) (own : Option ℕ) (holder : ℕ → Option ℕ) (does : Doing)
    → MayDo loose past thread does → AreChained past kept (stack past thread)
    → GoesWith past kept thread does own → ((t s : ℕ) → list_any (is_on past s) (stack past t)
    ≡ option_eq nat_eq (holder s) (Some t))
    → list_any (is_on past strand) (if thread == other then stack_after does (stack past other) else stack past other)
    ≡ option_eq nat_eq (holder_after thread own does strand (holder strand)) (Some other)
held_by_doing past legal kept thread other strand own holder (doing.Begin op what size) may chained goes held =
    pushed_holds past thread other op strand holder held (λ s user on holds. (may.free s user on holds).0) (strand_of past op)
    refl (thread == other) refl
    ∙ ap (λ (o : Option ℕ). option_eq nat_eq (if is_number o strand then Some thread else holder strand) (Some other)) (sym goes)
held_by_doing past legal kept thread other strand own holder (doing.End op) may chained goes held =
    popped_holds past legal thread other op strand holder held (frame_first (stack past thread) thread op may.innermost)
    (strand_of past op) refl (thread == other) refl
    ∙ ap (λ (o : Option ℕ). option_eq nat_eq (if is_number o strand then None else holder strand) (Some other))
    (sym (let_go_is past kept thread op own chained may.innermost goes))
held_by_doing past legal kept thread other strand own holder (doing.Throw op) may chained goes held =
    popped_holds past legal thread other op strand holder held (frame_first (stack past thread) thread op may.innermost)
    (strand_of past op) refl (thread == other) refl
    ∙ ap (λ (o : Option ℕ). option_eq nat_eq (if is_number o strand then None else holder strand) (Some other))
    (sym (let_go_is past kept thread op own chained may.innermost goes))
held_by_doing past legal kept thread other strand own holder _ may chained goes held =
    ap (list_any (is_on past strand)) (same_either (thread == other) (stack past other)) ∙ held other strand
  where
    same_either : (t : Bool) (ops : List ℕ) → (if t then ops else ops) ≡ ops
    same_either true ops = refl
    same_either false ops = refl

pub held-next : (past : List Line) (line : Line) → IsLegalSoFar loose past → MayDo loose past line.thread line.does
    → (kept : Stacks) (own : Option ℕ) (holder : ℕ → Option ℕ) → AreChained past kept (stack past line.thread)
    → GoesWith past kept line.thread line.does own
    → ((t s : ℕ) → list_any (is_on past s) (stack past t) ≡ option_eq nat_eq (holder s) (Some t)) → (other strand : ℕ)
    → list_any (is_on (line ∷ past) strand) (stack (line ∷ past) other)
    ≡ option_eq nat_eq (holder_after line.thread own line.does strand (holder strand)) (Some other)
held-next past line legal may kept own holder chained goes held other strand =
    on-next loose past line strand (stack (line ∷ past) other) may
    (stack_called_before loose past line other may (stack_called loose past legal other))
    ∙ held_by_doing past legal kept line.thread other strand own holder line.does may chained goes held

-- what is kept as an execution goes on
pub executing-next : (outer own : Option ℕ) (does : Doing) (op : ℕ) (new old : Option Kept) (past : List Line)
    → new ≡ execution_after outer own does op old → is_some old ≡ is_executing past op
    → is_some new ≡ executing_after does op (is_executing past op)
executing-next outer own does op new old past is before =
    ap is_some is ∙ by_doing does ∙ ap (executing_after does op) before
  where
    chosen : (b : Bool) (one other : Option Kept) →
        is_some (if b then one else other) ≡ (if b then is_some one else is_some other)
    chosen true one other = refl
    chosen false one other = refl

    by_doing : (d : Doing) → is_some (execution_after outer own d op old) ≡ executing_after d op (is_some old)
    by_doing (doing.Begin number what size) =
        chosen (number == op) (Some (record { outer = outer; strand = own })) old
    by_doing (doing.End number) = chosen (number == op) None old
    by_doing (doing.Throw number) = chosen (number == op) None old
    by_doing _ = refl
