-- What is known of one line more.
use Rattle.std.proofs.Common.{◌≡◌, ◌+◌, ℕ, suc, List, [], ◌∷◌, ◌<◌, ◌≤◌, refl, ap, sym, subst, ◌∙◌, inl, inr, ⊎_elim, length, take, get_or, reverse, arith, ◌++◌, drop, Err}
use Rattle.std.proofs.lemmas.Bool.{and_parts, cases_Bool, cond_both, eq-eqb, eqb-true, ne_eqb}
use Rattle.std.proofs.lemmas.List.{reverse-append, take-append-drop, take_all}
use Rattle.std.proofs.Math.Seq.{take-suc}
use Rattle.std.specs.Prelude.{Bool, true, false, ◌==◌, ◌&&◌, ◌||◌, ◌⊎◌, ◌↔◌, if◌then◌else◌, IsTrue, Option, Some, None, nat_eq}
use Rattle.std.specs.HashMap.{get}
use Rattle.std.specs.Option.{option_map, unwrap_or}
use Rattle.run_lines.specs.declared.code.Code.{Code}
use Rattle.run_lines.specs.declared.line.Doing.{Doing}
use Rattle.run_lines.specs.declared.line.Doing.TheVariants as doing
use Rattle.run_lines.specs.declared.line.Line.{Line}
use Rattle.run_rules.specs.declared.frame.Frame.{Frame}
use Rattle.run_rules.specs.Calls.{Calling, begins, call_of, context_of, done_of}
use Rattle.run_rules.specs.Legal.{IsLegalSoFar}
use Rattle.run_rules.specs.MayCome.{MayDo}
use Rattle.run_rules.specs.Strict.{IsStrict}
use Rattle.run_rules.specs.Takings.{is_taken_by}
use Rattle.run_rules.specs.declared.taking.Resource.TheVariants.{Thing}
use Rattle.run_rules.specs.Stacks.{first_of, outer, stack, stack_after}
use Rattle.run_check.specs.After.{IsAfter, loose, waiter_from, waiter_of}
use Rattle.run_check.specs.Called.{called_by}
use Rattle.run_check.specs.Judging.{is_number}
use Rattle.run_check.specs.Steps.{Steps}
use Rattle.run_check.specs.declared.checker.Checker.{Checker}
use Rattle.run_check.specs.declared.refusal.Refusal.{Refusal}
use Rattle.run_check.specs.declared.refusal.Refusal.TheVariants as refusal
use Rattle.run_check.specs.declared.waiting.Waiter.{Waiter}
use Rattle.run_orders.specs.Orders.{IsWorker}
use Rattle.run_orders.specs.Trees.{Spot, around_by, is_among, root, spot_at, writer}
use Rattle.run_orders.proofs.TreeLemmas.{IsIn, begun_in_stack, legal_end, some_same}
use Rattle.run_rules.proofs.VerdictLemmas.{broken_not}
use Rattle.run_witness.specs.Faults.{fault_of}
use Rattle.run_witness.specs.declared.fault.Fault.TheVariants as fault
use Rattle.run_witness.proofs.PlacingLemmas.{begun_waiter, root_some, spot_of_fact}
use Rattle.run_witness.proofs.StandingLemmas.{no_fact}
use Rattle.run_witness.specs.Executions.{IsIdle, IsLent, idle_strand, is_lent, is_work, known_after, work_of}
use Rattle.run_witness.specs.Facts.{AreFacts, AreRooted, CallsIdle, IsFactBefore, IsSurvey, begun_by, call_known, ends_outside, fact_at, fact_of, known_of, root_by, works}
use Rattle.run_witness.proofs.ExecutionsLemmas.{begins_none, calls_it, calls_so, idle_next, known_elsewhere, lent_next, spot_here, spot_stays}
use Rattle.run_witness.specs.declared.facts.Fact.{Fact}
use Rattle.run_witness.specs.declared.facts.Facts.{Facts}
use Rattle.run_witness.specs.declared.facts.Survey.{Survey}

-- the execution round the next line that stands alone

pub root_is : (apart : List ℕ) (does : Doing) (found : ℕ → Option ℕ) (ops : List ℕ) → AreRooted apart found ops
    → root_by apart does (first_of ops) (known_of found (first_of ops)) ≡ root apart (around_by does ops)
root_is apart (doing.Begin op code size) found [] rooted = refl
root_is apart (doing.Begin op code size) found (one ∷ ops) rooted =
    ap (λ (o : Option ℕ). if is_among apart op then Some op else o) rooted.0
root_is apart _ found [] rooted = refl
root_is apart _ found (one ∷ ops) rooted = rooted.0

rooted_still : (apart : List ℕ) (found new : ℕ → Option ℕ) (ops : List ℕ) → ((op : ℕ) → IsIn op ops → new op ≡ found op)
    → AreRooted apart found ops → AreRooted apart new ops
rooted_still apart found new [] same rooted = tt
rooted_still apart found new (op ∷ ops) same rooted = (
  same op (inl refl) ∙ rooted.0,
  rooted_still apart found new ops (λ other there. same other (inr there)) rooted.1,
)

rooted_outer : (apart : List ℕ) (found : ℕ → Option ℕ) (ops : List ℕ) → AreRooted apart found ops
    → AreRooted apart found (outer ops)
rooted_outer apart found [] rooted = tt
rooted_outer apart found (op ∷ ops) rooted = rooted.1

known_root : (apart : List ℕ) (op : ℕ) (ops : List ℕ) (root_of : Option ℕ) → root_of ≡ root apart (op ∷ ops)
    → (known : Option ℕ)
    → (outcome : Code) (size : ℕ) → known_after (doing.Begin op outcome size) root_of op known ≡ root apart (op ∷ ops)
known_root apart op ops None is known outcome size = absurd (root_some apart op ops (sym is))
known_root apart op ops (Some one) is known outcome size = rw (eq-eqb op op refl) is

roots_next : (apart : List ℕ) (past : List Line) (line : Line) (found : ℕ → Option ℕ) (root_of : Option ℕ)
    → IsLegalSoFar loose past
    → MayDo loose past line.thread line.does → root_of ≡ root apart (around_by line.does (stack past line.thread))
    → ((thread : ℕ) → AreRooted apart found (stack past thread)) → (thread : ℕ)
    → AreRooted apart (λ other. known_after line.does root_of other (found other)) (stack (line ∷ past) thread)
roots_next apart past line found root_of legal may is were thread =
    cond_both (line.thread == thread) (stack_after line.does (stack past thread)) (stack past thread)
    (λ (ops : List ℕ). AreRooted apart (λ other. known_after line.does root_of other (found other)) ops)
    (λ here. let same : line.thread ≡ thread = eqb-true line.thread thread here in
    subst (λ (t : ℕ). AreRooted apart (λ other. known_after line.does root_of other (found other))
    (stack_after line.does (stack past t))) same
    (after line.does refl (still line.thread)))
    (λ elsewhere. still thread)
  where
    still : (t : ℕ) → AreRooted apart (λ other. known_after line.does root_of other (found other)) (stack past t)
    still t = rooted_still apart found (λ other. known_after line.does root_of other (found other)) (stack past t)
        (λ op there. known_elsewhere line.does root_of op (found op)
        (begins_none past line.thread op line.does may (begun_in_stack loose past legal t op there))) (were t)

    after : (does : Doing) → does ≡ line.does
        → AreRooted apart (λ other. known_after line.does root_of other (found other)) (stack past line.thread)
        → AreRooted apart (λ other. known_after line.does root_of other (found other)) (stack_after does
        (stack past line.thread))
    after (doing.Begin op code size) e rooted = (
      ap (λ (d : Doing). known_after d root_of op (found op)) (sym e)
          ∙ known_root apart op (stack past line.thread) root_of
          (is ∙ ap (λ (d : Doing). root apart (around_by d (stack past line.thread))) (sym e)) (found op) code size,
      rooted,
    )
    after (doing.End op) e rooted =
        rooted_outer apart (λ other. known_after line.does root_of other (found other)) (stack past line.thread) rooted
    after (doing.Throw op) e rooted =
        rooted_outer apart (λ other. known_after line.does root_of other (found other)) (stack past line.thread) rooted
    after _ e rooted = rooted

worker_stays : (past : List Line) (line : Line) (thread context : ℕ) → IsWorker past thread context
    → IsWorker (line ∷ past) thread context
worker_stays past line thread context was = record {
  place = was.place;
  spot = was.spot;
  there = spot_stays past line was.place was.spot was.there;
  same = was.same;
  works = was.works;
}

-- a line that makes its thread work for a context
worker_here : (past : List Line) (line : Line) (context : ℕ) (does : Doing) → does ≡ line.does
    → MayDo loose past line.thread does
    → work_of does (begun_by past does) ≡ Some context → IsWorker (line ∷ past) line.thread context
worker_here past line context (doing.Work other) is may works = record {
  place = length past;
  spot = record { line = line; past = past };
  there = spot_here past line;
  same = refl;
  works = inl (sym is ∙ ap doing.Work (some_same other context works));
}
worker_here past line context (doing.Begin op code size) is may works = record {
  place = length past;
  spot = record { line = line; past = past };
  there = spot_here past line;
  same = refl;
  works = inr (op, subst (λ (d : Doing). begins d op ≡ true) is (eq-eqb op op refl), by_call (call_of past op) refl);
}
  where
    by_call : (o : Option Calling) → call_of past op ≡ o → context_of past op ≡ Some context
    by_call None called =
        let none : waiter_of past op ≡ None =
        rw (may.waiting.not_begun, may.waiting.not_dropped) (ap (option_map (waiter_from (done_of past op))) called) in
        let e : None ≡ Some context = sym (ap (option_map (λ (w : Waiter). w.context)) none) ∙ works in cc
    by_call (Some call) called =
        let known : waiter_of past op ≡ Some (waiter_from (done_of past op) call) =
        rw (may.waiting.not_begun, may.waiting.not_dropped) (ap (option_map (waiter_from (done_of past op))) called) in
        ap (option_map (λ (c : Calling). c.context)) called ∙ sym (ap (option_map (λ (w : Waiter). w.context)) known)
        ∙ works
worker_here past line context _ is may works = cc

-- each worker is known
works_so : (past : List Line) (thread context : ℕ) (does : Doing) → MayDo loose past thread does
    → (does ≡ doing.Work context) ⊎ ((op : ℕ) × IsTrue (begins does op) × (context_of past op ≡ Some context))
    → work_of does (begun_by past does) ≡ Some context
works_so past thread context does may works =
    ⊎_elim (λ (is : does ≡ doing.Work context). ap (λ (d : Doing). work_of d (begun_by past does)) is)
    (λ begins_one. by_begin does begins_one.0 begins_one.1
    (begun_waiter past thread begins_one.0 context does may begins_one.1 begins_one.2)) works
  where
    by_begin : (does : Doing) (op : ℕ) → begins does op ≡ true
        → (waiter : Waiter) × (begun_by past does ≡ Some waiter) × (waiter.context ≡ context)
        → work_of does (begun_by past does) ≡ Some context
    by_begin (doing.Begin number code size) op begun waits =
        ap (option_map (λ (w : Waiter). w.context)) waits.1 ∙ ap Some waits.2
    by_begin _ op begun waits = cc

worker_known : (past : List Line) (line : Line) (thread context : ℕ) (known : Bool) → MayDo loose past line.thread line.does
    → (IsWorker past thread context → known ≡ true) → IsWorker (line ∷ past) thread context
    → (is_work line.thread (work_of line.does (begun_by past line.does)) thread context || known) ≡ true
worker_known past line thread context known may before worker =
    cond_both (length past == worker.place) (Some (record { line = line; past = past })) (spot_at past worker.place)
    (λ (o : Option Spot). o ≡ Some worker.spot
    → (is_work line.thread (work_of line.does (begun_by past line.does)) thread context || known) ≡ true)
    (λ here is.
    let same : record { line = line; past = past } ≡ worker.spot = some_same
    (record { line = line; past = past }) worker.spot is in
    let on : line.thread ≡ thread = ap (λ (s : Spot). s.line.thread) same ∙ worker.same in
    let works : work_of line.does (begun_by past line.does) ≡ Some context =
    works_so past line.thread context line.does may
    (subst (λ (s : Spot). (s.line.does ≡ doing.Work context)
    ⊎ ((op : ℕ) × IsTrue (begins s.line.does op) × (context_of s.past op ≡ Some context))) (sym same) worker.works) in
    ap (λ (o : Option ℕ). is_work line.thread o thread context || known) works
    ∙ rw (eq-eqb line.thread thread on, eq-eqb context context refl) refl)
    (λ elsewhere is. or_true (is_work line.thread (work_of line.does (begun_by past line.does)) thread context) known
    (before (record {
      place = worker.place;
      spot = worker.spot;
      there = is;
      same = worker.same;
      works = worker.works;
    }))) worker.there
  where
    or_true : (a b : Bool) → b ≡ true → (a || b) ≡ true
    or_true true b is = refl
    or_true false b is = is

not_strict : IsStrict loose → ⊥
not_strict strict = cc

-- what was noted of a line
pub record NotesSurvey (apart : List ℕ) (thing : ℕ) (past : List Line) (line : Line) (old new : Survey) : Type 0 where
  pub may : MayDo loose past line.thread line.does
  pub after : IsAfter (line ∷ past) new.checker
  pub root_of : Option ℕ
  pub root_is : root_of ≡ root apart (around_by line.does (stack past line.thread))
  pub roots : (op : ℕ) → get nat_eq new.roots op ≡ known_after line.does root_of op (get nat_eq old.roots op)
  pub calls : (thread : ℕ) → call_known new thread ≡
      (if line.thread == thread then called_by line.does else call_known old thread)
  pub counted : new.facts.lines ≡ length past + 1
  pub lines : (place : ℕ) → fact_at new.facts place
      ≡ (if length past == place then Some (fact_of apart thing
      (record { line = line; past = past })) else fact_at old.facts place)
  pub workers : (thread context : ℕ) → works new.facts thread context
      ≡ (is_work line.thread (work_of line.does (begun_by past line.does)) thread context || works old.facts thread context)
  pub lent : Option ℕ
  pub lent_is : (op : ℕ) → (lent ≡ Some op) ↔ IsLent past line.thread line.does op
  pub lents : (op : ℕ) → is_lent new.facts.executions op ≡ (is_number lent op || is_lent old.facts.executions op)
  pub idle : Option ℕ
  pub idle_is : (op strand : ℕ) → IsTrue (begins line.does op) →
      (idle ≡ Some strand) ↔ IsIdle apart past line.thread line.does op strand
  pub idles : (op : ℕ) → idle_strand new.facts.executions op ≡ known_after line.does idle op
      (idle_strand old.facts.executions op)

work_cases : (by : ℕ) (to : Option ℕ) (thread context : ℕ) (known : Bool) → (is_work by to thread context || known) ≡ true
    → ((by ≡ thread) × (to ≡ Some context)) ⊎ IsTrue known
work_cases by None thread context known is = inr is
work_cases by (Some other) thread context known is =
    ⊎_elim
    (λ (here : (by == thread && other == context) ≡ true). let parts = and_parts (by == thread) (other == context) here in
    inl (eqb-true by thread parts.0, ap Some (eqb-true other context parts.1)))
    (λ (distinct : (by == thread && other == context) ≡ false). inr (rest (by == thread && other == context) distinct is))
    (cases_Bool (by == thread && other == context))
  where
    rest : (b : Bool) → b ≡ false → (b || known) ≡ true → known ≡ true
    rest false none is = is
    rest true none is = cc

-- what is known of a line behind it
pub fact_made : {apart : List ℕ} (thing : ℕ) (spot : Spot) (before : Fact) (leaves has : Bool)
    → IsFactBefore apart before spot
    → leaves ≡ ends_outside spot
    → has ≡ is_taken_by (spot.line ∷ spot.past) spot.line.thread before.writer (Thing thing)
    → record {
      line = before.line;
      tree = before.tree;
      writer = before.writer;
      leaves = leaves;
      begun = before.begun;
      has = has;
    }
    ≡ fact_of apart thing spot
fact_made thing spot before leaves has is left taken =
    let held : has ≡ is_taken_by (spot.line ∷ spot.past) spot.line.thread (writer spot) (Thing thing) =
    taken ∙ ap (λ (f : Frame). is_taken_by (spot.line ∷ spot.past) spot.line.thread f (Thing thing)) is.writer in
    λ i. record {
      line = is.line i;
      tree = is.tree i;
      writer = is.writer i;
      leaves = left i;
      begun = is.begun i;
      has =
          held i;
    }

pub survey_next : {apart : List ℕ} (thing : ℕ) (past : List Line) (line : Line) (old new : Survey)
    → IsSurvey apart thing past old
    → NotesSurvey apart thing past line old new → IsSurvey apart thing (line ∷ past) new
survey_next {apart} thing past line old new was notes = record {
  after = notes.after;
  roots = λ thread. rooted_still apart (λ op. known_after line.does notes.root_of op (get nat_eq old.roots op))
      (get nat_eq new.roots)
      (stack (line ∷ past) thread) (λ op there. notes.roots op)
      (roots_next apart past line
      (get nat_eq old.roots) notes.root_of was.facts.legal notes.may notes.root_is was.roots thread);
  calls = λ thread. notes.calls thread ∙ ap (λ
      (o : Option ℕ). if line.thread == thread then called_by line.does else o) (was.calls thread);
  facts = record {
    legal = (was.facts.legal, record { rules = notes.may; strict = λ strict. absurd (not_strict strict) });
    counted = notes.counted ∙ (let e : length past + 1 ≡ suc (length past) = omega arith in e);
    lines = λ place. notes.lines place
        ∙ cond_both (length past == place) (Some (record { line = line; past = past })) (spot_at past place)
        (λ (o : Option Spot). (if length past == place
        then Some (fact_of apart thing
        (record { line = line; past = past })) else fact_at old.facts place) ≡ option_map (fact_of apart thing) o)
        (λ here. rw here refl) (λ elsewhere. rw elsewhere (was.facts.lines place));
    workers = λ thread context. (
      λ is. ⊎_elim
          (λ here. subst (λ (t : ℕ). IsWorker (line ∷ past) t context) here.0
          (worker_here past line context line.does refl notes.may here.1))
          (λ before. worker_stays past line thread context ((was.facts.workers thread context).0 before))
          (work_cases line.thread (work_of line.does (begun_by past line.does)) thread context
          (works old.facts thread context)
          (sym (notes.workers thread context) ∙ is)),
      λ worker. notes.workers thread context
          ∙ worker_known past line thread context (works old.facts thread context) notes.may
          (was.facts.workers thread context).1 worker,
    );
    lent = λ op. lent_next past line notes.lent op (is_lent old.facts.executions op) (is_lent new.facts.executions op)
        (was.facts.lent op) (notes.lent_is op) (notes.lents op);
    idle = λ op strand. idle_next apart past line notes.idle op strand (idle_strand old.facts.executions op)
        (idle_strand new.facts.executions op) notes.may (λ other. was.facts.idle op other) (notes.idle_is op)
        (notes.idles op);
  };
}

-- all lines are seen

seen_next : (lines : List Line) (at : ℕ) (line : Line) → at < length lines → line ≡ get_or lines at line
    → reverse (take (at + 1) lines) ≡ line ∷ reverse (take at lines)
seen_next lines at line within is =
    let one : take (at + 1) lines ≡ take (suc at) lines =
    ap (λ (n : ℕ). take n lines) (let e : at + 1 ≡ suc at = omega arith in e) in
    ap reverse (one ∙ take-suc lines at line within) ∙ reverse-append (take at lines) (get_or lines at line ∷ [])
    ∙ ap (λ (l : Line). l ∷ reverse (take at lines)) (sym is)

pub seen_more : {apart : List ℕ} (thing : ℕ) (lines : List Line) (at : ℕ) (line : Line) (old new : Survey)
    → at < length lines
    → line ≡ get_or lines at line → IsSurvey apart thing (reverse (take at lines)) old
    → ((past : List Line) → IsSurvey apart thing past old → IsSurvey apart thing (line ∷ past) new)
    → IsSurvey apart thing (reverse (take (at + 1) lines)) new
seen_more {apart} thing lines at line old new within is was sees =
    subst (λ (xs : List Line). IsSurvey apart thing xs new) (sym (seen_next lines at line within is)) (sees (reverse
    (take at lines)) was)

pub seen_all : {apart : List ℕ} (thing : ℕ) (lines : List Line) (at : ℕ) (survey : Survey) → length lines ≤ at
    → IsSurvey apart thing (reverse (take at lines)) survey → IsSurvey apart thing (reverse lines) survey
seen_all {apart} thing lines at survey past was = subst (λ (xs : List Line). IsSurvey apart thing (reverse xs) survey)
    (take_all at lines past) was

pub or_is : (a b : Bool) → (if a then true else b) ≡ (a || b)
or_is true b = refl
or_is false b = refl

-- a line that isn't followed breaks a rule, unless there is no room

pub refused : (past : List Line) (line : Line) (old new : Checker) (why : Refusal) → Steps past line old new (Err why)
    → fault_of why ≡ fault.Illegal → MayDo loose past line.thread line.does → ⊥
refused past line old new (refusal.Broken rule) steps is may = broken_not loose past line.thread line.does rule steps.0 may
refused past line old new refusal.NoRoom steps is may = cc

-- the last lines of what is seen
seen_end : (lines : List Line) (at : ℕ) → reverse lines ≡ reverse (drop at lines) ++ reverse (take at lines)
seen_end lines at = ap reverse (sym (take-append-drop at lines)) ∙ reverse-append (take at lines) (drop at lines)

pub seen_illegal : (lines : List Line) (at : ℕ) (line : Line) → at < length lines → line ≡ get_or lines at line
    → (MayDo loose (reverse (take at lines)) line.thread line.does → ⊥) → IsLegalSoFar loose (reverse lines) → ⊥
seen_illegal lines at line within is illegal legal =
    let whole : IsLegalSoFar loose (reverse (drop (at + 1) lines) ++ reverse (take (at + 1) lines)) =
    subst (IsLegalSoFar loose) (seen_end lines (at + 1)) legal in
    let here : IsLegalSoFar loose (line ∷ reverse (take at lines)) =
    subst (IsLegalSoFar loose) (seen_next lines at line within is)
    (legal_end loose (reverse (drop (at + 1) lines)) (reverse (take (at + 1) lines)) whole) in
    illegal here.1.rules

-- what the last line of a thread calls

pub call_next : (thread other : ℕ) (call : Option ℕ) {called : Option ℕ} (old new : Option (Option ℕ))
    → new ≡ (if thread == other then Some call else old) → call ≡ called
    → unwrap_or new None ≡ (if thread == other then called else unwrap_or old None)
call_next thread other call {called} old new is same =
    ap (λ (o : Option (Option ℕ)). unwrap_or o None) is ∙ by_test (thread == other)
  where
    by_test : (b : Bool) → unwrap_or (if b then Some call else old) None ≡ (if b then called else unwrap_or old None)
    by_test true = same
    by_test false = refl

-- before all lines

pub nothing_seen : (apart : List ℕ) (thing : ℕ) (survey : Survey) → IsAfter [] survey.checker
    → ((thread : ℕ) → get nat_eq survey.calls thread ≡ None) → ((place : ℕ) → get nat_eq survey.facts.by_place place ≡ None)
    → survey.facts.lines ≡ 0 → ((thread context : ℕ) → works survey.facts thread context ≡ false)
    → ((op : ℕ) → is_lent survey.facts.executions op ≡ false) → ((op : ℕ) → idle_strand survey.facts.executions op ≡ None)
    → IsSurvey apart thing [] survey
nothing_seen apart thing survey after calls lines counted workers lent idle = record {
  after = after;
  roots = λ thread. tt;
  calls = λ thread. ap (λ (o : Option (Option ℕ)). unwrap_or o None) (calls thread);
  facts = record {
    legal = tt;
    counted = counted;
    lines = lines;
    workers = λ thread context. (
      λ is. absurd (not_both (sym (workers thread context) ∙ is)),
      λ worker. absurd
          (no_spot worker.spot worker.there),
    );
    lent = λ op. (λ is. absurd (not_both (sym (lent op) ∙ is)), λ alone. absurd (no_spot alone.spot alone.there));
    idle = λ op strand. (
      λ is. absurd (no_strand strand (sym (idle op) ∙ is)),
      λ both. absurd (no_spot both.1.spot both.1.there),
    );
  };
}
  where
    not_both : false ≡ true → ⊥
    not_both e = cc

    no_spot : (spot : Spot) → None ≡ Some spot → ⊥
    no_spot spot e = cc

    no_strand : (strand : ℕ) → None ≡ Some strand → ⊥
    no_strand strand e = cc

-- what a line calls

pub calls_idle : (apart : List ℕ) (thing : ℕ) (run : List Line) (facts : Facts) (place : ℕ) (fact : Fact) (found : Option ℕ)
    → AreFacts apart thing run facts → fact_at facts place ≡ Some fact
    → found ≡ known_of (idle_strand facts.executions) (called_by fact.line.does) → (strand : ℕ)
    → (found ≡ Some strand) ↔ CallsIdle run apart place strand
calls_idle apart thing run facts place fact found are is known strand = (
  λ there. by_call (called_by fact.line.does) refl (sym known ∙ there),
  λ calls_one.
      let same : calls_one.spot ≡ here.0 = some_same calls_one.spot here.0 (sym calls_one.there ∙ here.1) in
      let called : called_by fact.line.does ≡ Some calls_one.op =
      ap (λ (f : Fact). called_by f.line.does) here.2 ∙ ap (λ (s : Spot). called_by s.line.does) (sym same)
      ∙ calls_it calls_one.spot.line.does calls_one.op calls_one.calls_it in
      known ∙ ap (known_of (idle_strand facts.executions)) called
      ∙ (are.idle calls_one.op strand).1 (calls_one.among, calls_one.idle),
)
  where
    here : (spot : Spot) × (spot_at run place ≡ Some spot) × (fact ≡ fact_of apart thing spot)
    here = spot_of_fact thing run facts place fact are is

    by_call : (o : Option ℕ) → called_by fact.line.does ≡ o
        → known_of (idle_strand facts.executions) (called_by fact.line.does) ≡ Some strand
        → CallsIdle run apart place strand
    by_call None called there =
        let e : None ≡ Some strand = sym (ap (known_of (idle_strand facts.executions)) called) ∙ there in cc
    by_call (Some op) called there =
        let both = (are.idle op strand).0 (sym (ap (known_of (idle_strand facts.executions)) called) ∙ there) in
        record {
          spot = here.0;
          op = op;
          there = here.1;
          calls_it = calls_so here.0.line.does op (ap (λ (f : Fact). called_by f.line.does) (sym here.2) ∙ called);
          among = both.0;
          idle = both.1;
        }

pub calls_nothing : (apart : List ℕ) (thing : ℕ) (run : List Line) (facts : Facts) (place : ℕ)
    → AreFacts apart thing run facts
    → fact_at facts place ≡ None → (strand : ℕ) → (None ≡ Some strand) ↔ CallsIdle run apart place strand
calls_nothing apart thing run facts place are none strand = (
  λ is. let e : None ≡ Some strand = is in cc,
  λ calls_one. absurd (no_fact (spot_at run place) calls_one.spot (fact_of apart thing) (sym (are.lines place)
      ∙ none) calls_one.there),
)
