-- When an operation enters its queue, and when it is placed.
use Rattle.std.proofs.Common.{◌≡◌, ℕ, suc, ◌<◌, List, [], ◌∷◌, length, refl, ap, subst, sym, ◌∙◌, ⊎_elim, arith}
use Rattle.std.proofs.lemmas.Bool.{eqb-true, eq-eqb, ne_eqb, cases_Bool, cond_both, both_ways}
use Rattle.std.specs.Prelude.{Bool, true, false, ◌==◌, ◌⊎◌, if◌then◌else◌, Option, Some, None, IsSome, nat_eq}
use Rattle.std.specs.Option.{option_eq, option_map, option_or}
use Rattle.run_lines.specs.declared.line.Doing.{Doing}
use Rattle.run_lines.specs.declared.line.Doing.TheVariants as doing
use Rattle.run_lines.specs.declared.line.Line.{Line}
use Rattle.run_rules.specs.declared.frame.Frame.{Frame}
use Rattle.run_rules.specs.declared.level.Level.{Level}
use Rattle.run_rules.specs.Stacks.{frame}
use Rattle.run_rules.specs.Calls.{Calling, Completion, call_in, call_of, done_in, done_of, is_posting}
use Rattle.run_rules.specs.Entries.{Entry, entry_by, entry_from, entry_of, placed_at, placed_by}
use Rattle.run_rules.specs.MayCome.{MayDo}
use Rattle.run_rules.specs.Legal.{IsLegalSoFar}
use Rattle.run_check.specs.Entered.{entered_by, entered_last}
use Rattle.run_check.proofs.RuleLemmas.{done_known}

-- whether a line submits this operation
abbrev pub enters : Doing → ℕ → Bool
enters does op = option_eq nat_eq (entered_by does) (Some op)

-- the entry of an operation behind a line: this line, or what it was
abbrev pub entered_now : Bool → ℕ → ℕ → Option Entry → Option Entry
entered_now b thread place before = if b then Some (record { thread = thread; place = place }) else before

uncalled_by : (found : Option Calling) → (IsSome found → ⊥) → found ≡ None
uncalled_by None not = refl
uncalled_by (Some call) not = absurd (not refl)

undone_uncalled : (found : Option Completion) (call : Option Calling) → (found ≡ None) ⊎ IsSome call → call ≡ None → found ≡ None
undone_uncalled found call known none = ⊎_elim (λ e. e) (λ is. absurd (no_call call none is)) known
  where
    no_call : (o : Option Calling) → o ≡ None → IsSome o → ⊥
    no_call None e is = cc
    no_call (Some call) e is = cc

entry_after_call : (posting : Bool) (b : Bool) (op : ℕ) (call : Calling) (before : Option Calling)
    (completion : Option Completion) (word_posting : is_posting call.word ≡ posting)
    → (b ≡ true → (before ≡ None) × (completion ≡ None))
    → entry_from (option_or (if b then Some call else None) before) completion
    ≡ (if (if posting then b else false) then Some (record { thread = call.thread; place = call.place }) else entry_from before
    completion)
entry_after_call posting false op call before completion how fresh = none_of posting before completion
  where
    none_of : (posting : Bool) (before : Option Calling) (completion : Option Completion)
        → entry_from before completion ≡ (if (if posting then false else false) then Some (record {
          thread =
              call.thread;
          place = call.place;
        }) else entry_from before completion)
    none_of true before completion = refl
    none_of false before completion = refl
entry_after_call true true op call before completion how fresh = ap (λ (p : Bool). entry_by p call completion) how
entry_after_call false true op call before completion how fresh =
    ap (λ (p : Bool). entry_by p call completion) how
    ∙ ap (λ (c : Option Completion). entry_by false call c) (fresh refl).1
    ∙ sym (ap (λ (o : Option Calling). entry_from o completion) (fresh refl).0)

enters_call : (p : Bool) (number op : ℕ) → option_eq nat_eq (if p then Some number else None) (Some op)
    ≡ (if p then number == op else false)
enters_call true number op = refl
enters_call false number op = refl

not_posting : (found : Option Calling) → IsSome found
    → (option_map is_posting (option_map (λ (call : Calling). call.word) found) ≡ Some true → ⊥) → (completion : Completion)
    → entry_from found (Some completion) ≡ Some (record { thread = completion.thread; place = completion.place })
not_posting None some not completion = cc
not_posting (Some call) some not completion = by_word (is_posting call.word) refl
  where
    by_word : (p : Bool) → is_posting call.word ≡ p → entry_by (is_posting call.word) call (Some completion)
        ≡ Some (record { thread = completion.thread; place = completion.place })
    by_word true e = absurd (not (ap (λ (b : Bool). Some b) e))
    by_word false e = ap (λ (b : Bool). entry_by b call (Some completion)) e

entry_after : (level : Level) (past : List Line) → IsLegalSoFar level past
    → (caller : Frame) (thread place op : ℕ) (does : Doing) → MayDo level past thread does
    → entry_from (option_or (call_in caller thread place does op) (call_of past op))
    (option_or (done_in thread place does op) (done_of past op))
    ≡ entered_now (enters does op) thread place (entry_of past op)
entry_after level past legal caller thread place op (doing.Call number how context strand thing) may =
    let call : Calling = record {
      word = how;
      context = context;
      strand = strand;
      thing = thing;
      caller = caller;
      thread = thread;
      place = place;
    } in
    entry_after_call (is_posting how) (number == op) op call (call_of past op) (done_of past op) refl
    (λ same. let e : number ≡ op = eqb-true number op same in
    let none : call_of past op ≡ None = uncalled_by (call_of past op) (λ called. let less : op < number =
    may.is_new op called in absurd (omega arith)) in
    (none, undone_uncalled (done_of past op) (call_of past op) (done_known level past legal op) none))
    ∙ ap (λ (b : Bool). entered_now b thread place (entry_of past op)) (sym (enters_call (is_posting how) number op))
entry_after level past legal caller thread place op (doing.Done number what size) may =
    ⊎_elim
    (λ (e : (number == op) ≡ true). let same : number ≡ op = eqb-true number op e in
    let called : IsSome (call_of past op) = subst (λ (n : ℕ). IsSome (call_of past n)) same may.waiting.called in
    let posted : option_map is_posting (option_map (λ (call : Calling). call.word) (call_of past op)) ≡ Some true → ⊥ =
    subst (λ (n : ℕ). option_map is_posting (option_map (λ (call : Calling). call.word) (call_of past n)) ≡ Some true
    → ⊥) same may.asynchronous in
    rw e (not_posting (call_of past op) called posted (record { code = what; size = size; thread = thread; place = place })))
    (λ (e : (number == op) ≡ false). rw e refl) (cases_Bool (number == op))
entry_after level past legal caller thread place op _ may = refl

-- the entry of an operation behind a line that may come
pub entry_of-next : (level : Level) (past : List Line) (line : Line) → IsLegalSoFar level (line ∷ past) → (op : ℕ)
    → entry_of (line ∷ past) op ≡ entered_now (enters line.does op) line.thread (length past) (entry_of past op)
entry_of-next level past line legal op = entry_after level past legal.0 (frame past line.thread) line.thread (length past) op
    line.does legal.1.rules

-- what a line submits had no entry
enters_fresh : (level : Level) (past : List Line) → IsLegalSoFar level past → (thread op : ℕ) (does : Doing)
    → MayDo level past thread does → enters does op ≡ true → entry_of past op ≡ None
enters_fresh level past legal thread op (doing.Call number how context strand thing) may is =
    let same : number ≡ op = by_word (is_posting how) is in
    let none : call_of past op ≡ None = uncalled_by (call_of past op) (λ called. let less : op < number =
    may.is_new op called in absurd (omega arith)) in
    ap (λ (o : Option Calling). entry_from o (done_of past op)) none
  where
    by_word : (p : Bool) → option_eq nat_eq (if p then Some number else None) (Some op) ≡ true → number ≡ op
    by_word true e = eqb-true number op e
    by_word false e = cc
enters_fresh level past legal thread op (doing.Done number what size) may is =
    let same : number ≡ op = eqb-true number op is in
    let none : done_of past op ≡ None = subst (λ (n : ℕ). done_of past n ≡ None) same may.done_once in
    let posted : option_map is_posting (option_map (λ (call : Calling). call.word) (call_of past op)) ≡ Some true → ⊥ =
    subst (λ (n : ℕ). option_map is_posting (option_map (λ (call : Calling). call.word) (call_of past n)) ≡ Some true
    → ⊥) same may.asynchronous in
    ap (λ (c : Option Completion). entry_from (call_of past op) c) none ∙ no_entry (call_of past op) posted
  where
    no_entry : (found : Option Calling) → (option_map is_posting (option_map (λ (call : Calling). call.word) found) ≡ Some true
        → ⊥) → entry_from found None ≡ None
    no_entry None not = refl
    no_entry (Some call) not = by_posting (is_posting call.word) refl
      where
        by_posting : (p : Bool) → is_posting call.word ≡ p → entry_by (is_posting call.word) call None ≡ None
        by_posting true e = absurd (not (ap (λ (b : Bool). Some b) e))
        by_posting false e = ap (λ (b : Bool). entry_by b call None) e
enters_fresh level past legal thread op _ may is = cc

-- nothing is placed before it has an entry
unplaced_by : (b : Bool) (thread place : ℕ) (before : Option Entry) → entered_now b thread place before ≡ None → before ≡ None
unplaced_by true thread place before is = cc
unplaced_by false thread place before is = is

pub unplaced : (level : Level) (past : List Line) → IsLegalSoFar level past → (op : ℕ) → entry_of past op ≡ None
    → placed_at past op ≡ None
unplaced level [] legal op none = refl
unplaced level (line ∷ past) legal op none =
    let before : entry_of past op ≡ None = unplaced_by (enters line.does op) line.thread (length past) (entry_of past op)
    (sym (entry_of-next level past line legal op) ∙ none) in
    ap (λ (o : Option ℕ). option_or o (placed_by (entry_of past op) line.thread (length past)))
    (unplaced level past legal.0 op before)
    ∙ ap (λ (e : Option Entry). placed_by e line.thread (length past)) before

-- what was submitted by the last line of its thread isn't placed, and nothing else with an entry by that thread
pub record IsOpen (past : List Line) (thread op : ℕ) : Type 0 where
  pub entry : Entry
  pub entered : entry_of past op ≡ Some entry
  pub by : entry.thread ≡ thread
  pub open_still : placed_at past op ≡ None

number_of : (o : Option ℕ) (op : ℕ) → o ≡ Some op → option_eq nat_eq o (Some op) ≡ true
number_of None op is = cc
number_of (Some n) op is = eq-eqb n op (some_number n op is)
  where
    some_number : (a b : ℕ) → Some a ≡ Some b → a ≡ b
    some_number a b e = cc

of_number : (o : Option ℕ) (op : ℕ) → option_eq nat_eq o (Some op) ≡ true → o ≡ Some op
of_number None op is = cc
of_number (Some n) op is = ap (λ (k : ℕ). Some k) (eqb-true n op is)

none_entry : (e : Entry) → None ≡ Some e → ⊥
none_entry e is = cc

some_entry : (a b : Entry) → Some a ≡ Some b → a ≡ b
some_entry a b is = cc

pub last_open : (level : Level) (past : List Line) → IsLegalSoFar level past → (thread op : ℕ)
    → entered_last past thread ≡ Some op → IsOpen past thread op
last_open level [] legal thread op is = cc
last_open level (line ∷ past) legal thread op is =
    cond_both (line.thread == thread) (entered_by line.does) (entered_last past thread) (λ (o : Option ℕ). o ≡ Some op
    → IsOpen (line ∷ past) thread op)
    (λ here entered. let enters_it : enters line.does op ≡ true = number_of (entered_by line.does) op entered in
    let none : entry_of past op ≡ None = enters_fresh level past legal.0 line.thread op line.does legal.1.rules enters_it in
    record {
      entry = record { thread = line.thread; place = length past };
      entered = entry_of-next level past line legal op ∙ rw enters_it refl;
      by = eqb-true line.thread thread here;
      open_still = ap (λ (o : Option ℕ). option_or o (placed_by (entry_of past op) line.thread (length past)))
          (unplaced level past legal.0 op none) ∙ ap (λ (e : Option Entry). placed_by e line.thread (length past)) none;
    })
    (λ elsewhere before. let was : IsOpen past thread op = last_open level past legal.0 thread op before in
    let others : enters line.does op ≡ false = not_true (enters line.does op)
    (λ now_enters. none_entry was.entry (sym (enters_fresh level past legal.0 line.thread op line.does legal.1.rules now_enters)
    ∙ was.entered)) in
    let apart : (was.entry.thread == line.thread) ≡ false =
    ne_eqb was.entry.thread line.thread (λ e. both_ways (line.thread == thread) elsewhere (eq-eqb line.thread thread (sym e
    ∙ was.by))) in
    record {
      entry = was.entry;
      entered = entry_of-next level past line legal op ∙ (rw others was.entered);
      by = was.by;
      open_still = ap (λ (o : Option ℕ). option_or o (placed_by (entry_of past op) line.thread (length past))) was.open_still
          ∙ ap (λ (e : Option Entry). placed_by e line.thread (length past)) was.entered ∙ rw apart refl;
    })
    is
  where
    not_true : (b : Bool) → (b ≡ true → ⊥) → b ≡ false
    not_true true n = absurd (n refl)
    not_true false n = refl

-- and the other way round
none_placed : (o : Option ℕ) (e : Option ℕ) → option_or o e ≡ None → (o ≡ None) × (e ≡ None)
none_placed None e is = (refl, is)
none_placed (Some n) e is = cc

not_here : (entry : Entry) (thread place : ℕ) → placed_by (Some entry) thread place ≡ None → (entry.thread == thread) ≡ false
not_here entry thread place is = by_test (entry.thread == thread) is
  where
    by_test : (b : Bool) → (if b then Some place else None) ≡ None → b ≡ false
    by_test true e = cc
    by_test false e = refl

pub open_last : (level : Level) (past : List Line) → IsLegalSoFar level past → (op : ℕ) (entry : Entry)
    → entry_of past op ≡ Some entry → placed_at past op ≡ None → entered_last past entry.thread ≡ Some op
open_last level [] legal op entry has unplaced_yet = cc
open_last level (line ∷ past) legal op entry has unplaced_yet =
    let parts = none_placed (placed_at past op) (placed_by (entry_of past op) line.thread (length past)) unplaced_yet in
    cond_both (enters line.does op) (Some (record { thread = line.thread; place = length past })) (entry_of past op)
    (λ (o : Option Entry). o ≡ Some entry → entered_last (line ∷ past) entry.thread ≡ Some op)
    (λ now_enters is. let same : line.thread ≡ entry.thread =
    ap (λ (e : Entry). e.thread) (some_entry (record { thread = line.thread; place = length past }) entry is) in
    let here : (line.thread == entry.thread) ≡ true = eq-eqb line.thread entry.thread same in
    rw here (of_number (entered_by line.does) op now_enters))
    (λ others is. let away : (entry.thread == line.thread) ≡ false =
    not_here entry line.thread (length past) (sym (ap (λ (e : Option Entry). placed_by e line.thread (length past)) is)
    ∙ parts.1) in
    let apart : (line.thread == entry.thread) ≡ false =
    ne_eqb line.thread entry.thread (λ e. both_ways (entry.thread == line.thread) away
    (eq-eqb entry.thread line.thread (sym e))) in
    rw apart (open_last level past legal.0 op entry is parts.0))
    (sym (entry_of-next level past line legal op) ∙ has)

-- where an operation is placed behind a line
pub placed_at-next : (level : Level) (past : List Line) (line : Line) → IsLegalSoFar level past → (op : ℕ)
    → placed_at (line ∷ past) op ≡ (if option_eq nat_eq (entered_last past line.thread) (Some op) then Some (length past) else
    placed_at past op)
placed_at-next level past line legal op =
    ⊎_elim
    (λ (is : option_eq nat_eq (entered_last past line.thread) (Some op) ≡ true). let was : IsOpen past line.thread op =
    last_open level past legal line.thread op (of_number (entered_last past line.thread) op is) in
    let here : (was.entry.thread == line.thread) ≡ true = eq-eqb was.entry.thread line.thread was.by in
    let placed_now : placed_at (line ∷ past) op ≡ Some (length past) =
    ap (λ (o : Option ℕ). option_or o (placed_by (entry_of past op) line.thread (length past))) was.open_still
    ∙ ap (λ (e : Option Entry). placed_by e line.thread (length past)) was.entered ∙ rw here refl in
    placed_now ∙ rw is refl)
    (λ (is : option_eq nat_eq (entered_last past line.thread) (Some op) ≡ false). let kept : placed_at (line ∷ past) op
    ≡ placed_at past op = by_place (placed_at past op) (entry_of past op) refl refl is in kept ∙ rw is refl)
    (cases_Bool (option_eq nat_eq (entered_last past line.thread) (Some op)))
  where
    by_place : (o : Option ℕ) (e : Option Entry) → placed_at past op ≡ o → entry_of past op ≡ e
        → option_eq nat_eq (entered_last past line.thread) (Some op) ≡ false
        → option_or o (placed_by e line.thread (length past)) ≡ o
    by_place (Some place) e at has is = refl
    by_place None None at has is = refl
    by_place None (Some entry) at has is =
        ⊎_elim
        (λ (here : (entry.thread == line.thread) ≡ true). absurd
        (both_ways (option_eq nat_eq (entered_last past line.thread) (Some op)) is
        (number_of (entered_last past line.thread) op (subst (λ (t : ℕ). entered_last past t
        ≡ Some op) (eqb-true entry.thread line.thread here) (open_last level past legal op entry has at)))))
        (λ (away : (entry.thread == line.thread) ≡ false). rw away refl)
        (cases_Bool (entry.thread == line.thread))

-- places are those of lines
below_by : (o : Option ℕ) (e : Option Entry) (thread here place : ℕ) → option_or o (placed_by e thread here) ≡ Some place
    → (o ≡ Some place → place < here) → place < suc here
below_by (Some at) e thread here place is earlier = let less : place < here = earlier is in omega arith
below_by None None thread here place is earlier = cc
below_by None (Some entry) thread here place is earlier = by_test (entry.thread == thread) is
  where
    some_number : (a b : ℕ) → Some a ≡ Some b → a ≡ b
    some_number a b e = cc

    by_test : (b : Bool) → (if b then Some here else None) ≡ Some place → place < suc here
    by_test true e = let same : here ≡ place = some_number here place e in omega arith
    by_test false e = cc

pub placed_below : (past : List Line) (op place : ℕ) → placed_at past op ≡ Some place → place < length past
placed_below [] op place is = cc
placed_below (line ∷ past) op place is = below_by (placed_at past op) (entry_of past op) line.thread (length past) place is
    (placed_below past op place)
