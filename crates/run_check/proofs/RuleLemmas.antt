-- What the checker keeps says which rule a line keeps.
use Rattle.std.proofs.Common.{◌≡◌, ◌≢◌, ℕ, ◌<◌, ◌≤◌, List, [], ◌∷◌, length, refl, ap, subst, sym, ◌∙◌, inl, inr, ⊎_elim, arith}
use Rattle.std.proofs.lemmas.Bool.{or_parts, eqb-true, eq-eqb, ne_eqb, cases_eq, cases_Bool}
use Rattle.std.specs.Prelude.{Bool, true, false, ◌==◌, ◌⊎◌, if◌then◌else◌, Option, Some, None, IsSome, IfSome, IsSomeAnd, nat_eq}
use Rattle.std.specs.Option.{option_eq, option_map, option_or, option_and_then}
use Rattle.run_lines.specs.declared.code.Code.{Code}
use Rattle.run_lines.specs.declared.code.Code.TheVariants as code
use Rattle.run_lines.specs.declared.line.Doing.{Doing}
use Rattle.run_lines.specs.declared.line.Doing.TheVariants as doing
use Rattle.run_lines.specs.declared.line.Line.{Line}
use Rattle.run_lines.specs.declared.word.Word.{Word}
use Rattle.run_lines.specs.declared.word.Word.TheVariants as word
use Rattle.run_rules.specs.declared.frame.Frame.{Frame}
use Rattle.run_rules.specs.declared.frame.Frame.TheVariants.{Execution}
use Rattle.run_rules.specs.declared.level.Level.{Level}
use Rattle.run_rules.specs.Stacks.{stack, frame, frame_of}
use Rattle.run_rules.specs.Calls.{Calling, Completion, Waits, IsPosting, call_in, call_of, done_in, done_of, is_begun, is_dropped, is_posting, strand_of}
use Rattle.run_rules.specs.Entries.{Entry, entry_by, entry_from, entry_of, placed_at}
use Rattle.run_rules.specs.Starting.{GoesBefore, HasOutcome, Holds, IsFirst, IsFree, IsInside}
use Rattle.run_rules.specs.MayCome.{IsNew, MayCall, MayDo, last_call}
use Rattle.run_rules.specs.Legal.{IsLegalSoFar}
use Rattle.run_rules.proofs.CallsLemmas.{called-next}
use Rattle.run_check.specs.After.{IsAfter, called_last, first_of, is_dead, is_spent, kind_of, loose, plain, spot_from, spot_of, waiter_from, waiter_of}
use Rattle.run_check.specs.Called.{called_by}
use Rattle.run_check.specs.Beginning.{BeginsInside, FitsOutcome, MayHaveOutcome, SomeGoesBefore}
use Rattle.run_check.specs.LastCalls.{last_call_of}
use Rattle.run_check.specs.Queues.{spot_at}
use Rattle.run_check.specs.Stacks.{frame_at, innermost_of}
use Rattle.run_check.specs.Strands.{holder_of}
use Rattle.run_check.specs.declared.checker.Checker.{Checker}
use Rattle.run_check.specs.declared.waiting.CallKind.{CallKind}
use Rattle.run_check.specs.declared.waiting.CallKind.TheVariants as kind
use Rattle.run_check.specs.declared.waiting.Outcome.{Outcome}
use Rattle.run_check.specs.declared.waiting.Waiter.{Waiter}
use Rattle.run_check.proofs.StackLemmas.{frame_alive}

-- numbers of operations rise

most_after : (level : Level) (past : List Line) (caller : Frame) (thread place op : ℕ) (does : Doing)
    → MayDo level past thread does → IsSome (option_or (call_in caller thread place does op) (call_of past op))
    → (IsSome (call_of past op) → IsSomeAnd (called_last past) (λ last. op ≤ last))
    → IsSomeAnd (option_or (called_by does) (called_last past)) (λ last. op ≤ last)
most_after level past caller thread place op (doing.Call number how context strand thing) may called earlier =
    ⊎_elim (λ (e : number ≡ op). omega arith)
    (λ ne. let test : (number == op) ≡ false = ne_eqb number op ne in
    let before : IsSome (call_of past op) = dropped_none (number == op) (record {
      word = how;
      context = context;
      strand = strand;
      thing =
          thing;
      caller = caller;
      thread = thread;
      place = place;
    }) (call_of past op) test called in
    let less : op < number = may.is_new op before in omega arith)
    (cases_eq number op)
  where
    dropped_none : (b : Bool) (call : Calling) (o : Option Calling) → b ≡ false
        → IsSome (option_or (if b then Some call else None) o) → IsSome o
    dropped_none true call o e is = cc
    dropped_none false call o e is = is
most_after level past caller thread place op _ may called earlier = earlier called

called_most : (level : Level) (past : List Line) → IsLegalSoFar level past → (op : ℕ) → IsSome (call_of past op)
    → IsSomeAnd (called_last past) (λ last. op ≤ last)
called_most level [] legal op called = cc
called_most level (line ∷ past) legal op called =
    most_after level past (frame past line.thread) line.thread (length past) op line.does legal.1.rules called
    (called_most level past legal.0 op)

called_after : (past : List Line) (caller : Frame) (thread place op : ℕ) (does : Doing)
    → option_or (called_by does) (called_last past) ≡ Some op → (called_last past ≡ Some op → IsSome (call_of past op))
    → IsSome (option_or (call_in caller thread place does op) (call_of past op))
called_after past caller thread place op (doing.Call number how context strand thing) is earlier =
    let same : number ≡ op = some_number number op is in let test : (number == op) ≡ true = eq-eqb number op same in rw test refl
  where
    some_number : (a b : ℕ) → Some a ≡ Some b → a ≡ b
    some_number a b e = cc
called_after past caller thread place op _ is earlier = earlier is

called_is : (past : List Line) (op : ℕ) → called_last past ≡ Some op → IsSome (call_of past op)
called_is [] op is = cc
called_is (line ∷ past) op is = called_after past (frame past line.thread) line.thread (length past) op line.does is
    (called_is past op)

pub new_above : (past : List Line) (op last : ℕ) → IsLegalSoFar loose past → called_last past ≡ Some last → last < op
    → IsNew past op
new_above past op last legal is less earlier called =
    let most : earlier ≤ last = subst (λ (o : Option ℕ). IsSomeAnd o (λ n. earlier ≤ n)) is
    (called_most loose past legal earlier called) in omega arith

pub new_first : (past : List Line) (op : ℕ) → IsLegalSoFar loose past → called_last past ≡ None → IsNew past op
new_first past op legal is earlier called = absurd
    (subst (λ (o : Option ℕ). IsSomeAnd o (λ n. earlier ≤ n)) is (called_most loose past legal earlier called))

pub new_not : (past : List Line) (op last : ℕ) → called_last past ≡ Some last → op ≤ last → IsNew past op → ⊥
new_not past op last is le new = let less : last < op = new last (called_is past last is) in absurd (omega arith)

pub may_call_new : (past : List Line) (op : ℕ) (how : Word) (thing : Option ℕ) → IsNew past op → MayCall loose past op how thing
may_call_new past op how thing new = record { is_new = new; single = λ stream other level. cc }

-- who writes, and which call it made last

frame_at_first : (ops : List ℕ) (thread : ℕ) → frame_at (first_of ops) thread ≡ frame_of ops thread
frame_at_first [] thread = refl
frame_at_first (op ∷ ops) thread = refl

pub kept_frame : (past : List Line) (checker : Checker) → IsAfter past checker → (thread : ℕ)
    → frame_at (innermost_of checker.stacks thread) thread ≡ frame past thread
kept_frame past checker after thread = ap (λ (o : Option ℕ). frame_at o thread) (after.innermost thread)
    ∙ frame_at_first (stack past thread) thread

pub kept_last : (past : List Line) (checker : Checker) → IsAfter past checker → (thread : ℕ) (who : Frame)
    → who ≡ frame_at (innermost_of checker.stacks thread) thread
    → last_call_of checker.last_calls who ≡ last_call past (frame past thread)
kept_last past checker after thread who is =
    let same : who ≡ frame past thread = is ∙ kept_frame past checker after thread in
    let alive : is_dead past (frame past thread) ≡ false = frame_alive loose past after.legal thread in
    ap (last_call_of checker.last_calls) same ∙ after.last_calls (frame past thread) ∙ rw alive refl

-- what waits

pub record Says (past : List Line) (op : ℕ) (waiter : Waiter) : Type 0 where
  pub call : Calling
  pub called : call_of past op ≡ Some call
  pub unspent : is_spent past op ≡ false
  pub is : waiter_from (done_of past op) call ≡ waiter

says_by : (past : List Line) (op : ℕ) (waiter : Waiter) (spent : Bool) (found : Option Calling) → is_spent past op ≡ spent
    → call_of past op ≡ found
    → (if spent then None else option_map (waiter_from (done_of past op)) found) ≡ Some waiter → Says past op waiter
says_by past op waiter true found s f is = absurd (none_some waiter is)
  where
    none_some : (w : Waiter) → None ≡ Some w → ⊥
    none_some w e = cc
says_by past op waiter false None s f is = absurd (none_some waiter is)
  where
    none_some : (w : Waiter) → None ≡ Some w → ⊥
    none_some w e = cc
says_by past op waiter false (Some call) s f is = record {
  call = call;
  called = f;
  unspent = s;
  is =
      some_waiter (waiter_from (done_of past op) call) waiter is;
}
  where
    some_waiter : (a b : Waiter) → Some a ≡ Some b → a ≡ b
    some_waiter a b e = cc

pub waiter_says : (past : List Line) (op : ℕ) (waiter : Waiter) → waiter_of past op ≡ Some waiter → Says past op waiter
waiter_says past op waiter is = says_by past op waiter (is_spent past op) (call_of past op) refl refl is

pub says_waits : (past : List Line) (op : ℕ) (waiter : Waiter) → Says past op waiter → Waits past op
says_waits past op waiter says =
    let parts = or_parts (is_begun past op) (is_dropped past op) says.unspent in
    record {
      called = subst (λ (o : Option Calling). IsSome o) (sym says.called) refl;
      not_begun = parts.0;
      not_dropped =
          parts.1;
    }

none_by : (spent : Bool) (found : Option Calling) (completion : Option Completion) → spent ≡ false → IsSome found
    → (if spent then None else option_map (waiter_from completion) found) ≡ None → ⊥
none_by true found completion s f is = cc
none_by false None completion s f is = cc
none_by false (Some call) completion s f is = cc

pub waits_not : (past : List Line) (op : ℕ) → waiter_of past op ≡ None → Waits past op → ⊥
waits_not past op is waits =
    let unspent : is_spent past op ≡ false = rw (waits.not_begun, waits.not_dropped) refl in
    none_by (is_spent past op) (call_of past op) (done_of past op) unspent waits.called is

-- how it was called

posting_of_kind : (how : Word) → (kind_of how ≡ kind.Asynchronous → ⊥) → is_posting how ≡ true
posting_of_kind word.Post not = refl
posting_of_kind word.Defer not = refl
posting_of_kind word.Dispatch not = refl
posting_of_kind (word.Other letters) not = absurd (not refl)

no_posting_of_kind : (how : Word) → kind_of how ≡ kind.Asynchronous → is_posting how ≡ false
no_posting_of_kind word.Post is = cc
no_posting_of_kind word.Defer is = cc
no_posting_of_kind word.Dispatch is = cc
no_posting_of_kind (word.Other letters) is = refl

dispatch_of_kind : (how : Word) → kind_of how ≡ kind.Dispatch → how ≡ word.Dispatch
dispatch_of_kind word.Post is = cc
dispatch_of_kind word.Defer is = cc
dispatch_of_kind word.Dispatch is = refl
dispatch_of_kind (word.Other letters) is = cc

pub says_posting : (past : List Line) (op : ℕ) (waiter : Waiter) → Says past op waiter → (waiter.kind ≡ kind.Asynchronous → ⊥)
    → IsPosting past op
says_posting past op waiter says not =
    let how : is_posting says.call.word ≡ true = posting_of_kind says.call.word
    (λ e. not (ap (λ (w : Waiter). w.kind) (sym says.is) ∙ e)) in
    ap (λ (o : Option Calling). option_map is_posting (option_map (λ (call : Calling). call.word) o)) says.called
    ∙ ap (λ (b : Bool). Some b) how

pub says_no_posting : (past : List Line) (op : ℕ) (waiter : Waiter) → Says past op waiter → waiter.kind ≡ kind.Asynchronous
    → IsPosting past op → ⊥
says_no_posting past op waiter says is posting =
    let how : is_posting says.call.word ≡ false = no_posting_of_kind says.call.word (ap (λ (w : Waiter). w.kind) says.is ∙ is) in
    some_false (sym (ap (λ (o : Option Calling). option_map is_posting (option_map (λ (call : Calling). call.word) o))
    says.called ∙ ap (λ (b : Bool). Some b) how) ∙ posting)
  where
    some_false : Some false ≡ Some true → ⊥
    some_false e = cc

done_by : (found : Option Completion) (outcome : Option Outcome)
    → option_map (λ (c : Completion). record { code = c.code; size = c.size }) found ≡ outcome → outcome ≡ None → found ≡ None
done_by None outcome e is = refl
done_by (Some completion) outcome e is = cc

pub says_undone : (past : List Line) (op : ℕ) (waiter : Waiter) → Says past op waiter → waiter.outcome ≡ None
    → done_of past op ≡ None
says_undone past op waiter says is = done_by (done_of past op) waiter.outcome (ap (λ (w : Waiter). w.outcome) says.is) is

not_done_by : (found : Option Completion) (outcome : Option Outcome) (one : Outcome)
    → option_map (λ (c : Completion). record { code = c.code; size = c.size }) found ≡ outcome → outcome ≡ Some one
    → found ≡ None → ⊥
not_done_by None outcome one e is none = cc
not_done_by (Some completion) outcome one e is none = cc

pub says_done : (past : List Line) (op : ℕ) (waiter : Waiter) (one : Outcome) → Says past op waiter → waiter.outcome ≡ Some one
    → done_of past op ≡ None → ⊥
says_done past op waiter one says is none = not_done_by (done_of past op) waiter.outcome one
    (ap (λ (w : Waiter). w.outcome) says.is) is none

-- a posting is never done

undone_after : (level : Level) (past : List Line) (caller : Frame) (thread place op : ℕ) (does : Doing)
    → IsLegalSoFar level past → MayDo level past thread does
    → (IsPosting past op → done_of past op ≡ None) → (done_of past op ≡ None ⊎ IsSome (call_of past op))
    → option_map is_posting (option_map (λ (call : Calling). call.word)
    (option_or (call_in caller thread place does op) (call_of past op))) ≡ Some true
    → option_or (done_in thread place does op) (done_of past op) ≡ None
undone_after level past caller thread place op (doing.Call number how context strand thing) legal may earlier known posting =
    ⊎_elim
    (λ (e : (number == op) ≡ true). ⊎_elim (λ none. none)
    (λ called. let less : op < number = may.is_new op called in let same : number ≡ op = eqb-true number op e in
    absurd (omega arith)) known)
    (λ (e : (number == op) ≡ false). earlier (subst (λ (b : Bool). option_map is_posting
    (option_map (λ (call : Calling). call.word)
    (option_or (if b then Some (record {
      word = how;
      context = context;
      strand = strand;
      thing = thing;
      caller = caller;
      thread = thread;
      place =
          place;
    }) else None) (call_of past op))) ≡ Some true) e posting))
    (cases_Bool (number == op))
undone_after level past caller thread place op (doing.Done number what size) legal may earlier known posting =
    ⊎_elim
    (λ (e : (number == op) ≡ true). absurd (may.asynchronous
    (subst (λ (n : ℕ). IsPosting past n) (sym (eqb-true number op e)) posting)))
    (λ (e : (number == op) ≡ false). rw e (earlier posting))
    (cases_Bool (number == op))
undone_after level past caller thread place op _ legal may earlier known posting = earlier posting

-- what was done was called: a completion comes of an operation that waits

completed_waits : (level : Level) (past : List Line) (thread place op : ℕ) (by : ℕ) (does : Doing) → MayDo level past by does
    → IsSome (done_in thread place does op) → Waits past op
completed_waits level past thread place op by (doing.Done number what size) may is =
    ⊎_elim (λ (e : (number == op) ≡ true). subst (λ (n : ℕ). Waits past n) (eqb-true number op e) may.waiting)
    (λ (e : (number == op) ≡ false). absurd (no_some (number == op) (record {
      code = what;
      size = size;
      thread =
          thread;
      place = place;
    }) e is))
    (cases_Bool (number == op))
  where
    no_some : (b : Bool) (c : Completion) → b ≡ false → IsSome (if b then Some c else None) → ⊥
    no_some true c e is = cc
    no_some false c e is = cc
completed_waits level past thread place op by _ may is = cc

pub done_known : (level : Level) (past : List Line) → IsLegalSoFar level past → (op : ℕ)
    → (done_of past op ≡ None) ⊎ IsSome (call_of past op)
done_known level [] legal op = inl refl
done_known level (line ∷ past) legal op =
    known_by (done_in line.thread (length past) line.does op) (done_of past op)
    (λ is. called-next level past line op legal.1.rules (completed_waits level past line.thread (length past) op line.thread
    line.does legal.1.rules is).called)
    (⊎_elim (λ none. inl none) (λ called. inr (called-next level past line op legal.1.rules called)) (done_known level past legal.0 op))
  where
    known_by : (now_done before : Option Completion) → (IsSome now_done → IsSome (call_of (line ∷ past) op))
        → (before ≡ None) ⊎ IsSome (call_of (line ∷ past) op)
        → (option_or now_done before ≡ None) ⊎ IsSome (call_of (line ∷ past) op)
    known_by None before first earlier = earlier
    known_by (Some c) before first earlier = inr (first refl)

pub posting_undone : (level : Level) (past : List Line) → IsLegalSoFar level past → (op : ℕ) → IsPosting past op
    → done_of past op ≡ None
posting_undone level [] legal op posting = refl
posting_undone level (line ∷ past) legal op posting =
    undone_after level past (frame past line.thread) line.thread (length past) op line.does legal.0 legal.1.rules
    (posting_undone level past legal.0 op) (done_known level past legal.0 op) posting

-- the outcome

fits_by : (past : List Line) (op : ℕ) (how : CallKind) (found : Option Completion) (what : Code) (size : ℕ)
    → (how ≡ kind.Asynchronous → IsPosting past op → ⊥) → (IsPosting past op → found ≡ None)
    → FitsOutcome how (option_map (λ (c : Completion). record { code = c.code; size = c.size }) found) what size
    → (IsPosting past op → (what ≡ code.Ok) × (size ≡ 0))
    × IfSome found (λ (done : Completion). (what ≡ done.code) × (size ≡ done.size))
fits_by past op how (Some completion) what size not undone fits =
    (λ posting. absurd (some_none completion (undone posting)), (sym fits.0, sym fits.1))
  where
    some_none : (c : Completion) → Some c ≡ None → ⊥
    some_none c e = cc
fits_by past op kind.Asynchronous None what size not undone fits = (λ posting. absurd (not refl posting), tt)
fits_by past op kind.Posting None what size not undone fits = (λ posting. fits, tt)
fits_by past op kind.Dispatch None what size not undone fits = (λ posting. fits, tt)

pub outcome_fits : (past : List Line) (op : ℕ) (waiter : Waiter) (what : Code) (size : ℕ) → IsLegalSoFar loose past
    → Says past op waiter → MayHaveOutcome waiter what size → HasOutcome past op what size
outcome_fits past op waiter what size legal says fits =
    let kinds : kind_of says.call.word ≡ waiter.kind = ap (λ (w : Waiter). w.kind) says.is in
    let own : MayHaveOutcome (waiter_from (done_of past op) says.call) what size =
    subst (λ (w : Waiter). MayHaveOutcome w what size) (sym says.is) fits in
    let parts = fits_by past op (kind_of says.call.word) (done_of past op) what size
    (λ is. says_no_posting past op waiter says (sym kinds ∙ is)) (posting_undone loose past legal op) own in
    record { posted = parts.0; done = parts.1 }

refits_by : (past : List Line) (op : ℕ) (how : CallKind) (found : Option Completion) (what : Code) (size : ℕ)
    → ((how ≡ kind.Asynchronous → ⊥) → IsPosting past op)
    → (IsPosting past op → (what ≡ code.Ok) × (size ≡ 0))
    → IfSome found (λ (done : Completion). (what ≡ done.code) × (size ≡ done.size))
    → FitsOutcome how (option_map (λ (c : Completion). record { code = c.code; size = c.size }) found) what size
refits_by past op how (Some completion) what size posting posted done = (sym done.0, sym done.1)
refits_by past op kind.Asynchronous None what size posting posted done = tt
refits_by past op kind.Posting None what size posting posted done = posted (posting (λ e. cc))
refits_by past op kind.Dispatch None what size posting posted done = posted (posting (λ e. cc))

pub outcome_refits : (past : List Line) (op : ℕ) (waiter : Waiter) (what : Code) (size : ℕ) → Says past op waiter
    → HasOutcome past op what size → MayHaveOutcome waiter what size
outcome_refits past op waiter what size says has =
    let kinds : kind_of says.call.word ≡ waiter.kind = ap (λ (w : Waiter). w.kind) says.is in
    let own : MayHaveOutcome (waiter_from (done_of past op) says.call) what size =
    refits_by past op (kind_of says.call.word) (done_of past op) what size
    (λ not. says_posting past op waiter says (λ is. not (kinds ∙ is))) has.posted has.done in
    subst (λ (w : Waiter). MayHaveOutcome w what size) says.is own

-- its strand

pub says_strand : (past : List Line) (op : ℕ) (waiter : Waiter) → Says past op waiter → strand_of past op ≡ waiter.strand
says_strand past op waiter says = ap (λ (o : Option Calling). option_and_then (λ (call : Calling). call.strand) o) says.called
    ∙ ap (λ (w : Waiter). w.strand) says.is

pub no_number : (n : ℕ) → None ≡ Some n → ⊥
no_number n e = cc

pub some_number : (a b : ℕ) → Some a ≡ Some b → a ≡ b
some_number a b e = cc

pub no_strand_free : (past : List Line) (thread op : ℕ) → strand_of past op ≡ None → IsFree past thread op
no_strand_free past thread op none strand holder on holds = absurd (no_number strand (sym none ∙ on))

pub no_strand_first : (past : List Line) (op : ℕ) → strand_of past op ≡ None → IsFirst plain past op
no_strand_first past op none strand first level on idle before = no_number strand (sym none ∙ on)

held_by : (o : Option ℕ) (thread : ℕ) → option_eq nat_eq o (Some thread) ≡ true → o ≡ Some thread
held_by None thread is = cc
held_by (Some holder) thread is = ap (λ (n : ℕ). Some n) (eqb-true holder thread is)

-- who holds a strand is who is kept as its holder
pub holder_is : (past : List Line) (checker : Checker) → IsAfter past checker → (thread strand : ℕ) → Holds past thread strand
    → holder_of checker.strands strand ≡ Some thread
holder_is past checker after thread strand holds =
    held_by (holder_of checker.strands strand) thread (sym (after.held thread strand) ∙ holds)

pub holder_holds : (past : List Line) (checker : Checker) → IsAfter past checker → (thread strand : ℕ)
    → holder_of checker.strands strand ≡ Some thread → Holds past thread strand
holder_holds past checker after thread strand is =
    after.held thread strand ∙ ap (λ (o : Option ℕ). option_eq nat_eq o (Some thread)) is ∙ eq-eqb thread thread refl

pub idle_free : (past : List Line) (checker : Checker) → IsAfter past checker → (thread op strand : ℕ)
    → strand_of past op ≡ Some strand → holder_of checker.strands strand ≡ None → IsFree past thread op
idle_free past checker after thread op strand mine none other holder on holds =
    let same : strand ≡ other = some_number strand other (sym mine ∙ on) in
    absurd (no_number holder (sym (ap (holder_of checker.strands) (sym same) ∙ none)
    ∙ holder_is past checker after holder other holds))

pub inside_free : (past : List Line) (checker : Checker) → IsAfter past checker → (thread op strand : ℕ)
    → strand_of past op ≡ Some strand → holder_of checker.strands strand ≡ Some thread → IsInside past thread op
    → IsFree past thread op
inside_free past checker after thread op strand mine held inside other holder on holds =
    let same : strand ≡ other = some_number strand other (sym mine ∙ on) in (
      some_number holder thread (sym (holder_is past checker after holder other holds)
          ∙ ap (holder_of checker.strands) (sym same) ∙ held),
      inside,
    )

pub held_first : (past : List Line) (checker : Checker) → IsAfter past checker → (thread op strand : ℕ)
    → strand_of past op ≡ Some strand → holder_of checker.strands strand ≡ Some thread → IsFirst plain past op
held_first past checker after thread op strand mine held other first level on idle before =
    let same : strand ≡ other = some_number strand other (sym mine ∙ on) in
    idle thread (subst (λ (s : ℕ). Holds past thread s) same (holder_holds past checker after thread strand held))

-- inside

inside_by : (ops : List ℕ) (thread : ℕ) (caller : Frame) → IsSomeAnd (first_of ops) (λ op. caller ≡ Execution op)
    → (ops ≢ []) × (caller ≡ frame_of ops thread)
inside_by [] thread caller is = absurd is
inside_by (op ∷ ops) thread caller is = (λ e. cc, is)

reinside_by : (ops : List ℕ) (thread : ℕ) (caller : Frame) → ops ≢ [] → caller ≡ frame_of ops thread
    → IsSomeAnd (first_of ops) (λ op. caller ≡ Execution op)
reinside_by [] thread caller some is = absurd (some refl)
reinside_by (op ∷ ops) thread caller some is = is

pub inside_says : (past : List Line) (checker : Checker) → IsAfter past checker → (thread op : ℕ) (waiter : Waiter)
    → Says past op waiter → BeginsInside checker.stacks thread waiter → IsInside past thread op
inside_says past checker after thread op waiter says begins =
    let how : says.call.word ≡ word.Dispatch = dispatch_of_kind says.call.word (ap (λ (w : Waiter). w.kind) says.is ∙ begins.0) in
    let caller : says.call.caller ≡ waiter.caller = ap (λ (w : Waiter). w.caller) says.is in
    let parts = inside_by (stack past thread) thread waiter.caller
    (subst (λ (o : Option ℕ). IsSomeAnd o (λ number. waiter.caller ≡ Execution number)) (after.innermost thread) begins.1) in
    record {
      dispatched = ap (λ (o : Option Calling). option_map (λ (call : Calling). call.word) o) says.called
          ∙ ap (λ (w : Word). Some w) how;
      executes = parts.0;
      here = ap (λ (o : Option Calling). option_map (λ (call : Calling). call.caller) o) says.called
          ∙ ap (λ (f : Frame). Some f) (caller ∙ parts.1);
    }

some_word : (a b : Word) → Some a ≡ Some b → a ≡ b
some_word a b e = cc

some_frame : (a b : Frame) → Some a ≡ Some b → a ≡ b
some_frame a b e = cc

pub says_inside : (past : List Line) (checker : Checker) → IsAfter past checker → (thread op : ℕ) (waiter : Waiter)
    → Says past op waiter → IsInside past thread op → BeginsInside checker.stacks thread waiter
says_inside past checker after thread op waiter says inside =
    let how : says.call.word ≡ word.Dispatch = some_word says.call.word word.Dispatch
    (sym (ap (λ (o : Option Calling). option_map (λ (call : Calling). call.word) o) says.called) ∙ inside.dispatched) in
    let caller : says.call.caller ≡ frame past thread =
    some_frame says.call.caller (frame past thread) (sym
    (ap (λ (o : Option Calling). option_map (λ (call : Calling). call.caller) o) says.called) ∙ inside.here) in
    let own : waiter.caller ≡ frame past thread = sym (ap (λ (w : Waiter). w.caller) says.is) ∙ caller in (
      sym (ap (λ (w : Waiter). w.kind) says.is) ∙ ap kind_of how,
      subst (λ (o : Option ℕ). IsSomeAnd o (λ number. waiter.caller ≡ Execution number)) (sym (after.innermost thread))
          (reinside_by (stack past thread) thread waiter.caller inside.executes own),
    )

-- who goes before

spot_parts : (spent : Bool) (strand place : Option ℕ) (s p : ℕ) → spot_from spent strand place ≡ Some (s, p)
    → (spent ≡ false) × (strand ≡ Some s) × (place ≡ Some p)
spot_parts true strand place s p is = cc
spot_parts false None place s p is = cc
spot_parts false (Some strand) None s p is = cc
spot_parts false (Some strand) (Some place) s p is = let same : (strand, place) ≡ (s, p) = pairs (strand, place) (s, p) is in
    (refl, ap (λ (q : ℕ × ℕ). Some q.0) same, ap (λ (q : ℕ × ℕ). Some q.1) same)
  where
    pairs : (a b : ℕ × ℕ) → Some a ≡ Some b → a ≡ b
    pairs a b e = cc

strand_called : (found : Option Calling) (strand : ℕ) → option_and_then (λ (call : Calling). call.strand) found ≡ Some strand
    → IsSome found
strand_called None strand is = cc
strand_called (Some call) strand is = refl

says_entry_by : (posting : Bool) (call : Calling) (completion : Option Completion) (place : ℕ)
    → IsSomeAnd (option_map (λ (e : Entry). e.place) (entry_by posting call completion)) (λ e. place ≤ e)
    → IsSomeAnd (entry_by posting call completion) (λ (e : Entry). place ≤ e.place)
says_entry_by true call completion place le = le
says_entry_by false call None place le = le
says_entry_by false call (Some c) place le = le

entry_says_by : (posting : Bool) (call : Calling) (completion : Option Completion) (place : ℕ)
    → IsSomeAnd (entry_by posting call completion) (λ (e : Entry). place ≤ e.place)
    → IsSomeAnd (option_map (λ (e : Entry). e.place) (entry_by posting call completion)) (λ e. place ≤ e)
entry_says_by true call completion place le = le
entry_says_by false call None place le = le
entry_says_by false call (Some c) place le = le

-- what stands in the queue of the strand since the entry of an operation or longer goes before that one
pub spot_goes : (past : List Line) (op strand : ℕ) (waiter : Waiter) → Says past op waiter → (first place : ℕ)
    → spot_of past first ≡ Some (strand, place) → IsSomeAnd waiter.entry (λ e. place ≤ e)
    → GoesBefore past first op strand × (placed_at past first ≡ Some place)
spot_goes past op strand waiter says first place spot upto =
    let parts = spot_parts (is_spent past first) (strand_of past first) (placed_at past first) strand place spot in
    let unspent = or_parts (is_begun past first) (is_dropped past first) parts.0 in
    let entry : IsSomeAnd (entry_of past op) (λ (e : Entry). place ≤ e.place) =
    subst (λ (o : Option Calling). IsSomeAnd (entry_from o (done_of past op)) (λ (e : Entry). place ≤ e.place)) (sym says.called)
    (says_entry_by (is_posting says.call.word) says.call (done_of past op) place
    (subst (λ (w : Waiter). IsSomeAnd w.entry (λ e. place ≤ e)) (sym says.is) upto)) in (
      record {
        waits = record {
          called = strand_called (call_of past first) strand parts.1;
          not_begun = unspent.0;
          not_dropped =
              unspent.1;
        };
        same = parts.1;
        placed = subst (λ (o : Option ℕ). IsSomeAnd o (λ p. IsSomeAnd (entry_of past op) (λ (e : Entry). p ≤ e.place)))
            (sym parts.2) entry;
      },
      parts.2,
    )

pub before_says : (past : List Line) (op strand : ℕ) (waiter : Waiter) → Says past op waiter
    → SomeGoesBefore past strand waiter.entry → (first : ℕ) × GoesBefore past first op strand
before_says past op strand waiter says before =
    (before.0, (spot_goes past op strand waiter says before.0 before.1 before.2 before.3).0)

placed_is : (o : Option ℕ) (entry : Option Entry) → IsSomeAnd o (λ place. IsSomeAnd entry (λ (e : Entry). place ≤ e.place))
    → (place : ℕ) × (o ≡ Some place) × IsSomeAnd entry (λ (e : Entry). place ≤ e.place)
placed_is None entry is = absurd is
placed_is (Some place) entry is = (place, refl, is)

pub goes_spot : (past : List Line) (op strand first place : ℕ) (waiter : Waiter) → Says past op waiter
    → GoesBefore past first op strand → placed_at past first ≡ Some place
    → (spot_of past first ≡ Some (strand, place)) × IsSomeAnd waiter.entry (λ e. place ≤ e)
goes_spot past op strand first place waiter says before placed =
    let unspent : is_spent past first ≡ false = rw (before.waits.not_begun, before.waits.not_dropped) refl in
    let spot : spot_of past first ≡ Some (strand, place) =
    ap (λ (b : Bool). spot_from b (strand_of past first) (placed_at past first)) unspent
    ∙ ap (λ (o : Option ℕ). spot_from false o (placed_at past first)) before.same
    ∙ ap (λ (o : Option ℕ). spot_from false (Some strand) o) placed in
    let late : IsSomeAnd (entry_of past op) (λ (e : Entry). place ≤ e.place) =
    subst (λ (o : Option ℕ). IsSomeAnd o (λ p. IsSomeAnd (entry_of past op) (λ (e : Entry). p ≤ e.place))) placed before.placed in
    let entry : IsSomeAnd (option_map (λ (e : Entry). e.place)
    (entry_by (is_posting says.call.word) says.call (done_of past op))) (λ e. place ≤ e) =
    entry_says_by (is_posting says.call.word) says.call (done_of past op) place
    (subst (λ (o : Option Calling). IsSomeAnd (entry_from o (done_of past op)) (λ (e : Entry). place ≤ e.place)) says.called
    late) in
    (spot, subst (λ (w : Waiter). IsSomeAnd w.entry (λ e. place ≤ e)) says.is entry)

pub says_before : (past : List Line) (op strand first : ℕ) (waiter : Waiter) → Says past op waiter
    → GoesBefore past first op strand → SomeGoesBefore past strand waiter.entry
says_before past op strand first waiter says before =
    let found = placed_is (placed_at past first) (entry_of past op) before.placed in
    let spot = goes_spot past op strand first found.0 waiter says before found.1 in
    (first, found.0, spot.0, spot.1)

pub if_spot : (past : List Line) (checker : Checker) → IsAfter past checker → (strand : ℕ) (first : Option (ℕ × ℕ))
    → IfSome first (λ f. spot_at checker.queues f.1 ≡ Some (strand, f.0))
    → IfSome first (λ f. spot_of past f.1 ≡ Some (strand, f.0))
if_spot past checker after strand None is = tt
if_spot past checker after strand (Some f) is = sym (after.queued f.1) ∙ is
