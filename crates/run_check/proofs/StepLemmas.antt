-- A checker that followed a line is one that has followed one more.
use Rattle.std.proofs.Common.{◌≡◌, ◌+◌, suc, ℕ, List, ◌∷◌, length, refl, ap, subst, sym, ◌∙◌, arith}
use Rattle.std.specs.Prelude.{Bool, false, ◌==◌, ◌||◌, if◌then◌else◌, Option, Some, None, nat_eq}
use Rattle.std.specs.Option.{option_and_then, option_eq, option_or}
use Rattle.run_lines.specs.declared.line.Doing.{Doing}
use Rattle.run_lines.specs.declared.line.Doing.TheVariants as doing
use Rattle.run_lines.specs.declared.line.Line.{Line}
use Rattle.run_rules.specs.declared.frame.Frame.{Frame}
use Rattle.run_rules.specs.declared.taking.Taking.{Taking}
use Rattle.run_rules.specs.Stacks.{frame, stack}
use Rattle.run_rules.specs.Calls.{strand_of}
use Rattle.run_rules.specs.Takings.{taken, taken_after}
use Rattle.run_rules.specs.MayCome.{MayDo, marks}
use Rattle.run_check.specs.After.{IsAfter, is_spent, let_in, loose, waiter_of}
use Rattle.run_check.specs.Called.{called_by}
use Rattle.run_check.specs.Entered.{entered_by, entered_last, entered_of}
use Rattle.run_check.specs.Following.{CanPlace, GivesWhatIsTaken, execution_after, holder_after, innermost_after, place_after, spends, to_place, to_place_with, waiter_after}
use Rattle.run_check.specs.Judging.{is_number, let_in_by}
use Rattle.run_check.specs.LastCalls.{followed, last_call_of}
use Rattle.run_check.specs.Marks.{has_mark}
use Rattle.run_check.specs.Queues.{AreInOrder, spot_at}
use Rattle.run_check.specs.Stacks.{execution_of, innermost_of}
use Rattle.run_check.specs.Steps.{GoesWith}
use Rattle.run_check.specs.Strands.{holder_of}
use Rattle.run_check.specs.Takings.{AreCounted}
use Rattle.run_check.specs.Waiting.{waiting_at}
use Rattle.run_check.specs.declared.checker.Checker.{Checker}
use Rattle.run_check.specs.declared.waiting.Waiter.{Waiter}
use Rattle.run_check.proofs.FollowLemmas.{executing-next, executions-next, held-next, innermost-next, last_calls-next, waiter_of-next}
use Rattle.run_check.proofs.QueuedLemmas.{spot_of-next, unplaced_yet, unused_yet, waiter_strand}

-- what a line gives back was taken, if it may come
gives_taken : (past : List Line) (thread : ℕ) (does : Doing) → MayDo loose past thread does
    → GivesWhatIsTaken thread (frame past thread) does (taken past)
gives_taken past thread (doing.Release thing) may = may.claimed
gives_taken past thread (doing.Unlock lock) may = may.locked
gives_taken past thread _ may = tt

-- what is to be placed can be
placing_by : (past : List Line) (checker : Checker) → IsAfter past checker → (thread op : ℕ)
    → entered_last past thread ≡ Some op → (strand : Option ℕ) → CanPlace checker.queues (to_place_with op strand) (length past)
placing_by past checker after thread op last None = tt
placing_by past checker after thread op last (Some strand) = (
  after.queued op ∙ unplaced_yet past after.legal thread op last,
  λ other is. unused_yet past other strand (sym (after.queued other) ∙ is),
)

pub can_place : (past : List Line) (checker : Checker) → IsAfter past checker → (thread : ℕ) (last : Option ℕ)
    → entered_last past thread ≡ last → (find : ℕ → Option Waiter) → CanPlace checker.queues (to_place last find) (length past)
can_place past checker after thread None is find = tt
can_place past checker after thread (Some op) is find =
    placing_by past checker after thread op is (option_and_then (λ (w : Waiter). w.strand) (find op))

to_place_same : (last : Option ℕ) (find other : ℕ → Option Waiter) → ((op : ℕ) → find op ≡ other op)
    → to_place last find ≡ to_place last other
to_place_same None find other same = refl
to_place_same (Some op) find other same = ap (λ (w : Option Waiter). to_place_with op
    (option_and_then (λ (o : Waiter). o.strand) w)) (same op)

-- what each part of a checker is behind a line
pub record Follows (line : Line) (who : Frame) (own : Option ℕ) (entered : Option (ℕ × ℕ)) (old new : Checker) : Type 0 where
  pub lines : new.lines ≡ old.lines + 1
  pub called : new.greatest ≡ option_or (called_by line.does) old.greatest
  pub marked : (mark : ℕ) → has_mark new.marks mark ≡ (marks line.does mark || has_mark old.marks mark)
  pub last_calls : (frame : Frame) → last_call_of new.last_calls frame
      ≡ followed who line.does frame (last_call_of old.last_calls frame)
  pub entered_next : (other : ℕ) → entered_of new.entered other
      ≡ (if line.thread == other then entered_by line.does else entered_of old.entered other)
  pub innermost : (other : ℕ) → innermost_of new.stacks other
      ≡ innermost_after (execution_of old.stacks) line.thread line.does other (innermost_of old.stacks other)
  pub executions : (other : ℕ) → execution_of new.stacks other
      ≡ execution_after (innermost_of old.stacks line.thread) own line.does other (execution_of old.stacks other)
  pub held : (other : ℕ) → holder_of new.strands other
      ≡ holder_after line.thread own line.does other (holder_of old.strands other)
  pub waiting : (other : ℕ) → waiting_at new.waiting other
      ≡ waiter_after who old.lines line.does other (waiting_at old.waiting other)
  pub ordered : AreInOrder old.queues → CanPlace old.queues entered old.lines → AreInOrder new.queues
  pub queued : (other : ℕ) → spot_at new.queues other
      ≡ (if spends line.does other then None else place_after entered old.lines other (spot_at old.queues other))
  pub counted : (all : List Taking) → AreCounted all old.takings → GivesWhatIsTaken line.thread who line.does all
      → AreCounted (taken_after line.thread who line.does all) new.takings

pub followed_after : (past : List Line) (line : Line) (who : Frame) (own : Option ℕ) (entered : Option (ℕ × ℕ))
    (old new : Checker) → IsAfter past old → MayDo loose past line.thread line.does → Follows line who own entered old new
    → who ≡ frame past line.thread → GoesWith past old.stacks line.thread line.does own
    → entered ≡ to_place (entered_of old.entered line.thread) (waiting_at old.waiting) → IsAfter (line ∷ past) new
followed_after past line who own entered old new after may follows who_is goes entered_is =
    let placed : entered ≡ to_place (entered_last past line.thread) (waiter_of past) =
    entered_is ∙ ap (λ (o : Option ℕ). to_place o (waiting_at old.waiting)) (after.entered line.thread)
    ∙ to_place_same (entered_last past line.thread) (waiting_at old.waiting) (waiter_of past) after.waiting in
    record {
      legal = (after.legal, record { rules = may; strict = λ strict. cc });
      lines = follows.lines ∙ ap (λ (n : ℕ). n + 1) after.lines ∙ one_more (length past);
      called = follows.called ∙ ap (option_or (called_by line.does)) after.called;
      marked = λ mark. follows.marked mark ∙ ap (λ (b : Bool). marks line.does mark || b) (after.marked mark);
      last_calls = λ frame_of. follows.last_calls frame_of
          ∙ ap (λ (f : Frame). followed f line.does frame_of (last_call_of old.last_calls frame_of)) who_is
          ∙ last_calls-next past line after.legal frame_of (last_call_of old.last_calls frame_of) (after.last_calls frame_of);
      entered = λ thread. follows.entered_next thread ∙ ap
          (λ (o : Option ℕ). if line.thread == thread then entered_by line.does else o) (after.entered thread);
      innermost = λ thread. follows.innermost thread ∙ ap
          (innermost_after (execution_of old.stacks) line.thread line.does thread) (after.innermost thread)
          ∙ innermost-next past line old.stacks may (after.executions line.thread) thread;
      executions = λ thread. executions-next past line after.legal may old.stacks new.stacks own goes
          (λ q. follows.executions q ∙ ap (λ (o : Option ℕ). execution_after o own line.does q (execution_of old.stacks q))
          (after.innermost line.thread)) thread (after.executions thread);
      live = λ op. executing-next (innermost_of old.stacks line.thread) own line.does op (execution_of new.stacks op)
          (execution_of old.stacks op) past (follows.executions op) (after.live op);
      held = λ thread strand. held-next past line after.legal may old.stacks own (holder_of old.strands)
          (after.executions line.thread) goes after.held thread strand
          ∙ ap (λ (o : Option ℕ). option_eq nat_eq o (Some thread)) (sym (follows.held strand));
      waiting = λ op. follows.waiting op ∙ ap (λ (f : Frame). waiter_after f old.lines line.does op
          (waiting_at old.waiting op)) who_is
          ∙ ap (λ (n : ℕ). waiter_after (frame past line.thread) n line.does op (waiting_at old.waiting op)) after.lines
          ∙ ap (waiter_after (frame past line.thread) (length past) line.does op) (after.waiting op)
          ∙ sym (waiter_of-next past line after.legal may op);
      ordered = follows.ordered after.ordered (subst (λ (n : ℕ). CanPlace old.queues entered n) (sym after.lines)
          (subst (λ (o : Option (ℕ × ℕ)). CanPlace old.queues o (length past)) (sym placed)
          (can_place past old after line.thread (entered_last past line.thread) refl (waiter_of past))));
      queued = λ op. follows.queued op ∙ ap (λ (n : ℕ). if spends line.does op then None else place_after entered n op
          (spot_at old.queues op)) after.lines
          ∙ ap (λ (o : Option (ℕ × ℕ)). if spends line.does op then None else place_after o (length past) op
          (spot_at old.queues op)) placed
          ∙ ap (λ (s : Option (ℕ × ℕ)). if spends line.does op then None else place_after
          (to_place (entered_last past line.thread) (waiter_of past)) (length past) op s) (after.queued op)
          ∙ sym (spot_of-next past line after.legal may op);
      counted = subst (λ (f : Frame). AreCounted (taken_after line.thread f line.does (taken past)) new.takings) who_is
          (follows.counted (taken past) after.counted (subst
          (λ (f : Frame). GivesWhatIsTaken line.thread f line.does (taken past)) (sym who_is)
          (gives_taken past line.thread line.does may)));
    }
  where
    one_more : (n : ℕ) → n + 1 ≡ suc n
    one_more n = omega arith

-- the strand that goes with a line

let_in_is : (past : List Line) (checker : Checker) → IsAfter past checker → (thread : ℕ) (strand : Option ℕ)
    → let_in_by strand (option_and_then (holder_of checker.strands) strand) thread ≡ let_in past strand (stack past thread)
let_in_is past checker after thread None = refl
let_in_is past checker after thread (Some strand) =
    ap (λ (b : Bool). if b then None else Some strand) (same_test (holder_of checker.strands strand) thread
    ∙ sym (after.held thread strand))
  where
    same_test : (o : Option ℕ) (n : ℕ) → is_number o n ≡ option_eq nat_eq o (Some n)
    same_test None n = refl
    same_test (Some holder) n = refl

pub begin_goes : (past : List Line) (checker : Checker) → IsAfter past checker → (thread op : ℕ) → is_spent past op ≡ false
    → (strand own : Option ℕ) → strand ≡ option_and_then (λ (w : Waiter). w.strand) (waiting_at checker.waiting op)
    → own ≡ let_in_by strand (option_and_then (holder_of checker.strands) strand) thread
    → own ≡ let_in past (strand_of past op) (stack past thread)
begin_goes past checker after thread op unspent strand own strand_is own_is =
    let mine : strand ≡ strand_of past op = strand_is ∙ ap
    (λ (o : Option Waiter). option_and_then (λ (w : Waiter). w.strand) o) (after.waiting op)
    ∙ waiter_strand past op unspent in
    own_is ∙ let_in_is past checker after thread strand ∙ ap (λ (s : Option ℕ). let_in past s (stack past thread)) mine
