-- The mutex that guards a claim of a run is locked while the claim is held in an order.
use Rattle.std.proofs.Common.{◌≡◌, ℕ, ◌<◌, List, [], ◌∷◌, refl, ap, sym, subst, ◌∙◌, inl, inr, ⊎_elim, length, arith}
use Rattle.std.specs.Prelude.{◌⊎◌, Some, true}
use Rattle.run_lines.specs.declared.line.Doing.{Doing}
use Rattle.run_lines.specs.declared.line.Doing.TheVariants as doing
use Rattle.run_lines.specs.declared.line.Line.{Line}
use Rattle.run_rules.specs.declared.frame.Frame.{Frame}
use Rattle.run_rules.specs.declared.frame.Frame.TheVariants.{Execution, Outside}
use Rattle.run_rules.specs.declared.taking.Resource.TheVariants.{Lock}
use Rattle.run_rules.specs.Calls.{begins}
use Rattle.run_rules.specs.Legal.{IsLegalSoFar}
use Rattle.run_rules.specs.Stacks.{frame_of}
use Rattle.run_rules.specs.Takings.{has_taken, is_taken_by}
use Rattle.run_orders.specs.declared.order.Step.{Step}
use Rattle.run_orders.specs.Guards.{UnderLock}
use Rattle.run_orders.specs.Holding.{GivesBack}
use Rattle.run_orders.specs.Orders.{EachMayStand, IsPut, IsStep, MayStand, Stands, lines_of, plain, renumbered}
use Rattle.run_orders.specs.Trees.{Spot, around_by, frame_by, root, spot_at, tree, writer}
use Rattle.run_orders.proofs.TreeLemmas.{IsEnd, found, some_same}
use Rattle.run_orders.proofs.BeginLemmas.{begun_before}
use Rattle.run_orders.proofs.StandLemmas.{Executes, cause_stands, frame_in, op_of_begin, same_thread, stack_of, stands_step, stood, stood_stands, tree_of_begin, written}
use Rattle.run_orders.proofs.NumberLemmas.{same_named}
use Rattle.run_orders.proofs.LockLemmas.{lock_stays, lock_taken, thread_has}

-- two begins of one number in an order begin one operation in the run
pub same_begun : (run : List Line) (apart : List ℕ) (steps : List Step) → EachMayStand run apart steps → (one two : Step) (a b : Spot)
    (op other number : ℕ) → IsPut run steps one a → IsPut run steps two b → begins a.line.does op ≡ true → begins b.line.does other ≡ true
    → begins one.line.does number ≡ true → begins two.line.does number ≡ true → op ≡ other
same_begun run apart steps each one two a b op other number first second is too copy copied =
    same_named run apart steps each one two a b first second op other number (op_of_begin a.line.does op is)
    (op_of_begin b.line.does other too) (op_of_begin one.line.does number copy) (op_of_begin two.line.does number copied)

-- in an order, who writes a line is known by who writes it in the run

-- a frame of the run, as it is in an order, on this thread
pub record IsFrame (run : List Line) (before : List Step) (who : Frame) (thread : ℕ) (there : Frame) : Type 0 where
  pub outside : (by : ℕ) → who ≡ Outside by → there ≡ Outside thread
  pub execution : (op : ℕ) → who ≡ Execution op → (spot : Spot) × (ex : Executes run before spot op thread)
      × (begins spot.line.does op ≡ true) × (there ≡ Execution ex.number)

pub outside_stack : (ops : List ℕ) (thread by : ℕ) → frame_of ops thread ≡ Outside by → (ops ≡ []) × (thread ≡ by)
outside_stack [] thread by is = (refl, let e : thread ≡ by = cc in e)
outside_stack (op ∷ ops) thread by is = cc

pub outside_tree : (apart : List ℕ) (spot : Spot) (by : ℕ) → writer spot ≡ Outside by → around_by spot.line.does (stack_of spot) ≡ stack_of spot
    → tree apart spot ≡ Outside spot.line.thread
outside_tree apart spot by writes plain =
    ap (λ (ops : List ℕ). frame_by spot.line.thread (root apart ops)) (plain ∙ (outside_stack (stack_of spot) spot.line.thread by writes).0)

framed : (run : List Line) → IsLegalSoFar plain run → (apart : List ℕ) (before : List Step) → EachMayStand run apart before
    → (step : Step) (may : MayStand run apart before step) → around_by may.spot.line.does (stack_of may.spot) ≡ stack_of may.spot
    → IsFrame run before (writer may.spot) step.line.thread (frame_in before step.line.thread)
framed run legal apart before each step may plain_line = record {
  outside = λ by writes. may.idle (inl (outside_tree apart may.spot by writes plain_line));
  execution = λ op writes.
      let began = begun_before run plain legal may.spot (found run step.place may.spot may.there).end op writes in
      let w = written run apart before each step may op began writes plain_line in
      (began.spot, w.executes, began.begun, w.writes);
}

-- lines of one frame of the run: who writes them is known from the order, too
same_writer : (run : List Line) (apart : List ℕ) (before : List Step) → EachMayStand run apart before → (who other there : Frame)
    (thread : ℕ) → IsFrame run before who thread there → IsFrame run before other thread there
    → ((one two : ℕ) → who ≡ Outside one → other ≡ Outside two → two ≡ one) → other ≡ who
same_writer run apart before each (Execution op) (Execution another) there thread first second outside =
    let a = first.execution op refl in
    let b = second.execution another refl in
    let number : (b.1).number ≡ (a.1).number = number_is (b.1).number (a.1).number (sym b.3 ∙ a.3) in
    ap Execution (same_begun run apart before each (b.1).begin (a.1).begin b.0 a.0 another op (a.1).number (b.1).put (a.1).put b.2 a.2
    (subst (λ (n : ℕ). begins (b.1).begin.line.does n ≡ true) number (b.1).copied) (a.1).copied)
  where
    number_is : (one other : ℕ) → Execution one ≡ Execution other → one ≡ other
    number_is one other e = cc
same_writer run apart before each (Execution op) (Outside by) there thread first second outside =
    let a = first.execution op refl in
    let no : Outside thread ≡ Execution (a.1).number = sym (second.outside by refl) ∙ a.3 in cc
same_writer run apart before each (Outside by) (Execution op) there thread first second outside =
    let a = second.execution op refl in
    let no : Outside thread ≡ Execution (a.1).number = sym (first.outside by refl) ∙ a.3 in cc
same_writer run apart before each (Outside by) (Outside another) there thread first second outside =
    ap Outside (outside by another refl refl)

frame_more : (run : List Line) (before more : List Step) (who : Frame) (thread : ℕ) (there : Frame)
    → ((one : Step) → IsStep before one → IsStep more one) → IsFrame run before who thread there → IsFrame run more who thread there
frame_more run before more who thread there within is = record {
  outside = is.outside;
  execution = λ op writes.
      let was = is.execution op writes in (
        was.0,
        record {
          number = (was.1).number;
          begin = (was.1).begin;
          put = record { stands = within (was.1).begin (was.1).put.stands; there = (was.1).put.there };
          copied = (was.1).copied;
          on = (was.1).on;
        },
        was.2,
        was.3,
      );
}

-- two lines of one frame are of one tree
pub same_tree : (run : List Line) → IsLegalSoFar plain run → (apart : List ℕ) (one two : Spot) → IsEnd run (one.line ∷ one.past)
    → IsEnd run (two.line ∷ two.past) → around_by one.line.does (stack_of one) ≡ stack_of one
    → around_by two.line.does (stack_of two) ≡ stack_of two → writer one ≡ writer two → tree apart one ≡ tree apart two
same_tree run legal apart one two end end_too plain_one plain_two same = by_writer (writer two) refl
  where
    by_writer : (who : Frame) → writer two ≡ who → tree apart one ≡ tree apart two
    by_writer (Execution op) writes =
        let a = begun_before run plain legal one end op (same ∙ writes) in
        let b = begun_before run plain legal two end_too op writes in
        sym (tree_of_begin run apart one op a plain_one)
        ∙ ap (tree apart) (some_same a.spot b.spot (sym a.alone ∙ b.alone))
        ∙ tree_of_begin run apart two op b plain_two
    by_writer (Outside by) writes =
        outside_tree apart one by (same ∙ writes) plain_one
        ∙ ap Outside ((outside_stack (stack_of one) one.line.thread by (same ∙ writes)).1
        ∙ sym (outside_stack (stack_of two) two.line.thread by writes).1) ∙ sym (outside_tree apart two by writes plain_two)

-- a mutex is locked in an order, by the frame that locked it in the run
record Locked (run : List Line) (steps : List Step) (locked : Spot) (lock thread : ℕ) : Type 0 where
  pub who : Frame
  pub framed_there : IsFrame run steps (writer locked) thread who
  pub taken_there : is_taken_by (lines_of steps) thread who (Lock lock) ≡ true

unlock_back : (number : ℕ) (does : Doing) (lock : ℕ) → renumbered number does ≡ doing.Unlock lock → does ≡ doing.Unlock lock
unlock_back number (doing.Unlock other) lock is = is
unlock_back number (doing.Call op word context strand thing) lock is = cc
unlock_back number (doing.Back op) lock is = cc
unlock_back number (doing.Done op code size) lock is = cc
unlock_back number (doing.Begin op code size) lock is = cc
unlock_back number (doing.End op) lock is = cc
unlock_back number (doing.Throw op) lock is = cc
unlock_back number (doing.Drop op) lock is = cc
unlock_back number (doing.Claim thing) lock is = cc
unlock_back number (doing.Release thing) lock is = cc
unlock_back number (doing.Lock other) lock is = cc
unlock_back number (doing.Mark mark) lock is = cc
unlock_back number (doing.After mark) lock is = cc
unlock_back number (doing.Cancel thing) lock is = cc
unlock_back number (doing.Work context) lock is = cc
unlock_back number (doing.Stop context) lock is = cc
unlock_back number (doing.Restart context) lock is = cc

pub plain_at : (spot : Spot) (does : Doing) → spot.line.does ≡ does → ((ops : List ℕ) → around_by does ops ≡ ops)
    → around_by spot.line.does (stack_of spot) ≡ stack_of spot
plain_at spot does is plain_does = ap (λ (d : Doing). around_by d (stack_of spot)) is ∙ plain_does (stack_of spot)

-- what a thread does outside stays on it
pub outside_thread : (run : List Line) (apart : List ℕ) (before : List Step) (step : Step) → (may : MayStand run apart before step)
    → (spot : Spot) → may.spot ≡ spot → (by : ℕ) → writer spot ≡ Outside by → around_by spot.line.does (stack_of spot) ≡ stack_of spot
    → step.line.thread ≡ by
outside_thread run apart before step may spot same by =
    subst (λ (s : Spot). writer s ≡ Outside by → around_by s.line.does (stack_of s) ≡ stack_of s → step.line.thread ≡ by) same
    (λ writes plain_line. may.outside (outside_tree apart may.spot by writes plain_line)
    ∙ (outside_stack (stack_of may.spot) may.spot.line.thread by writes).1)

-- a step that unlocks the mutex in this frame gives the claim back
unlocks : (run : List Line) → (legal : IsLegalSoFar plain run) → (apart : List ℕ) (before : List Step) → EachMayStand run apart before
    → (step : Step) → (may : MayStand run apart before step) → (claim : Spot) (thing lock : ℕ) → (under : UnderLock run lock thing claim)
    → (put : Step) → IsPut run before put under.locked → (was : Locked run before under.locked lock put.line.thread)
    → step.line.does ≡ doing.Unlock lock → step.line.thread ≡ put.line.thread → frame_in before step.line.thread ≡ was.who
    → GivesBack thing claim may.spot
unlocks run legal apart before each step may claim thing lock under put there was unlocks_it on writes =
    let locked = under.locked in
    let later = may.spot in
    let end = found run step.place later may.there in
    let end_of_lock = found run under.place locked under.there in
    let does : later.line.does ≡ doing.Unlock lock =
    unlock_back may.copied.0 later.line.does lock (sym may.copied.1 ∙ unlocks_it) in
    let plain_later = plain_at later (doing.Unlock lock) does (λ ops. refl) in
    let plain_lock = plain_at locked (doing.Lock lock) under.locks (λ ops. refl) in
    let mine = subst (λ (f : Frame). IsFrame run before (writer later) put.line.thread f) writes
    (subst (λ (t : ℕ). IsFrame run before (writer later) t (frame_in before step.line.thread)) on
    (framed run legal apart before each step may plain_later)) in
    let locks = stood run apart before each put locked there.stands there.there in
    let by_outside = λ (one two : ℕ) (outside : writer locked ≡ Outside one) (outside_too : writer later ≡ Outside two).
    sym (outside_thread run apart before step may later refl two outside_too plain_later)
    ∙ on ∙ outside_thread run apart locks.before put locks.may locked locks.same one outside plain_lock in
    let same : writer later ≡ writer locked =
    same_writer run apart before each (writer locked) (writer later) was.who put.line.thread was.framed_there mine by_outside in
    ⊎_elim
    (λ (less : length locked.past < length later.past).
    under.kept step.place later may.there does (same ∙ under.same) less)
    (λ rest. ⊎_elim
    (λ (less : length later.past < length locked.past).
    let before_it = cause_stands run apart before put locked locks step.place later may.there
    (record { earlier = less; reason = inl (same_tree run legal apart later locked end.end end_of_lock.end plain_later plain_lock same) }) in
    absurd (may.once (stood_stands run apart before put locked locks step.place before_it)))
    (λ (e : length later.past ≡ length locked.past).
    let equal : later ≡ locked =
    some_same later locked (sym may.there ∙ ap (spot_at run) (sym end.place_is ∙ e ∙ end_of_lock.place_is) ∙ under.there) in
    let no : doing.Unlock lock ≡ doing.Lock lock = sym does ∙ ap (λ (s : Spot). s.line.does) equal ∙ under.locks in cc) rest)
    (three (length locked.past) (length later.past))
  where
    three : (a b : ℕ) → (a < b) ⊎ ((b < a) ⊎ (b ≡ a))
    three a b = grind (arith)

locked_while : (run : List Line) → IsLegalSoFar plain run → (apart : List ℕ) (steps : List Step) → EachMayStand run apart steps
    → (claim : Spot) (thing lock : ℕ) → (under : UnderLock run lock thing claim) → (put : Step) → IsPut run steps put under.locked
    → ((at : ℕ) (later : Spot) → spot_at run at ≡ Some later → GivesBack thing claim later → ¬ (Stands steps at))
    → Locked run steps under.locked lock put.line.thread
locked_while run legal apart [] each claim thing lock under put there kept = absurd there.stands
locked_while run legal apart (step ∷ before) each claim thing lock under put there kept =
    ⊎_elim
    (λ (here : step ≡ put).
    let same : each.1.spot ≡ under.locked =
    some_same each.1.spot under.locked (sym each.1.there ∙ ap (λ (s : Step). spot_at run s.place) here ∙ there.there) in
    let plain_lock = plain_at under.locked (doing.Lock lock) under.locks (λ ops. refl) in
    let plain_here = plain_at each.1.spot (doing.Lock lock) (ap (λ (s : Spot). s.line.does) same ∙ under.locks) (λ ops. refl) in
    let does : step.line.does ≡ doing.Lock lock =
    each.1.copied.1 ∙ ap (λ (s : Spot). renumbered each.1.copied.0 s.line.does) same
    ∙ ap (λ (d : Doing). renumbered each.1.copied.0 d) under.locks in
    subst (λ (t : ℕ). Locked run (step ∷ before) under.locked lock t) (ap (λ (s : Step). s.line.thread) here)
    (record {
      who = frame_in before step.line.thread;
      framed_there =
          frame_more run before (step ∷ before) (writer under.locked) step.line.thread (frame_in before step.line.thread)
          (λ one is. inr is)
          (subst (λ (s : Spot). IsFrame run before (writer s) step.line.thread (frame_in before step.line.thread)) same
          (framed run legal apart before each.0 step each.1 plain_here));
      taken_there = lock_taken (lines_of before) step.line lock does;
    }))
    (λ behind.
    let earlier : IsPut run before put under.locked = record { stands = behind; there = there.there } in
    let was = locked_while run legal apart before each.0 claim thing lock under put earlier
    (λ at later found_at gives stands. kept at later found_at gives (inr stands)) in
    record {
      who = was.who;
      framed_there =
          frame_more run before (step ∷ before) (writer under.locked) put.line.thread was.who (λ one is. inr is) was.framed_there;
      taken_there =
          lock_stays (lines_of before) step.line put.line.thread was.who lock
          (λ unlocks_it on writes. kept step.place each.1.spot each.1.there
          (unlocks run legal apart before each.0 step each.1 claim thing lock under put earlier was unlocks_it on writes) (inl refl))
          was.taken_there;
    }) there.stands

-- so the thread of the claim has it
pub lock_held : (run : List Line) → IsLegalSoFar plain run → (apart : List ℕ) (steps : List Step) → EachMayStand run apart steps
    → (claim : Spot) (thing lock place : ℕ) → spot_at run place ≡ Some claim → claim.line.does ≡ doing.Claim thing
    → (under : UnderLock run lock thing claim) → (put : Step) → IsPut run steps put claim
    → ((at : ℕ) (later : Spot) → spot_at run at ≡ Some later → GivesBack thing claim later → ¬ (Stands steps at))
    → has_taken (lines_of steps) put.line.thread (Lock lock) ≡ true
lock_held run legal apart steps each claim thing lock place there claims under put put_there kept =
    let end = found run place claim there in
    let end_of_lock = found run under.place under.locked under.there in
    let one = same_tree run legal apart under.locked claim end_of_lock.end end.end
    (plain_at under.locked (doing.Lock lock) under.locks (λ ops. refl)) (plain_at claim (doing.Claim thing) claims (λ ops. refl))
    under.same in
    let was = stood run apart steps each put claim put_there.stands put_there.there in
    let before_it = cause_stands run apart steps put claim was under.place under.locked under.there
    (record { earlier = under.before; reason = inl one }) in
    let locks = stands_step was.before under.place before_it in
    let locks_there : IsPut run steps locks.0 under.locked = record {
      stands = was.within locks.0 locks.1;
      there = ap (spot_at run) locks.2 ∙ under.there;
    } in
    let held = locked_while run legal apart steps each claim thing lock under locks.0 locks_there kept in
    subst (λ (t : ℕ). has_taken (lines_of steps) t (Lock lock) ≡ true)
    (same_thread run apart steps each locks.0 put under.locked claim locks_there.stands locks_there.there put_there.stands put_there.there
    one) (thread_has (lines_of steps) (locks.0).line.thread held.who (Lock lock) held.taken_there)
