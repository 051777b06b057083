-- An order that was judged good is one.
use Rattle.std.proofs.Common.{◌≡◌, ◌+◌, ℕ, suc, List, [], ◌∷◌, ◌++◌, ◌<◌, ◌≤◌, refl, ap, sym, subst, ◌∙◌, inl, inr, ⊎_elim, length, take, drop, get_or, reverse, arith, length-append, Result, Ok, Err}
use Rattle.std.proofs.lemmas.Bool.{cases_Bool, cond_both, eq-eqb, eqb-true, ne_eqb}
use Rattle.std.proofs.lemmas.List.{reverse-append, take-append-drop, take_all}
use Rattle.std.proofs.lemmas.List.Elements.{Contains-append_left, Contains-push}
use Rattle.std.specs.List.{All, Contains}
use Rattle.std.specs.Option.{option_or}
use Rattle.std.proofs.Math.Seq.{take-suc}
use Rattle.std.specs.Prelude.{Bool, true, false, ◌==◌, ◌⊎◌, ◌↔◌, ◌≢◌, if◌then◌else◌, IfOk, IsSome, IsSomeAnd, IsTrue, Option, Some, None}
use Rattle.run_lines.specs.declared.code.Code.{Code}
use Rattle.run_lines.specs.declared.line.Doing.{Doing}
use Rattle.run_lines.specs.declared.line.Doing.TheVariants as doing
use Rattle.run_lines.specs.declared.line.Line.{Line}
use Rattle.run_rules.specs.declared.frame.Frame.{Frame}
use Rattle.run_rules.specs.declared.frame.Frame.TheVariants.{Execution, Outside}
use Rattle.run_rules.specs.declared.level.Strictness.TheVariants.{Loose, Plain, Strict}
use Rattle.run_rules.specs.declared.taking.Resource.TheVariants.{Thing}
use Rattle.run_rules.specs.Calls.{Calling, Waits, call_in, call_of}
use Rattle.run_rules.specs.Legal.{IsLegalSoFar}
use Rattle.run_rules.specs.MayCome.{MayCome, MayDo}
use Rattle.run_rules.specs.Stacks.{frame, frame_of, stack}
use Rattle.run_rules.specs.Starting.{IsFirst}
use Rattle.run_rules.specs.Takings.{is_taken_by}
use Rattle.run_check.specs.After.{IsAfter, loose}
use Rattle.run_check.specs.Called.{called_by}
use Rattle.run_orders.specs.declared.order.Step.{Step}
use Rattle.run_orders.specs.Apart.{StandsAlone}
use Rattle.run_orders.specs.Holding.{HoldsBoth, IsHeld}
use Rattle.run_orders.specs.Orders.{EachMayStand, IsLegalBut, IsPut, MayDoBut, Stands, lines_of, plain, renumbered}
use Rattle.run_orders.specs.Trees.{Spot, spot_at, writer}
use Rattle.run_orders.proofs.BeginLemmas.{begun_before, one_frame}
use Rattle.run_orders.proofs.StandLemmas.{stands_step}
use Rattle.run_orders.proofs.TreeLemmas.{found, some_same}
use Rattle.run_witness.specs.Facts.{AreFacts, fact_of}
use Rattle.run_witness.specs.Judging.{ArePlain, IsClaimAt, IsFirstIn, IsPlacedNext, IsPutWhole, IsReplay, Keeps, KeepsAll, called_with}
use Rattle.run_witness.specs.Placing.{EachIsPutWell, IsPlacing, position, position_of, thread_of}
use Rattle.run_witness.specs.Witness.{AreBehind, IsWitness}
use Rattle.run_check.specs.declared.refusal.NoRoom.{NoRoom}
use Rattle.run_witness.specs.declared.facts.Fact.{Fact}
use Rattle.run_witness.specs.declared.facts.Facts.{Facts}
use Rattle.run_witness.specs.declared.judging.Replay.{Replay}
use Rattle.run_witness.specs.declared.placing.Placing.{Placing}
use Rattle.run_witness.proofs.PlacingLemmas.{position_below, spot_of_fact, stands_somewhere}

pub ok_more : {X E : Type 0} {P Q : X → Type 0} (answer : Result X E) → ((value : X) → P value → Q value) → IfOk answer P
    → IfOk answer Q
ok_more (Ok value) more known = more value known
ok_more (Err missing) more known = tt

pub false_true : false ≡ true → ⊥
false_true e = cc

pub ok_both : {X E : Type 0} {P Q R : X → Type 0} (answer : Result X E) → ((value : X) → P value → Q value → R value)
    → IfOk answer P
    → IfOk answer Q → IfOk answer R
ok_both (Ok value) more first second = more value first second
ok_both (Err missing) more first second = tt

-- a test that failed
pub refuted : {P : Type 0} → (P → false ≡ true) → IsTrue false ↔ P
refuted not = (λ good. absurd (false_true good), not)

-- the rules of runs

may_plain : (past : List Line) (thread : ℕ) (does : Doing) → MayDo loose past thread does → IsFirstIn past does
    → MayDo plain past thread does
may_plain past thread (doing.Call op word context strand thing) may first =
    record { is_new = may.is_new; single = λ stream other on. absurd (false_true on) }
may_plain past thread (doing.Begin op code size) may first = record {
  waiting = may.waiting;
  outcome = may.outcome;
  free = may.free;
  first = first;
}
may_plain past thread _ may first = may

pub may_come : (past : List Line) (line : Line) → MayDo loose past line.thread line.does → IsFirstIn past line.does
    → MayCome plain past line
may_come past line may first =
    record { rules = may_plain past line.thread line.does may first; strict = λ (strict : Plain ≡ Strict). cc }

pub first_in : (past : List Line) (thread : ℕ) {op size : ℕ} {code : Code} (does : Doing) (good : Bool)
    → does ≡ doing.Begin op code size
    → (Waits past op → IsTrue good ↔ IsFirst plain past op) → MayDo loose past thread does
    → IsTrue good ↔ IsFirstIn past does
first_in past thread {op} {size} {code} does good is exact =
    subst (λ (d : Doing). MayDo loose past thread d → IsTrue good ↔ IsFirstIn past d) (sym is) (λ may. exact may.waiting)

pub may_loose : (past : List Line) (thread : ℕ) (does : Doing) → MayDo plain past thread does → MayDo loose past thread does
may_loose past thread (doing.Call op word context strand thing) may =
    record { is_new = may.is_new; single = λ stream other on. absurd (false_true on) }
may_loose past thread (doing.Begin op code size) may = record {
  waiting = may.waiting;
  outcome = may.outcome;
  free = may.free;
  first = λ strand first (is : Loose ≡ Plain). cc;
}
may_loose past thread _ may = may

pub first_plain : (past : List Line) (thread : ℕ) (does : Doing) → MayDo plain past thread does → IsFirstIn past does
first_plain past thread (doing.Begin op code size) may = may.first
first_plain past thread _ may = tt

-- one line more is put

called_more : (caller : Frame) (thread place : ℕ) (does : Doing) (earlier : Option Calling) (ops : List ℕ) (op : ℕ)
    → (IsSome earlier → Contains ops op) → IsSome (option_or (call_in caller thread place does op) earlier)
    → Contains (called_with ops (called_by does)) op
called_more caller thread place (doing.Call number how context strand thing) earlier ops op were some =
    ⊎_elim
    (λ (here : (number == op) ≡ true). subst (λ (n : ℕ). Contains (ops ++ number ∷ []) n) (eqb-true number op here)
    (Contains-push ops number))
    (λ (elsewhere : (number == op) ≡ false). Contains-append_left ops (number ∷ []) op (were (not_here
    (number == op) elsewhere some)))
    (cases_Bool (number == op))
  where
    call : Calling
    call = record {
      word = how;
      context = context;
      strand = strand;
      thing = thing;
      caller = caller;
      thread = thread;
      place = place;
    }

    not_here : (b : Bool) → b ≡ false → IsSome (option_or (if b then Some call else None) earlier) → IsSome earlier
    not_here true is some = cc
    not_here false is some = some
called_more caller thread place _ earlier ops op were some = were some

pub replay_next : {apart : List ℕ} (run : List Line) (before : List Step) (step : Step) (old new : Replay)
    → IsReplay run apart before old
    → IsPlacedNext run apart before step new.placing
    → IsAfter (step.line ∷ lines_of before) new.checker → MayCome plain (lines_of before) step.line
    → new.called.items ≡ called_with old.called.items (called_by step.line.does) → IsReplay run apart (step ∷ before) new
replay_next run before step old new was put after came called = record {
  placing = put.placing;
  after = after;
  legal = (was.legal, came);
  well = (was.well, put.well, put.busy);
  called = λ op some. subst (λ (ops : List ℕ). Contains ops op) (sym called)
      (called_more (frame (lines_of before) step.line.thread) step.line.thread (length (lines_of before)) step.line.does
      (call_of (lines_of before) op) old.called.items op (was.called op) some);
}

pub true_false : true ≡ false → ⊥
true_false e = cc

-- a line is put that was placed and followed

pub put_good : (facts : Facts) (step : Step) (old placed new : Replay) (answer : Result Bool NoRoom)
    → IfOk answer (λ good. (past : List Line) → IsAfter past placed.checker → IsTrue good ↔ MayCome plain past step.line)
    → IfOk answer (λ good. (past : List Line) → IsAfter past placed.checker → IsTrue good
    → IsAfter (step.line ∷ past) new.checker)
    → IfOk answer (λ good. IsTrue good → new.called.items ≡ called_with placed.called.items (called_by step.line.does))
    → IfOk answer (λ _. new.placing ≡ placed.placing) → placed.checker ≡ old.checker → placed.called ≡ old.called
    → ((apart : List ℕ) (thing : ℕ) (run : List Line) (before : List Step) → AreFacts apart thing run facts
    → IsReplay run apart before old → IsPlacedNext run apart before step placed.placing)
    → IfOk answer (λ good. (apart : List ℕ) (thing : ℕ) (run : List Line) (before : List Step)
    → AreFacts apart thing run facts
    → IsReplay run apart before old → IsTrue good → IsReplay run apart (step ∷ before) new)
put_good facts step old placed new (Err missing) exact followed called placing checker calls put = tt
put_good facts step old placed new
    (Ok good) exact followed called placing checker calls put = λ apart thing run before are was is.
    let after : IsAfter (lines_of before) placed.checker = subst (IsAfter (lines_of before)) (sym checker) was.after in
    replay_next run before step old new was
    (subst (IsPlacedNext run apart before step) (sym placing) (put apart thing run before are was))
    (followed (lines_of before) after is) ((exact (lines_of before) after).0 is)
    (called is ∙ (λ i. called_with (calls i).items (called_by step.line.does)))

pub put_bad : (facts : Facts) (step : Step) (old placed : Replay) (answer : Result Bool NoRoom)
    → IfOk answer (λ good. (past : List Line) → IsAfter past placed.checker → IsTrue good ↔ MayCome plain past step.line)
    → placed.checker ≡ old.checker
    → IfOk answer (λ good. (apart : List ℕ) (thing : ℕ) (run : List Line) (before : List Step)
    → AreFacts apart thing run facts
    → IsReplay run apart before old → ArePlain run apart (step ∷ before) → IsTrue good)
put_bad facts step old placed (Err missing) exact checker = tt
put_bad facts step old placed (Ok good) exact checker = λ apart thing run before are was plain_all.
    (exact (lines_of before) (subst (IsAfter (lines_of before)) (sym checker) was.after)).1 plain_all.legal.1

pub steps_next : (lines : List Step) (at : ℕ) (line : Step) → at < length lines → line ≡ get_or lines at line
    → reverse (take (at + 1) lines) ≡ line ∷ reverse (take at lines)
steps_next lines at line within is =
    let one : take (at + 1) lines ≡ take (suc at) lines =
    ap (λ (n : ℕ). take n lines) (let e : at + 1 ≡ suc at = omega arith in e) in
    ap reverse (one ∙ take-suc lines at line within) ∙ reverse-append (take at lines) (get_or lines at line ∷ [])
    ∙ ap (λ (l : Step). l ∷ reverse (take at lines)) (sym is)

pub put_more : {apart : List ℕ} (run : List Line) (lines : List Step) (at : ℕ) (line : Step) (old new : Replay)
    → at < length lines
    → line ≡ get_or lines at line → IsReplay run apart (reverse (take at lines)) old
    → ((before : List Step) → IsReplay run apart before old → IsReplay run apart (line ∷ before) new)
    → IsReplay run apart (reverse (take (at + 1) lines)) new
put_more {apart} run lines at line old new within is was puts =
    subst (λ (xs : List Step). IsReplay run apart xs new) (sym (steps_next lines at line within is)) (puts (reverse
    (take at lines)) was)

pub put_whole : {apart : List ℕ} (run : List Line) (lines : List Step) (at : ℕ) (replay : Replay) → length lines ≤ at
    → IsReplay run apart (reverse (take at lines)) replay → IsReplay run apart (reverse lines) replay
put_whole {apart} run lines at replay past was = subst (λ (xs : List Step). IsReplay run apart (reverse xs) replay)
    (take_all at lines past) was

-- the first lines of what may stand may stand

plain_end : {apart : List ℕ} (run : List Line) (later before : List Step) → ArePlain run apart (later ++ before)
    → ArePlain run apart before
plain_end run [] before plain_all = plain_all
plain_end run (step ∷ later) before plain_all =
    plain_end run later before (record { each = plain_all.each.0; legal = plain_all.legal.0 })

pub plain_step : {apart : List ℕ} (run : List Line) (lines : List Step) (at : ℕ) (line : Step) → at < length lines
    → line ≡ get_or lines at line
    → ArePlain run apart (reverse lines) → ArePlain run apart (line ∷ reverse (take at lines))
plain_step {apart} run lines at line within is plain_all =
    let cut : reverse lines ≡ reverse (drop (at + 1) lines) ++ reverse (take (at + 1) lines) =
    ap reverse (sym (take-append-drop (at + 1) lines)) ∙ reverse-append (take (at + 1) lines) (drop (at + 1) lines) in
    subst (ArePlain run apart) (steps_next lines at line within is)
    (plain_end run (reverse (drop (at + 1) lines)) (reverse (take (at + 1) lines)) (subst
    (ArePlain run apart) cut plain_all))

pub kept_more : (facts : Facts) (placing : Placing) (place : ℕ) (claim : Fact) (count : ℕ)
    → ((at : ℕ) → at < count → Keeps facts placing place claim at) → Keeps facts placing place claim count
    → (at : ℕ) → at < count + 1 → Keeps facts placing place claim at
kept_more facts placing place claim count were here at less =
    ⊎_elim (λ (before : at < count). were at before)
    (λ (same : at ≡ count). subst (λ (n : ℕ). Keeps facts placing place claim n) (sym same) here)
    (last_or_before at count less)
  where
    last_or_before : (at count : ℕ) → at < count + 1 → (at < count) ⊎ (at ≡ count)
    last_or_before at count less = grind (arith)

-- an order

stands_earlier : (later before : List Step) (at index : ℕ) → position (later ++ before) at ≡ Some index
    → index < length before
    → Stands before at
stands_earlier [] before at index is less = stands_here before at index is
  where
    stands_here : (before : List Step) (at index : ℕ) → position before at ≡ Some index → Stands before at
    stands_here [] at index = λ is. cc
    stands_here (step ∷ before) at index =
        cond_both (step.place == at) (Some (length before)) (position before at) (λ (o : Option ℕ). o ≡ Some index
        → Stands (step ∷ before) at)
        (λ here is. inl (eqb-true step.place at here)) (λ elsewhere is. inr (stands_here before at index is))
stands_earlier (step ∷ later) before at index is less =
    cond_both (step.place == at) (Some (length (later ++ before))) (position (later ++ before) at)
    (λ (o : Option ℕ). o ≡ Some index → Stands before at)
    (λ here same.
    let e : length (later ++ before) ≡ index = some_same (length (later ++ before)) index same in
    let long : length (later ++ before) ≡ length later + length before = length-append later before in
    absurd (omega arith))
    (λ elsewhere same. stands_earlier later before at index same less) is

stands_in : (later : List Step) (step : Step) (before : List Step) → Stands (later ++ step ∷ before) step.place
stands_in [] step before = inl refl
stands_in (one ∷ later) step before = inr (stands_in later step before)

put_position : (apart : List ℕ) (run : List Line) (later : List Step) (step : Step) (before : List Step)
    → EachIsPutWell run apart (later ++ step ∷ before)
    → position (later ++ step ∷ before) step.place ≡ Some (length before)
put_position apart run [] step before well = rw (eq-eqb step.place step.place refl) refl
put_position apart run (one ∷ later) step before well =
    let distinct : (one.place == step.place) ≡ false =
    ne_eqb one.place step.place
    (λ same. well.1.once (subst (λ (p : ℕ). Stands (later ++ step ∷ before) p) (sym same) (stands_in later step before))) in
    rw distinct (put_position apart run later step before well.0)

joined : (a b c : List Step) → (a ++ b) ++ c ≡ a ++ (b ++ c)
joined [] b c = refl
joined (x ∷ a) b c = ap (λ (all : List Step). x ∷ all) (joined a b c)

pub some_less : (o : Option ℕ) (bound : ℕ) → IsSomeAnd o (λ n. n < bound) → (n : ℕ) × (o ≡ Some n) × (n < bound)
some_less None bound is = absurd is
some_less (Some n) bound is = (n, refl, is)

spot_below : (run : List Line) (place : ℕ) (spot : Spot) → spot_at run place ≡ Some spot → place < length run
spot_below run place spot there =
    let at = found run place spot there in
    let long : length (at.end.0 ++ spot.line ∷ spot.past) ≡ length at.end.0 + suc (length spot.past) =
    length-append at.end.0 (spot.line ∷ spot.past) in
    let same : length run ≡ length (at.end.0 ++ spot.line ∷ spot.past) = ap (λ (l : List Line). length l) at.end.1 in
    let here : length spot.past ≡ place = at.place_is in
    omega arith

each_may_stand : (apart : List ℕ) (run : List Line) (all later steps : List Step) → all ≡ later ++ steps
    → AreBehind run apart (position all)
    → EachIsPutWell run apart all → EachIsPutWell run apart steps → EachMayStand run apart steps
each_may_stand apart run all later [] parted behind every well = tt
each_may_stand apart run all later (step ∷ before) parted behind every well =
    let mine = well.1 in
    let here : position all step.place ≡ Some (length before) =
    ap (λ (l : List Step). position l step.place) parted
    ∙ put_position apart run later step before (subst (EachIsPutWell run apart) parted every) in
    let cut : all ≡ (later ++ step ∷ []) ++ before = parted ∙ sym (joined later (step ∷ []) before) in (
      each_may_stand apart run all (later ++ step ∷ []) before cut behind every well.0,
      record {
        spot = mine.spot;
        there = mine.there;
        once = mine.once;
        copied = mine.copied;
        numbered = mine.numbered;
        behind = λ place first there cause.
            let earlier = some_less (position all place) (length before)
            (behind step.place (spot_below run step.place mine.spot mine.there)
            (length before) place mine.spot first mine.there here
            there cause) in
            stands_earlier (later ++ step ∷ []) before place earlier.0
            (ap (λ (l : List Step). position l place) (sym cut) ∙ earlier.1) earlier.2;
        together = mine.together;
        outside = mine.outside;
        caller = mine.caller;
        idle = mine.idle;
        worker = mine.worker;
        busy = λ op strand called among idle. well.2 mine.spot op strand mine.there called among idle;
      },
    )

may_but : (past : List Line) (thread : ℕ) (does : Doing) → MayDo plain past thread does → MayDoBut past thread does
may_but past thread (doing.Claim thing) may = tt
may_but past thread (doing.Call op word context strand thing) may = may
may_but past thread (doing.Back op) may = may
may_but past thread (doing.Done op code size) may = may
may_but past thread (doing.Begin op code size) may = may
may_but past thread (doing.End op) may = may
may_but past thread (doing.Throw op) may = may
may_but past thread (doing.Drop op) may = may
may_but past thread (doing.Release thing) may = may
may_but past thread (doing.Lock lock) may = may
may_but past thread (doing.Unlock lock) may = may
may_but past thread (doing.Mark mark) may = may
may_but past thread (doing.After mark) may = may
may_but past thread (doing.Cancel thing) may = may
may_but past thread (doing.Work context) may = may
may_but past thread (doing.Stop context) may = may
may_but past thread (doing.Restart context) may = may

legal_but : (past : List Line) → IsLegalSoFar plain past → IsLegalBut past
legal_but [] legal = tt
legal_but (line ∷ past) legal = (legal_but past legal.0, may_but past line.thread line.does legal.1.rules)

-- what is held at the end

outside_thread : (ops : List ℕ) (thread other : ℕ) → frame_of ops thread ≡ Outside other → thread ≡ other
outside_thread [] thread other is = cc
outside_thread (op ∷ ops) thread other is = cc

-- who writes two lines does so on one thread
pub writer_thread : (run : List Line) → IsLegalSoFar loose run → (place other : ℕ) (one two : Spot)
    → spot_at run place ≡ Some one
    → spot_at run other ≡ Some two → writer one ≡ writer two → one.line.thread ≡ two.line.thread
writer_thread run legal place other one two there too same = by_frame (writer two) refl
  where
    by_frame : (f : Frame) → writer two ≡ f → one.line.thread ≡ two.line.thread
    by_frame (Outside thread) is =
        outside_thread (stack one.past one.line.thread) one.line.thread thread (same ∙ is)
        ∙ sym (outside_thread (stack two.past two.line.thread) two.line.thread thread is)
    by_frame (Execution op) is =
        (one_frame run one two op (begun_before run loose legal one (found run place one there).end op (same ∙ is))
        (begun_before run loose legal two (found run other two too).end op is)).thread

pub position_stands : (before : List Step) (place index : ℕ) → position before place ≡ Some index → Stands before place
position_stands before place index is = stands_earlier [] before place index is (position_below before place index is)

pub is_held : {apart : List ℕ} (run : List Line) (facts : Facts) (steps : List Step) (placing : Placing)
    (place thing thread index : ℕ) (claim : Fact)
    → AreFacts apart thing run facts → IsPlacing run apart steps placing → IsClaimAt facts place thing claim
    → position_of placing place ≡ Some index → thread_of placing claim.tree ≡ Some thread
    → KeepsAll facts placing place claim → IsHeld run steps place thread thing
is_held {apart} run facts steps placing place thing thread index claim are kept claims put on keeps =
    let here = spot_of_fact thing run facts place claim are claims.there in
    let spot = here.0 in
    let stood = stands_step steps place (position_stands steps place index (sym (kept.places place) ∙ put)) in
    let step = stood.0 in
    let is_put : IsPut run steps step spot = record { stands = stood.1; there = ap (spot_at run) stood.2 ∙ here.1 } in
    record {
      claim = spot;
      there = here.1;
      claims = ap (λ (f : Fact). f.line.does) (sym here.2) ∙ claims.claims;
      step = step;
      put = is_put;
      here = stood.2;
      on = some_same step.line.thread thread
          (sym (kept.threads step spot is_put) ∙ ap (λ (f : Fact). thread_of placing f.tree) (sym here.2) ∙ on);
      kept = λ at later there gives stands.
          let counted : facts.lines ≡ length run = are.counted in
          let less : at < length run = spot_below run at later there in
          let keep = keeps at (omega arith) in
          let other = spot_of_fact thing run facts at keep.fact are keep.there in
          let same : other.0 ≡ later = some_same other.0 later (sym other.1 ∙ there) in
          let fact_is : keep.fact ≡ fact_of apart thing later = other.2 ∙ ap (fact_of apart thing) same in
          ⊎_elim (λ (before : at ≤ place).
          let behind : length spot.past < length later.past = gives.behind in
          let one : length spot.past ≡ place = (found run place spot here.1).place_is in
          let two : length later.past ≡ at = (found run at later there).place_is in
          omega arith)
          (λ rest. ⊎_elim (λ (distinct : keep.fact.writer ≢ claim.writer).
          distinct (ap (λ (f : Fact). f.writer) fact_is ∙ gives.same ∙ ap (λ (f : Fact). f.writer) (sym here.2)))
          (λ rest. ⊎_elim (λ (has : keep.fact.has ≡ true).
          let on_one : later.line.thread ≡ spot.line.thread = writer_thread run are.legal at place later spot there
          here.1 gives.same in
          let true_false : true ≡ false =
          sym has ∙ ap (λ (f : Fact). f.has) fact_is
          ∙ ap (λ (t : ℕ). is_taken_by (later.line ∷ later.past) t (writer later) (Thing thing)) on_one
          ∙ ap (λ (f : Frame). is_taken_by (later.line ∷ later.past) spot.line.thread f (Thing thing)) gives.same
          ∙ gives.gone in cc)
          (λ none. stands_somewhere steps at (sym (kept.places at) ∙ none) stands)
          rest) rest) keep.keeps;
    }

-- a claim may come, but for the rule that it breaks
claim_may_come : (past : List Line) (thread number thing : ℕ) (does copy : Doing) → copy ≡ renumbered number does
    → does ≡ doing.Claim thing → MayDoBut past thread copy
claim_may_come past thread number thing does copy is claimed =
    subst (λ (d : Doing). MayDoBut past thread d) (sym (is ∙ ap (renumbered number) claimed)) tt

pub is_witness : {apart : List ℕ} (run : List Line) (before : List Step) (last : Step) (thing claim : ℕ) (placing : Placing)
    → All (StandsAlone run) apart → IsPutWhole run apart before last placing → AreBehind run apart (position_of placing)
    → HoldsBoth run (last ∷ before) thing claim last.place → IsWitness run apart before last thing claim
is_witness {apart} run before last thing claim placing alone was behind holds = record {
  order = record {
    alone = alone;
    each = each_may_stand apart run (last ∷ before) [] (last ∷ before) refl
        (subst (λ (p : ℕ → Option ℕ). AreBehind run apart p) positions behind) was.well was.well;
    legal = (legal_but (lines_of before) was.legal, claim_may);
  };
  holds = holds;
  legal = was.legal;
}
  where
    positions : position_of placing ≡ position (last ∷ before)
    positions = λ i place. was.placing.places place i

    last_claims : IsHeld run (last ∷ before) last.place holds.second thing
    last_claims = holds.held_too

    spot_is : (was.well.1).spot ≡ last_claims.claim
    spot_is = some_same (was.well.1).spot last_claims.claim (sym (was.well.1).there ∙ last_claims.there)

    claim_may : MayDoBut (lines_of before) last.line.thread last.line.does
    claim_may = claim_may_come (lines_of before) last.line.thread ((was.well.1).copied.0) thing
        (was.well.1).spot.line.does last.line.does (was.well.1).copied.1
        (ap (λ (s : Spot). s.line.does) spot_is ∙ last_claims.claims)
