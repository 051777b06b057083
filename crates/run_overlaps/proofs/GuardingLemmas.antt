-- What stands where its guards want it is guarded in each order.
use Rattle.std.proofs.Common.{◌≡◌, ℕ, ◌<◌, List, [], ◌∷◌, ◌++◌, refl, ap, sym, subst, ◌∙◌, inl, inr, ⊎_elim, length, arith}
use Rattle.std.proofs.lemmas.Bool.{both_ways, cases_Bool, eq-eqb, eqb-true, or_cases}
use Rattle.std.specs.Prelude.{Bool, true, false, ◌⊎◌, Option, Some, None}
use Rattle.std.specs.List.{list_any}
use Rattle.run_lines.specs.declared.line.Doing.{Doing}
use Rattle.run_lines.specs.declared.line.Doing.TheVariants as doing
use Rattle.run_lines.specs.declared.line.Line.{Line}
use Rattle.run_rules.specs.declared.frame.Frame.{Frame}
use Rattle.run_rules.specs.declared.taking.Resource.TheVariants.{Lock, Thing}
use Rattle.run_rules.specs.declared.taking.Taking.{Taking}
use Rattle.run_rules.specs.Calls.{begins, context_of}
use Rattle.run_rules.specs.Legal.{IsLegalSoFar}
use Rattle.run_rules.specs.Stacks.{frame}
use Rattle.run_rules.specs.Takings.{is_taken_by, same_taking, taken, taken_after, without}
use Rattle.run_rules.proofs.TakingLemmas.{any-without}
use Rattle.run_orders.specs.declared.guard.Guard.{Guard}
use Rattle.run_orders.specs.declared.guard.Guard.TheVariants as guard
use Rattle.run_joins.specs.declared.joining.Joined.{Joined}
use Rattle.run_joins.specs.Joining.{KeepsJoin, is_late}
use Rattle.run_joins.proofs.JoiningLemmas.{behind_join, one_thread}
use Rattle.run_joins.proofs.ReachingLemmas.{place_of}
use Rattle.run_orders.specs.Guards.{Guards, UnderLock}
use Rattle.run_orders.specs.Joins.{IsBehind, IsOverBefore}
use Rattle.run_orders.proofs.JoinLemmas.{joins_suffice}
use Rattle.run_orders.specs.Laws.{NeverOverlaps}
use Rattle.run_orders.specs.Orders.{IsWorker, plain}
use Rattle.run_orders.specs.Trees.{Spot, spot_at, writer}
use Rattle.run_orders.proofs.TreeLemmas.{IsEnd, end_more, found, some_same, spot_of_end}
use Rattle.run_orders.proofs.BeginLemmas.{end_of_end, shorter}
use Rattle.run_orders.proofs.EndingLemmas.{nested}
use Rattle.run_orders.proofs.GuardLemmas.{guards_suffice}
use Rattle.run_orders.proofs.LockLemmas.{are_same, is_it, locked_by}
use Rattle.run_overlaps.specs.declared.guards.Guards as kept
use Rattle.run_overlaps.specs.Guarding.{AllKeep, IsExempt, IsGivenUp, IsGuardedBy, KeepsGuards, KeepsJoins, guard_of, worker_of}

-- each line stands where the guards want it

keep_end : (guards : kept.Guards) (joins : Option Joined) (later past : List Line) → AllKeep guards joins (later ++ past) → AllKeep guards joins past
keep_end guards joins [] past all = all
keep_end guards joins (line ∷ later) past all = keep_end guards joins later past all.0

keep_at : (guards : kept.Guards) (joins : Option Joined) (run : List Line) → AllKeep guards joins run → (spot : Spot) → IsEnd run (spot.line ∷ spot.past)
    → AllKeep guards joins (spot.line ∷ spot.past)
keep_at guards joins run all spot (later, parted) =
    keep_end guards joins later (spot.line ∷ spot.past) (subst (λ (l : List Line). AllKeep guards joins l) parted all)

keeps : (guards : kept.Guards) (joins : Option Joined) (run : List Line) → AllKeep guards joins run → (place : ℕ) (spot : Spot) → spot_at run place ≡ Some spot
    → (does : Doing) → spot.line.does ≡ does → KeepsGuards guards joins spot.past spot.line.thread does
keeps guards joins run all place spot there does is =
    subst (λ (d : Doing). KeepsGuards guards joins spot.past spot.line.thread d) is
    (keep_at guards joins run all spot (found run place spot there).end).1

-- the one thread of a context

begins_keep : (guards : kept.Guards) (joins : Option Joined) (past : List Line) (by op context thread : ℕ) (does : Doing) → KeepsGuards guards joins past by does
    → begins does op ≡ true → context_of past op ≡ Some context → worker_of guards context ≡ Some thread → by ≡ thread
begins_keep guards joins past by op context thread (doing.Begin number code size) keep is at alone =
    keep context thread (ap (λ (o : ℕ). context_of past o) (eqb-true number op is) ∙ at) alone
begins_keep guards joins past by op context thread _ keep is at alone = cc

alone_there : (guards : kept.Guards) (joins : Option Joined) (run : List Line) → AllKeep guards joins run → (context thread other : ℕ)
    → worker_of guards context ≡ Some thread → IsWorker run other context → other ≡ thread
alone_there guards joins run all context thread other is worker =
    let spot = worker.spot in
    sym worker.same
    ∙ ⊎_elim (λ (works : spot.line.does ≡ doing.Work context).
    keeps guards joins run all worker.place spot worker.there (doing.Work context) works thread is)
    (λ begun. begins_keep guards joins spot.past spot.line.thread begun.0 context thread spot.line.does
    (keeps guards joins run all worker.place spot worker.there spot.line.does refl) begun.1 begun.2 is) worker.works

-- the lock that a frame has

record IsLockedSince (past : List Line) (thread : ℕ) (who : Frame) (lock : ℕ) : Type 0 where
  pub locked : Spot
  pub end : IsEnd past (locked.line ∷ locked.past)
  pub locks : locked.line.does ≡ doing.Lock lock
  pub writes : writer locked ≡ who
  pub since : (later : Spot) → IsEnd past (later.line ∷ later.past) → later.line.does ≡ doing.Unlock lock →
      later.line.thread ≡ thread → writer later ≡ who → length locked.past < length later.past → ⊥

-- a line that takes a lock, by this frame
record TakesLock (by : ℕ) (writes : Frame) (does : Doing) (thread : ℕ) (who : Frame) (lock : ℕ) : Type 0 where
  pub does_it : does ≡ doing.Lock lock
  pub on : by ≡ thread
  pub writes_it : writes ≡ who

lock_is : (one other : ℕ) → Lock one ≡ Lock other → one ≡ other
lock_is one other e = cc

comes : (by : ℕ) (writes : Frame) (does : Doing) (all : List Taking) (thread : ℕ) (who : Frame) (lock : ℕ)
    → list_any (is_it (locked_by thread who lock)) (taken_after by writes does all) ≡ true
    → (list_any (is_it (locked_by thread who lock)) all ≡ true) ⊎ TakesLock by writes does thread who lock
comes by writes (doing.Lock mine) all thread who lock is =
    ⊎_elim
    (λ here. let same = are_same (locked_by by writes mine) (locked_by thread who lock) here in
    inr (record { does_it = ap doing.Lock (lock_is mine lock same.resource); on = same.thread; writes_it = same.who }))
    (λ behind. inl behind)
    (or_cases (same_taking (locked_by by writes mine) (locked_by thread who lock)) (list_any (is_it (locked_by thread who lock)) all) is)
comes by writes (doing.Claim thing) all thread who lock is =
    let mine : Taking = record { thread = by; frame = writes; resource = Thing thing } in
    ⊎_elim (λ here. let e : Thing thing ≡ Lock lock = (are_same mine (locked_by thread who lock) here).resource in cc)
    (λ behind. inl behind) (or_cases (same_taking mine (locked_by thread who lock)) (list_any (is_it (locked_by thread who lock)) all) is)
comes by writes (doing.Release thing) all thread who lock is =
    inl (any-without (is_it (locked_by thread who lock)) (record { thread = by; frame = writes; resource = Thing thing }) all is)
comes by writes (doing.Unlock mine) all thread who lock is =
    inl (any-without (is_it (locked_by thread who lock)) (locked_by by writes mine) all is)
comes by writes _ all thread who lock is = inl is

stack_plain : (line : Line) (past : List Line) (lock : ℕ) → line.does ≡ doing.Unlock lock
    → frame (line ∷ past) line.thread ≡ frame past line.thread
stack_plain line past lock is =
    ap (λ (d : Doing). frame (record { thread = line.thread; does = d } ∷ past) line.thread) is
    ∙ (rw (eq-eqb line.thread line.thread refl) refl)

given_up : (line : Line) (past : List Line) (lock : ℕ) → line.does ≡ doing.Unlock lock → IsGivenUp (line ∷ past) line.thread line.does
    → is_taken_by (line ∷ past) line.thread (frame past line.thread) (Lock lock) ≡ false
given_up line past lock is up =
    subst (λ (f : Frame). is_taken_by (line ∷ past) line.thread f (Lock lock) ≡ false) (stack_plain line past lock is)
    (subst (λ (d : Doing). IsGivenUp (line ∷ past) line.thread d) is up)

-- a line at the end of these is the last one, or before it

abbrev spot_of : Line → List Line → Spot
spot_of line past = record { line = line; past = past }

abbrev IsLastOr : Line → List Line → Spot → Type 0
IsLastOr line past spot = (spot_of line past ≡ spot) ⊎ IsEnd past (spot.line ∷ spot.past)

last_or : (line : Line) (past : List Line) (spot : Spot) → IsEnd (line ∷ past) (spot.line ∷ spot.past) → IsLastOr line past spot
last_or line past spot ([], parted) =
    let head : line ≡ spot.line = cc in
    let tail : past ≡ spot.past = cc in
    inl (ap (λ (l : Line). spot_of l past) head ∙ ap (λ (p : List Line). spot_of spot.line p) tail)
last_or line past spot (first ∷ later, parted) = let tail : past ≡ later ++ spot.line ∷ spot.past = cc in inr (later, tail)

locked_since : (guards : kept.Guards) (joins : Option Joined) (past : List Line) → AllKeep guards joins past → (thread : ℕ) (who : Frame) (lock : ℕ)
    → is_taken_by past thread who (Lock lock) ≡ true → IsLockedSince past thread who lock
locked_since guards joins [] all thread who lock is = cc
locked_since guards joins (line ∷ past) all thread who lock is =
    ⊎_elim
    (λ before.
    let was = locked_since guards joins past all.0 thread who lock before in
    record {
      locked = was.locked;
      end = (line ∷ was.end.0, ap (λ (l : List Line). line ∷ l) was.end.1);
      locks = was.locks;
      writes = was.writes;
      since = λ later end unlocks on writes less.
          ⊎_elim
          (λ (same : spot_of line past ≡ later). both_ways (is_taken_by (line ∷ past) thread who (Lock lock))
          (subst (λ (f : Frame). is_taken_by (line ∷ past) thread f (Lock lock) ≡ false)
          (ap (λ (s : Spot). writer s) same ∙ writes)
          (subst (λ (t : ℕ). is_taken_by (line ∷ past) t (frame past line.thread) (Lock lock) ≡ false)
          (ap (λ (s : Spot). s.line.thread) same ∙ on)
          (given_up line past lock (ap (λ (s : Spot). s.line.does) same ∙ unlocks) all.2))) is)
          (λ inside. was.since later inside unlocks on writes less) (last_or line past later end);
    })
    (λ takes. record {
      locked = record { line = line; past = past };
      end = ([], refl);
      locks = takes.does_it;
      writes = takes.writes_it;
      since = λ later end unlocks on writes less.
          ⊎_elim
          (λ (same : spot_of line past ≡ later).
          let no : doing.Lock lock ≡ doing.Unlock lock =
          sym takes.does_it ∙ ap (λ (s : Spot). s.line.does) same ∙ unlocks in cc)
          (λ inside. let more : length later.past < length past = shorter inside.0 later.line later.past past inside.1 in
          absurd (omega arith)) (last_or line past later end);
    })
    (comes line.thread (frame past line.thread) line.does (taken past) thread who lock is)

-- what wasn't there isn't there without something else
gone_too : (it gone : Taking) (all : List Taking) → list_any (is_it it) all ≡ false → list_any (is_it it) (without gone all) ≡ false
gone_too it gone all not = by_cases (list_any (is_it it) (without gone all)) refl
  where
    by_cases : (b : Bool) → list_any (is_it it) (without gone all) ≡ b → list_any (is_it it) (without gone all) ≡ false
    by_cases false is = is
    by_cases true is = absurd (both_ways (list_any (is_it it) all) not (any-without (is_it it) gone all is))

unlock_gone : (spot : Spot) (thread lock thing : ℕ) (who : Frame) → spot.line.does ≡ doing.Unlock lock
    → is_taken_by spot.past thread who (Thing thing) ≡ false
    → is_taken_by (spot.line ∷ spot.past) thread who (Thing thing) ≡ false
unlock_gone spot thread lock thing who is not =
    subst (λ (d : Doing). list_any (is_it (record { thread = thread; frame = who; resource = Thing thing }))
    (taken_after spot.line.thread (frame spot.past spot.line.thread) d (taken spot.past)) ≡ false) (sym is)
    (gone_too (record { thread = thread; frame = who; resource = Thing thing })
    (locked_by spot.line.thread (frame spot.past spot.line.thread) lock) (taken spot.past) not)

under_lock : (guards : kept.Guards) (joins : Option Joined) (run : List Line) → IsLegalSoFar plain run → AllKeep guards joins run → (thing lock place : ℕ)
    → guard_of guards thing ≡ Some (guard.Lock lock) → (claim : Spot) → spot_at run place ≡ Some claim
    → claim.line.does ≡ doing.Claim thing → is_taken_by claim.past claim.line.thread (writer claim) (Lock lock) ≡ true
    → UnderLock run lock thing claim
under_lock guards joins run legal all thing lock place is claim there claims held =
    let end = (found run place claim there).end in
    let deep : IsEnd run claim.past = end_more run claim.line claim.past end in
    let since = locked_since guards joins claim.past (keep_at guards joins run all claim end).0 claim.line.thread (writer claim) lock held in
    let locked = since.locked in
    let whole : IsEnd run (locked.line ∷ locked.past) = end_of_end run claim.past (locked.line ∷ locked.past) deep since.end in
    record {
      place = length locked.past;
      locked = locked;
      there = spot_of_end run locked.line locked.past whole;
      locks = since.locks;
      before = shorter since.end.0 locked.line locked.past claim.past since.end.1;
      same = since.writes;
      kept = λ at later there_too unlocks same less.
          let end_too = (found run at later there_too).end in
          let on = one_thread run legal later claim end_too end same in
          ⊎_elim
          (λ (behind : length claim.past < length later.past). record {
            behind = behind;
            same = same;
            gone =
                unlock_gone later claim.line.thread lock thing (writer claim) unlocks
                (subst (λ (f : Frame). is_taken_by later.past claim.line.thread f (Thing thing) ≡ false) same
                (subst (λ (t : ℕ). is_taken_by later.past t (writer later) (Thing thing) ≡ false) on
                (keeps guards joins run all at later there_too (doing.Unlock lock) unlocks thing is)));
          })
          (λ rest. ⊎_elim
          (λ (before : length later.past < length claim.past).
          absurd (since.since later (nested run claim later end end_too before) unlocks on same less))
          (λ (e : length later.past ≡ length claim.past).
          let equal : later ≡ claim =
          some_same later claim (sym (spot_of_end run later.line later.past end_too) ∙ ap (spot_at run) e
          ∙ spot_of_end run claim.line claim.past end) in
          let no : doing.Unlock lock ≡ doing.Claim thing = sym unlocks ∙ ap (λ (s : Spot). s.line.does) equal ∙ claims in cc) rest)
          (three (length claim.past) (length later.past));
    }
  where
    three : (a b : ℕ) → (a < b) ⊎ ((b < a) ⊎ (b ≡ a))
    three a b = grind (arith)

-- a claim where its guard is
guarded : (guards : kept.Guards) (joins : Option Joined) (run : List Line) → IsLegalSoFar plain run → AllKeep guards joins run
    → (thing place : ℕ) (how : Guard) → guard_of guards thing ≡ Some how → (claim : Spot) → spot_at run place ≡ Some claim
    → claim.line.does ≡ doing.Claim thing → IsGuardedBy guards claim.past claim.line.thread how → Guards run how thing claim
guarded guards joins run legal all thing place (guard.Strand strand) is claim there claims held =
    record { op = held.0; claims = held.1; on = held.2 }
guarded guards joins run legal all thing place (guard.Lock lock) is claim there claims held =
    under_lock guards joins run legal all thing lock place is claim there claims held
guarded guards joins run legal all thing place (guard.Thread thread) is claim there claims held =
    ⊎_elim (λ outside. inl outside)
    (λ works. inr (record {
      op = works.0;
      context = works.1;
      claims = works.2;
      of_context = works.3;
      alone = λ other worker. alone_there guards joins run all works.1 thread other works.4 worker;
    })) held

claim_keeps : (guards : kept.Guards) (joins : Option Joined) (run : List Line) → AllKeep guards joins run → (thing place : ℕ) (how : Guard)
    → guard_of guards thing ≡ Some how → (claim : Spot) → spot_at run place ≡ Some claim → claim.line.does ≡ doing.Claim thing
    → IsGuardedBy guards claim.past claim.line.thread how ⊎ IsExempt joins claim.past claim.line.thread thing
claim_keeps guards joins run all thing place how is claim there claims =
    keeps guards joins run all place claim there (doing.Claim thing) claims how is

-- where nothing is exempt, the guard suffices
without_join : (guards : kept.Guards) (joins : Option Joined) (run : List Line) → IsLegalSoFar plain run → AllKeep guards joins run
    → (thing : ℕ) (how : Guard) → guard_of guards thing ≡ Some how
    → ((past : List Line) (by : ℕ) → IsExempt joins past by thing → ⊥) → NeverOverlaps run thing
without_join guards joins run legal all thing how is none =
    guards_suffice run how thing legal (λ place claim there claims.
    ⊎_elim (λ held. guarded guards joins run legal all thing place how is claim there claims held)
    (λ (exempt : IsExempt joins claim.past claim.line.thread thing). absurd (none claim.past claim.line.thread exempt))
    (claim_keeps guards joins run all thing place how is claim there claims))

with_join : (guards : kept.Guards) (joined : Joined) (run : List Line) → IsLegalSoFar plain run → AllKeep guards (Some joined) run
    → KeepsJoin run joined → (thing : ℕ) (how : Guard) → guard_of guards thing ≡ Some how → is_late joined thing ≡ false
    → NeverOverlaps run thing
with_join guards joined run legal all join thing how is not =
    joins_suffice run how joined.join.thread joined.join.place thing legal (λ at claim there claims.
    ⊎_elim
    (λ (held : IsGuardedBy guards claim.past claim.line.thread how). ⊎_elim
    (λ (over : IsOverBefore run joined.join.place thing claim).
    inl (guarded guards (Some joined) run legal all thing at how is claim there claims held, over))
    (λ (behind : IsBehind run joined.join.thread joined.join.place at claim). inr behind)
    (join.claims thing at claim not there claims))
    (λ (exempt : IsExempt (Some joined) claim.past claim.line.thread thing).
    inr (behind_join run joined.join join.joins at claim there thing claims exempt.1
    (subst (λ (p : ℕ). joined.join.place < p) (place_of run at claim there) exempt.2)))
    (claim_keeps guards (Some joined) run all thing at how is claim there claims))

pub never_overlaps : (guards : kept.Guards) (joins : Option Joined) (run : List Line) → AllKeep guards joins run → IsLegalSoFar plain run
    → KeepsJoins run joins → (thing : ℕ) (how : Guard) → guard_of guards thing ≡ Some how → NeverOverlaps run thing
never_overlaps guards None run all legal join thing how is =
    without_join guards None run legal all thing how is (λ past by exempt. exempt)
never_overlaps guards (Some joined) run all legal join thing how is =
    ⊎_elim
    (λ (late : is_late joined thing ≡ true).
    without_join guards (Some joined) run legal all thing how is (λ past by exempt. both_ways (is_late joined thing) exempt.0 late))
    (λ (not : is_late joined thing ≡ false). with_join guards joined run legal all join thing how is not)
    (cases_Bool (is_late joined thing))
