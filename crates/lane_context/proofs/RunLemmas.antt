-- Calls of `poll_one` and `run`.
use Rattle.std.proofs.Common.{◌≡◌, ◌≢◌, inl, inr, ℕ, Bool, true, false, Option, Some, None, refl, sym, ap, subst, ◌∙◌}
use Rattle.std.specs.Prelude.{◌||◌, ◌==◌, not, is_some, IfSome}
use Rattle.turn_table.specs.Seated.{Lanes}
use Rattle.lane_clock.specs.declared.found.Found.{Found}
use Rattle.lane_turns.specs.declared.one.One.{One}
use Rattle.lane_turns.specs.declared.one.One.TheVariants as one
use Rattle.lane_turns.specs.declared.run_end.RunEnd.{RunEnd}
use Rattle.lane_turns.specs.declared.run_end.RunEnd.TheVariants as end
use Rattle.lane_turns.specs.Attempts.{IsSeated, WorkerState}
use Rattle.lane_turns.specs.LaneValues.{LaneValue, Tries}
use Rattle.lane_turns.specs.Runs.{CameLast, EndsAtOnce, EndsFor, HasReadAs, HasReadLeft, HasRun, HasSettled, HasTriedAndRead, MayHaveRead, ReadsAndTries, at_first, has_read, has_tried, is_barred, with_end}
use Rattle.lane_turns.specs.Scanning.{GoesOn, HasLooked, HasLookedRound, TriedLast}
use Rattle.lane_turns.proofs.ScanLemmas.{on_and_on, on_same}

-- who may begin something keeps no lane
pub keeps_none : {H X : Type 0} (kept : Option (LaneValue H X)) (b : Bool) → (is_some kept || b) ≡ false → kept ≡ None
keeps_none None b free = refl
keeps_none (Some value) b free = absurd (cc free)

-- what was read says the same of the worker before and behind it
pub barred_same : {H X : Type 0} (old new : WorkerState H X) (found : Found) → HasLooked old new found →
    is_barred old found ≡ is_barred new found
barred_same old new found looked =
    ap (λ kept. is_some kept || (old.seat.stopped || not (found.stops == old.seat.round.base))) (sym looked.kept)
    ∙ ap (λ stopped. is_some new.kept || (stopped || not (found.stops == old.seat.round.base))) (sym looked.read.stopped)
    ∙ ap (λ round. is_some new.kept || (new.seat.stopped || not (found.stops == round.base))) (sym looked.read.round)

pub looked_seated : {H X : Type 0} (lanes : Lanes) (old new : WorkerState H X) (found : Found) →
    HasLooked old new found → IsSeated lanes old → IsSeated lanes new
looked_seated lanes old new found looked is =
    record { seat = is.seat; is = looked.turns ∙ is.is; fits = is.fits }

-- why a call ends stays so where the worker had gone on before
pub ends_on : {H X : Type 0} (t : Tries H X) (lanes : ℕ) (now : RunEnd) (a b c : WorkerState H X) → GoesOn a b →
    EndsFor t lanes now b c → EndsFor t lanes now a c
ends_on t lanes end.Ended a b c on why =
    record { before = why.before; since = on_and_on a b why.before on why.since; settled = why.settled }
ends_on t lanes end.Stopped a b c on why =
    record { before = why.before; since = on_and_on a b why.before on why.since; read = why.read }
ends_on t lanes end.Idle a b c on why =
    record {
      before = why.before;
      mid = why.mid;
      since = on_and_on a b why.before on why.since;
      each = why.each;
      settled = why.settled;
    }
ends_on t lanes end.Fault a b c on why =
    record { before = why.before; since = on_and_on a b why.before on why.since; last = why.last }

-- where nothing was found to do, and what was read behind that ends the call
pub nothing_ends : {H X : Type 0} (t : Tries H X) (lanes : ℕ) (old mid new : WorkerState H X) (o : Option RunEnd) →
    GoesOn old mid → HasLookedRound t lanes one.Nothing old mid → IfSome o (λ now. HasSettled now mid new) →
    IfSome o (λ now. EndsFor t lanes now old new)
nothing_ends t lanes old mid new None on each settled = settled
nothing_ends t lanes old mid new (Some end.Ended) on each settled =
    record { before = mid; since = on; settled = settled }
nothing_ends t lanes old mid new (Some end.Stopped) on each settled =
    record {
      before = mid;
      since = on;
      read = record { found = settled.found; looked = settled.looked; is = settled.why };
    }
nothing_ends t lanes old mid new (Some end.Idle) on each settled =
    record { before = old; mid = mid; since = on_same old; each = each; settled = settled }
nothing_ends t lanes old mid new (Some end.Fault) on each settled = absurd settled.why

-- what was read before all looks ends a call
pub at_once : {H X : Type 0} (t : Tries H X) (lanes : ℕ) (now : RunEnd) (old new : WorkerState H X) →
    EndsAtOnce now old new → EndsFor t lanes now old new
at_once t lanes end.Ended old new settled = record { before = old; since = on_same old; settled = settled }
at_once t lanes end.Stopped old new read = record { before = old; since = on_same old; read = read }
at_once t lanes end.Idle old new why = absurd why
at_once t lanes end.Fault old new why = absurd why

-- and what was found behind a read that didn't
pub if_ends_on : {H X : Type 0} (t : Tries H X) (lanes : ℕ) (o : Option RunEnd) (a b c : WorkerState H X) →
    GoesOn a b → IfSome o (λ now. EndsFor t lanes now b c) → IfSome o (λ now. EndsFor t lanes now a c)
if_ends_on t lanes None a b c on why = why
if_ends_on t lanes (Some now) a b c on why = ends_on t lanes now a b c on why

-- an attempt that ends a call was the last that the worker did
pub came_last : {H X : Type 0} (t : Tries H X) (lanes : ℕ) (answer : One) (old new : WorkerState H X) →
    TriedLast t lanes answer old new → CameLast t lanes answer old new
came_last t lanes answer old new tried = record { before = old; since = on_same old; last = tried }

pub ended_on : {H X : Type 0} (old mid new : WorkerState H X) (now : RunEnd) → GoesOn old mid →
    new ≡ with_end mid now → GoesOn old new
ended_on old mid new now on kept =
    subst (GoesOn old) (sym kept) (record { seat = on.seat; misses = on.misses; numbers = on.numbers })

pub has_run : {H X : Type 0} (t : Tries H X) (lanes : ℕ) (now answer : RunEnd) (old mid ended new : WorkerState H X) →
    GoesOn old mid → EndsFor t lanes now mid ended → ReadsAndTries t lanes old ended → new ≡ with_end ended now →
    answer ≡ now → HasRun t lanes answer old new
has_run t lanes now answer old mid ended new on why turns kept same =
    subst (λ a. HasRun t lanes a old new) (sym same)
    record { ended = ended; why = ends_on t lanes now old mid ended on why; turns = turns; kept = kept }

-- a call that ends by a fault met it at its last attempt
pub met_fault : {H X : Type 0} (t : Tries H X) (lanes : ℕ) (now : RunEnd) (old new : WorkerState H X) →
    EndsFor t lanes now old new → now ≡ end.Fault → new.last ≡ Some end.Fault
met_fault t lanes now old new why is = (subst (λ e. EndsFor t lanes e old new) is why).last.came.last

-- it read, or did nothing
pub none_read : {H X : Type 0} (old new : WorkerState H X) → new ≡ old → MayHaveRead old new
none_read old new same = inl same

pub one_read : {H X : Type 0} (old new : WorkerState H X) (found : Found) → HasLooked old new found → MayHaveRead old new
one_read old new found looked = inr (found, looked)

-- what ends a call before all looks was read
pub read_at_once : {H X : Type 0} (t : Tries H X) (lanes : ℕ) (now : RunEnd) (old new : WorkerState H X) →
    EndsAtOnce now old new → ReadsAndTries t lanes old new
read_at_once t lanes end.Ended old new settled = has_read at_first (inr (settled.found, settled.looked))
read_at_once t lanes end.Stopped old new read = has_read at_first (inr (read.found, read.looked))
read_at_once t lanes end.Idle old new why = absurd why
read_at_once t lanes end.Fault old new why = absurd why

-- a read behind which others go first
pub read_alone : {H X : Type 0} (t : Tries H X) (lanes : ℕ) (old new : WorkerState H X) → HasReadLeft old new →
    ReadsAndTries t lanes old new
read_alone t lanes old new read = has_read at_first (inr (read.found, read.looked))

-- a read, and the looks behind it
pub read_and_tried : {H X : Type 0} (t : Tries H X) (lanes : ℕ) (old mid new : WorkerState H X) → HasReadLeft old mid →
    HasTriedAndRead t lanes mid new → ReadsAndTries t lanes old new
read_and_tried t lanes old mid new read tried = has_read (has_tried at_first read tried.tried) tried.read

-- one turn after another
pub turns_on : {H X : Type 0} (t : Tries H X) (lanes : ℕ) (a b : WorkerState H X) → ReadsAndTries t lanes a b →
    {c : WorkerState H X} → ReadsAndTries t lanes b c → ReadsAndTries t lanes a c
turns_on t lanes a b before at_first = before
turns_on t lanes a b before (has_read more read) = has_read (turns_on t lanes a b before more) read
turns_on t lanes a b before (has_tried more read tried) = has_tried (turns_on t lanes a b before more) read tried

-- who stopped the context may begin nothing, whatever is read
pub stopped_bars : {H X : Type 0} (worker : WorkerState H X) (found : Found) → worker.seat.stopped ≡ true →
    is_barred worker found ≡ true
stopped_bars worker found stopped =
    let either : (b : Bool) → (b || true) ≡ true = λ b. elim b as (λ b. (b || true) ≡ true) [ true ↦ refl | false ↦ refl ] in
    ap (λ s. is_some worker.kept || (s || not (found.stops == worker.seat.round.base))) stopped ∙ either (is_some worker.kept)

-- so a read by such a worker ends a call at once
pub stopped_ends : {H X : Type 0} (now : RunEnd) (old new : WorkerState H X) → EndsAtOnce now old new →
    old.seat.stopped ≡ true → (Some now ≡ Some end.Stopped) × HasReadAs true old new
stopped_ends end.Stopped old new read stopped = (refl, read)
stopped_ends end.Ended old new settled stopped =
    let bars = stopped_bars old settled.found stopped in
    let free = settled.why.0 in
    absurd (cc (bars, free))
stopped_ends end.Idle old new why stopped = absurd why
stopped_ends end.Fault old new why stopped = absurd why

-- and no other does
pub left_unstopped : {H X : Type 0} (old new : WorkerState H X) → HasReadLeft old new → old.seat.stopped ≡ true → ⊥
left_unstopped old new read stopped =
    let bars = stopped_bars old read.found stopped in
    let free = read.free in
    cc (bars, free)
