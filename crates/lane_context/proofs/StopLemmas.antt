-- Why a call answers that the context is stopped.
use Rattle.std.proofs.Common.{◌≡◌, ◌≢◌, ◌⊎◌, inl, inr, ⊎_elim, ℕ, Bool, true, false, List, [], ◌∷◌, ◌++◌, Option, Some, None, refl, sym, ap, subst, ◌∙◌, append_assoc}
use Rattle.std.specs.Prelude.{◌||◌, ◌&&◌, ◌==◌, not, is_some, if◌then◌else◌}
use Rattle.std.proofs.lemmas.Bool.{and_parts}
use Rattle.std.proofs.lemmas.Bool.Decides.{eqb_tells}
use Rattle.std.proofs.lemmas.List.{append-nil}
use Rattle.lane_clock.specs.declared.found.Found.{Found}
use Rattle.lane_clock.specs.declared.step.ClockStep.{ClockStep}
use Rattle.lane_clock.specs.declared.step.ClockStep.TheVariants.{Load}
use Rattle.lane_clock.specs.Seats.{own}
use Rattle.lane_logs.specs.Labels.{Labelled, silent, steps_in}
use Rattle.lane_logs.specs.Parts.{looks_empty, looks_full}
use Rattle.lane_logs.specs.Stand.{shut}
use Rattle.lane_logs.proofs.LabelLemmas.{steps-append}
use Rattle.lane_turns.specs.declared.one.One.{One}
use Rattle.lane_turns.specs.declared.one.One.TheVariants as one
use Rattle.lane_turns.specs.declared.run_end.RunEnd.{RunEnd}
use Rattle.lane_turns.specs.declared.run_end.RunEnd.TheVariants as end
use Rattle.lane_turns.specs.declared.standing.RoundNow.{RoundNow}
use Rattle.lane_turns.specs.Attempts.{WorkerState}
use Rattle.lane_turns.specs.Batons.{LaneView}
use Rattle.lane_turns.specs.LaneOf.{base_in, lane_of}
use Rattle.lane_turns.specs.LaneValues.{HearsOf, LaneCameTo, LaneValue, Terms, Tries, handlers, reactor}
use Rattle.lane_turns.specs.Pens.{HasGone, PenView}
use Rattle.lane_turns.specs.Polling.{with_pen}
use Rattle.lane_turns.specs.ReactorPolling.{HadFailed, LeftRequest, LeftTime, lane_half}
use Rattle.lane_turns.specs.Turning.{log_half}
use Rattle.lane_turns.specs.Runs.{HasReadAs, HasRun, is_barred}
use Rattle.lane_turns.specs.Scanning.{HasLookedRound, TriedLast}
use Rattle.lane_turns.specs.Workers.{WorkerView}
use Rattle.lane_turns.proofs.ScanLemmas.{on_same}
use Rattle.lane_context.specs.StopCauses.{HasLoadedLast, IsOver, LaneCause, StopCause, StoppedByLane, StoppedByRead, StoppedFor, had_failed, keeps_reactor, loaded_over, no_round, other_round, round_over, was_asked, was_stopped}

-- other stops than those of a round
pub over_of : (round : RoundNow) (found : Found) → found.stops ≢ round.base → IsOver round found
over_of round found apart =
    let stops : Bool → Option ℕ = λ b. if b then None else Some round.base in
    ⊎_elim (λ (same : ((round.base == shut) ≡ true) × (round.base ≡ shut)). no_round (ap stops same.0))
    (λ (differ : ((round.base == shut) ≡ false) × (round.base ≢ shut)). was_stopped (ap stops differ.0) apart)
    (eqb_tells round.base shut)

differ : (a b : ℕ) → not (a == b) ≡ true → a ≢ b
differ a b is =
    ⊎_elim (λ (same : ((a == b) ≡ true) × (a ≡ b)). let it = same.0 in absurd (cc (is, it)))
    (λ (apart : ((a == b) ≡ false) × (a ≢ b)). apart.1)
    (eqb_tells a b)

-- who is barred has a cause
pub barred_cause : {H X : Type 0} (worker : WorkerState H X) (found : Found) → is_barred worker found ≡ true →
    StopCause worker found
barred_cause {H} {X} worker found barred = by_kept worker.kept refl
  where
    over : Bool
    over = not (found.stops == worker.seat.round.base)

    by_asked : (b : Bool) → worker.seat.stopped ≡ b → (b || over) ≡ true → StopCause worker found
    by_asked true asked is = was_asked asked
    by_asked false asked is = round_over (over_of worker.seat.round found (differ _ _ is))

    by_kept : (kept : Option (LaneValue H X)) → worker.kept ≡ kept → StopCause worker found
    by_kept (Some value) is = keeps_reactor is
    by_kept None is =
        by_asked worker.seat.stopped refl
        (sym (ap (λ kept. is_some kept || (worker.seat.stopped || over)) is) ∙ barred)

-- a read that bars a worker
pub by_read : {H X : Type 0} (old new : WorkerState H X) → HasReadAs true old new → StoppedByRead old new
by_read old new it =
    record {
      before = old;
      since = on_same old;
      found = it.found;
      read = it.looked.read;
      cause = barred_cause old it.found it.is;
    }

-- which is how a call of `run` is stopped
run_read : {H X : Type 0} (t : Tries H X) (lanes : ℕ) (old new : WorkerState H X) → HasRun t lanes end.Stopped old new →
    StoppedByRead old new
run_read t lanes old new run =
    subst (StoppedByRead old) (sym run.kept)
    (record {
      before = run.why.before;
      since = run.why.since;
      found = run.why.read.found;
      read = run.why.read.looked.read;
      cause = barred_cause run.why.before run.why.read.found run.why.read.is;
    })

pub run_stopped : {H X : Type 0} (t : Tries H X) (lanes : ℕ) (now : RunEnd) (old new : WorkerState H X) →
    HasRun t lanes now old new → now ≡ end.Stopped → StoppedByRead old new
run_stopped t lanes now old new run is = run_read t lanes old new (subst (λ e. HasRun t lanes e old new) is run)

loaded_last : (front : List Labelled) (load : Found) (old new : PenView) →
    HasGone (front ++ silent (Load load) ∷ []) old new →
    (steps : List ClockStep) × (own new.seat ≡ steps ++ Load load ∷ [])
loaded_last front load old new gone = (
  own old.seat ++ steps_in front,
  gone.steps ∙ ap (λ steps. own old.seat ++ steps) (steps-append front (silent (Load load) ∷ []))
      ∙ sym (append_assoc (own old.seat) (steps_in front) (Load load ∷ [])),
)

module _ {H X : Type 0} (t : Terms H X) where
  -- what a lane loaded last aren't its stops, or the reactor had failed
  abbrev LaneLeft : LaneValue H X → Type 0
  LaneLeft value =
      ((found : Found) × HasLoadedLast value found × (found.stops ≢ base_in value))
      ⊎ ((lane_half t.names (lane_of value)).failed ≡ true)

  same_base : (old new : LaneView) (pen : PenView) → new ≡ with_pen old pen → new.base ≡ old.base
  same_base old new pen moved = ap (λ (view : LaneView). view.base) moved

  lane_left : (old new : LaneValue H X) → LaneCameTo t one.Stopped old new → LaneLeft new
  lane_left (handlers (Some old)) (handlers (Some new)) it =
      let last = loaded_last (looks_full old.lane.lane old.lane.place it.note) it.load old.lane.pen new.lane.pen it.gone in
      inl (
        it.load,
        record { front = last.0; steps = last.1 },
        λ same. it.stopped (same ∙ same_base old.lane new.lane new.lane.pen it.moved),
      )
  lane_left (reactor (Some old)) (reactor (Some new)) it =
      ⊎_elim
      (λ (request : LeftRequest t.names old.lane new.lane).
      let last = loaded_last (looks_full old.lane.lane old.lane.place request.note) request.load old.lane.pen new.lane.pen
      request.gone in
      inl (
        request.load,
        record { front = last.0; steps = last.1 },
        λ same. request.stopped (same ∙ same_base old.lane new.lane new.lane.pen request.moved),
      ))
      (λ (other : LeftTime t.names old.lane new.lane ⊎ HadFailed t.names old.lane new.lane).
      ⊎_elim
      (λ (time : LeftTime t.names old.lane new.lane).
      let last = loaded_last (looks_empty t.names.script old.lane.lane old.lane.place) time.load old.lane.pen new.lane.pen
      time.gone in
      inl (
        time.load,
        record { front = last.0; steps = last.1 },
        λ same. time.stopped (same ∙ same_base old.lane new.lane new.lane.pen time.moved),
      ))
      (λ (had : HadFailed t.names old.lane new.lane).
      let log : new.lane.pen.log ≡ old.lane.pen.log = had.gone.log ∙ append-nil old.lane.pen.log in
      inr (ap (λ entries. (log_half t.names entries).failed) log ∙ had.failed))
      other)
      it.0
  lane_left (handlers None) new it = absurd it
  lane_left (handlers (Some old)) (handlers None) it = absurd it
  lane_left (handlers (Some old)) (reactor held) it = absurd it
  lane_left (reactor None) new it = absurd it
  lane_left (reactor (Some old)) (handlers held) it = absurd it
  lane_left (reactor (Some old)) (reactor None) it = absurd it

-- who heard of a lane and is in step has its stops
same_stops : (base : ℕ) (a b : WorkerView) → b.round ≡ a.round → b.in_step ≡ (a.in_step && (base == a.round.base)) →
    b.in_step ≡ true → base ≡ b.round.base
same_stops base a b round step is =
    let same = (and_parts a.in_step (base == a.round.base) (sym step ∙ is)).1 in
    ⊎_elim (λ (here : ((base == a.round.base) ≡ true) × (base ≡ a.round.base)).
    here.1 ∙ sym (ap (λ (r : RoundNow). r.base) round))
    (λ (apart : ((base == a.round.base) ≡ false) × (base ≢ a.round.base)).
    let none = apart.0 in absurd (cc (same, none)))
    (eqb_tells base a.round.base)

heard_stops : {H X : Type 0} (value : LaneValue H X) (a b : WorkerView) → HearsOf value a b → b.in_step ≡ true →
    base_in value ≡ b.round.base
heard_stops (handlers (Some view)) a b heard is = same_stops view.lane.base a b heard.round heard.in_step is
heard_stops (handlers None) a b heard is = absurd heard
heard_stops (reactor (Some view)) a b heard is = same_stops view.lane.base a b heard.round heard.in_step is
heard_stops (reactor None) a b heard is = absurd heard

module _ {H X : Type 0} (t : Tries H X) where
  -- a lane that the worker heard of
  lane_cause : (value : LaneValue H X) (mid : WorkerView) (new : WorkerState H X) → HearsOf value mid new.seat →
      LaneLeft t.terms value → LaneCause t value new
  lane_cause value mid new heard left =
      ⊎_elim
      (λ (read : (found : Found) × HasLoadedLast value found × (found.stops ≢ base_in value)).
      by_step read.0 read.1 read.2 new.seat.in_step refl)
      (λ failed. had_failed failed) left
    where
      by_step : (found : Found) → HasLoadedLast value found → found.stops ≢ base_in value → (b : Bool) →
          new.seat.in_step ≡ b → LaneCause t value new
      by_step found last apart true is =
          loaded_over last is
          (over_of new.seat.round found (λ same. apart (same ∙ sym (heard_stops value mid new.seat heard is))))
      by_step found last apart false is = other_round last apart is

  by_lane : (lanes : ℕ) (old new : WorkerState H X) → TriedLast t lanes one.Stopped old new → StoppedByLane t new
  by_lane lanes old new last =
      ⊎_elim (λ held. let nothing = held.nothing in absurd (cc nothing))
      (λ had.
      let left : LaneLeft t.terms had.after =
      ⊎_elim
      (λ same. subst (LaneLeft t.terms) (sym same)
      (lane_left t.terms had.worked.reached.earlier had.worked.last had.worked.reached.came))
      (λ more. let done = more.1 in absurd (cc done)) had.worked.rest in
      record { value = had.after; is = had.still; cause = lane_cause had.after had.mid new had.learned left })
      last.came.tried

  -- an answer of looks at lanes
  pub looks_stopped : (lanes : ℕ) (answer : One) (old mid new : WorkerState H X) →
      HasLookedRound t lanes answer mid new → answer ≡ one.Stopped → StoppedFor t old new
  looks_stopped lanes answer old mid new looked is =
      inr (by_lane lanes mid new (subst (λ a. HasLookedRound t lanes a mid new) is looked))
