-- A reactor that failed drew a stop, and who takes in what its lane did knows that.
use Rattle.std.proofs.Common.{◌≡◌, ◌⊎◌, inl, inr, ℕ, Bool, true, false, cond, List, [], ◌∷◌, ◌++◌, Option, Some, None, refl, sym, ap, subst, ◌∙◌, arith}
use Rattle.std.proofs.lemmas.List.{append_assoc}
use Rattle.std.proofs.lemmas.List.Folds.{Any-from_list_any, list_any-append, list_any-from_Any}
use Rattle.std.specs.List.{list_any}
use Rattle.std.specs.Prelude.{◌||◌, nat_lt, slice_index, if◌then◌else◌}
use Rattle.asio_types.specs.declared.event.Event.{Event}
use Rattle.asio_types.specs.declared.outside.Point.{Point}
use Rattle.asio_types.specs.declared.outside.Point.TheVariants as point
use Rattle.asio_types.specs.declared.event.Event.TheVariants as event
use Rattle.session_script.specs.declared.act.Act.{Act}
use Rattle.session_script.specs.Script.{ScriptModel, act_of}
use Rattle.history_rules.specs.Legal.{reactor_after}
use Rattle.history_rules.specs.Performing.{performed_by, with_taken}
use Rattle.history_rules.specs.Requests.{reactor_after_take}
use Rattle.history_rules.specs.Settling.{settled}
use Rattle.history_rules.specs.State.{ReactorHalf, first_reactor}
use Rattle.history_rules.specs.Time.{at_last, at_time, next_time}
use Rattle.reactor_turns.proofs.ClockLemmas.{runs-take, settled-clock, time-done}
use Rattle.lane_clock.specs.declared.found.Change.TheVariants as change
use Rattle.lane_clock.specs.declared.found.Found.{Found}
use Rattle.lane_clock.specs.declared.step.ClockStep.{ClockStep}
use Rattle.lane_clock.specs.declared.step.ClockStep.TheVariants.{Draw, Load, Look}
use Rattle.lane_clock.specs.Knowledge.{StartOf}
use Rattle.lane_clock.specs.Seats.{ClockId, Remembers, SeatView, own}
use Rattle.lane_map.specs.LaneNumbers.{cells_of, reactor_lane}
use Rattle.lane_logs.specs.Cuts.{is_stop_draw}
use Rattle.lane_logs.specs.Half.{half_from}
use Rattle.lane_logs.specs.Labels.{Labelled, entries_in, shows, silent, steps_in}
use Rattle.lane_logs.specs.LaneLog.{AreParts, MayFollow, half_after}
use Rattle.lane_logs.specs.Knowing.{lists_of}
use Rattle.lane_logs.specs.Names.{SessionNames}
use Rattle.lane_logs.specs.Parts.{Part, TurnEnd, TurnStart, are_broken, end_labels, executed, failed, fails, fault_label, idle, is_broken, is_failing, labels_in, labels_of, looks_empty, missing, passes, start_labels, takes, tells, turned}
use Rattle.lane_logs.specs.ReactorTurns.{AreTold, EndsTurn, MayStartTurn, done_labels, none_told, one_told, point_event, start_event}
use Rattle.lane_logs.proofs.LabelLemmas.{entries-append, steps-append}
use Rattle.lane_turns.specs.declared.one.One.{One}
use Rattle.lane_turns.specs.declared.one.One.TheVariants as one
use Rattle.lane_turns.specs.declared.run_end.RunEnd.{RunEnd}
use Rattle.lane_turns.specs.declared.run_end.RunEnd.TheVariants as end
use Rattle.lane_turns.specs.Answers.{is_fault}
use Rattle.lane_turns.specs.Attempts.{HasTried, WorkerAt}
use Rattle.lane_turns.specs.Batons.{IsLane, LaneView, opener_known}
use Rattle.lane_turns.specs.KnownFaults.{KnowsAfterFault, KnowsFault, SomeStop}
use Rattle.lane_turns.specs.LaneOf.{has_failed, seat_of}
use Rattle.lane_turns.specs.LaneValues.{HearsOf, IsBaton, LaneCameTo, LaneValue, Rests, Terms, Tries, handlers, reactor}
use Rattle.lane_turns.specs.ReactorPolling.{FailedNext, TurnedNext}
use Rattle.lane_turns.specs.Runs.{last_end}
use Rattle.lane_turns.specs.Turning.{log_half}
use Rattle.lane_turns.specs.Workers.{WorkerView}
use Rattle.lane_turns.proofs.HalfLemmas.{done_half, half-append}
use Rattle.lane_turns.proofs.MeetingLemmas.{copied_steps}
use Rattle.lane_turns.proofs.ScanLemmas.{tried_seat}

-- a stop among the first of some steps, or behind others
or_true : (b : Bool) → (b || true) ≡ true
or_true true = refl
or_true false = refl

pub stop_front : (xs ys : List ClockStep) → SomeStop xs → SomeStop (xs ++ ys)
stop_front xs ys some =
    Any-from_list_any is_stop_draw (xs ++ ys)
    (list_any-append is_stop_draw xs ys
    ∙ ap (λ b. b || list_any is_stop_draw ys) (list_any-from_Any is_stop_draw xs some))

pub stop_behind : (xs ys : List ClockStep) → SomeStop ys → SomeStop (xs ++ ys)
stop_behind xs ys some =
    Any-from_list_any is_stop_draw (xs ++ ys)
    (list_any-append is_stop_draw xs ys
    ∙ ap (λ b. list_any is_stop_draw xs || b) (list_any-from_Any is_stop_draw ys some)
    ∙ or_true (list_any is_stop_draw xs))

pub stop_known : (xs all : List ClockStep) → StartOf xs all → SomeStop xs → SomeStop all
stop_known xs all start some = subst SomeStop (sym start.1) (stop_front xs start.0 some)

-- who remembers what another knew knows its fault
pub fault_remembered : (script : ScriptModel) (a b : SeatView) → Remembers a b → KnowsFault script a → KnowsFault script b
fault_remembered script a b remembers some =
    stop_known _ _ (remembers (reactor_lane script)) some

-- a part that broke off has a stop
fault_stops : (front : List Labelled) (found : Found) → SomeStop (steps_in (front ++ fault_label found ∷ []))
fault_stops front found =
    subst SomeStop (sym (steps-append front (fault_label found ∷ [])))
    (stop_behind (steps_in front) (Draw event.Fault change.Stop found ∷ [])
    (Any-from_list_any is_stop_draw (Draw event.Fault change.Stop found ∷ []) refl))

end_stops : (front : List Labelled) (end : TurnEnd) → is_failing end ≡ true → SomeStop (steps_in (front ++ end_labels end))
end_stops front (tells labels) isnt = absurd (cc isnt)
end_stops front (fails found) is = fault_stops front found

pub broken_stops : (script : ScriptModel) (lane : ℕ) (part : Part) → is_broken part ≡ true →
    SomeStop (steps_in (labels_in script lane part))
broken_stops script lane (idle step) is = absurd (cc is)
broken_stops script lane (executed part) is = absurd (cc is)
broken_stops script lane (turned part) is =
    end_stops (start_labels script lane part.place part.load part.drawn part.start) part.end is
broken_stops script lane (failed part) is =
    subst (λ labels. SomeStop (steps_in labels))
    (append_assoc (looks_empty script lane part.place) (silent (Load part.load) ∷ []) (fault_label part.drawn ∷ []))
    (fault_stops (looks_empty script lane part.place ++ silent (Load part.load) ∷ []) part.drawn)
broken_stops script lane (missing place note) is = absurd (cc is)

-- and so have parts of which one broke off
parts_stop : (script : ScriptModel) (lane : ℕ) (parts : List Part) → are_broken parts ≡ true →
    SomeStop (steps_in (labels_of script lane parts))
parts_stop script lane [] is = absurd (cc is)
parts_stop script lane (part ∷ parts) is =
    subst SomeStop (sym (steps-append (labels_of script lane parts) (labels_in script lane part)))
    (by_last (is_broken part) refl (λ earlier. parts_stop script lane parts earlier))
  where
    by_last : (b : Bool) → is_broken part ≡ b →
        (are_broken parts ≡ true → SomeStop (steps_in (labels_of script lane parts))) →
        SomeStop (steps_in (labels_of script lane parts) ++ steps_in (labels_in script lane part))
    by_last true last earlier =
        stop_behind (steps_in (labels_of script lane parts)) (steps_in (labels_in script lane part))
        (broken_stops script lane part last)
    by_last false last earlier =
        stop_front (steps_in (labels_of script lane parts)) (steps_in (labels_in script lane part))
        (earlier (ap (λ b. b || are_broken parts) (sym last) ∙ is))

-- no event but a fault makes the reactor fail
take_works : (script : ScriptModel) (told : Bool) (half : ReactorHalf) (a : ℕ) (found : Option Act) →
    act_of script a ≡ found → (reactor_after_take script told half a).failed ≡ half.failed
take_works script told half a None is =
    subst (λ f. (settled told (with_taken a (performed_by script a f half))).failed ≡ half.failed) (sym is)
    (settled-clock told (with_taken a half)).failed
take_works script told half a (Some act) is = (runs-take script told half a act is).failed

time_works : (script : ScriptModel) (told : Bool) (half : ReactorHalf) (to : Point) →
    (reactor_after script told half (point_event to)).failed ≡ half.failed
time_works script told half (point.Time now) = (settled-clock told (at_time script told now half)).failed
time_works script told half point.Last = (settled-clock told (at_last told half)).failed

start_works : (script : ScriptModel) (told : Bool) (half : ReactorHalf) (running : Bool) (load : Found) (start : TurnStart) →
    MayStartTurn script half running load start →
    (reactor_after script told half (start_event start)).failed ≡ half.failed
start_works script told half running load (takes note changes) may =
    take_works script told half note.op (act_of script note.op) refl
start_works script told half running load (passes shown) may =
    ap (λ (event : Event). (reactor_after script told half event).failed) may.next
    ∙ time_works script told half (next_time script half)

told_works : (script : ScriptModel) (told : Bool) (from : ReactorHalf) {labels : List Labelled} →
    AreTold script told from labels → (half_from script told from (entries_in labels)).failed ≡ from.failed
told_works script told from none_told = refl
told_works script told from (one_told {labels} op with_code size place found before may) =
    let done : List Labelled = done_labels script op with_code size place found in
    let half : ReactorHalf = half_from script told from (entries_in labels) in
    ap (λ entries. (half_from script told from entries).failed) (entries-append labels done)
    ∙ ap (λ (h : ReactorHalf). h.failed) (half-append script told from (entries_in labels) (entries_in done))
    ∙ ap (λ (h : ReactorHalf). h.failed) (done_half script op with_code size place found told half)
    ∙ (time-done script half op).failed
    ∙ told_works script told from before

end_works : (script : ScriptModel) (told : Bool) (from : ReactorHalf) (end : TurnEnd) → EndsTurn script told from end →
    is_failing end ≡ false → (half_from script told from (entries_in (end_labels end))).failed ≡ from.failed
end_works script told from (tells labels) ends works = told_works script told from ends.told_so
end_works script told from (fails found) ends works = absurd (cc works)

-- what a turn shows first
start_half : (script : ScriptModel) (told : Bool) (half : ReactorHalf) (lane place : ℕ) (load found : Found)
    (start : TurnStart) →
    half_from script told half (entries_in (start_labels script lane place load found start))
    ≡ reactor_after script told half (start_event start)
start_half script told half lane place load found (takes note changes) = refl
start_half script told half lane place load found (passes shown) =
    by_cell (nat_lt place (slice_index (cells_of script) lane))
  where
    by_cell : (within : Bool) →
        half_from script told half
        (entries_in
        (cond within (silent (Look lane place None) ∷ []) []
        ++ silent (Load load) ∷ shows shown change.Same found ∷ []))
        ≡ reactor_after script told half shown
    by_cell true = refl
    by_cell false = refl

either_false : (a b : Bool) → (a || b) ≡ false → (a ≡ false) × (b ≡ false)
either_false true b is = absurd (cc is)
either_false false b is = (refl, is)

module _ (names : SessionNames) (opener : List ClockStep) (lane : ℕ) (last : lane ≡ reactor_lane names.script) where
  behind : (parts : List Part) (more : List Labelled) →
      log_half names (entries_in (labels_of names.script lane parts ++ more))
      ≡ half_from names.script names.told (half_after names opener lane parts) (entries_in more)
  behind parts more =
      ap (log_half names) (entries-append (labels_of names.script lane parts) more)
      ∙ half-append names.script names.told (first_reactor names.script names.told)
      (entries_in (labels_of names.script lane parts)) (entries_in more)

  part_works : (parts : List Part) (one : Part) → (half_after names opener lane parts).failed ≡ false →
      MayFollow names opener lane parts one → is_broken one ≡ false →
      (log_half names (entries_in (labels_of names.script lane parts ++ labels_in names.script lane one))).failed ≡ false
  part_works parts (idle step) earlier may works =
      ap (λ (h : ReactorHalf). h.failed) (behind parts (silent step ∷ [])) ∙ earlier
  part_works parts (executed one) earlier may works =
      let strand = may.strand in absurd (omega (arith, strand, last))
  part_works parts (turned one) earlier may works =
      let half : ReactorHalf = half_after names opener lane parts in
      let front : List Labelled = start_labels names.script lane one.place one.load one.drawn one.start in
      let begun : ReactorHalf = reactor_after names.script names.told half (start_event one.start) in
      ap (λ (h : ReactorHalf). h.failed) (behind parts (front ++ end_labels one.end))
      ∙ ap (λ entries. (half_from names.script names.told half entries).failed)
      (entries-append front (end_labels one.end))
      ∙ ap (λ (h : ReactorHalf). h.failed)
      (half-append names.script names.told half (entries_in front) (entries_in (end_labels one.end)))
      ∙ ap (λ (h : ReactorHalf). (half_from names.script names.told h (entries_in (end_labels one.end))).failed)
      (start_half names.script names.told half lane one.place one.load one.drawn one.start)
      ∙ end_works names.script names.told begun one.end may.ends works
      ∙ start_works names.script names.told half _ one.load one.start may.starts
      ∙ earlier
  part_works parts (failed one) earlier may works = absurd (cc works)
  part_works parts (missing place note) earlier may works =
      ap (λ (h : ReactorHalf). h.failed) (behind parts (labels_in names.script lane (missing place note))) ∙ earlier

  -- where no part broke off, the reactor hasn't failed
  parts_work : (parts : List Part) → AreParts names opener lane parts → are_broken parts ≡ false →
      (half_after names opener lane parts).failed ≡ false
  parts_work [] are whole = refl
  parts_work (part ∷ parts) are whole =
      let apart = either_false (is_broken part) (are_broken parts) whole in
      part_works parts part (parts_work parts are.0 apart.1) are.1 apart.0

  parts_broke : (parts : List Part) → AreParts names opener lane parts →
      (half_after names opener lane parts).failed ≡ true → are_broken parts ≡ true
  parts_broke parts are broken = by_test (are_broken parts) refl
    where
      by_test : (b : Bool) → are_broken parts ≡ b → are_broken parts ≡ true
      by_test true is = is
      by_test false is = absurd (let works = parts_work parts are is in cc (works, broken))

-- the lane of a reactor that failed drew a stop
reactor_stopped : (names : SessionNames) (clock : ClockId) (view : LaneView) → IsLane names clock view →
    view.lane ≡ reactor_lane names.script → (log_half names view.pen.log).failed ≡ true → SomeStop (own view.pen.seat)
reactor_stopped names clock view is last broken =
    let opener : List ClockStep = opener_known names.script view.pen.seat in
    subst SomeStop (sym is.log.steps)
    (parts_stop names.script view.lane is.log.parts
    (parts_broke names opener view.lane last is.log.parts is.log.are
    (ap (λ log. (log_half names log).failed) (sym is.log.shown) ∙ broken)))

pub failure_drawn : {H X : Type 0} (t : Terms H X) (value : LaneValue H X) → IsBaton t value →
    has_failed value ≡ true → SomeStop (own (seat_of value))
failure_drawn t (handlers held) is broken = absurd (cc broken)
failure_drawn t (reactor (Some view)) is broken =
    reactor_stopped t.names t.clock view.lane is.is_lane is.last (is.keeps.failed ∙ broken)
failure_drawn t (reactor None) is broken = absurd is

-- an attempt that came to a fault drew a stop
turn_stopped : (names : SessionNames) (old new : LaneView) →
    TurnedNext names true old new ⊎ FailedNext names old new → SomeStop (own new.pen.seat)
turn_stopped names old new (inl did) =
    subst SomeStop (sym did.gone.steps)
    (stop_behind (own old.pen.seat) (steps_in (labels_in names.script old.lane (turned did.part)))
    (broken_stops names.script old.lane (turned did.part) did.failing))
turn_stopped names old new (inr did) =
    subst SomeStop (sym did.gone.steps)
    (stop_behind (own old.pen.seat) (steps_in (labels_in names.script old.lane (failed did.part)))
    (broken_stops names.script old.lane (failed did.part) refl))

-- and who takes in what the reactor's lane did then knows that
fault_heard : {H X : Type 0} (t : Terms H X) (before after : LaneValue H X) (old new : WorkerView) → IsBaton t after →
    LaneCameTo t one.Fault before after → HearsOf after old new → KnowsFault t.names.script new.pen.seat
fault_heard t (reactor (Some before)) (reactor (Some after)) old new is came heard =
    let n : ℕ = reactor_lane t.names.script in
    let number : after.lane.pen.seat.number ≡ n = is.is_lane.number ∙ is.last in
    stop_known (lists_of after.lane.pen.seat n) (lists_of new.pen.seat n)
    (subst (λ steps. StartOf steps (lists_of new.pen.seat n)) (copied_steps after.lane.pen.seat.known n)
    (heard.met.met.learns n))
    (subst (λ k. SomeStop (lists_of after.lane.pen.seat k)) number (turn_stopped t.names before.lane after.lane came.0))
fault_heard t (handlers (Some before)) (handlers (Some after)) old new is came heard = absurd came
fault_heard t (handlers (Some before)) (handlers None) old new is came heard = absurd came
fault_heard t (handlers (Some before)) (reactor after) old new is came heard = absurd came
fault_heard t (handlers None) after old new is came heard = absurd came
fault_heard t (reactor (Some before)) (handlers after) old new is came heard = absurd came
fault_heard t (reactor (Some before)) (reactor None) old new is came heard = absurd came
fault_heard t (reactor None) after old new is came heard = absurd came

module _ {H X : Type 0} (t : Tries H X) (lane : ℕ) where
  last_of_fault : (before last after : LaneValue H X) → Rests t.terms t.most one.Fault last after → after ≡ last
  last_of_fault before last after (inl same) = same
  last_of_fault before last after (inr rested) = absurd (let done = rested.1 in cc done)

  fault_known : (old new : WorkerAt) (kept : Option (LaneValue H X)) → HasTried t lane one.Fault old new kept →
      KnowsFault t.terms.names.script new.seat.pen.seat
  fault_known old new kept (inl held) = absurd (let same = held.nothing in cc same)
  fault_known old new kept (inr had) =
      let worked = had.worked in
      let came = worked.reached.came in
      fault_heard t.terms worked.reached.earlier had.after had.mid new.seat had.still
      (subst (λ v. LaneCameTo t.terms one.Fault worked.reached.earlier v)
      (sym (last_of_fault had.before worked.last had.after worked.rest)) came)
      had.learned

  fault_is : (answer : One) → is_fault answer ≡ true → answer ≡ one.Fault
  fault_is (one.Ran op mark) is = absurd (cc is)
  fault_is one.Turned is = absurd (cc is)
  fault_is one.Nothing is = absurd (cc is)
  fault_is one.Stopped is = absurd (cc is)
  fault_is one.Fault is = refl
  fault_is (one.Missing op) is = absurd (cc is)

  -- a worker whose last call ended by a fault knows it, also behind an attempt
  pub knows_after : (answer : One) (old new : WorkerAt) (kept : Option (LaneValue H X)) →
      HasTried t lane answer old new kept → (last : Option RunEnd) →
      KnowsAfterFault t.terms.names.script last old.seat.pen.seat →
      KnowsAfterFault t.terms.names.script (if is_fault answer then Some end.Fault else last) new.seat.pen.seat
  knows_after answer old new kept tried last knows = by_case (is_fault answer) refl
    where
      by_case : (b : Bool) → is_fault answer ≡ b →
          KnowsAfterFault t.terms.names.script (if b then Some end.Fault else last) new.seat.pen.seat
      by_case true is faulted =
          fault_known old new kept (subst (λ a. HasTried t lane a old new kept) (fault_is answer is) tried)
      by_case false is faulted =
          fault_remembered t.terms.names.script old.seat.pen.seat new.seat.pen.seat
          (tried_seat t lane answer old new kept tried).remembers (knows faulted)

-- and it does where its last call ended, which met a fault before it ended by one
pub known_at_end : (script : ScriptModel) (seat : SeatView) (last : Option RunEnd) (now : RunEnd) →
    KnowsAfterFault script last seat → (now ≡ end.Fault → last ≡ Some end.Fault) →
    KnowsAfterFault script (last_end last now) seat
known_at_end script seat (Some end.Fault) now knows met faulted = knows refl
known_at_end script seat (Some end.Ended) now knows met faulted =
    let it : now ≡ end.Fault = cc faulted in knows (met it)
known_at_end script seat (Some end.Stopped) now knows met faulted =
    let it : now ≡ end.Fault = cc faulted in knows (met it)
known_at_end script seat (Some end.Idle) now knows met faulted =
    let it : now ≡ end.Fault = cc faulted in knows (met it)
known_at_end script seat None now knows met faulted =
    let it : now ≡ end.Fault = cc faulted in knows (met it)
