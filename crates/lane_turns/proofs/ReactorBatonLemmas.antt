-- The reactor's lane, after an attempt.
use Rattle.std.proofs.Common.{◌≡◌, ◌⊎◌, ℕ, ◌+◌, Bool, true, false, cond, List, [], ◌∷◌, ◌++◌, Option, None, inl, inr, ⊎_elim, refl, sym, ap, subst, ◌∙◌, arith}
use Rattle.std.proofs.lemmas.List.{append_assoc, append-nil}
use Rattle.std.specs.Prelude.{◌||◌, ◌≤◌, nat_lt, slice_index, if◌then◌else◌}
use Rattle.session_script.specs.Script.{ScriptModel}
use Rattle.history_rules.specs.Legal.{reactor_after}
use Rattle.history_rules.specs.State.{ReactorHalf, first_reactor}
use Rattle.history_rules.specs.Time.{pending_count}
use Rattle.reactor_trait.specs.Reactor.{Outside, ReactorState}
use Rattle.proactor_core.specs.Proactor.{ProactorView}
use Rattle.lane_clock.specs.declared.found.Change.TheVariants as change
use Rattle.lane_clock.specs.declared.found.Found.{Found}
use Rattle.lane_clock.specs.declared.step.ClockStep.{ClockStep}
use Rattle.lane_clock.specs.declared.step.ClockStep.TheVariants.{Load, Look}
use Rattle.lane_clock.specs.Seats.{ClockId, own}
use Rattle.lane_map.specs.LaneNumbers.{cells_of, home_lane, reactor_lane}
use Rattle.lane_logs.specs.declared.log.LogEntry.{LogEntry}
use Rattle.lane_logs.specs.Knowing.{joined_count}
use Rattle.lane_logs.specs.Labels.{Labelled, silent, shows, entries_in, steps_in}
use Rattle.lane_logs.specs.LaneLog.{AreParts, half_after, opener_after}
use Rattle.lane_logs.specs.Names.{SessionNames}
use Rattle.lane_logs.specs.Parts.{FailedPart, Part, TurnEnd, TurnPart, TurnStart, are_broken, end_labels, executed, failed, fails, fault_label, idle, is_failing, labels_in, labels_of, looks_empty, missing, next_place, passes, start_labels, takes, takes_place, tells, turned}
use Rattle.lane_logs.specs.ReactorTurns.{AreTold, none_told, one_told, EndsTurn, MayStartTurn, done_labels, done_note, may_take, start_event}
use Rattle.lane_logs.specs.SeatNumbers.{opener_seat}
use Rattle.lane_logs.specs.Stand.{is_running_round}
use Rattle.lane_logs.proofs.LabelLemmas.{entries-append, steps-append}
use Rattle.lane_turns.specs.declared.one.One.{One}
use Rattle.lane_turns.specs.declared.one.One.TheVariants as one
use Rattle.lane_turns.specs.Batons.{IsLane, LaneView, opener_known}
use Rattle.lane_turns.specs.Pens.{PenView}
use Rattle.lane_turns.specs.Polling.{missed_too}
use Rattle.lane_turns.specs.ReactorPolling.{FailedNext, FoundNoRequest, FoundOtherWork, HadFailed, LeftRequest, LeftTime, MissedRequest, TurnCameTo, TurnedNext, turned_on}
use Rattle.lane_turns.specs.Turning.{HasTurnRoom, IsReactorBaton, KeepsTurns, log_half}
use Rattle.lane_turns.proofs.DrawnLemmas.{put_quiet}
use Rattle.lane_turns.proofs.HalfLemmas.{half-append}
use Rattle.lane_turns.proofs.LaneLogLemmas.{found_going, lane_goes_on, opener_is, part_log}
use Rattle.lane_turns.proofs.LaneStepLemmas.{lane_left, lane_loaded, lane_looked, lane_looked_on, lane_missed, or_none}
use Rattle.lane_turns.proofs.SteppingLemmas.{joined_on}

-- a log whose last event is a failure is that of a reactor that failed
ends_failed : (names : SessionNames) (labels : List Labelled) (found : Found) →
    (log_half names (entries_in (labels ++ fault_label found ∷ []))).failed ≡ true
ends_failed names labels found =
    ap (λ (log : List LogEntry). (log_half names log).failed) (entries-append labels (fault_label found ∷ []))
    ∙ ap (λ (half : ReactorHalf). half.failed)
    (half-append names.script names.told (first_reactor names.script names.told) (entries_in labels)
    (entries_in (fault_label found ∷ [])))

failed_behind : (names : SessionNames) (before front : List Labelled) (found : Found) →
    (log_half names (entries_in (before ++ (front ++ fault_label found ∷ [])))).failed ≡ true
failed_behind names before front found =
    ap (λ (labels : List Labelled). (log_half names (entries_in labels)).failed)
    (sym (append_assoc before front (fault_label found ∷ [])))
    ∙ ends_failed names (before ++ front) found

module _ (names : SessionNames) (opener : List ClockStep) (lane : ℕ) (last : lane ≡ reactor_lane names.script) where
  abbrev half_at : List Part → ReactorHalf
  half_at parts = half_after names opener lane parts

  end_failed : (before : List Labelled) (start : List Labelled) (end : TurnEnd) → is_failing end ≡ true →
      (log_half names (entries_in (before ++ (start ++ end_labels end)))).failed ≡ true
  end_failed before start (tells labels) isnt = absurd (cc isnt)
  end_failed before start (fails found) is = failed_behind names before start found

  -- where a part broke off, the reactor has failed
  broken_failed : (parts : List Part) → AreParts names opener lane parts → are_broken parts ≡ true →
      (half_at parts).failed ≡ true
  broken_failed [] are broken = absurd (cc broken)
  broken_failed (idle step ∷ parts) are broken =
      ap (λ (log : List LogEntry). (log_half names log).failed)
      (entries-append (labels_of names.script lane parts) (silent step ∷ [])
      ∙ append-nil (entries_in (labels_of names.script lane parts)))
      ∙ broken_failed parts are.0 broken
  broken_failed (executed part ∷ parts) are broken =
      let strand = are.1.strand in absurd (omega (arith, strand, last))
  broken_failed (turned part ∷ parts) are broken =
      end_failed (labels_of names.script lane parts)
      (start_labels names.script lane part.place part.load part.drawn part.start) part.end
      (first_breaks (is_failing part.end) (are_broken parts) broken are.1.working)
    where
      first_breaks : (a b : Bool) → (a || b) ≡ true → b ≡ false → a ≡ true
      first_breaks true b either none = refl
      first_breaks false b either none = absurd (cc (either, none))
  broken_failed (failed part ∷ parts) are broken =
      ap (λ (labels : List Labelled).
      (log_half names (entries_in (labels_of names.script lane parts ++ labels))).failed)
      (sym (append_assoc (looks_empty names.script lane part.place) (silent (Load part.load) ∷ [])
      (fault_label part.drawn ∷ [])))
      ∙ failed_behind names (labels_of names.script lane parts)
      (looks_empty names.script lane part.place ++ silent (Load part.load) ∷ []) part.drawn
  broken_failed (missing place note ∷ parts) are broken =
      absurd (let working = are.1.working in cc (working, broken))

  pub none_broken : (parts : List Part) → AreParts names opener lane parts → (half_at parts).failed ≡ false →
      are_broken parts ≡ false
  none_broken parts are works = by_test (are_broken parts) refl
    where
      by_test : (b : Bool) → are_broken parts ≡ b → are_broken parts ≡ false
      by_test true broken = absurd (let failed = broken_failed parts are broken in cc (failed, works))
      by_test false is = is

-- a turn takes nothing in
told_quiet : (script : ScriptModel) (told : Bool) (from : ReactorHalf) (n : ℕ) {labels : List Labelled} →
    AreTold script told from labels → joined_count n (steps_in labels) ≡ 0
told_quiet script told from n none_told = refl
told_quiet script told from n (one_told {labels} op with_code size place found before may) =
    let done : List Labelled = done_labels script op with_code size place found in
    ap (joined_count n) (steps-append labels done)
    ∙ joined_on n (steps_in labels) (steps_in done)
    (put_quiet n (nat_lt place (slice_index (cells_of script) (home_lane script op))) (home_lane script op) place
    (done_note op with_code size))
    ∙ told_quiet script told from n before

start_quiet : (script : ScriptModel) (n lane place : ℕ) (load found : Found) (start : TurnStart) →
    joined_count n (steps_in (start_labels script lane place load found start)) ≡ 0
start_quiet script n lane place load found (takes note changes) = refl
start_quiet script n lane place load found (passes shown) =
    by_cell (nat_lt place (slice_index (cells_of script) lane))
  where
    by_cell : (within : Bool) →
        joined_count n
        (steps_in
        (cond within (silent (Look lane place None) ∷ []) []
        ++ silent (Load load) ∷ shows shown change.Same found ∷ [])) ≡ 0
    by_cell true = refl
    by_cell false = refl

end_quiet : (script : ScriptModel) (told : Bool) (from : ReactorHalf) (n : ℕ) (end : TurnEnd) →
    EndsTurn script told from end → joined_count n (steps_in (end_labels end)) ≡ 0
end_quiet script told from n (tells labels) ends = told_quiet script told from n ends.told_so
end_quiet script told from n (fails found) ends = refl

turn_quiet : (script : ScriptModel) (told : Bool) (from : ReactorHalf) (n lane : ℕ) (part : TurnPart) →
    EndsTurn script told from part.end → joined_count n (steps_in (labels_in script lane (turned part))) ≡ 0
turn_quiet script told from n lane part ends =
    let front : List Labelled = start_labels script lane part.place part.load part.drawn part.start in
    ap (joined_count n) (steps-append front (end_labels part.end))
    ∙ joined_on n (steps_in front) (steps_in (end_labels part.end)) (end_quiet script told from n part.end ends)
    ∙ start_quiet script n lane part.place part.load part.drawn part.start

failed_quiet : (n lane place : ℕ) (load found : Found) (within : Bool) →
    joined_count n
    (steps_in (cond within (silent (Look lane place None) ∷ []) [] ++ silent (Load load) ∷ fault_label found ∷ [])) ≡ 0
failed_quiet n lane place load found true = refl
failed_quiet n lane place load found false = refl

-- the lane after a turn, by its next place
by_place : (start : TurnStart) (old : LaneView) (pen : PenView) →
    record {
      lane = old.lane;
      pen = pen;
      place = old.place + (if takes_place start then 1 else 0);
      base = old.base;
      running = old.running;
      missed = old.missed;
    }
    ≡ turned_on start old pen
by_place (takes note changes) old pen = refl
by_place (passes shown) old pen =
    let e : old.place + 0 ≡ old.place = omega arith in
    ap (λ n.
    record {
      lane = old.lane;
      pen = pen;
      place = n;
      base = old.base;
      running = old.running;
      missed = old.missed;
    }) e

turned_number : (start : TurnStart) (old : LaneView) (pen : PenView) → (turned_on start old pen).lane ≡ old.lane
turned_number (takes note changes) old pen = refl
turned_number (passes shown) old pen = refl

module _ (names : SessionNames) (clock : ClockId) (old new : LaneView) (is : IsLane names clock old)
    (last : old.lane ≡ reactor_lane names.script) where
  abbrev opener : List ClockStep
  opener = opener_known names.script old.pen.seat

  abbrev half : ReactorHalf
  half = log_half names old.pen.log

  half_is : half ≡ half_after names opener old.lane is.log.parts
  half_is = ap (log_half names) is.log.shown

  pub works_still : half.failed ≡ false → are_broken is.log.parts ≡ false
  works_still works =
      none_broken names opener old.lane last is.log.parts is.log.are
      (ap (λ (h : ReactorHalf). h.failed) (sym half_is) ∙ works)

  running_is : old.running ≡ is_running_round names.script (opener_after names opener old.lane is.log.parts)
  running_is = is.running_is ∙ ap (is_running_round names.script) (opener_is names clock old is)

  after_turn : (failing : Bool) → TurnedNext names failing old new → IsLane names clock new
  after_turn failing did =
      let part : TurnPart = did.part in
      subst (IsLane names clock) (by_place part.start old new.pen ∙ sym did.moved)
      (lane_goes_on names clock old (labels_in names.script old.lane (turned part)) new.pen
      (old.place + (if takes_place part.start then 1 else 0)) old.missed is did.gone
      (turn_quiet names.script names.told (reactor_after names.script names.told half (start_event part.start))
      (opener_seat names.script) old.lane part did.ends)
      (part_log names opener old.lane (own old.pen.seat) old.pen.log old.missed old.missed is.log (turned part)
      record {
        reactor = last;
        working = works_still did.works;
        next = did.at ∙ is.next;
        going = found_going names clock old is part.load did.going;
        starts =
            subst (λ b. MayStartTurn names.script (half_after names opener old.lane is.log.parts) b part.load part.start)
            running_is
            (subst (λ h. MayStartTurn names.script h old.running part.load part.start) half_is did.starts);
        ends =
            subst (λ h.
            EndsTurn names.script names.told
            (reactor_after names.script names.told h (start_event part.start)) part.end) half_is did.ends;
      }
      (or_none old.missed))
      (ap (λ n. n + (if takes_place part.start then 1 else 0)) is.next))

  after_failure : FailedNext names old new → IsLane names clock new
  after_failure did =
      let part : FailedPart = did.part in
      subst (IsLane names clock) (sym did.moved)
      (lane_goes_on names clock old (labels_in names.script old.lane (failed part)) new.pen old.place old.missed is did.gone
      (failed_quiet (opener_seat names.script) old.lane part.place part.load part.drawn
      (nat_lt part.place (slice_index (cells_of names.script) old.lane)))
      (part_log names opener old.lane (own old.pen.seat) old.pen.log old.missed old.missed is.log (failed part)
      record {
        reactor = last;
        working = works_still did.waits.works;
        next = did.at ∙ is.next;
        going = found_going names clock old is part.load did.going;
        pending = subst (λ h. 1 ≤ pending_count h) half_is did.waits.pending;
      }
      (or_none old.missed))
      (let e : next_place is.log.parts ≡ next_place is.log.parts + 0 = omega arith in is.next ∙ e))

  abbrev within : Bool
  within = nat_lt old.place (slice_index (cells_of names.script) old.lane)

  after_none : FoundNoRequest names old new ⊎ FoundOtherWork names old new → IsLane names clock new
  after_none (inl found) =
      subst (IsLane names clock) (sym found.moved) (lane_looked names clock old is new.pen within found.gone)
  after_none (inr found) =
      subst (IsLane names clock) (sym found.moved)
      (lane_looked_on names clock old is new.pen within found.load found.gone)

  after_stopped : LeftRequest names old new ⊎ (LeftTime names old new ⊎ HadFailed names old new) →
      IsLane names clock new
  after_stopped (inl left) =
      subst (IsLane names clock) (sym left.moved) (lane_left names clock old is new.pen left.note left.load left.gone)
  after_stopped (inr (inl left)) =
      subst (IsLane names clock) (sym left.moved)
      (lane_looked_on names clock old is new.pen within left.load left.gone)
  after_stopped (inr (inr had)) =
      subst (IsLane names clock) (sym had.moved) (lane_loaded names clock old is new.pen had.load had.gone)

  after_miss : (op : ℕ) → MissedRequest names op old new → IsLane names clock new
  after_miss op missed =
      subst (IsLane names clock) (ap (missed_too old new.pen) missed.it ∙ sym missed.moved)
      (lane_missed names clock old is new.pen missed.note (works_still missed.works)
      (λ strand. absurd (omega (arith, strand, last)))
      (λ same. ap (may_take names.script half) missed.it ∙ missed.none) missed.gone)

  same_number : (failing : Bool) → TurnedNext names failing old new → new.lane ≡ old.lane
  same_number failing did = ap (λ (v : LaneView). v.lane) did.moved ∙ turned_number did.part.start old new.pen

  module _ {X : Type 0} (faults : X → ℕ) (before after : ProactorView X) where
    lane_after : (one : One) → TurnCameTo names faults one old new before after → IsLane names clock new
    lane_after (one.Ran op mark) came = absurd came
    lane_after one.Turned came = after_turn false came.0
    lane_after one.Nothing came = after_none came.0
    lane_after one.Stopped came = after_stopped came.0
    lane_after one.Fault came = ⊎_elim (after_turn true) after_failure came.0
    lane_after (one.Missing op) came = after_miss op came.0

    number_after : (one : One) → TurnCameTo names faults one old new before after → new.lane ≡ old.lane
    number_after (one.Ran op mark) came = absurd came
    number_after one.Turned came = same_number false came.0
    number_after one.Nothing came =
        ⊎_elim (λ (found : FoundNoRequest names old new). ap (λ (v : LaneView). v.lane) found.moved)
        (λ (found : FoundOtherWork names old new). ap (λ (v : LaneView). v.lane) found.moved) came.0
    number_after one.Stopped came =
        ⊎_elim (λ (left : LeftRequest names old new). ap (λ (v : LaneView). v.lane) left.moved)
        (⊎_elim (λ (left : LeftTime names old new). ap (λ (v : LaneView). v.lane) left.moved)
        (λ (had : HadFailed names old new). ap (λ (v : LaneView). v.lane) had.moved)) came.0
    number_after one.Fault came =
        ⊎_elim (same_number true) (λ (did : FailedNext names old new). ap (λ (v : LaneView). v.lane) did.moved) came.0
    number_after (one.Missing op) came = ap (λ (v : LaneView). v.lane) came.0.moved

pub reactor_after_poll : {X : Type 0} (names : SessionNames) (state : X → ReactorState) (told : X → Option Outside)
    (faults : X → ℕ) (named : ℕ) (clock : ClockId) (old new : LaneView) (before after : ProactorView X) (one : One) →
    IsReactorBaton names state told faults named clock (record { lane = old; proactor = before }) →
    TurnCameTo names faults one old new before after →
    KeepsTurns names state told faults named (log_half names new.pen.log) after → HasTurnRoom names new.pen →
    IsReactorBaton names state told faults named clock (record { lane = new; proactor = after })
reactor_after_poll names state told faults named clock old new before after one is came keeps room = record {
  is_lane = lane_after names clock old new is.is_lane is.last faults before after one came;
  last = number_after names clock old new is.is_lane is.last faults before after one came ∙ is.last;
  keeps = keeps;
  room = room;
}
