-- What the reactor's lane draws is legal where it comes.
use Rattle.std.proofs.Common.{◌≡◌, ℕ, ◌<◌, Bool, true, false, cond, List, [], ◌∷◌, ◌++◌, None, inl, inr, length, take, refl, sym, ap, subst, ◌∙◌, arith}
use Rattle.std.specs.Prelude.{nat_lt, not, slice_index}
use Rattle.std.proofs.lemmas.Bool.{and_from, and_parts, not-true}
use Rattle.std.proofs.lemmas.List.{append-nil}
use lib.ListN.{get_elem?}
use Rattle.asio_types.specs.declared.event.Event.{Event}
use Rattle.asio_types.specs.declared.event.Event.TheVariants as event
use Rattle.asio_types.specs.declared.number.Lane.TheVariants as lane
use Rattle.asio_types.specs.declared.outside.Point.{Point}
use Rattle.asio_types.specs.declared.outside.Point.TheVariants as point
use Rattle.session_script.specs.Script.{ScriptModel}
use Rattle.session_script.specs.WellFormed.{IsWellFormed}
use Rattle.history_rules.specs.Legal.{MayHappen, reactor_after}
use Rattle.history_rules.specs.Order.{is_request, was_taken}
use Rattle.history_rules.specs.Performing.{performed}
use Rattle.history_rules.specs.Requests.{MayTell}
use Rattle.history_rules.specs.Rounds.{IsDrained, RoundIsOpen}
use Rattle.history_rules.specs.State.{ReactorHalf, State, phase_at}
use Rattle.history_rules.specs.Stopping.{MayStart}
use Rattle.history_rules.specs.Time.{IsIdle, at_last, at_time, next_time}
use Rattle.reactor_turns.proofs.ClockLemmas.{settled-clock}
use Rattle.lane_clock.specs.declared.found.Change.{Change}
use Rattle.lane_clock.specs.declared.found.Found.{Found}
use Rattle.lane_clock.specs.declared.note.Note.{Note}
use Rattle.lane_clock.specs.declared.step.ClockStep.{ClockStep}
use Rattle.lane_clock.specs.declared.step.ClockStep.TheVariants.{Load, Look}
use Rattle.lane_clock.specs.History.{ClockEvent, steps_under}
use Rattle.lane_clock.proofs.MomentLemmas.{Tail, tail_more, tail_refl}
use Rattle.lane_map.specs.LaneNumbers.{act_passes, asks_reactor, cells_of, home_lane, reactor_lane}
use Rattle.lane_map.proofs.NumberLemmas.{lane_count as lanes_counted}
use Rattle.lane_logs.specs.Half.{half_from}
use Rattle.lane_logs.specs.Labels.{Labelled, allots, entries_in, shows, silent}
use Rattle.lane_logs.specs.LaneLog.{FoundGoing, MayFollow, half_after, opener_after}
use Rattle.lane_logs.specs.Logs.{AreLogs, LogsView}
use Rattle.lane_logs.specs.Names.{SessionNames}
use Rattle.lane_logs.specs.Parts.{FailedPart, Part, TurnPart, TurnStart, executed, failed, fault_label, idle, labels_in, looks_empty, missing, passes, start_labels, takes, turned}
use Rattle.lane_logs.specs.ReactorTurns.{MayStartTurn, MayTakeNoted, point_event, start_event, take_change}
use Rattle.lane_logs.specs.SeatNumbers.{lane_count, opener_seat}
use Rattle.lane_logs.specs.Stand.{is_round_open, is_running_round, stand_of}
use Rattle.lane_logs.proofs.LabelLemmas.{entries-append}
use Rattle.history_merge.proofs.AllowanceLemmas.{may_turn}
use Rattle.history_merge.proofs.BetweenLemmas.{stand_since}
use Rattle.history_merge.proofs.DrawRoundLemmas.{lane_at}
use Rattle.history_merge.proofs.EachLabelLemmas.{empty_each}
use Rattle.history_merge.proofs.GoingLemmas.{IsDrawing, failed_draws, round_known}
use Rattle.history_merge.proofs.HalfLemmas.{half_from-append}
use Rattle.history_merge.proofs.HistoryLemmas.{AreLabelled, label_of}
use Rattle.history_merge.proofs.IdleLemmas.{IsSilent, is_idle, silent_none, silent_take}
use Rattle.history_merge.proofs.LabellingLemmas.{AreLabels, lane_are}
use Rattle.history_merge.proofs.PartLemmas.{Every, Follow, IsMadeAt, at_seam, every-append, every_at, every_so, follow_from, follows_at}
use Rattle.history_merge.proofs.FirstLemmas.{IsNextRequest}
use Rattle.history_merge.proofs.RequestLemmas.{request_next}
use Rattle.history_merge.proofs.RestingLemmas.{IsResting, rests, start_half, start_works, told_works}
use Rattle.history_merge.proofs.ShowsLemmas.{Shows}
use Rattle.history_merge.proofs.SinceLemmas.{half_within, labelled_at}
use Rattle.history_merge.proofs.SoFarLemmas.{state_at}
use Rattle.history_merge.proofs.SoLemmas.{IsSo}
use Rattle.history_merge.proofs.StoodLemmas.{has_stand, round_is_open}
use Rattle.history_merge.proofs.TurnAtLemmas.{IsTurnAt, at_of, half_before, turn_draws, turn_goes, turn_half, turn_may, turn_rests, turn_stands}
use Rattle.history_merge.proofs.TurnPartLemmas.{EachBehind, InTurn, StandsInTurn, each-append, each_at, it_fails, it_starts, it_tells, start_looks}
use Rattle.history_merge.proofs.TurnTakeLemmas.{TakesIn, turn_takes}

-- a turn that has begun is whole until something of it is told
start_whole : (script : ScriptModel) (told : Bool) (half : ReactorHalf) (running : Bool) (load : Found) (start : TurnStart) →
    MayStartTurn script half running load start →
    (reactor_after script told half (start_event start)).whole_turn ≡ true
start_whole script told half running load (takes note changes) may = (settled-clock told (performed script note.op half)).whole
start_whole script told half running load (passes shown) may =
    ap (λ shown. (reactor_after script told half shown).whole_turn) may.next ∙ by_point (next_time script half)
  where
    by_point : (to : Point) → (reactor_after script told half (point_event to)).whole_turn ≡ true
    by_point (point.Time now) = (settled-clock told (at_time script told now half)).whole
    by_point point.Last = (settled-clock told (at_last told half)).whole

silent_label : (xs before : List Labelled) (label : Labelled) (after : List Labelled) → Every IsSilent xs →
    xs ≡ before ++ label ∷ after → (shown : Event) (changes : Change) (found : Found) →
    label ≡ shows shown changes found → ⊥
silent_label xs before label after all is shown changes found drawn =
    subst IsSilent drawn
    (every_at IsSilent xs all (length before) label
    (ap (λ ys. get_elem? ys (length before)) is ∙ at_seam before label after))

silent_shows : (label : Labelled) → IsSilent label → Shows (λ other. ⊥) label
silent_shows (silent step) is = tt
silent_shows (shows shown changes found) is = is
silent_shows (allots act at place) is = tt

-- a failure by itself stands behind steps by themselves
abbrev AloneIn : List Labelled → Labelled → Type 0
AloneIn before (silent step) = Unit {0}
AloneIn before (shows shown changes found) = (shown ≡ event.Fault) × Every IsSilent before
AloneIn before (allots act at place) = Unit {0}

look_alone : (within : Bool) (at place : ℕ) → EachBehind AloneIn [] (cond within (silent (Look at place None) ∷ []) [])
look_alone true at place = (tt, tt)
look_alone false at place = tt

failed_in : (script : ScriptModel) (at : ℕ) (part : FailedPart) →
    EachBehind AloneIn [] (labels_in script at (failed part))
failed_in script at part =
    each-append AloneIn [] (looks_empty script at part.place) (silent (Load part.load) ∷ fault_label part.drawn ∷ [])
    (look_alone (nat_lt part.place (slice_index (cells_of script) at)) at part.place) (
      tt,
      (
        (
          refl,
          every-append IsSilent (looks_empty script at part.place) (silent (Load part.load) ∷ [])
              (empty_each IsSilent script at part.place tt) (tt, tt),
        ),
        tt,
      ),
    )

module _ (names : SessionNames) (well : IsWellFormed names.script) (logs : LogsView) (labels : ℕ → List Labelled)
    (logged : AreLogs names logs) (are : AreLabels names logs labels) (e : ClockEvent) (es : List ClockEvent)
    (tail : Tail (e ∷ es) logged.closed.history) (reactor : e.by ≡ reactor_lane names.script)
    (so : (a : List ClockEvent) → Tail a es → IsSo names logs labels are a) where
  abbrev script : ScriptModel
  script = names.script

  abbrev opener : List ClockStep
  opener = logs.lists (opener_seat script)

  abbrev s : State
  s = state_at script names.told labels es

  within : e.by < lane_count script
  within = let count = lanes_counted script in omega (arith, count, reactor)

  abbrev parts : List Part
  parts = (are.lanes e.by within).parts

  abbrev makes : Part → List Labelled
  makes = labels_in script e.by

  labelled : AreLabelled labels (e ∷ es)
  labelled = labelled_at names logs labels logged are (e ∷ es) tail

  abbrev at : IsMadeAt Part makes parts (length (steps_under e.by es)) (label_of labels es e)
  at = lane_at names logs labels logged are e es tail labelled.1 within

  -- in a part that draws a round is open
  open_now : (at : IsMadeAt Part makes parts (length (steps_under e.by es)) (label_of labels es e)) →
      IsDrawing names opener e.by at.earlier (makes at.part) → RoundIsOpen script s.context
  open_now at draws =
      round_is_open script (stand_of script (steps_under (opener_seat script) es)) s.context
      (has_stand names well logs labels logged are es (tail_more es e logged.closed.history tail) labelled.0)
      (ap (is_round_open script)
      (stand_since names logs labels logged are e es tail within at draws es (tail_refl es) (omega (arith, at.index)))
      ∙ (round_known names logs labels logged are e es tail within at draws).round)

  module _ (t : IsTurnAt names logs labels logged are e es tail within) where
    abbrev half : ReactorHalf
    half = half_before names logs labels logged are e es tail within t

    may : MayStartTurn script half (is_running_round script (opener_after names opener e.by t.earlier)) t.part.load t.part.start
    may = (turn_may names logs labels logged are e es tail within t).starts

    half_now : s.reactor ≡ half_from script names.told half (entries_in t.before)
    half_now = turn_half names logs labels logged are e es tail within t

    resting : IsResting half
    resting = turn_rests names logs labels logged are e es tail within t

    round : RoundIsOpen script s.context
    round =
        open_now (at_of names logs labels logged are e es tail within t)
        (turn_draws names logs labels logged are e es tail within t)

    abbrev first : List Labelled
    first = start_labels script e.by t.part.place t.part.load t.part.drawn t.part.start

    abbrev started : ReactorHalf
    started = reactor_after script names.told half (start_event t.part.start)

    started_half : half_from script names.told half (entries_in first) ≡ started
    started_half = start_half script names.told e.by half t.part.place t.part.load t.part.drawn t.part.start

    started_works : started.failed ≡ false
    started_works = start_works script names.told half _ t.part.load t.part.start may ∙ resting.works

    -- a request is taken, or time moves
    taken_by : (note : Note) (changes : Change) → MayTakeNoted script half note changes → s.reactor ≡ half →
        MayStart s.context lane.Reactor →
        IsNextRequest names well logs labels logged are es (tail_more es e logged.closed.history tail) (so es (tail_refl es)) note.op →
        MayHappen script names.told s (event.Take note.op)
    taken_by note changes may same allowed next =
        let both = and_parts (act_passes asks_reactor script note.op) (not (was_taken half note.op)) may.request in
        let fresh : was_taken s.reactor note.op ≡ false =
        ap (λ (r : ReactorHalf). was_taken r note.op) same ∙ not-true (was_taken half note.op) both.1 in
        record {
          turn = record {
            round = round;
            working = ap (λ (r : ReactorHalf). r.failed) same ∙ resting.works;
            told = ap (λ (r : ReactorHalf). r.due) same ∙ resting.due;
            drained = subst IsDrained (sym same) resting.drained;
            allowed = allowed;
          };
          untaken =
              and_from (is_request (phase_at s.context note.op)) (not (was_taken s.reactor note.op))
              ((so es (tail_refl es)).state.asking note.op both.0 next.called fresh) (ap not fresh);
          first = next.first;
        }

    passed_by : (to : Point) → next_time script s.reactor ≡ to → IsIdle script s →
        MayHappen script names.told s (point_event to)
    passed_by (point.Time now) next idly = record { idle = idly; next = next }
    passed_by point.Last next idly = record { idle = idly; next = next }

    looks_silent : (start : TurnStart) → Every IsSilent (start_looks script e.by t.part.place start)
    looks_silent (takes note changes) = (tt, tt)
    looks_silent (passes shown) =
        empty_each IsSilent script e.by t.part.place tt

    -- behind these labels a turn begins
    abbrev IsBegin : TurnStart → Type 0
    IsBegin start = t.before ≡ start_looks script e.by t.part.place start ++ silent (Load t.part.load) ∷ []

    started_by : (start : TurnStart) → t.part.start ≡ start → IsBegin start →
        MayStartTurn script half (is_running_round script (opener_after names opener e.by t.earlier)) t.part.load start →
        MayStart s.context lane.Reactor → s.reactor ≡ half → MayHappen script names.told s (start_event start)
    started_by (takes note changes) starts is may allowed same =
        let size = ap length is in
        taken_by note changes may same allowed
        (request_next names well logs labels logged are e es tail within t so note changes starts (omega (arith, size)))
    started_by (passes shown) starts is may allowed same =
        let to : Point = next_time script half in
        subst (MayHappen script names.told s) (sym may.next)
        (passed_by to (ap (next_time script) same)
        (is_idle names well logs labels logged are e es tail within t so is shown may allowed))

    turn_event : (shown : Event) →
        StandsInTurn script names.told e.by half t.part.place t.part.load t.part.drawn t.part.start t.before shown →
        (IsBegin t.part.start → MayStart s.context lane.Reactor) → MayHappen script names.told s shown
    turn_event shown (it_starts is) allowed =
        let silent_all : Every IsSilent t.before =
        subst (Every IsSilent) (sym is)
        (every-append IsSilent (start_looks script e.by t.part.place t.part.start) (silent (Load t.part.load) ∷ [])
        (looks_silent t.part.start) (tt, tt)) in
        started_by t.part.start refl is may (allowed is)
        (half_now ∙ ap (half_from script names.told half) (silent_none t.before silent_all))
    turn_event shown (it_tells rest op with_code size cell told_so tells is) allowed =
        let behind : List Labelled = rest ++ allots op (home_lane script op) cell ∷ [] in
        let entries : entries_in t.before ≡ entries_in first ++ entries_in rest =
        ap entries_in is
        ∙ (entries-append first behind
        ∙ ap (λ more. entries_in first ++ more)
        (entries-append rest (allots op (home_lane script op) cell ∷ []) ∙ append-nil (entries_in rest))) in
        let same : s.reactor ≡ half_from script names.told started (entries_in rest) =
        half_now
        ∙ (ap (half_from script names.told half) entries
        ∙ (half_from-append script names.told half (entries_in first) (entries_in rest)
        ∙ ap (λ r. half_from script names.told r (entries_in rest)) started_half)) in
        record {
          working =
              ap (λ (r : ReactorHalf). r.failed) same ∙ (told_works script names.told started told_so ∙ started_works);
          next = subst (λ r. MayTell script names.told r op with_code size) (sym same) tells;
          turn = λ none.
              turn_goes names logs labels logged are e es tail within t (so es (tail_refl es)).legal rest op cell told_so is;
        }
    turn_event shown (it_fails is) allowed =
        let same : s.reactor ≡ started =
        half_now ∙ (ap (λ made. half_from script names.told half (entries_in made)) is ∙ started_half) in
        record {
          once = ap (λ (r : ReactorHalf). r.failed) same ∙ started_works;
          when = inr (record {
            round = round;
            untouched =
                inl (ap (λ (r : ReactorHalf). r.whole_turn) same
                ∙ start_whole script names.told half _ t.part.load t.part.start may);
          });
        }

  -- the part in which the step stands is this one
  abbrev with_part : (p : Part) → at.part ≡ p → IsMadeAt Part makes parts (length (steps_under e.by es)) (label_of labels es e)
  with_part p same = record {
    later = at.later;
    part = p;
    earlier = at.earlier;
    before = at.before;
    after = at.after;
    parts_are = at.parts_are ∙ ap (λ q. at.later ++ q ∷ at.earlier) same;
    labels_are = ap makes (sym same) ∙ at.labels_are;
    index = at.index;
  }

  follows : (p : Part) → at.part ≡ p → MayFollow names opener e.by at.earlier p
  follows p same =
      follows_at Part makes (MayFollow names opener e.by) parts (length (steps_under e.by es)) (label_of labels es e)
      (with_part p same) (are.lanes e.by within).follow

  -- and the turn
  abbrev turn_of : (part : TurnPart) → at.part ≡ turned part → IsTurnAt names logs labels logged are e es tail within
  turn_of part same = record {
    later = at.later;
    part = part;
    earlier = at.earlier;
    before = at.before;
    after = at.after;
    parts_are = (with_part (turned part) same).parts_are;
    labels_are = (with_part (turned part) same).labels_are;
    index = at.index;
  }

  module _ (shown : Event) (changes : Change) (found : Found) (drawn : label_of labels es e ≡ shows shown changes found)
    where
      -- where a turn begins the reactor's lane has an allowance left
      may_begin : (t : IsTurnAt names logs labels logged are e es tail within) → t.before ≡ at.before →
          t.earlier ≡ at.earlier → IsBegin t t.part.start → MayStart s.context lane.Reactor
      may_begin t before earlier is =
          let looks : List Labelled = start_looks script e.by t.part.place t.part.start in
          let load : Labelled = silent (Load t.part.load) in
          let begin : at.before ≡ looks ++ load ∷ [] = sym before ∙ is in
          may_turn names well logs labels logged are e es tail labelled within shown changes found drawn so
          (subst (Every (Shows (λ other. ⊥))) (sym begin)
          (every_so IsSilent (Shows (λ other. ⊥)) silent_shows (looks ++ load ∷ [])
          (every-append IsSilent looks (load ∷ []) (looks_silent t t.part.start) (tt, tt))))
          t.part.load (length looks) (ap (λ xs. get_elem? xs (length looks)) begin ∙ at_seam looks load [])
          (subst (λ earlier. FoundGoing names opener e.by earlier t.part.load) earlier
          (turn_may names logs labels logged are e es tail within t).going) reactor

      -- a failure by itself
      alone_in : (part : FailedPart) → at.part ≡ failed part → AloneIn at.before (shows shown changes found)
      alone_in part same =
          subst (AloneIn at.before) drawn
          (each_at AloneIn [] at.before (label_of labels es e) at.after
          (subst (EachBehind AloneIn []) (with_part (failed part) same).labels_are (failed_in script e.by part)))

      failed_by : (part : FailedPart) → at.part ≡ failed part → MayHappen script names.told s shown
      failed_by part same =
          let may = follows (failed part) same in
          let draws = failed_draws names opener e.by at.earlier part may in
          let here = with_part (failed part) same in
          let alone = alone_in part same in
          let half : ReactorHalf = half_after names opener e.by at.earlier in
          let now : s.reactor ≡ half =
          half_within names logs labels logged are e es tail within here draws reactor es
          (tail_more es e logged.closed.history tail) (length at.before) at.index (omega arith)
          ∙ ap (half_from script names.told half)
          (silent_none (take (length at.before) at.before) (silent_take (length at.before) at.before alone.1)) in
          let resting : IsResting half =
          rests names opener e.by may.reactor at.earlier
          (lane_are names opener e.by at.earlier
          (follow_from Part makes (MayFollow names opener e.by) at.later (failed part ∷ at.earlier)
          (subst (Follow Part makes (MayFollow names opener e.by)) here.parts_are (are.lanes e.by within).follow)).0)
          may.working in
          subst (MayHappen script names.told s) (sym alone.0) (record {
            once = ap (λ (r : ReactorHalf). r.failed) now ∙ resting.works;
            when = inr (record {
              round = open_now here draws;
              untouched = inr (ap (λ (r : ReactorHalf). r.due) now ∙ resting.due);
            });
          })

      -- what a turn takes changes what it has to
      turn_changes : (part : TurnPart) → at.part ≡ turned part → (a : ℕ) → shown ≡ event.Take a →
          changes ≡ take_change script s.reactor a
      turn_changes part same a takes_it =
          let t = turn_of part same in
          let is = turn_may names logs labels logged are e es tail within t in
          let behind : TakesIn script names.told e.by (half t) at.before (shows shown changes found) =
          subst (TakesIn script names.told e.by (half t) at.before) drawn
          (each_at (TakesIn script names.told e.by (half t)) [] at.before (label_of labels es e) at.after
          (subst (EachBehind (TakesIn script names.told e.by (half t)) []) t.labels_are
          (turn_takes script names.told e.by (half t) part.place part.load part.drawn _ part.start part.end is.starts
          (reactor_after script names.told (half t) (start_event part.start)) is.ends))) in
          let took = behind a takes_it in
          let now : s.reactor ≡ half t =
          half_now t ∙ ap (half_from script names.told (half t)) (silent_none at.before took.silent_before) in
          took.changed ∙ ap (λ r. take_change script r a) (sym now)

      -- what the reactor's lane draws is legal, and a take changes what it has to
      record IsTurnEvent : Type 0 where
        may : MayHappen script names.told s shown
        changed : (a : ℕ) → shown ≡ event.Take a → changes ≡ take_change script s.reactor a

      by_part : (p : Part) → at.part ≡ p → IsTurnEvent
      by_part (idle step) same =
          absurd (silent_label (makes (idle step)) at.before (label_of labels es e) at.after (tt, tt)
          (with_part (idle step) same).labels_are shown changes found drawn)
      by_part (executed part) same =
          let may = follows (executed part) same in absurd (omega (arith, may.strand, reactor))
      by_part (turned part) same = record {
        may =
            let t = turn_of part same in
            turn_event t shown
            (subst (InTurn script names.told e.by (half t) part.place part.load part.drawn part.start at.before) drawn
            (turn_stands names logs labels logged are e es tail within t)) (may_begin t refl refl);
        changed = turn_changes part same;
      }
      by_part (failed part) same = record {
        may = failed_by part same;
        changed = λ a takes_it. absurd (let wrong : event.Take a ≡ event.Fault = sym takes_it ∙ (alone_in part same).0 in cc);
      }
      by_part (missing place note) same =
          absurd (silent_label (makes (missing place note)) at.before (label_of labels es e) at.after (tt, tt)
          (with_part (missing place note) same).labels_are shown changes found drawn)

      pub turn_legal : MayHappen script names.told s shown
      turn_legal = (by_part at.part refl).may

      pub turn_change : (a : ℕ) → shown ≡ event.Take a → changes ≡ take_change script s.reactor a
      turn_change = (by_part at.part refl).changed
