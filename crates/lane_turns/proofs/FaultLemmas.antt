-- A lane of the reactor that stops the context has a failure in its log.
use Rattle.std.proofs.Common.{◌≡◌, ℕ, Bool, true, false, List, [], ◌∷◌, ◌++◌, refl, sym, ap, subst, ◌∙◌, arith}
use Rattle.std.specs.Prelude.{◌||◌, Any}
use Rattle.std.specs.List.{list_any}
use Rattle.std.proofs.Math.Bool.{or-true}
use Rattle.std.proofs.lemmas.List.{map-append}
use Rattle.std.proofs.lemmas.List.Folds.{list_any-append, list_any-from_Any, list_any_none}
use Rattle.history_rules.specs.FromOutside.{has_fault, is_fault}
use Rattle.lane_clock.specs.declared.step.ClockStep.{ClockStep}
use Rattle.lane_clock.specs.declared.step.ClockStep.TheVariants.{Load}
use Rattle.lane_clock.specs.Knowledge.{StartOf}
use Rattle.lane_clock.specs.Seats.{ClockId, own}
use Rattle.lane_map.specs.LaneNumbers.{reactor_lane}
use Rattle.lane_logs.specs.declared.log.LogEntry.{LogEntry}
use Rattle.lane_logs.specs.Cuts.{NoneStops, is_stop_draw}
use Rattle.lane_logs.specs.Labels.{Labelled, entries_in, events_in, silent}
use Rattle.lane_logs.specs.LaneLog.{AreParts}
use Rattle.lane_logs.specs.Names.{SessionNames}
use Rattle.lane_logs.specs.Parts.{Part, TurnEnd, are_broken, end_labels, executed, failed, fails, fault_label, idle, is_failing, labels_in, labels_of, looks_empty, missing, start_labels, tells, turned}
use Rattle.lane_logs.proofs.LabelLemmas.{entries-append}
use Rattle.lane_turns.specs.Batons.{IsLane, LaneView, opener_known}
use Rattle.lane_turns.proofs.ReactorStopLemmas.{all_go_on}

-- whether the entries of these steps have a failure
abbrev shows_fault : List Labelled → Bool
shows_fault labels = has_fault (events_in (entries_in labels))

shows-append : (xs ys : List Labelled) → shows_fault (xs ++ ys) ≡ (shows_fault xs || shows_fault ys)
shows-append xs ys =
    ap (λ entries. has_fault (events_in entries)) (entries-append xs ys)
    ∙ ap has_fault (map-append (λ (entry : LogEntry). entry.event) (entries_in xs) (entries_in ys))
    ∙ list_any-append is_fault (events_in (entries_in xs)) (events_in (entries_in ys))

shown_behind : (xs ys : List Labelled) → shows_fault ys ≡ true → shows_fault (xs ++ ys) ≡ true
shown_behind xs ys is = shows-append xs ys ∙ ap (λ b. shows_fault xs || b) is ∙ or-true (shows_fault xs)

shown_before : (xs ys : List Labelled) → shows_fault xs ≡ true → shows_fault (xs ++ ys) ≡ true
shown_before xs ys is = shows-append xs ys ∙ ap (λ b. b || shows_fault ys) is

module _ (names : SessionNames) (opener : List ClockStep) (lane : ℕ) (last : lane ≡ reactor_lane names.script) where
  -- where a turn broke off
  end_shown : (end : TurnEnd) → is_failing end ≡ true → shows_fault (end_labels end) ≡ true
  end_shown (tells labels) isnt = absurd (cc isnt)
  end_shown (fails found) is = refl

  -- where a part broke off
  broken_shown : (parts : List Part) → AreParts names opener lane parts → are_broken parts ≡ true →
      shows_fault (labels_of names.script lane parts) ≡ true
  broken_shown [] are broken = absurd (cc broken)
  broken_shown (idle step ∷ parts) are broken =
      shown_before (labels_of names.script lane parts) (silent step ∷ []) (broken_shown parts are.0 broken)
  broken_shown (executed part ∷ parts) are broken =
      let strand = are.1.strand in absurd (omega (arith, strand, last))
  broken_shown (turned part ∷ parts) are broken =
      let start : List Labelled = start_labels names.script lane part.place part.load part.drawn part.start in
      shown_behind (labels_of names.script lane parts) (start ++ end_labels part.end)
      (shown_behind start (end_labels part.end)
      (end_shown part.end (first_breaks (is_failing part.end) (are_broken parts) broken are.1.working)))
    where
      first_breaks : (a b : Bool) → (a || b) ≡ true → b ≡ false → a ≡ true
      first_breaks true b either none = refl
      first_breaks false b either none = absurd (cc (either, none))
  broken_shown (failed part ∷ parts) are broken =
      shown_behind (labels_of names.script lane parts) (labels_in names.script lane (failed part))
      (shown_behind (looks_empty names.script lane part.place) (silent (Load part.load) ∷ fault_label part.drawn ∷ []) refl)
  broken_shown (missing place note ∷ parts) are broken =
      absurd (let working = are.1.working in cc (working, broken))

-- a lane of the reactor of whose first steps one stops has a failure in its log
pub fault_shown : (names : SessionNames) (clock : ClockId) (view : LaneView) (known : List ClockStep) →
    IsLane names clock view → view.lane ≡ reactor_lane names.script → StartOf known (own view.pen.seat) →
    Any (λ step. is_stop_draw step ≡ true) known → has_fault (events_in view.pen.log) ≡ true
fault_shown names clock view known is last start stops = by_test (are_broken is.log.parts) refl
  where
    opener : List ClockStep
    opener = opener_known names.script view.pen.seat

    among : list_any is_stop_draw (own view.pen.seat) ≡ true
    among =
        ap (list_any is_stop_draw) start.1 ∙ list_any-append is_stop_draw known start.0
        ∙ ap (λ b. b || list_any is_stop_draw start.0) (list_any-from_Any is_stop_draw known stops)

    by_test : (b : Bool) → are_broken is.log.parts ≡ b → has_fault (events_in view.pen.log) ≡ true
    by_test true broken =
        ap (λ log. has_fault (events_in log)) is.log.shown
        ∙ broken_shown names opener view.lane last is.log.parts is.log.are broken
    by_test false works =
        let none : list_any is_stop_draw (own view.pen.seat) ≡ false =
        list_any_none is_stop_draw (own view.pen.seat)
        (subst NoneStops (sym is.log.steps) (all_go_on names opener view.lane last is.log.parts is.log.are works)) in
        absurd (cc (among, none))
