-- An event of a turn of the reactor, by where it stands in its part; and that the turn goes on until its last completion.
use Rattle.std.proofs.Common.{◌≡◌, ℕ, ◌+◌, ◌<◌, Bool, true, false, List, [], ◌∷◌, ◌++◌, None, Some, inl, inr, length, refl, sym, ap, subst, ◌∙◌, arith}
use Rattle.std.specs.Prelude.{IsSome}
use mathlib.Core.Option.{some}
use lib.ListN.{get_elem?}
use Rattle.asio_types.specs.declared.event.Event.{Event}
use Rattle.asio_types.specs.declared.event.Event.TheVariants as event
use Rattle.asio_types.specs.declared.outside.Point.{Point}
use Rattle.asio_types.specs.declared.outside.Point.TheVariants as point
use Rattle.session_script.specs.Script.{ScriptModel}
use Rattle.history_rules.specs.Legal.{IsLegalSoFar, after_event, reactor_after}
use Rattle.history_rules.specs.State.{ReactorHalf, State}
use Rattle.history_rules.specs.Time.{next_time}
use Rattle.lane_clock.specs.declared.found.Change.{Change}
use Rattle.lane_clock.specs.declared.found.Change.TheVariants as change
use Rattle.lane_clock.specs.declared.found.Found.{Found}
use Rattle.lane_clock.specs.declared.step.ClockStep.{ClockStep}
use Rattle.lane_clock.specs.declared.step.ClockStep.TheVariants.{Draw, Load}
use Rattle.lane_clock.specs.History.{ClockEvent, steps_under}
use Rattle.lane_clock.proofs.KnownLemmas.{at_within, event as made_event}
use Rattle.lane_clock.proofs.MomentLemmas.{Tail, tail_more, tail_refl, under_length}
use Rattle.lane_map.specs.LaneNumbers.{home_lane}
use Rattle.lane_logs.specs.Half.{half_from}
use Rattle.lane_logs.specs.Labels.{Labelled, allots, entries_in, shows, silent}
use Rattle.lane_logs.specs.LaneLog.{IsTurnPart, MayFollow, half_after}
use Rattle.lane_logs.specs.Logs.{AreLogs, LogsView}
use Rattle.lane_logs.specs.Names.{SessionNames}
use Rattle.lane_logs.specs.Parts.{Part, TurnPart, TurnStart, labels_in, looks_empty, passes, start_labels, takes, turned}
use Rattle.lane_logs.specs.ReactorTurns.{AreTold, MayStartTurn, point_event, start_event}
use Rattle.lane_logs.specs.SeatNumbers.{lane_count, opener_seat}
use Rattle.history_merge.proofs.BetweenLemmas.{IsOwnMoment, own_moment, take_whole}
use Rattle.history_merge.proofs.EachLabelLemmas.{HoldsOf, empty_each, told_each}
use Rattle.history_merge.proofs.FrameLemmas.{RoundPart, part-after, round_after, round_part}
use Rattle.history_merge.proofs.GoingLemmas.{IsDrawing, turned_draws}
use Rattle.history_merge.proofs.HistoryLemmas.{label_of, shown_in}
use Rattle.history_merge.proofs.LabellingLemmas.{AreLabels, lane_are}
use Rattle.history_merge.proofs.PartLemmas.{Every, Follow, IsMadeAt, all_made, at_left, at_right, every-append, every_at, follow_from, follows_at}
use Rattle.history_merge.proofs.RestingLemmas.{IsResting, rests}
use Rattle.history_merge.proofs.SinceLemmas.{half_within, kept_since}
use Rattle.history_merge.proofs.SoFarLemmas.{state_at, state_next, state_with}
use Rattle.history_merge.proofs.TurnPartLemmas.{EachBehind, InTurn, each_at, turn_in}
use Rattle.history_merge.proofs.WhoseLemmas.{IsOthers}

-- the turn of the reactor goes on by this event
abbrev pub leaves_turn : Event → Bool
leaves_turn event.Fault = false
leaves_turn event.Ended = false
leaves_turn event.Stopped = false
leaves_turn event.Polled = false
leaves_turn _ = true

abbrev pub LeavesTurn : Labelled → Type 0
LeavesTurn (silent step) = Unit {0}
LeavesTurn (shows shown changes found) = leaves_turn shown ≡ true
LeavesTurn (allots act lane place) = Unit {0}

turn_left : (shown : Event) (part : RoundPart) → leaves_turn shown ≡ true → IsSome part.turn →
    IsSome (round_after shown part).turn
turn_left event.Fault part leaves going = absurd (cc)
turn_left event.Ended part leaves going = absurd (cc)
turn_left event.Stopped part leaves going = absurd (cc)
turn_left event.Polled part leaves going = absurd (cc)
turn_left (event.Take a) part leaves going = refl
turn_left (event.Tick now) part leaves going = refl
turn_left event.Last part leaves going = refl
turn_left (event.Stop None) part leaves going = going
turn_left (event.Stop (Some a)) part leaves going = going
turn_left event.Restart part leaves going = going
turn_left (event.Dropped o mark) part leaves going = going
turn_left other part leaves going = going

-- what others show leaves it
others_leave : (shown : Event) → IsOthers shown → leaves_turn shown ≡ true
others_leave event.Fault (inl is) = absurd (cc)
others_leave event.Fault (inr is) = absurd (cc)
others_leave event.Ended (inl is) = absurd (cc)
others_leave event.Ended (inr is) = absurd (cc)
others_leave event.Stopped (inl is) = absurd (cc)
others_leave event.Stopped (inr is) = absurd (cc)
others_leave event.Polled (inl is) = absurd (cc)
others_leave event.Polled (inr is) = absurd (cc)
others_leave other is = refl

holds_leaving : HoldsOf leaves_turn LeavesTurn
holds_leaving = record {
  events = λ shown is changes found. is;
  places = λ act lane place. tt;
  puts = λ lane place note. tt;
}

module _ (script : ScriptModel) (told : Bool) where
  point_starts : (to : Point) (part : RoundPart) → (round_after (point_event to) part).turn ≡ Some part.events
  point_starts (point.Time now) part = refl
  point_starts point.Last part = refl

  point_leaves : (to : Point) → leaves_turn (point_event to) ≡ true
  point_leaves (point.Time now) = refl
  point_leaves point.Last = refl

  module _ (lane place : ℕ) (half : ReactorHalf) (running : Bool) (load drawn : Found) where
    -- it begins by its first event
    turn_starts : (start : TurnStart) → MayStartTurn script half running load start → (part : RoundPart) →
        (round_after (start_event start) part).turn ≡ Some part.events
    turn_starts (takes note changes) may part = refl
    turn_starts (passes shown) may part =
        ap (λ shown. (round_after shown part).turn) may.next ∙ point_starts (next_time script half) part

    start_leaves : (start : TurnStart) → MayStartTurn script half running load start →
        Every LeavesTurn (start_labels script lane place load drawn start)
    start_leaves (takes note changes) may = (tt, (tt, (refl, tt)))
    start_leaves (passes shown) may =
        every-append LeavesTurn (looks_empty script lane place) _
        (empty_each LeavesTurn script lane place tt)
        (tt, (ap leaves_turn may.next ∙ point_leaves (next_time script half), tt))

  -- where the label of the first event stands
  start_at : (lane place : ℕ) (load drawn : Found) (start : TurnStart) → (k : ℕ) × (changes : Change)
      × (get_elem? (start_labels script lane place load drawn start) k
      ≡ some (shows (start_event start) changes drawn))
  start_at lane place load drawn (takes note changes) = (2, changes, refl)
  start_at lane place load drawn (passes shown) = (
    length (looks_empty script lane place) + 1,
    change.Same,
    at_right (looks_empty script lane place) (silent (Load load) ∷ shows shown change.Same drawn ∷ [])
        (length (looks_empty script lane place) + 1) 1 refl,
  )

module _ (names : SessionNames) (logs : LogsView) (labels : ℕ → List Labelled) (logged : AreLogs names logs)
    (are : AreLabels names logs labels) (e : ClockEvent) (es : List ClockEvent)
    (tail : Tail (e ∷ es) logged.closed.history) (within : e.by < lane_count names.script) where
  abbrev opener : List ClockStep
  opener = logs.lists (opener_seat names.script)

  abbrev parts : List Part
  parts = (are.lanes e.by within).parts

  abbrev makes : Part → List Labelled
  makes = labels_in names.script e.by

  -- the step stands in this turn
  pub record IsTurnAt : Type 0 where
    pub later : List Part
    pub part : TurnPart
    pub earlier : List Part
    pub before : List Labelled
    pub after : List Labelled
    pub parts_are : parts ≡ later ++ turned part ∷ earlier
    pub labels_are : makes (turned part) ≡ before ++ label_of labels es e ∷ after
    pub index : length (steps_under e.by es) ≡ length (all_made Part makes earlier) + length before

  abbrev pub at_of : IsTurnAt → IsMadeAt Part makes parts (length (steps_under e.by es)) (label_of labels es e)
  at_of t = record {
    later = t.later;
    part = turned t.part;
    earlier = t.earlier;
    before = t.before;
    after = t.after;
    parts_are = t.parts_are;
    labels_are = t.labels_are;
    index = t.index;
  }

  module _ (t : IsTurnAt) where
    pub turn_may : IsTurnPart names opener e.by t.earlier t.part
    turn_may =
        follows_at Part makes (MayFollow names opener e.by) parts (length (steps_under e.by es)) (label_of labels es e) (at_of t)
        (are.lanes e.by within).follow

    abbrev pub turn_draws : IsDrawing names opener e.by t.earlier (makes (turned t.part))
    turn_draws = turned_draws names opener e.by t.earlier t.part turn_may

    abbrev pub half_before : ReactorHalf
    half_before = half_after names opener e.by t.earlier

    pub turn_stands :
        InTurn names.script names.told e.by half_before t.part.place t.part.load t.part.drawn t.part.start t.before
        (label_of labels es e)
    turn_stands =
        each_at
        (InTurn names.script names.told e.by half_before t.part.place t.part.load t.part.drawn t.part.start) [] t.before
        (label_of labels es e) t.after
        (subst
        (EachBehind (InTurn names.script names.told e.by half_before t.part.place t.part.load t.part.drawn t.part.start) [])
        t.labels_are
        (turn_in names.script names.told e.by half_before t.part.place t.part.load t.part.drawn t.part.start t.part.end
        turn_may.ends))

    pub turn_half : (state_at names.script names.told labels es).reactor
        ≡ half_from names.script names.told half_before (entries_in t.before)
    turn_half =
        half_within names logs labels logged are e es tail within (at_of t) turn_draws turn_may.reactor es
        (tail_more es e logged.closed.history tail) (length t.before) t.index (omega arith)
        ∙ ap (λ made. half_from names.script names.told half_before (entries_in made)) (take_whole t.before (length t.before) refl)

    -- before it the reactor rests
    pub turn_rests : IsResting half_before
    turn_rests =
        rests names opener e.by turn_may.reactor t.earlier
        (lane_are names opener e.by t.earlier
        (follow_from Part makes (MayFollow names opener e.by) t.later (turned t.part ∷ t.earlier)
        (subst (Follow Part makes (MayFollow names opener e.by)) t.parts_are (are.lanes e.by within).follow)).0)
        turn_may.working

    -- at each of its completions the turn goes on
    module _ (legal : IsLegalSoFar names.script names.told (shown_in labels es)) (rest : List Labelled) (op cell : ℕ)
        (told_so : AreTold names.script names.told
        (reactor_after names.script names.told half_before (start_event t.part.start)) rest)
        (is : t.before
        ≡ start_labels names.script e.by t.part.place t.part.load t.part.drawn t.part.start
        ++ (rest ++ allots op (home_lane names.script op) cell ∷ [])) where
      abbrev Turns : State → Type 0
      Turns s = IsSome s.context.turn

      turn_on : (shown : Event) → leaves_turn shown ≡ true → (s : State) → Turns s →
          Turns (after_event names.script names.told s shown)
      turn_on shown leaves s going =
          subst (λ (part : RoundPart). IsSome part.turn) (sym (part-after names.script s.context shown))
          (turn_left shown (round_part s.context) leaves going)

      all_leave : Every LeavesTurn t.before
      all_leave =
          subst (Every LeavesTurn) (sym is)
          (every-append LeavesTurn (start_labels names.script e.by t.part.place t.part.load t.part.drawn t.part.start) _
          (start_leaves names.script names.told e.by t.part.place half_before _ t.part.load t.part.drawn t.part.start
          turn_may.starts)
          (every-append LeavesTurn rest (allots op (home_lane names.script op) cell ∷ [])
          (told_each LeavesTurn names.script leaves_turn holds_leaving (λ op size with_code. refl) names.told
          (reactor_after names.script names.told half_before (start_event t.part.start)) told_so) (tt, tt)))

      begun_at : (k : ℕ) × (changes : Change)
          × (get_elem? (start_labels names.script e.by t.part.place t.part.load t.part.drawn t.part.start) k
          ≡ some (shows (start_event t.part.start) changes t.part.drawn))
      begun_at =
          start_at names.script names.told e.by t.part.place t.part.load t.part.drawn t.part.start

      begun : IsOwnMoment names logs labels logged are e es tail within (at_of t) turn_draws begun_at.0
          (shows (start_event t.part.start) begun_at.1 t.part.drawn)
      begun =
          let first : List Labelled =
          start_labels names.script e.by t.part.place t.part.load t.part.drawn t.part.start in
          let x : Labelled = shows (start_event t.part.start) begun_at.1 t.part.drawn in
          own_moment names logs labels logged are e es tail within (at_of t) turn_draws begun_at.0 x
          (ap (λ xs. get_elem? xs begun_at.0) is
          ∙ (at_left first (rest ++ allots op (home_lane names.script op) cell ∷ []) begun_at.0
          (at_within first begun_at.0 x begun_at.2)
          ∙ begun_at.2))

      first_turn : Turns
          (state_at names.script names.told labels (made_event e.by (Draw (start_event t.part.start) begun_at.1 t.part.drawn) ∷ begun.older))
      first_turn =
          let s : State = state_at names.script names.told labels begun.older in
          subst Turns
          (sym (state_next names.script names.told labels (made_event e.by (Draw (start_event t.part.start) begun_at.1 t.part.drawn)) begun.older
          ∙ ap (λ label. state_with names.script names.told label s) begun.label))
          (subst (λ (part : RoundPart). IsSome part.turn)
          (sym (part-after names.script s.context (start_event t.part.start)))
          (subst IsSome
          (sym (turn_starts names.script names.told e.by t.part.place half_before _ t.part.load t.part.drawn t.part.start
          turn_may.starts (round_part s.context))) refl))

      pub turn_goes : IsSome (state_at names.script names.told labels es).context.turn
      turn_goes =
          let since : List ClockEvent = made_event e.by (Draw (start_event t.part.start) begun_at.1 t.part.drawn) ∷ begun.older in
          let grown = under_length e.by begun.older since (inr (tail_refl begun.older)) in
          kept_since names logs labels logged are e es tail within (at_of t) turn_draws legal turn_may.reactor Turns
          (λ j shown changes found there s going.
          turn_on shown (every_at LeavesTurn t.before all_leave j (shows shown changes found) there) s going)
          (λ s shown may others going. turn_on shown (others_leave shown others) s going) since begun.since
          (omega (arith, grown, begun.index)) first_turn
