-- The stops of a session are few: they fit the clock word.
use Rattle.std.proofs.Common.{◌≡◌, ◌≢◌, ℕ, zero, suc, ◌+◌, ◌*◌, ◌<◌, ◌≤◌, ◌^◌, Bool, true, false, cond, List, [], ◌∷◌, ◌++◌, Option, None, Some, inl, inr, length, map, refl, sym, ap, subst, arith}
use Rattle.std.specs.Prelude.{◌&&◌, ◌==◌, not, slice_get}
use Rattle.std.specs.List.{All}
use Rattle.std.proofs.Math.Dec.{eqb}
use Rattle.std.proofs.lemmas.Bool.{cases_eq, cases_lt, eq-eqb, ne_eqb}
use Rattle.std.proofs.lemmas.List.Elements.{All-head, All-tail}
use Rattle.std.proofs.lemmas.Option.{slice_get_within}
use mathlib.Core.Option.{some}
use lib.ListN.{get_elem?}
use Rattle.asio_types.specs.declared.event.Event.{Event}
use Rattle.asio_types.specs.declared.event.Event.TheVariants as event
use Rattle.asio_types.specs.declared.number.Lane.{Lane}
use Rattle.asio_types.specs.declared.code.Code.{Code}
use Rattle.session_script.specs.Lanes.{lane_of}
use Rattle.session_script.specs.Limits.{limits_of}
use Rattle.session_script.specs.Script.{Entry, ScriptModel, is_stop}
use Rattle.session_script.specs.WellFormed.{FitsRound, IsWellFormed, header_of}
use Rattle.session_script.specs.declared.act.Act.{Act}
use Rattle.session_script.specs.declared.round.Round.{Round}
use Rattle.session_script.proofs.PlacesLemmas.{acts_allowed}
use Rattle.history_rules.specs.FromOutside.{is_outside_stop}
use Rattle.history_rules.specs.Kinds.{is_act}
use Rattle.history_rules.specs.Legal.{IsLegalSoFar, MayHappen}
use Rattle.history_rules.specs.State.{first_state}
use Rattle.lane_clock.specs.declared.found.Change.{Change}
use Rattle.lane_clock.specs.declared.found.Found.{Found}
use Rattle.lane_clock.specs.declared.step.ClockStep.{ClockStep}
use Rattle.lane_clock.specs.History.{ClockEvent, IsSoundHistory, steps_under}
use Rattle.lane_clock.proofs.MomentLemmas.{Tail, sound_tail}
use Rattle.lane_map.specs.LaneNumbers.{cells_of, reactor_lane}
use Rattle.lane_map.proofs.NumberLemmas.{cell_count, lane_count as lanes_counted}
use Rattle.lane_logs.specs.Labels.{Labelled, allots, shows, silent}
use Rattle.lane_logs.specs.LaneLog.{MayFollow}
use Rattle.lane_logs.specs.Logs.{AreLogs, LogsView, session_layout}
use Rattle.lane_logs.specs.Names.{SessionNames}
use Rattle.lane_logs.specs.OpenerLog.{ClosedPart, Closes, MayFollowOpened, OpenerPart, closed, look_label, opened, opener_labels, resting, restarted}
use Rattle.lane_logs.specs.Parts.{Part, executed, failed, idle, labels_in, missing, turned}
use Rattle.lane_logs.specs.SeatNumbers.{lane_count, most_workers, opener_seat}
use Rattle.lane_logs.specs.WorkerLog.{MayFollowStopped, WorkerPart, stand_known, stopped, stops_drawn, waiting}
use Rattle.lane_logs.proofs.StandLemmas.{open_stand}
use Rattle.execution_laws.proofs.RecordRoomLemmas.{rounds-below}
use Rattle.reactor_turns.proofs.SummingLemmas.{one_if, summed, summed-both}
use Rattle.history_merge.proofs.AlikeLemmas.{never}
use Rattle.history_merge.proofs.BodyLaneLemmas.{IsOwn}
use Rattle.history_merge.proofs.CalledLemmas.{AreExpected}
use Rattle.history_merge.proofs.EachLabelLemmas.{calls_each, is_of_execution, looks_each}
use Rattle.history_merge.proofs.FewLemmas.{few_ended, few_faults, is_act_stop, stops_are}
use Rattle.history_merge.proofs.HistoryLemmas.{AreLabelled, label_of, shown_by, shown_in}
use Rattle.history_merge.proofs.LabellingLemmas.{AreLabels}
use Rattle.history_merge.proofs.OpenedLemmas.{legal_at}
use Rattle.history_merge.proofs.PartLemmas.{Every, Follow, all_made, every-append, every_at, every_made, every_so, labels_worker}
use Rattle.history_merge.proofs.PlacedLemmas.{is_led_by, led_once, total, total_sums}
use Rattle.history_merge.proofs.ShowsLemmas.{IsOfExecution, IsOfTurn, Shows, executed_shows, failed_shows, holds_shown, reactor_shows, shows_so, turned_shows}
use Rattle.history_merge.proofs.SinceLemmas.{legal_first}
use Rattle.history_merge.proofs.SoFarLemmas.{made_so_far, state_at}
use Rattle.history_merge.proofs.StopLemmas.{halts_of}
use Rattle.history_merge.proofs.TimesLemmas.{no_times, take_times, times, times-append}

-- the label shows an event that passes a test
abbrev shows_that : (Event → Bool) → Labelled → Bool
shows_that test (silent step) = false
shows_that test (shows shown changes found) = test shown
shows_that test (allots act lane place) = false

passing_total : (labels : ℕ → List Labelled) (test : Event → Bool) (es : List ClockEvent) →
    times test (shown_in labels es) ≡ total labels (λ n label. shows_that test label) es
passing_total labels test [] = refl
passing_total labels test (e ∷ es) =
    let rest = passing_total labels test es in
    let both = times-append test (shown_in labels es) (shown_by (label_of labels es e)) in
    let one = by_label (label_of labels es e) in
    omega (arith, rest, both, one)
  where
    by_label : (label : Labelled) → times test (shown_by label) ≡ one_if (shows_that test label)
    by_label (silent step) = refl
    by_label (shows shown changes found) = omega arith
    by_label (allots act lane place) = refl

-- sums
summed_has : (f : ℕ → ℕ) (a n : ℕ) → a < n → f a ≤ summed f n
summed_has f a zero within = absurd (omega (arith, within))
summed_has f a (suc n) within = elim (cases_eq a n) [
  | inl same ↦ let is = ap f same in omega (arith, is)
  | inr other ↦ let rest = summed_has f a n (omega (arith, within, other)) in omega (arith, rest)
]

summed_ones : (f : ℕ → ℕ) (n : ℕ) → ((m : ℕ) → m < n → f m ≤ 1) → summed f n ≤ n
summed_ones f zero each = omega arith
summed_ones f (suc n) each =
    let rest = summed_ones f n (λ m less. each m (omega (arith, less))) in
    let here = each n (omega arith) in omega (arith, rest, here)

-- where the first numbers give nothing, and so many behind them at most k each
summed_behind : (f : ℕ → ℕ) (a k n b : ℕ) → n ≤ a + b → ((m : ℕ) → m < a → f m ≡ 0) → ((m : ℕ) → m < n → f m ≤ k) →
    summed f n ≤ b * k
summed_behind f a k zero b less none each = omega arith
summed_behind f a k (suc n) zero less none each =
    let rest = summed_behind f a k n 0 (omega (arith, less)) none (λ m below. each m (omega (arith, below))) in
    let here = none n (omega (arith, less)) in omega (arith, rest, here)
summed_behind f a k (suc n) (suc b) less none each =
    let rest = summed_behind f a k n b (omega (arith, less)) none (λ m below. each m (omega (arith, below))) in
    let here = each n (omega arith) in omega (arith, rest, here)

-- an act that passes a test is there
pub act_there : (test : Act → Bool) (script : ScriptModel) (a : ℕ) → is_act test script a ≡ true → a < length script.acts
act_there test script a is = by_entry (slice_get script.acts a) refl
  where
    by_entry : (found : Option Entry) → slice_get script.acts a ≡ found → a < length script.acts
    by_entry None stands =
        absurd (let none : is_act test script a ≡ false = rw stands refl in never (is_act test script a) none is)
    by_entry (Some e) stands = slice_get_within script.acts a e stands

-- the workers of a script are few
either : (first : Bool) → cond first 16 16 ≤ 16
either true = omega arith
either false = omega arith

workers_allowed : (version : ℕ) → (limits_of version).workers ≤ 16
unfolding limits_of
workers_allowed version = either (eqb version 1)

workers_most : (script : ScriptModel) (rounds : List Round) → All (FitsRound (header_of script)) rounds →
    most_workers rounds ≤ 16
workers_most script [] all = omega arith
workers_most script (round ∷ rounds) all =
    let here = All-head (FitsRound (header_of script)) round rounds all in
    let rest = workers_most script rounds (All-tail (FitsRound (header_of script)) round rounds all) in
    let few = workers_allowed script.version in
    let most = here.1 in omega (arith, rest, few, most)

-- no stop from outside
abbrev IsInside : Event → Type 0
IsInside shown = is_outside_stop shown ≡ false

own_inside : (script : ScriptModel) (of : Lane) (shown : Event) → IsOwn script of shown → IsInside shown
own_inside script of (event.Stop (Some a)) own = refl
own_inside script of (event.Stop None) own = absurd own
own_inside script of other own = refl

execution_inside : (script : ScriptModel) (op : ℕ) (given : Code) (size : ℕ) (shown : Event) →
    IsOfExecution script op given size shown → IsInside shown
execution_inside script op given size shown (inl is) = ap is_outside_stop is
execution_inside script op given size shown (inr own) = own_inside script (lane_of script op) shown own

called_inside : (shown : Event) → is_of_execution shown ≡ true → IsInside shown
called_inside (event.Stop (Some a)) is = refl
called_inside (event.Stop None) is = absurd (cc)
called_inside other is = refl

turn_inside : (shown : Event) → IsOfTurn shown → IsInside shown
turn_inside (event.Stop (Some a)) is = refl
turn_inside (event.Stop None) is = absurd (cc)
turn_inside other is = refl

module _ (script : ScriptModel) where
  closes_inside : (lists : ℕ → List ClockStep) (earlier : List OpenerPart) (part : ClosedPart) (shown : Event) →
      Closes script lists earlier part shown → IsInside shown
  closes_inside lists earlier part event.Ended closes = refl
  closes_inside lists earlier part event.Stopped closes = refl
  closes_inside lists earlier part event.Polled closes = refl
  closes_inside lists earlier part other closes = absurd closes

  opener_inside : (lists : ℕ → List ClockStep) (earlier : List OpenerPart) (part : OpenerPart) →
      MayFollowOpened script lists earlier part → Every (Shows IsInside) (opener_labels part)
  opener_inside lists earlier (resting step) may = (tt, tt)
  opener_inside lists earlier (opened calls labels) may =
      calls_each (Shows IsInside) script (holds_shown is_of_execution IsInside called_inside) may.drawn
  opener_inside lists earlier (restarted drawn) may = (refl, tt)
  opener_inside lists earlier (closed part) may = (
    tt,
    every-append (Shows IsInside) (map look_label part.looks) _ (looks_each (Shows IsInside) (λ look. tt) part.looks)
        (closes_inside lists earlier part part.shown may.closes, tt),
  )

none_outside : (label : Labelled) → Shows IsInside label → shows_that is_outside_stop label ≡ false
none_outside (silent step) is = refl
none_outside (shows shown changes found) is = is
none_outside (allots act lane place) is = refl

-- a worker stops the context once a round
module _ (script : ScriptModel) (opener : List ClockStep) where
  drawn_most : (parts : List WorkerPart) → Follow WorkerPart labels_worker (MayFollowStopped script opener) parts →
      (times (shows_that is_outside_stop) (all_made WorkerPart labels_worker parts) ≡ stops_drawn parts)
      × (stops_drawn parts ≤ length script.rounds)
  drawn_most [] are = (refl, omega arith)
  drawn_most (waiting step ∷ parts) are =
      let rest = drawn_most parts are.0 in
      let first = rest.0 in
      let both =
      times-append (shows_that is_outside_stop) (all_made WorkerPart labels_worker parts) (labels_worker (waiting step)) in
      (omega (arith, first, both), rest.1)
  drawn_most (stopped drawn ∷ parts) are =
      let rest = drawn_most parts are.0 in
      let first = rest.0 in
      let both =
      times-append (shows_that is_outside_stop) (all_made WorkerPart labels_worker parts) (labels_worker (stopped drawn)) in
      let stood = open_stand script (stand_known script opener parts) are.1.round in
      let left = stood.left in
      let once = are.1.once in
      (omega (arith, first, both), omega (arith, left, once))

module _ (names : SessionNames) (well : IsWellFormed names.script) (logs : LogsView) (labels : ℕ → List Labelled)
    (logged : AreLogs names logs) (are : AreLabels names logs labels) where
  abbrev script : ScriptModel
  script = names.script

  abbrev opener : ℕ
  opener = opener_seat names.script

  abbrev guards : ℕ
  guards = names.script.guards

  abbrev seats : ℕ
  seats = (session_layout names.script).seats

  lane_inside : (lane : ℕ) (earlier : List Part) (part : Part) →
      MayFollow names (logs.lists opener) lane earlier part → Every (Shows IsInside) (labels_in script lane part)
  lane_inside lane earlier (idle step) may = (tt, tt)
  lane_inside lane earlier (executed part) may =
      every_so (Shows (IsOfExecution script part.note.op part.note.code part.note.size)) (Shows IsInside)
      (shows_so (IsOfExecution script part.note.op part.note.code part.note.size) IsInside
      (execution_inside script part.note.op part.note.code part.note.size)) (labels_in script lane (executed part))
      (executed_shows names well (logs.lists opener) lane earlier part may)
  lane_inside lane earlier (turned part) may =
      every_so (Shows IsOfTurn) (Shows IsInside) (shows_so IsOfTurn IsInside turn_inside) (labels_in script lane (turned part))
      (turned_shows names well (logs.lists opener) lane earlier part may)
  lane_inside lane earlier (failed part) may =
      every_so (Shows IsOfTurn) (Shows IsInside) (shows_so IsOfTurn IsInside turn_inside) (labels_in script lane (failed part))
      (failed_shows names well (logs.lists opener) lane earlier part)
  lane_inside lane earlier (missing place note) may = (tt, tt)

  -- each number's stops from outside
  lane_none : (n : ℕ) (within : n < lane_count names.script) (es : List ClockEvent) →
      times (shows_that is_outside_stop) (made_so_far labels es n) ≡ 0
  lane_none n within es =
      let made = are.lanes n within in
      let all : Every (Shows IsInside) (labels n) =
      subst (Every (Shows IsInside)) (sym made.are)
      (every_made Part (labels_in script n) (MayFollow names (logs.lists opener) n) (Shows IsInside) (lane_inside n) made.parts
      made.follow) in
      let none =
      no_times (shows_that is_outside_stop) (labels n)
      (λ i label at. none_outside label (every_at (Shows IsInside) (labels n) all i label at)) in
      let less = take_times (shows_that is_outside_stop) (labels n) (length (steps_under n es)) in
      omega (arith, none, less)

  opener_none : (es : List ClockEvent) → times (shows_that is_outside_stop) (made_so_far labels es opener) ≡ 0
  opener_none es =
      let made = are.opener in
      let all : Every (Shows IsInside) (labels opener) =
      subst (Every (Shows IsInside)) (sym made.are)
      (every_made OpenerPart opener_labels (MayFollowOpened script logs.lists) (Shows IsInside)
      (opener_inside script logs.lists) made.parts made.follow) in
      let none =
      no_times (shows_that is_outside_stop) (labels opener)
      (λ i label at. none_outside label (every_at (Shows IsInside) (labels opener) all i label at)) in
      let less = take_times (shows_that is_outside_stop) (labels opener) (length (steps_under opener es)) in
      omega (arith, none, less)

  each_most : (es : List ClockEvent) (n : ℕ) → n < opener →
      times (shows_that is_outside_stop) (made_so_far labels es n) ≤ length script.rounds
  each_most es n before = elim (cases_lt n (lane_count script)) [
    | inl lane ↦ let none = lane_none n lane es in omega (arith, none)
    | inr behind ↦
        let made = are.workers n (record { behind = behind; before = before }) in
        let most = drawn_most script (logs.lists opener) made.parts made.follow in
        let less = take_times (shows_that is_outside_stop) (labels n) (length (steps_under n es)) in
        let same = ap (times (shows_that is_outside_stop)) made.are in
        let first = most.0 in
        let second = most.1 in
        omega (arith, less, same, first, second)
  ]

  -- at most 17 workers stop the context from outside, once a round
  pub outside_most : (es : List ClockEvent) → IsSoundHistory guards seats es → AreLabelled labels es →
      times is_outside_stop (shown_in labels es) ≤ 17 * length script.rounds
  outside_most es sound all =
      let count = passing_total labels is_outside_stop es in
      let sums = total_sums labels guards seats (λ n label. shows_that is_outside_stop label) es sound all in
      let f : ℕ → ℕ = λ n. times (shows_that is_outside_stop) (made_so_far labels es n) in
      let numbers : seats ≡ suc opener =
      let cells : length (cells_of script) ≡ lane_count script =
      cell_count script in
      omega (arith, cells) in
      let last : summed f seats ≡ summed f opener + f opener = ap (summed f) numbers in
      let none = opener_none es in
      let few = workers_most script script.rounds well.rounds in
      let most =
      summed_behind f (lane_count script) (length script.rounds) opener 17 (omega (arith, few))
      (λ m less. lane_none m less es) (λ m less. each_most es m less) in
      omega (arith, count, sums, last, none, most)

  reactor_counted : reactor_lane names.script < lane_count names.script
  reactor_counted = let count = lanes_counted names.script in omega (arith, count)

  -- each act stops the context once
  one_led : (n i : ℕ) (label : Labelled) → get_elem? (labels n) i ≡ some label →
      ((a : ℕ) (changes : Change) (found : Found) → label ≡ shows (event.Stop (Some a)) changes found →
      a < length script.acts) →
      one_if (shows_that is_act_stop label) ≤ summed (λ act. one_if (is_led_by script act n label)) (length script.acts)
  one_led n i (silent step) at there = omega arith
  one_led n i (allots act lane place) at there = omega arith
  one_led n i (shows (event.Stop (Some a)) changes found) at there =
      let away : n ≢ reactor_lane script =
      λ same.
      let wrong : false ≡ true =
      reactor_shows names well logs labels are reactor_counted i (shows (event.Stop (Some a)) changes found)
      (subst (λ m. get_elem? (labels m) i ≡ some (shows (event.Stop (Some a)) changes found)) same at) in cc in
      let has =
      summed_has (λ act. one_if (is_led_by script act n (shows (event.Stop (Some a)) changes found))) a (length script.acts)
      (there a changes found refl) in
      let one : one_if (not (n == reactor_lane script) && (a == a)) ≡ 1 =
      ap one_if (both (not (n == reactor_lane script)) (a == a) (ap not (ne_eqb n (reactor_lane script) away)) (eq-eqb a a refl)) in
      omega (arith, has, one)
    where
      both : (x y : Bool) → x ≡ true → y ≡ true → (x && y) ≡ true
      both true y first second = second
      both false y first second = absurd (cc)
  one_led n i (shows (event.Stop None) changes found) at there = omega arith
  one_led n i (shows other changes found) at there = omega arith

  stops_led : (es : List ClockEvent) → AreLabelled labels es →
      IsLegalSoFar script names.told (shown_in labels es) →
      total labels (λ n label. shows_that is_act_stop label) es
      ≤ summed (λ act. total labels (is_led_by script act) es) (length script.acts)
  stops_led [] all legal = omega arith
  stops_led (e ∷ es) all legal =
      let label : Labelled = label_of labels es e in
      let before =
      legal_first script names.told (first_state script names.told) (shown_in labels es) (shown_by label) legal in
      let rest = stops_led es all.0 before in
      let there = λ (a : ℕ) (changes : Change) (found : Found) (is : label ≡ shows (event.Stop (Some a)) changes found).
      let may : MayHappen script names.told (state_at script names.told labels es) (event.Stop (Some a)) =
      legal_at script names.told (first_state script names.told) (shown_in labels es) (event.Stop (Some a)) []
      (subst (λ label. IsLegalSoFar script names.told (shown_in labels es ++ shown_by label)) is legal) in
      act_there is_stop script a may.stops in
      let one = one_led e.by (length (steps_under e.by es)) label all.1.there there in
      let both =
      summed-both (λ act. one_if (is_led_by script act e.by label)) (λ act. total labels (is_led_by script act) es)
      (length script.acts) in
      omega (arith, rest, one, both)

  -- so all stops fit
  pub few_stops : (es : List ClockEvent) → Tail es logged.closed.history → AreLabelled labels es →
      IsLegalSoFar names.script names.told (shown_in labels es) →
      AreExpected names.script names.told (first_state names.script names.told) (shown_in labels es) →
      (halts_of (shown_in labels es)).stops < 2 ^ 16
  few_stops es tail all legal expected =
      let sound = sound_tail guards seats es logged.closed.history tail logged.closed.sound in
      let kinds = stops_are (shown_in labels es) in
      let outside = outside_most es sound all in
      let ended = few_ended script well names.told (first_state script names.told) (shown_in labels es) legal (omega arith) in
      let faults = few_faults script well names.told (first_state script names.told) (shown_in labels es) legal in
      let acts = passing_total labels is_act_stop es in
      let led = stops_led es all legal in
      let ones =
      summed_ones (λ act. total labels (is_led_by script act) es) (length script.acts)
      (λ act within.
      led_once names logs labels are guards seats act es logged.closed.few.0 sound all well within expected) in
      let rounds = rounds-below script.version in
      let count = well.round_count in
      let allowed = acts_allowed script.version in
      let number = well.acts.count in
      omega (arith, kinds, outside, ended, faults, acts, led, ones, rounds, count, allowed, number)
