-- What a lane saw at its next place was there to be executed or taken: an act gets one place of a lane, and each place
-- before the next is another one's.
use Rattle.std.proofs.Common.{◌≡◌, ◌≢◌, ℕ, ◌+◌, ◌<◌, ◌≤◌, Bool, true, false, cond, List, [], ◌∷◌, ◌++◌, None, Some, inl, inr, length, refl, sym, ap, subst, ◌∙◌, arith}
use Rattle.std.specs.Prelude.{◌&&◌, ◌==◌, not}
use Rattle.std.specs.Option.{option_or}
use Rattle.std.proofs.lemmas.Bool.{and_from, and_parts, cases_eq, eq-eqb, not-true}
use Rattle.std.proofs.lemmas.List.{append_assoc}
use mathlib.Core.Option.{some}
use lib.ListN.{get_elem?}
use Rattle.session_script.specs.Lanes.{is_inline}
use Rattle.session_script.specs.Script.{ScriptModel, is_op, stops}
use Rattle.session_script.specs.WellFormed.{IsWellFormed}
use Rattle.history_rules.specs.Order.{was_taken}
use Rattle.history_rules.specs.State.{first_state}
use Rattle.reactor_turns.proofs.SummingLemmas.{one_if}
use Rattle.lane_clock.specs.declared.note.Note.{Note}
use Rattle.lane_clock.specs.declared.step.ClockStep.{ClockStep}
use Rattle.lane_clock.specs.declared.step.ClockStep.TheVariants.{Look}
use Rattle.lane_clock.specs.History.{ClockEvent, steps_under}
use Rattle.lane_clock.proofs.KnownLemmas.{at_within}
use Rattle.lane_clock.proofs.MomentLemmas.{tail_refl}
use Rattle.lane_map.specs.LaneNumbers.{act_passes, asked_lane, asks_reactor, has_cell, has_cell_on, home_lane, reactor_lane}
use Rattle.lane_map.proofs.RankLemmas.{op_within}
use Rattle.lane_logs.specs.Labels.{Labelled, allots, events_in, silent}
use Rattle.lane_logs.specs.LaneLog.{AreParts, MayFollow, entries_after, half_after, has_begun}
use Rattle.lane_logs.specs.Logs.{AreLogs, LogsView, session_layout}
use Rattle.lane_logs.specs.Names.{SessionNames}
use Rattle.lane_logs.specs.Parts.{Part, end_labels, executed, failed, first_missed, idle, labels_in, missed_in, missing, next_place, places_used, start_labels, takes, takes_place, turned}
use Rattle.lane_logs.specs.SeatNumbers.{lane_count, opener_seat}
use Rattle.history_merge.specs.Merging.{NoneIsMissing}
use Rattle.history_merge.proofs.AlikeLemmas.{never}
use Rattle.history_merge.proofs.AskedLemmas.{IsAskedPlace, asked_label}
use Rattle.history_merge.proofs.BetweenLemmas.{take_whole}
use Rattle.history_merge.proofs.CellRoomLemmas.{told_list, told_once}
use Rattle.history_merge.proofs.CellsEnoughLemmas.{asked_cell, awaited_op, none_told as none_told_on, posted_cell, posted_on, reacts_total, split_total, tells_on, told_cell, told_one}
use Rattle.history_merge.proofs.CalledLemmas.{AreExpected}
use Rattle.history_merge.proofs.CellLemmas.{allots_of, asks_place, placed_once}
use Rattle.history_merge.proofs.HistoryLemmas.{AreLabelled, shown_in}
use Rattle.history_merge.proofs.LabellingLemmas.{AreLabels, lane_are}
use Rattle.history_merge.proofs.LaneOfLemmas.{lanes_size}
use Rattle.history_merge.proofs.NoteLemmas.{IsNoted, seen}
use Rattle.history_merge.proofs.PartLemmas.{Follow, all_made, every_at, follow_from}
use Rattle.history_merge.proofs.PlacedLemmas.{total}
use Rattle.history_merge.proofs.ReactorPlaceLemmas.{IsTold, awaits}
use Rattle.history_merge.proofs.SinceLemmas.{labelled_at, made_all}
use Rattle.history_merge.proofs.StagedLemmas.{reactor_within}
use Rattle.history_merge.proofs.TimeLemmas.{IsMade, made_of, made_there}
use Rattle.history_merge.proofs.TimesLemmas.{times}
use Rattle.history_merge.proofs.UsedLemmas.{begun_part, look_stands, next_later, taken_part, two_made}

-- by tests of an operation what it needs to be executed, but that it hasn't begun
begun_by : (operates homes inline begun : Bool) → operates ≡ true → homes ≡ true → inline ≡ false →
    (((operates && homes) && not inline) && not begun) ≡ false → begun ≡ true
begun_by true true false true a b c isnt = refl
begun_by true true false false a b c isnt = absurd (cc)
begun_by false homes inline begun a b c isnt = absurd (cc)
begun_by true false inline begun a b c isnt = absurd (cc)
begun_by true true true begun a b c isnt = absurd (cc)

taken_by : (asks taken : Bool) → asks ≡ true → (asks && not taken) ≡ false → taken ≡ true
taken_by true true is isnt = refl
taken_by true false is isnt = absurd (cc)
taken_by false taken is isnt = absurd (cc)

module _ (names : SessionNames) (well : IsWellFormed names.script) (logs : LogsView) (labels : ℕ → List Labelled)
    (logged : AreLogs names logs) (are : AreLabels names logs labels)
    (expected : AreExpected names.script names.told (first_state names.script names.told)
    (shown_in labels logged.closed.history)) where
  abbrev script : ScriptModel
  script = names.script

  abbrev r : ℕ
  r = reactor_lane script

  abbrev opener : List ClockStep
  opener = logs.lists (opener_seat script)

  abbrev whole : List ClockEvent
  whole = logged.closed.history

  labelled : AreLabelled labels whole
  labelled = labelled_at names logs labels logged are whole (tail_refl whole)

  -- an act gets one place of a lane at most
  once : (lane op : ℕ) → op < length script.acts → total labels (λ n label. allots_of lane op label) whole ≤ 1
  once lane op within =
      let split = split_total labels r (allots_of lane op) whole in
      let first =
      placed_once names well logs labels are lane (session_layout script).guards (session_layout script).seats whole
      logged.closed.few.0 logged.closed.sound labelled expected op within (asks_place script lane op) refl in
      let second = reacts_total labels r (allots_of lane op) whole labelled in
      let made =
      ap (times (allots_of lane op))
      (take_whole (labels r) (length (steps_under r whole)) (made_all names logs labels logged are r)) in
      let told =
      told_one script well lane (labels r) (told_list names well logs labels are)
      (told_once names well logs labels are) op in
      let both =
      by_tests (asks_place script lane op) (tells_on script well lane op) (λ asks tells.
      elim (cases_eq lane r) [
        | inl here ↦ none_told_on script well lane op here tells
        | inr away ↦
            never (awaits script op) (posted_on script well lane op within away asks).unawaited
            (and_parts (awaits script op) (home_lane script op == lane) tells).0
      ]) in
      omega (arith, split, first, second, made, told, both)
    where
      by_tests : (a b : Bool) → (a ≡ true → b ≡ true → ⊥) → one_if a + one_if b ≤ 1
      by_tests true true apart = absurd (apart refl refl)
      by_tests true false apart = omega arith
      by_tests false true apart = omega arith
      by_tests false false apart = omega arith

  placed_same : (lane op p q n m : ℕ) → op < length script.acts → IsMade labels whole n (allots op lane p) →
      IsMade labels whole m (allots op lane q) → p ≡ q
  placed_same lane op p q n m within one two = elim (cases_eq p q) [
    | inl same ↦ same
    | inr differ ↦
        let test = λ (k : ℕ). and_from (op == op) (lane == lane) (eq-eqb op op refl) (eq-eqb lane lane refl) in
        let most = once lane op within in
        let two_of =
        two_made labels (allots_of lane op) one.e two.e one.older two.older whole one.tail two.tail
        (ap (allots_of lane op) one.is ∙ test p) (ap (allots_of lane op) two.is ∙ test q)
        (λ same. let places : allots op lane p ≡ allots op lane q = sym one.is ∙ (same ∙ two.is) in
        let wrong : p ≡ q = cc in differ wrong) in
        absurd (omega (arith, most, two_of))
  ]

  -- what is known of an act by a note
  record IsNotedAt (lane place op : ℕ) : Type 0 where
    number : ℕ
    made : IsMade labels whole number (allots op lane place)
    within : op < length script.acts
    cell : lane ≢ r → has_cell_on script lane op ≡ true
    asks : lane ≡ r → act_passes asks_reactor script op ≡ true

  of_note : (lane place : ℕ) (note : Note) →
      IsNoted names logs labels are (reactor_within names well logs labels logged are) whole lane place note →
      IsNotedAt lane place note.op
  of_note lane place note (inl noted) =
      let at = made_there labels whole labelled noted.number (allots note.op lane place) noted.placed in
      let asked : IsAskedPlace script note.op lane =
      asked_label names well logs labels are noted.number (length (steps_under noted.number noted.placed.older))
      (allots note.op lane place) at noted.away in
      let asks : asks_place script lane note.op ≡ true =
      and_from (not (stops script note.op)) (not (is_inline script note.op) && (lane == asked_lane script note.op))
      (ap not asked.going)
      (and_from (not (is_inline script note.op)) (lane == asked_lane script note.op) (ap not asked.unentered)
      (eq-eqb lane (asked_lane script note.op) asked.asks)) in
      record {
        number = noted.number;
        made = noted.placed;
        within = asked.within;
        cell = λ away. posted_cell script well lane note.op (posted_on script well lane note.op asked.within away asks);
        asks = λ here. asked_cell script well lane note.op asked.within here asks;
      }
  of_note lane place note (inr noted) =
      let at = made_there labels whole labelled r (allots note.op lane place) noted.placed in
      let told : IsTold script (allots note.op lane place) =
      every_at (IsTold script) (labels r) (told_list names well logs labels are)
      (length (steps_under r noted.placed.older)) (allots note.op lane place) at in
      let within = op_within script note.op (awaited_op script note.op told.1) in
      let tells : tells_on script well lane note.op ≡ true =
      and_from (awaits script note.op) (home_lane script note.op == lane) told.1
      (eq-eqb (home_lane script note.op) lane (sym told.0)) in
      record {
        number = r;
        made = noted.placed;
        within = within;
        cell = λ away. told_cell script well lane note.op within tells;
        asks = λ here. absurd (none_told_on script well lane note.op here tells);
      }

  -- what a part of a lane sees
  module _ (lane : ℕ) (within : lane < lane_count script) where
    abbrev parts : List Part
    parts = (are.lanes lane within).parts

    abbrev makes : Part → List Labelled
    makes = labels_in script lane

    saw : (later : List Part) (part : Part) (earlier : List Part) (place : ℕ) (note : Note) (more : List Labelled) →
        parts ≡ later ++ part ∷ earlier → makes part ≡ silent (Look lane place (Some note)) ∷ more →
        IsNotedAt lane place note.op
    saw later part earlier place note more same is =
        let label : Labelled = silent (Look lane place (Some note)) in
        let i : ℕ = length (all_made Part makes earlier) in
        let at : get_elem? (labels lane) i ≡ some label =
        ap (λ xs. get_elem? xs i) ((are.lanes lane within).are ∙ ap (all_made Part makes) same)
        ∙ look_stands makes later part earlier label more is in
        let size = made_all names logs labels logged are lane in
        let less = at_within (labels lane) i label at in
        let made = made_of labels whole labelled lane i label at (omega (arith, size, less)) in
        of_note lane place note
        (seen names logs labels are (reactor_within names well logs labels logged are)
        (session_layout script).guards (session_layout script).seats whole logged.closed.sound labelled lane lane place note
        made.0)

    -- so no part misses anything
    module _ (later : List Part) (place : ℕ) (note : Note) (earlier : List Part)
        (same : parts ≡ later ++ missing place note ∷ earlier) where
      may : MayFollow names opener lane earlier (missing place note)
      may = (follow_from Part makes (MayFollow names opener lane) later (missing place note ∷ earlier)
          (subst (Follow Part makes (MayFollow names opener lane)) same (are.lanes lane within).follow)).1

      are_earlier : AreParts names opener lane earlier
      are_earlier =
          lane_are names opener lane earlier
          (follow_from Part makes (MayFollow names opener lane) later (missing place note ∷ earlier)
          (subst (Follow Part makes (MayFollow names opener lane)) same (are.lanes lane within).follow)).0

      here : IsNotedAt lane place note.op
      here = saw later (missing place note) earlier place note [] same refl

      -- another part saw the same act
      other : (before : List Part) (part : Part) (older : List Part) (at : ℕ) (seen_note : Note) (more : List Labelled) →
          earlier ≡ before ++ part ∷ older → makes part ≡ silent (Look lane at (Some seen_note)) ∷ more →
          seen_note.op ≡ note.op → at ≡ next_place older → 1 ≤ places_used part → ⊥
      other before part older at seen_note more is looks it next used =
          let all : parts ≡ (later ++ missing place note ∷ before) ++ part ∷ older =
          same
          ∙ (ap (λ xs. later ++ missing place note ∷ xs) is
          ∙ sym (append_assoc later (missing place note ∷ before) (part ∷ older))) in
          let there = saw (later ++ missing place note ∷ before) part older at seen_note more all looks in
          let made = subst (λ op. IsMade labels whole there.number (allots op lane at)) it there.made in
          let equal = placed_same lane note.op place at here.number there.number here.within here.made made in
          let further = next_later before part older in
          let size = ap next_place is in
          omega (arith, equal, further, size, may.next, next, used)

      none_executed : lane ≢ r → ⊥
      none_executed away =
          let count = lanes_size script well in
          let cell = here.cell away in
          let parts_of = and_parts (has_cell script note.op) (home_lane script note.op == lane) cell in
          let kinds = and_parts (is_op script note.op) (not (is_inline script note.op)) parts_of.0 in
          let outside : is_inline script note.op ≡ false = not-true (is_inline script note.op) kinds.1 in
          let less : lane < r = omega (arith, within, count, away) in
          let begun =
          begun_by (is_op script note.op) (home_lane script note.op == lane) (is_inline script note.op)
          (has_begun note.op (events_in (entries_after names opener lane earlier))) kinds.0 parts_of.1 outside
          (may.no_handler less) in
          let has = begun_part names well opener lane away note.op outside earlier are_earlier begun in
          other has.later (executed has.part) has.earlier has.part.place has.part.note _ has.are refl has.it has.may.next
          (omega arith)

      none_taken : lane ≡ r → ⊥
      none_taken is =
          let taken =
          taken_by (act_passes asks_reactor script note.op) (was_taken (half_after names opener lane earlier) note.op)
          (here.asks is) (may.no_request is) in
          let has = taken_part names well opener lane is note.op earlier are_earlier taken in
          let looks : makes (turned has.part)
          ≡ start_labels script lane has.part.place has.part.load has.part.drawn (takes has.note has.changes)
          ++ end_labels has.part.end =
          ap (λ start. start_labels script lane has.part.place has.part.load has.part.drawn start ++ end_labels has.part.end)
          has.start in
          let uses : 1 ≤ places_used (turned has.part) =
          let one : cond {A = ℕ} (takes_place has.part.start) 1 0 ≡ 1 = ap (λ start. cond {A = ℕ} (takes_place start) 1 0) has.start in
          omega (arith, one) in
          other has.later (turned has.part) has.earlier has.part.place has.note _ has.are looks has.it has.may.next uses

      pub none_missed : ⊥
      none_missed = elim (cases_eq lane r) [ inl is ↦ none_taken is | inr away ↦ none_executed away ]

    first_none_missed : (later rest : List Part) → parts ≡ later ++ rest → first_missed rest ≡ None
    first_none_missed later [] same = refl
    first_none_missed later (part ∷ rest) same =
        let before : first_missed rest ≡ None =
        first_none_missed (later ++ part ∷ []) rest (same ∙ sym (append_assoc later (part ∷ []) rest)) in
        ap (λ o. option_or o (missed_in part)) before ∙ by_part part same
      where
        by_part : (part : Part) → parts ≡ later ++ part ∷ rest → missed_in part ≡ None
        by_part (idle step) same = refl
        by_part (executed part) same = refl
        by_part (turned part) same = refl
        by_part (failed part) same = refl
        by_part (missing place note) same = absurd (none_missed later place note rest same)

  pub none_missing : NoneIsMissing script logs
  none_missing lane within =
      are.missed lane within ∙ first_none_missed lane within [] (are.lanes lane within).parts refl
