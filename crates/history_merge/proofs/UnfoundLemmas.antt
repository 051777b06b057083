-- What wasn't found at rest neither completed nor was posted: when the opener looked at a cell it had taken in the step that
-- put its note.
use Rattle.std.proofs.Common.{◌≡◌, ◌≢◌, inl, inr, ℕ, zero, suc, ◌<◌, true, false, List, [], ◌∷◌, Some, length, take, refl, sym, ap, subst, ◌∙◌, arith}
use Rattle.std.specs.Prelude.{not, slice_index}
use Rattle.std.proofs.lemmas.Bool.{and_parts, cases_eq, cases_lt, eq-eqb}
use mathlib.Core.Option.{some, some-ne-none}
use lib.ListN.{get_elem?}
use Rattle.asio_types.specs.declared.code.Code.{Code}
use Rattle.asio_types.specs.declared.event.Event.{Event}
use Rattle.asio_types.specs.declared.event.Event.TheVariants as event
use Rattle.session_script.specs.Script.{ScriptModel, is_op}
use Rattle.session_script.specs.Lanes.{is_inline}
use Rattle.session_script.specs.WellFormed.{IsWellFormed}
use Rattle.history_rules.specs.Kinds.{is_act, is_posting}
use Rattle.lane_clock.specs.declared.found.Change.{Change}
use Rattle.lane_clock.specs.declared.found.Found.{Found}
use Rattle.lane_clock.specs.declared.note.Note.{Note}
use Rattle.lane_clock.specs.declared.step.ClockStep.{ClockStep}
use Rattle.lane_clock.specs.declared.step.ClockStep.TheVariants.{Draw, Join, Load, Look, Place, Put}
use Rattle.lane_clock.specs.History.{ClockEvent, Fits, steps_under}
use Rattle.lane_clock.specs.Rule.{StepAt}
use Rattle.lane_clock.proofs.KnownLemmas.{at_within, event as step_event, under_same}
use Rattle.lane_clock.proofs.MomentLemmas.{Moment, Tail, at_later, moment_of, sound_tail, tail_more, tail_refl, tail_trans}
use Rattle.lane_map.specs.LaneNumbers.{has_cell, home_lane, reactor_lane}
use Rattle.lane_map.proofs.NumberLemmas.{cell_count}
use Rattle.lane_logs.specs.AtRest.{FoundNoneFrom, IsAtRest, LooksElse}
use Rattle.lane_logs.specs.Knowing.{joined_count}
use Rattle.lane_logs.specs.Labels.{Labelled, allots, shows}
use Rattle.lane_logs.specs.Logs.{AreLogs, LogsView}
use Rattle.lane_logs.specs.Names.{SessionNames}
use Rattle.lane_logs.specs.OpenerLog.{IsRestingStep}
use Rattle.lane_logs.specs.Receipts.{holds_op}
use Rattle.lane_logs.specs.SeatNumbers.{lane_count, opener_seat}
use Rattle.history_merge.specs.Merging.{IsMerging}
use Rattle.history_merge.specs.Receipts.{IsAbsent}
use Rattle.history_merge.proofs.AbsenceLemmas.{absent, before_steps}
use Rattle.history_merge.proofs.AcceptedLemmas.{posted_asks}
use Rattle.history_merge.proofs.AlikeLemmas.{is_not, never}
use Rattle.history_merge.proofs.BeyondLemmas.{none_beyond}
use Rattle.history_merge.proofs.CalledNextLemmas.{place_next}
use Rattle.history_merge.proofs.CountedLemmas.{counted_in}
use Rattle.history_merge.proofs.HalfLemmas.{off_turn}
use Rattle.history_merge.proofs.HistoryLemmas.{AreLabelled, shown_in}
use Rattle.history_merge.proofs.InductionLemmas.{so_at}
use Rattle.history_merge.proofs.LabellingLemmas.{AreLabels, are_labels, labels_under}
use Rattle.history_merge.proofs.PartLemmas.{at_right, step_of_label}
use Rattle.history_merge.proofs.PutLemmas.{IsPutIn, cell_put}
use Rattle.history_merge.proofs.SoLemmas.{IsSo}
use Rattle.history_merge.proofs.SoonLemmas.{put_full}
use Rattle.history_merge.proofs.StagedLemmas.{labelled_to, reactor_within, seats}
use Rattle.history_merge.proofs.TimeLemmas.{IsMade, index_in, made_of, made_there, made_within, shown_made}
use Rattle.history_merge.proofs.ToldLemmas.{done_at, on_turn}
use Rattle.history_merge.proofs.WholeLemmas.{place_full, whole_long}

-- what some steps took in of a number a join of them did
joined_by : (n : ℕ) (steps : List ClockStep) (i : ℕ) → i < joined_count n steps →
    (h : ℕ) × (counts : List ℕ) × (get_elem? steps h ≡ some (Join counts)) × (i < slice_index counts n)
joined_by n [] i less = absurd (omega (arith, less))
joined_by n (Draw shown change found ∷ steps) i less = let rest = joined_by n steps i less in (suc rest.0, rest.1, rest.2, rest.3)
joined_by n (Load found ∷ steps) i less = let rest = joined_by n steps i less in (suc rest.0, rest.1, rest.2, rest.3)
joined_by n (Place lane place ∷ steps) i less = let rest = joined_by n steps i less in (suc rest.0, rest.1, rest.2, rest.3)
joined_by n (Put lane place note ∷ steps) i less = let rest = joined_by n steps i less in (suc rest.0, rest.1, rest.2, rest.3)
joined_by n (Look lane place held ∷ steps) i less = let rest = joined_by n steps i less in (suc rest.0, rest.1, rest.2, rest.3)
joined_by n (Join counts ∷ steps) i less = elim (cases_lt i (slice_index counts n)) [
  | inl here ↦ (0, counts, refl, here)
  | inr past ↦
      let rest = joined_by n steps i (omega (arith, less, past)) in (suc rest.0, rest.1, rest.2, rest.3)
]

-- a step among the first of some
among_first : (k : ℕ) (xs : List ClockStep) (h : ℕ) (step : ClockStep) → get_elem? (take k xs) h ≡ some step →
    (get_elem? xs h ≡ some step) × (h < k)
among_first zero xs h step at = absurd (some-ne-none step (sym at))
among_first (suc k) [] h step at = absurd (some-ne-none step (sym at))
among_first (suc k) (x ∷ xs) zero step at = (at, omega arith)
among_first (suc k) (x ∷ xs) (suc h) step at =
    let rest = among_first k xs h step at in (rest.0, omega (arith, rest.1))

module _ (names : SessionNames) (well : IsWellFormed names.script) (logs : LogsView) (labels : ℕ → List Labelled)
    (logged : AreLogs names logs) (are : AreLabels names logs labels)
    (so : (a : List ClockEvent) → Tail a logged.closed.history → IsSo names logs labels are a)
    (since op : ℕ) (rest : IsAtRest names.script logs.lists since) (has : has_cell names.script op ≡ true)
    (none : FoundNoneFrom names.script logs.lists since op) where
  abbrev script : ScriptModel
  script = names.script

  abbrev opener : ℕ
  opener = opener_seat names.script

  abbrev r : ℕ
  r = reactor_lane names.script

  abbrev home : ℕ
  home = home_lane names.script op

  abbrev whole : List ClockEvent
  whole = logged.closed.history

  abbrev all_seats : ℕ
  all_seats = seats names well logs labels logged are

  abbrev within : reactor_lane names.script < lane_count names.script
  within = reactor_within names well logs labels logged are

  abbrev all_whole : AreLabelled labels whole
  all_whole = labelled_to names well logs labels logged are whole (tail_refl whole)

  made_at_step : (n i : ℕ) (step : ClockStep) → StepAt logs.lists n i step → Moment whole n i step
  made_at_step n i step at =
      moment_of whole n i step (subst (λ xs. get_elem? xs i ≡ some step) (logged.closed.all n) at)

  -- a step of the history is one of its number's list
  step_at : (e : ClockEvent) (older : List ClockEvent) → Tail (e ∷ older) whole →
      StepAt logs.lists e.by (length (steps_under e.by older)) e.step
  step_at e older tail =
      let i : ℕ = length (steps_under e.by older) in
      subst (λ xs. get_elem? xs i ≡ some e.step) (sym (logged.closed.all e.by))
      (at_later e.by (e ∷ older) whole i e.step tail
      (subst (λ xs. get_elem? xs i ≡ some e.step) (sym (under_same older e.by e.step))
      (at_right (steps_under e.by older) (e.step ∷ []) i 0 (omega arith))))

  -- the step that put a note came before the opener looked for it
  module _ (place : ℕ) (note : Note) (put : IsPutIn logged.closed.history home place note)
      (look : LooksElse names.script logs.lists since op home place)
      (saw : Moment logged.closed.history opener look.at (Look home place look.held)) where
    abbrev look_event : ClockEvent
    look_event = step_event opener (Look home place look.held)

    abbrev index : ℕ
    index = length (steps_under put.e.by put.older)

    there : StepAt logs.lists put.e.by index put.e.step
    there = step_at put.e put.older put.tail

    by_opener : put.e.by ≡ opener → Tail (put.e ∷ put.older) saw.older
    by_opener by =
        let put_there : StepAt logs.lists opener (length (steps_under opener put.older)) put.e.step =
        subst (λ n. StepAt logs.lists n (length (steps_under n put.older)) put.e.step) by there in
        let look_index = saw.index in
        let from = look.from in
        elim (cases_lt (length (steps_under opener put.older)) since) [
          | inl before ↦
              before_steps opener whole put.older saw.older put.e look_event put.tail saw.tail
              (omega (arith, before, from, look_index))
          | inr behind ↦
              absurd (subst IsRestingStep put.step
              (rest.resting (length (steps_under opener put.older)) put.e.step behind put_there))
        ]

    by_other : put.e.by ≢ opener → Tail (put.e ∷ put.older) saw.older
    by_other away =
        let sound = sound_tail script.guards all_seats (put.e ∷ put.older) whole put.tail logged.closed.sound in
        let few : put.e.by < all_seats = sound.1 in
        let cells = cell_count script in
        let less : put.e.by < opener = omega (arith, few, away, cells) in
        let all = rest.all put.e.by less in
        let inside = at_within (logs.lists put.e.by) index put.e.step there in
        let join = joined_by put.e.by (take since (logs.lists opener)) index (omega (arith, inside, all)) in
        let among = among_first since (logs.lists opener) join.0 (Join join.1) join.2 in
        let made = made_at_step opener join.0 (Join join.1) among.0 in
        let join_event = step_event opener (Join join.1) in
        let joining = sound_tail script.guards all_seats (join_event ∷ made.older) whole made.tail logged.closed.sound in
        let fits : Fits script.guards made.older opener (Join join.1) = joining.2 in
        let taken = fits put.e.by in
        let counted = join.3 in
        let first =
        before_steps put.e.by whole put.older made.older put.e join_event put.tail made.tail (omega (arith, counted, taken)) in
        let join_index = made.index in
        let look_index = saw.index in
        let from = look.from in
        let before = among.1 in
        let second =
        before_steps opener whole made.older saw.older join_event look_event made.tail saw.tail
        (omega (arith, join_index, look_index, from, before)) in
        tail_trans (put.e ∷ put.older) made.older saw.older first (tail_more made.older join_event saw.older second)

    put_first : Tail (put.e ∷ put.older) saw.older
    put_first = elim (cases_eq put.e.by opener) [
      | inl mine ↦ by_opener mine
      | inr other ↦ by_other other
    ]

    -- so it saw the note
    sees_note : look.held ≡ Some note
    sees_note =
        let looking =
        sound_tail script.guards all_seats (look_event ∷ saw.older) whole saw.tail logged.closed.sound in
        let fits : Fits script.guards saw.older opener (Look home place look.held) = looking.2 in
        fits ∙ put_full home place note script.guards all_seats saw.older looking.0 put.e put.older put_first put.step

  -- so it got no place
  not_placed : (number place : ℕ) → IsMade labels logged.closed.history number (allots op home place) → ⊥
  not_placed number place made =
      let i : ℕ = length (steps_under number made.older) in
      let at : StepAt logs.lists number i (Place home place) =
      ap (λ xs. get_elem? xs i) (sym (are.steps number))
      ∙ step_of_label (labels number) i (allots op home place)
      (made_there labels whole all_whole number (allots op home place) made) in
      let cell =
      none_beyond names well logs labels logged are (so whole (tail_refl whole)).expected number i home place at in
      let full = place_full names well logs labels logged are number op home place made cell in
      let look = none place cell in
      let saw = made_at_step opener look.at (Look home place look.held) look.saw in
      let held = sees_note place full.0 (cell_put home place full.0 whole full.2) look saw in
      let seen : holds_op op look.held ≡ true = ap (holds_op op) held ∙ eq-eqb full.0.op op full.1 in
      never (holds_op op look.held) look.other seen

  -- nor did it complete
  pub not_done : (given : Code) (size i : ℕ) →
      get_elem? (shown_in labels logged.closed.history) i ≡ some (event.Done op given size) → ⊥
  not_done given size i at =
      let count : ℕ = counted_in (take i (shown_in labels whole)) in
      let told =
      shown_made labels whole (event.Done op given size) count (record { at = i; there = at; counts = refl }) in
      let label : Labelled = shows (event.Done op given size) told.changes told.found in
      let number : told.number ≡ r =
      elim (cases_eq told.number r) [
        | inl same ↦ same
        | inr away ↦
            absurd (let wrong : true ≡ false =
            off_turn names logs labels are told.number (index_in labels told.made) label
            (made_there labels whole all_whole told.number label told.made) away in cc)
      ] in
      by_reactor given size told.changes told.found
      (subst (λ m. IsMade labels whole m label) number told.made)
    where
      by_reactor : (given : Code) (size : ℕ) (changes : Change) (found : Found) →
          IsMade labels logged.closed.history r (shows (event.Done op given size) changes found) → ⊥
      by_reactor given size changes found made =
          let label : Labelled = shows (event.Done op given size) changes found in
          let at = made_there labels whole all_whole r label made in
          let before = done_at names logs labels are within (index_in labels made) op given size changes found at in
          let less = made_within labels whole r label made in
          let next = before.next in
          not_placed r before.place
          (made_of labels whole all_whole r before.before (allots op home before.place) before.there
          (omega (arith, less, next))).0

  -- nor was it posted
  pub not_called : is_act is_posting names.script op ≡ true → (i : ℕ) →
      get_elem? (shown_in labels logged.closed.history) i ≡ some (event.Call op) → ⊥
  not_called posting i at =
      let count : ℕ = counted_in (take i (shown_in labels whole)) in
      let told = shown_made labels whole (event.Call op) count (record { at = i; there = at; counts = refl }) in
      let label : Labelled = shows (event.Call op) told.changes told.found in
      let k : ℕ = index_in labels told.made in
      let shown = made_there labels whole all_whole told.number label told.made in
      let away : told.number ≢ r = λ same.
      let turns =
      on_turn names logs labels are within (length (steps_under r told.made.older)) (event.Call op) told.changes told.found
      (subst (λ n. get_elem? (labels n) (length (steps_under n told.made.older)) ≡ some label) same shown) in
      let wrong : false ≡ true = turns in
      cc in
      let asks = posted_asks script op posting in
      let parts = and_parts (is_op script op) (not (is_inline script op)) has in
      let outside : is_inline script op ≡ false =
      is_not (is_inline script op) (λ inline. never (not (is_inline script op)) (ap not inline) parts.1) in
      let placed =
      place_next names logs labels are op asks.going outside told.number away k label shown (eq-eqb op op refl) in
      let long = whole_long names well logs labels logged are told.number in
      let less = at_label (labels told.number) (suc k) _ placed.1 in
      let made =
      made_of labels whole all_whole told.number (suc k) _ placed.1 (omega (arith, less, long)) in
      not_placed told.number placed.0
      (subst (λ lane. IsMade labels whole told.number (allots op lane placed.0)) asks.asks made.0)
    where
      at_label : (xs : List Labelled) (i : ℕ) (x : Labelled) → get_elem? xs i ≡ some x → i < length xs
      at_label [] i x at = absurd (some-ne-none x (sym at))
      at_label (y ∷ xs) zero x at = omega arith
      at_label (y ∷ xs) (suc i) x at = let less = at_label xs i x at in omega (arith, less)

pub unfound_at_rest_are_absent : (names : SessionNames) (logs : LogsView) (events : List Event) →
    IsWellFormed names.script → AreLogs names logs → IsMerging logs events → (since op : ℕ) →
    IsAtRest names.script logs.lists since → has_cell names.script op ≡ true →
    FoundNoneFrom names.script logs.lists since op → IsAbsent names.script events op
unfound_at_rest_are_absent names logs events well logged merging since op rest has none =
    let labels : ℕ → List Labelled = labels_under names logs logged in
    let are = are_labels names logs logged in
    let so = so_at names well logs logged in
    absent names logs labels logged are events merging op
    (λ given size i at. not_done names well logs labels logged are so since op rest has none given size i at)
    (λ posting i at. not_called names well logs labels logged are so since op rest has none posting i at)
