-- What wasn't found behind the closing of the last round neither completed nor was posted: by then all places that were
-- drawn had their notes, and nothing is drawn behind it.
use Rattle.std.proofs.Common.{◌≡◌, ◌≢◌, ◌⊎◌, inl, inr, ⊎_elim, ℕ, ◌+◌, ◌<◌, true, false, cond, List, [], ◌∷◌, Some, length, take, refl, sym, ap, subst, ◌∙◌, arith}
use Rattle.std.specs.Prelude.{not, slice_index}
use Rattle.std.proofs.lemmas.Bool.{and_parts, cases_eq, cases_lt, eq-eqb}
use mathlib.Core.Option.{some}
use lib.ListN.{get_elem?}
use Rattle.asio_types.specs.declared.code.Code.{Code}
use Rattle.asio_types.specs.declared.event.Event.{Event}
use Rattle.asio_types.specs.declared.event.Event.TheVariants as event
use Rattle.session_script.specs.Script.{ScriptModel, is_op}
use Rattle.session_script.specs.Lanes.{is_inline}
use Rattle.session_script.specs.WellFormed.{IsWellFormed}
use Rattle.history_rules.specs.Calls.{is_open}
use Rattle.history_rules.specs.Kinds.{is_act, is_posting}
use Rattle.history_rules.specs.State.{call_at}
use Rattle.history_rules.specs.declared.phase.CallPhase.{CallPhase}
use Rattle.history_rules.specs.declared.phase.CallPhase.TheVariants as call
use Rattle.execution_laws.specs.Kinds.{was_called}
use Rattle.lane_clock.specs.declared.found.Change.{Change}
use Rattle.lane_clock.specs.declared.found.Found.{Found}
use Rattle.lane_clock.specs.declared.note.Note.{Note}
use Rattle.lane_clock.specs.declared.step.ClockStep.{ClockStep}
use Rattle.lane_clock.specs.declared.step.ClockStep.TheVariants.{Draw, Join, Look, Place}
use Rattle.lane_clock.specs.History.{ClockEvent, Fits, cell_after, steps_under}
use Rattle.lane_clock.specs.Rule.{StepAt}
use Rattle.lane_clock.proofs.KnownLemmas.{event as step_event}
use Rattle.lane_clock.proofs.MomentLemmas.{Moment, Tail, moment_of, sound_tail, tail_more, tail_refl, tail_same, tail_trans, tails_order, under_grows}
use Rattle.lane_map.specs.LaneNumbers.{cells_of, has_cell, home_lane, reactor_lane}
use Rattle.lane_logs.specs.Labels.{Labelled, allots, shows}
use Rattle.lane_logs.specs.Logs.{AreLogs, LogsView, session_layout}
use Rattle.lane_logs.specs.Names.{SessionNames}
use Rattle.lane_logs.specs.OpenerLog.{ClosedPart, Closes, OpenerPart, closed, opened, resting, restarted}
use Rattle.lane_logs.specs.Receipts.{holds_op}
use Rattle.lane_logs.specs.SeatNumbers.{lane_count, opener_seat}
use Rattle.lane_logs.specs.Stand.{Stand, after_draw, after_opening_draw, is_round_open, stand_from, stand_of, wants_restart}
use Rattle.lane_logs.proofs.StandLemmas.{open_stand, closings_rise}
use Rattle.history_merge.specs.Merging.{IsMerging}
use Rattle.history_merge.specs.Receipts.{ClosesLast, FoundNoneAtEnd, IsAbsent, LooksInVain}
use Rattle.history_merge.proofs.AbsenceLemmas.{absent, before_steps}
use Rattle.history_merge.proofs.AcceptedLemmas.{posted_asks}
use Rattle.history_merge.proofs.AlikeLemmas.{is_not, never}
use Rattle.history_merge.proofs.AskedLemmas.{asked_label}
use Rattle.history_merge.proofs.AtEventLemmas.{nothing_left}
use Rattle.history_merge.proofs.AtRestLemmas.{call_closed}
use Rattle.history_merge.proofs.BeyondLemmas.{none_beyond}
use Rattle.history_merge.proofs.CountedLemmas.{counted_in}
use Rattle.history_merge.proofs.CutLemmas.{open_opened, stand-append, under_take}
use Rattle.history_merge.proofs.DrawRoundLemmas.{drawn_round, nothing_in}
use Rattle.history_merge.proofs.FirstLemmas.{placed_by}
use Rattle.history_merge.proofs.HalfLemmas.{off_turn}
use Rattle.history_merge.proofs.HistoryLemmas.{AreLabelled, label_of, shown_in}
use Rattle.history_merge.proofs.InductionLemmas.{so_at}
use Rattle.history_merge.proofs.LabellingLemmas.{AreLabels, are_labels, labels_under}
use Rattle.history_merge.proofs.NoteLemmas.{lift_made}
use Rattle.history_merge.proofs.OpenedLemmas.{opened_stand}
use Rattle.history_merge.proofs.OpenerLemmas.{opening_falls, stand_at, stand_here}
use Rattle.history_merge.proofs.OpenerPartLemmas.{opener_at}
use Rattle.history_merge.proofs.PartLemmas.{step_of_label}
use Rattle.history_merge.proofs.PolledLemmas.{place_full}
use Rattle.history_merge.proofs.PositionLemmas.{shown_by_draw}
use Rattle.history_merge.proofs.SoLemmas.{IsSo, state_so}
use Rattle.history_merge.proofs.SoonLemmas.{cell_stays}
use Rattle.history_merge.proofs.StagedLemmas.{labelled_to, reactor_within, seats}
use Rattle.history_merge.proofs.StoodLemmas.{closed_behind, closed_part, has_stand, labels_of_part, restart_part, restart_shows, restart_stood}
use Rattle.history_merge.proofs.TimeLemmas.{IsMade, index_in, made_of, made_shown, made_there, made_within, shown_made}
use Rattle.history_merge.proofs.ToldLemmas.{done_at}

-- the draw that closes a round
closing_draw : (script : ScriptModel) (stand : Stand) (found : Found) → stand.opening ≡ 0 →
    wants_restart script stand ≡ false → (after_draw script stand found).closings ≡ stand.closings + 1
closing_draw script stand found none started =
    ap (λ left. (after_opening_draw left script stand found).closings) none
    ∙ ap
    (λ wants.
    (cond wants (record stand { restarted = true; base = found.stops })
    (record stand { closings = stand.closings + 1; restarted = false })).closings) started

returned_by : (of : CallPhase) → was_called of ≡ true → is_open of ≡ false →
    (c : ℕ) × (b : ℕ) × (of ≡ call.Back c b)
returned_by call.Uncalled called shut = absurd (cc)
returned_by (call.Open at) called shut = absurd (cc)
returned_by (call.Stopping at) called shut = absurd (cc)
returned_by (call.Back at back) called shut = (at, back, refl)

module _ (names : SessionNames) (well : IsWellFormed names.script) (logs : LogsView) (labels : ℕ → List Labelled)
    (logged : AreLogs names logs) (are : AreLabels names logs labels)
    (so : (a : List ClockEvent) → Tail a logged.closed.history → IsSo names logs labels are a)
    (j : ℕ) (closes : ClosesLast names.script logs.lists j) where
  abbrev script : ScriptModel
  script = names.script

  abbrev opener : ℕ
  opener = opener_seat names.script

  abbrev r : ℕ
  r = reactor_lane names.script

  abbrev whole : List ClockEvent
  whole = logged.closed.history

  abbrev all_seats : ℕ
  all_seats = seats names well logs labels logged are

  abbrev within : reactor_lane names.script < lane_count names.script
  within = reactor_within names well logs labels logged are

  abbrev all_whole : AreLabelled labels whole
  all_whole = labelled_to names well logs labels logged are whole (tail_refl whole)

  -- a step of a list was made
  made_at_step : (n i : ℕ) (step : ClockStep) → StepAt logs.lists n i step → Moment whole n i step
  made_at_step n i step at =
      moment_of whole n i step (subst (λ xs. get_elem? xs i ≡ some step) (logged.closed.all n) at)

  -- the closing
  abbrev moment : Moment whole opener j (Draw closes.shown closes.changes closes.found)
  moment = made_at_step opener j (Draw closes.shown closes.changes closes.found) closes.drawn

  abbrev e : ClockEvent
  e = step_event opener (Draw closes.shown closes.changes closes.found)

  abbrev es : List ClockEvent
  es = moment.older

  abbrev tail : Tail (e ∷ es) whole
  tail = moment.tail

  abbrev older : Tail es whole
  older = tail_more es e whole tail

  abbrev all : AreLabelled labels (e ∷ es)
  all = labelled_to names well logs labels logged are (e ∷ es) tail

  drew : label_of labels es e ≡ shows closes.shown closes.changes closes.found
  drew = shown_by_draw (label_of labels es e) all.1.plain closes.shown closes.changes closes.found all.1.step

  abbrev stand : Stand
  stand = stand_at names.script opener es

  stand_is : stand_of names.script (take j (logs.lists opener)) ≡ stand
  stand_is =
      ap (λ k. stand_of script (take k (logs.lists opener))) moment.index
      ∙ ap (stand_of script)
      (under_take script logs.lists (session_layout script) logs.last logged.closed es older opener)

  round : is_round_open names.script stand ≡ true
  round = ap (is_round_open script) (sym stand_is) ∙ closes.round

  over : stand.opening ≡ 0
  over = open_opened script stand round

  -- the opener's part is a closing
  by_part : (part : OpenerPart) → (opener_at names logs labels logged are e es tail all.1 refl).part ≡ part →
      (part : ClosedPart) × ((opener_at names logs labels logged are e es tail all.1 refl).part ≡ closed part)
  by_part (resting step) here =
      absurd (nothing_in step (opener_at names logs labels logged are e es tail all.1 refl).before closes.shown closes.changes
      closes.found (opener_at names logs labels logged are e es tail all.1 refl).after
      (labels_of_part names well logs labels logged are e es tail all refl closes.shown closes.changes closes.found drew
      (resting step) here))
  by_part (opened calls made) here =
      absurd (let is =
      ap (λ (s : Stand). s.opening)
      (opened_stand names well logs labels logged are e es tail all refl closes.shown closes.changes closes.found drew calls made
      here) in
      let none = over in
      omega (arith, is, none))
  by_part (restarted drawn) here =
      absurd (let wanted =
      (restart_part names well logs labels logged are e es tail all refl closes.shown closes.changes closes.found drew drawn
      here).wanted in
      let stood =
      restart_stood names well logs labels logged are e es tail all refl closes.shown closes.changes closes.found drew drawn here in
      never (wants_restart script stand) (open_stand script stand round).started
      (ap (wants_restart script) stood ∙ wanted))
  by_part (closed part) here = (part, here)

  closing : (part : ClosedPart) × ((opener_at names logs labels logged are e es tail all.1 refl).part ≡ closed part)
  closing = by_part (opener_at names logs labels logged are e es tail all.1 refl).part refl

  -- behind it no round is open, and no call of `open` is to come
  now_stand : stand_at names.script opener (e ∷ es) ≡ after_draw names.script stand closes.found
  now_stand = stand_here script opener e es refl

  stand_later : (a : List ClockEvent) → Tail (e ∷ es) a →
      (more : List ClockStep)
      × (stand_at names.script opener a ≡ stand_from names.script (stand_at names.script opener (e ∷ es)) more)
  stand_later a since =
      let start = under_grows opener (e ∷ es) a since in (
        start.0,
        ap (stand_of script) start.1 ∙ stand-append script _ (steps_under opener (e ∷ es)) start.0,
      )

  none_open : (a : List ClockEvent) → Tail (e ∷ es) a →
      is_round_open names.script (stand_at names.script opener a) ≡ true → ⊥
  none_open a since opens =
      let later = stand_later a since in
      let same = ap (λ (s : Stand). s.closings) later.1 in
      let rise = closings_rise script later.0 (stand_at script opener (e ∷ es)) in
      let now = ap (λ (s : Stand). s.closings) now_stand in
      let drawn = closing_draw script stand closes.found over (open_stand script stand round).started in
      let last = ap (λ (s : Stand). s.closings) stand_is in
      let few = (open_stand script (stand_at script opener a) opens).left in
      let all_rounds = closes.last in
      omega (arith, same, rise, now, drawn, last, few, all_rounds)

  none_opening : (a : List ClockEvent) → Tail (e ∷ es) a → (stand_at names.script opener a).opening ≡ 0
  none_opening a since =
      let later = stand_later a since in
      let same = ap (λ (s : Stand). s.opening) later.1 in
      let falls = opening_falls script (stand_at script opener (e ∷ es)) later.0 in
      let now = ap (λ (s : Stand). s.opening) (stand_here script opener e es refl) in
      let first = opening_falls script stand (e.step ∷ []) in
      let none = over in
      omega (arith, same, falls, now, first, none)

  -- The opener calls nothing where no call of `open` is to come
  module _ (x : ClockEvent) (a : List ClockEvent) (x_tail : Tail (x ∷ a) whole) (by : x.by ≡ opener_seat names.script)
      (act : ℕ) (changes : Change) (found : Found) (is : label_of labels a x ≡ shows (event.Call act) changes found)
      (ended : (stand_at names.script (opener_seat names.script) a).opening ≡ 0) where
    abbrev x_all : AreLabelled labels (x ∷ a)
    x_all = labelled_to names well logs labels logged are (x ∷ a) x_tail

    call_part : (part : OpenerPart) → (opener_at names logs labels logged are x a x_tail x_all.1 by).part ≡ part → ⊥
    call_part (resting step) here =
        nothing_in step (opener_at names logs labels logged are x a x_tail x_all.1 by).before (event.Call act) changes found
        (opener_at names logs labels logged are x a x_tail x_all.1 by).after
        (labels_of_part names well logs labels logged are x a x_tail x_all by (event.Call act) changes found is (resting step)
        here)
    call_part (opened calls made) here =
        let stood =
        ap (λ (s : Stand). s.opening)
        (opened_stand names well logs labels logged are x a x_tail x_all by (event.Call act) changes found is calls made here) in
        omega (arith, stood, ended)
    call_part (restarted drawn) here =
        let wrong : event.Call act ≡ event.Restart =
        restart_shows names well logs labels logged are x a x_tail x_all by (event.Call act) changes found is drawn here in
        cc
    call_part (closed part) here =
        subst
        (Closes names.script logs.lists (opener_at names logs labels logged are x a x_tail x_all.1 by).earlier part)
        (sym
        (closed_behind names well logs labels logged are x a x_tail x_all by (event.Call act) changes found is part here).event)
        (closed_part names well logs labels logged are x a x_tail x_all by (event.Call act) changes found is part here).closes

    no_call : ⊥
    no_call = call_part (opener_at names logs labels logged are x a x_tail x_all.1 by).part refl

  -- so what a lane or a worker drew, and what the opener called, came before it
  module _ (n : ℕ) (shown : Event) (changes : Change) (found : Found)
      (made : IsMade labels logged.closed.history n (shows shown changes found))
      (kind : (n ≢ opener_seat names.script) ⊎ ((act : ℕ) × (shown ≡ event.Call act))) where
    -- it wasn't drawn where no round is open and no call of `open` is to come
    not_drawn : (is_round_open names.script (stand_at names.script opener made.older) ≡ true → ⊥) →
        (stand_at names.script opener made.older).opening ≡ 0 → ⊥
    not_drawn shut ended = elim (cases_eq made.e.by opener) [
      | inl by ↦ ⊎_elim
          (λ (away : n ≢ opener_seat names.script). absurd (away (sym made.by ∙ by)))
          (λ (calls : (act : ℕ) × (shown ≡ event.Call act)).
          no_call made.e made.older made.tail by calls.0 changes found
          (made.is ∙ ap (λ event. shows event changes found) calls.1) ended)
          kind
      | inr other ↦
          shut (drawn_round names logs labels logged are made.e made.older made.tail
          (labelled_to names well logs labels logged are (made.e ∷ made.older) made.tail).1 other shown changes found made.is)
    ]

    made_before : Tail (made.e ∷ made.older) es
    made_before = elim (cases_lt (length made.older) (length es)) [
      | inl shorter ↦ tails_order (made.e ∷ made.older) es whole made.tail older (omega (arith, shorter))
      | inr most ↦ elim (cases_lt (length es) (length made.older)) [
        | inl longer ↦
            let since =
            tails_order (e ∷ es) made.older whole tail (tail_more made.older made.e whole made.tail) (omega (arith, longer)) in
            absurd (not_drawn (none_open made.older since) (none_opening made.older since))
        | inr least ↦
            let size : length es ≡ length made.older = omega (arith, most, least) in
            let order = tails_order (made.e ∷ made.older) (e ∷ es) whole made.tail tail (omega (arith, size)) in
            let same : made.e ∷ made.older ≡ e ∷ es = tail_same (made.e ∷ made.older) (e ∷ es) order (omega (arith, size)) in
            absurd (at_once same)
      ]
    ]
      where
        at_once : made.e ∷ made.older ≡ e ∷ es → ⊥
        at_once same =
            let by : made.e.by ≡ opener = ap by_first same in
            let stood : made.older ≡ es = ap rest_of same in
            ⊎_elim
            (λ (away : n ≢ opener_seat names.script). away (sym made.by ∙ by))
            (λ (calls : (act : ℕ) × (shown ≡ event.Call act)).
            no_call made.e made.older made.tail by calls.0 changes found
            (made.is ∙ ap (λ event. shows event changes found) calls.1)
            (ap (λ a. (stand_at script opener a).opening) stood ∙ over))
            kind
          where
            by_first : List ClockEvent → ℕ
            by_first [] = opener
            by_first (x ∷ xs) = x.by

            rest_of : List ClockEvent → List ClockEvent
            rest_of [] = []
            rest_of (x ∷ xs) = xs

    abbrev made_then : IsMade labels es n (shows shown changes found)
    made_then =
        record { e = made.e; older = made.older; tail = made_before; by = made.by; is = made.is }

  -- An operation that wasn't found behind it
  module _ (op : ℕ) (has : has_cell names.script op ≡ true) (n joined : ℕ) (counts : List ℕ)
      (joins : StepAt logs.lists n joined (Join counts)) (knows : j < slice_index counts (opener_seat names.script))
      (looks : (place : ℕ) → place < slice_index (cells_of names.script) (home_lane names.script op) →
      LooksInVain names.script logs.lists n joined op (home_lane names.script op) place) where
    abbrev home : ℕ
    home = home_lane names.script op

    parts : (is_op names.script op ≡ true) × (not (is_inline names.script op) ≡ true)
    parts = and_parts (is_op script op) (not (is_inline script op)) has

    unentered : is_inline names.script op ≡ false
    unentered = is_not (is_inline script op) (λ inline. never (not (is_inline script op)) (ap not inline) parts.1)

    -- a look behind it finds what was put before
    look_full : (place : ℕ) (note : Note) → cell_after home place es ≡ Some note →
        (look : LooksInVain names.script logs.lists n joined op home place) → look.held ≡ Some note
    look_full place note full look =
        let join = made_at_step n joined (Join counts) joins in
        let saw = made_at_step n look.at (Look home place look.held) look.saw in
        let join_event = step_event n (Join counts) in
        let look_event = step_event n (Look home place look.held) in
        let joining = sound_tail script.guards all_seats (join_event ∷ join.older) whole join.tail logged.closed.sound in
        let looking = sound_tail script.guards all_seats (look_event ∷ saw.older) whole saw.tail logged.closed.sound in
        let fits : Fits script.guards join.older n (Join counts) = joining.2 in
        let taken = fits opener in
        let index = moment.index in
        let first =
        before_steps opener whole es join.older e join_event tail join.tail (omega (arith, knows, taken, index)) in
        let join_index = join.index in
        let look_index = saw.index in
        let behind = look.behind in
        let second =
        before_steps n whole join.older saw.older join_event look_event join.tail saw.tail
        (omega (arith, join_index, look_index, behind)) in
        let since =
        tail_trans es join.older saw.older (tail_more es e join.older first)
        (tail_more join.older join_event saw.older second) in
        let finds : Fits script.guards saw.older n (Look home place look.held) = looking.2 in
        finds ∙ cell_stays home place note script.guards all_seats es saw.older looking.0 since full

    -- so it got no place before
    not_placed : (number place : ℕ) → IsMade labels es number (allots op home place) → ⊥
    not_placed number place made =
        let lifted = lift_made labels es whole older number (allots op home place) made in
        let i : ℕ = length (steps_under number lifted.older) in
        let at : StepAt logs.lists number i (Place home place) =
        ap (λ xs. get_elem? xs i) (sym (are.steps number))
        ∙ step_of_label (labels number) i (allots op home place)
        (made_there labels whole all_whole number (allots op home place) lifted) in
        let cell =
        none_beyond names well logs labels logged are (so whole (tail_refl whole)).expected number i home place at in
        let full =
        place_full names well logs labels logged are e es tail all refl closes.shown closes.changes closes.found drew closing.0
        closing.1 number op home place made cell in
        let look = looks place cell in
        let held = look_full place full.0 full.2 look in
        let seen : holds_op op look.held ≡ true = ap (holds_op op) held ∙ eq-eqb full.0.op op full.1 in
        never (holds_op op look.held) look.other seen

    -- nor did it complete
    not_done : (given : Code) (size i : ℕ) → get_elem? (shown_in labels whole) i ≡ some (event.Done op given size) → ⊥
    not_done given size i at =
        let count : ℕ = counted_in (take i (shown_in labels whole)) in
        let told =
        shown_made labels whole (event.Done op given size) count (record { at = i; there = at; counts = refl }) in
        let label : Labelled = shows (event.Done op given size) told.changes told.found in
        let number : told.number ≡ r =
        elim (cases_eq told.number r) [
          | inl same ↦ same
          | inr away ↦
              absurd (let wrong : true ≡ false =
              off_turn names logs labels are told.number (index_in labels told.made) label
              (made_there labels whole all_whole told.number label told.made) away in cc)
        ] in
        by_reactor given size told.changes told.found
        (subst (λ m. IsMade labels whole m label) number told.made)
      where
        by_reactor : (given : Code) (size : ℕ) (changes : Change) (found : Found) →
            IsMade labels logged.closed.history r (shows (event.Done op given size) changes found) → ⊥
        by_reactor given size changes found made =
            let label : Labelled = shows (event.Done op given size) changes found in
            let apart : r ≢ opener = λ same. absurd (let less = within in omega (arith, same, less)) in
            let then = made_then r (event.Done op given size) changes found made (inl apart) in
            let at = made_there labels es all.0 r label then in
            let before = done_at names logs labels are within (index_in labels then) op given size changes found at in
            let less = made_within labels es r label then in
            let next = before.next in
            not_placed r before.place
            (made_of labels es all.0 r before.before (allots op home before.place) before.there (omega (arith, less, next))).0

    -- nor was it posted
    not_called : is_act is_posting names.script op ≡ true → (i : ℕ) →
        get_elem? (shown_in labels whole) i ≡ some (event.Call op) → ⊥
    not_called posting i at =
        let count : ℕ = counted_in (take i (shown_in labels whole)) in
        let told = shown_made labels whole (event.Call op) count (record { at = i; there = at; counts = refl }) in
        let then =
        made_then told.number (event.Call op) told.changes told.found told.made (inr (op, refl)) in
        let now = so es older in
        let dated =
        now.dates.dates op _ (made_shown labels es told.number (event.Call op) told.changes told.found then) in
        let stood = has_stand names well logs labels logged are es older all.0 in
        let shut =
        call_closed names well logs labels are es now
        (λ lane inside.
        nothing_left names logs labels logged are e es tail all.1 refl closes.shown closes.changes closes.found drew over lane inside)
        (stood.opened over) op in
        let back = returned_by (call_at (state_so names logs labels are es).context op) dated.0 shut in
        let asks = posted_asks script op posting in
        let placed =
        placed_by names well logs labels logged are es older now op back.0 back.1 asks.going unentered back.2 in
        let asked =
        asked_label names well logs labels are placed.number (index_in labels placed.made) (allots op placed.lane placed.place)
        (made_there labels es all.0 placed.number (allots op placed.lane placed.place) placed.made) placed.away in
        not_placed placed.number placed.place
        (subst (λ lane. IsMade labels es placed.number (allots op lane placed.place)) (asked.asks ∙ asks.asks) placed.made)

pub unfound_are_absent : (names : SessionNames) (logs : LogsView) (events : List Event) → IsWellFormed names.script →
    AreLogs names logs → IsMerging logs events → (n op : ℕ) → has_cell names.script op ≡ true →
    FoundNoneAtEnd names.script logs.lists n op → IsAbsent names.script events op
unfound_are_absent names logs events well logged merging n op has none =
    let labels : ℕ → List Labelled = labels_under names logs logged in
    let are = are_labels names logs logged in
    let so = so_at names well logs logged in
    absent names logs labels logged are events merging op
    (λ given size i at.
    not_done names well logs labels logged are so none.closing none.closes op has n none.joined none.counts none.joins
    none.knows none.looks given size i at)
    (λ posting i at.
    not_called names well logs labels logged are so none.closing none.closes op has n none.joined none.counts none.joins
    none.knows none.looks posting i at)
