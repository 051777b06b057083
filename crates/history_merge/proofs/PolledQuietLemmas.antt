-- Where polling is over no handler is ready and no request waits: each that was noted was begun or taken.
use Rattle.std.proofs.Common.{◌≡◌, ◌≢◌, ◌⊎◌, ℕ, zero, suc, ◌<◌, ◌≤◌, Bool, true, false, List, [], ◌∷◌, Option, Some, inl, inr, length, take, refl, sym, ap, subst, ◌∙◌, arith}
use Rattle.std.specs.Prelude.{slice_index}
use Rattle.std.proofs.Math.Seq.{take-append_seam}
use Rattle.std.proofs.lemmas.Bool.{cases_eq, eq-eqb}
use mathlib.Core.Option.{some, some-ne-none}
use lib.ListN.{get_elem?}
use Rattle.lane_map.proofs.RankLemmas.{op_within}
use Rattle.asio_types.specs.declared.code.Code.{Code}
use Rattle.asio_types.specs.declared.event.Event.{Event}
use Rattle.asio_types.specs.declared.event.Event.TheVariants as event
use Rattle.session_script.specs.Lanes.{is_inline}
use Rattle.session_script.specs.Script.{ScriptModel, is_op, is_operation, stops}
use Rattle.session_script.specs.WellFormed.{IsWellFormed}
use Rattle.history_rules.specs.Calls.{is_open}
use Rattle.history_rules.specs.Kinds.{is_act, is_control, is_posting}
use Rattle.history_rules.specs.Order.{is_request, was_taken}
use Rattle.history_rules.specs.Rounds.{AllQuiet, is_quiet, is_running, is_unspent}
use Rattle.history_rules.specs.State.{State, call_at, phase_at}
use Rattle.history_rules.specs.declared.phase.ActPhase.{ActPhase}
use Rattle.history_rules.specs.declared.phase.ActPhase.TheVariants as phase
use Rattle.history_rules.specs.declared.phase.CallPhase.{CallPhase}
use Rattle.history_rules.specs.declared.phase.CallPhase.TheVariants as call
use Rattle.history_rules.specs.declared.phase.Cause.{Cause}
use Rattle.history_rules.specs.declared.phase.Cause.TheVariants as cause
use Rattle.lane_clock.specs.declared.found.Change.{Change}
use Rattle.lane_clock.specs.declared.found.Found.{Found}
use Rattle.lane_clock.specs.declared.note.Note.{Note}
use Rattle.lane_clock.specs.declared.step.ClockStep.{ClockStep}
use Rattle.lane_clock.specs.declared.step.ClockStep.TheVariants.{Draw, Load, Look}
use Rattle.lane_clock.specs.History.{ClockEvent, IsSoundHistory, cell_after, places_after, steps_under}
use Rattle.lane_clock.specs.Steps.{draw_count}
use Rattle.lane_clock.proofs.KnownLemmas.{event as step_event}
use Rattle.lane_clock.proofs.MomentLemmas.{Tail, moment_of, sound_tail, tail_more, tail_refl}
use Rattle.lane_map.specs.LaneNumbers.{asked_lane, cells_of, home_lane, reactor_lane}
use Rattle.lane_logs.specs.Cuts.{HasStarted}
use Rattle.lane_logs.specs.Labels.{Labelled, allots, shows, silent, step_of, steps_in}
use Rattle.lane_logs.specs.LaneLog.{AreParts, MayFollow}
use Rattle.lane_logs.specs.Logs.{AreLogs, LogsView, session_layout}
use Rattle.lane_logs.specs.Names.{SessionNames}
use Rattle.lane_logs.specs.OpenerLog.{ClosedPart, ClosesPolled, closed}
use Rattle.lane_logs.specs.Parts.{Part, labels_in, labels_of}
use Rattle.lane_logs.specs.SeatNumbers.{lane_count, opener_seat}
use Rattle.execution_laws.specs.Ready.{is_ready}
use Rattle.lane_map.proofs.NumberLemmas.{lane_count as lanes_counted}
use Rattle.history_merge.proofs.AcceptedLemmas.{posted_asks, ready_by, request_asks, waits_by}
use Rattle.history_merge.proofs.AlikeLemmas.{is_not, never}
use Rattle.history_merge.proofs.AskedLemmas.{asked_label}
use Rattle.history_merge.proofs.AtEventLemmas.{IsBetween, lane_between, nothing_left}
use Rattle.history_merge.proofs.AtRestLemmas.{call_closed, not_running}
use Rattle.history_merge.proofs.BackLemmas.{placed_before}
use Rattle.history_merge.proofs.BegunPartLemmas.{IsStart, Starts, starts_at}
use Rattle.history_merge.proofs.ClosingLemmas.{stood}
use Rattle.history_merge.proofs.CutLemmas.{under_take}
use Rattle.history_merge.proofs.DatesLemmas.{AreDated, IsShownAt, is_past}
use Rattle.history_merge.proofs.HistoryLemmas.{AreLabelled, IsPlain, label_of, shown_in}
use Rattle.history_merge.proofs.LabellingLemmas.{AreLabels, lane_are, plain_label}
use Rattle.history_merge.proofs.LaneOfLemmas.{home_before, home_counted}
use Rattle.history_merge.proofs.LookingLemmas.{closing_over}
use Rattle.history_merge.proofs.HalfLemmas.{off_turn}
use Rattle.history_merge.proofs.CountedLemmas.{counted_in}
use Rattle.history_merge.proofs.StageLemmas.{left_at}
use Rattle.history_merge.proofs.OpenerLemmas.{stand_at}
use Rattle.history_merge.proofs.OpenerPartLemmas.{opener_at}
use Rattle.history_merge.proofs.PartLemmas.{Follow, all_made, follow_from, label_of_step, lane_made, made-append}
use Rattle.history_merge.proofs.PolledLemmas.{all_started, place_full}
use Rattle.history_merge.proofs.ShowsLemmas.{reactor_shows}
use Rattle.history_merge.proofs.SoFarLemmas.{made_so_far}
use Rattle.history_merge.proofs.SoLemmas.{IsSo, state_so}
use Rattle.history_merge.proofs.SoonLemmas.{cell_stays}
use Rattle.history_merge.proofs.TakenShownLemmas.{taken_shown}
use Rattle.history_merge.proofs.TimeLemmas.{IsMade, IsShownBy, index_in, made_of, made_shown, made_there, made_within, place_next, places_tail, shown_made}
use Rattle.history_merge.proofs.ToldLemmas.{done_at}

past_waits : (of : ActPhase) → is_past of ≡ true → is_request of ≡ true → ⊥
past_waits (phase.Running class progress) past waits = absurd (cc)
past_waits phase.Ended past waits = absurd (cc)
past_waits phase.Dropped past waits = absurd (cc)
past_waits other past waits = absurd (cc)

-- labels behind steps
look_label : (label : Labelled) (lane place : ℕ) (held : Option Note) → step_of label ≡ Look lane place held →
    label ≡ silent (Look lane place held)
look_label (silent step) lane place held is = ap silent is
look_label (shows shown changes found) lane place held is = absurd (cc)
look_label (allots act at cell) lane place held is = absurd (cc)

load_label : (label : Labelled) (load : Found) → step_of label ≡ Load load → label ≡ silent (Load load)
load_label (silent step) load is = ap silent is
load_label (shows shown changes found) load is = absurd (cc)
load_label (allots act at cell) load is = absurd (cc)

draw_label : (label : Labelled) (drew : Event) (changes : Change) (found : Found) → IsPlain label →
    step_of label ≡ Draw drew changes found → label ≡ shows drew changes found
draw_label (silent step) drew changes found plain is =
    absurd (let one = ap draw_count is in let none = plain.0 in omega (arith, one, none))
draw_label (shows shown change drawn) drew changes found plain is =
    let event_is : shown ≡ drew = cc in
    let first : change ≡ changes = cc in
    let second : drawn ≡ found = cc in
    λ i. shows (event_is i) (first i) (second i)
draw_label (allots act at cell) drew changes found plain is = absurd (cc)

take_from : {A : Type 0} → (xs : List A) (n i : ℕ) (x : A) → get_elem? (take n xs) i ≡ some x →
    (get_elem? xs i ≡ some x) × (i < n)
take_from [] zero i x at = absurd (some-ne-none x (sym at))
take_from [] (suc n) i x at = absurd (some-ne-none x (sym at))
take_from (y ∷ xs) zero i x at = absurd (some-ne-none x (sym at))
take_from (y ∷ xs) (suc n) zero x at = (at, omega arith)
take_from (y ∷ xs) (suc n) (suc i) x at = let rest = take_from xs n i x at in (rest.0, omega (arith, rest.1))

take_map : (xs : List Labelled) (n : ℕ) → take n (steps_in xs) ≡ steps_in (take n xs)
take_map xs zero = refl
take_map [] (suc n) = refl
take_map (x ∷ xs) (suc n) = ap (λ ys. step_of x ∷ ys) (take_map xs n)

module _ (names : SessionNames) (well : IsWellFormed names.script) (logs : LogsView) (labels : ℕ → List Labelled)
    (logged : AreLogs names logs) (are : AreLabels names logs labels) (e : ClockEvent) (es : List ClockEvent)
    (tail : Tail (e ∷ es) logged.closed.history) (all : AreLabelled labels (e ∷ es))
    (by : e.by ≡ opener_seat names.script) (shown : Event) (changes : Change) (found : Found)
    (is : label_of labels es e ≡ shows shown changes found)
    (so : (a : List ClockEvent) → Tail a es → IsSo names logs labels are a) (part : ClosedPart)
    (here : (opener_at names logs labels logged are e es tail all.1 by).part ≡ closed part)
    (polls : ClosesPolled names.script logs.lists (opener_at names logs labels logged are e es tail all.1 by).earlier part.load
    part.looks)
    (none_beyond : (lane : ℕ) → lane < lane_count names.script →
    places_after lane es ≤ slice_index (cells_of names.script) lane) where
  abbrev script : ScriptModel
  script = names.script

  abbrev opener : ℕ
  opener = opener_seat names.script

  abbrev guards : ℕ
  guards = names.script.guards

  abbrev seats : ℕ
  seats = (session_layout names.script).seats

  abbrev s : State
  s = state_so names logs labels are es

  abbrev events : List Event
  events = shown_in labels es

  older : Tail es logged.closed.history
  older = tail_more es e logged.closed.history tail

  sound : IsSoundHistory guards seats es
  sound = sound_tail guards seats es logged.closed.history older logged.closed.sound

  now : IsSo names logs labels are es
  now = so es (tail_refl es)

  dated : AreDated names.script (shown_in labels es) (state_so names logs labels are es).context
  dated = now.dates

  over : (stand_at names.script opener es).opening ≡ 0
  over = closing_over names well logs labels logged are e es tail all by shown changes found is part here

  reactor_counted : reactor_lane names.script < lane_count names.script
  reactor_counted = let count = lanes_counted names.script in omega (arith, count)

  left : (lane : ℕ) (within : lane < lane_count names.script) → left_at names logs labels are es lane within ≡ []
  left lane within = nothing_left names logs labels logged are e es tail all.1 by shown changes found is over lane within

  back : (n : ℕ) → is_open (call_at s.context n) ≡ false
  back n =
      call_closed names well logs labels are es now left
      ((stood names well logs labels logged are e es tail all by shown changes found is so).opened over) n

  -- what was drawn behind the note of an act
  record IsNoted (n lane : ℕ) : Type 0 where
    note : Note
    event : Event
    changed : Change
    drawn : Found
    made : IsMade labels es lane (shows event changed drawn)
    starts : Starts names.script lane note event
    op : note.op ≡ n

  module _ (lane : ℕ) (within : lane < lane_count names.script) (number n place : ℕ)
      (got : IsMade labels es number (allots n lane place)) where
    less : place < places_after lane es
    less =
        let next = place_next labels lane guards seats es sound all.0 number n place got in
        let most = places_tail labels lane (got.e ∷ got.older) es got.tail in
        omega (arith, next, most)

    has_cell : place < slice_index (cells_of names.script) lane
    has_cell = let one = less in let most = none_beyond lane within in omega (arith, one, most)

    abbrev started : HasStarted (steps_under lane es) lane place
    started =
        all_started names well logs labels logged are e es tail all by shown changes found is part here polls none_beyond lane
        within place less

    abbrev between : IsBetween Part (labels_in names.script lane) (are.lanes lane within).parts (length (steps_under lane es))
    between = lane_between names logs labels logged are e es tail all.1 by shown changes found is over lane within

    abbrev so_far : List Labelled
    so_far = labels_of names.script lane between.earlier

    made_is : made_so_far labels es lane ≡ so_far
    made_is =
        let made = are.lanes lane within in
        let more = made-append Part (labels_in script lane) between.later between.earlier in
        ap (λ k. take k (labels lane)) between.count_is
        ∙ (ap (take (length (all_made Part (labels_in script lane) between.earlier)))
        (made.are ∙ (ap (all_made Part (labels_in script lane)) between.parts_are ∙ more.1))
        ∙ (take-append_seam (all_made Part (labels_in script lane) between.earlier) more.0
        ∙ sym (lane_made script lane between.earlier)))

    steps_are : steps_under lane es ≡ steps_in so_far
    steps_are =
        sym (under_take script logs.lists (session_layout script) logs.last logged.closed es older lane)
        ∙ (ap (take (length (steps_under lane es))) (sym (are.steps lane))
        ∙ (take_map (labels lane) (length (steps_under lane es)) ∙ ap steps_in made_is))

    are_parts : AreParts names (logs.lists opener) lane between.earlier
    are_parts =
        let made = are.lanes lane within in
        lane_are names (logs.lists opener) lane between.earlier
        (follow_from Part (labels_in script lane) (MayFollow names (logs.lists opener) lane) between.later between.earlier
        (subst (Follow Part (labels_in script lane) (MayFollow names (logs.lists opener) lane)) between.parts_are made.follow))

    at_label : (i : ℕ) (step : ClockStep) → get_elem? (steps_under lane es) i ≡ some step →
        (label : Labelled) × (get_elem? so_far i ≡ some label) × (step_of label ≡ step)
    at_label i step at = label_of_step so_far i step (subst (λ xs. get_elem? xs i ≡ some step) steps_are at)

    there : (i : ℕ) (label : Labelled) → get_elem? so_far i ≡ some label →
        (get_elem? (labels lane) i ≡ some label) × (i < length (steps_under lane es))
    there i label at =
        take_from (labels lane) (length (steps_under lane es)) i label
        (subst (λ xs. get_elem? xs i ≡ some label) (sym made_is) at)

    note_is : started.note.op ≡ n
    note_is =
        let full =
        place_full names well logs labels logged are e es tail all by shown changes found is part here number n lane place got
        has_cell in
        let moment = moment_of es lane started.at (Look lane place (Some started.note)) started.sees in
        let looking : List ClockEvent = step_event lane (Look lane place (Some started.note)) ∷ moment.older in
        let fits : Some started.note ≡ cell_after lane place moment.older =
        (sound_tail guards seats looking es moment.tail sound).2 in
        let still =
        cell_stays lane place started.note guards seats moment.older es sound
        (tail_more moment.older (step_event lane (Look lane place (Some started.note))) es moment.tail) (sym fits) in
        let both : Some full.0 ≡ Some started.note = sym full.2 ∙ still in
        let same : full.0 ≡ started.note = cc in
        sym (ap (λ (note : Note). note.op) same) ∙ full.1

    noted : IsNoted n lane
    noted =
        let first = at_label started.at (Look lane place (Some started.note)) started.sees in
        let second = at_label (suc started.at) (Load started.load) started.loads in
        let third = at_label (suc (suc started.at)) (Draw started.shown started.changes started.found) started.draws in
        let here_is = there (suc (suc started.at)) third.0 third.1 in
        let drew =
        draw_label third.0 started.shown started.changes started.found
        (plain_label names logs labels are lane (suc (suc started.at)) third.0 here_is.0) third.2 in
        let start : IsStart so_far started.at lane place started.note started.load started.shown started.changes started.found =
        record {
          sees = first.1 ∙ ap some (look_label first.0 lane place (Some started.note) first.2);
          loads = second.1 ∙ ap some (load_label second.0 started.load second.2);
          draws = third.1 ∙ ap some drew;
        } in
        record {
          note = started.note;
          event = started.shown;
          changed = started.changes;
          drawn = started.found;
          made =
              (made_of labels es all.0 lane (suc (suc started.at)) (shows started.shown started.changes started.found)
              (here_is.0 ∙ ap some drew) here_is.1).0;
          starts =
              starts_at names (logs.lists opener) lane place started.note has_cell started.load started.shown started.changes
              started.found between.earlier are_parts started.at start;
          op = note_is;
        }

  -- an act that got a place: by its call, or by its completion
  record IsPlacedOn (n lane : ℕ) : Type 0 where
    number : ℕ
    place : ℕ
    got : IsMade labels es number (allots n lane place)

  called_place : (n c b : ℕ) → stops names.script n ≡ false → is_inline names.script n ≡ false →
      call_at s.context n ≡ call.Back c b → IsPlacedOn n (asked_lane names.script n)
  called_place n c b going unentered returned =
      let backed : IsShownBy labels es (event.Back n) b =
      shown_made labels es (event.Back n) b (dated.back n c b returned) in
      let label : Labelled = shows (event.Back n) backed.changes backed.found in
      let at = made_there labels es all.0 backed.number label backed.made in
      let less = made_within labels es backed.number label backed.made in
      let away : backed.number ≢ reactor_lane script =
      λ same.
      let wrong : false ≡ true =
      reactor_shows names well logs labels are reactor_counted (index_in labels backed.made) label
      (subst (λ m. get_elem? (labels m) (index_in labels backed.made) ≡ some label) same at) in
      cc in
      let before =
      placed_before names logs labels are n going unentered backed.number away (index_in labels backed.made) label at
      (eq-eqb n n refl) in
      let asked = asked_label names well logs labels are backed.number before.at _ before.there away in
      record {
        number = backed.number;
        place = before.place;
        got =
            subst (λ lane. IsMade labels es backed.number (allots n lane before.place)) asked.asks
            (made_of labels es all.0 backed.number before.at (allots n before.lane before.place) before.there
            (let early = before.before in omega (arith, early, less))).0;
      }

  done_place : (n d t : ℕ) (given : Code) (size : ℕ) → phase_at s.context n ≡ phase.Ready given size (cause.Completed d t) →
      IsPlacedOn n (home_lane names.script n)
  done_place n d t given size ready =
      let told : IsShownBy labels es (event.Done n given size) d =
      shown_made labels es (event.Done n given size) d (dated.caused n given size d t ready).0 in
      let label : Labelled = shows (event.Done n given size) told.changes told.found in
      let at = made_there labels es all.0 told.number label told.made in
      let less = made_within labels es told.number label told.made in
      let reacts : told.number ≡ reactor_lane script =
      elim (cases_eq told.number (reactor_lane script)) [
        | inl same ↦ same
        | inr away ↦
            absurd (let wrong : true ≡ false =
            off_turn names logs labels are told.number (index_in labels told.made) label at away in cc)
      ] in
      let before =
      done_at names logs labels are reactor_counted (index_in labels told.made) n given size told.changes told.found
      (subst (λ m. get_elem? (labels m) (index_in labels told.made) ≡ some label) reacts at) in
      record {
        number = reactor_lane script;
        place = before.place;
        got =
            (made_of labels es all.0 (reactor_lane script) before.before (allots n (home_lane script n) before.place) before.there
            (let next = before.next in
            let most : index_in labels told.made < length (steps_under (reactor_lane script) es) =
            subst (λ m. index_in labels told.made < length (steps_under m es)) reacts less in
            omega (arith, next, most))).0;
      }

  -- a call is back where something became of its act
  module _ (n : ℕ) (there_is : phase_at s.context n ≢ phase.Absent) where
    returned_by : (of : CallPhase) → call_at s.context n ≡ of → (c : ℕ) × (b : ℕ) × (call_at s.context n ≡ call.Back c b)
    returned_by call.Uncalled is = absurd (there_is ((now.state.order.acts n).absent is))
    returned_by (call.Open called) is =
        absurd (never (is_open (call_at s.context n)) (back n) (ap is_open is))
    returned_by (call.Stopping called) is =
        absurd (never (is_open (call_at s.context n)) (back n) (ap is_open is))
    returned_by (call.Back called back_at) is = (called, back_at, is)

  -- what was begun is past
  begun_past : (n lane : ℕ) (noted : IsNoted n lane) →
      noted.event ≡ event.Begin noted.note.op noted.note.code noted.note.size → is_past (phase_at s.context n) ≡ true
  begun_past n lane noted is =
      let shown_at = made_shown labels es lane noted.event noted.changed noted.drawn noted.made in
      dated.begun n noted.note.code noted.note.size _
      (subst (λ other. IsShownAt events other (counted_in (shown_in labels noted.made.older)))
      (is ∙ ap (λ op. event.Begin op noted.note.code noted.note.size) noted.op) shown_at)

  module _ (n : ℕ) (given : Code) (size : ℕ) (why : Cause) (ready : phase_at s.context n ≡ phase.Ready given size why) where
    operates : is_op names.script n ≡ true
    operates = by_op (is_op script n) refl
      where
        by_op : (b : Bool) → is_op script n ≡ b → is_op script n ≡ true
        by_op true is = is
        by_op false isnt =
            absurd (never (is_unspent (phase_at s.context n)) ((now.state.kinds n).spent isnt) (ap is_unspent ready))

    unentered : is_inline names.script n ≡ false
    unentered = is_not (is_inline script n) (λ inline.
        never (is_ready (phase_at s.context n)) ((now.state.kinds n).inline inline) (ap is_ready ready))

    placed_by : (why : Cause) → phase_at s.context n ≡ phase.Ready given size why → IsPlacedOn n (home_lane names.script n)
    placed_by (cause.Completed d t) ready = done_place n d t given size ready
    placed_by cause.Posted ready =
        let accepts = (now.state.kinds n).posted given size ready in
        let posting =
        ready_by script n (is_inline script n) (is_act is_posting script n) (is_act is_operation script n)
        (is_act is_control script n) given size cause.Posted (sym ready ∙ accepts) in
        let asked = posted_asks script n posting in
        let call =
        returned_by n (λ absent. let wrong : phase.Ready given size cause.Posted ≡ phase.Absent = sym ready ∙ absent in cc)
        (call_at s.context n) refl in
        subst (IsPlacedOn n) asked.asks (called_place n call.0 call.1 asked.going unentered call.2)

    ready_not : ⊥
    ready_not =
        let placed = placed_by why ready in
        let within = home_counted script well n (op_within script n operates) in
        let before = home_before script well n operates in
        let it = noted (home_lane script n) within placed.number n placed.place placed.got in
        by_starts it it.starts before
      where
        by_starts : (it : IsNoted n (home_lane names.script n)) →
            Starts names.script (home_lane names.script n) it.note it.event →
            home_lane names.script n < reactor_lane names.script → ⊥
        by_starts it (inl begins) before =
            let past = begun_past n (home_lane names.script n) it begins in
            let wrong : false ≡ true = sym (ap is_past ready) ∙ past in cc
        by_starts it (inr takes) before = let same = takes.0 in omega (arith, same, before)

  module _ (n : ℕ) (waits : is_request (phase_at s.context n) ≡ true) where
    there_is_one : phase_at s.context n ≢ phase.Absent
    there_is_one absent = let wrong : true ≡ false = sym waits ∙ ap is_request absent in cc

    kind : (is_inline names.script n ≡ false) × (is_act is_posting names.script n ≡ false)
        × ((is_act is_operation names.script n ≡ true) ⊎ (is_act is_control names.script n ≡ true))
    kind =
        waits_by script n (is_inline script n) (is_act is_posting script n) (is_act is_operation script n)
        (is_act is_control script n) (phase_at s.context n) waits ((now.state.kinds n).asked waits)

    taken : was_taken s.reactor n ≡ true
    taken =
        let asked = request_asks script n kind.1 kind.2 in
        let call = returned_by n there_is_one (call_at s.context n) refl in
        let placed = subst (IsPlacedOn n) asked.asks (called_place n call.0 call.1 asked.going kind.0 call.2) in
        let it = noted (reactor_lane script) reactor_counted placed.number n placed.place placed.got in
        by_starts it it.starts
      where
        by_starts : (it : IsNoted n (reactor_lane names.script)) →
            Starts names.script (reactor_lane names.script) it.note it.event → was_taken s.reactor n ≡ true
        by_starts it (inl begins) =
            let past = begun_past n (reactor_lane names.script) it begins in
            absurd (past_waits (phase_at s.context n) past waits)
        by_starts it (inr takes) =
            taken_shown names well logs labels logged are es so it.made.e it.made.older it.made.tail n it.changed it.drawn
            (it.made.is
            ∙ ap (λ shown. shows shown it.changed it.drawn) (takes.1 ∙ ap event.Take it.op))

  quiet_by : (n : ℕ) (of : ActPhase) → phase_at s.context n ≡ of → is_quiet of (was_taken s.reactor n) ≡ true
  quiet_by n (phase.Ready given size why) is = absurd (ready_not n given size why is)
  quiet_by n (phase.Running class progress) is =
      absurd (not_running names well logs labels are es now left n (ap is_running is))
  quiet_by n phase.Requested is = taken n (ap is_request is)
  quiet_by n phase.Asked is = taken n (ap is_request is)
  quiet_by n other is = refl

  -- so all is quiet
  pub polled_quiet : AllQuiet s
  polled_quiet n = quiet_by n (phase_at s.context n) refl
