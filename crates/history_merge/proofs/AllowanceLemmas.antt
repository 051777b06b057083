-- A start of a lane finds an allowance left: its load found the context going, and till the start only other lanes and
-- workers have drawn.
use Rattle.std.proofs.Common.{◌≡◌, ◌≢◌, ℕ, ◌<◌, ◌≤◌, false, List, [], ◌∷◌, ◌++◌, None, inl, inr, length, refl, sym, ap, subst, ◌∙◌, arith}
use Rattle.std.proofs.lemmas.Bool.{cases_eq, cases_lt, le-ltb}
use mathlib.Core.Option.{some, some-ne-none}
use lib.ListN.{get_elem?}
use Rattle.asio_types.specs.declared.event.Event.{Event}
use Rattle.asio_types.specs.declared.event.Event.TheVariants as event
use Rattle.asio_types.specs.declared.number.Lane.{Lane}
use Rattle.asio_types.specs.declared.number.Lane.TheVariants as lane
use Rattle.session_script.specs.Lanes.{lane_of}
use Rattle.session_script.specs.Script.{ScriptModel}
use Rattle.session_script.specs.WellFormed.{IsWellFormed}
use Rattle.history_rules.specs.Calls.{has_stopped, is_open}
use Rattle.history_rules.specs.Legal.{IsLegalSoFar, MayHappen, after_event}
use Rattle.history_rules.specs.State.{Allowances, State, call_at, first_state}
use Rattle.history_rules.specs.Stopping.{MayStart}
use Rattle.history_rules.specs.declared.phase.Allowance.TheVariants as allowance
use Rattle.history_rules.specs.declared.phase.CallPhase.{CallPhase}
use Rattle.history_rules.specs.declared.phase.CallPhase.TheVariants as call
use Rattle.lane_clock.specs.declared.found.Change.{Change}
use Rattle.lane_clock.specs.declared.found.Found.{Found}
use Rattle.lane_clock.specs.declared.step.ClockStep.TheVariants.{Load}
use Rattle.lane_clock.specs.ClockWord.{found_of}
use Rattle.lane_clock.specs.History.{ClockEvent, steps_under, word_after}
use Rattle.lane_clock.proofs.KnownLemmas.{event}
use Rattle.lane_clock.proofs.MomentLemmas.{Tail, sound_tail, tail_more, tail_refl, tail_trans, under_length}
use Rattle.lane_map.specs.LaneNumbers.{home_lane, lane_number, reactor_lane}
use Rattle.lane_logs.specs.Labels.{Labelled, allots, shows, silent, step_of}
use Rattle.lane_logs.specs.LaneLog.{FoundGoing, MayFollow, opener_after}
use Rattle.lane_logs.specs.Logs.{AreLogs, LogsView, session_layout}
use Rattle.lane_logs.specs.Names.{SessionNames}
use Rattle.lane_logs.specs.Parts.{Part, executed, failed, idle, labels_in, missing, turned}
use Rattle.lane_logs.specs.SeatNumbers.{IsWorkerSeat, lane_count, opener_seat}
use Rattle.lane_logs.specs.Stand.{Stand, stand_of}
use Rattle.lane_logs.specs.WorkerLog.{WorkerPart, stopped, waiting}
use Rattle.execution_laws.proofs.FreeLemmas.{free_may_start}
use Rattle.history_merge.proofs.BetweenLemmas.{IsOwnMoment, begins_at, kept_from, none_drawn, own_before, own_moment, stand_since}
use Rattle.history_merge.proofs.ClosingLemmas.{restart_closed}
use Rattle.history_merge.proofs.CutLemmas.{IsRoundOf, open_base}
use Rattle.history_merge.proofs.DrawRoundLemmas.{every_here, lane_at, lane_draws, lane_follows, nothing_in, worker_at}
use Rattle.history_merge.proofs.FrameLemmas.{IsWithinRound, allowances-after, allowed_after}
use Rattle.history_merge.proofs.FreedLemmas.{IsFreed, IsRestart, first_freed, freed_after}
use Rattle.history_merge.proofs.GoingLemmas.{IsDrawing}
use Rattle.history_merge.proofs.HistoryLemmas.{AreLabelled, label_of, shown_by, shown_in}
use Rattle.history_merge.proofs.HomeLemmas.{executed_home}
use Rattle.history_merge.proofs.LabellingLemmas.{AreLabels}
use Rattle.history_merge.proofs.LookingLemmas.{labelled_tail}
use Rattle.history_merge.proofs.OpenedLemmas.{legal_at}
use Rattle.history_merge.proofs.PartLemmas.{Every, IsMadeAt, every_at, labels_worker}
use Rattle.history_merge.proofs.ShowsLemmas.{IsOfExecution, IsOfTurn, Shows, executed_shows, failed_shows, turned_shows, within_round}
use Rattle.history_merge.proofs.SoFarLemmas.{state_at, state_next, state_with}
use Rattle.history_merge.proofs.SoLemmas.{IsSo}
use Rattle.history_merge.proofs.StartedLemmas.{IsApart, May, apart_by, execution_by, turn_by}
use Rattle.history_merge.proofs.StoodLemmas.{base_is}
use Rattle.history_merge.proofs.StopLemmas.{halts_of}
use Rattle.history_merge.proofs.WordLemmas.{counts_of}

closed_none : (of : CallPhase) → is_open of ≡ false → has_stopped of ≡ false
closed_none (call.Stopping called) isnt = absurd (cc)
closed_none other isnt = refl

restart_is : (shown : Event) → IsRestart shown → event.Restart ≡ shown
restart_is event.Restart is = refl
restart_is other is = absurd is

module _ (names : SessionNames) (well : IsWellFormed names.script) (logs : LogsView) (labels : ℕ → List Labelled)
    (logged : AreLogs names logs) (are : AreLabels names logs labels) where
  abbrev script : ScriptModel
  script = names.script

  abbrev opener : ℕ
  opener = opener_seat names.script

  abbrev state : List ClockEvent → State
  state es = state_at names.script names.told labels es

  abbrev So : List ClockEvent → Type 0
  So es = (a : List ClockEvent) → Tail a es → IsSo names logs labels are a

  -- what an event shows may happen where it is shown
  pub shown_may : (e : ClockEvent) (es : List ClockEvent) → IsSo names logs labels are (e ∷ es) →
      (shown : Event) (changes : Change) (found : Found) → label_of labels es e ≡ shows shown changes found →
      MayHappen names.script names.told (state es) shown
  shown_may e es so shown changes found is =
      legal_at script names.told (first_state script names.told) (shown_in labels es) shown []
      (subst (λ label. IsLegalSoFar script names.told (shown_in labels es ++ shown_by label)) is so.legal)

  module _ (e : ClockEvent) (es : List ClockEvent) (tail : Tail (e ∷ es) logged.closed.history)
      (all : AreLabelled labels (e ∷ es)) (so : So (e ∷ es)) (before : IsFreed names.script (state es).context) where
    no_stop : (shown : Event) (changes : Change) (found : Found) → label_of labels es e ≡ shows shown changes found →
        IsRestart shown → (n : ℕ) → has_stopped (call_at (state es).context n) ≡ false
    no_stop shown changes found is restarts n = elim (cases_eq e.by opener) [
      | inl by ↦
          closed_none (call_at (state es).context n)
          (restart_closed names well logs labels logged are e es tail all by shown changes found is (λ a within. so a (inr within))
          (restart_is shown restarts) n)
      | inr other ↦
          let inside : IsWithinRound script event.Restart =
          subst (IsWithinRound script) (sym (restart_is shown restarts))
          (subst (Shows (IsWithinRound script)) is
          (within_round names well logs labels are e.by _ (label_of labels es e) all.1.there other)) in
          absurd inside
    ]

    freed_by : (label : Labelled) → label_of labels es e ≡ label →
        IsFreed script (state_with script names.told label (state es)).context
    freed_by (silent step) is = before
    freed_by (allots act lane place) is = before
    freed_by (shows shown changes found) is =
        freed_after script names.told (state es) before shown
        (shown_may e es (so (e ∷ es) (tail_refl (e ∷ es))) shown changes found is) (no_stop shown changes found is)

    freed_next : IsFreed script (state (e ∷ es)).context
    freed_next =
        subst (λ (s : State). IsFreed script s.context) (sym (state_next script names.told labels e es))
        (freed_by (label_of labels es e) refl)

  pub freed : (es : List ClockEvent) → Tail es logged.closed.history → AreLabelled labels es → So es →
      IsFreed names.script (state es).context
  freed [] tail all so = first_freed script
  freed (e ∷ es) tail all so =
      freed_next e es tail all so
      (freed es (tail_more es e logged.closed.history tail) all.0 (λ a within. so a (inr within)))

  -- what a worker draws is a stop from outside
  worker_shows : (part : WorkerPart) → Every (Shows (λ shown. shown ≡ event.Stop None)) (labels_worker part)
  worker_shows (waiting step) = (tt, tt)
  worker_shows (stopped drawn) = (refl, tt)

  pub by_worker : (f : ClockEvent) (older : List ClockEvent) (tail : Tail (f ∷ older) logged.closed.history)
      (all : AreLabelled labels (f ∷ older)) (shown : Event) (changes : Change) (found : Found) →
      label_of labels older f ≡ shows shown changes found → IsWorkerSeat names.script f.by → shown ≡ event.Stop None
  by_worker f older tail all shown changes found is worker =
      let part = worker_at names logs labels logged are f older tail all.1 worker in
      every_here (Shows (λ shown. shown ≡ event.Stop None)) part.before (shows shown changes found) part.after
      (subst (Every (Shows (λ shown. shown ≡ event.Stop None)))
      (part.labels_are ∙ ap (λ label. part.before ++ label ∷ part.after) is) (worker_shows part.part))

  -- what any other number than a lane's and the opener's draws leaves what may begin on it
  module _ (number : ℕ) (at : Lane) (numbered : lane_number names.script at ≡ number) (f : ClockEvent)
      (older : List ClockEvent) (tail : Tail (f ∷ older) logged.closed.history) (all : AreLabelled labels (f ∷ older))
      (other : f.by ≢ number) (shown : Event) (changes : Change) (found : Found)
      (is : label_of labels older f ≡ shows shown changes found) where
    abbrev allowances : Allowances
    allowances = (state older).context.allowances

    apart : (of : Lane) → lane_number script of ≡ f.by → IsApart of at
    apart of by = apart_by script of at (λ same. other (sym by ∙ (same ∙ numbered)))

    module _ (within : f.by < lane_count names.script) (may : May at allowances) where
      abbrev part_at : IsMadeAt Part (labels_in names.script f.by) (are.lanes f.by within).parts
          (length (steps_under f.by older)) (label_of labels older f)
      part_at = lane_at names logs labels logged are f older tail all.1 within

      labels_are : (part : Part) → part_at.part ≡ part →
          labels_in script f.by part ≡ part_at.before ++ shows shown changes found ∷ part_at.after
      labels_are part here =
          sym (ap (labels_in script f.by) here)
          ∙ (part_at.labels_are ∙ ap (λ label. part_at.before ++ label ∷ part_at.after) is)

      follows : (part : Part) → part_at.part ≡ part → MayFollow names (logs.lists opener) f.by part_at.earlier part
      follows part here =
          subst (MayFollow names (logs.lists opener) f.by part_at.earlier) here
          (lane_follows names logs labels logged are f older tail all.1 within)

      has : (P : Event → Type 0) (part : Part) → part_at.part ≡ part → Every (Shows P) (labels_in script f.by part) → P shown
      has P part here every =
          every_here (Shows P) part_at.before (shows shown changes found) part_at.after
          (subst (Every (Shows P)) (labels_are part here) every)

      by_lane : (part : Part) → part_at.part ≡ part → May at (allowed_after script shown allowances)
      by_lane (idle step) here =
          absurd (nothing_in step part_at.before shown changes found part_at.after (labels_are (idle step) here))
      by_lane (executed part) here =
          let home = executed_home names well logs labels logged are f older tail all within shown changes found is part here in
          execution_by script well part.note.op at (apart (lane_of script part.note.op) home) allowances may part.note.code
          part.note.size shown
          (has (IsOfExecution script part.note.op part.note.code part.note.size) (executed part) here
          (executed_shows names well (logs.lists opener) f.by part_at.earlier part (follows (executed part) here)))
      by_lane (turned part) here =
          turn_by script well at (apart lane.Reactor (sym (follows (turned part) here).reactor)) allowances may shown
          (has IsOfTurn (turned part) here
          (turned_shows names well (logs.lists opener) f.by part_at.earlier part (follows (turned part) here)))
      by_lane (failed part) here =
          turn_by script well at (apart lane.Reactor (sym (follows (failed part) here).reactor)) allowances may shown
          (has IsOfTurn (failed part) here
          (failed_shows names well (logs.lists opener) f.by part_at.earlier part))
      by_lane (missing place note) here =
          absurd (nothing_in _ part_at.before shown changes found part_at.after (labels_are (missing place note) here))

    pub other_may : f.by ≢ opener_seat names.script → May at allowances →
        May at (after_event names.script names.told (state older) shown).context.allowances
    other_may away may =
        subst (May at) (sym (allowances-after script (state older).context shown))
        (elim (cases_lt f.by (lane_count script)) [
          | inl within ↦ by_lane within may (lane_at names logs labels logged are f older tail all.1 within).part refl
          | inr behind ↦ elim (cases_lt f.by opener) [
            | inl before ↦
                subst (λ shown. May at (allowed_after script shown allowances))
                (sym (by_worker f older tail all shown changes found is (record { behind = behind; before = before }))) may
            | inr beyond ↦
                absurd (some-ne-none (label_of labels older f)
                (sym (subst (λ made. get_elem? made (length (steps_under f.by older)) ≡ some (label_of labels older f))
                (are.others f.by (omega (arith, beyond, away))) all.1.there)))
          ]
        ])

  -- a lane starts something: its part has drawn nothing yet, and has loaded
  module _ (e : ClockEvent) (es : List ClockEvent) (tail : Tail (e ∷ es) logged.closed.history)
      (all : AreLabelled labels (e ∷ es)) (within : e.by < lane_count names.script) (shown : Event) (changes : Change)
      (found : Found) (is : label_of labels es e ≡ shows shown changes found) (so : So es) where
    abbrev part_here : IsMadeAt Part (labels_in names.script e.by) (are.lanes e.by within).parts
        (length (steps_under e.by es)) (label_of labels es e)
    part_here = lane_at names logs labels logged are e es tail all.1 within

    abbrev draws : IsDrawing names (logs.lists (opener_seat names.script)) e.by part_here.earlier
        (labels_in names.script e.by part_here.part)
    draws = lane_draws names logs labels logged are e es tail all.1 within shown changes found is

    module _ (first : Every (Shows (λ other. ⊥)) part_here.before) (load : Found) (j : ℕ)
        (there : get_elem? part_here.before j ≡ some (silent (Load load)))
        (going : FoundGoing names (logs.lists (opener_seat names.script)) e.by part_here.earlier load) (at : Lane)
        (numbered : lane_number names.script at ≡ e.by) where
      moment : IsOwnMoment names logs labels logged are e es tail within part_here draws j (silent (Load load))
      moment = own_moment names logs labels logged are e es tail within part_here draws j (silent (Load load)) there

      abbrev loading : List ClockEvent
      loading = event e.by (Load load) ∷ moment.older

      older : Tail loading logged.closed.history
      older = tail_trans loading es logged.closed.history moment.since (tail_more es e logged.closed.history tail)

      until : Tail moment.older es
      until = tail_more moment.older (event e.by (Load load)) es moment.since

      then : IsSo names logs labels are moment.older
      then = so moment.older until

      loaded : load ≡ counts_of script names.told labels moment.older
      loaded =
          let fits : load ≡ found_of (word_after script.guards moment.older) =
          (sound_tail script.guards (session_layout script).seats loading logged.closed.history older logged.closed.sound).2 in
          fits ∙ then.counts

      round : IsRoundOf script (stand_of script (opener_after names (logs.lists opener) e.by part_here.earlier)) load.stops
      round =
          let few = then.few in
          let same = ap (λ (f : Found). f.stops) loaded in
          open_base script (opener_after names (logs.lists opener) e.by part_here.earlier) load.stops
          (omega (arith, few, same)) going

      -- where it loaded the context wasn't stopped
      not_stopped : (state moment.older).context.stopped ≡ false
      not_stopped =
          let stand = stand_since names logs labels logged are e es tail within part_here draws moment.older until
          (let index = moment.index in omega (arith, index)) in
          let base = base_is names well logs labels logged are moment.older
          (tail_more moment.older (event e.by (Load load)) logged.closed.history older)
          (labelled_tail labels es moment.older until all.0) (λ a early. (so a (tail_trans a moment.older es early until)).counts) in
          let stops = ap (λ (f : Found). f.stops) loaded in
          let known = ap (λ (s : Stand). s.base) stand in
          let found = round.base in
          then.halted.stopped
          ∙ le-ltb (halts_of (shown_in labels moment.older)).base (halts_of (shown_in labels moment.older)).stops
          (omega (arith, base, stops, known, found))

      were_free : IsFreed names.script (state moment.older).context
      were_free =
          freed moment.older (tail_more moment.older (event e.by (Load load)) logged.closed.history older)
          (labelled_tail labels es moment.older until all.0) (λ a early. so a (tail_trans a moment.older es early until))

      -- a step in between leaves what may begin
      module _ (f : ClockEvent) (earlier : List ClockEvent) (made : Tail (f ∷ earlier) es) (since : Tail moment.older earlier)
          (may : May at (state earlier).context.allowances) where
        labelled : AreLabelled labels (f ∷ earlier)
        labelled = labelled_tail labels es (f ∷ earlier) made all.0

        behind : Tail (f ∷ earlier) logged.closed.history
        behind = tail_trans (f ∷ earlier) es logged.closed.history made (tail_more es e logged.closed.history tail)

        begun : begins_at names logs labels logged are e es tail within part_here draws ≤ length (steps_under e.by earlier)
        begun =
            let index = moment.index in
            let more = under_length e.by moment.older earlier since in omega (arith, index, more)

        by_number : (shows_it : Event) (changed : Change) (drawn : Found) →
            label_of labels earlier f ≡ shows shows_it changed drawn →
            May at (after_event script names.told (state earlier) shows_it).context.allowances
        by_number shows_it changed drawn here = elim (cases_eq f.by e.by) [
          | inl own ↦
              let mine =
              own_before names logs labels logged are e es tail within part_here draws f earlier made own begun labelled.1 in
              absurd (subst (Shows (λ other. ⊥)) here
              (every_at (Shows (λ other. ⊥)) part_here.before first mine.0 (label_of labels earlier f) mine.1))
          | inr other ↦ elim (cases_eq f.by opener) [
            | inl opens ↦
                absurd (none_drawn names logs labels logged are e es tail within part_here draws f earlier made begun opens
                shows_it changed drawn (sym labelled.1.step ∙ ap step_of here))
            | inr away ↦
                other_may e.by at numbered f earlier behind labelled other shows_it changed drawn here away may
          ]
        ]

        by_label : (label : Labelled) → label_of labels earlier f ≡ label →
            May at (state_with script names.told label (state earlier)).context.allowances
        by_label (silent step) here = may
        by_label (allots act lane place) here = may
        by_label (shows shows_it changed drawn) here = by_number shows_it changed drawn here

        one_on : May at (state (f ∷ earlier)).context.allowances
        one_on =
            subst (λ (s : State). May at s.context.allowances) (sym (state_next script names.told labels f earlier))
            (by_label (label_of labels earlier f) refl)

      still_may : May at (state moment.older).context.allowances → May at (state es).context.allowances
      still_may may =
          kept_from (λ es. May at (state es).context.allowances) moment.older es until may
          (λ f earlier made since before. one_on f earlier made since before)

    -- an operation of the lane may begin
    pub may_begin : Every (Shows (λ other. ⊥)) part_here.before → (load : Found) (j : ℕ) →
        get_elem? part_here.before j ≡ some (silent (Load load)) →
        FoundGoing names (logs.lists (opener_seat names.script)) e.by part_here.earlier load → (op : ℕ) →
        home_lane names.script op ≡ e.by → MayStart (state es).context (lane_of names.script op)
    may_begin first load j there going op home =
        still_may first load j there going (lane_of script op) home
        (free_may_start script (state (moment first load j there going (lane_of script op) home).older).context op well
        (were_free first load j there going (lane_of script op) home).free
        (not_stopped first load j there going (lane_of script op) home))

    -- and so may a turn of the reactor
    pub may_turn : Every (Shows (λ other. ⊥)) part_here.before → (load : Found) (j : ℕ) →
        get_elem? part_here.before j ≡ some (silent (Load load)) →
        FoundGoing names (logs.lists (opener_seat names.script)) e.by part_here.earlier load →
        e.by ≡ reactor_lane names.script → MayStart (state es).context lane.Reactor
    may_turn first load j there going reacts =
        still_may first load j there going lane.Reactor (sym reacts)
        (λ none.
        let free = ap (λ (a : Allowances). a.reactor)
        ((were_free first load j there going lane.Reactor (sym reacts)).free.free
        (not_stopped first load j there going lane.Reactor (sym reacts))) in
        let wrong : allowance.Free ≡ allowance.Nothing = sym free ∙ none in cc)
