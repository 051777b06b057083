-- What a lane or a worker draws lies in an open round.
use Rattle.std.proofs.Common.{◌≡◌, ◌≢◌, ℕ, ◌<◌, ◌≤◌, true, List, [], ◌∷◌, ◌++◌, inl, inr, length, take, refl, sym, ap, subst, ◌∙◌, arith, length-append}
use Rattle.std.proofs.Math.Seq.{take-append_seam}
use Rattle.std.proofs.lemmas.Bool.{cases_lt}
use Rattle.std.proofs.lemmas.List.{length-map}
use mathlib.Core.Option.{some, some-injective, some-ne-none}
use lib.ListN.{get_elem?}
use Rattle.asio_types.specs.declared.event.Event.{Event}
use Rattle.session_script.specs.Script.{ScriptModel}
use Rattle.lane_clock.specs.declared.found.Change.{Change}
use Rattle.lane_clock.specs.declared.found.Found.{Found}
use Rattle.lane_clock.specs.declared.step.ClockStep.{ClockStep}
use Rattle.lane_clock.specs.declared.step.ClockStep.TheVariants.{Draw, Join}
use Rattle.lane_clock.specs.History.{ClockEvent, steps_under}
use Rattle.lane_clock.specs.Rule.{StepAt}
use Rattle.lane_clock.proofs.MomentLemmas.{Tail, tail_more}
use Rattle.lane_logs.specs.Knowing.{known_steps}
use Rattle.lane_logs.specs.Labels.{Labelled, shows, silent, step_of, steps_in}
use Rattle.lane_logs.specs.LaneLog.{MayFollow}
use Rattle.lane_logs.specs.Logs.{AreLogs, LogsView, session_layout}
use Rattle.lane_logs.specs.Names.{SessionNames}
use Rattle.lane_logs.specs.Parts.{Part, executed, failed, idle, labels_in, missing, turned}
use Rattle.lane_logs.specs.SeatNumbers.{IsWorkerSeat, lane_count, opener_seat}
use Rattle.lane_logs.specs.Stand.{Stand, is_round_open, stand_of}
use Rattle.lane_logs.specs.WorkerLog.{IsStoppedPart, MayFollowStopped, WorkerPart, labels_of_worker, stand_known, stopped, waiting}
use Rattle.lane_logs.proofs.LabelLemmas.{steps-append}
use Rattle.history_merge.proofs.CutLemmas.{IsRoundOf, known_stand, open_opened}
use Rattle.history_merge.proofs.GoingLemmas.{IsDrawing, executed_draws, failed_draws, going_at, turned_draws}
use Rattle.history_merge.proofs.HistoryLemmas.{IsLabelled, label_of}
use Rattle.history_merge.proofs.LabellingLemmas.{AreLabels}
use Rattle.history_merge.proofs.ShowsLemmas.{Shows}
use Rattle.history_merge.proofs.PartLemmas.{Every, IsMadeAt, all_made, follows_at, labels_worker, made_at, made_up_to, step_of_label, worker_made}

-- what holds of each label holds of one in the middle
pub every_here : (P : Labelled → Type 0) (before : List Labelled) (label : Labelled) (after : List Labelled) →
    Every P (before ++ label ∷ after) → P label
every_here P [] label after all = all.0
every_here P (x ∷ before) label after all = every_here P before label after all.1

-- the first steps are those of the first labels
pub take_steps : (xs rest : List Labelled) (steps : List ClockStep) → steps_in (xs ++ rest) ≡ steps →
    take (length xs) steps ≡ steps_in xs
take_steps xs rest steps is =
    ap (take (length xs)) (sym is ∙ steps-append xs rest)
    ∙ (ap (λ n. take n (steps_in xs ++ steps_in rest)) (sym (length-map xs step_of))
    ∙ take-append_seam (steps_in xs) (steps_in rest))

-- nothing is shown by a part that is one step
pub nothing_in : (step : ClockStep) (before : List Labelled) (shown : Event) (changes : Change) (found : Found)
    (after : List Labelled) → silent step ∷ [] ≡ before ++ shows shown changes found ∷ after → ⊥
nothing_in step before shown changes found after is =
    every_here (Shows (λ other. ⊥)) before (shows shown changes found) after (subst (Every (Shows (λ other. ⊥))) is (tt, tt))

module _ (names : SessionNames) (opener : List ClockStep) (lane : ℕ) (earlier : List Part) where
  -- a part that shows something draws
  pub part_draws : (part : Part) (before : List Labelled) (shown : Event) (changes : Change) (found : Found)
      (after : List Labelled) → labels_in names.script lane part ≡ before ++ shows shown changes found ∷ after →
      MayFollow names opener lane earlier part →
      IsDrawing names opener lane earlier (labels_in names.script lane part)
  part_draws (idle step) before shown changes found after is may =
      absurd (nothing_in step before shown changes found after is)
  part_draws (executed part) before shown changes found after is may = executed_draws names opener lane earlier part may
  part_draws (turned part) before shown changes found after is may = turned_draws names opener lane earlier part may
  part_draws (failed part) before shown changes found after is may = failed_draws names opener lane earlier part may
  part_draws (missing place note) before shown changes found after is may =
      absurd (nothing_in _ before shown changes found after is)

module _ (names : SessionNames) (logs : LogsView) (labels : ℕ → List Labelled) (logged : AreLogs names logs)
    (are : AreLabels names logs labels) (e : ClockEvent) (es : List ClockEvent)
    (tail : Tail (e ∷ es) logged.closed.history) (labelled : IsLabelled labels es e) where
  abbrev script : ScriptModel
  script = names.script

  abbrev opener_steps : List ClockStep
  opener_steps = logs.lists (opener_seat names.script)

  -- where the rounds stand before the step
  abbrev pub stand_before : Stand
  stand_before = stand_of names.script (steps_under (opener_seat names.script) es)

  -- the part of a lane in which the step stands
  module _ (within : e.by < lane_count names.script) where
    abbrev pub lane_at : IsMadeAt Part (labels_in names.script e.by) (are.lanes e.by within).parts
        (length (steps_under e.by es)) (label_of labels es e)
    lane_at =
        made_at Part (labels_in names.script e.by) (are.lanes e.by within).parts (length (steps_under e.by es))
        (label_of labels es e)
        (subst (λ xs. get_elem? xs (length (steps_under e.by es)) ≡ some (label_of labels es e))
        (are.lanes e.by within).are labelled.there)

    pub lane_follows : MayFollow names opener_steps e.by lane_at.earlier lane_at.part
    lane_follows =
        follows_at Part (labels_in names.script e.by) (MayFollow names opener_steps e.by) (are.lanes e.by within).parts
        (length (steps_under e.by es)) (label_of labels es e) lane_at (are.lanes e.by within).follow

    -- what it draws lies in an open round, whose restart found the stops that its load found
    module _ (shown : Event) (changes : Change) (found : Found) (is : label_of labels es e ≡ shows shown changes found) where
      abbrev pub lane_draws : IsDrawing names opener_steps e.by lane_at.earlier (labels_in names.script e.by lane_at.part)
      lane_draws =
          part_draws names opener_steps e.by lane_at.earlier lane_at.part lane_at.before shown changes found lane_at.after
          (subst (λ label. labels_in names.script e.by lane_at.part ≡ lane_at.before ++ label ∷ lane_at.after) is
          lane_at.labels_are)
          lane_follows

      pub lane_round : IsRoundOf names.script stand_before lane_draws.load.stops
      lane_round = going_at names logs labels logged are e es tail within lane_at lane_draws

  -- and so does what a worker draws
  module _ (worker : IsWorkerSeat names.script e.by) where
    abbrev pub worker_at : IsMadeAt WorkerPart labels_worker (are.workers e.by worker).parts
        (length (steps_under e.by es)) (label_of labels es e)
    worker_at =
        made_at WorkerPart labels_worker (are.workers e.by worker).parts (length (steps_under e.by es))
        (label_of labels es e)
        (subst (λ xs. get_elem? xs (length (steps_under e.by es)) ≡ some (label_of labels es e))
        (are.workers e.by worker).are labelled.there)

    pub worker_follows : MayFollowStopped names.script opener_steps worker_at.earlier worker_at.part
    worker_follows =
        follows_at WorkerPart labels_worker (MayFollowStopped names.script opener_steps) (are.workers e.by worker).parts
        (length (steps_under e.by es)) (label_of labels es e) worker_at (are.workers e.by worker).follow

    stopped_part : (earlier : List WorkerPart) (part : WorkerPart) (before : List Labelled) (shown : Event)
        (changes : Change) (found : Found) (after : List Labelled) →
        labels_worker part ≡ before ++ shows shown changes found ∷ after →
        MayFollowStopped names.script opener_steps earlier part → IsStoppedPart names.script opener_steps earlier
    stopped_part earlier (waiting step) before shown changes found after is may =
        absurd (nothing_in step before shown changes found after is)
    stopped_part earlier (stopped drawn) before shown changes found after is may = may

    alone : (part : WorkerPart) (before : List Labelled) (label : Labelled) (after : List Labelled) →
        labels_worker part ≡ before ++ label ∷ after → length before ≡ 0
    alone part [] label after is = refl
    alone part (x ∷ before) label after is =
        let size : 1 ≡ length (x ∷ (before ++ label ∷ after)) = ap length is in
        let more = length-append before (label ∷ after) in absurd (omega (arith, size, more))

    module _ (shown : Event) (changes : Change) (found : Found) (is : label_of labels es e ≡ shows shown changes found) where
      worker_stops : IsStoppedPart names.script opener_steps worker_at.earlier
      worker_stops =
          stopped_part worker_at.earlier worker_at.part worker_at.before shown changes found worker_at.after
          (subst (λ label. labels_worker worker_at.part ≡ worker_at.before ++ label ∷ worker_at.after) is
          worker_at.labels_are)
          worker_follows

      abbrev since : ℕ
      since = length (all_made WorkerPart labels_worker worker_at.earlier)

      since_is : length (steps_under e.by es) ≡ since
      since_is =
          let none = alone worker_at.part worker_at.before (label_of labels es e) worker_at.after worker_at.labels_are in
          omega (arith, worker_at.index, none)

      earlier_steps : take since (logs.lists e.by) ≡ steps_in (labels_of_worker worker_at.earlier)
      earlier_steps =
          let up = made_up_to WorkerPart labels_worker (are.workers e.by worker).parts (length (steps_under e.by es))
          (label_of labels es e) worker_at in
          let none : worker_at.before ≡ [] = empty worker_at.before
          (alone worker_at.part worker_at.before (label_of labels es e) worker_at.after worker_at.labels_are) in
          let xs : List Labelled = all_made WorkerPart labels_worker worker_at.earlier in
          let whole : labels e.by ≡ xs ++ (label_of labels es e ∷ up.0) =
          (are.workers e.by worker).are ∙ (up.1 ∙ ap (λ before. (xs ++ before) ++ label_of labels es e ∷ up.0) none
          ∙ ap (λ ys. ys ++ label_of labels es e ∷ up.0) (nothing xs)) in
          take_steps xs (label_of labels es e ∷ up.0) (logs.lists e.by) (ap steps_in (sym whole) ∙ are.steps e.by)
          ∙ ap steps_in (sym (worker_made worker_at.earlier))
        where
          empty : (xs : List Labelled) → length xs ≡ 0 → xs ≡ []
          empty [] is = refl
          empty (x ∷ xs) is = absurd (omega (arith, is))

          nothing : (xs : List Labelled) → xs ++ [] ≡ xs
          nothing [] = refl
          nothing (x ∷ xs) = ap (λ ys. x ∷ ys) (nothing xs)

      -- its own step takes in nothing
      quiet : (i : ℕ) (counts : List ℕ) → since ≤ i → i ≤ length (steps_under e.by es) →
          StepAt logs.lists e.by i (Join counts) → ⊥
      quiet i counts from to at =
          let same : i ≡ length (steps_under e.by es) = omega (arith, from, to, since_is) in
          let own : get_elem? (logs.lists e.by) (length (steps_under e.by es)) ≡ some (step_of (label_of labels es e)) =
          subst (λ xs. get_elem? xs (length (steps_under e.by es)) ≡ some (step_of (label_of labels es e)))
          (are.steps e.by) (step_of_label (labels e.by) (length (steps_under e.by es)) (label_of labels es e) labelled.there) in
          let draw : Draw shown changes found ≡ Join counts =
          ap step_of (sym is) ∙ some-injective (step_of (label_of labels es e)) (Join counts)
          (sym own ∙ (ap (get_elem? (logs.lists e.by)) (sym same) ∙ at)) in
          absurd (cc)

      pub worker_round : is_round_open names.script stand_before ≡ true
      worker_round =
          let older = tail_more es e logged.closed.history tail in
          let known : stand_of names.script (known_steps opener_steps (opener_seat names.script) (take since (logs.lists e.by)))
          ≡ stand_of names.script
          (known_steps opener_steps (opener_seat names.script) (steps_in (labels_of_worker worker_at.earlier))) =
          ap (λ steps. stand_of names.script (known_steps opener_steps (opener_seat names.script) steps)) earlier_steps in
          let opened = open_opened names.script (stand_known names.script opener_steps worker_at.earlier) worker_stops.round in
          let same =
          known_stand names.script logs.lists (session_layout names.script) logs.last logged.closed logged.cuts es older e.by
          since worker.before (omega (arith, since_is)) quiet (ap (λ (s : Stand). s.opening) known ∙ opened) in
          ap (is_round_open names.script) (same ∙ known) ∙ worker_stops.round

  -- whoever draws but the opener
  pub drawn_round : e.by ≢ opener_seat names.script → (shown : Event) (changes : Change) (found : Found) →
      label_of labels es e ≡ shows shown changes found → is_round_open names.script stand_before ≡ true
  drawn_round other shown changes found is = elim (cases_lt e.by (lane_count names.script)) [
    | inl lane ↦ (lane_round lane shown changes found is).round
    | inr behind ↦ elim (cases_lt e.by (opener_seat names.script)) [
      | inl before ↦ worker_round (record { behind = behind; before = before }) shown changes found is
      | inr beyond ↦
          absurd (some-ne-none (label_of labels es e)
          (sym (subst (λ xs. get_elem? xs (length (steps_under e.by es)) ≡ some (label_of labels es e))
          (are.others e.by (omega (arith, beyond, other))) labelled.there)))
    ]
  ]
