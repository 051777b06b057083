-- At an event of the opener each lane is between two parts.
use Rattle.std.proofs.Common.{◌≡◌, ℕ, suc, ◌+◌, ◌<◌, List, [], ◌∷◌, ◌++◌, length, take, refl, sym, ap, subst, ◌∙◌, arith, length-append}
use Rattle.std.proofs.lemmas.List.{append_assoc}
use mathlib.Core.Option.{some}
use lib.ListN.{get_elem?}
use Rattle.asio_types.specs.declared.event.Event.{Event}
use Rattle.lane_clock.specs.declared.found.Change.{Change}
use Rattle.lane_clock.specs.declared.found.Found.{Found}
use Rattle.lane_clock.specs.declared.step.ClockStep.{ClockStep}
use Rattle.lane_clock.specs.declared.step.ClockStep.TheVariants.{Draw, Join}
use Rattle.lane_clock.specs.History.{ClockEvent, steps_under}
use Rattle.lane_clock.specs.Rule.{StepAt}
use Rattle.lane_clock.proofs.KnownLemmas.{event, under_same}
use Rattle.lane_clock.proofs.MomentLemmas.{Tail, at_start, tail_more, under_grows}
use Rattle.lane_logs.specs.Cuts.{IsEventAt}
use Rattle.lane_logs.specs.Knowing.{joined_count}
use Rattle.lane_logs.specs.Labels.{Labelled, entries_in, events_in, shows, silent, step_of}
use Rattle.lane_logs.specs.LaneLog.{MayFollow}
use Rattle.lane_logs.specs.Logs.{AreLogs, LogsView, session_layout}
use Rattle.lane_logs.specs.Names.{SessionNames}
use Rattle.lane_logs.specs.Parts.{Part, executed, failed, idle, labels_in, missing, turned}
use Rattle.lane_logs.specs.SeatNumbers.{lane_count, opener_seat}
use Rattle.lane_logs.specs.Stand.{Stand, stand_from, stand_of}
use Rattle.history_merge.proofs.CutLemmas.{cut_exact, under_take}
use Rattle.history_merge.proofs.DrawRoundLemmas.{every_here}
use Rattle.history_merge.proofs.GoingLemmas.{IsAlone, IsDrawing, IsNoJoin, executed_draws, failed_draws, turned_draws}
use Rattle.history_merge.proofs.HistoryLemmas.{IsLabelled, label_of}
use Rattle.history_merge.proofs.LabellingLemmas.{AreLabels}
use Rattle.history_merge.proofs.OpenerLemmas.{opening_falls, stand_at, stand_here}
use Rattle.history_merge.proofs.PartLemmas.{Every, IsMadeAt, all_made, at_seam, follows_at, label_of_step, made_at}
use Rattle.history_merge.proofs.StageLemmas.{left_at, left_behind, left_first, left_last, left_of, stage_between}

-- so many labels are whole parts
pub record IsBetween (P : Type 0) (made : P → List Labelled) (parts : List P) (count : ℕ) : Type 0 where
  pub later : List P
  pub earlier : List P
  pub parts_are : parts ≡ later ++ earlier
  pub count_is : count ≡ length (all_made P made earlier)

-- a part in which a step takes something in is that step
module _ (names : SessionNames) (opener : List ClockStep) (lane : ℕ) (earlier : List Part) where
  one_only : (x : Labelled) (before : List Labelled) (label : Labelled) (after : List Labelled) →
      x ∷ [] ≡ before ++ label ∷ after → before ≡ []
  one_only x [] label after is = refl
  one_only x (y ∷ before) label after is =
      let size : 1 ≡ length (y ∷ (before ++ label ∷ after)) = ap length is in
      let more = length-append before (label ∷ after) in absurd (omega (arith, size, more))

  no_join : (made before : List Labelled) (label : Labelled) (after : List Labelled) (counts : List ℕ) →
      made ≡ before ++ label ∷ after → step_of label ≡ Join counts → IsDrawing names opener lane earlier made → ⊥
  no_join made before label after counts is joins draws =
      subst IsNoJoin joins (every_here IsAlone before label after (subst (Every IsAlone) is draws.alone))

  pub joins_alone : (part : Part) (before : List Labelled) (label : Labelled) (after : List Labelled) (counts : List ℕ) →
      labels_in names.script lane part ≡ before ++ label ∷ after → step_of label ≡ Join counts →
      MayFollow names opener lane earlier part → before ≡ []
  joins_alone (idle step) before label after counts is joins may = one_only (silent step) before label after is
  joins_alone (executed part) before label after counts is joins may =
      absurd (no_join _ before label after counts is joins (executed_draws names opener lane earlier part may))
  joins_alone (turned part) before label after counts is joins may =
      absurd (no_join _ before label after counts is joins (turned_draws names opener lane earlier part may))
  joins_alone (failed part) before label after counts is joins may =
      absurd (no_join _ before label after counts is joins (failed_draws names opener lane earlier part may))
  joins_alone (missing place note) before label after counts is joins may = one_only _ before label after is

module _ (names : SessionNames) (logs : LogsView) (labels : ℕ → List Labelled) (logged : AreLogs names logs)
    (are : AreLabels names logs labels) (e : ClockEvent) (es : List ClockEvent)
    (tail : Tail (e ∷ es) logged.closed.history) (labelled : IsLabelled labels es e)
    (by : e.by ≡ opener_seat names.script) where
  abbrev opener : ℕ
  opener = opener_seat names.script

  older : Tail es logged.closed.history
  older = tail_more es e logged.closed.history tail

  -- the opener draws an event that all others take in
  module _ (shown : Event) (changes : Change) (found : Found) (is : label_of labels es e ≡ shows shown changes found)
      (over : (stand_at names.script opener es).opening ≡ 0) where
    step_is : e.step ≡ Draw shown changes found
    step_is = sym labelled.step ∙ ap step_of is

    abbrev here : ClockEvent
    here = event opener e.step

    here_tail : Tail (here ∷ es) logged.closed.history
    here_tail = subst (λ k. Tail (event k e.step ∷ es) logged.closed.history) by tail

    pub event_at : IsEventAt names.script logs.lists (length (steps_under opener es))
    event_at =
        let j : ℕ = length (steps_under opener es) in
        let now : steps_under opener (here ∷ es) ≡ steps_under opener es ++ e.step ∷ [] = under_same es opener e.step in
        let size : length (steps_under opener (here ∷ es)) ≡ suc j =
        ap length now ∙ (length-append (steps_under opener es) (e.step ∷ [])
        ∙ (let more : j + 1 ≡ suc j = omega arith in more)) in
        let first : take (suc j) (logs.lists opener) ≡ steps_under opener (here ∷ es) =
        ap (λ k. take k (logs.lists opener)) (sym size)
        ∙ under_take names.script logs.lists (session_layout names.script) logs.last logged.closed (here ∷ es) here_tail opener in
        let start = under_grows opener (here ∷ es) logged.closed.history here_tail in
        let there : get_elem? (logs.lists opener) j ≡ some e.step =
        subst (λ xs. get_elem? xs j ≡ some e.step) (sym (logged.closed.all opener))
        (at_start (steps_under opener (here ∷ es)) (steps_under opener logged.closed.history) j e.step start
        (subst (λ xs. get_elem? xs j ≡ some e.step) (sym now) (at_seam (steps_under opener es) e.step []))) in
        let goes = stand_here names.script opener here es refl in
        let falls = opening_falls names.script (stand_at names.script opener es) (e.step ∷ []) in
        record {
          shown = shown;
          changes = changes;
          found = found;
          drawn = subst (λ step. StepAt logs.lists opener j step) step_is there;
          opened =
              let stand : stand_of names.script (take (suc j) (logs.lists opener))
              ≡ stand_from names.script (stand_at names.script opener es) (e.step ∷ []) =
              ap (stand_of names.script) first ∙ goes in
              let same = ap (λ (s : Stand). s.opening) stand in
              omega (arith, same, falls, over);
        }

    -- so each other number has made what the opener had taken in
    pub others_exact : (n : ℕ) → n < opener →
        length (steps_under n es) ≡ joined_count n (steps_under opener es)
    others_exact n before =
        cut_exact names.script logs.lists (session_layout names.script) logs.last logged.closed logged.cuts e.step es here_tail
        event_at n before

    -- and its next step takes the event in
    others_join : (n : ℕ) → n < opener →
        (counts : List ℕ) × (get_elem? (logs.lists n) (length (steps_under n es)) ≡ some (Join counts))
    others_join n before =
        let cut = logged.cuts (length (steps_under opener es)) n event_at before in
        let place : joined_count n (take (length (steps_under opener es)) (logs.lists opener)) ≡ length (steps_under n es) =
        ap (joined_count n)
        (under_take names.script logs.lists (session_layout names.script) logs.last logged.closed es older opener)
        ∙ sym (others_exact n before) in
        (cut.counts, subst (λ i. get_elem? (logs.lists n) i ≡ some (Join cut.counts)) place cut.joins)

    -- so each lane is between two parts
    pub lane_between : (lane : ℕ) (within : lane < lane_count names.script) →
        IsBetween Part (labels_in names.script lane) (are.lanes lane within).parts (length (steps_under lane es))
    lane_between lane within =
        let made = are.lanes lane within in
        let next = others_join lane (omega (arith, within)) in
        let found =
        label_of_step (labels lane) (length (steps_under lane es)) (Join next.0)
        (subst (λ xs. get_elem? xs (length (steps_under lane es)) ≡ some (Join next.0)) (sym (are.steps lane)) next.1) in
        let at : IsMadeAt Part (labels_in names.script lane) made.parts (length (steps_under lane es)) found.0 =
        made_at Part (labels_in names.script lane) made.parts (length (steps_under lane es)) found.0
        (subst (λ xs. get_elem? xs (length (steps_under lane es)) ≡ some found.0) made.are found.1) in
        let follows =
        follows_at Part (labels_in names.script lane) (MayFollow names (logs.lists opener) lane) made.parts
        (length (steps_under lane es)) found.0 at made.follow in
        let none : at.before ≡ [] =
        joins_alone names (logs.lists opener) lane at.earlier at.part at.before found.0 at.after next.0 at.labels_are found.2
        follows in
        let size = ap length none in
        record {
          later = at.later ++ at.part ∷ [];
          earlier = at.earlier;
          parts_are = at.parts_are ∙ sym (append_assoc at.later (at.part ∷ []) at.earlier);
          count_is = omega (arith, at.index, size);
        }

    -- and nothing is left of an execution
    pub nothing_left : (lane : ℕ) (within : lane < lane_count names.script) → left_at names logs labels are es lane within ≡ []
    nothing_left lane within =
        let between = lane_between lane within in
        ap (λ left. events_in (entries_in left))
        (ap (λ parts. left_behind names.script lane parts (length (steps_under lane es))) between.parts_are
        ∙ stage_between names.script lane [] (left_of names.script lane) (left_first names.script lane)
        (left_last names.script lane) between.later between.earlier (length (steps_under lane es)) between.count_is)
