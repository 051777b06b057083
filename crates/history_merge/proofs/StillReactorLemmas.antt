-- At a restart and at a closing the reactor rests: it has nothing to tell, and it hasn't failed.
use Rattle.std.proofs.Common.{◌≡◌, ℕ, zero, suc, ◌<◌, Bool, true, false, List, [], ◌∷◌, ◌++◌, length, map, take, refl, sym, ap, subst, ◌∙◌, arith}
use Rattle.std.specs.Prelude.{◌||◌}
use Rattle.std.proofs.Math.Seq.{take-append_seam}
use Rattle.std.proofs.lemmas.List.Elements.{All-head, All-tail}
use Rattle.asio_types.specs.declared.event.Event.{Event}
use Rattle.session_script.specs.Script.{ScriptModel}
use Rattle.lane_clock.specs.declared.found.Change.{Change}
use Rattle.lane_clock.specs.declared.found.Found.{Found}
use Rattle.lane_clock.specs.declared.step.ClockStep.TheVariants.{Load}
use Rattle.lane_clock.specs.History.{ClockEvent, steps_under}
use Rattle.lane_clock.proofs.MomentLemmas.{Tail, tail_more}
use Rattle.lane_map.specs.LaneNumbers.{reactor_lane}
use Rattle.lane_map.proofs.NumberLemmas.{lane_count as lanes_counted}
use Rattle.lane_logs.specs.Cuts.{NoneStops, is_stop_draw}
use Rattle.lane_logs.specs.Knowing.{joined_count}
use Rattle.lane_logs.specs.Labels.{Labelled, entries_in, shows, silent, step_of, steps_in}
use Rattle.lane_logs.specs.LaneLog.{AreParts, MayFollow}
use Rattle.lane_logs.specs.Half.{half_of}
use Rattle.lane_logs.specs.Logs.{AreLogs, LogsView, session_layout}
use Rattle.lane_logs.specs.Names.{SessionNames}
use Rattle.lane_logs.specs.OpenerLog.{Looked, ReactorWorks, look_label, opener_steps}
use Rattle.lane_logs.specs.Parts.{Part, TurnEnd, are_broken, end_labels, executed, failed, fails, fault_label, idle, is_broken, is_failing, labels_in, looks_empty, missing, start_labels, tells, turned}
use Rattle.lane_logs.specs.SeatNumbers.{lane_count, opener_seat}
use Rattle.history_merge.proofs.AtEventLemmas.{IsBetween, lane_between, others_exact}
use Rattle.history_merge.proofs.CutLemmas.{joined-append, under_take}
use Rattle.history_merge.proofs.DrawRoundLemmas.{every_here}
use Rattle.history_merge.proofs.HalfLemmas.{half_is}
use Rattle.history_merge.proofs.HistoryLemmas.{AreLabelled, label_of}
use Rattle.history_merge.proofs.LabellingLemmas.{AreLabels, lane_are}
use Rattle.history_merge.proofs.OpenerLemmas.{stand_at}
use Rattle.history_merge.proofs.OpenerPartLemmas.{opener_at, opener_steps_are}
use Rattle.history_merge.proofs.PartLemmas.{Every, Follow, all_made, follow_from, lane_made, made-append}
use Rattle.history_merge.proofs.RestingLemmas.{IsResting, rests}
use Rattle.history_merge.proofs.SoFarLemmas.{made_so_far, state_at}

-- what holds of all labels of parts, where nothing of them stops the context
abbrev IsGoing : Labelled → Type 0
IsGoing label = is_stop_draw (step_of label) ≡ false

all_going : (labels : List Labelled) → NoneStops (steps_in labels) → Every IsGoing labels
all_going [] all = tt
all_going (label ∷ labels) all = (
  All-head (λ step. is_stop_draw step ≡ false) (step_of label) (steps_in labels) all,
  all_going labels (All-tail (λ step. is_stop_draw step ≡ false) (step_of label) (steps_in labels) all),
)

every_last : (P : Labelled → Type 0) (xs ys : List Labelled) → Every P (xs ++ ys) → Every P ys
every_last P [] ys all = all
every_last P (x ∷ xs) ys all = every_last P xs ys all.1

every_front : (P : Labelled → Type 0) (xs ys : List Labelled) → Every P (xs ++ ys) → Every P xs
every_front P [] ys all = tt
every_front P (x ∷ xs) ys all = (all.0, every_front P xs ys all.1)

neither : (a b : Bool) → a ≡ false → b ≡ false → (a || b) ≡ false
neither true b first second = absurd (cc)
neither false b first second = second

module _ (script : ScriptModel) (lane : ℕ) where
  end_works : (start : List Labelled) (end : TurnEnd) → Every IsGoing (start ++ end_labels end) → is_failing end ≡ false
  end_works start (tells labels) all = refl
  end_works start (fails found) all =
      let wrong : true ≡ false = every_here IsGoing start (fault_label found) [] all in absurd (cc)

  part_works : (part : Part) → Every IsGoing (labels_in script lane part) → is_broken part ≡ false
  part_works (idle step) all = refl
  part_works (executed part) all = refl
  part_works (turned part) all =
      end_works (start_labels script lane part.place part.load part.drawn part.start) part.end all
  part_works (failed part) all =
      let last = every_last IsGoing (looks_empty script lane part.place) (silent (Load part.load) ∷ fault_label part.drawn ∷ [])
      all in
      let wrong : true ≡ false = last.1.0 in absurd (cc)
  part_works (missing place note) all = refl

  parts_work : (parts : List Part) → Every IsGoing (all_made Part (labels_in script lane) parts) →
      are_broken parts ≡ false
  parts_work [] all = refl
  parts_work (part ∷ parts) all =
      neither (is_broken part) (are_broken parts)
      (part_works part (every_last IsGoing (all_made Part (labels_in script lane) parts) (labels_in script lane part) all))
      (parts_work parts (every_front IsGoing (all_made Part (labels_in script lane) parts) (labels_in script lane part) all))

-- neither a load nor looks take anything in
pub looks_quiet : (n : ℕ) (looks : List Looked) → joined_count n (steps_in (map look_label looks)) ≡ 0
looks_quiet n [] = refl
looks_quiet n (look ∷ looks) = looks_quiet n looks

module _ (names : SessionNames) (logs : LogsView) (labels : ℕ → List Labelled) (logged : AreLogs names logs)
    (are : AreLabels names logs labels) (e : ClockEvent) (es : List ClockEvent)
    (tail : Tail (e ∷ es) logged.closed.history) (all : AreLabelled labels (e ∷ es))
    (by : e.by ≡ opener_seat names.script) (shown : Event) (changes : Change) (found : Found)
    (is : label_of labels es e ≡ shows shown changes found)
    (over : (stand_at names.script (opener_seat names.script) es).opening ≡ 0)
    (quiet : (n : ℕ) → joined_count n (steps_in (opener_at names logs labels logged are e es tail all.1 by).before) ≡ 0) where
  abbrev opener : ℕ
  opener = opener_seat names.script

  -- what the opener had taken in of each other number is what that has made
  pub taken_in : (n : ℕ) → n < opener →
      joined_count n (opener_steps (opener_at names logs labels logged are e es tail all.1 by).earlier)
      ≡ length (steps_under n es)
  taken_in n before =
      let at = opener_at names logs labels logged are e es tail all.1 by in
      let steps = ap (joined_count n) (opener_steps_are names logs labels logged are e es tail all.1 by) in
      let split = joined-append n (opener_steps at.earlier) (steps_in at.before) in
      let none = quiet n in
      let exact = others_exact names logs labels logged are e es tail all.1 by shown changes found is over n before in
      omega (arith, steps, split, none, exact)

  pub others_are : (n : ℕ) → n < opener →
      take (joined_count n (opener_steps (opener_at names logs labels logged are e es tail all.1 by).earlier)) (logs.lists n)
      ≡ steps_under n es
  others_are n before =
      ap (λ k. take k (logs.lists n)) (taken_in n before)
      ∙ under_take names.script logs.lists (session_layout names.script) logs.last logged.closed es
      (tail_more es e logged.closed.history tail) n

  abbrev reactor : ℕ
  reactor = reactor_lane names.script

  reactor_within : reactor < lane_count names.script
  reactor_within = let count = lanes_counted names.script in omega (arith, count)

  abbrev between : IsBetween Part (labels_in names.script reactor) (are.lanes reactor reactor_within).parts
      (length (steps_under reactor es))
  between = lane_between names logs labels logged are e es tail all.1 by shown changes found is over reactor reactor_within

  made_is : made_so_far labels es reactor ≡ all_made Part (labels_in names.script reactor) between.earlier
  made_is =
      let made = are.lanes reactor reactor_within in
      let more = made-append Part (labels_in names.script reactor) between.later between.earlier in
      ap (λ k. take k (labels reactor)) between.count_is
      ∙ (ap (take (length (all_made Part (labels_in names.script reactor) between.earlier)))
      (made.are ∙ (ap (all_made Part (labels_in names.script reactor)) between.parts_are ∙ more.1))
      ∙ take-append_seam (all_made Part (labels_in names.script reactor) between.earlier) more.0)

  are_parts : AreParts names (logs.lists opener) reactor between.earlier
  are_parts =
      let made = are.lanes reactor reactor_within in
      lane_are names (logs.lists opener) reactor between.earlier
      (follow_from Part (labels_in names.script reactor) (MayFollow names (logs.lists opener) reactor) between.later
      between.earlier
      (subst (Follow Part (labels_in names.script reactor) (MayFollow names (logs.lists opener) reactor)) between.parts_are
      made.follow))

  module _ (working : ReactorWorks names.script logs.lists (opener_at names logs labels logged are e es tail all.1 by).earlier)
    where
      works : are_broken between.earlier ≡ false
      works =
          let older = tail_more es e logged.closed.history tail in
          let steps : steps_under reactor es ≡ steps_in (made_so_far labels es reactor) =
          sym (under_take names.script logs.lists (session_layout names.script) logs.last logged.closed es older reactor)
          ∙ (ap (take (length (steps_under reactor es))) (sym (are.steps reactor))
          ∙ take_map (labels reactor) (length (steps_under reactor es))) in
          parts_work names.script reactor between.earlier
          (all_going (all_made Part (labels_in names.script reactor) between.earlier)
          (subst NoneStops (others_are reactor (omega (arith, reactor_within)) ∙ (steps ∙ ap steps_in made_is)) working))
        where
          take_map : (xs : List Labelled) (n : ℕ) → take n (steps_in xs) ≡ steps_in (take n xs)
          take_map xs zero = refl
          take_map [] (suc n) = refl
          take_map (x ∷ xs) (suc n) = ap (λ ys. step_of x ∷ ys) (take_map xs n)

      pub reactor_rests : IsResting (state_at names.script names.told labels es).reactor
      reactor_rests =
          subst IsResting
          (sym (half_is names logs labels are es all.0
          ∙ ap (λ made. half_of names.script names.told (entries_in made))
          (made_is ∙ sym (lane_made names.script reactor between.earlier))))
          (rests names (logs.lists opener) reactor refl between.earlier are_parts works)
