-- The part of the opener in which a label stands, and where the rounds stand before it.
use Rattle.std.proofs.Common.{◌≡◌, ℕ, zero, suc, List, [], ◌∷◌, ◌++◌, length, map, take, refl, sym, ap, subst, ◌∙◌, arith, length-append}
use Rattle.std.proofs.Math.Seq.{take-append_seam}
use mathlib.Core.Option.{some}
use lib.ListN.{get_elem?}
use Rattle.asio_types.specs.declared.event.Event.{Event}
use Rattle.asio_types.specs.declared.event.Event.TheVariants as event
use Rattle.session_script.specs.Script.{ScriptModel}
use Rattle.lane_clock.specs.declared.found.Change.{Change}
use Rattle.lane_clock.specs.declared.found.Found.{Found}
use Rattle.lane_clock.specs.declared.step.ClockStep.{ClockStep}
use Rattle.lane_clock.specs.declared.step.ClockStep.TheVariants.{Draw, Load, Place, Put, Look, Join}
use Rattle.lane_clock.specs.History.{ClockEvent, steps_under}
use Rattle.lane_clock.specs.Knowledge.{StartOf}
use Rattle.lane_clock.specs.Steps.{draw_count, step_count}
use Rattle.lane_clock.proofs.MomentLemmas.{Tail, tail_more, under_grows}
use Rattle.lane_logs.specs.Labels.{Labelled, allots, entries_in, shows, silent, step_of, steps_in}
use Rattle.lane_logs.specs.Logs.{AreLogs, LogsView}
use Rattle.lane_logs.specs.Names.{SessionNames}
use Rattle.lane_logs.specs.OpenerLog.{ClosedPart, Looked, MayFollowOpened, OpenerPart, closed, closing_change, labels_of_opener, look_label, opener_labels, opener_steps, restarted, stand_after}
use Rattle.lane_logs.specs.SeatNumbers.{opener_seat}
use Rattle.lane_logs.specs.Stand.{Stand, first_stand, stand_from, stand_of}
use Rattle.lane_logs.proofs.LabelLemmas.{steps-append}
use Rattle.history_merge.proofs.CutLemmas.{stand-append}
use Rattle.history_merge.proofs.HistoryLemmas.{IsLabelled, IsPlain, label_of}
use Rattle.history_merge.proofs.LabellingLemmas.{AreLabels}
use Rattle.history_merge.proofs.OpenerLemmas.{stand_at}
use Rattle.history_merge.proofs.PartLemmas.{Every, IsMadeAt, all_made, follows_at, made_at, made_up_to, opener_made}
use Rattle.history_merge.proofs.SoFarLemmas.{made_so_far}

-- without a draw the rounds stand as they did
pub still_stand : (script : ScriptModel) (stand : Stand) (steps : List ClockStep) → step_count draw_count steps ≡ 0 →
    stand_from script stand steps ≡ stand
still_stand script stand [] none = refl
still_stand script stand (Draw shown changes found ∷ steps) none = absurd (omega (arith, none))
still_stand script stand (Load found ∷ steps) none = still_stand script stand steps (omega (arith, none))
still_stand script stand (Place lane place ∷ steps) none = still_stand script stand steps (omega (arith, none))
still_stand script stand (Put lane place note ∷ steps) none = still_stand script stand steps (omega (arith, none))
still_stand script stand (Look lane place held ∷ steps) none = still_stand script stand steps (omega (arith, none))
still_stand script stand (Join counts ∷ steps) none = still_stand script stand steps (omega (arith, none))

pub looks_still : (looks : List Looked) → step_count draw_count (steps_in (map look_label looks)) ≡ 0
looks_still [] = refl
looks_still (look ∷ looks) = let rest = looks_still looks in omega (arith, rest)

-- labels draw as they have entries
pub draws_entries : (labels : List Labelled) → Every IsPlain labels →
    step_count draw_count (steps_in labels) ≡ length (entries_in labels)
draws_entries [] all = refl
draws_entries (silent step ∷ labels) all =
    let rest = draws_entries labels all.1 in let one = all.0.0 in omega (arith, rest, one)
draws_entries (shows shown changes found ∷ labels) all = let rest = draws_entries labels all.1 in omega (arith, rest)
draws_entries (allots act lane place ∷ labels) all = let rest = draws_entries labels all.1 in omega (arith, rest)

-- the event that closes a round stands behind a load and looks
pub record IsClosingAt (part : ClosedPart) (before : List Labelled) (shown : Event) : Type 0 where
  pub front : before ≡ silent (Load part.load) ∷ map look_label part.looks
  pub event : shown ≡ part.shown

last_of : (looks : List Looked) (shown other : Event) (changes changed : Change) (drawn found : Found)
    (before after : List Labelled) →
    map look_label looks ++ shows shown changes drawn ∷ [] ≡ before ++ shows other changed found ∷ after →
    (before ≡ map look_label looks) × (other ≡ shown)
last_of [] shown other changes changed drawn found [] after is = (refl, cc)
last_of [] shown other changes changed drawn found (x ∷ before) after is =
    let size : 1 ≡ length (x ∷ (before ++ shows other changed found ∷ after)) = ap length is in
    let more = length-append before (shows other changed found ∷ after) in absurd (omega (arith, size, more))
last_of (look ∷ looks) shown other changes changed drawn found [] after is = absurd (cc)
last_of (look ∷ looks) shown other changes changed drawn found (x ∷ before) after is =
    let here : look_label look ≡ x = cc in
    let there : map look_label looks ++ shows shown changes drawn ∷ [] ≡ before ++ shows other changed found ∷ after = cc in
    let rest = last_of looks shown other changes changed drawn found before after there in
    ((λ i. sym here i ∷ rest.0 i), rest.1)

pub closing_at : (part : ClosedPart) (before after : List Labelled) (shown : Event) (changes : Change) (found : Found) →
    opener_labels (closed part) ≡ before ++ shows shown changes found ∷ after → IsClosingAt part before shown
closing_at part [] after shown changes found is = absurd (cc)
closing_at part (x ∷ before) after shown changes found is =
    let here : silent (Load part.load) ≡ x = cc in
    let there : map look_label part.looks ++ shows part.shown (closing_change part.shown) part.drawn ∷ []
    ≡ before ++ shows shown changes found ∷ after = cc in
    let rest =
    last_of part.looks part.shown shown (closing_change part.shown) changes part.drawn found before after there in
    record { front = λ i. sym here i ∷ rest.0 i; event = rest.1 }

-- so a restart stands alone
pub restart_at : (drawn : Found) (before after : List Labelled) (shown : Event) (changes : Change) (found : Found) →
    opener_labels (restarted drawn) ≡ before ++ shows shown changes found ∷ after → (before ≡ []) × (shown ≡ event.Restart)
restart_at drawn [] after shown changes found is = (refl, cc)
restart_at drawn (x ∷ before) after shown changes found is =
    let size : 1 ≡ length (x ∷ (before ++ shows shown changes found ∷ after)) = ap length is in
    let more = length-append before (shows shown changes found ∷ after) in absurd (omega (arith, size, more))

module _ (names : SessionNames) (logs : LogsView) (labels : ℕ → List Labelled) (logged : AreLogs names logs)
    (are : AreLabels names logs labels) (e : ClockEvent) (es : List ClockEvent)
    (tail : Tail (e ∷ es) logged.closed.history) (labelled : IsLabelled labels es e)
    (by : e.by ≡ opener_seat names.script) where
  abbrev script : ScriptModel
  script = names.script

  abbrev opener : ℕ
  opener = opener_seat names.script

  abbrev label : Labelled
  label = label_of labels es e

  -- the part in which the step stands
  abbrev pub opener_at : IsMadeAt OpenerPart opener_labels are.opener.parts (length (steps_under opener es)) label
  opener_at =
      made_at OpenerPart opener_labels are.opener.parts (length (steps_under opener es)) label
      (subst (λ xs. get_elem? xs (length (steps_under opener es)) ≡ some label) are.opener.are
      (subst (λ n. get_elem? (labels n) (length (steps_under n es)) ≡ some label) by labelled.there))

  pub opener_follows : MayFollowOpened names.script logs.lists opener_at.earlier opener_at.part
  opener_follows =
      follows_at OpenerPart opener_labels (MayFollowOpened names.script logs.lists) are.opener.parts
      (length (steps_under opener es)) label opener_at are.opener.follow

  -- the labels so far are those of the earlier parts and the first of this one
  pub opener_so_far : made_so_far labels es opener ≡ labels_of_opener opener_at.earlier ++ opener_at.before
  opener_so_far =
      let xs : List Labelled = all_made OpenerPart opener_labels opener_at.earlier in
      let up = made_up_to OpenerPart opener_labels are.opener.parts (length (steps_under opener es)) label opener_at in
      let size : length (steps_under opener es) ≡ length (xs ++ opener_at.before) =
      opener_at.index ∙ sym (length-append xs opener_at.before) in
      ap (λ k. take k (labels opener)) size
      ∙ (ap (take (length (xs ++ opener_at.before))) (are.opener.are ∙ up.1)
      ∙ (take-append_seam (xs ++ opener_at.before) (label ∷ up.0)
      ∙ ap (λ ys. ys ++ opener_at.before) (sym (opener_made opener_at.earlier))))

  -- and so are the steps
  pub opener_steps_are : steps_under opener es ≡ opener_steps opener_at.earlier ++ steps_in opener_at.before
  opener_steps_are =
      let older = tail_more es e logged.closed.history tail in
      let start : StartOf (steps_under opener es) (logs.lists opener) =
      subst (StartOf (steps_under opener es)) (sym (logged.closed.all opener))
      (under_grows opener es logged.closed.history older) in
      let first : take (length (steps_under opener es)) (logs.lists opener) ≡ steps_under opener es =
      ap (take (length (steps_under opener es))) start.1 ∙ take-append_seam (steps_under opener es) start.0 in
      sym first
      ∙ (ap (take (length (steps_under opener es))) (sym (are.steps opener))
      ∙ (take_map (labels opener) (length (steps_under opener es))
      ∙ (ap steps_in opener_so_far ∙ steps-append (labels_of_opener opener_at.earlier) opener_at.before)))
    where
      take_map : (xs : List Labelled) (n : ℕ) → take n (steps_in xs) ≡ steps_in (take n xs)
      take_map xs zero = refl
      take_map [] (suc n) = refl
      take_map (x ∷ xs) (suc n) = ap (λ ys. step_of x ∷ ys) (take_map xs n)

  pub stand_is : stand_at names.script opener es
      ≡ stand_from names.script (stand_after names.script logs.lists opener_at.earlier) (steps_in opener_at.before)
  stand_is =
      ap (stand_of names.script) opener_steps_are
      ∙ stand-append names.script (first_stand names.script) (opener_steps opener_at.earlier) (steps_in opener_at.before)

  -- where nothing of its part was drawn yet
  pub stand_earlier : step_count draw_count (steps_in opener_at.before) ≡ 0 →
      stand_at names.script opener es ≡ stand_after names.script logs.lists opener_at.earlier
  stand_earlier none =
      stand_is ∙ still_stand names.script (stand_after names.script logs.lists opener_at.earlier) (steps_in opener_at.before) none
