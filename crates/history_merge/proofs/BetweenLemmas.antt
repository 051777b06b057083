-- While a lane is in a part that draws, the opener draws nothing, and of the lane's own steps so far those of the part
-- stand behind the earlier ones.
use Rattle.std.proofs.Common.{◌≡◌, ℕ, zero, suc, ◌+◌, ◌-◌, ◌<◌, ◌≤◌, List, [], ◌∷◌, ◌++◌, inl, inr, length, take, refl, sym, ap, subst, ◌∙◌, arith, length-append}
use Rattle.std.proofs.lemmas.List.{take-append-le}
use mathlib.Core.Option.{some}
use lib.ListN.{get_elem?}
use Rattle.asio_types.specs.declared.event.Event.{Event}
use Rattle.lane_clock.specs.declared.found.Change.{Change}
use Rattle.lane_clock.specs.declared.found.Found.{Found}
use Rattle.lane_clock.specs.declared.step.ClockStep.{ClockStep}
use Rattle.lane_clock.specs.declared.step.ClockStep.TheVariants.{Draw, Load, Place, Put, Look, Join}
use Rattle.lane_clock.specs.History.{ClockEvent, steps_under}
use Rattle.lane_clock.specs.Rule.{StepAt}
use Rattle.lane_clock.proofs.KnownLemmas.{at_within, event, under_same}
use Rattle.lane_clock.proofs.MomentLemmas.{Tail, at_start, moment_of, sound_tail, tail_more, tail_trans, under_length}
use Rattle.lane_logs.specs.Knowing.{joined_count, known_steps}
use Rattle.lane_logs.specs.Labels.{Labelled, silent, step_of, steps_in}
use Rattle.lane_logs.specs.Logs.{AreLogs, LogsView, session_layout}
use Rattle.lane_logs.specs.Names.{SessionNames}
use Rattle.lane_logs.specs.Parts.{Part, labels_in, labels_of}
use Rattle.lane_logs.specs.SeatNumbers.{lane_count, opener_seat}
use Rattle.lane_logs.specs.Stand.{Stand, first_stand, stand_of}
use Rattle.history_merge.proofs.CutLemmas.{joined_within, known_stand, none_between, opened_stays, stand-append, under_at, under_start, under_take}
use Rattle.history_merge.proofs.GoingLemmas.{IsDrawing, known, opened_known, quiet, split}
use Rattle.history_merge.proofs.HistoryLemmas.{IsLabelled, index_is, label_of}
use Rattle.history_merge.proofs.LabellingLemmas.{AreLabels}
use Rattle.history_merge.proofs.PartLemmas.{IsMadeAt, all_made, at_left, at_right, at_seam, step_of_label}
use Rattle.history_merge.proofs.SoFarLemmas.{made_so_far}

-- What holds from one moment on, where each step keeps it
pub kept_from : (P : List ClockEvent → Type 0) (a es : List ClockEvent) → Tail a es → P a →
    ((e : ClockEvent) (older : List ClockEvent) → Tail (e ∷ older) es → Tail a older → P older → P (e ∷ older)) → P es
kept_from P a [] tail first more = subst P tail first
kept_from P a (x ∷ es) (inl is) first more = subst P is first
kept_from P a (x ∷ es) (inr tail) first more =
    more x es (inl refl) tail
    (kept_from P a es tail first (λ e older within behind before. more e older (inr within) behind before))

-- less was taken in by fewer steps
joined_less : (n k : ℕ) (xs : List ClockStep) → joined_count n (take k xs) ≤ joined_count n xs
joined_less n zero xs = omega arith
joined_less n (suc k) [] = omega arith
joined_less n (suc k) (Draw shown changes found ∷ xs) = joined_less n k xs
joined_less n (suc k) (Load found ∷ xs) = joined_less n k xs
joined_less n (suc k) (Place lane place ∷ xs) = joined_less n k xs
joined_less n (suc k) (Put lane place note ∷ xs) = joined_less n k xs
joined_less n (suc k) (Look lane place held ∷ xs) = joined_less n k xs
joined_less n (suc k) (Join counts ∷ xs) = let rest = joined_less n k xs in omega (arith, rest)

pub take_whole : {A : Type 0} → (xs : List A) (k : ℕ) → k ≡ length xs → take k xs ≡ xs
take_whole [] zero is = refl
take_whole [] (suc k) is = refl
take_whole (x ∷ xs) zero is = absurd (omega (arith, is))
take_whole (x ∷ xs) (suc k) is = ap (λ ys. x ∷ ys) (take_whole xs k (omega (arith, is)))

pub take_behind : {A : Type 0} → (xs ys : List A) (k j : ℕ) → k ≡ length xs + j → take k (xs ++ ys) ≡ xs ++ take j ys
take_behind [] ys k j is = ap (λ n. take n ys) (let same : k ≡ j = omega (arith, is) in same)
take_behind (x ∷ xs) ys zero j is = absurd (omega (arith, is))
take_behind (x ∷ xs) ys (suc k) j is = ap (λ zs. x ∷ zs) (take_behind xs ys k j (omega (arith, is)))

module _ (names : SessionNames) (logs : LogsView) (labels : ℕ → List Labelled) (logged : AreLogs names logs)
    (are : AreLabels names logs labels) (e : ClockEvent) (es : List ClockEvent)
    (tail : Tail (e ∷ es) logged.closed.history) (within : e.by < lane_count names.script)
    (at : IsMadeAt Part (labels_in names.script e.by) (are.lanes e.by within).parts (length (steps_under e.by es))
    (label_of labels es e))
    (draws : IsDrawing names (logs.lists (opener_seat names.script)) e.by at.earlier (labels_in names.script e.by at.part))
  where
    abbrev pub earlier_labels : List Labelled
    earlier_labels = all_made Part (labels_in names.script e.by) at.earlier

    -- how many steps the lane had made where the part began
    abbrev pub begins_at : ℕ
    begins_at = length earlier_labels

    abbrev seat : ℕ
    seat = opener_seat names.script

    -- so the rounds stand as the lane knows since the part's begin
    pub stand_since : (older : List ClockEvent) → Tail older es → begins_at ≤ length (steps_under e.by older) →
        stand_of names.script (steps_under seat older)
        ≡ stand_of names.script
        (known_steps (logs.lists seat) seat (steps_in (labels_of names.script e.by at.earlier)))
    stand_since older made since =
        let fewer = under_length e.by older es made in
        known_stand names.script logs.lists (session_layout names.script) logs.last logged.closed logged.cuts older
        (tail_trans older es logged.closed.history made (tail_more es e logged.closed.history tail)) e.by begins_at
        (omega (arith, within)) since
        (λ i counts from to step.
        quiet names logs labels logged are e es tail within at draws i counts from (omega (arith, to, fewer)) step)
        (opened_known names logs labels logged are e es tail within at draws)
        ∙ ap (stand_of names.script) (known names logs labels logged are e es tail within at draws)

    -- of the opener no step in between draws
    module _ (f : ClockEvent) (older : List ClockEvent) (made : Tail (f ∷ older) es)
        (since : begins_at ≤ length (steps_under e.by older)) (opens : f.by ≡ seat) where
      behind : Tail (f ∷ older) logged.closed.history
      behind = tail_trans (f ∷ older) es logged.closed.history made (tail_more es e logged.closed.history tail)

      before : Tail older logged.closed.history
      before = tail_more older f logged.closed.history behind

      abbrev j : ℕ
      j = length (steps_under seat older)

      stepped : steps_under seat (f ∷ older) ≡ steps_under seat older ++ f.step ∷ []
      stepped =
          subst (λ k. steps_under seat (event k f.step ∷ older) ≡ steps_under seat older ++ f.step ∷ []) (sym opens)
          (under_same older seat f.step)

      -- it had taken in no more of the opener than there was
      knew : joined_count seat (take begins_at (logs.lists e.by)) ≤ j
      knew =
          let start =
          under_start names.script logs.lists (session_layout names.script) logs.last logged.closed older before e.by in
          let sound =
          sound_tail (session_layout names.script).guards (session_layout names.script).seats older logged.closed.history before
          logged.closed.sound in
          let same : joined_count seat (take begins_at (logs.lists e.by))
          ≡ joined_count seat (take begins_at (steps_under e.by older)) =
          ap (joined_count seat)
          (ap (take begins_at) start.1 ∙ take-append-le begins_at (steps_under e.by older) start.0 since) in
          let less = joined_less seat begins_at (steps_under e.by older) in
          let most =
          joined_within (session_layout names.script).guards (session_layout names.script).seats older sound e.by seat in
          omega (arith, same, less, most)

      stood : (stand_of names.script (steps_under seat older)).opening ≡ 0
      stood =
          ap (λ (stand : Stand). stand.opening) (stand_since older (tail_more older f es made) since)
          ∙ (ap (λ steps. (stand_of names.script steps).opening)
          (sym (known names logs labels logged are e es tail within at draws))
          ∙ opened_known names logs labels logged are e es tail within at draws)

      pub none_drawn : (shown : Event) (changes : Change) (found : Found) → f.step ≡ Draw shown changes found → ⊥
      none_drawn shown changes found is =
          let steps : steps_under seat (f ∷ older) ≡ steps_under seat older ++ Draw shown changes found ∷ [] =
          stepped ∙ ap (λ s. steps_under seat older ++ s ∷ []) is in
          let here : get_elem? (steps_under seat (f ∷ older)) j ≡ some (Draw shown changes found) =
          ap (λ xs. get_elem? xs j) steps ∙ at_seam (steps_under seat older) (Draw shown changes found) [] in
          let drawn : StepAt logs.lists seat j (Draw shown changes found) =
          at_start (steps_under seat (f ∷ older)) (logs.lists seat) j (Draw shown changes found)
          (under_start names.script logs.lists (session_layout names.script) logs.last logged.closed (f ∷ older) behind seat)
          here in
          let long : suc j ≡ length (steps_under seat (f ∷ older)) =
          sym (ap length steps
          ∙ (length-append (steps_under seat older) (Draw shown changes found ∷ [])
          ∙ (let one : j + 1 ≡ suc j = omega arith in one))) in
          let taken : take (suc j) (logs.lists seat) ≡ steps_under seat older ++ Draw shown changes found ∷ [] =
          ap (λ k. take k (logs.lists seat)) long
          ∙ (under_take names.script logs.lists (session_layout names.script) logs.last logged.closed (f ∷ older) behind seat
          ∙ steps) in
          let opened : (stand_of names.script (take (suc j) (logs.lists seat))).opening ≡ 0 =
          ap (λ steps. (stand_of names.script steps).opening) taken
          ∙ (ap (λ (stand : Stand). stand.opening)
          (stand-append names.script (first_stand names.script) (steps_under seat older) (Draw shown changes found ∷ []))
          ∙ opened_stays names.script (stand_of names.script (steps_under seat older)) found stood) in
          let more = under_length seat (f ∷ older) es made in
          none_between names.script logs.lists (session_layout names.script) logs.last logged.closed logged.cuts es
          (tail_more es e logged.closed.history tail) e.by begins_at (omega (arith, within))
          (quiet names logs labels logged are e es tail within at draws) j knew (omega (arith, long, more))
          (record { shown = shown; changes = changes; found = found; drawn = drawn; opened = opened })

    -- the lane's own labels so far, from the part's begin on
    pub made_within : (a : List ClockEvent) (j : ℕ) → length (steps_under e.by a) ≡ begins_at + j →
        j ≤ length at.before → made_so_far labels a e.by ≡ earlier_labels ++ take j at.before
    made_within a j is less =
        let parts = split names logs labels logged are e es tail within at draws in
        ap (take (length (steps_under e.by a))) parts.1
        ∙ (take_behind earlier_labels (at.before ++ label_of labels es e ∷ parts.0) (length (steps_under e.by a)) j is
        ∙ ap (λ xs. earlier_labels ++ xs) (take-append-le j at.before (label_of labels es e ∷ parts.0) less))

    -- its own steps in between have their labels in the part
    pub own_before : (f : ClockEvent) (older : List ClockEvent) → Tail (f ∷ older) es → f.by ≡ e.by →
        begins_at ≤ length (steps_under e.by older) → IsLabelled labels older f →
        (j : ℕ) × (get_elem? at.before j ≡ some (label_of labels older f)) × (length (steps_under e.by older) ≡ begins_at + j)
    own_before f older made own since labelled =
        let parts = split names logs labels logged are e es tail within at draws in
        let i : ℕ = length (steps_under e.by older) in
        let there : get_elem? (labels e.by) i ≡ some (label_of labels older f) =
        subst (λ n. get_elem? (labels n) (length (steps_under n older)) ≡ some (label_of labels older f)) own labelled.there in
        let stepped : steps_under e.by (f ∷ older) ≡ steps_under e.by older ++ f.step ∷ [] =
        subst (λ k. steps_under e.by (event k f.step ∷ older) ≡ steps_under e.by older ++ f.step ∷ []) (sym own)
        (under_same older e.by f.step) in
        let longer : length (steps_under e.by (f ∷ older)) ≡ i + 1 =
        ap length stepped ∙ length-append (steps_under e.by older) (f.step ∷ []) in
        let most = under_length e.by (f ∷ older) es made in
        let j : ℕ = i - begins_at in
        let less : j < length at.before = omega (arith, at.index, longer, most, since) in
        let here : get_elem? at.before j ≡ some (label_of labels older f) =
        sym (at_left at.before (label_of labels es e ∷ parts.0) j less)
        ∙ (sym (at_right earlier_labels (at.before ++ label_of labels es e ∷ parts.0) i j (omega (arith, since)))
        ∙ (sym (ap (λ xs. get_elem? xs i) parts.1) ∙ there)) in
        (j, here, omega (arith, since))

    -- a label before this one in the part is the lane's
    pub own_at : (j : ℕ) (x : Labelled) → get_elem? at.before j ≡ some x →
        get_elem? (labels e.by) (begins_at + j) ≡ some x
    own_at j x there =
        let parts = split names logs labels logged are e es tail within at draws in
        ap (λ xs. get_elem? xs (begins_at + j)) parts.1
        ∙ (at_right earlier_labels (at.before ++ label_of labels es e ∷ parts.0) (begins_at + j) j refl
        ∙ (at_left at.before (label_of labels es e ∷ parts.0) j (at_within at.before j x there) ∙ there))

    -- when it was made
    pub record IsOwnMoment (j : ℕ) (x : Labelled) : Type 0 where
      pub older : List ClockEvent
      pub since : Tail (event e.by (step_of x) ∷ older) es
      pub index : length (steps_under e.by older) ≡ begins_at + j
      pub label : label_of labels older (event e.by (step_of x)) ≡ x

    pub own_moment : (j : ℕ) (x : Labelled) → get_elem? at.before j ≡ some x → IsOwnMoment j x
    own_moment j x there =
        let here = own_at j x there in
        let step : StepAt logs.lists e.by (begins_at + j) (step_of x) =
        subst (λ xs. get_elem? xs (begins_at + j) ≡ some (step_of x)) (are.steps e.by)
        (step_of_label (labels e.by) (begins_at + j) x here) in
        let less = at_within at.before j x there in
        let moment =
        moment_of es e.by (begins_at + j) (step_of x)
        (under_at names.script logs.lists (session_layout names.script) logs.last logged.closed es
        (tail_more es e logged.closed.history tail) e.by (begins_at + j) (step_of x) step (omega (arith, at.index, less))) in
        record {
          older = moment.older;
          since = moment.tail;
          index = sym moment.index;
          label =
              index_is (labels e.by) (length (steps_under e.by moment.older)) x (silent (step_of x))
              (subst (λ i. get_elem? (labels e.by) i ≡ some x) moment.index here);
        }
