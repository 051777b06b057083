-- Where an operation begins outside of all calls, its part has so far looked and loaded; and of two parts of one list.
use Rattle.std.proofs.Common.{◌≡◌, ◌⊎◌, ℕ, ◌+◌, ◌<◌, ◌≤◌, false, List, [], ◌∷◌, ◌++◌, Some, inl, inr, drop, refl, sym, ap, subst, ◌∙◌, arith}
use Rattle.asio_types.specs.declared.code.Code.{Code}
use Rattle.asio_types.specs.declared.event.Event.TheVariants as event
use Rattle.session_script.specs.Lanes.{is_inline}
use Rattle.session_script.specs.WellFormed.{IsWellFormed}
use Rattle.lane_clock.specs.declared.found.Change.{Change}
use Rattle.lane_clock.specs.declared.found.Change.TheVariants as change
use Rattle.lane_clock.specs.declared.found.Found.{Found}
use Rattle.lane_clock.specs.declared.step.ClockStep.{ClockStep}
use Rattle.lane_clock.specs.declared.step.ClockStep.TheVariants.{Load, Look}
use Rattle.lane_clock.specs.History.{ClockEvent}
use Rattle.lane_clock.proofs.MomentLemmas.{Tail}
use Rattle.lane_map.specs.LaneNumbers.{reactor_lane}
use Rattle.lane_logs.specs.Labels.{Labelled, shows, silent}
use Rattle.lane_logs.specs.LaneLog.{MayFollow}
use Rattle.lane_logs.specs.Logs.{AreLogs, LogsView}
use Rattle.lane_logs.specs.Names.{IsNamedMark, SessionNames}
use Rattle.lane_logs.specs.Parts.{ExecutedPart, Part, executed, failed, idle, labels_in, missing, next_place, places_used, turned}
use Rattle.lane_logs.specs.SeatNumbers.{lane_count, opener_seat}
use Rattle.history_merge.proofs.AlikeLemmas.{never}
use Rattle.history_merge.proofs.DrawRoundLemmas.{nothing_in}
use Rattle.history_merge.proofs.LabellingLemmas.{AreLabels}
use Rattle.history_merge.proofs.NextLeftLemmas.{events_by, execution_first, head_is}
use Rattle.history_merge.proofs.StagedLemmas.{IsNextOf, goes_own, label}

-- two parts of one list are the same, or the one is among those before the other
pub two_cuts : (P : Type 0) (later : List P) (part : P) (earlier : List P) (behind : List P) (other : P) (before : List P) →
    later ++ part ∷ earlier ≡ behind ++ other ∷ before →
    (part ∷ earlier ≡ other ∷ before)
    ⊎ (((between : List P) × (earlier ≡ between ++ other ∷ before))
    ⊎ ((between : List P) × (before ≡ between ++ part ∷ earlier)))
two_cuts P [] part earlier [] other before same = inl same
two_cuts P [] part earlier (x ∷ behind) other before same = inr (inl (behind, ap (λ xs. drop 1 xs) same))
two_cuts P (x ∷ later) part earlier [] other before same = inr (inr (later, sym (ap (λ xs. drop 1 xs) same)))
two_cuts P (x ∷ later) part earlier (y ∷ behind) other before same =
    two_cuts P later part earlier behind other before (ap (λ xs. drop 1 xs) same)

-- a part's places come before the next of all later ones
pub next_beyond : (between : List Part) (part : Part) (earlier : List Part) →
    next_place earlier + places_used part ≤ next_place (between ++ part ∷ earlier)
next_beyond [] part earlier = omega arith
next_beyond (other ∷ between) part earlier = let rest = next_beyond between part earlier in omega (arith, rest)

module _ (names : SessionNames) (well : IsWellFormed names.script) (logs : LogsView) (labels : ℕ → List Labelled)
    (logged : AreLogs names logs) (are : AreLabels names logs labels) (e : ClockEvent) (es : List ClockEvent)
    (tail : Tail (e ∷ es) logged.closed.history)
    (n : ℕ) (inside : n < lane_count names.script) (below : n < reactor_lane names.script)
    (next : IsNextOf names well logs labels logged are e es tail n inside) where
  abbrev Opener : List ClockStep
  Opener = logs.lists (opener_seat names.script)

  abbrev next_label : Labelled
  next_label = label names well logs labels logged are e es tail

  -- the step stands in a part that executes the operation, behind its look and its load
  pub record BeginsPart (op : ℕ) : Type 0 where
    pub part : ExecutedPart
    pub is : next.at.part ≡ executed part
    pub may : MayFollow names (logs.lists (opener_seat names.script)) n next.at.earlier (executed part)
    pub of : part.note.op ≡ op
    pub front : next.at.before ≡ silent (Look n part.place (Some part.note)) ∷ silent (Load part.load) ∷ []

  module _ (op : ℕ) (given : Code) (size : ℕ) (changes : Change) (found : Found)
      (is : label names well logs labels logged are e es tail ≡ shows (event.Begin op given size) changes found)
      (unentered : is_inline names.script op ≡ false) where
    no_step : (step : ClockStep) → silent step ≡ next_label → ⊥
    no_step step same =
        let wrong : silent step ≡ shows (event.Begin op given size) changes found = same ∙ is in cc

    by_front : (part : ExecutedPart) → next.at.part ≡ executed part → MayFollow names Opener n next.at.earlier (executed part) →
        (before after : List Labelled) → labels_in names.script n (executed part) ≡ before ++ next_label ∷ after →
        next.at.before ≡ before → BeginsPart op
    by_front part here may [] after made same =
        absurd (no_step (Look n part.place (Some part.note)) (head_is _ next_label _ after made))
    by_front part here may (x ∷ []) after made same =
        absurd (no_step (Load part.load) (head_is _ next_label _ after (ap (λ xs. drop 1 xs) made)))
    by_front part here may (x ∷ (y ∷ [])) after made same =
        let first =
        execution_first names.script (IsNamedMark names) part.note.op part.note.code part.note.size part.calls part.labels
        may.whole may.drawn in
        let own : part.labels ≡ next_label ∷ after = ap (λ xs. drop 2 xs) made in
        let begins : shows (event.Begin part.note.op part.note.code part.note.size) change.Same first.found
        ≡ shows (event.Begin op given size) changes found =
        sym (head_is next_label (shows (event.Begin part.note.op part.note.code part.note.size) change.Same first.found) after
        first.more (sym own ∙ first.is))
        ∙ is in
        let looks : silent (Look n part.place (Some part.note)) ≡ x = head_is _ x _ (y ∷ next_label ∷ after) made in
        let loads : silent (Load part.load) ≡ y = head_is _ y _ (next_label ∷ after) (ap (λ xs. drop 1 xs) made) in
        record {
          part = part;
          is = here;
          may = may;
          of = cc;
          front = same ∙ (ap (λ x. x ∷ (y ∷ [])) (sym looks) ∙ ap (λ y. silent (Look n part.place (Some part.note)) ∷ (y ∷ [])) (sym loads));
        }
    by_front part here may (x ∷ (y ∷ (z ∷ rest))) after made same =
        let own =
        goes_own names well logs labels logged are e es tail n part next.at.earlier (next_label ∷ after) after may (record {
          shown = event.Begin op given size;
          changes = changes;
          found = found;
          first = z ∷ rest;
          is = is;
          left = ap (λ l. events_by (l ∷ after)) is;
          among = ap (λ xs. drop 2 xs) made;
          some = omega arith;
        }) in
        absurd (never (is_inline names.script op) unentered own.0)

    by_part : (part : Part) → next.at.part ≡ part → MayFollow names Opener n next.at.earlier part →
        labels_in names.script n part ≡ next.at.before ++ next_label ∷ next.at.after → BeginsPart op
    by_part (idle step) here may made =
        absurd (nothing_in step next.at.before (event.Begin op given size) changes found next.at.after
        (subst (λ l. silent step ∷ [] ≡ next.at.before ++ l ∷ next.at.after) is made))
    by_part (executed part) here may made = by_front part here may next.at.before next.at.after made refl
    by_part (turned part) here may made = absurd (let reacts = may.reactor in omega (arith, reacts, below))
    by_part (failed part) here may made = absurd (let reacts = may.reactor in omega (arith, reacts, below))
    by_part (missing place note) here may made =
        absurd (nothing_in (Look n place (Some note)) next.at.before (event.Begin op given size) changes found next.at.after
        (subst (λ l. silent (Look n place (Some note)) ∷ [] ≡ next.at.before ++ l ∷ next.at.after) is made))

    pub begins_part : BeginsPart op
    begins_part = by_part next.at.part refl next.may next.at.labels_are
