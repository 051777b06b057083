-- While calls of `open` are still to come nobody else has drawn: what was shown is what the opener has shown.
use Rattle.std.proofs.Common.{◌≡◌, ◌≢◌, ℕ, zero, suc, ◌+◌, ◌≤◌, Bool, true, false, cond, List, [], ◌∷◌, ◌++◌, inl, inr, refl, sym, ap, subst, ◌∙◌, arith}
use Rattle.std.proofs.lemmas.Bool.{cases_eq}
use Rattle.std.proofs.lemmas.List.{append-nil, map-append}
use Rattle.session_script.specs.Script.{ScriptModel}
use Rattle.lane_clock.specs.declared.found.Found.{Found}
use Rattle.lane_clock.specs.declared.step.ClockStep.{ClockStep}
use Rattle.lane_clock.specs.declared.step.ClockStep.TheVariants.{Draw, Load, Place, Put, Look, Join}
use Rattle.lane_clock.specs.History.{ClockEvent, steps_under}
use Rattle.lane_clock.proofs.KnownLemmas.{event, under_other, under_same}
use Rattle.lane_clock.proofs.MomentLemmas.{Tail, tail_more}
use Rattle.lane_logs.specs.declared.log.LogEntry.{LogEntry}
use Rattle.lane_logs.specs.Labels.{Labelled, allots, entries_in, events_in, shows, silent}
use Rattle.lane_logs.specs.Logs.{AreLogs, LogsView}
use Rattle.lane_logs.specs.Names.{SessionNames}
use Rattle.lane_logs.specs.SeatNumbers.{opener_seat}
use Rattle.lane_logs.specs.Stand.{Stand, after_draw, after_opening_draw, after_round_draw, first_stand, stand_from, stand_of, wants_restart}
use Rattle.history_merge.proofs.CutLemmas.{open_opened, stand-append}
use Rattle.history_merge.proofs.DrawRoundLemmas.{drawn_round}
use Rattle.history_merge.proofs.HistoryLemmas.{AreLabelled, IsLabelled, entries_shown, label_of, shown_by, shown_in}
use Rattle.history_merge.proofs.LabellingLemmas.{AreLabels}
use Rattle.history_merge.proofs.SoFarLemmas.{entries_here, entries_so_far, made_other}

-- a draw leaves no more calls of `open` to come
round_leaves : (script : ScriptModel) (stand : Stand) (found : Found) →
    (after_round_draw script stand found).opening ≡ stand.opening
round_leaves script stand found = go (wants_restart script stand)
  where
    go : (wants : Bool) → (cond wants (record stand { restarted = true; base = found.stops })
        (record stand { closings = stand.closings + 1; restarted = false })).opening ≡ stand.opening
    go true = refl
    go false = refl

draw_falls : (script : ScriptModel) (stand : Stand) (found : Found) (left : ℕ) → stand.opening ≡ left →
    (after_opening_draw left script stand found).opening ≤ stand.opening
draw_falls script stand found zero is = let same = round_leaves script stand found in omega (arith, same)
draw_falls script stand found (suc left) is = omega (arith, is)

pub opening_falls : (script : ScriptModel) (stand : Stand) (steps : List ClockStep) →
    (stand_from script stand steps).opening ≤ stand.opening
opening_falls script stand [] = omega arith
opening_falls script stand (Draw shown change found ∷ steps) =
    let one = draw_falls script stand found stand.opening refl in
    let rest = opening_falls script (after_draw script stand found) steps in
    omega (arith, one, rest)
opening_falls script stand (Load found ∷ steps) = opening_falls script stand steps
opening_falls script stand (Place lane place ∷ steps) = opening_falls script stand steps
opening_falls script stand (Put lane place note ∷ steps) = opening_falls script stand steps
opening_falls script stand (Look lane place held ∷ steps) = opening_falls script stand steps
opening_falls script stand (Join counts ∷ steps) = opening_falls script stand steps

-- how the stand goes on by a step of the opener, and that it stays by any other
module _ (script : ScriptModel) (opener : ℕ) where
  abbrev pub stand_at : List ClockEvent → Stand
  stand_at es = stand_of script (steps_under opener es)

  pub stand_here : (e : ClockEvent) (es : List ClockEvent) → e.by ≡ opener →
      stand_at (e ∷ es) ≡ stand_from script (stand_at es) (e.step ∷ [])
  stand_here e es is =
      ap (stand_of script)
      (subst (λ k. steps_under opener (event k e.step ∷ es) ≡ steps_under opener es ++ e.step ∷ []) (sym is)
      (under_same es opener e.step))
      ∙ stand-append script (first_stand script) (steps_under opener es) (e.step ∷ [])

  pub stand_other : (e : ClockEvent) (es : List ClockEvent) → e.by ≢ opener → stand_at (e ∷ es) ≡ stand_at es
  stand_other e es other = ap (stand_of script) (under_other es opener e.by e.step (λ is. other (sym is)))

module _ (names : SessionNames) (logs : LogsView) (labels : ℕ → List Labelled) (logged : AreLogs names logs)
    (are : AreLabels names logs labels) where
  abbrev script : ScriptModel
  script = names.script

  abbrev opener : ℕ
  opener = opener_seat names.script

  nothing_shown : (e : ClockEvent) (es : List ClockEvent) → Tail (e ∷ es) logged.closed.history → IsLabelled labels es e →
      e.by ≢ opener → ((stand_at script opener es).opening ≡ 0 → ⊥) → (label : Labelled) → label_of labels es e ≡ label →
      shown_by label ≡ []
  nothing_shown e es tail labelled other left (silent step) is = refl
  nothing_shown e es tail labelled other left (shows shown changes found) is =
      absurd (left (open_opened script (stand_at script opener es)
      (drawn_round names logs labels logged are e es tail labelled other shown changes found is)))
  nothing_shown e es tail labelled other left (allots act lane place) is = refl

  -- so all that was shown is the opener's
  pub only_opener : (es : List ClockEvent) → Tail es logged.closed.history → AreLabelled labels es →
      ((stand_at script opener es).opening ≡ 0 → ⊥) → shown_in labels es ≡ events_in (entries_so_far labels es opener)
  only_opener [] tail all left = refl
  only_opener (e ∷ es) tail all left =
      let older = tail_more es e logged.closed.history tail in
      elim (cases_eq e.by opener) [
        | inl is ↦
            let goes = stand_here script opener e es is in
            let falls = opening_falls script (stand_at script opener es) (e.step ∷ []) in
            let less : (stand_at script opener (e ∷ es)).opening ≤ (stand_at script opener es).opening =
            subst (λ (s : Stand). s.opening ≤ (stand_at script opener es).opening) (sym goes) falls in
            let before = only_opener es older all.0 (λ none. left (omega (arith, less, none))) in
            let label : Labelled = label_of labels es e in
            let here : entries_so_far labels (e ∷ es) opener ≡ entries_so_far labels es opener ++ entries_in (label ∷ []) =
            subst (λ n. entries_so_far labels (e ∷ es) n ≡ entries_so_far labels es n ++ entries_in (label ∷ [])) is
            (entries_here labels e es all.1) in
            (ap (λ events. events ++ shown_by label) before)
            ∙ (ap (λ events. events_in (entries_so_far labels es opener) ++ events) (sym (entries_shown label))
            ∙ (sym (map-append (λ (entry : LogEntry). entry.event) (entries_so_far labels es opener)
            (entries_in (label ∷ [])))
            ∙ ap events_in (sym here)))
        | inr other ↦
            let same = stand_other script opener e es other in
            let still : (stand_at script opener es).opening ≡ 0 → ⊥ =
            λ none. left (ap (λ (s : Stand). s.opening) same ∙ none) in
            let before = only_opener es older all.0 still in
            (ap (λ events. shown_in labels es ++ events)
            (nothing_shown e es tail all.1 other still (label_of labels es e) refl)
            ∙ append-nil (shown_in labels es))
            ∙ (before
            ∙ ap (λ made. events_in (entries_in made)) (sym (made_other labels e es opener (λ is. other (sym is)))))
      ]
