-- Behind the call of a posting its act gets a place at once, but for what the reactor does.
use Rattle.std.proofs.Common.{◌≡◌, ◌≢◌, ℕ, zero, suc, ◌+◌, Bool, true, false, cond, List, [], ◌∷◌, ◌++◌, inl, inr, map, refl, sym, ap, subst, ◌∙◌, arith}
use Rattle.std.specs.Prelude.{nat_lt, slice_index}
use Rattle.std.proofs.lemmas.Bool.{cases_eq, cases_lt, eqb-true}
use mathlib.Core.Option.{some, some-injective, some-ne-none}
use lib.ListN.{get_elem?}
use Rattle.atomic_table.proofs.Lists.{at_longer}
use Rattle.asio_types.specs.declared.event.Event.{Event}
use Rattle.asio_types.specs.declared.event.Event.TheVariants as event
use Rattle.session_script.specs.Lanes.{is_inline}
use Rattle.session_script.specs.Script.{ScriptModel, stops}
use Rattle.strand_core.specs.declared.posted.Posted.{Posted}
use Rattle.lane_clock.specs.declared.note.Note.{Note}
use Rattle.lane_clock.specs.declared.step.ClockStep.{ClockStep}
use Rattle.lane_clock.specs.declared.step.ClockStep.TheVariants.{Put}
use Rattle.lane_map.specs.LaneNumbers.{asked_lane, cells_of, reactor_lane}
use Rattle.lane_logs.specs.Drops.{is_call_of}
use Rattle.lane_logs.specs.Labels.{AreDrawn, IsDrawn, Labelled, allots, begins, call_note, dispatches, ends, none_drawn, one_drawn, posts, returns, silent, stops_context}
use Rattle.lane_logs.specs.LaneLog.{MayFollow}
use Rattle.lane_logs.specs.Logs.{LogsView}
use Rattle.lane_logs.specs.Names.{SessionNames}
use Rattle.lane_logs.specs.OpenerLog.{ClosedPart, Closes, Looked, MayFollowOpened, OpenerPart, closed, look_label, opened, opener_labels, resting, restarted}
use Rattle.lane_logs.specs.Parts.{Part, executed, failed, idle, labels_in, missing, turned}
use Rattle.lane_logs.specs.SeatNumbers.{lane_count, opener_seat}
use Rattle.lane_logs.specs.WorkerLog.{MayFollowStopped, WorkerPart, stopped, waiting}
use Rattle.history_merge.proofs.AlikeLemmas.{never}
use Rattle.history_merge.proofs.LabellingLemmas.{AreLabels}
use Rattle.history_merge.proofs.PairedLemmas.{is_call_label}
use Rattle.history_merge.proofs.PartLemmas.{Follow, all_made, labels_worker}

module _ (script : ScriptModel) (act : ℕ) (going : stops script act ≡ false) (outside : is_inline script act ≡ false) where
  abbrev IsPlaceNext : List Labelled → Type 0
  IsPlaceNext xs = (place : ℕ) × (get_elem? xs 0 ≡ some (allots act (asked_lane script act) place))

  -- each call of the act is followed by its place
  abbrev AllNext : List Labelled → Type 0
  AllNext [] = Unit {0}
  AllNext (x ∷ xs) = (is_call_label act x ≡ true → IsPlaceNext xs) × AllNext xs

  next-append : (xs ys : List Labelled) → AllNext xs → AllNext ys → AllNext (xs ++ ys)
  next-append [] ys first second = second
  next-append (x ∷ xs) ys first second = (
    (λ is.
        let place = first.0 is in
        (place.0, at_longer xs ys 0 (allots act (asked_lane script act) place.0) place.1)),
    next-append xs ys first.1 second,
  )

  next_at : (labels : List Labelled) → AllNext labels → (i : ℕ) (label : Labelled) → get_elem? labels i ≡ some label →
      is_call_label act label ≡ true →
      (place : ℕ) × (get_elem? labels (suc i) ≡ some (allots act (asked_lane script act) place))
  next_at [] all i label at is = absurd (some-ne-none label (sym at))
  next_at (x ∷ xs) all zero label at is =
      all.0 (ap (is_call_label act) (some-injective x label at) ∙ is)
  next_at (x ∷ xs) all (suc i) label at is = next_at xs all.1 i label at is

  put_next : (within : Bool) (lane place : ℕ) (note : Note) →
      AllNext (cond within (silent (Put lane place note) ∷ []) [])
  put_next true lane place note = ((λ is. absurd (cc is)), tt)
  put_next false lane place note = tt

  call_next : {made : Posted} {labels : List Labelled} → IsDrawn script made labels → AllNext labels
  call_next begins = ((λ is. absurd (cc is)), tt)
  call_next (posts {act = other} {place} {found} isnt out) = (
    (λ is. (place, ap (λ n. some (allots n (asked_lane script n) place)) (eqb-true other act is))),
    (
      (λ is. absurd (cc is)),
      put_next (nat_lt place (slice_index (cells_of script) (asked_lane script other))) (asked_lane script other) place
          (call_note other),
    ),
  )
  call_next (dispatches {act = other} isnt within) = (
    (λ is. absurd (never (is_inline script act) outside (ap (is_inline script) (sym (eqb-true other act is)) ∙ within))),
    tt,
  )
  call_next (stops_context {act = other} stopping) = (
    (λ is. absurd (never (stops script act) going (ap (stops script) (sym (eqb-true other act is)) ∙ stopping))),
    ((λ is. absurd (cc is)), tt),
  )
  call_next returns = ((λ is. absurd (cc is)), tt)
  call_next ends = ((λ is. absurd (cc is)), tt)

  calls_next : {calls : List Posted} {labels : List Labelled} → AreDrawn script calls labels → AllNext labels
  calls_next none_drawn = tt
  calls_next (one_drawn {calls} {call = one} {labels} {made} before now) =
      next-append labels made (calls_next before) (call_next now)

  looks_next : (looks : List Looked) → AllNext (map look_label looks)
  looks_next [] = tt
  looks_next (look ∷ looks) = ((λ is. absurd (cc is)), looks_next looks)

  worker_next : (opener : List ClockStep) (earlier : List WorkerPart) (part : WorkerPart) →
      MayFollowStopped script opener earlier part → AllNext (labels_worker part)
  worker_next opener earlier (waiting step) may = ((λ is. absurd (cc is)), tt)
  worker_next opener earlier (stopped drawn) may = ((λ is. absurd (cc is)), tt)

  closing_none : (lists : ℕ → List ClockStep) (earlier : List OpenerPart) (part : ClosedPart) (shown : Event) →
      Closes script lists earlier part shown → is_call_of act shown ≡ false
  closing_none lists earlier part event.Ended closes = refl
  closing_none lists earlier part event.Stopped closes = refl
  closing_none lists earlier part event.Polled closes = refl
  closing_none lists earlier part other closes = absurd closes

  opener_next : (lists : ℕ → List ClockStep) (earlier : List OpenerPart) (part : OpenerPart) →
      MayFollowOpened script lists earlier part → AllNext (opener_labels part)
  opener_next lists earlier (resting step) may = ((λ is. absurd (cc is)), tt)
  opener_next lists earlier (opened calls labels) may = calls_next may.drawn
  opener_next lists earlier (restarted drawn) may = ((λ is. absurd (cc is)), tt)
  opener_next lists earlier (closed part) may = (
    (λ is. absurd (cc is)),
    next-append (map look_label part.looks) _ (looks_next part.looks)
        ((λ is. absurd (never (is_call_of act part.shown) (closing_none lists earlier part part.shown may.closes) is)), tt),
  )

  parts_next : (P : Type 0) (made : P → List Labelled) (May : List P → P → Type 0) →
      ((earlier : List P) (part : P) → May earlier part → AllNext (made part)) → (parts : List P) →
      Follow P made May parts → AllNext (all_made P made parts)
  parts_next P made May each [] all = tt
  parts_next P made May each (part ∷ parts) all =
      next-append (all_made P made parts) (made part) (parts_next P made May each parts all.0) (each parts part all.1)

module _ (names : SessionNames) (logs : LogsView) (labels : ℕ → List Labelled) (are : AreLabels names logs labels)
    (act : ℕ) (going : stops names.script act ≡ false) (outside : is_inline names.script act ≡ false) where
  abbrev Next : List Labelled → Type 0
  Next = AllNext names.script act going outside

  lane_next : (n : ℕ) → n ≢ reactor_lane names.script → (earlier : List Part) (part : Part) →
      MayFollow names (logs.lists (opener_seat names.script)) n earlier part →
      Next (labels_in names.script n part)
  lane_next n away earlier (idle step) may = ((λ is. absurd (cc is)), tt)
  lane_next n away earlier (executed part) may =
      ((λ is. absurd (cc is)), ((λ is. absurd (cc is)), calls_next names.script act going outside may.drawn))
  lane_next n away earlier (turned part) may = absurd (away may.reactor)
  lane_next n away earlier (failed part) may = absurd (away may.reactor)
  lane_next n away earlier (missing place note) may = ((λ is. absurd (cc is)), tt)

  number_next : (n : ℕ) → n ≢ reactor_lane names.script → Next (labels n)
  number_next n away = elim (cases_lt n (lane_count names.script)) [
    | inl lane ↦
        let made = are.lanes n lane in
        subst Next (sym made.are)
        (parts_next names.script act going outside Part (labels_in names.script n)
        (MayFollow names (logs.lists (opener_seat names.script)) n) (lane_next n away) made.parts made.follow)
    | inr behind ↦ elim (cases_lt n (opener_seat names.script)) [
      | inl before ↦
          let made = are.workers n (record { behind = behind; before = before }) in
          subst Next (sym made.are)
          (parts_next names.script act going outside WorkerPart labels_worker
          (MayFollowStopped names.script (logs.lists (opener_seat names.script)))
          (worker_next names.script act going outside (logs.lists (opener_seat names.script))) made.parts made.follow)
      | inr beyond ↦ elim (cases_eq n (opener_seat names.script)) [
        | inl is ↦
            subst (λ n. Next (labels n)) (sym is)
            (subst Next (sym are.opener.are)
            (parts_next names.script act going outside OpenerPart opener_labels
            (MayFollowOpened names.script logs.lists) (opener_next names.script act going outside logs.lists)
            are.opener.parts are.opener.follow))
        | inr isnt ↦ subst Next (sym (are.others n (omega (arith, beyond, isnt)))) tt
      ]
    ]
  ]

  -- the place of a call that was shown
  pub place_next : (n : ℕ) → n ≢ reactor_lane names.script → (i : ℕ) (label : Labelled) →
      get_elem? (labels n) i ≡ some label → is_call_label act label ≡ true →
      (place : ℕ) × (get_elem? (labels n) (suc i) ≡ some (allots act (asked_lane names.script act) place))
  place_next n away = next_at names.script act going outside (labels n) (number_next n away)
