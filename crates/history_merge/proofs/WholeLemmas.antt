-- When a session is over all places that were drawn have their notes, where their lanes have cells at them.
use Rattle.std.proofs.Common.{◌≡◌, ℕ, ◌<◌, List, [], ◌∷◌, inl, inr, length, take, refl, sym, ap, subst, ◌∙◌, arith}
use Rattle.std.specs.Prelude.{Some, slice_index}
use Rattle.std.proofs.Math.Seq.{take-length}
use Rattle.std.proofs.lemmas.Bool.{cases_eq, cases_lt}
use Rattle.session_script.specs.Script.{ScriptModel}
use Rattle.session_script.specs.WellFormed.{IsWellFormed}
use Rattle.lane_clock.specs.declared.note.Note.{Note}
use Rattle.lane_clock.specs.History.{ClockEvent, cell_after, steps_under}
use Rattle.lane_clock.proofs.MomentLemmas.{tail_refl}
use Rattle.lane_map.specs.LaneNumbers.{cells_of}
use Rattle.lane_logs.specs.Labels.{Labelled, allots, steps_in}
use Rattle.lane_logs.specs.LaneLog.{MayFollow}
use Rattle.lane_logs.specs.Logs.{AreLogs, LogsView, session_layout}
use Rattle.lane_logs.specs.Names.{SessionNames}
use Rattle.lane_logs.specs.OpenerLog.{MayFollowOpened, OpenerPart, opener_labels}
use Rattle.lane_logs.specs.Parts.{Part, labels_in}
use Rattle.lane_logs.specs.SeatNumbers.{lane_count, opener_seat}
use Rattle.lane_logs.specs.WorkerLog.{MayFollowStopped, WorkerPart}
use Rattle.history_merge.proofs.LabellingLemmas.{AreLabels}
use Rattle.history_merge.proofs.PartLemmas.{Every, every_made, labels_worker}
use Rattle.history_merge.proofs.PolledLemmas.{GetsNone, none_soon, worker_none}
use Rattle.history_merge.proofs.SoFarLemmas.{made_so_far}
use Rattle.history_merge.proofs.SoonLemmas.{AllSoon, cells_full, lane_soon, opener_soon, parts_soon}
use Rattle.history_merge.proofs.StagedLemmas.{labelled_to}
use Rattle.history_merge.proofs.TimeLemmas.{IsMade}

steps_long : (xs : List Labelled) → length (steps_in xs) ≡ length xs
steps_long [] = refl
steps_long (x ∷ xs) = let rest = steps_long xs in omega (arith, rest)

module _ (names : SessionNames) (well : IsWellFormed names.script) (logs : LogsView) (labels : ℕ → List Labelled)
    (logged : AreLogs names logs) (are : AreLabels names logs labels) where
  abbrev script : ScriptModel
  script = names.script

  abbrev opener : ℕ
  opener = opener_seat names.script

  abbrev whole : List ClockEvent
  whole = logged.closed.history

  -- of each number as many labels as steps
  pub whole_long : (n : ℕ) → length (steps_under n logged.closed.history) ≡ length (labels n)
  whole_long n =
      ap length (sym (logged.closed.all n) ∙ sym (are.steps n)) ∙ steps_long (labels n)

  all_made_then : (n : ℕ) → made_so_far labels whole n ≡ labels n
  all_made_then n = ap (λ k. take k (labels n)) (whole_long n) ∙ take-length (labels n)

  all_soon : (n : ℕ) → AllSoon script (made_so_far labels whole n)
  all_soon n = elim (cases_lt n (lane_count script)) [
    | inl lane ↦
        let made = are.lanes n lane in
        subst (AllSoon script) (sym (all_made_then n ∙ made.are))
        (parts_soon script Part (labels_in script n) (MayFollow names (logs.lists opener) n)
        (lane_soon names (logs.lists opener) n) made.parts made.follow)
    | inr behind ↦ elim (cases_lt n opener) [
      | inl before ↦
          let made = are.workers n (record { behind = behind; before = before }) in
          none_soon script (labels n) (length (steps_under n whole))
          (subst (Every GetsNone) (sym made.are)
          (every_made WorkerPart labels_worker (MayFollowStopped script (logs.lists opener)) GetsNone
          (worker_none script (logs.lists opener)) made.parts made.follow))
      | inr beyond ↦ elim (cases_eq n opener) [
        | inl same ↦
            subst (λ n. AllSoon script (made_so_far labels whole n)) (sym same)
            (subst (AllSoon script) (sym (all_made_then opener ∙ are.opener.are))
            (parts_soon script OpenerPart opener_labels (MayFollowOpened script logs.lists)
            (opener_soon script logs.lists) are.opener.parts are.opener.follow))
        | inr isnt ↦
            subst (λ made. AllSoon script (take (length (steps_under n whole)) made))
            (sym (are.others n (omega (arith, beyond, isnt)))) (none_soon script [] (length (steps_under n whole)) tt)
      ]
    ]
  ]

  -- so their cells are full
  pub place_full : (number act lane place : ℕ) → IsMade labels logged.closed.history number (allots act lane place) →
      place < slice_index (cells_of names.script) lane →
      (note : Note) × (note.op ≡ act) × (cell_after lane place logged.closed.history ≡ Some note)
  place_full =
      cells_full script labels script.guards (session_layout script).seats whole logged.closed.sound
      (labelled_to names well logs labels logged are whole (tail_refl whole)) all_soon
