-- The theorem: what is kept holds before each step of the one history, whoever makes it, and so at its end.
use Rattle.std.proofs.Common.{◌≡◌, ℕ, ◌+◌, ◌≤◌, List, [], ◌∷◌, ◌++◌, inl, inr, length, refl, subst, sym, arith}
use Rattle.std.proofs.lemmas.Bool.{cases_eq, cases_lt}
use mathlib.Core.Option.{some, some-ne-none}
use lib.ListN.{get_elem?}
use Rattle.asio_types.specs.declared.event.Event.{Event}
use Rattle.session_script.specs.WellFormed.{IsWellFormed}
use Rattle.lane_clock.specs.History.{ClockEvent, steps_under}
use Rattle.lane_clock.proofs.MomentLemmas.{Tail, tail_more, tail_refl}
use Rattle.lane_map.specs.LaneNumbers.{reactor_lane}
use Rattle.lane_logs.specs.Labels.{Labelled}
use Rattle.lane_logs.specs.Logs.{AreLogs, LogsView}
use Rattle.lane_logs.specs.Names.{SessionNames}
use Rattle.lane_logs.specs.SeatNumbers.{lane_count, opener_seat}
use Rattle.history_merge.specs.Merging.{IsLegalMerging, IsMerging}
use Rattle.history_merge.specs.Ordering.{ArePositioned}
use Rattle.history_merge.specs.Room.{most_merged}
use Rattle.history_merge.proofs.EndLemmas.{merged_legal}
use Rattle.history_merge.proofs.FitsLemmas.{fits}
use Rattle.history_merge.proofs.LabellingLemmas.{AreLabels, are_labels, labels_under}
use Rattle.history_merge.proofs.LaneNextLemmas.{lane_next}
use Rattle.history_merge.proofs.LaneOfLemmas.{lanes_size}
use Rattle.history_merge.proofs.OpenerNextLemmas.{opener_next, worker_next}
use Rattle.history_merge.proofs.OrderingLemmas.{there_in_order}
use Rattle.history_merge.proofs.ReactorNextLemmas.{reactor_next}
use Rattle.history_merge.proofs.SoFirstLemmas.{so_first}
use Rattle.history_merge.proofs.SoLemmas.{IsSo}
use Rattle.history_merge.proofs.SoNextLemmas.{IsNextStep, so_next}
use Rattle.history_merge.proofs.StagedLemmas.{is_labelled, label}

module _ (names : SessionNames) (well : IsWellFormed names.script) (logs : LogsView) (labels : ℕ → List Labelled)
    (logged : AreLogs names logs) (are : AreLabels names logs labels) where
  -- whoever makes the next step, it may be made
  next : (e : ClockEvent) (es : List ClockEvent) (tail : Tail (e ∷ es) logged.closed.history) →
      (so : (a : List ClockEvent) → Tail a es → IsSo names logs labels are a) →
      IsNextStep names well logs labels logged are e es tail (so es (tail_refl es))
  next e es tail so = elim (cases_lt e.by (lane_count names.script)) [
    | inl within ↦ elim (cases_lt e.by (reactor_lane names.script)) [
      | inl below ↦ lane_next names well logs labels logged are e es tail so within below
      | inr beyond ↦
          let size = lanes_size names.script well in
          reactor_next names well logs labels logged are e es tail so (omega (arith, size, within, beyond))
    ]
    | inr behind ↦ elim (cases_lt e.by (opener_seat names.script)) [
      | inl before ↦
          worker_next names well logs labels logged are e es tail so (record { behind = behind; before = before })
      | inr beyond ↦ elim (cases_eq e.by (opener_seat names.script)) [
        | inl by ↦ opener_next names well logs labels logged are e es tail so by
        | inr other ↦
            absurd (some-ne-none (label names well logs labels logged are e es tail)
            (sym (subst
            (λ xs. get_elem? xs (length (steps_under e.by es)) ≡ some (label names well logs labels logged are e es tail))
            (are.others e.by (omega (arith, beyond, other)))
            (is_labelled names well logs labels logged are e es tail).there)))
      ]
    ]
  ]

  -- so what is kept holds after each part of the history
  all_so : (es : List ClockEvent) → Tail es logged.closed.history → (a : List ClockEvent) → Tail a es →
      IsSo names logs labels are a
  all_so [] tail a here = subst (IsSo names logs labels are) (sym here) (so_first names logs labels logged are)
  all_so (e ∷ es) tail a (inl here) =
      subst (IsSo names logs labels are) (sym here)
      (so_next names well logs labels logged are e es tail
      (all_so es (tail_more es e logged.closed.history tail) es (tail_refl es))
      (next e es tail (all_so es (tail_more es e logged.closed.history tail))))
  all_so (e ∷ es) tail a (inr there) = all_so es (tail_more es e logged.closed.history tail) a there

-- at the end too
pub so_at : (names : SessionNames) (well : IsWellFormed names.script) (logs : LogsView) (logged : AreLogs names logs)
    (a : List ClockEvent) → Tail a logged.closed.history →
    IsSo names logs (labels_under names logs logged) (are_labels names logs logged) a
so_at names well logs logged a within =
    all_so names well logs (labels_under names logs logged) logged (are_labels names logs logged) logged.closed.history
    (tail_refl logged.closed.history) a within

module _ (names : SessionNames) (logs : LogsView) (well : IsWellFormed names.script) (logged : AreLogs names logs) where
  so_at_end : IsSo names logs (labels_under names logs logged) (are_labels names logs logged) logged.closed.history
  so_at_end = so_at names well logs logged logged.closed.history (tail_refl logged.closed.history)

  -- logs put together are one legal history
  pub merged_is_legal : (events : List Event) → IsMerging logs events → IsLegalMerging names logs events
  merged_is_legal events merging =
      merged_legal names well logs events logged merging (labels_under names logs logged) (are_labels names logs logged) so_at_end

  -- and have no more events than the script says
  pub merged_fits : ArePositioned logs.entries logs.last.clock → logs.last.clock + length logs.drops ≤ most_merged names.script
  merged_fits positioned =
      let drawn = there_in_order logs.entries logs.last.clock positioned in
      fits names well logs (drawn.0 ++ logs.drops) logged (record { drawn = drawn.0; is = refl; ordered = drawn.1 })
      (labels_under names logs logged) (are_labels names logs logged) so_at_end
