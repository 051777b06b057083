-- Whose events: those of a lane that isn't the reactor's are of executions, those of a worker are stops from outside.
use Rattle.std.proofs.Common.{◌≡◌, ◌≢◌, ◌⊎◌, ℕ, true, List, inl, inr, refl}
use mathlib.Core.Option.{some}
use lib.ListN.{get_elem?}
use Rattle.asio_types.specs.declared.event.Event.{Event}
use Rattle.history_rules.specs.FromOutside.{is_outside_stop}
use Rattle.lane_map.specs.LaneNumbers.{reactor_lane}
use Rattle.lane_logs.specs.Labels.{Labelled, allots, shows, silent}
use Rattle.lane_logs.specs.LaneLog.{MayFollow}
use Rattle.lane_logs.specs.Logs.{LogsView}
use Rattle.lane_logs.specs.Names.{SessionNames}
use Rattle.lane_logs.specs.OpenerLog.{opener_labels}
use Rattle.lane_logs.specs.Parts.{Part, executed, failed, idle, labels_in, missing, turned}
use Rattle.lane_logs.specs.SeatNumbers.{opener_seat}
use Rattle.lane_logs.specs.WorkerLog.{MayFollowStopped, WorkerPart, stopped, waiting}
use Rattle.history_merge.proofs.EachLabelLemmas.{HoldsOf, calls_each, is_of_execution}
use Rattle.history_merge.proofs.LabellingLemmas.{AreLabels, each_label}
use Rattle.history_merge.proofs.PartLemmas.{Every, every_all, every_so, labels_worker}

-- an event of an execution, or a worker's
abbrev pub IsOthers : Event → Type 0
IsOthers shown = (is_of_execution shown ≡ true) ⊎ (is_outside_stop shown ≡ true)

abbrev pub ShowsOthers : Labelled → Type 0
ShowsOthers (silent step) = Unit {0}
ShowsOthers (shows shown changes found) = IsOthers shown
ShowsOthers (allots act lane place) = Unit {0}

holds_others : HoldsOf is_of_execution ShowsOthers
holds_others = record {
  events = λ shown is changes found. inl is;
  places = λ act lane place. tt;
  puts = λ lane place note. tt;
}

module _ (names : SessionNames) (logs : LogsView) (labels : ℕ → List Labelled) (are : AreLabels names logs labels) where
  abbrev Theirs : ℕ → Labelled → Type 0
  Theirs n label = n ≢ reactor_lane names.script → n ≢ opener_seat names.script → ShowsOthers label

  lane_others : (lane : ℕ) (earlier : List Part) (part : Part) →
      MayFollow names (logs.lists (opener_seat names.script)) lane earlier part →
      Every (Theirs lane) (labels_in names.script lane part)
  lane_others lane earlier (idle step) may = ((λ away off. tt), tt)
  lane_others lane earlier (executed part) may = (
    (λ away off. tt),
    (
      (λ away off. tt),
      every_so ShowsOthers (Theirs lane) (λ label is away off. is) part.labels
          (calls_each ShowsOthers names.script holds_others may.drawn),
    ),
  )
  lane_others lane earlier (turned part) may =
      every_all (Theirs lane) (λ label away off. absurd (away may.reactor)) (labels_in names.script lane (turned part))
  lane_others lane earlier (failed part) may =
      every_all (Theirs lane) (λ label away off. absurd (away may.reactor)) (labels_in names.script lane (failed part))
  lane_others lane earlier (missing place note) may = ((λ away off. tt), tt)

  worker_others : (n : ℕ) (earlier : List WorkerPart) (part : WorkerPart) →
      MayFollowStopped names.script (logs.lists (opener_seat names.script)) earlier part →
      Every (Theirs n) (labels_worker part)
  worker_others n earlier (waiting step) may = ((λ away off. tt), tt)
  worker_others n earlier (stopped drawn) may = ((λ away off. inr refl), tt)

  -- what is neither the reactor's nor the opener's
  pub others_label : (n i : ℕ) (label : Labelled) → get_elem? (labels n) i ≡ some label →
      n ≢ reactor_lane names.script → n ≢ opener_seat names.script → ShowsOthers label
  others_label =
      each_label names logs labels are Theirs (λ lane within earlier part may. lane_others lane earlier part may) worker_others
      (λ earlier part may.
      every_all (Theirs (opener_seat names.script)) (λ label away off. absurd (off refl)) (opener_labels part))
