-- Each event of the opener is the last of the steps that it then made.
use Rattle.std.proofs.Common.{◌≡◌, ℕ, List, [], ◌∷◌, ◌++◌, ap, ◌∙◌}
use Rattle.asio_types.specs.declared.event.Event.{Event}
use Rattle.lane_clock.specs.declared.found.Change.{Change}
use Rattle.lane_clock.specs.declared.found.Found.{Found}
use Rattle.lane_clock.specs.declared.step.ClockStep.{ClockStep}
use Rattle.lane_clock.specs.declared.step.Known.{Known}
use Rattle.lane_clock.specs.Knowledge.{steps_at}
use Rattle.lane_clock.specs.Seats.{SeatView, own}
use Rattle.lane_logs.specs.Knowing.{joined_count}
use Rattle.lane_logs.specs.Labels.{Labelled, shows, steps_in}
use Rattle.lane_logs.specs.OpenerLog.{Looked, closing_change}
use Rattle.lane_logs.proofs.LabelLemmas.{steps-append}
use Rattle.lane_turns.specs.declared.closing.Closing.{Closing}
use Rattle.lane_turns.specs.Attending.{HasDrawnLast}
use Rattle.lane_turns.specs.Closing.{closing_event}
use Rattle.lane_turns.specs.OpenerEvents.{closing_labels, weighing_labels}
use Rattle.lane_turns.specs.Pens.{HasGone, PenView}
use Rattle.lane_turns.proofs.OpenerEventLemmas.{looks_quiet}
use Rattle.lane_turns.proofs.SteppingLemmas.{stepped_known, stepped_number}

abbrev pub drawn_last : (labels : List Labelled) (shown : Event) (changes : Change) (found : Found) (old new : PenView) →
    ((n : ℕ) → joined_count n (steps_in labels) ≡ 0) → HasGone (labels ++ shows shown changes found ∷ []) old new →
    HasDrawnLast old.seat new.seat
drawn_last labels shown changes found old new quiet gone =
    let all : List ClockStep = steps_in (labels ++ shows shown changes found ∷ []) in
    record {
      front = steps_in labels;
      shown = shown;
      changes = changes;
      found = found;
      steps = gone.steps ∙ ap (λ steps. own old.seat ++ steps) (steps-append labels (shows shown changes found ∷ []));
      quiet = quiet;
      number = ap (λ (seat : SeatView). seat.number) gone.seat ∙ stepped_number old.seat all;
      others =
          λ n ne.
          ap (λ (seat : SeatView). steps_at seat.known n) gone.seat
          ∙ ap (λ (known : Known). known.steps) (stepped_known old.seat all n ne);
    }

-- a closing
abbrev pub closing_last : (found drawn : Found) (looks : List Looked) (shown : Closing) (old new : PenView) →
    HasGone (closing_labels found looks shown drawn) old new → HasDrawnLast old.seat new.seat
closing_last found drawn looks shown old new gone =
    drawn_last (weighing_labels found looks) (closing_event shown) (closing_change (closing_event shown)) drawn old new
    (λ n. looks_quiet n looks) gone
