-- A pen that made steps of its own keeps its number, and forgets nothing.
use Rattle.std.proofs.Common.{◌≡◌, ◌≢◌, ⊎_elim, true, false, List, ◌++◌, sym, ap, subst, ◌∙◌}
use Rattle.std.specs.Prelude.{◌==◌}
use Rattle.std.proofs.lemmas.Bool.Decides.{eqb_tells}
use Rattle.lane_clock.specs.declared.step.Known.{Known}
use Rattle.lane_clock.specs.Knowledge.{StartOf, steps_at}
use Rattle.lane_clock.specs.Seats.{Remembers, SeatView, own}
use Rattle.lane_clock.proofs.KeepLemmas.{start_same}
use Rattle.lane_logs.specs.Labels.{Labelled, steps_in}
use Rattle.lane_turns.specs.Pens.{HasGone, PenView}
use Rattle.lane_turns.proofs.SteppingLemmas.{stepped_known, stepped_number}

pub gone_number : (labels : List Labelled) (old new : PenView) → HasGone labels old new →
    new.seat.number ≡ old.seat.number
gone_number labels old new gone =
    ap (λ (seat : SeatView). seat.number) gone.seat ∙ stepped_number old.seat (steps_in labels)

pub gone_remembers : (labels : List Labelled) (old new : PenView) → HasGone labels old new →
    Remembers old.seat new.seat
gone_remembers labels old new gone n =
    ⊎_elim
    (λ (same : ((n == old.seat.number) ≡ true) × (n ≡ old.seat.number)).
    subst (λ m. StartOf (steps_at old.seat.known m) (steps_at new.seat.known m)) (sym same.1) (
      steps_in labels,
      subst (λ m. steps_at new.seat.known m ≡ own old.seat ++ steps_in labels) (gone_number labels old new gone)
          gone.steps,
    ))
    (λ (differ : ((n == old.seat.number) ≡ false) × (n ≢ old.seat.number)).
    start_same _ _
    (sym (ap (λ (seat : SeatView). steps_at seat.known n) gone.seat
    ∙ ap (λ (known : Known). known.steps) (stepped_known old.seat (steps_in labels) n differ.1))))
    (eqb_tells n old.seat.number)
