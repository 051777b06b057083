use Rattle.std.proofs.Common.{ap, ◌∙◌, sym, arith, subst}
use Rattle.lane_clock.specs.declared.step.ClockStep.TheVariants.{Load}
use Rattle.lane_clock.specs.Seats.{SeatView, Owns}
use Rattle.lane_clock.proofs.SeatLemmas.{shown_step, keeps_step}
use Rattle.lane_clock.proofs.StepLemmas.{may_load}
use Rattle.lane_clock.proofs.clock.LaneClock.load.Goals as goal

pub load-requires : goal.load-requires
load-requires c =
    let same = ap (λ s. s.clock) c.seat.view_is ∙ (c.requires.clock ∙ sym c.self.view_is) in
    (ap (λ k. k.table) same, omega (arith, c.self.invariant.words), may_load _ _ _ _ c.seat.invariant.mine)

pub returns-clause-keeps : goal.returns-clause-keeps
returns-clause-keeps c =
    let mine = subst (λ (s : SeatView). Owns s s.number) c.seat.view_is c.seat.invariant.mine in
    keeps_step c.args.seat.now _ (Load c.of_word.result) mine
    (shown_step _ _ c.seat.inside.seat.me.0 _ _ (Load c.of_word.result) _ c.load.ensures.0
    (ap (λ m. m.0) c.load.ensures.2) (λ i. Load (sym c.of_word.ensures.found i)) c.seat.view_is)
