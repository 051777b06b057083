use Rattle.std.proofs.Common.{ap, ◌∙◌, sym, arith, subst, ◌<◌}
use Rattle.lane_clock.specs.declared.step.ClockStep.TheVariants.{Draw}
use Rattle.lane_clock.specs.ClockWord.{change_of}
use Rattle.lane_clock.specs.Seats.{SeatView, Owns, own}
use Rattle.lane_clock.specs.Steps.{step_count, draw_count}
use Rattle.lane_clock.proofs.WordLemmas.{change_of-amount}
use Rattle.lane_clock.proofs.SeatLemmas.{shown_step, keeps_step}
use Rattle.lane_clock.proofs.StepLemmas.{may_draw}
use Rattle.lane_clock.proofs.clock.LaneClock.draw_named.Goals as goal

pub fetch_add-word-requires : goal.fetch_add-word-requires
fetch_add-word-requires g c =
    let same = ap (λ s. s.clock) c.seat.view_is ∙ (c.requires.clock ∙ sym c.self.view_is) in
    let room = subst (λ (s : SeatView). step_count draw_count (own s) < 65536) (sym c.seat.view_is) c.requires.room in (
      ap (λ k. k.table) same,
      omega (arith, c.self.invariant.words),
      may_draw _ _ _ _ c.seat.invariant.mine g.E.Drawing.event c.args.change c.amount_of.result c.amount_of.ensures room,
    )

pub returns-clause-keeps : goal.returns-clause-keeps
returns-clause-keeps g c =
    let mine = subst (λ (s : SeatView). Owns s s.number) c.seat.view_is c.seat.invariant.mine in
    let change = ap change_of c.amount_of.ensures ∙ change_of-amount c.args.change in
    keeps_step c.args.seat.now _ (Draw g.E.Drawing.event c.args.change c.of_word.result) mine
    (shown_step _ _ c.seat.inside.seat.me.0 _ _ (Draw g.E.Drawing.event c.args.change c.of_word.result) _ c.fetch_add-word.ensures.0
    (ap (λ m. m.0) c.fetch_add-word.ensures.2) (λ i. Draw g.E.Drawing.event (change i) (sym c.of_word.ensures.found i))
    c.seat.view_is)
