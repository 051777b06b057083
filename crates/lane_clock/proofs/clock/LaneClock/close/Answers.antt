use Rattle.std.proofs.Common.{ap, ◌∙◌, sym, subst}
use Rattle.lane_clock.specs.ClockWord.{found_of}
use Rattle.lane_clock.specs.Seats.{SeatView, OwnsAll}
use Rattle.lane_clock.proofs.SeatLemmas.{at_index}
use Rattle.lane_clock.proofs.EndLemmas.{closes, closed_as}
use Rattle.lane_clock.proofs.clock.LaneClock.close.Goals as goal

pub returns : goal.returns
returns c =
    let all = subst (λ (s : SeatView). OwnsAll s) (sym c.seat.view_is) c.requires.all in
    let closed =
    closes c.self.inside.table.shared.key _ _ c.seat.inside.seat.me.0 _ _ c.close_with-closed.ensures.values.2
    c.seat.invariant.mine all in
    let plan = c.self.invariant.key ∙ ap (λ k. k.plan) c.self.view_is in
    let last = ap found_of (at_index _ 0 c.word-word.result c.word-word.ensures) ∙ sym c.of_word.ensures.found in
    record { closed = closed_as _ _ _ _ _ _ plan (ap (λ (s : SeatView). s.known) c.seat.view_is) last closed }
