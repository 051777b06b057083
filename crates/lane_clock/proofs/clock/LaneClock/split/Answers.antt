use Rattle.std.proofs.Common.{ap, ◌∙◌, sym, arith}
use Rattle.lane_clock.proofs.ShareLemmas.{may_copy}
use Rattle.lane_clock.proofs.clock.LaneClock.split.Goals as goal

pub split_seat-requires : goal.split_seat-requires
split_seat-requires c =
    let same = ap (λ s. s.clock) c.seat.view_is ∙ (c.requires.clock ∙ sym c.self.view_is) in
    (ap (λ k. k.table) same, omega (arith, c.self.invariant.words), may_copy _ _ _)
