use Rattle.std.proofs.Common.{◌<◌, ap, ◌∙◌, subst}
use Rattle.lane_clock.specs.Seats.{SeatView, Owns}
use Rattle.lane_tests.proofs.NumberLemmas.{below_four}
use Rattle.lane_tests.proofs.clock.gathered.Goals as goal

pub closed-requires-clause-all : goal.closed-requires-clause-all
closed-requires-clause-all c n lt =
    let clock =
    ap (λ (s : SeatView). s.clock) c.join-3.ensures.step
    ∙ (ap (λ (s : SeatView). s.clock) c.join-2.ensures.step
    ∙ (ap (λ (s : SeatView). s.clock) c.join.ensures.step ∙ c.requires.one.0)) in
    let four = ap (λ k. k.plan.seats) clock ∙ c.requires.seats in
    below_four (λ k. Owns c.join-3.new.seat k)
    (c.join-3.ensures.keeps 0 (c.join-2.ensures.keeps 0 (c.join.ensures.keeps 0 c.requires.one.1)))
    (c.join-3.ensures.keeps 1 (c.join-2.ensures.keeps 1 (c.join.ensures.takes 1 c.requires.two.1)))
    (c.join-3.ensures.keeps 2 (c.join-2.ensures.takes 2 c.requires.three.1))
    (c.join-3.ensures.takes 3 c.requires.four.1)
    n
    (subst (λ k. n < k) four lt)
