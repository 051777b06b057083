use Rattle.std.proofs.Common.{◌≡◌, ap, ◌∙◌, sym, arith, subst, [], ◌+◌, ◌^◌, ◌<◌, ◌≤◌, length}
use Rattle.atomic_table.specs.Table.{opening}
use Rattle.lane_clock.specs.Chronicle.{HasOneHistory, giver}
use Rattle.lane_clock.proofs.EndLemmas.{starts}
use Rattle.lane_clock.proofs.clock.LaneClock.make.Goals as goal

pub of_words-requires : goal.of_words-requires
of_words-requires c =
    let words = c.as_slice.ensures.value ∙ c.in_ok-words.ensures in
    let plan = c.in_ok-plan.ensures in
    let seats : c.in_ok-plan.plan.seats ≡ length c.args.cells.now + c.args.workers + 1 = ap (λ p. p.seats) plan in
    let guards : c.in_ok-plan.plan.guards ≡ c.args.guards = ap (λ p. p.guards) plan in
    let few : c.in_ok-plan.plan.seats ≤ 2 ^ 15 = omega (arith, c.requires.seats) in
    let small : c.in_ok-plan.plan.guards < 2 ^ 15 = omega (arith, c.requires.guards) in
    subst (λ ws. HasOneHistory c.in_ok-plan.plan (opening ws [] (giver c.in_ok-plan.plan))) (sym words)
    (starts c.in_ok-plan.plan few small)
