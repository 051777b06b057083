use Rattle.std.proofs.Common.{◌≡◌, ap, ◌∙◌, sym, arith}
use Rattle.lane_clock.specs.ClockWord.{found_of, word_of}
use Rattle.lane_clock.specs.History.{drawn}
use Rattle.lane_clock.proofs.ClockLemmas.{clock_is}
use Rattle.lane_tests.proofs.clock.closed.Goals as goal

pub returns : goal.returns
returns c =
    let closed = c.close.ensures.closed in
    let few = closed.parts.0 in
    let counted = clock_is c.args.clock.plan.guards c.args.clock.plan.seats closed.history closed.few.0 closed.sound in
    let word = closed.word in
    (closed.history, omega arith)
