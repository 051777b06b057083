use Rattle.std.proofs.Common.{◌+◌}
use Rattle.run_forced.proofs.KnownLemmas.{knows_mark}
use Rattle.run_forced.proofs.known.Known.mark.Goals as goal

pub returns : goal.returns
returns c = λ run spot knows there passes.
    let taken = c.take_mark-clock.ensures.knows run (c.args.place + 1) knows in
    knows_mark run c.args.place c.args.mark spot c.take_mark-clock.new.self c.add_passed.new.clock c.insert.new.self taken there passes
    c.in_ok-insert.ensures.updates.0
    (c.in_ok-add_passed.ensures run c.args.mark spot taken there passes (c.take_mark-clock.ensures.marked run (c.args.place + 1) knows))
