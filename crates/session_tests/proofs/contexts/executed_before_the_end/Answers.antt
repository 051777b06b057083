use Rattle.std.proofs.Common.{arith}
use Rattle.session_run.proofs.RackLemmas.{named_marks}
use Rattle.session_tests.proofs.contexts.executed_before_the_end.Goals as goal

pub make-made-requires-clause-marks : goal.make-made-requires-clause-marks
make-made-requires-clause-marks g c =
    named_marks g.H.CompletionHandler.marks c.args.script.now c.args.rack.now g.N.Session.run g.N.Session.drop
    c.requires.run_marks c.requires.drop_marks c.requires.whole
    (omega (arith, c.acts.ensures.count, c.acts.ensures.limit, c.requires.count))
