use Rattle.std.proofs.Common.{arith}
use Rattle.session_run.proofs.RackLemmas.{named_marks}
use Rattle.session_run.proofs.one_lock.run_locked.Goals as goal

pub make-requires-clause-marks : goal.make-requires-clause-marks
make-requires-clause-marks g c =
    named_marks g.H.CompletionHandler.marks c.args.script.now c.args.rack.now g.N.Session.run g.N.Session.drop
    c.requires.run_marks c.requires.drop_marks c.requires.whole
    (omega (arith, c.acts.ensures.count, c.acts.ensures.limit, c.requires.count))
