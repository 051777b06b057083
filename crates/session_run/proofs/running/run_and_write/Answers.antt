use Rattle.session_run.proofs.WorkLemmas.{ran}
use Rattle.session_run.proofs.running.run_and_write.Goals as goal

pub returns-in-Ok-clause-works : goal.returns-in-Ok-clause-works
returns-in-Ok-clause-works g c =
    ran c.args.form g.H.CompletionHandler.marks c.args.script.now _ c.args.rack.now c.run_to_history.new.rack
    c.in-Ok.history.events _ c.write_history.result c.requires.running c.in-Ok.ensures.ran c.write_history.ensures.wrote
