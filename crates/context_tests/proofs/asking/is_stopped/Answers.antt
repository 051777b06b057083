use Rattle.context_tests.proofs.AskingLemmas.{looked}
use Rattle.context_tests.proofs.asking.is_stopped.Goals as goal

pub returns : goal.returns
returns g c = record {
  ready =
      looked g.N.LaneSession.names.script c.args.context.now c.args.number c.args.worker.now c.stopped.new.worker
      c.requires.ready c.stopped.ensures.0 c.stopped.ensures.1;
}
