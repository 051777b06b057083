use Rattle.context_tests.proofs.AskingLemmas.{looked}
use Rattle.context_tests.proofs.asking.work_left.Goals as goal

pub returns : goal.returns
returns g c = record {
  ready =
      looked g.N.LaneSession.names.script c.args.context.now c.args.number c.args.worker.now c.work.new.worker
      c.requires.ready c.work.ensures.0 c.work.ensures.1;
}
