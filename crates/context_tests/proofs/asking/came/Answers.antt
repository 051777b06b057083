use Rattle.context_tests.proofs.AskingLemmas.{is_seated, went_on}
use Rattle.context_tests.proofs.asking.came.Goals as goal

pub poll_one-requires : goal.poll_one-requires
poll_one-requires g c = record {
  turns =
      is_seated g.N.LaneSession.names.script c.args.context.now c.args.number c.args.worker.now c.requires.ready;
}

pub returns : goal.returns
returns g c = record {
  ready =
      went_on g.N.LaneSession.names.script c.args.context.now c.args.number c.args.worker.now c.poll_one.new.worker
      c.requires.ready c.poll_one.ensures.on c.poll_one.ensures.turns;
}
