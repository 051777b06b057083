use Rattle.context_tests.proofs.AskingLemmas.{all_ready, ready_at}
use Rattle.context_tests.proofs.asking.nth_asked.Goals as goal

pub asked-requires : goal.asked-requires
asked-requires g c = record {
  ready =
      ready_at g.N.LaneSession.names.script c.args.context.now c.args.all.now c.args.number c.requires.ready
      c.index-all-number.result c.requires.there;
}

pub returns : goal.returns
returns g c = record {
  ready =
      all_ready g.N.LaneSession.names.script c.args.context.now c.args.all.now c.args.number c.requires.ready
      c.asked.new.worker c.asked.ensures.ready;
}
