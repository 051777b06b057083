use Rattle.lane_turns.specs.Workers.{may_draw_stop}
use Rattle.context_tests.proofs.AskingLemmas.{stopped}
use Rattle.context_tests.proofs.asking.stops.Goals as goal

pub returns : goal.returns
returns g c = record {
  ready =
      stopped g.N.LaneSession.names.script c.args.context.now c.args.number c.args.worker.now c.stop.new.worker
      c.requires.ready (may_draw_stop c.args.worker.now.seat) c.stop.ensures.stops c.stop.ensures.turns;
}
