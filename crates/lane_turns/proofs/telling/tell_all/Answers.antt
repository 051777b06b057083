use Rattle.std.proofs.Common.{◌∙◌, refl}
use Rattle.lane_turns.proofs.DuesLemmas.{told-more, told-none}
use Rattle.lane_turns.proofs.telling.tell_all.Goals as goal

pub loop-init : goal.loop-init
loop-init g c = record {
  turn = c.requires.turn;
  clock = refl;
  reactor = refl;
  told_so_far = told-none g.N.LaneSession.names c.args.pen.now;
}

pub loop-preserved : goal.loop-preserved
loop-preserved g c = record {
  turn = c.tell_next.ensures.turn;
  clock = c.tell_next.ensures.clock ∙ c.loop.invariant.clock;
  reactor = c.tell_next.ensures.reactor ∙ c.loop.invariant.reactor;
  told_so_far =
      told-more g.N.LaneSession.names c.args.pen.now c.loop.pen c.tell_next.new.pen c.loop.invariant.told_so_far
      c.tell_next.ensures.told;
}

pub returns-clause-told : goal.returns-clause-told
returns-clause-told g c =
    told-more g.N.LaneSession.names c.args.pen.now c.loop.pen c.tell_next.new.pen c.loop.invariant.told_so_far
    c.tell_next.ensures.told
