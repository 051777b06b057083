use Rattle.std.proofs.Common.{refl}
use Rattle.lane_turns.proofs.pen.Pen.join.Goals as goal

pub returns-clause-met : goal.returns-clause-met
returns-clause-met c =
    rw (← c.self.view_is) record {
      met = record {
        seat = c.join.ensures.step;
        steps = c.join.ensures.own;
        keeps = c.join.ensures.keeps;
        whole = c.join.ensures.whole;
        remembers = c.join.ensures.remembers.0;
        learns = c.join.ensures.remembers.1;
      };
      log = refl;
      room = refl;
    }
