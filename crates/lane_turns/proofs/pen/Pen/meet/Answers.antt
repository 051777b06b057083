use Rattle.std.proofs.Common.{refl}
use Rattle.lane_turns.proofs.pen.Pen.meet.Goals as goal

pub returns : goal.returns
returns c =
    rw (← c.self.view_is) record {
      met = record {
        seat = c.meet.ensures.step;
        steps = c.meet.ensures.own;
        keeps = c.meet.ensures.keeps;
        whole = c.meet.ensures.whole;
        remembers = c.meet.ensures.remembers.0;
        learns = c.meet.ensures.remembers.1;
      };
      log = refl;
      room = refl;
    }
