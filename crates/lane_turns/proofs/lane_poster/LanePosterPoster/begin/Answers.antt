use Rattle.std.proofs.Common.{arith}
use Rattle.std.specs.Prelude.{vec_capacity, vec_len}
use Rattle.strand_core.specs.declared.posted.Posted.TheVariants as posted
use Rattle.lane_turns.proofs.CallLemmas.{begin_called}
use Rattle.lane_turns.proofs.PenLemmas.{may_go_less}
use Rattle.lane_turns.proofs.PosterLemmas.{posts_on, room_stays, spare_less, takes_later, takes_now}
use Rattle.lane_turns.proofs.lane_poster.LanePosterPoster.begin.Goals as goal

pub draw-found-requires-clause-room : goal.draw-found-requires-clause-room
draw-found-requires-clause-room g c =
    may_go_less c.self.inside.pen 1 1 1 0 (takes_now _ _ (posted.Begin c.args.op c.args.code c.args.size 0) c.self.view_is (c.requires 0)).room (omega arith) (omega arith)

pub push_reserved-requires : goal.push_reserved-requires
push_reserved-requires g c = omega (arith, (takes_now _ _ (posted.Begin c.args.op c.args.code c.args.size 0) c.self.view_is (c.requires 0)).buffer)

pub invariant_of-self : goal.invariant_of-self
invariant_of-self g c =
    record {
      script = c.self.invariant.script;
      map = c.self.invariant.map;
      posting =
          posts_on _ _ _ (posted.Begin c.args.op c.args.code c.args.size c.draw-found.result.clock) c.draw-found.new.self _ _ c.self.invariant.posting
          (begin_called c.self.inside.script.now c.args.op c.args.code c.args.size c.draw-found.result c.self.inside.pen c.draw-found.new.self c.draw-found.ensures) c.push_reserved.ensures.items;
      buffer = room_stays _ _ _ c.push_reserved.ensures.capacity c.self.invariant.buffer;
    }

pub returns-clause-rest : goal.returns-clause-rest
returns-clause-rest g c =
    takes_later _ _ (posted.Begin c.args.op c.args.code c.args.size c.draw-found.result.clock) c.draw-found.new.self c.push_reserved.new.self.items _ c.self.view_is
    (begin_called c.self.inside.script.now c.args.op c.args.code c.args.size c.draw-found.result c.self.inside.pen c.draw-found.new.self c.draw-found.ensures)
    (spare_less (vec_capacity c.self.inside.made) (vec_len c.self.inside.made) (vec_capacity c.push_reserved.new.self)
    (vec_len c.push_reserved.new.self) c.push_reserved.ensures.capacity c.push_reserved.ensures.len
    (omega (arith, (takes_now _ _ (posted.Begin c.args.op c.args.code c.args.size 0) c.self.view_is (c.requires 0)).buffer)))
