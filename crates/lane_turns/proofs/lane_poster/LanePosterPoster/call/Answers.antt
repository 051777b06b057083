use Rattle.std.proofs.Common.{arith}
use Rattle.std.specs.Prelude.{vec_capacity, vec_len}
use Rattle.strand_core.specs.declared.posted.Posted.TheVariants as posted
use Rattle.lane_turns.proofs.PosterLemmas.{posts_on, room_stays, spare_less, takes_later, takes_now}
use Rattle.lane_turns.proofs.lane_poster.LanePosterPoster.call.Goals as goal

pub draw_call-requires-clause-known : goal.draw_call-requires-clause-known
draw_call-requires-clause-known g c = (takes_now _ _ (posted.Call c.args.act) c.self.view_is c.requires).acts.0

pub draw_call-requires-clause-room : goal.draw_call-requires-clause-room
draw_call-requires-clause-room g c = (takes_now _ _ (posted.Call c.args.act) c.self.view_is c.requires).room

pub push_reserved-requires : goal.push_reserved-requires
push_reserved-requires g c = omega (arith, (takes_now _ _ (posted.Call c.args.act) c.self.view_is c.requires).buffer)

pub invariant_of-self : goal.invariant_of-self
invariant_of-self g c =
    record {
      script = c.self.invariant.script;
      map = c.self.invariant.map;
      posting =
          posts_on _ _ _ (posted.Call c.args.act) c.draw_call.new.pen _ _ c.self.invariant.posting
          c.draw_call.ensures c.push_reserved.ensures.items;
      buffer = room_stays _ _ _ c.push_reserved.ensures.capacity c.self.invariant.buffer;
    }

pub returns-clause-rest : goal.returns-clause-rest
returns-clause-rest g c =
    takes_later _ _ (posted.Call c.args.act) c.draw_call.new.pen c.push_reserved.new.self.items _ c.self.view_is
    c.draw_call.ensures
    (spare_less (vec_capacity c.self.inside.made) (vec_len c.self.inside.made) (vec_capacity c.push_reserved.new.self)
    (vec_len c.push_reserved.new.self) c.push_reserved.ensures.capacity c.push_reserved.ensures.len
    (omega (arith, (takes_now _ _ (posted.Call c.args.act) c.self.view_is c.requires).buffer)))
