use Rattle.std.proofs.Common.{Some, arith}
use Rattle.std.specs.Vec.Iter.{into_iter_items}
use Rattle.lane_turns.specs.LaneValues.{handlers}
use Rattle.lane_context.proofs.SettingOutLemmas.{made_within}
use Rattle.lane_context.proofs.setting_out.lay_handlers.Goals as goal

pub push_reserved-requires : goal.push_reserved-requires
push_reserved-requires g c =
    omega (
      arith,
      made_within (λ baton. handlers (Some baton)) c.args.batons.items c.loop-baton.bench.items
          (into_iter_items c.loop-baton.rest) (into_iter_items c.next.new.self) c.in-Some.baton
          c.in-Some.ensures.items c.loop-baton.invariant.made,
      c.requires.room,
      c.loop-baton.invariant.room,
      c.loop-baton.bench.ok,
    )
