use Rattle.std.proofs.Common.{refl}
use Rattle.io_streams.proofs.ItemLemmas.{item_found, item_kept, item_seen}
use Rattle.io_streams.proofs.LeftLemmas.{there_queued}
use Rattle.io_streams.proofs.streams.Streams.item_mut.Goals as goal

pub get_mut-pending-requires : goal.get_mut-pending-requires
get_mut-pending-requires g c = there_queued _ _ c.self.invariant c.args.place (rw (← c.self.view_is) at c.requires)

pub invariant_of-self-lent : goal.invariant_of-self-lent
invariant_of-self-lent g c = λ w.
    item_kept _ _ c.self.invariant c.args.place c.get_mut-pending.result.now c.get_mut-pending.ensures.value w

pub returns : goal.returns
returns g c =
    rw (← c.self.view_is) (
      (refl, λ w. item_seen _ _ c.self.invariant c.args.place c.get_mut-pending.result.now c.get_mut-pending.ensures.value w _),
      record {
        writes_back = tt;
        value = item_found _ _ c.self.invariant c.args.place c.get_mut-pending.result.now c.get_mut-pending.ensures.value;
      },
    )
