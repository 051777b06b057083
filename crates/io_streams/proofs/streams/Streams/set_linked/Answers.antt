use Rattle.std.proofs.Common.{arith, ap, refl, true, ◌∙◌, set}
use Rattle.std.proofs.lemmas.List.{get_or_read}
use Rattle.io_rules.specs.State.{StreamState}
use Rattle.io_streams.specs.declared.stream.Stream.{Stream}
use Rattle.io_streams.proofs.CallLemmas.{there}
use Rattle.io_streams.proofs.KeptLemmas.{as_streams, change_seen}
use Rattle.io_streams.proofs.StatesLemmas.{no_stream}
use Rattle.io_streams.proofs.streams.Streams.set_linked.Goals as goal

pub index_mut-requires : goal.index_mut-requires
index_mut-requires g c =
    let within = there _ _ c.self.invariant c.args.name (rw (← c.self.view_is) at c.requires) in
    omega (arith, within)

pub returns : goal.returns
returns g c =
    let read = get_or_read c.self.inside.streams.items c.args.name.place c.index_mut.result.now
    (there _ _ c.self.invariant c.args.name (rw (← c.self.view_is) at c.requires)) c.index_mut.ensures.value no_stream in
    rw (← c.self.view_is)
    (ap (λ (s : Stream). as_streams (set c.self.inside.streams.items c.args.name.place
    (record s { linked = true })) c.self.inside.queues.queues c.self.inside.queues.room) read
    ∙ change_seen _ _ c.self.invariant (λ (s : StreamState). record s { linked = true })
    (λ (s : Stream). record s { linked = true }) (λ s r w c. refl) c.args.name _)
