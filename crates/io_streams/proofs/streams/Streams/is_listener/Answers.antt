use Rattle.std.proofs.Common.{arith, ap, refl, ◌∙◌}
use Rattle.std.proofs.lemmas.List.{get_or_read}
use Rattle.io_rules.specs.State.{StreamState}
use Rattle.io_streams.specs.declared.stream.Stream.{Stream}
use Rattle.io_streams.proofs.CallLemmas.{known, there}
use Rattle.io_streams.proofs.StatesLemmas.{no_stream}
use Rattle.io_streams.proofs.streams.Streams.is_listener.Goals as goal

pub index-requires : goal.index-requires
index-requires g c =
    let within = there _ _ c.self.invariant c.args.name (rw (← c.self.view_is) at c.requires) in
    omega (arith, within)

pub returns : goal.returns
returns g c =
    let within = rw (← c.self.view_is) at c.requires in
    rw (← c.self.view_is)
    (ap (λ (s : Stream). s.listener)
    (get_or_read c.self.inside.streams.items c.args.name.place c.index.result.now
    (there _ _ c.self.invariant c.args.name within) c.index.ensures no_stream)
    ∙ known _ _ c.self.invariant c.args.name within (λ (s : StreamState). s.listener) (λ (s : Stream). s.listener)
    (λ s r w c. refl))
