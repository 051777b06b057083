use Rattle.std.proofs.Common.{ap, arith, false, refl, sym, true, ◌∙◌}
use Rattle.std.proofs.lemmas.List.{get_or_read}
use Rattle.io_rules.specs.Cancelling.{is_out_for}
use Rattle.io_rules.specs.State.{StreamState}
use Rattle.io_streams.specs.declared.stream.Stream.{Stream}
use Rattle.io_streams.proofs.CallLemmas.{fits, known, queued, there}
use Rattle.io_streams.proofs.CancelLemmas.{untried_out}
use Rattle.io_streams.proofs.StatesLemmas.{no_stream}
use Rattle.io_streams.proofs.streams.Streams.untried_place.Goals as goal

pub queue_of-queue-requires : goal.queue_of-queue-requires
queue_of-queue-requires g c = fits _ _ c.self.invariant c.args.name (rw (← c.self.view_is) at c.requires)

pub index-requires : goal.index-requires
index-requires g c =
    let within = there _ _ c.self.invariant c.args.name (rw (← c.self.view_is) at c.requires) in
    omega (arith, within)

pub second-requires : goal.second-requires
second-requires g c =
    queued _ _ c.self.invariant c.args.name (rw (← c.self.view_is) at c.requires) c.args.side c.queue_of-queue.result
    c.queue_of-queue.ensures

pub first-requires : goal.first-requires
first-requires g c =
    queued _ _ c.self.invariant c.args.name (rw (← c.self.view_is) at c.requires) c.args.side c.queue_of-queue.result
    c.queue_of-queue.ensures

pub returns-then-is_out_for : goal.returns-then-is_out_for
returns-then-is_out_for g c =
    let within = rw (← c.self.view_is) at c.requires in
    let read = ap (λ (s : Stream). s.out) (get_or_read c.self.inside.streams.items c.args.name.place c.index.result.now
    (there _ _ c.self.invariant c.args.name within) c.index.ensures no_stream)
    ∙ known _ _ c.self.invariant c.args.name within (λ (s : StreamState). s.out) (λ (s : Stream). s.out) (λ s r w c. refl) in
    rw (← c.self.view_is)
    (untried_out _ _ c.self.invariant c.args.name c.self.inside.queues.room c.args.side true
    (sym c.if-is_out_for.true ∙ c.is_out_for.ensures ∙ ap (is_out_for c.args.side) read) c.second.result
    (rw c.queue_of-queue.ensures at c.second.ensures))

pub returns-else-is_out_for : goal.returns-else-is_out_for
returns-else-is_out_for g c =
    let within = rw (← c.self.view_is) at c.requires in
    let read = ap (λ (s : Stream). s.out) (get_or_read c.self.inside.streams.items c.args.name.place c.index.result.now
    (there _ _ c.self.invariant c.args.name within) c.index.ensures no_stream)
    ∙ known _ _ c.self.invariant c.args.name within (λ (s : StreamState). s.out) (λ (s : Stream). s.out) (λ s r w c. refl) in
    rw (← c.self.view_is)
    (untried_out _ _ c.self.invariant c.args.name c.self.inside.queues.room c.args.side false
    (sym c.if-is_out_for.false ∙ c.is_out_for.ensures ∙ ap (is_out_for c.args.side) read) c.first.result
    (rw c.queue_of-queue.ensures at c.first.ensures))
