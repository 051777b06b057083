use Rattle.std.proofs.Common.{ap, arith, set, map, ◌+◌, ◌∙◌}
use Rattle.std.proofs.lemmas.List.{get_or_read}
use Rattle.io_rules.specs.Completing.{search_left}
use Rattle.io_rules.specs.State.{stream_at}
use Rattle.io_queues.specs.Queued.{others}
use Rattle.io_queues.proofs.FoundLemmas.{in-numbered}
use Rattle.io_streams.specs.declared.stream.Stream.{Stream}
use Rattle.io_streams.proofs.KeptLemmas.{as_streams, state_kept}
use Rattle.io_streams.proofs.LeftLemmas.{left_kept, left_seen, op_within, taken_found, taken_there, there_queued}
use Rattle.io_streams.proofs.StatesLemmas.{no_stream}
use Rattle.io_streams.specs.Kept.{states_of}
use Rattle.io_streams.specs.Pending.{op_of}
use Rattle.io_streams.proofs.streams.Streams.take.Goals as goal

pub remove-pending-requires : goal.remove-pending-requires
remove-pending-requires g c = there_queued _ _ c.self.invariant c.args.place (rw (← c.self.view_is) at c.requires)

pub index_mut-requires : goal.index_mut-requires
index_mut-requires g c =
    let within = op_within _ _ c.self.invariant _ (taken_there _ _ c.self.invariant _ _ c.remove-pending.ensures.item) in
    omega (arith, within)

pub invariant_of-self : goal.invariant_of-self
invariant_of-self g c =
    rw c.remove-pending.ensures.removed
    (state_kept _ _
    (left_kept _ _ c.self.invariant _ (taken_there _ _ c.self.invariant _ _ c.remove-pending.ensures.item)) _ _)

pub returns-clause-found : goal.returns-clause-found
returns-clause-found g c =
    rw (← c.self.view_is) (taken_found _ _ c.self.invariant _ _ c.remove-pending.ensures.item)

pub returns-clause-numbered : goal.returns-clause-numbered
returns-clause-numbered g c =
    rw (← c.self.view_is)
    (in-numbered op_of _ _ c.self.invariant.rises (taken_there _ _ c.self.invariant _ _ c.remove-pending.ensures.item))

pub returns-clause-taken : goal.returns-clause-taken
returns-clause-taken g c =
    let there = taken_there _ _ c.self.invariant _ _ c.remove-pending.ensures.item in
    let within = op_within _ _ c.self.invariant _ there in
    let read = get_or_read c.self.inside.streams.items c.remove-pending.result.stream.place c.index_mut.result.now
    within c.index_mut.ensures.value no_stream in
    let found = taken_found _ _ c.self.invariant _ _ c.remove-pending.ensures.item in
    let searched = (rw (← c.self.view_is) at c.searched_behind-searched.ensures) c.remove-pending.result found in
    rw (← c.self.view_is, c.remove-pending.ensures.removed)
    (ap (λ n. as_streams (set c.self.inside.streams.items c.remove-pending.result.stream.place
    (record c.index_mut.result.now { searched = n })) (map (others c.args.place) c.self.inside.queues.queues)
    (c.self.inside.queues.room + 1)) searched
    ∙ ap (λ (s : Stream). as_streams (set c.self.inside.streams.items c.remove-pending.result.stream.place
    (record s {
      searched = (search_left c.remove-pending.result.side c.remove-pending.result.op
          (stream_at (states_of c.self.inside.streams.items c.self.inside.queues.queues) c.remove-pending.result.stream)).searched;
    }))
    (map (others c.args.place) c.self.inside.queues.queues) (c.self.inside.queues.room + 1)) read
    ∙ left_seen _ _ c.self.invariant _ there _)
