use Rattle.std.proofs.Common.{◌≡◌, ap, arith, refl, ◌∙◌}
use Rattle.std.proofs.lemmas.List.{get_or_read}
use Rattle.io_rules.specs.Completing.{search_left}
use Rattle.io_rules.specs.State.{StreamState, stream_at}
use Rattle.io_streams.specs.declared.pending.PendingOp.{PendingOp}
use Rattle.io_streams.specs.declared.stream.Stream.{Stream}
use Rattle.io_streams.proofs.CallLemmas.{known, of_same, searched_behind, searched_connect, searched_first, searched_none, searched_write}
use Rattle.io_streams.proofs.KeptLemmas.{as_many_states}
use Rattle.io_streams.proofs.LeftLemmas.{found_within}
use Rattle.io_streams.proofs.StatesLemmas.{no_stream}
use Rattle.io_streams.proofs.streams.Streams.searched_behind.Goals as goal

pub index-requires : goal.index-requires
index-requires g c =
    let within = found_within _ _ c.self.invariant c.args.place _ (rw (← c.self.view_is) at c.get-pending.ensures) in
    omega (arith, within)

pub first-requires : goal.first-requires
first-requires g c =
    let within = found_within _ _ c.self.invariant c.args.place _ (rw (← c.self.view_is) at c.get-pending.ensures) in
    let many = as_many_states _ _ c.self.invariant in
    rw (← c.self.view_is) (omega (arith, within, many))

pub returns-then-get-pending : goal.returns-then-get-pending
returns-then-get-pending g c =
    let head = c.in-Some.ensures.head c.get.result.now c.get.ensures in
    of_same (λ (op : PendingOp _). 0 ≡ (search_left op.side op.op (stream_at c.args.self.now.streams op.stream)).searched)
    _ c.get-pending.result.now c.get-pending.ensures
    (searched_first c.args.self.now.streams c.get-pending.result.now c.in-Read.is c.get.result.now.op head.first (omega arith))

pub returns-else-get-pending : goal.returns-else-get-pending
returns-else-get-pending g c =
    let within = found_within _ _ c.self.invariant c.args.place _ (rw (← c.self.view_is) at c.get-pending.ensures) in
    let many = as_many_states _ _ c.self.invariant in
    let read : c.index.result.now.searched
    ≡ (stream_at c.args.self.now.streams c.get-pending.result.now.stream).searched =
    rw (← c.self.view_is)
    (ap (λ (s : Stream). s.searched)
    (get_or_read c.self.inside.streams.items c.get-pending.result.now.stream.place c.index.result.now within
    c.index.ensures no_stream)
    ∙ known _ _ c.self.invariant c.get-pending.result.now.stream (omega (arith, within, many))
    (λ (s : StreamState). s.searched) (λ (s : Stream). s.searched) (λ s r w c. refl)) in
    let head = c.in-Some.ensures.head c.get.result.now c.get.ensures in
    of_same (λ (op : PendingOp _). c.index.result.now.searched ≡ (search_left op.side op.op (stream_at c.args.self.now.streams op.stream)).searched)
    _ c.get-pending.result.now c.get-pending.ensures
    (searched_behind c.args.self.now.streams c.get-pending.result.now c.in-Read.is c.get.result.now.op head.first
    (λ is. omega (arith, is)) c.index.result.now.searched read)

pub returns-in-None : goal.returns-in-None
returns-in-None g c =
    let within = found_within _ _ c.self.invariant c.args.place _ (rw (← c.self.view_is) at c.get-pending.ensures) in
    let many = as_many_states _ _ c.self.invariant in
    let read : c.index.result.now.searched
    ≡ (stream_at c.args.self.now.streams c.get-pending.result.now.stream).searched =
    rw (← c.self.view_is)
    (ap (λ (s : Stream). s.searched)
    (get_or_read c.self.inside.streams.items c.get-pending.result.now.stream.place c.index.result.now within
    c.index.ensures no_stream)
    ∙ known _ _ c.self.invariant c.get-pending.result.now.stream (omega (arith, within, many))
    (λ (s : StreamState). s.searched) (λ (s : Stream). s.searched) (λ s r w c. refl)) in
    of_same (λ (op : PendingOp _). c.index.result.now.searched ≡ (search_left op.side op.op (stream_at c.args.self.now.streams op.stream)).searched)
    _ c.get-pending.result.now c.get-pending.ensures
    (searched_none c.args.self.now.streams c.get-pending.result.now c.in-Read.is c.in-None.ensures.none
    c.index.result.now.searched read)

pub returns-in-Write : goal.returns-in-Write
returns-in-Write g c =
    let within = found_within _ _ c.self.invariant c.args.place _ (rw (← c.self.view_is) at c.get-pending.ensures) in
    let many = as_many_states _ _ c.self.invariant in
    let read : c.index.result.now.searched
    ≡ (stream_at c.args.self.now.streams c.get-pending.result.now.stream).searched =
    rw (← c.self.view_is)
    (ap (λ (s : Stream). s.searched)
    (get_or_read c.self.inside.streams.items c.get-pending.result.now.stream.place c.index.result.now within
    c.index.ensures no_stream)
    ∙ known _ _ c.self.invariant c.get-pending.result.now.stream (omega (arith, within, many))
    (λ (s : StreamState). s.searched) (λ (s : Stream). s.searched) (λ s r w c. refl)) in
    of_same (λ (op : PendingOp _). c.index.result.now.searched ≡ (search_left op.side op.op (stream_at c.args.self.now.streams op.stream)).searched)
    _ c.get-pending.result.now c.get-pending.ensures
    (searched_write c.args.self.now.streams c.get-pending.result.now c.in-Write.is c.index.result.now.searched read)

pub returns-in-Connect : goal.returns-in-Connect
returns-in-Connect g c =
    let within = found_within _ _ c.self.invariant c.args.place _ (rw (← c.self.view_is) at c.get-pending.ensures) in
    let many = as_many_states _ _ c.self.invariant in
    let read : c.index.result.now.searched
    ≡ (stream_at c.args.self.now.streams c.get-pending.result.now.stream).searched =
    rw (← c.self.view_is)
    (ap (λ (s : Stream). s.searched)
    (get_or_read c.self.inside.streams.items c.get-pending.result.now.stream.place c.index.result.now within
    c.index.ensures no_stream)
    ∙ known _ _ c.self.invariant c.get-pending.result.now.stream (omega (arith, within, many))
    (λ (s : StreamState). s.searched) (λ (s : Stream). s.searched) (λ s r w c. refl)) in
    of_same (λ (op : PendingOp _). c.index.result.now.searched ≡ (search_left op.side op.op (stream_at c.args.self.now.streams op.stream)).searched)
    _ c.get-pending.result.now c.get-pending.ensures
    (searched_connect c.args.self.now.streams c.get-pending.result.now c.in-Connect.is c.index.result.now.searched read)
