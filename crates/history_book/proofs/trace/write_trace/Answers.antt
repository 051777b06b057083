use Rattle.std.proofs.Common.{Ok, Err, OnErr, ◌∙◌, subst}
use Rattle.asio_types.specs.Sink.{ExtendsByPart}
use Rattle.history_book.specs.Trace.{trace_of, line_of}
use Rattle.history_book.proofs.PiecesLemmas.{extends_by_part_at}
use Rattle.history_book.proofs.trace.write_trace.Goals as goal

pub returns-in_err-write_all-clause-part : goal.returns-in_err-write_all-clause-part
returns-in_err-write_all-clause-part g c =
    let first = g.K.Sink.written c.args.sink.now in
    let third = g.K.Sink.written c.write_all.new.sink in
    let part : ExtendsByPart first (trace_of c.args.history.now.events) third =
    subst (λ events. ExtendsByPart first (trace_of events) third) c.events-events.ensures
    (extends_by_part_at line_of first (g.K.Sink.written c.loop-event.sink) third c.events-events.result.now
    c.loop-event.event-index _ c.as_slice.result.now c.loop-event-test.true
    (c.as_slice.ensures ∙ c.of_event.ensures) c.loop-event.invariant.written c.in_err-write_all.ensures.part) in
    elim c.from_residual.result as (λ r. OnErr r (ExtendsByPart first (trace_of c.args.history.now.events) third)) [
      | Ok x ↦ tt
      | Err e ↦ part
    ]
