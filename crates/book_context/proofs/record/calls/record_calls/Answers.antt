use Rattle.asio_types.specs.declared.code.Code.TheVariants as code
use Rattle.strand_core.specs.declared.posted.Posted.TheVariants as posted
use Rattle.book_context.proofs.RecordLemmas.{events_fit, one_recorded, ready_fit, requests_fit}
use Rattle.book_context.proofs.record.calls.record_calls.Goals as goal

pub record_one-stopped-requires-clause-spare : goal.record_one-stopped-requires-clause-spare
record_one-stopped-requires-clause-spare c =
    events_fit c.args.script.now c.args.calls.now c.args.history.now c.args.lists.now c.loop-call.call-index
    c.loop-call.history c.loop-call.lists c.loop-call.stopped c.loop-call.invariant (posted.Begin 0 code.Ok 0 0)
    c.loop-call-test.true c.requires.spare

pub record_one-stopped-requires-clause-ready : goal.record_one-stopped-requires-clause-ready
record_one-stopped-requires-clause-ready c =
    ready_fit c.args.script.now c.args.calls.now c.args.history.now c.args.lists.now c.loop-call.call-index
    c.loop-call.history c.loop-call.lists c.loop-call.stopped c.loop-call.invariant (posted.Begin 0 code.Ok 0 0)
    c.loop-call-test.true c.requires.ready

pub record_one-stopped-requires-clause-requests : goal.record_one-stopped-requires-clause-requests
record_one-stopped-requires-clause-requests c =
    requests_fit c.args.script.now c.args.calls.now c.args.history.now c.args.lists.now c.loop-call.call-index
    c.loop-call.history c.loop-call.lists c.loop-call.stopped c.loop-call.invariant (posted.Begin 0 code.Ok 0 0)
    c.loop-call-test.true c.requires.requests

pub loop-call-preserved : goal.loop-call-preserved
loop-call-preserved c =
    one_recorded c.args.script.now c.args.calls.now c.args.history.now c.args.lists.now c.loop-call.call-index
    c.loop-call.history c.loop-call.lists c.loop-call.stopped c.loop-call.invariant (posted.Begin 0 code.Ok 0 0)
    c.loop-call-test.true
    c.record_one-stopped.new.history c.record_one-stopped.new.lists c.record_one-stopped.result
    c.record_one-stopped.ensures.history c.record_one-stopped.ensures.lists c.record_one-stopped.ensures.stops
