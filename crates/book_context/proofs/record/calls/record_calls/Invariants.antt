use Rattle.book_context.proofs.RecordLemmas.{RecordedTo}
use Rattle.book_context.proofs.record.calls.record_calls.Given as goal

abbrev pub invariant-loop-call : goal.invariant-loop-call
invariant-loop-call l = RecordedTo l.script l.calls l.call-index l.fn.history l.history l.fn.lists l.lists l.stopped
