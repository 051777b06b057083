use Rattle.std.proofs.Common.{length, ◌-◌}
use Rattle.asio_types.specs.Code.{class_of_code}
use Rattle.session_script.specs.Script.{branch_of}
use Rattle.strand_core.proofs.BodyLemmas.{BodyTo}
use Rattle.strand_core.proofs.execution.+run.Given as goal

abbrev pub decreases-run : goal.decreases-run
decreases-run g l = length l.script.now.acts - l.completed.op

abbrev pub invariant-loop-act : goal.invariant-loop-act
invariant-loop-act g l =
    BodyTo l.fn.script g.H.CompletionHandler.marks l.fn.completed.op l.fn.completed.code l.fn.completed.size l.begun
    (branch_of l.fn.script l.fn.completed.op (class_of_code l.fn.completed.code)) l.act-index l.fn.hands l.hands
    (g.P.Poster.made l.fn.poster) (g.P.Poster.made l.poster) (g.P.Poster.takes l.fn.poster)
    (g.P.Poster.takes l.poster)
