use Rattle.std.proofs.Common.{ap, subst, sym, ◌∙◌}
use Rattle.std.specs.Prelude.{Bool, IsSomeAnd, IsTrue, length, ◌↔◌}
use Rattle.run_rules.specs.declared.frame.Frame.{Frame}
use Rattle.run_rules.specs.declared.rule.Rule.{Rule}
use Rattle.run_rules.specs.Against.{StandsAgainstOp, StandsLongest, StopsContext, TellsOfExecution, calls, next_of, settles}
use Rattle.run_rules.specs.Calls.{begins}
use Rattle.run_rules.specs.MayCome.{last_call}
use Rattle.run_rules.specs.Stacks.{first_of, frame, stack}
use Rattle.run_verdict.specs.Doings.{calls_some}
use Rattle.run_verdict.specs.Search.{IsOfWaiting}
use Rattle.run_verdict.proofs.AgainstLemmas.{calls_some_is, longest_here, of_some_is, stops_is}
use Rattle.run_verdict.proofs.against.stands_against_op.Goals as goal

pub returns-in-Returns : goal.returns-in-Returns
returns-in-Returns c = λ level past before judged waits again may.
    subst (λ (r : Rule). IsTrue c.calls_some.result ↔ StandsAgainstOp past c.args.thread c.args.op r before
    c.args.found.now) (sym c.in-Returns.is)
    (let same =
    c.calls_some.ensures
    ∙ ap (calls_some c.args.found.now.does) (c.last_call.ensures past (c.checker.ensures level past judged)) in
    subst (λ (b : Bool). IsTrue b ↔ IsSomeAnd (last_call past (frame past c.args.thread))
    (λ last. IsTrue (calls c.args.found.now.does last))) (sym same)
    (calls_some_is (last_call past (frame past c.args.thread)) c.args.found.now.does))

pub returns-in-Free : goal.returns-in-Free
returns-in-Free c = λ level past before judged waits again may.
    subst (λ (r : Rule). IsTrue c.begins_on_strand.result ↔ StandsAgainstOp past c.args.thread c.args.op r
    before c.args.found.now) (sym c.in-Free.is)
    (c.begins_on_strand.ensures level past before judged
    (subst (λ (r : Rule). IsOfWaiting level past c.args.op r) c.in-Free.is waits) again may)

pub returns-in-First : goal.returns-in-First
returns-in-First c = λ level past before judged waits again may.
    subst (λ (r : Rule). IsTrue c.is_number.result ↔ StandsAgainstOp past c.args.thread c.args.op r before
    c.args.found.now) (sym c.in-First.is)
    (subst (λ (b : Bool). IsTrue b ↔ StandsLongest past c.args.op (length before)) (sym c.is_number.ensures)
    (longest_here past c.args.op c.longest.result (c.longest.ensures past (c.checker-in-First.ensures level past judged)
    (subst (λ (r : Rule). IsOfWaiting level past c.args.op r) c.in-First.is waits)) c.lines.result
    (length before) (c.lines.ensures level before again)))

pub returns-in-Innermost : goal.returns-in-Innermost
returns-in-Innermost c = λ level past before judged waits again may.
    subst (λ (r : Rule). IsTrue c.tells_of_execution.result ↔ StandsAgainstOp past c.args.thread c.args.op r
    before c.args.found.now) (sym c.in-Innermost.is)
    (subst (λ (f : Frame). IsTrue c.tells_of_execution.result ↔ TellsOfExecution f c.args.op c.args.found.now.does)
    (c.frame.ensures past (c.checker-in-Innermost.ensures level past judged)) c.tells_of_execution.ensures)

pub returns-in-Clean : goal.returns-in-Clean
returns-in-Clean c = λ level past before judged waits again may.
    subst (λ (r : Rule). IsTrue c.takes_inside.result ↔ StandsAgainstOp past c.args.thread c.args.op r before
    c.args.found.now) (sym c.in-Clean.is)
    (c.takes_inside.ensures level past before judged again)

pub returns-in-Order : goal.returns-in-Order
returns-in-Order c = λ level past before judged waits again may.
    let asked = subst (λ (r : Rule). IsOfWaiting level past c.args.op r) c.in-Order.is waits in
    subst (λ (r : Rule). IsTrue c.settles_some.result ↔ StandsAgainstOp past c.args.thread c.args.op r before
    c.args.found.now) (sym c.in-Order.is)
    (subst (λ (b : Bool). IsTrue b ↔ IsSomeAnd (next_of past c.args.op) (λ next. IsTrue (settles c.args.found.now.does next)))
    (sym c.settles_some.ensures)
    (of_some_is (settles c.args.found.now.does) c.next_of.result (next_of past c.args.op)
    (c.next_of.ensures level past judged asked)))

pub returns-in-Stopped : goal.returns-in-Stopped
returns-in-Stopped c = λ level past before judged waits again may.
    let asked = subst (λ (r : Rule). IsOfWaiting level past c.args.op r) c.in-Stopped.is waits in
    subst (λ (r : Rule). IsTrue c.is_number-in-Stopped.result ↔ StandsAgainstOp past c.args.thread c.args.op r before
    c.args.found.now) (sym c.in-Stopped.is)
    (subst (λ (b : Bool). IsTrue b ↔ StopsContext past c.args.op (length before)) (sym c.is_number-in-Stopped.ensures)
    (stops_is past c.args.op c.stopped_of.result c.lines-in-Stopped.result (length before)
    (c.stopped_of.ensures level past judged asked) (c.lines-in-Stopped.ensures level before again)))

pub returns-in-Nested : goal.returns-in-Nested
returns-in-Nested c = λ level past before judged waits again may.
    subst (λ (r : Rule). IsTrue c.begins_some.result ↔ StandsAgainstOp past c.args.thread c.args.op r before
    c.args.found.now) (sym c.in-Nested.is)
    (subst (λ (b : Bool). IsTrue b ↔ IsSomeAnd (first_of (stack past c.args.thread))
    (λ innermost. IsTrue (begins c.args.found.now.does innermost))) (sym c.begins_some.ensures)
    (of_some_is (begins c.args.found.now.does) c.innermost.result (first_of (stack past c.args.thread))
    (c.innermost.ensures past (c.checker-in-Nested.ensures level past judged))))
