use Rattle.std.proofs.Common.{ap, subst, sym}
use Rattle.run_lines.specs.declared.line.Doing.TheVariants as doing
use Rattle.run_rules.specs.Stacks.{first_of, stack}
use Rattle.run_rules.specs.Strict.{Ready, dropped_last, stopped_since}
use Rattle.run_check.specs.Judging.{Judged}
use Rattle.run_check.specs.Ready.{lined_at}
use Rattle.run_check.specs.Strict.{JudgesStrictly}
use Rattle.run_check.proofs.RuleLemmas.{says_strand, waiter_says}
use Rattle.run_check.proofs.StrictLemmas.{allowed_iff, alone_iff, begin_judges, next_iff, ready_iff, test_is, test_none, through}
use Rattle.run_check.proofs.strict.Strict.may_start.Goals as goal

pub returns : goal.returns
returns c = λ past what size after strict found.
    let waiter = c.args.waiter.now in
    let op = c.args.op in
    subst (λ (a : Judged). JudgesStrictly past c.args.thread (doing.Begin op what size) a) (sym c.judge_begin.ensures)
    (begin_judges past c.args.thread op what size c.is_some-ready.result c.is_next-next.result c.is_none-allowed.result
    c.is_none-alone.result c.is_none.result
    (test_is c.is_some-ready.result c.is_some-ready.ensures (ready_iff past op waiter found))
    (test_is c.is_next-next.result c.is_next-next.ensures
    (next_iff past op waiter.strand (λ s. first_of (lined_at c.args.self.now.ready s).queue)
    (says_strand past op waiter (waiter_says past op waiter found))
    (λ s. ap (λ (r : Ready). first_of r.queue) (strict.ready s))))
    (allowed_iff past op waiter found c.is_none-allowed.result
    (through c.stopped_since.result (stopped_since past waiter.context) c.is_none-allowed.result
    (c.stopped_since.ensures past strict)
    (test_none c.stopped_since.result c.is_none-allowed.result c.is_none-allowed.ensures)))
    (alone_iff (stack past c.args.thread) c.is_none-alone.result
    (through c.innermost.result (first_of (stack past c.args.thread)) c.is_none-alone.result (c.innermost.ensures past after)
    (test_none c.innermost.result c.is_none-alone.result c.is_none-alone.ensures)))
    (through c.args.self.now.dropped (dropped_last past) c.is_none.result strict.dropped
    (test_none c.args.self.now.dropped c.is_none.result c.is_none.ensures)))
