use Rattle.std.proofs.Common.{◌+◌, ◌<◌, ◌^◌, ℕ, ap, ◌∙◌}
use Rattle.std.specs.Prelude.{Option, None, if◌then◌else◌}
use Rattle.run_check.specs.Following.{spends}
use Rattle.run_check.specs.declared.checker.Checker.{Checker}
use Rattle.run_check.proofs.RuleLemmas.{kept_frame}
use Rattle.run_check.proofs.CountLemmas.{sum_is}
use Rattle.run_check.proofs.StepLemmas.{followed_after}
use Rattle.run_check.proofs.checker.Checker.follow.Goals as goal

pub returns : goal.returns
returns c = λ past after may.
    let new : Checker = record {
      lines = c.in_ok-self.field-0;
      greatest = c.called_after-self.result;
      waiting = c.follow.new.self;
      stacks = c.follow_executions.new.stacks;
      strands = c.follow_executions.new.strands;
      queues = c.spend.new.self;
      entered = c.follow-2.new.self;
      last_calls = c.follow_kept.new.last_calls;
      takings = c.follow_kept.new.takings;
      marks = c.follow_kept.new.marks;
    } in
    followed_after past c.args.line.now c.frame-frame.result c.strand_with-own.result c.to_place-placed.result c.args.self.now
    new after may
    (record {
      lines = sum_is (c.args.self.now.lines + 1 < 2 ^ 64) c.checked_add.result (c.args.self.now.lines + 1) c.in_ok-self.field-0
          c.checked_add.ensures c.in_ok-self.ensures.ok_part;
      called = c.called_after-self.ensures;
      marked = c.in_ok-follow_kept.ensures.marked;
      last_calls = c.in_ok-follow_kept.ensures.calls;
      entered_next = c.in_ok-follow-2.ensures;
      innermost = c.in_ok-follow_executions.ensures.innermost;
      executions = c.in_ok-follow_executions.ensures.executions;
      held = c.in_ok-follow_executions.ensures.held;
      waiting = c.in_ok-follow.ensures;
      ordered = λ ordered can. c.spend.ensures.ordered (c.in_ok-place.ensures.ordered ordered can);
      queued = λ other. c.spend.ensures.spots other ∙ ap
          (λ (s : Option (ℕ × ℕ)). if spends c.args.line.now.does other then None else s) (c.in_ok-place.ensures.spots other);
      counted = c.in_ok-follow_kept.ensures.taken;
    })
    (c.frame-frame.ensures ∙ kept_frame past c.args.self.now after c.args.line.now.thread)
    (c.strand_with-own.ensures past after may)
    c.to_place-placed.ensures
