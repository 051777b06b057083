use Rattle.std.proofs.Common.{subst, sym, ◌∙◌}
use Rattle.io_context.specs.Sleeping.{IsInTime, first_expiry}
use Rattle.io_context.proofs.SleepLemmas.{idle_watched, one_called}
use Rattle.io_context.proofs.sleepers.Sleepers.call_sleeper.Goals as goal

pub returns-then-listed : goal.returns-then-listed
returns-then-listed g c =
    one_called _ _ _ c.call_one.ensures.called
    (subst (λ w. IsInTime w (first_expiry c.args.scheduler.now)) (sym c.call_one.ensures.watch) c.requires.in_time)

pub returns-then-may_begin : goal.returns-then-may_begin
returns-then-may_begin g c =
    one_called _ _ _ c.call_one-then-may_begin.ensures.called
    (subst (λ w. IsInTime w (first_expiry c.args.scheduler.now)) (sym c.call_one-then-may_begin.ensures.watch) c.requires.in_time)

pub returns-then-is_on : goal.returns-then-is_on
returns-then-is_on g c =
    idle_watched _ _ _
    (record {
      none = c.may_begin.ensures c.if-may_begin.false;
      unlisted = c.if-listed.false;
      going = c.requires.going;
    })
    (sym c.is_on.ensures ∙ c.if-is_on.true) c.requires.in_time

pub returns : goal.returns
returns g c =
    one_called _ _ _ c.call_one-2.ensures.called
    (subst (λ w. IsInTime w (first_expiry c.args.scheduler.now)) (sym c.call_one-2.ensures.watch) c.requires.in_time)
