use Rattle.std.proofs.Common.{ap, refl, subst, sym, ◌∙◌}
use Rattle.io_context.proofs.SleepLemmas.{busy_sleepers, nobody_sleeps, watcher_called}
use Rattle.io_context.proofs.sleepers.Sleepers.call.Goals as goal

pub returns-then-is_over : goal.returns-then-is_over
returns-then-is_over g c = nobody_sleeps _ _ _ c.call_all.ensures.none c.call_all.ensures.watch

pub returns-then-is_late : goal.returns-then-is_late
returns-then-is_late g c = watcher_called _ _ _ c.call_watcher.ensures

pub returns-then-not-is_quiet : goal.returns-then-not-is_quiet
returns-then-not-is_quiet g c =
    busy_sleepers _ _ _ (sym c.is_quiet.ensures ∙ c.if-not-is_quiet.true) (rw (← c.next_expiry-first.ensures) (c.is_late.ensures c.if-is_late.false))
