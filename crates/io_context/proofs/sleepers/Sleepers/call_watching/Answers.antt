use Rattle.std.proofs.Common.{sym, ◌∙◌}
use Rattle.io_context.proofs.SleepLemmas.{idle_watched, nobody_sleeps, watcher_called}
use Rattle.io_context.proofs.sleepers.Sleepers.call_watching.Goals as goal

pub returns-then-not-is_on : goal.returns-then-not-is_on
returns-then-not-is_on g c = nobody_sleeps _ _ _ c.requires.alone (sym c.is_on.ensures ∙ c.if-not-is_on.true)

pub returns-then-listed : goal.returns-then-listed
returns-then-listed g c = watcher_called _ _ _ c.call_watcher.ensures

pub returns-then-may_begin : goal.returns-then-may_begin
returns-then-may_begin g c = watcher_called _ _ _ c.call_watcher-then-may_begin.ensures

pub returns : goal.returns
returns g c =
    idle_watched _ _ _
    (record {
      none = c.may_begin.ensures c.if-may_begin.false;
      unlisted = c.if-listed.false;
      going = c.requires.going;
    })
    (sym c.is_on.ensures ∙ c.if-not-is_on.false) c.requires.in_time
