use Rattle.std.proofs.Common.{List, reverse, subst, sym, take, ◌+◌}
use Rattle.run_forced.specs.declared.event.Event.{Event}
use Rattle.run_overlaps.specs.Handing.{HasSeenEvents}
use Rattle.run_overlaps.proofs.HandedLemmas.{events_all, events_legal, events_more}
use Rattle.run_overlaps.proofs.handed.events_of.Goals as goal

pub loop-line-preserved : goal.loop-line-preserved
loop-line-preserved c =
    subst (λ (events : List Event). HasSeenEvents (reverse (take (c.loop-line.line-index + 1) c.args.lines.now)) c.event.new.watch events)
    (sym c.in-Ok.ensures.items)
    (events_more c.args.lines.now c.loop-line.line-index c.line-item.result c.loop-line.watch c.event.new.watch c.loop-line.events.items
    c.in_ok-seen.seen c.loop-line-test.true c.line-item.is c.loop-line.invariant c.in_ok-seen.ensures)

pub returns-clause-events : goal.returns-clause-events
returns-clause-events c =
    events_all c.args.lines.now c.loop-line.line-index c.loop-line.watch c.loop-line.events.items c.loop-line-test.false
    c.loop-line.invariant

pub returns-clause-legal : goal.returns-clause-legal
returns-clause-legal c =
    events_legal c.args.lines.now c.loop-line.line-index c.loop-line.watch c.loop-line.events.items c.loop-line-test.false
    c.loop-line.invariant
