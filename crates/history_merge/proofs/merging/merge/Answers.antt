use Rattle.std.proofs.Common.{ap, arith, length, subst, sym}
use Rattle.session_script.specs.WellFormed.{IsWellFormed}
use Rattle.lane_logs.specs.KeptLogs.{logs_in}
use Rattle.history_merge.specs.Ordering.{ArePositioned}
use Rattle.history_merge.specs.Room.{most_merged}
use Rattle.history_merge.proofs.OrderingLemmas.{put_as}
use Rattle.history_merge.proofs.merging.merge.Goals as goal

pub put_together-requires-clause-positioned : goal.put_together-requires-clause-positioned
put_together-requires-clause-positioned g c =
    subst (λ entries. ArePositioned entries c.positions.result) (sym c.entries.ensures)
    (subst (ArePositioned c.args.logs.now.entries) (sym c.positions.ensures)
    (c.logs_are_positioned.ensures g.N.LaneSession.names (logs_in c.args.logs.now) c.requires.logs))

pub put_together-requires-clause-room : goal.put_together-requires-clause-room
put_together-requires-clause-room g c =
    let well = subst IsWellFormed c.requires.script c.scripts_are_well_formed.ensures in
    let fits = c.merged_logs_fit.ensures g.N.LaneSession.names (logs_in c.args.logs.now) well c.requires.logs in
    omega (arith, fits, c.positions.ensures, ap length c.drops.ensures, ap most_merged c.requires.script, c.requires.room)

pub returns-clause-legal : goal.returns-clause-legal
returns-clause-legal g c =
    c.merged_logs_are_legal.ensures g.N.LaneSession.names (logs_in c.args.logs.now) c.put_together.result.events
    (subst IsWellFormed c.requires.script c.scripts_are_well_formed.ensures) c.requires.logs
    (put_as c.entries.ensures c.positions.ensures c.drops.ensures c.put_together.ensures)
