use Rattle.std.proofs.Common.{refl, ap, ◌∙◌}
use Rattle.history_rules.specs.Performing.{guard_released}
use Rattle.history_rules.specs.State.{ReactorHalf}
use Rattle.proactor_core.specs.Proactor.{ProactorView}
use Rattle.proactor_core.specs.Room.{IsUntaken}
use Rattle.proactor_core.specs.Tables.{TableState, act_taken, guard_gone}
use Rattle.proactor_core.specs.Works.{with_works}
use Rattle.proactor_core.proofs.FollowingLemmas.{follows}
use Rattle.proactor_core.proofs.TakingLemmas.{act-room, guard-room, tables-turning, taken-step}
use Rattle.proactor_core.proofs.proactor.Proactor.take_release.Goals as goal

pub returns-clause-turning : goal.returns-clause-turning
returns-clause-turning g c =
    let may = rw (← c.self.view_is) at c.requires.may in
    let base : ProactorView g.row.X.Denot = record {
      script = c.self.inside.script.now;
      tables = c.self.inside.tables;
      streams = c.self.inside.streams;
      reactor = c.self.inside.reactor;
    } in
    let s : TableState = base.tables in
    let after : TableState = guard_gone c.args.guard s in
    let un : IsUntaken c.args.a after = record { within = may.untaken.within; untaken = may.untaken.untaken } in
    let room =
    act-room base.script after base.streams c.args.a (guard-room base.script s base.streams c.args.guard may.turning.room) un in
    rw (c.take.ensures, c.release.ensures)
    (tables-turning g.X.Reactor.state g.X.Reactor.told base (act_taken c.args.a after) refl room may.turning)

pub returns-clause-follows : goal.returns-clause-follows
returns-clause-follows g c = λ half at.
    let here = rw (← c.self.view_is) at at in
    let base : ProactorView g.row.X.Denot = record {
      script = c.self.inside.script.now;
      tables = c.self.inside.tables;
      streams = c.self.inside.streams;
      reactor = c.self.inside.reactor;
    } in
    let s : TableState = base.tables in
    let after : TableState = guard_gone c.args.guard s in
    let all = with_works s base.streams half in
    let step =
    (follows base.script s all).release c.args.guard
    ∙ ap (λ (h : ReactorHalf). guard_released c.args.guard h) here.works in
    rw (c.take.ensures, c.release.ensures)
    (taken-step g.X.Reactor.told base after half (guard_released c.args.guard half) c.args.a refl step here)
