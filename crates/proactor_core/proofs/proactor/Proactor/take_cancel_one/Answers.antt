use Rattle.std.proofs.Common.{refl, ap, ◌∙◌, find}
use Rattle.history_rules.specs.Performing.{is_wait_of, one_wait_cancelled}
use Rattle.history_rules.specs.State.{ReactorHalf}
use Rattle.proactor_core.specs.Proactor.{ProactorView}
use Rattle.proactor_core.specs.Room.{IsUntaken}
use Rattle.proactor_core.specs.Tables.{TableState, act_taken, first_cancelled}
use Rattle.proactor_core.specs.Works.{with_works}
use Rattle.proactor_core.proofs.FollowingLemmas.{follows}
use Rattle.proactor_core.proofs.TakingLemmas.{act-room, first-room, tables-turning, taken-step}
use Rattle.proactor_core.proofs.proactor.Proactor.take_cancel_one.Goals as goal

pub returns-clause-turning : goal.returns-clause-turning
returns-clause-turning g c =
    let may = rw (← c.self.view_is) at c.requires.may in
    let base : ProactorView g.row.X.Denot = record {
      script = c.self.inside.script.now;
      tables = c.self.inside.tables;
      streams = c.self.inside.streams;
      reactor = c.self.inside.reactor;
    } in
    let s : TableState = base.tables in
    let after : TableState = first_cancelled c.args.timer s in
    let un : IsUntaken c.args.a after = record { within = may.untaken.within; untaken = may.untaken.untaken } in
    let room =
    act-room base.script after base.streams c.args.a
    (first-room base.script s base.streams (find (is_wait_of c.args.timer) s.waiting.waits) may.turning.room) un in
    rw (c.take.ensures, c.cancel_first.ensures)
    (tables-turning g.X.Reactor.state g.X.Reactor.told base (act_taken c.args.a after) refl room may.turning)

pub returns-clause-follows : goal.returns-clause-follows
returns-clause-follows g c = λ half at.
    let here = rw (← c.self.view_is) at at in
    let base : ProactorView g.row.X.Denot = record {
      script = c.self.inside.script.now;
      tables = c.self.inside.tables;
      streams = c.self.inside.streams;
      reactor = c.self.inside.reactor;
    } in
    let s : TableState = base.tables in
    let after : TableState = first_cancelled c.args.timer s in
    let all = with_works s base.streams half in
    let step =
    (follows base.script s all).cancel_one c.args.timer
    ∙ ap (λ (h : ReactorHalf). one_wait_cancelled (find (is_wait_of c.args.timer) h.waits) h) here.works in
    rw (c.take.ensures, c.cancel_first.ensures) (taken-step g.X.Reactor.told base after half
    (one_wait_cancelled (find (is_wait_of c.args.timer) half.waits) half) c.args.a refl step here)
