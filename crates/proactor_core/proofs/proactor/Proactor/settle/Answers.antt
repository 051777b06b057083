use Rattle.std.proofs.Common.{length, refl, sym, ap, subst, ◌∙◌, arith}
use Rattle.proactor_core.specs.Due.{Due}
use Rattle.proactor_core.specs.Proactor.{Follows, IsSound, ProactorView, tells}
use Rattle.history_rules.specs.Settling.{settled}
use Rattle.proactor_core.specs.Streams.{AreServedBelow}
use Rattle.proactor_core.specs.Tables.{TableState}
use Rattle.proactor_core.proofs.FollowsLemmas.{settles-in-turn}
use Rattle.proactor_core.proofs.SettleLemmas.{after_serving, all-under-way, serving-spare, settles-following, settles-soundly, settles-untold}
use Rattle.proactor_core.proofs.proactor.Proactor.settle.Goals as goal

pub serve_all-requires-clause-spare : goal.serve_all-requires-clause-spare
serve_all-requires-clause-spare g c =
    let turning = rw (← c.self.view_is) at c.requires.turning in
    let room = serving-spare c.self.inside.script.now c.self.inside.tables c.self.inside.streams turning.room in
    let spare = ap (λ (s : TableState). s.due.spare) (c.tables.view_is ∙ c.complete_waits.ensures) in
    omega arith

pub returns-in-Ok-clause-sound : goal.returns-in-Ok-clause-sound
returns-in-Ok-clause-sound g c =
    let turning = rw (← c.self.view_is) at c.requires.turning in
    let same = c.tables.view_is ∙ c.complete_waits.ensures in
    let base : ProactorView g.row.X.Denot = record {
      script = c.self.inside.script.now;
      tables = c.self.inside.tables;
      streams = c.self.inside.streams;
      reactor = c.self.inside.reactor;
    } in
    let new = c.serve_all.new.self in
    let reactor = c.serve_all.new.reactor in
    let later = c.serve_all.new.due in
    let last = (g.X.Reactor.state base.reactor).last in
    let served =
    subst
    (λ (due : Due).
    AreServedBelow last (length base.streams) base.streams new (g.X.Reactor.told base.reactor)
    (g.X.Reactor.told reactor) due later) (ap (λ (s : TableState). s.due) same) c.in-Ok.ensures.served in
    subst
    (λ (s : TableState).
    IsSound g.X.Reactor.state g.X.Reactor.told
    (record base { tables = record s { due = later }; streams = new; reactor = reactor })) (sym same)
    (settles-soundly g.X.Reactor.state g.X.Reactor.told base new reactor later last served refl
    c.serve_all.ensures.keeps turning)

pub returns-in-Ok-clause-follows : goal.returns-in-Ok-clause-follows
returns-in-Ok-clause-follows g c = λ half at.
    let here = rw (← c.self.view_is) at at in
    let same = c.tables.view_is ∙ c.complete_waits.ensures in
    let base : ProactorView g.row.X.Denot = record {
      script = c.self.inside.script.now;
      tables = c.self.inside.tables;
      streams = c.self.inside.streams;
      reactor = c.self.inside.reactor;
    } in
    let new = c.serve_all.new.self in
    let reactor = c.serve_all.new.reactor in
    let later = c.serve_all.new.due in
    let last = (g.X.Reactor.state base.reactor).last in
    let served =
    subst
    (λ (due : Due).
    AreServedBelow last (length base.streams) base.streams new (g.X.Reactor.told base.reactor)
    (g.X.Reactor.told reactor) due later) (ap (λ (s : TableState). s.due) same) c.in-Ok.ensures.served in
    let step =
    settles-in-turn g.X.Reactor.told base (after_serving base new reactor later) c.serve_all.ensures.tells
    (settles-following g.X.Reactor.state g.X.Reactor.told base new reactor later last served)
    (λ h telling un.
    settles-untold g.X.Reactor.state g.X.Reactor.told base new reactor later last served h telling
    (all-under-way new c.in-Ok.ensures.under_way) un) half here in
    rw (← c.self.view_is) (subst
    (λ (s : TableState).
    Follows g.X.Reactor.told (record base { tables = record s { due = later }; streams = new; reactor = reactor })
    (settled (tells (g.X.Reactor.told base.reactor)) half)) (sym same) step)
