use Rattle.std.proofs.Common.{◌≡◌, sym, ap, subst, ◌∙◌, arith}
use Rattle.stream_rules.specs.World.{next_point}
use Rattle.history_rules.specs.Settling.{settled}
use Rattle.proactor_core.specs.Proactor.{Follows, ProactorView, point_ahead, tells}
use Rattle.proactor_core.specs.Tables.{TableState}
use Rattle.proactor_core.proofs.FollowsLemmas.{moves-in-turn, next-alike, tells-moved}
use Rattle.proactor_core.proofs.TickLemmas.{all-above, expiries_of, half_moved, least-above, settled-moved, turning-moved}
use Rattle.proactor_core.proofs.proactor.Proactor.tick.Goals as goal

pub advance-requires-clause-ahead : goal.advance-requires-clause-ahead
advance-requires-clause-ahead g c = λ x is.
    let sound = rw (← c.self.view_is) at c.requires.sound in
    let s : TableState = c.self.inside.tables in
    let above = least-above s.time (expiries_of s) (all-above s sound.ahead) x (sym c.next_expiry.ensures ∙ is) in
    let now = sound.turning.step.now in
    omega arith

pub settle-requires : goal.settle-requires
settle-requires g c =
    let sound = rw (← c.self.view_is) at c.requires.sound in
    let base : ProactorView g.row.X.Denot = record {
      script = c.self.inside.script.now;
      tables = c.self.inside.tables;
      streams = c.self.inside.streams;
      reactor = c.self.inside.reactor;
    } in
    let s : TableState = base.tables in
    let limit = ap (λ l. next_point l (g.X.Reactor.state base.reactor).times) c.next_expiry.ensures in
    let to : c.in-Ok.point ≡ point_ahead base.script s =
    c.in-Ok.ensures.answer ∙ limit ∙ ap (next_point _) sound.turning.step.times in
    let step =
    turning-moved g.X.Reactor.state g.X.Reactor.told base c.advance.new.self c.in-Ok.point
    c.scripts_are_well_formed.ensures to c.in-Ok.ensures.moves c.in-Ok.ensures.told_moves sound in
    record { turning = rw c.pass.ensures step }

pub returns-in-Ok-settle-clause-next : goal.returns-in-Ok-settle-clause-next
returns-in-Ok-settle-clause-next g c = λ half is.
    let sound = rw (← c.self.view_is) at c.requires.sound in
    let here = rw (← c.self.view_is) at is in
    let base : ProactorView g.row.X.Denot = record {
      script = c.self.inside.script.now;
      tables = c.self.inside.tables;
      streams = c.self.inside.streams;
      reactor = c.self.inside.reactor;
    } in
    let limit = ap (λ l. next_point l (g.X.Reactor.state base.reactor).times) c.next_expiry.ensures in
    let to : c.in-Ok.point ≡ point_ahead base.script base.tables =
    c.in-Ok.ensures.answer ∙ limit ∙ ap (next_point _) sound.turning.step.times in
    rw (← c.self.view_is) (next-alike g.X.Reactor.told base half here sound.ahead ∙ sym to)

pub returns-in-Ok-settle-clause-follows : goal.returns-in-Ok-settle-clause-follows
returns-in-Ok-settle-clause-follows g c = λ half is.
    let sound = rw (← c.self.view_is) at c.requires.sound in
    let over = rw (← c.self.view_is) at c.requires.nothing_due in
    let here = rw (← c.self.view_is) at is in
    let base : ProactorView g.row.X.Denot = record {
      script = c.self.inside.script.now;
      tables = c.self.inside.tables;
      streams = c.self.inside.streams;
      reactor = c.self.inside.reactor;
    } in
    let limit = ap (λ l. next_point l (g.X.Reactor.state base.reactor).times) c.next_expiry.ensures in
    let to : c.in-Ok.point ≡ point_ahead base.script base.tables =
    c.in-Ok.ensures.answer ∙ limit ∙ ap (next_point _) sound.turning.step.times in
    let telling = tells (g.X.Reactor.told base.reactor) in
    let point = c.in-Ok.point in
    let reactor = c.advance.new.self in
    let there =
    moves-in-turn g.X.Reactor.told base reactor point sound.ahead to over c.in-Ok.ensures.told_moves half here in
    let after = c.in-Ok-settle.ensures.follows (half_moved base.script telling point half) (rw c.pass.ensures there) in
    let same = tells-moved g.X.Reactor.told base reactor point c.in-Ok.ensures.told_moves in
    rw (← c.self.view_is) (subst (Follows g.X.Reactor.told c.settle.new.self)
    (ap (λ t. settled t (half_moved base.script telling point half)) same
    ∙ settled-moved base.script telling point half) after)

pub returns-in-Ok-settle-clause-tells : goal.returns-in-Ok-settle-clause-tells
returns-in-Ok-settle-clause-tells g c =
    let base : ProactorView g.row.X.Denot = record {
      script = c.self.inside.script.now;
      tables = c.self.inside.tables;
      streams = c.self.inside.streams;
      reactor = c.self.inside.reactor;
    } in
    rw (← c.self.view_is) (c.settle.ensures.tells
    ∙ tells-moved g.X.Reactor.told base c.advance.new.self c.in-Ok.point c.in-Ok.ensures.told_moves)

pub returns-in-Err-settle-clause-tells : goal.returns-in-Err-settle-clause-tells
returns-in-Err-settle-clause-tells g c =
    let base : ProactorView g.row.X.Denot = record {
      script = c.self.inside.script.now;
      tables = c.self.inside.tables;
      streams = c.self.inside.streams;
      reactor = c.self.inside.reactor;
    } in
    rw (← c.self.view_is) (c.settle.ensures.tells
    ∙ tells-moved g.X.Reactor.told base c.advance.new.self c.in-Ok.point c.in-Ok.ensures.told_moves)

pub returns-in-Err-settle-clause-to_next : goal.returns-in-Err-settle-clause-to_next
returns-in-Err-settle-clause-to_next g c = λ half is.
    let sound = rw (← c.self.view_is) at c.requires.sound in
    let here = rw (← c.self.view_is) at is in
    let base : ProactorView g.row.X.Denot = record {
      script = c.self.inside.script.now;
      tables = c.self.inside.tables;
      streams = c.self.inside.streams;
      reactor = c.self.inside.reactor;
    } in
    let limit = ap (λ l. next_point l (g.X.Reactor.state base.reactor).times) c.next_expiry.ensures in
    let to : c.in-Ok.point ≡ point_ahead base.script base.tables =
    c.in-Ok.ensures.answer ∙ limit ∙ ap (next_point _) sound.turning.step.times in
    rw (← c.self.view_is) (next-alike g.X.Reactor.told base half here sound.ahead ∙ sym to)
