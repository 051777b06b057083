use Rattle.std.proofs.Common.{refl}
use Rattle.proactor_core.specs.Proactor.{ProactorView}
use Rattle.proactor_core.proofs.AtLemmas.{follows-told}
use Rattle.proactor_core.proofs.FollowsLemmas.{drained-alike, on-none, over-alike, tells-alike, tells-between}
use Rattle.proactor_core.proofs.SoundLemmas.{after_telling, sound-told}
use Rattle.proactor_core.proofs.proactor.Proactor.next_due.Goals as goal

pub returns-clause-sound : goal.returns-clause-sound
returns-clause-sound g c =
    let sound = rw (← c.self.view_is) at c.requires.sound in
    let told = c.in_ok-done.ensures in
    rw (c.disconnect.ensures, told.others) (sound-told g.X.Reactor.state g.X.Reactor.told _ c.slot_at.result
    c.in_ok-done.done c.next_due.new.self.due told.first told.room sound)

pub returns-clause-allowed : goal.returns-clause-allowed
returns-clause-allowed g c = λ half is.
    let told = c.in_ok-done.ensures in
    let here = rw (← c.self.view_is) at is in
    let base : ProactorView g.row.X.Denot = record {
      script = c.self.inside.script.now;
      tables = c.self.inside.tables;
      streams = c.self.inside.streams;
      reactor = c.self.inside.reactor;
    } in
    rw (← c.self.view_is)
    (tells-alike g.X.Reactor.told base half here c.in_ok-done.done c.next_due.new.self.due.coming told.first)

pub returns-clause-follows : goal.returns-clause-follows
returns-clause-follows g c = λ half is.
    let told = c.in_ok-done.ensures in
    let here = rw (← c.self.view_is) at is in
    let base : ProactorView g.row.X.Denot = record {
      script = c.self.inside.script.now;
      tables = c.self.inside.tables;
      streams = c.self.inside.streams;
      reactor = c.self.inside.reactor;
    } in
    let done = c.in_ok-done.done in
    let due = c.next_due.new.self.due in
    let step =
    tells-between g.X.Reactor.told base (after_telling base c.slot_at.result done.op due) done due.coming told.first
    refl refl
    (λ h at. follows-told g.X.Reactor.told base c.slot_at.result done due h c.slot_at.ensures.slot told.first at) half
    here in
    rw (← c.self.view_is, c.disconnect.ensures, told.others) step

pub returns-in_err-done-clause-over : goal.returns-in_err-done-clause-over
returns-in_err-done-clause-over g c = on-none c.from_residual.result (λ half is.
    let here = rw (← c.self.view_is) at is in
    let base : ProactorView g.row.X.Denot = record {
      script = c.self.inside.script.now;
      tables = c.self.inside.tables;
      streams = c.self.inside.streams;
      reactor = c.self.inside.reactor;
    } in
    over-alike g.X.Reactor.told base half here c.in_err-done.ensures.none)

pub returns-in_err-done-clause-drained : goal.returns-in_err-done-clause-drained
returns-in_err-done-clause-drained g c = on-none c.from_residual.result (λ half is.
    let sound = rw (← c.self.view_is) at c.requires.sound in
    let here = rw (← c.self.view_is) at is in
    let base : ProactorView g.row.X.Denot = record {
      script = c.self.inside.script.now;
      tables = c.self.inside.tables;
      streams = c.self.inside.streams;
      reactor = c.self.inside.reactor;
    } in
    drained-alike g.X.Reactor.told base half here g.X.Reactor.state sound c.in_err-done.ensures.none)
