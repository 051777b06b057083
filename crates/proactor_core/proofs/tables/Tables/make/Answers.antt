use Rattle.std.proofs.Common.{None, true, false, replicate, refl, ap, ◌∙◌}
use Rattle.proactor_core.specs.Due.{Due}
use Rattle.proactor_core.specs.Tables.{TableState}
use Rattle.proactor_core.proofs.FollowingLemmas.{starts}
use Rattle.proactor_core.proofs.RoomLemmas.{room-first}
use Rattle.proactor_core.proofs.tables.Tables.make.Goals as goal

pub returns-clause-half : goal.returns-clause-half
returns-clause-half c = λ told.
    let made : TableState = record {
      taken = c.in_ok-taken.taken.items;
      accepted = 0;
      time = 0;
      waiting = c.in_ok-waits.waits;
      slots = c.in_ok-slots.slots;
      guards = c.in_ok-guards.guards.items;
      last = false;
      failed = false;
      due = c.in_ok-due.due;
    } in
    starts c.args.script.now told made (c.in_ok-taken.ensures ∙ ap (λ n. replicate n false) c.acts-acts.ensures.count)
    refl refl c.in_ok-waits.ensures.expiries c.in_ok-waits.ensures.waits
    (c.in_ok-slots.ensures ∙ ap (λ n. replicate n None) c.slots.ensures)
    (c.in_ok-guards.ensures ∙ ap (λ n. replicate n true) c.guards.ensures) refl refl
    (ap (λ (d : Due). d.coming) c.in_ok-due.ensures)

pub returns-clause-room : goal.returns-clause-room
returns-clause-room c =
    let made : TableState = record {
      taken = c.in_ok-taken.taken.items;
      accepted = 0;
      time = 0;
      waiting = c.in_ok-waits.waits;
      slots = c.in_ok-slots.slots;
      guards = c.in_ok-guards.guards.items;
      last = false;
      failed = false;
      due = c.in_ok-due.due;
    } in
    let waits = c.in_ok-waits.ensures in
    room-first c.args.script.now made (c.in_ok-taken.ensures ∙ ap (λ n. replicate n false) c.acts-acts.ensures.count)
    refl waits.waits waits.accepted waits.acts waits.expiries waits.rooms
    (ap (λ (d : Due). d.spare) c.in_ok-due.ensures ∙ c.acts-acts.ensures.count)
