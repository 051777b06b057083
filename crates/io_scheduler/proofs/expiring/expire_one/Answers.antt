use Rattle.std.proofs.Common.{arith, ap, refl, ◌∙◌}
use Rattle.std.specs.Prelude.{◌∷◌}
use Rattle.asio_types.specs.declared.code.Code.TheVariants as code
use Rattle.io_rules.specs.declared.event.Event.TheVariants as event
use Rattle.io_names.specs.Tables.{names_of}
use Rattle.io_scheduler.proofs.ExpiredLemmas.{wait_gone, wait_may, wait_number, wait_room, wait_shown, wait_tallied}
use Rattle.io_scheduler.proofs.WaitsLemmas.{fewer_waits}
use Rattle.io_scheduler.proofs.expiring.expire_one.Goals as goal

pub note_expired-requires : goal.note_expired-requires
note_expired-requires g c = record {
  table = c.requires.table;
  outside = record { nobody = refl; no_begin = λ begins. begins };
  may = rw c.learn.ensures.same
      (wait_may g.H.Handler.marks g.C.Named.limits c.args.keeper.now.past c.args.counts.now (names_of c.args.names.now)
      c.args.strands.now.items c.args.jobs.now c.args.timers.now c.args.tally.now c.in-Some.wait
      (rw c.learn.ensures.same at c.learn.ensures.legal) c.requires.shows c.requires.waits c.requires.tally
      c.in-Some.ensures.numbered c.in-Some.ensures.due);
  none = rw c.learn.ensures.same c.requires.none;
}

pub call-requires : goal.call-requires
call-requires g c =
    let less = wait_number g.H.Handler.marks g.C.Named.limits c.args.keeper.now.past c.args.counts.now (names_of c.args.names.now)
    c.args.strands.now.items c.args.jobs.now c.args.timers.now c.args.tally.now c.in-Some.wait
    (rw c.learn.ensures.same at c.learn.ensures.legal) c.requires.shows c.requires.waits c.requires.tally
    c.in-Some.ensures.numbered in
    omega (arith, less)

pub make_ready-requires : goal.make_ready-requires
make_ready-requires g c =
    wait_room g.H.Handler.marks g.C.Named.limits c.args.keeper.now.past c.args.counts.now (names_of c.args.names.now)
    c.args.strands.now.items c.args.jobs.now c.args.timers.now c.args.tally.now c.in-Some.wait
    (rw c.learn.ensures.same at c.learn.ensures.legal) c.requires.shows c.requires.waits c.requires.tally
    c.in-Some.ensures.numbered

pub returns-in-Some-clause-expired : goal.returns-in-Some-clause-expired
returns-in-Some-clause-expired g c = record {
  op = c.in-Some.wait.op;
  may = rw c.learn.ensures.same at c.note_expired.ensures.may;
  is = c.note_expired.ensures.past
      ∙ ap (λ k. event.Done c.in-Some.wait.op code.Ok 0 ∷ k.past) c.learn.ensures.same;
}

pub returns-in-Some-clause-fewer : goal.returns-in-Some-clause-fewer
returns-in-Some-clause-fewer g c =
    rw c.in-Some.ensures.taken
    (fewer_waits c.in-Some.wait.op c.in-Some.wait c.args.timers.now.waits c.requires.waits.rises
    c.in-Some.ensures.numbered)

pub returns-in-Some-clause-shows : goal.returns-in-Some-clause-shows
returns-in-Some-clause-shows g c =
    rw (c.make_ready.ensures.strands, c.make_ready.ensures.jobs, c.note_expired.ensures.past, c.learn.ensures.same)
    (wait_shown g.H.Handler.marks g.C.Named.limits c.args.keeper.now.past c.args.counts.now (names_of c.args.names.now)
    c.args.strands.now.items c.args.jobs.now c.args.timers.now c.args.tally.now c.in-Some.wait
    (rw c.learn.ensures.same at c.learn.ensures.legal) c.requires.shows c.requires.waits c.requires.tally
    c.in-Some.ensures.numbered code.Ok)

pub returns-in-Some-clause-waits : goal.returns-in-Some-clause-waits
returns-in-Some-clause-waits g c =
    rw (c.in-Some.ensures.taken, c.note_expired.ensures.past, c.learn.ensures.same)
    (wait_gone g.H.Handler.marks g.C.Named.limits c.args.keeper.now.past c.args.counts.now (names_of c.args.names.now)
    c.args.strands.now.items c.args.jobs.now c.args.timers.now c.args.tally.now c.in-Some.wait
    (rw c.learn.ensures.same at c.learn.ensures.legal) c.requires.shows c.requires.waits c.requires.tally
    c.in-Some.ensures.numbered code.Ok)

pub returns-in-Some-clause-tally : goal.returns-in-Some-clause-tally
returns-in-Some-clause-tally g c =
    rw (c.call.ensures, c.note_expired.ensures.past, c.learn.ensures.same)
    (wait_tallied g.H.Handler.marks g.C.Named.limits c.args.keeper.now.past c.args.counts.now (names_of c.args.names.now)
    c.args.strands.now.items c.args.jobs.now c.args.timers.now c.args.tally.now c.in-Some.wait
    (rw c.learn.ensures.same at c.learn.ensures.legal) c.requires.shows c.requires.waits c.requires.tally
    c.in-Some.ensures.numbered code.Ok)
