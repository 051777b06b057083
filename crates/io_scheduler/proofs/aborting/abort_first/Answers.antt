use Rattle.std.proofs.Common.{arith, ap, refl, ◌∙◌}
use Rattle.std.specs.Prelude.{◌∷◌}
use Rattle.asio_types.specs.declared.code.Code.TheVariants as code
use Rattle.io_rules.specs.declared.event.Event.TheVariants as event
use Rattle.io_rules.specs.Legal.{state_of}
use Rattle.io_names.specs.Tables.{names_of}
use Rattle.io_scheduler.proofs.AbortingLemmas.{abort_first, abort_left, abort_may, abort_number, abort_room, cancelling_over, none_first, none_on, only_left}
use Rattle.io_scheduler.proofs.WaitsLemmas.{fewer_waits}
use Rattle.io_scheduler.proofs.aborting.abort_first.Goals as goal

pub note_aborted-requires : goal.note_aborted-requires
note_aborted-requires g c = record {
  table = c.requires.table;
  outside = record { nobody = refl; no_begin = λ begins. begins };
  may = rw c.learn.ensures.same
      (abort_may g.H.Handler.marks g.C.Named.limits c.args.keeper.now.past c.args.counts.now (names_of c.args.names.now)
      c.args.strands.now.items c.args.jobs.now c.args.timers.now c.args.tally.now c.args.timer c.args.all c.in-Some.wait
      c.requires.cancelling c.in-Some.ensures.numbered c.in-Some.ensures.first);
  none = rw c.learn.ensures.same c.requires.none;
}

pub call-requires : goal.call-requires
call-requires g c =
    let less = abort_number g.H.Handler.marks g.C.Named.limits c.args.keeper.now.past c.args.counts.now (names_of c.args.names.now)
    c.args.strands.now.items c.args.jobs.now c.args.timers.now c.args.tally.now c.args.timer c.args.all c.in-Some.wait
    c.requires.cancelling c.in-Some.ensures.numbered c.in-Some.ensures.first in
    omega (arith, less)

pub make_ready-requires : goal.make_ready-requires
make_ready-requires g c =
    abort_room g.H.Handler.marks g.C.Named.limits c.args.keeper.now.past c.args.counts.now (names_of c.args.names.now)
    c.args.strands.now.items c.args.jobs.now c.args.timers.now c.args.tally.now c.args.timer c.args.all c.in-Some.wait
    c.requires.cancelling c.in-Some.ensures.numbered c.in-Some.ensures.first
    (rw c.learn.ensures.same at c.learn.ensures.legal)

pub returns-in-Some-clause-aborted : goal.returns-in-Some-clause-aborted
returns-in-Some-clause-aborted g c = record {
  op = c.in-Some.wait.op;
  first = rw c.in-Some.ensures.taken (abort_first g.H.Handler.marks g.C.Named.limits c.args.keeper.now.past c.args.counts.now (names_of c.args.names.now)
      c.args.strands.now.items c.args.jobs.now c.args.timers.now c.args.tally.now c.args.timer c.args.all c.in-Some.wait
      c.requires.cancelling c.in-Some.ensures.numbered c.in-Some.ensures.first);
  may = rw c.learn.ensures.same at c.note_aborted.ensures.may;
  is = c.note_aborted.ensures.past
      ∙ ap (λ k. event.Done c.in-Some.wait.op code.Aborted 0 ∷ k.past) c.learn.ensures.same;
}

pub returns-in-Some-clause-cancelling : goal.returns-in-Some-clause-cancelling
returns-in-Some-clause-cancelling g c =
    rw (
      c.make_ready.ensures.strands,
      c.make_ready.ensures.jobs,
      c.in-Some.ensures.taken,
      c.call.ensures,
      c.note_aborted.ensures.past,
      c.learn.ensures.same,
    )
    (abort_left g.H.Handler.marks g.C.Named.limits c.args.keeper.now.past c.args.counts.now (names_of c.args.names.now)
    c.args.strands.now.items c.args.jobs.now c.args.timers.now c.args.tally.now c.args.timer c.args.all c.in-Some.wait
    c.requires.cancelling c.in-Some.ensures.numbered c.in-Some.ensures.first (rw c.learn.ensures.same at c.learn.ensures.legal))

pub returns-in-Some-clause-fewer : goal.returns-in-Some-clause-fewer
returns-in-Some-clause-fewer g c =
    rw c.in-Some.ensures.taken
    (fewer_waits c.in-Some.wait.op c.in-Some.wait c.args.timers.now.waits c.requires.cancelling.waits.rises
    c.in-Some.ensures.numbered)

pub returns-in-Some-clause-only : goal.returns-in-Some-clause-only
returns-in-Some-clause-only g c =
    rw c.in-Some.ensures.taken (only_left c.args.timer c.in-Some.wait.op c.args.timers.now.waits c.requires.only)

pub returns-in-Some-clause-within : goal.returns-in-Some-clause-within
returns-in-Some-clause-within g c = rw c.in-Some.ensures.taken refl

pub returns-in-None-clause-aborted : goal.returns-in-None-clause-aborted
returns-in-None-clause-aborted g c = (
  none_first c.args.all c.args.timer c.args.timers.now.waits c.in-None.ensures.first,
  ap (λ k. k.past) c.learn.ensures.same,
)

pub returns-in-None-clause-cancelling : goal.returns-in-None-clause-cancelling
returns-in-None-clause-cancelling g c =
    rw (c.in-None.ensures.same, c.learn.ensures.same)
    (cancelling_over g.H.Handler.marks g.C.Named.limits c.args.counts.now (names_of c.args.names.now)
    c.args.strands.now.items c.args.jobs.now c.args.timers.now c.args.tally.now c.args.timer c.args.all
    (state_of g.C.Named.limits c.args.keeper.now.past) c.in-None.ensures.first c.requires.cancelling)

pub returns-in-None-clause-none : goal.returns-in-None-clause-none
returns-in-None-clause-none g c =
    rw c.in-None.ensures.same (none_on c.args.timer c.args.timers.now.waits c.in-None.ensures.first)
