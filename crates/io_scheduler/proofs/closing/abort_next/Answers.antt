use Rattle.std.proofs.Common.{arith, ap, refl, subst, sym, ◌∙◌}
use Rattle.std.specs.Prelude.{◌∷◌}
use Rattle.asio_types.specs.declared.code.Code.TheVariants as code
use Rattle.io_rules.specs.declared.event.Event.TheVariants as event
use Rattle.io_rules.specs.Legal.{MayHappen, state_of}
use Rattle.io_names.specs.Tables.{names_of}
use Rattle.io_scheduler.proofs.ClosedLemmas.{next_closing, next_cut, next_left, next_may, next_number, next_room}
use Rattle.io_scheduler.proofs.LeftStreamsLemmas.{fewer_streams}
use Rattle.io_scheduler.proofs.OnItLemmas.{none_first}
use Rattle.io_scheduler.proofs.closing.abort_next.Goals as goal

pub cancel_first-requires : goal.cancel_first-requires
cancel_first-requires g c = record { within = c.requires.closing.within; only = c.requires.closing.only }

pub note_done-requires : goal.note_done-requires
note_done-requires g c = record {
  table = c.requires.table;
  outside = record { nobody = refl; no_begin = λ begins. begins };
  may = rw c.learn.ensures.same (next_may g.H.Handler.marks g.C.Named.limits c.args.keeper.now.past c.args.counts.now
      (names_of c.args.names.now) c.args.strands.now.items c.args.jobs.now c.args.timers.now c.args.streams.now
      c.args.tally.now c.args.name c.in-Some.op c.requires.closing c.in-Some.ensures.first c.in-Some.ensures.numbered
      c.holds.ensures);
  none = rw c.learn.ensures.same c.requires.none;
}

pub ready_op-requires : goal.ready_op-requires
ready_op-requires g c =
    let less = next_number g.H.Handler.marks g.C.Named.limits c.args.keeper.now.past c.args.counts.now
    (names_of c.args.names.now) c.args.strands.now.items c.args.jobs.now c.args.timers.now c.args.streams.now
    c.args.tally.now c.args.name c.in-Some.op c.requires.closing c.in-Some.ensures.first c.in-Some.ensures.numbered
    c.holds.ensures in
    record {
      few = omega (arith, less);
      room =
          next_room g.H.Handler.marks g.C.Named.limits c.args.keeper.now.past c.args.counts.now (names_of c.args.names.now)
          c.args.strands.now.items c.args.jobs.now c.args.timers.now c.args.streams.now c.args.tally.now c.args.name
          c.in-Some.op c.requires.closing c.in-Some.ensures.first c.in-Some.ensures.numbered c.holds.ensures
          (rw c.learn.ensures.same at c.learn.ensures.legal);
    }

pub returns-in-Some-clause-aborted : goal.returns-in-Some-clause-aborted
returns-in-Some-clause-aborted g c =
    let cut = next_cut g.H.Handler.marks g.C.Named.limits c.args.keeper.now.past c.args.counts.now
    (names_of c.args.names.now) c.args.strands.now.items c.args.jobs.now c.args.timers.now c.args.streams.now
    c.args.tally.now c.args.name c.in-Some.op c.requires.closing c.in-Some.ensures.first c.in-Some.ensures.numbered
    c.holds.ensures in
    record {
      op = cut.entry;
      first = cut.is
          ∙ ap (λ l. cut.entry ∷ l)
          (sym (next_left g.H.Handler.marks g.C.Named.limits c.args.keeper.now.past c.args.counts.now
          (names_of c.args.names.now) c.args.strands.now.items c.args.jobs.now c.args.timers.now c.args.streams.now
          c.args.tally.now c.args.name c.in-Some.op c.requires.closing c.in-Some.ensures.first c.in-Some.ensures.numbered
          c.holds.ensures)
          ∙ rw c.in-Some.ensures.taken refl);
      may = subst (λ o. MayHappen (state_of g.C.Named.limits c.args.keeper.now.past) (event.Done o.op code.Aborted o.item.moved))
          (sym cut.item) (rw c.learn.ensures.same at c.note_done.ensures.may);
      is = c.note_done.ensures.past
          ∙ ap (λ k. event.Done c.in-Some.op.op code.Aborted c.in-Some.op.item.moved ∷ k.past) c.learn.ensures.same
          ∙ ap (λ o. event.Done o.op code.Aborted o.item.moved ∷ c.args.keeper.now.past) (sym cut.item);
    }

pub returns-in-Some-clause-ready : goal.returns-in-Some-clause-ready
returns-in-Some-clause-ready g c = record {
  op = c.in-Some.op;
  first = c.in-Some.ensures.first;
  on_cells = c.ready_op.ensures.strands;
  on_jobs = c.ready_op.ensures.jobs;
}

pub returns-in-Some-clause-closing : goal.returns-in-Some-clause-closing
returns-in-Some-clause-closing g c =
    rw (
      c.ready_op.ensures.strands,
      c.ready_op.ensures.jobs,
      c.in-Some.ensures.taken,
      c.ready_op.ensures.tally,
      c.note_done.ensures.past,
      c.learn.ensures.same,
    )
    (next_closing g.H.Handler.marks g.C.Named.limits c.args.keeper.now.past c.args.counts.now (names_of c.args.names.now)
    c.args.strands.now.items c.args.jobs.now c.args.timers.now c.args.streams.now c.args.tally.now c.args.name
    c.in-Some.op c.requires.closing c.in-Some.ensures.first c.in-Some.ensures.numbered c.holds.ensures
    (rw c.learn.ensures.same at c.learn.ensures.legal) (rw c.in-Some.ensures.taken at c.holds-in-Some.ensures)
    c.in-Some.op.item.buffer _)

pub returns-in-Some-clause-fewer : goal.returns-in-Some-clause-fewer
returns-in-Some-clause-fewer g c =
    rw c.in-Some.ensures.taken
    (fewer_streams c.in-Some.op.op c.in-Some.op c.args.streams.now.ops c.holds.ensures.rises c.in-Some.ensures.numbered)

pub returns-in-None-clause-aborted : goal.returns-in-None-clause-aborted
returns-in-None-clause-aborted g c = (
  none_first _ c.in-None.ensures.first,
  rw c.in-None.ensures.same (none_first _ c.in-None.ensures.first),
  ap (λ k. k.past) c.learn.ensures.same,
)

pub returns-in-None-clause-closing : goal.returns-in-None-clause-closing
returns-in-None-clause-closing g c = rw (c.in-None.ensures.same, c.learn.ensures.same) c.requires.closing
