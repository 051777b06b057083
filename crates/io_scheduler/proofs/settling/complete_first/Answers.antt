use Rattle.std.proofs.Common.{arith, ap, ◌∙◌}
use Rattle.std.specs.Prelude.{◌∷◌}
use Rattle.io_rules.specs.declared.event.Event.TheVariants as event
use Rattle.io_rules.specs.Legal.{state_of}
use Rattle.io_names.specs.Tables.{names_of}
use Rattle.io_scheduler.proofs.LeftStreamsLemmas.{fewer_streams}
use Rattle.io_scheduler.proofs.SettledLemmas.{done_going, done_may, done_number, done_room, done_serving, found_there, sound}
use Rattle.io_scheduler.proofs.settling.complete_first.Goals as goal

pub take-op-requires : goal.take-op-requires
take-op-requires g c =
    found_there c.args.first.place c.requires.settling.op c.args.streams.now.ops c.requires.settling.found

pub note_done-requires-clause-may : goal.note_done-requires-clause-may
note_done-requires-clause-may g c =
    rw c.learn.ensures.same (done_may g.H.Handler.marks g.C.Named.limits (state_of g.C.Named.limits c.args.keeper.now.past) c.args.counts.now (names_of c.args.names.now)
    c.args.strands.now.items c.args.jobs.now c.args.timers.now c.args.streams.now c.args.tally.now c.args.name c.args.side
    c.args.first.place c.args.first.gets.code c.args.first.gets.size c.take-op.result c.requires.settling c.take-op.ensures.found)

pub ready_op-requires-clause-few : goal.ready_op-requires-clause-few
ready_op-requires-clause-few g c =
    let less = done_number g.H.Handler.marks g.C.Named.limits (state_of g.C.Named.limits c.args.keeper.now.past) c.args.counts.now (names_of c.args.names.now)
    c.args.strands.now.items c.args.jobs.now c.args.timers.now c.args.streams.now c.args.tally.now c.args.name c.args.side
    c.args.first.place c.args.first.gets.code c.args.first.gets.size c.take-op.result c.requires.settling c.take-op.ensures.found in
    omega (arith, less)

pub ready_op-requires-clause-room : goal.ready_op-requires-clause-room
ready_op-requires-clause-room g c =
    done_room g.H.Handler.marks g.C.Named.limits (state_of g.C.Named.limits c.args.keeper.now.past) c.args.counts.now (names_of c.args.names.now)
    c.args.strands.now.items c.args.jobs.now c.args.timers.now c.args.streams.now c.args.tally.now c.args.name c.args.side
    c.args.first.place c.args.first.gets.code c.args.first.gets.size c.take-op.result c.requires.settling c.take-op.ensures.found
    (sound g.C.Named.limits c.args.keeper.now.past
    (rw c.learn.ensures.same at c.learn.ensures.legal) (done_going g.H.Handler.marks g.C.Named.limits
    (state_of g.C.Named.limits c.args.keeper.now.past) c.args.counts.now (names_of c.args.names.now)
    c.args.strands.now.items c.args.jobs.now c.args.timers.now c.args.streams.now c.args.tally.now c.args.name c.args.side
    c.args.first.place c.args.first.gets.code c.args.first.gets.size c.take-op.result c.requires.settling
    c.take-op.ensures.found))

pub returns-clause-settled : goal.returns-clause-settled
returns-clause-settled g c = record {
  ends = record { op = c.take-op.result.op; code = c.args.first.gets.code; size = c.args.first.gets.size };
  may = rw c.learn.ensures.same at c.note_done.ensures.may;
  is = c.note_done.ensures.past
      ∙ ap (λ k. event.Done c.take-op.result.op c.args.first.gets.code c.args.first.gets.size ∷ k.past) c.learn.ensures.same;
}

pub returns-clause-ready : goal.returns-clause-ready
returns-clause-ready g c = record {
  op = c.take-op.result;
  found = c.take-op.ensures.found;
  on_cells = c.ready_op.ensures.strands;
  on_jobs = c.ready_op.ensures.jobs;
}

pub returns-clause-serving : goal.returns-clause-serving
returns-clause-serving g c =
    rw (
      c.ready_op.ensures.strands,
      c.ready_op.ensures.jobs,
      c.take-op.ensures.taken,
      c.ready_op.ensures.tally,
      c.note_done.ensures.past,
      c.learn.ensures.same,
    )
    (done_serving g.H.Handler.marks g.C.Named.limits (state_of g.C.Named.limits c.args.keeper.now.past) c.args.counts.now (names_of c.args.names.now)
    c.args.strands.now.items c.args.jobs.now c.args.timers.now c.args.streams.now c.args.tally.now c.args.name c.args.side
    c.args.first.place c.args.first.gets.code c.args.first.gets.size c.take-op.result c.requires.settling c.take-op.ensures.found
    (sound g.C.Named.limits c.args.keeper.now.past
    (rw c.learn.ensures.same at c.learn.ensures.legal) (done_going g.H.Handler.marks g.C.Named.limits
    (state_of g.C.Named.limits c.args.keeper.now.past) c.args.counts.now (names_of c.args.names.now)
    c.args.strands.now.items c.args.jobs.now c.args.timers.now c.args.streams.now c.args.tally.now c.args.name c.args.side
    c.args.first.place c.args.first.gets.code c.args.first.gets.size c.take-op.result c.requires.settling
    c.take-op.ensures.found)) c.take-op.result.item.buffer c.args.made c.holds.ensures)

pub returns-clause-fewer : goal.returns-clause-fewer
returns-clause-fewer g c =
    rw c.take-op.ensures.taken
    (fewer_streams c.take-op.result.op c.take-op.result c.args.streams.now.ops c.holds.ensures.rises c.take-op.ensures.numbered)
