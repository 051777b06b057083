use Rattle.std.proofs.Common.{arith, ap, ◌∙◌}
use Rattle.std.specs.Prelude.{◌∷◌}
use Rattle.io_rules.specs.declared.event.Event.TheVariants as event
use Rattle.io_rules.specs.Legal.{state_of}
use Rattle.io_names.specs.Tables.{names_of}
use Rattle.io_scheduler.proofs.LeftOpLemmas.{left_going, left_idle, left_may, left_number, left_room, left_shown, left_streaming, left_tally, left_waiting, left_within}
use Rattle.io_scheduler.proofs.SettledLemmas.{found_there, sound}
use Rattle.io_scheduler.proofs.closed.complete_left.Goals as goal

pub take-op-requires : goal.take-op-requires
take-op-requires g c =
    found_there c.args.first.place c.requires.leaving.settling.op c.args.streams.now.ops c.requires.leaving.settling.found

pub note_done-requires-clause-may : goal.note_done-requires-clause-may
note_done-requires-clause-may g c =
    rw c.learn.ensures.same
    (left_may g.H.Handler.marks g.C.Named.limits c.args.counts.now (names_of c.args.names.now) c.args.strands.now.items
    c.args.jobs.now c.args.timers.now c.args.streams.now c.args.tally.now c.args.name c.args.side c.args.first.place
    c.args.first.gets.code c.args.first.gets.size (state_of g.C.Named.limits c.args.keeper.now.past) c.requires.leaving
    c.take-op.result c.take-op.ensures.found)

pub ready_op-requires-clause-few : goal.ready_op-requires-clause-few
ready_op-requires-clause-few g c =
    let less = left_number g.H.Handler.marks g.C.Named.limits c.args.counts.now (names_of c.args.names.now) c.args.strands.now.items
    c.args.jobs.now c.args.timers.now c.args.streams.now c.args.tally.now c.args.name c.args.side c.args.first.place
    c.args.first.gets.code c.args.first.gets.size (state_of g.C.Named.limits c.args.keeper.now.past) c.requires.leaving
    c.take-op.result c.take-op.ensures.found in
    omega (arith, less)

pub ready_op-requires-clause-room : goal.ready_op-requires-clause-room
ready_op-requires-clause-room g c =
    left_room g.H.Handler.marks g.C.Named.limits c.args.counts.now (names_of c.args.names.now) c.args.strands.now.items
    c.args.jobs.now c.args.timers.now c.args.streams.now c.args.tally.now c.args.name c.args.side c.args.first.place
    c.args.first.gets.code c.args.first.gets.size (state_of g.C.Named.limits c.args.keeper.now.past) c.requires.leaving
    c.take-op.result c.take-op.ensures.found
    (sound g.C.Named.limits c.args.keeper.now.past (rw c.learn.ensures.same at c.learn.ensures.legal)
    (left_going g.H.Handler.marks g.C.Named.limits c.args.counts.now (names_of c.args.names.now) c.args.strands.now.items
    c.args.jobs.now c.args.timers.now c.args.streams.now c.args.tally.now c.args.name c.args.side c.args.first.place
    c.args.first.gets.code c.args.first.gets.size (state_of g.C.Named.limits c.args.keeper.now.past) c.requires.leaving
    c.take-op.result c.take-op.ensures.found)) c.holds.ensures

pub forget-requires-clause-within : goal.forget-requires-clause-within
forget-requires-clause-within g c =
    rw c.take-op.ensures.taken
    (left_within g.H.Handler.marks g.C.Named.limits c.args.counts.now (names_of c.args.names.now) c.args.strands.now.items
    c.args.jobs.now c.args.timers.now c.args.streams.now c.args.tally.now c.args.name c.args.side c.args.first.place
    c.args.first.gets.code c.args.first.gets.size (state_of g.C.Named.limits c.args.keeper.now.past) c.requires.leaving
    c.take-op.result c.take-op.ensures.found
    (sound g.C.Named.limits c.args.keeper.now.past (rw c.learn.ensures.same at c.learn.ensures.legal)
    (left_going g.H.Handler.marks g.C.Named.limits c.args.counts.now (names_of c.args.names.now) c.args.strands.now.items
    c.args.jobs.now c.args.timers.now c.args.streams.now c.args.tally.now c.args.name c.args.side c.args.first.place
    c.args.first.gets.code c.args.first.gets.size (state_of g.C.Named.limits c.args.keeper.now.past) c.requires.leaving
    c.take-op.result c.take-op.ensures.found)) c.holds.ensures)

pub forget-requires-clause-idle : goal.forget-requires-clause-idle
forget-requires-clause-idle g c =
    rw c.take-op.ensures.taken
    (left_idle g.H.Handler.marks g.C.Named.limits c.args.counts.now (names_of c.args.names.now) c.args.strands.now.items
    c.args.jobs.now c.args.timers.now c.args.streams.now c.args.tally.now c.args.name c.args.side c.args.first.place
    c.args.first.gets.code c.args.first.gets.size (state_of g.C.Named.limits c.args.keeper.now.past) c.requires.leaving
    c.take-op.result c.take-op.ensures.found
    (sound g.C.Named.limits c.args.keeper.now.past (rw c.learn.ensures.same at c.learn.ensures.legal)
    (left_going g.H.Handler.marks g.C.Named.limits c.args.counts.now (names_of c.args.names.now) c.args.strands.now.items
    c.args.jobs.now c.args.timers.now c.args.streams.now c.args.tally.now c.args.name c.args.side c.args.first.place
    c.args.first.gets.code c.args.first.gets.size (state_of g.C.Named.limits c.args.keeper.now.past) c.requires.leaving
    c.take-op.result c.take-op.ensures.found)) c.holds.ensures)

pub free_name-requires : goal.free_name-requires
free_name-requires g c = c.requires.leaving.used

pub returns-clause-settled : goal.returns-clause-settled
returns-clause-settled g c = record {
  ends = record { op = c.take-op.result.op; code = c.args.first.gets.code; size = c.args.first.gets.size };
  may = rw c.learn.ensures.same at c.note_done.ensures.may;
  is = c.note_done.ensures.past
      ∙ ap (λ k. event.Done c.take-op.result.op c.args.first.gets.code c.args.first.gets.size ∷ k.past) c.learn.ensures.same;
}

pub returns-clause-ready : goal.returns-clause-ready
returns-clause-ready g c = record {
  op = c.take-op.result;
  found = c.take-op.ensures.found;
  on_cells = c.ready_op.ensures.strands;
  on_jobs = c.ready_op.ensures.jobs;
}

pub returns-clause-shows : goal.returns-clause-shows
returns-clause-shows g c =
    rw (
      c.free_name.ensures,
      c.ready_op.ensures.strands,
      c.ready_op.ensures.jobs,
      c.note_done.ensures.past,
      c.learn.ensures.same,
    )
    (left_shown g.H.Handler.marks g.C.Named.limits c.args.counts.now (names_of c.args.names.now) c.args.strands.now.items
    c.args.jobs.now c.args.timers.now c.args.streams.now c.args.tally.now c.args.name c.args.side c.args.first.place
    c.args.first.gets.code c.args.first.gets.size (state_of g.C.Named.limits c.args.keeper.now.past) c.requires.leaving
    c.take-op.result c.take-op.ensures.found
    (sound g.C.Named.limits c.args.keeper.now.past (rw c.learn.ensures.same at c.learn.ensures.legal)
    (left_going g.H.Handler.marks g.C.Named.limits c.args.counts.now (names_of c.args.names.now) c.args.strands.now.items
    c.args.jobs.now c.args.timers.now c.args.streams.now c.args.tally.now c.args.name c.args.side c.args.first.place
    c.args.first.gets.code c.args.first.gets.size (state_of g.C.Named.limits c.args.keeper.now.past) c.requires.leaving
    c.take-op.result c.take-op.ensures.found)) c.holds.ensures c.take-op.result.item.buffer c.args.made)

pub returns-clause-waits : goal.returns-clause-waits
returns-clause-waits g c =
    rw (c.note_done.ensures.past, c.learn.ensures.same)
    (left_waiting g.H.Handler.marks g.C.Named.limits c.args.counts.now (names_of c.args.names.now) c.args.strands.now.items
    c.args.jobs.now c.args.timers.now c.args.streams.now c.args.tally.now c.args.name c.args.side c.args.first.place
    c.args.first.gets.code c.args.first.gets.size (state_of g.C.Named.limits c.args.keeper.now.past) c.requires.leaving
    c.take-op.result c.take-op.ensures.found
    (sound g.C.Named.limits c.args.keeper.now.past (rw c.learn.ensures.same at c.learn.ensures.legal)
    (left_going g.H.Handler.marks g.C.Named.limits c.args.counts.now (names_of c.args.names.now) c.args.strands.now.items
    c.args.jobs.now c.args.timers.now c.args.streams.now c.args.tally.now c.args.name c.args.side c.args.first.place
    c.args.first.gets.code c.args.first.gets.size (state_of g.C.Named.limits c.args.keeper.now.past) c.requires.leaving
    c.take-op.result c.take-op.ensures.found)) c.holds.ensures c.take-op.result.item.buffer c.args.made)

pub returns-clause-tally : goal.returns-clause-tally
returns-clause-tally g c =
    rw (c.ready_op.ensures.tally, c.note_done.ensures.past, c.learn.ensures.same)
    (left_tally g.H.Handler.marks g.C.Named.limits c.args.counts.now (names_of c.args.names.now) c.args.strands.now.items
    c.args.jobs.now c.args.timers.now c.args.streams.now c.args.tally.now c.args.name c.args.side c.args.first.place
    c.args.first.gets.code c.args.first.gets.size (state_of g.C.Named.limits c.args.keeper.now.past) c.requires.leaving
    c.take-op.result c.take-op.ensures.found
    (sound g.C.Named.limits c.args.keeper.now.past (rw c.learn.ensures.same at c.learn.ensures.legal)
    (left_going g.H.Handler.marks g.C.Named.limits c.args.counts.now (names_of c.args.names.now) c.args.strands.now.items
    c.args.jobs.now c.args.timers.now c.args.streams.now c.args.tally.now c.args.name c.args.side c.args.first.place
    c.args.first.gets.code c.args.first.gets.size (state_of g.C.Named.limits c.args.keeper.now.past) c.requires.leaving
    c.take-op.result c.take-op.ensures.found)) c.holds.ensures c.take-op.result.item.buffer c.args.made)

pub returns-clause-streams : goal.returns-clause-streams
returns-clause-streams g c =
    rw (c.forget.ensures, c.take-op.ensures.taken, c.note_done.ensures.past, c.learn.ensures.same)
    (left_streaming g.H.Handler.marks g.C.Named.limits c.args.counts.now (names_of c.args.names.now) c.args.strands.now.items
    c.args.jobs.now c.args.timers.now c.args.streams.now c.args.tally.now c.args.name c.args.side c.args.first.place
    c.args.first.gets.code c.args.first.gets.size (state_of g.C.Named.limits c.args.keeper.now.past) c.requires.leaving
    c.take-op.result c.take-op.ensures.found
    (sound g.C.Named.limits c.args.keeper.now.past (rw c.learn.ensures.same at c.learn.ensures.legal)
    (left_going g.H.Handler.marks g.C.Named.limits c.args.counts.now (names_of c.args.names.now) c.args.strands.now.items
    c.args.jobs.now c.args.timers.now c.args.streams.now c.args.tally.now c.args.name c.args.side c.args.first.place
    c.args.first.gets.code c.args.first.gets.size (state_of g.C.Named.limits c.args.keeper.now.past) c.requires.leaving
    c.take-op.result c.take-op.ensures.found)) c.holds.ensures c.take-op.result.item.buffer c.args.made)
