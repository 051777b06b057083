use Rattle.std.proofs.Common.{ap, refl, ◌∙◌}
use Rattle.io_rules.specs.Legal.{state_of}
use Rattle.io_scheduler.specs.Tried.{with_kept}
use Rattle.io_scheduler.proofs.TriedLemmas.{begin_kind, begin_may, begin_moved, begin_names, begin_none, begin_streams, begin_tally, out_room}
use Rattle.io_scheduler.proofs.trying.begin.Goals as goal

pub note_tried-requires-clause-may : goal.note_tried-requires-clause-may
note_tried-requires-clause-may g c =
    begin_may g.H.Handler.marks g.C.Named.limits c.args.streams.now
    (state_of g.C.Named.limits c.args.keeper.now.past) c.args.name c.args.side c.args.place c.get-head.result.now
    c.requires.streams c.requires.alive c.requires.triable c.get-head.ensures
    c.in-Some.reserved c.requires.going c.requires.allowed (rw c.requires.names at c.in-Some.ensures.kept)

pub go_out-requires : goal.go_out-requires
go_out-requires g c =
    out_room g.H.Handler.marks g.C.Named.limits c.args.streams.now (state_of g.C.Named.limits c.args.keeper.now.past)
    c.args.tally.now c.requires.streams c.requires.tally

pub returns-in-None-clause-kept : goal.returns-in-None-clause-kept
returns-in-None-clause-kept g c =
    begin_none g.H.Handler.marks g.C.Named.limits c.args.streams.now
    (state_of g.C.Named.limits c.args.keeper.now.past) c.args.name c.args.side c.args.place c.get-head.result.now
    c.requires.streams c.requires.alive c.requires.triable c.get-head.ensures
    (rw c.requires.names at c.in-None.ensures.none)

pub returns-in-Some-clause-tried : goal.returns-in-Some-clause-tried
returns-in-Some-clause-tried g c = record { may = c.note_tried.ensures.may; is = c.note_tried.ensures.past }

pub returns-in-Some-clause-given : goal.returns-in-Some-clause-given
returns-in-Some-clause-given g c = record {
  stream = refl;
  on = refl;
  kind = begin_kind g.H.Handler.marks g.C.Named.limits c.args.streams.now
      (state_of g.C.Named.limits c.args.keeper.now.past) c.args.name c.args.side c.args.place c.get-head.result.now
      c.requires.streams c.requires.alive c.requires.triable c.get-head.ensures;
  moved = begin_moved g.H.Handler.marks g.C.Named.limits c.args.streams.now
      (state_of g.C.Named.limits c.args.keeper.now.past) c.args.name c.args.side c.args.place c.get-head.result.now
      c.requires.streams c.requires.alive c.requires.triable c.get-head.ensures;
}

pub returns-in-Some-clause-names : goal.returns-in-Some-clause-names
returns-in-Some-clause-names g c =
    rw c.note_tried.ensures.past
    (begin_names g.H.Handler.marks g.C.Named.limits c.args.streams.now
    (state_of g.C.Named.limits c.args.keeper.now.past) c.args.name c.args.side c.args.place c.get-head.result.now
    c.requires.streams c.requires.alive c.requires.triable c.get-head.ensures
    c.in-Some.reserved _
    (c.in-Some.ensures.names ∙ ap (with_kept c.get-head.result.now.op c.in-Some.reserved) c.requires.names))

pub returns-in-Some-clause-streams : goal.returns-in-Some-clause-streams
returns-in-Some-clause-streams g c =
    rw (c.lend_buffer-buffer.ensures, c.set_out.ensures, c.note_tried.ensures.past)
    (begin_streams g.H.Handler.marks g.C.Named.limits c.args.streams.now
    (state_of g.C.Named.limits c.args.keeper.now.past) c.args.name c.args.side c.args.place c.get-head.result.now
    c.requires.streams c.requires.alive c.requires.triable c.get-head.ensures
    c.in-Some.reserved c.holds.ensures.apart)

pub returns-in-Some-clause-tally : goal.returns-in-Some-clause-tally
returns-in-Some-clause-tally g c =
    rw (c.go_out.ensures, c.note_tried.ensures.past)
    (begin_tally g.H.Handler.marks g.C.Named.limits c.args.streams.now
    (state_of g.C.Named.limits c.args.keeper.now.past) c.args.name c.args.side c.args.place c.get-head.result.now
    c.requires.streams c.requires.alive c.requires.triable c.get-head.ensures
    c.in-Some.reserved c.args.tally.now c.holds.ensures.apart c.requires.tally)
