use Rattle.std.proofs.Common.{arith, ap, refl, subst, sym, ◌∙◌}
use Rattle.io_rules.specs.Legal.{state_of}
use Rattle.io_rules.specs.Spares.{MayKeepAll, no_spares}
use Rattle.io_names.specs.Tables.{names_of}
use Rattle.io_scheduler.specs.Counted.{grant_in, left_of}
use Rattle.io_scheduler.proofs.TakenLemmas.{held_begun, held_some, may_begin_taken, none_begins, shows_begun, taken_ready, was_ready}
use Rattle.io_scheduler.proofs.TallyLemmas.{tally_begins, tally_more}
use Rattle.io_scheduler.proofs.StayedLemmas.{length_life, stays_begun, waits_stay}
use Rattle.io_scheduler.proofs.StreamedLemmas.{streams_stay}
use Rattle.io_scheduler.proofs.scheduler.Scheduler.begin.Goals as goal

pub note_begun-requires-clause-may : goal.note_begun-requires-clause-may
note_begun-requires-clause-may g c =
    let shows = c.self.invariant.1 in
    let left = ap left_of shows.counts_are in
    let some = c.numbers_left.ensures in
    let more = c.if-numbers_left-eq0.false in
    may_begin_taken g.H.Handler.marks g.C.Named.limits c.self.inside.counts (names_of c.self.inside.names)
    c.self.inside.strands.items c.take_first.new.strands.items c.self.inside.jobs c.take_first.new.jobs
    (state_of g.C.Named.limits c.self.inside.keeper.past) c.in-Some.field-0.lane c.in-Some.field-0.op
    c.in-Some.field-0.state c.keep_all-spares.result
    (sym (ap (λ n. n.stopped) shows.counts_are) ∙ c.if-self.false) (omega (arith, left, some, more))
    c.in-Some.ensures.taken
    (subst (λ names. MayKeepAll names no_spares c.keep_all-spares.result) shows.names_are c.keep_all-spares.ensures.kept)
    shows

pub give_out-claim-requires-clause-some : goal.give_out-claim-requires-clause-some
give_out-claim-requires-clause-some g c =
    held_some g.H.Handler.marks (state_of g.C.Named.limits c.self.inside.keeper.past) c.in-Some.field-0.lane
    c.in-Some.field-0.op c.keep_all-spares.result _
    (taken_ready g.H.Handler.marks g.C.Named.limits c.self.inside.counts (names_of c.self.inside.names)
    c.self.inside.strands.items c.take_first.new.strands.items c.self.inside.jobs c.take_first.new.jobs
    (state_of g.C.Named.limits c.self.inside.keeper.past) c.in-Some.field-0.lane c.in-Some.field-0.op
    c.in-Some.field-0.state c.in-Some.ensures.taken c.self.invariant.1)
    c.note_begun.ensures.held

pub begin-requires : goal.begin-requires
begin-requires g c =
    let more = tally_more c.self.inside.tally (state_of g.C.Named.limits c.self.inside.keeper.past)
    c.in-Some.field-0.op.number c.keep_all-spares.result c.self.invariant.2 c.note_begun.ensures.may in
    let next = ap (λ n. n.next) c.self.invariant.1.counts_are in
    omega (arith, more, next, c.self.ranges)

pub invariant_of-running : goal.invariant_of-running
invariant_of-running g c =
    rw (c.grant-grant.ensures, ap grant_in c.self.invariant.1.counts_are)
    (held_begun g.H.Handler.marks (state_of g.C.Named.limits c.self.inside.keeper.past) c.in-Some.field-0.lane
    c.in-Some.field-0.op c.keep_all-spares.result _
    (taken_ready g.H.Handler.marks g.C.Named.limits c.self.inside.counts (names_of c.self.inside.names)
    c.self.inside.strands.items c.take_first.new.strands.items c.self.inside.jobs c.take_first.new.jobs
    (state_of g.C.Named.limits c.self.inside.keeper.past) c.in-Some.field-0.lane c.in-Some.field-0.op
    c.in-Some.field-0.state c.in-Some.ensures.taken c.self.invariant.1)
    (c.give_out-claim.ensures.held ∙ c.note_begun.ensures.held))

pub invariant_of-self-in-Some : goal.invariant_of-self-in-Some
invariant_of-self-in-Some g c =
    let shows = c.self.invariant.1 in (
      c.give_out-claim.ensures.none,
      rw (
        c.from.ensures,
        c.grant-grant.ensures,
        ap grant_in shows.counts_are,
        c.keep_all-spares.ensures.names,
        c.give_out-claim.ensures.past,
        c.note_begun.ensures.past,
      )
          (shows_begun g.H.Handler.marks g.C.Named.limits c.self.inside.counts (names_of c.self.inside.names)
          c.self.inside.strands.items c.take_first.new.strands.items c.self.inside.jobs c.take_first.new.jobs
          (state_of g.C.Named.limits c.self.inside.keeper.past) c.in-Some.field-0.lane c.in-Some.field-0.op
          c.in-Some.field-0.state c.keep_all-spares.result c.in-Some.ensures.taken
          (subst (λ names. MayKeepAll names no_spares c.keep_all-spares.result) shows.names_are c.keep_all-spares.ensures.kept)
          shows),
      rw (c.begin.ensures, c.give_out-claim.ensures.past, c.note_begun.ensures.past)
          (tally_begins c.self.inside.tally (state_of g.C.Named.limits c.self.inside.keeper.past)
          c.in-Some.field-0.op.number c.keep_all-spares.result c.self.invariant.2 c.note_begun.ensures.may),
      rw (c.give_out-claim.ensures.past, c.note_begun.ensures.past)
          (waits_stay g.H.Handler.marks g.C.Named.limits c.self.inside.timers (state_of g.C.Named.limits c.self.inside.keeper.past) _ c.self.invariant.3
          (stays_begun (state_of g.C.Named.limits c.self.inside.keeper.past) c.in-Some.field-0.op.number c.keep_all-spares.result
          c.note_begun.ensures.may)),
      rw (c.give_out-claim.ensures.past, c.note_begun.ensures.past)
          (streams_stay g.H.Handler.marks g.C.Named.limits c.self.inside.streams (state_of g.C.Named.limits c.self.inside.keeper.past) _ c.self.invariant.4
          (stays_begun (state_of g.C.Named.limits c.self.inside.keeper.past) c.in-Some.field-0.op.number c.keep_all-spares.result
          c.note_begun.ensures.may) (length_life _ c.keep_all-spares.result.stream (state_of g.C.Named.limits c.self.inside.keeper.past).names.streams)),
    )

pub returns-in-None-clause-none : goal.returns-in-None-clause-none
returns-in-None-clause-none g c =
    rw (← c.self.view_is)
    (none_begins g.H.Handler.marks g.C.Named.limits c.self.inside.counts (names_of c.self.inside.names)
    c.self.inside.strands.items c.self.inside.jobs (state_of g.C.Named.limits c.self.inside.keeper.past)
    c.in-None.ensures.none c.in-None.ensures.idle c.self.invariant.1)

pub returns-in-Some-clause-begun : goal.returns-in-Some-clause-begun
returns-in-Some-clause-begun g c =
    let shows = c.self.invariant.1 in
    rw (← c.self.view_is, c.give_out-claim.ensures.past, c.note_begun.ensures.past)
    (record {
      step = record {
        may = c.note_begun.ensures.may;
        is = refl;
      };
      places =
          (let grant = c.grant-grant.ensures ∙ ap grant_in shows.counts_are in omega (arith, grant));
      held_as = c.give_out-claim.ensures.held ∙ c.note_begun.ensures.held;
      was = was_ready g.H.Handler.marks g.C.Named.limits c.self.inside.counts (names_of c.self.inside.names)
          c.self.inside.strands.items c.take_first.new.strands.items c.self.inside.jobs c.take_first.new.jobs
          (state_of g.C.Named.limits c.self.inside.keeper.past) c.in-Some.field-0.lane c.in-Some.field-0.op
          c.in-Some.field-0.state c.in-Some.ensures.taken shows;
    })
