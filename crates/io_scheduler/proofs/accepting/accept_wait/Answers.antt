use Rattle.std.proofs.Common.{ap, refl, ◌∙◌}
use Rattle.std.specs.Prelude.{◌∷◌, None}
use Rattle.asio_types.specs.declared.code.Code.TheVariants as code
use Rattle.io_rules.specs.declared.event.Event.TheVariants as event
use Rattle.io_rules.specs.declared.request.Gone.TheVariants as gone
use Rattle.io_rules.specs.Legal.{state_of}
use Rattle.io_names.specs.Tables.{names_of}
use Rattle.io_scheduler.specs.Accepted.{waiting_on}
use Rattle.io_rules.proofs.TotalLemmas.{same}
use Rattle.io_scheduler.proofs.ToldLemmas.{call_told}
use Rattle.io_scheduler.proofs.AcceptedLemmas.{may_be_accepted, may_parts, wait_last, wait_pending, wait_shown, wait_some, wait_tied, wait_within}
use Rattle.io_scheduler.proofs.accepting.accept_wait.Goals as goal

pub note_waiting-section-requires : goal.note_waiting-section-requires
note_waiting-section-requires g c =
    let s = state_of g.C.Named.limits c.args.keeper.now.past in
    let shows = c.requires.shows in
    record {
      table = c.requires.table;
      event = refl
          {a = event.Called c.args.counts.now.next None
          (waiting_on c.args.lane c.args.timer (g.H.Handler.marks c.args.handler)) gone.Nothing};
      may = rw c.learn.ensures.same
          (may_be_accepted s c.args.counts.now.next c.args.lane c.args.timer _ shows.going
          (ap (λ n. n.next) shows.counts_are) (may_parts s c.args.lane c.args.timer c.requires.may));
      none = rw c.learn.ensures.same c.requires.none;
    }

pub tie-requires : goal.tie-requires
tie-requires g c =
    wait_tied g.H.Handler.marks g.C.Named.limits c.args.keeper.now.past c.args.counts.now (names_of c.args.names.now)
    c.args.strands.now.items c.args.jobs.now c.args.timers.now c.args.lane c.args.timer c.args.handler
    (rw c.learn.ensures.same at c.learn.ensures.legal) c.requires.shows c.requires.waits
    (may_parts _ c.args.lane c.args.timer c.requires.may)

pub wait-requires : goal.wait-requires
wait-requires g c = record {
  within = wait_within g.H.Handler.marks g.C.Named.limits c.args.keeper.now.past c.args.counts.now
      (names_of c.args.names.now) c.args.strands.now.items c.args.jobs.now c.args.timers.now c.args.lane c.args.timer
      c.args.handler (rw c.learn.ensures.same at c.learn.ensures.legal) c.requires.shows c.requires.waits
      (may_parts _ c.args.lane c.args.timer c.requires.may);
  room = wait_some g.H.Handler.marks g.C.Named.limits c.args.keeper.now.past c.args.counts.now
      (names_of c.args.names.now) c.args.strands.now.items c.args.jobs.now c.args.timers.now c.args.lane c.args.timer
      c.args.handler (rw c.learn.ensures.same at c.learn.ensures.legal) c.requires.shows c.requires.waits
      (may_parts _ c.args.lane c.args.timer c.requires.may);
  last = wait_last g.H.Handler.marks g.C.Named.limits c.args.keeper.now.past c.args.counts.now
      (names_of c.args.names.now) c.args.strands.now.items c.args.jobs.now c.args.timers.now c.args.lane c.args.timer
      c.args.handler (rw c.learn.ensures.same at c.learn.ensures.legal) c.requires.shows c.requires.waits
      (may_parts _ c.args.lane c.args.timer c.requires.may);
}

pub returns-clause-may : goal.returns-clause-may
returns-clause-may g c =
    may_be_accepted (state_of g.C.Named.limits c.args.keeper.now.past) c.args.counts.now.next c.args.lane c.args.timer _
    c.requires.shows.going (ap (λ n. n.next) c.requires.shows.counts_are)
    (may_parts (state_of g.C.Named.limits c.args.keeper.now.past) c.args.lane c.args.timer c.requires.may)

pub returns-clause-past : goal.returns-clause-past
returns-clause-past g c =
    c.note_waiting-section.ensures.past
    ∙ ap (λ k. event.Called c.args.counts.now.next None
    (waiting_on c.args.lane c.args.timer (g.H.Handler.marks c.args.handler)) gone.Nothing ∷ k.past) c.learn.ensures.same

pub returns-clause-shows : goal.returns-clause-shows
returns-clause-shows g c =
    rw (
      c.tie.ensures (record { number = c.args.counts.now.next; code = code.Ok; size = 0; buffer = None; made = None; handler = c.args.handler }),
      c.note_waiting-section.ensures.past,
      c.learn.ensures.same,
    )
    (wait_shown g.H.Handler.marks g.C.Named.limits c.args.keeper.now.past c.args.counts.now (names_of c.args.names.now)
    c.args.strands.now.items c.args.jobs.now c.args.timers.now c.args.lane c.args.timer c.args.handler
    (rw c.learn.ensures.same at c.learn.ensures.legal) c.requires.shows c.requires.waits
    (may_parts _ c.args.lane c.args.timer c.requires.may) _ refl)

pub returns-clause-waits : goal.returns-clause-waits
returns-clause-waits g c =
    rw (c.wait.ensures.accepted, c.note_waiting-section.ensures.past, c.learn.ensures.same)
    (wait_pending g.H.Handler.marks g.C.Named.limits c.args.keeper.now.past c.args.counts.now (names_of c.args.names.now)
    c.args.strands.now.items c.args.jobs.now c.args.timers.now c.args.lane c.args.timer c.args.handler
    (rw c.learn.ensures.same at c.learn.ensures.legal) c.requires.shows c.requires.waits
    (may_parts _ c.args.lane c.args.timer c.requires.may) c.wait.result)

pub returns-clause-before : goal.returns-clause-before
returns-clause-before g c = c.note_waiting-section.ensures.before ∙ ap (λ k. k.past) c.learn.ensures.same

pub returns-clause-after : goal.returns-clause-after
returns-clause-after g c =
    c.note_waiting-section.ensures.after
    ∙ ap (λ k. event.Called c.args.counts.now.next None
    (waiting_on c.args.lane c.args.timer (g.H.Handler.marks c.args.handler)) gone.Nothing ∷ k.past) c.learn.ensures.same

pub invariant_of-result : goal.invariant_of-result
invariant_of-result g c = record {
  called = call_told _ _ _ _ c.note_waiting-section.ensures.after (same c.args.counts.now.next);
}
