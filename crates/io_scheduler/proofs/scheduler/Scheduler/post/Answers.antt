use Rattle.std.proofs.Common.{ap, refl, ◌∙◌}
use Rattle.std.specs.Prelude.{◌∷◌, None}
use Rattle.io_rules.specs.declared.event.Event.TheVariants as event
use Rattle.io_rules.specs.declared.request.Gone.TheVariants as gone
use Rattle.io_rules.specs.Legal.{state_of}
use Rattle.io_names.specs.Tables.{names_of}
use Rattle.io_scheduler.specs.Posted.{posting}
use Rattle.io_rules.proofs.TotalLemmas.{same}
use Rattle.io_scheduler.proofs.ToldLemmas.{call_told}
use Rattle.io_scheduler.proofs.PostedLemmas.{may_be_posted, shows_outside}
use Rattle.io_scheduler.proofs.SpaceLemmas.{posted_space}
use Rattle.io_scheduler.proofs.SectionLemmas.{notes_one}
use Rattle.io_scheduler.proofs.TallyLemmas.{tally_posts, tally_room}
use Rattle.io_scheduler.proofs.StayedLemmas.{stays_posted, waits_stay}
use Rattle.io_scheduler.proofs.StreamedLemmas.{streams_stay}
use Rattle.io_scheduler.proofs.scheduler.Scheduler.post.Goals as goal

pub note_posted-section-requires : goal.note_posted-section-requires
note_posted-section-requires g c =
    let shows = c.self.invariant.1 in
    record {
      table = c.requires.table;
      event = refl
          {a = event.Called c.self.inside.counts.next None
          (posting c.args.lane c.args.kind (g.H.Handler.marks c.args.handler)) gone.Nothing};
      may = rw c.learn.ensures.same
          (may_be_posted _ c.self.inside.counts.next c.args.lane c.args.kind _ shows.going
          (ap (λ n. n.next) shows.counts_are) c.requires.posting (rw (← c.self.view_is) at c.requires.may));
      none = rw c.learn.ensures.same c.self.invariant.0;
    }

pub call-requires : goal.call-requires
call-requires g c =
    tally_room c.self.inside.tally (state_of g.C.Named.limits c.self.inside.keeper.past) c.args.lane c.self.invariant.2
    (rw (← c.self.view_is) at c.requires.may)

pub enter-requires : goal.enter-requires
enter-requires g c =
    posted_space g.H.Handler.marks g.C.Named.limits c.self.inside.keeper.past c.self.inside.counts
    (names_of c.self.inside.names) c.self.inside.strands.items c.self.inside.jobs c.args.lane
    (rw c.learn.ensures.same at c.learn.ensures.legal) c.self.invariant.1
    (rw (← c.self.view_is) at c.requires.may)

pub invariant_of-self : goal.invariant_of-self
invariant_of-self g c =
    let shows = c.self.invariant.1 in (
      c.note_posted-section.ensures.none,
      rw (c.enter.ensures.strands, c.enter.ensures.jobs, c.note_posted-section.ensures.past, c.learn.ensures.same)
          (shows_outside g.H.Handler.marks g.C.Named.limits c.self.inside.counts
          (names_of c.self.inside.names) c.self.inside.strands.items c.self.inside.jobs
          (state_of g.C.Named.limits c.self.inside.keeper.past) c.self.inside.counts.next c.args.lane c.args.kind
          c.args.handler (ap (λ n. n.next) shows.counts_are) c.requires.posting
          (rw (← c.self.view_is) at c.requires.may) shows),
      rw (c.call.ensures, c.note_posted-section.ensures.past, c.learn.ensures.same)
          (tally_posts c.self.inside.tally (state_of g.C.Named.limits c.self.inside.keeper.past)
          c.self.inside.counts.next c.args.lane c.args.kind _ c.self.invariant.2 c.requires.posting),
      rw (c.note_posted-section.ensures.past, c.learn.ensures.same)
          (waits_stay g.H.Handler.marks g.C.Named.limits c.self.inside.timers (state_of g.C.Named.limits c.self.inside.keeper.past) _ c.self.invariant.3
          (stays_posted (state_of g.C.Named.limits c.self.inside.keeper.past) c.self.inside.counts.next c.args.lane c.args.kind
          (g.H.Handler.marks c.args.handler) c.requires.posting)),
      rw (c.note_posted-section.ensures.past, c.learn.ensures.same)
          (streams_stay g.H.Handler.marks g.C.Named.limits c.self.inside.streams (state_of g.C.Named.limits c.self.inside.keeper.past) _ c.self.invariant.4
          (stays_posted (state_of g.C.Named.limits c.self.inside.keeper.past) c.self.inside.counts.next c.args.lane c.args.kind
          (g.H.Handler.marks c.args.handler) c.requires.posting) refl),
    )

pub returns-clause-initiated : goal.returns-clause-initiated
returns-clause-initiated g c =
    let shows = c.self.invariant.1 in
    rw (← c.self.view_is)
    (record {
      may = may_be_posted _ c.self.inside.counts.next c.args.lane c.args.kind _ shows.going
          (ap (λ n. n.next) shows.counts_are) c.requires.posting (rw (← c.self.view_is) at c.requires.may);
      is = ap (state_of g.C.Named.limits)
          (c.note_posted-section.ensures.past
          ∙ ap (λ k. event.Called c.self.inside.counts.next None
          (posting c.args.lane c.args.kind (g.H.Handler.marks c.args.handler)) gone.Nothing ∷ k.past)
          c.learn.ensures.same);
    })

pub returns-clause-noted : goal.returns-clause-noted
returns-clause-noted g c =
    rw (← c.self.view_is, c.note_posted-section.ensures.past, c.learn.ensures.same)
    (notes_one g.C.Named.limits (event.Called c.self.inside.counts.next None
    (posting c.args.lane c.args.kind (g.H.Handler.marks c.args.handler)) gone.Nothing) _ _ c.self.inside.keeper.past
    (rw c.learn.ensures.same at c.note_posted-section.ensures.before)
    (rw c.learn.ensures.same at c.note_posted-section.ensures.after))

pub invariant_of-result : goal.invariant_of-result
invariant_of-result g c = record {
  called = call_told _ _ _ _ c.note_posted-section.ensures.after (same c.self.inside.counts.next);
}
