use Rattle.std.proofs.Common.{ap}
use Rattle.io_rules.specs.Legal.{state_of}
use Rattle.io_scheduler.proofs.ComeLemmas.{have_passed}
use Rattle.io_scheduler.proofs.StreamedLemmas.{still_passed, streams_still}
use Rattle.io_scheduler.proofs.scheduler.Scheduler.pass.Goals as goal

pub pass_to-requires : goal.pass_to-requires
pass_to-requires g c = record {
  table = c.requires;
  none = c.self.invariant.0;
  shows = c.self.invariant.1;
  waits = c.self.invariant.3;
  tally = c.self.invariant.2;
}

pub invariant_of-self : goal.invariant_of-self
invariant_of-self g c = (
  c.pass_to.ensures.none,
  c.pass_to.ensures.shows,
  c.pass_to.ensures.tally,
  c.pass_to.ensures.waits,
  streams_still g.H.Handler.marks g.C.Named.limits c.self.inside.streams (state_of g.C.Named.limits c.self.inside.keeper.past) _ c.self.invariant.4
      (still_passed g.H.Handler.marks g.C.Named.limits c.self.inside.timers c.self.inside.keeper.past
      c.self.invariant.1.settled c.self.invariant.3 _ _ c.pass_to.ensures.passed),
)

pub returns : goal.returns
returns g c =
    rw (← c.self.view_is, ← ap (λ n. n.clock) c.self.invariant.1.counts_are)
    (have_passed g.C.Named.limits _ c.self.inside.keeper.past _ c.pass_to.ensures.passed c.pass_to.ensures.over)
