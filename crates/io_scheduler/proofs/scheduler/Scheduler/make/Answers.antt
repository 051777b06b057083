use Rattle.std.proofs.Common.{ap}
use Rattle.io_scheduler.proofs.FirstLemmas.{shows_first, streams_first, waits_first}
use Rattle.io_scheduler.proofs.TallyLemmas.{tally_first}
use Rattle.io_scheduler.proofs.scheduler.Scheduler.make.Goals as goal

pub invariant_of-result : goal.invariant_of-result
invariant_of-result g c = (
  ap (λ k. k.held) c.requires.new,
  rw (
    c.new.ensures,
    c.in-Ok.ensures,
    c.in-Ok-make_parts.ensures.strands,
    c.in-Ok-make_parts.ensures.jobs,
    ap (λ k. k.past)
        c.requires.new,
    c.requires.limits,
  )
      (shows_first g.H.Handler.marks g.C.Named.limits),
  rw (c.new-in-Ok-make_parts.ensures, ap (λ k. k.past) c.requires.new) (tally_first g.C.Named.limits),
  rw (c.in-Ok-make_parts.ensures.timers, ap (λ k. k.past) c.requires.new, c.requires.limits)
      (waits_first g.H.Handler.marks g.C.Named.limits),
  rw (c.in-Ok-make.ensures, ap (λ k. k.past) c.requires.new, c.requires.limits)
      (streams_first g.H.Handler.marks g.C.Named.limits (rw c.requires.limits at c.hold_few.ensures)),
)
