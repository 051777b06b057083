use Rattle.std.proofs.Common.{rules}
use Rattle.io_timers.proofs.TournamentLemmas.{none_yet}
use Rattle.io_timers.proofs.tournament.Tournament.make.Goals as goal

pub invariant_of-result : goal.invariant_of-result
invariant_of-result c =
    rw (
      c.in_ok-inner.ensures.items_if_clones_equal (λ y same. search rules),
      c.in_ok-leaves.ensures.items_if_clones_equal (λ y same. search rules),
    )
    (none_yet c.args.leaves c.ranges.leaves.fits)
