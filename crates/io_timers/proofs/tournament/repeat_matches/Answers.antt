use Rattle.std.proofs.Common.{◌<◌, ◌∙◌, arith}
use Rattle.std.proofs.lemmas.List.{length-set}
use Rattle.io_timers.proofs.TournamentLemmas.{played}
use Rattle.io_timers.proofs.tournament.repeat_matches.Goals as goal

pub loop-at-preserved : goal.loop-at-preserved
loop-at-preserved c =
    let long = length-set c.loop-at.inner.items c.loop-at.at c.first_of.result in
    let some : 0 < c.loop-at.at = omega arith in
    record {
      long = long ∙ c.loop-at.invariant.long;
      within = λ more.
          let within = c.loop-at.invariant.within some in omega (arith, within, long);
      others =
          played c.loop-at.inner.items c.args.leaves.now.items c.loop-at.at c.first_of.result some
          (c.loop-at.invariant.within some)
          (rw (← c.node-one.ensures, ← c.node-other.ensures) c.first_of.ensures)
          c.loop-at.invariant.others;
    }
