use Rattle.std.proofs.Common.{◌≡◌, ◌+◌, ◌≤◌, length, arith, subst}
use Rattle.run_forced.proofs.FindingLemmas.{all_lines, here_item}
use Rattle.run_forced.proofs.finding.claims_of.Goals as goal

pub loop-at-preserved : goal.loop-at-preserved
loop-at-preserved c =
    record {
      within = omega (arith, c.loop-at-test.true);
      followed = λ run legal are.
          c.in_ok-follow.ensures run legal
          (here_item run c.args.events.now c.loop-at.at c.index-events-at.result are c.loop-at-test.true c.index-events-at.is)
          (c.loop-at.invariant.followed run legal are);
    }

pub returns : goal.returns
returns c = λ run legal are.
    all_lines run c.args.events.now c.loop-at.at c.loop-at.following.claims are c.loop-at.invariant.within c.loop-at-test.false
    (c.loop-at.invariant.followed run legal are).claims

pub loop-at-init : goal.loop-at-init
loop-at-init c = record { within = omega arith; followed = λ run legal are. c.new-following.ensures run }
