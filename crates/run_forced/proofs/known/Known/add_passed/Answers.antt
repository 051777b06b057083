use Rattle.std.proofs.Common.{sym}
use Rattle.run_forced.proofs.KnownLemmas.{marked_here}
use Rattle.run_forced.proofs.known.Known.add_passed.Goals as goal

pub returns-in_ok-merge-in-Some : goal.returns-in_ok-merge-in-Some
returns-in_ok-merge-in-Some c = λ run mark spot knows there passes.
    marked_here run c.args.place mark spot c.args.self.now c.in-Some.known.now c.args.clock.now c.merge.new.self knows there passes
    (sym c.in-Some.ensures.value) c.in_ok-merge-in-Some.ensures
