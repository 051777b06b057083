use Rattle.std.proofs.Common.{sym}
use Rattle.run_forced.proofs.KnownLemmas.{mark_before}
use Rattle.run_forced.proofs.known.Known.add_mark.Goals as goal

pub returns-in_ok-merge-in-Some : goal.returns-in_ok-merge-in-Some
returns-in_ok-merge-in-Some c = λ run later spot knows there waits.
    mark_before run later c.args.mark spot c.args.self.now c.in-Some.known.now c.args.clock.now c.merge.new.self knows there waits
    (sym c.in-Some.ensures.value) c.in_ok-merge-in-Some.ensures
