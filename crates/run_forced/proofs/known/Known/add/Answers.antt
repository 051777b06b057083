use Rattle.std.proofs.Common.{sym}
use Rattle.run_forced.proofs.KnownLemmas.{add_before}
use Rattle.run_forced.proofs.known.Known.add.Goals as goal

pub returns-in_ok-merge-in-Some : goal.returns-in_ok-merge-in-Some
returns-in_ok-merge-in-Some c = λ run lines later knows forced.
    add_before run lines later c.args.from c.args.self.now c.in-Some.known.now c.args.clock.now c.merge.new.self knows forced
    (sym c.in-Some.ensures.value) c.in_ok-merge-in-Some.ensures
