use Rattle.run_forced.proofs.KnownLemmas.{goes_nowhere, goes_on}
use Rattle.run_forced.proofs.known.Known.go_on.Goals as goal

pub returns-in_default : goal.returns-in_default
returns-in_default c = λ run knows before. goes_nowhere run c.args.place c.args.self.now c.args.clock.now knows before

pub returns : goal.returns
returns c = λ run knows before.
    goes_on run (record { chain = c.in-Some.chain; place = c.args.place }) c.args.self.now c.put-2.new.self c.args.clock.now c.put.new.self
    knows before c.in-Some.ensures c.in_ok-put-2.ensures c.in_ok-put.ensures
