use Rattle.run_forced.proofs.KnownLemmas.{knows_more}
use Rattle.run_forced.proofs.known.Known.put.Goals as goal

pub returns : goal.returns
returns c = λ run knows before.
    knows_more run c.args.place c.args.self.now c.go_on.new.self c.go_on.new.clock knows (c.in_ok-go_on.ensures run knows before)
    c.insert.new.self c.in_ok-insert.ensures.updates.0
