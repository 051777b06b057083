use Rattle.history_book.proofs.SettledLemmas.{IsSettled-fault}
use Rattle.history_book.proofs.reactor_replay.ReactorReplay.fault.Goals as goal

pub invariant_of-self : goal.invariant_of-self
invariant_of-self c =
    let works = c.self.inside.works in
    rw c.fault.ensures (IsSettled-fault works.script works.half c.self.invariant)
