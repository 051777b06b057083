use Rattle.history_book.proofs.SettledLemmas.{IsSettled-done}
use Rattle.history_book.proofs.reactor_replay.ReactorReplay.done.Goals as goal

pub invariant_of-self : goal.invariant_of-self
invariant_of-self c =
    let works = c.self.inside.works in
    rw c.done.ensures (IsSettled-done works.script works.half c.args.o c.self.invariant)
