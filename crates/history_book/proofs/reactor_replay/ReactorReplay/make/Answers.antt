use Rattle.history_book.proofs.SettledLemmas.{IsSettled-first}
use Rattle.history_book.proofs.reactor_replay.ReactorReplay.make.Goals as goal

pub invariant_of-result : goal.invariant_of-result
invariant_of-result c =
    rw c.in_ok-works.ensures
    (IsSettled-first c.args.script.now c.args.told (rw c.acts-acts.ensures.count at c.acts-acts.ensures.limit))
