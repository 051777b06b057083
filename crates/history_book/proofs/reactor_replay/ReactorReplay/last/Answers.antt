use Rattle.history_rules.specs.Time.{at_last}
use Rattle.history_rules.proofs.PerformingLemmas.{together-ahead}
use Rattle.history_book.proofs.SettledLemmas.{IsSettled-last}
use Rattle.history_book.proofs.reactor_replay.ReactorReplay.last.Goals as goal

pub end-requires : goal.end-requires
end-requires c =
    let works = c.self.inside.works in
    together-ahead (at_last works.told works.half) c.self.invariant.ahead

pub invariant_of-self : goal.invariant_of-self
invariant_of-self c =
    let works = c.self.inside.works in
    rw c.end.ensures (IsSettled-last works.script works.told works.half c.self.invariant)
