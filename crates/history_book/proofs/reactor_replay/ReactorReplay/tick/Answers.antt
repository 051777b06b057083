use Rattle.history_book.proofs.SettledLemmas.{IsSettled-tick, together-tick}
use Rattle.history_book.proofs.reactor_replay.ReactorReplay.tick.Goals as goal

pub tick-requires-clause-together : goal.tick-requires-clause-together
tick-requires-clause-together c =
    let works = c.self.inside.works in
    together-tick works.script works.told works.half c.args.now c.self.invariant (rw (← c.self.view_is) at c.requires)

pub invariant_of-self : goal.invariant_of-self
invariant_of-self c =
    let works = c.self.inside.works in
    let formed = rw c.script-script.ensures at c.scripts_are_well_formed.ensures in
    rw c.tick.ensures (IsSettled-tick works.script works.told works.half c.args.now formed c.self.invariant
    (rw (← c.self.view_is) at c.requires))
