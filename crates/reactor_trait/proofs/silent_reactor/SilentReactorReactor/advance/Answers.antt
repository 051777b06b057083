use Rattle.reactor_trait.proofs.ReactorLemmas.{state_at-moved}
use Rattle.reactor_trait.proofs.silent_reactor.SilentReactorReactor.advance.Goals as goal

pub returns-in-Time-clause-moves : goal.returns-in-Time-clause-moves
returns-in-Time-clause-moves c =
    let s = c.self.inside in
    let to = c.advance-point in
    let ahead = rw (← c.self.view_is) at c.requires.ahead in
    rw (← c.self.view_is) (state_at-moved s.up s.last s.closed.items c.args.limit c.in-Time.field-0 s.schedule
    to.new.self to.result ahead c.in-Time.is to.ensures.answer to.ensures.time to.ensures.lines)
