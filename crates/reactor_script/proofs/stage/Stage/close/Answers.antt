use Rattle.std.proofs.Common.{arith}
use Rattle.stream_rules.specs.Stream.{closed_stream}
use Rattle.reactor_script.proofs.OutsideLemmas.{outside-changed}
use Rattle.reactor_script.proofs.stage.Stage.close.Goals as goal

pub returns-clause-outside : goal.returns-clause-outside
returns-clause-outside c =
    let s = c.self.inside in
    let known = rw (← c.self.view_is) at c.requires in
    rw (← c.self.view_is) (outside-changed (closed_stream) s.schedule s.pipes.items c.args.stream
    c.index_mut-pipe.result.now c.close.new.self (omega (arith, c.self.invariant.counted))
    (rw (← c.index_mut-pipe.ensures.value) c.close.ensures.stream))
