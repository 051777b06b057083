use Rattle.std.proofs.Common.{arith}
use Rattle.stream_rules.specs.Moving.{moved_count}
use Rattle.stream_rules.specs.Serving.{after_writing, Some_of}
use Rattle.stream_rules.proofs.PlayingLemmas.{write-marked}
use Rattle.reactor_script.proofs.OutsideLemmas.{outside-changed}
use Rattle.reactor_script.proofs.stage.Stage.write_some.Goals as goal

pub returns-clause-after_last : goal.returns-clause-after_last
returns-clause-after_last c = λ last.
    let s = c.self.inside in
    let known = rw (← c.self.view_is) at c.requires.known in
    let marked = c.self.invariant.marked (rw (← c.self.view_is) at last) in
    let here = marked c.args.stream c.index_mut-pipe.result.now (omega (arith, c.self.invariant.counted)) in
    rw c.write.ensures.answer (write-marked c.args.bytes.now c.index_mut-pipe.result.now (rw c.index_mut-pipe.ensures.value here))

pub returns-clause-outside : goal.returns-clause-outside
returns-clause-outside c =
    let s = c.self.inside in
    let known = rw (← c.self.view_is) at c.requires.known in
    rw (← c.self.view_is) (outside-changed (after_writing (Some_of c.args.bytes.now) 0 (moved_count c.write.result))
    s.schedule s.pipes.items c.args.stream c.index_mut-pipe.result.now c.write.new.self
    (omega (arith, c.self.invariant.counted)) (rw (← c.index_mut-pipe.ensures.value) c.write.ensures.stream))
