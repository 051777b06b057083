use Rattle.std.proofs.Common.{refl}
use Rattle.run_forced.proofs.EdgeLemmas.{queued_edge}
use Rattle.run_forced.proofs.PastLemmas.{begun_forced}
use Rattle.run_forced.proofs.past.Past.add_turn.Goals as goal

pub returns-then-has_begun : goal.returns-then-has_begun
returns-then-has_begun c = λ run place strand spot followed there takes was before.
    c.in_ok-add.ensures run place place followed.known
    (begun_forced run place strand c.args.op spot c.args.ended.now c.args.ended.now.begin there takes was refl
    (c.has_begun.ensures run place place followed before c.if-has_begun.true)) before

pub returns-in_ok-add-2 : goal.returns-in_ok-add-2
returns-in_ok-add-2 c = λ run place strand spot followed there takes was before.
    c.in_ok-add-2.ensures run place place followed.known
    (queued_edge run place strand c.args.op spot c.args.ended.now c.args.self.now there was takes
    (c.is_queued.ensures run place followed c.if-is_queued.true) followed) before
