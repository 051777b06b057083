use Rattle.run_overlaps.proofs.UnlockLemmas.{keeps_begin, keeps_unlock}
use Rattle.run_overlaps.proofs.guards.Guards.allow.Goals as goal

pub returns-in-Begin : goal.returns-in-Begin
returns-in-Begin c = λ past watch lists may.
    keeps_begin c.args.self.now c.args.joins.now past c.args.line.now.thread c.in-Begin.op c.in-Begin.size c.in-Begin.code c.args.line.now.does c.in-Begin.is
    (c.allow_begin.ensures past c.args.joins.now c.in-Begin.code c.in-Begin.size watch may)

pub returns-in-Unlock : goal.returns-in-Unlock
returns-in-Unlock c = λ past watch lists may.
    keeps_unlock c.args.self.now c.args.joins.now past c.args.line.now.thread c.in-Unlock.lock c.args.line.now.does c.in-Unlock.is
    (c.allow_unlock.ensures past c.args.joins.now watch lists may)
