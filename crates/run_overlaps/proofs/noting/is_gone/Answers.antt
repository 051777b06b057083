use Rattle.std.proofs.Common.{◌∷◌}
use Rattle.run_rules.specs.Stacks.{frame}
use Rattle.run_overlaps.proofs.NotingLemmas.{is_gone_by}
use Rattle.run_overlaps.proofs.noting.is_gone.Goals as goal

pub returns-in-Release : goal.returns-in-Release
returns-in-Release c = λ past watch free.
    is_gone_by (c.args.line.now ∷ past) c.args.line.now.thread c.in-Release.thing (frame (c.args.line.now ∷ past) c.args.line.now.thread)
    c.args.line.now.does c.is_taken_here.result c.in-Release.is (c.is_taken_here.ensures (c.args.line.now ∷ past) watch) free
