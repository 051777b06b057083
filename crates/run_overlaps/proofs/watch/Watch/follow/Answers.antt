use Rattle.run_overlaps.proofs.WatchLemmas.{ok_more}
use Rattle.run_overlaps.proofs.watch.Watch.follow.Goals as goal

pub returns-then-is_first : goal.returns-then-is_first
returns-then-is_first c =
    ok_more c.take.result
    (λ _ taken past watch. taken past watch (λ may. c.is_first.ensures past c.args.line.now.thread watch may c.if-is_first.true))
    c.take.ensures
