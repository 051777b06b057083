use Rattle.std.proofs.Common.{ap}
use Rattle.io_context.specs.declared.sleepers.Sleepers.{Sleepers}
use Rattle.io_context.specs.Sleeping.{watches}
use Rattle.io_context.proofs.SleepLemmas.{nobody_sleeps}
use Rattle.io_context.proofs.shared.Shared.new.Goals as goal

pub invariant_of-result : goal.invariant_of-result
invariant_of-result g c =
    nobody_sleeps c.none.result c.args.scheduler _ (ap (λ (s : Sleepers). s.asleep) c.none.ensures)
    (ap (λ (s : Sleepers). watches s.watch) c.none.ensures)
