use Rattle.std.proofs.Common.{sym, ◌∙◌}
use Rattle.io_scheduler.proofs.ListedLemmas.{flag_is}
use Rattle.io_scheduler.proofs.taking.take_first.Goals as goal

pub returns-in-None-clause-idle : goal.returns-in-None-clause-idle
returns-in-None-clause-idle g c =
    λ place. sym (flag_is c.args.strands.now.items c.args.jobs.now place c.requires) ∙ c.in-None.ensures.none place
