use Rattle.std.proofs.Common.{subst}
use Rattle.echo_handlers.specs.Echoed.{StartsIf}
use Rattle.echo_handlers.specs.Echoed.Begins.{begins}
use Rattle.echo_handlers.proofs.echo.begin.Goals as goal

pub returns-in-Ok-clause-begins : goal.returns-in-Ok-clause-begins
returns-in-Ok-clause-begins c =
    begins c.in-Ok.strand c.in-Ok.ensures.kept
    (subst (λ io. StartsIf c.args.service c.args.stream c.in-Ok.strand c.args.now io c.start.new.io) c.in-Ok.ensures.made
    c.start.ensures.starts)
