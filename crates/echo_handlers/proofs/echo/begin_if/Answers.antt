use Rattle.std.proofs.Common.{subst, sym}
use Rattle.echo_handlers.specs.Echoed.{BeginsIf}
use Rattle.echo_handlers.proofs.echo.begin_if.Goals as goal

pub returns-in-Some-clause-begins : goal.returns-in-Some-clause-begins
returns-in-Some-clause-begins c =
    subst (λ made. BeginsIf c.args.service made c.args.now c.args.io.now c.begin.new.io) (sym c.in-Some.is)
    c.begin.ensures.begins
