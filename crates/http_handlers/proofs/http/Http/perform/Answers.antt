use Rattle.std.proofs.Common.{subst, sym}
use Rattle.http_handlers.specs.Serving.{MayServe}
use Rattle.http_handlers.proofs.http.Http.perform.Goals as goal

pub returns-in-Begins-clause-may : goal.returns-in-Begins-clause-may
returns-in-Begins-clause-may c =
    subst (λ handler. MayServe handler c.args.done c.args.state.now c.begin.new.state c.args.io.now c.begin.new.io)
    (sym c.in-Begins.is) c.begin.ensures.begins
