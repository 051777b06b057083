use Rattle.std.proofs.Common.{arith, subst, sym}
use Rattle.http_handlers.specs.Serving.{TellsIf, WaitsOn}
use Rattle.http_handlers.proofs.serving.wait_on.Goals as goal

pub returns-then-state-clause-waits : goal.returns-then-state-clause-waits
returns-then-state-clause-waits c =
    subst (λ given. WaitsOn c.args.link given c.args.now c.args.state.now c.tell_late.new.state c.args.io.now
    c.tell_late.new.io) (sym c.in-Ok.is)
    (record {
      same = λ l. absurd (omega (arith, l, c.if-now-state.false));
      watches = λ l. absurd (omega (arith, l, c.if-now-state.false));
      tells = λ l. subst (λ begun. TellsIf begun c.args.link c.args.now c.args.state.now c.tell_late.new.state
          c.args.io.now c.tell_late.new.io) (sym c.if-state.true) c.tell_late.ensures.tells;
    })
