use Rattle.std.proofs.Common.{subst, subst₂, sym}
use Rattle.http_handlers.specs.Serving.{Hears, HearsUnless}
use Rattle.http_handlers.proofs.serving.came.Goals as goal

pub returns-in-Ok-Some-clause-hears : goal.returns-in-Ok-Some-clause-hears
returns-in-Ok-Some-clause-hears c =
    subst (λ over. HearsUnless over c.args.exchange c.args.code c.args.size c.args.buffer c.args.state.now
    c.take.new.state c.args.io.now c.take.new.io) (sym c.if-state.false)
    (subst₂ (λ given buffer. Hears c.args.exchange given c.args.size buffer c.args.state.now c.take.new.state
    c.args.io.now c.take.new.io) (sym c.in-Ok-Some.is-0) (sym c.in-Ok-Some.is-1) c.take.ensures.takes)
