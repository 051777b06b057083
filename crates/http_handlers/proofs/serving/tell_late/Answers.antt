use Rattle.std.proofs.Common.{ℕ, refl, subst}
use Rattle.http_handlers.specs.Serving.{Watches}
use Rattle.http_handlers.specs.Serving.Tells.{tells}
use Rattle.http_handlers.proofs.serving.tell_late.Goals as goal

pub returns-in-Ok-clause-tells : goal.returns-in-Ok-clause-tells
returns-in-Ok-clause-tells c =
    tells c.in-Ok.answer c.watch.new.io c.in-Ok.ensures (rw (c.until-at.ensures) refl)
    (subst (λ (at : ℕ). Watches c.args.link at c.args.io.now c.watch.new.io) c.until-at.ensures c.watch.ensures.watches)
    c.write_last.ensures.writes
