use Rattle.std.proofs.Common.{ℕ, subst}
use Rattle.http_handlers.specs.Accepting.{Retries, pause, set, until}
use Rattle.http_handlers.specs.Accepting.Pauses.{pauses}
use Rattle.http_handlers.proofs.accepting.pause.Goals as goal

pub returns-in-Some-clause-pauses : goal.returns-in-Some-clause-pauses
returns-in-Some-clause-pauses c =
    pauses c.in-Some.timer c.in-Some.ensures.kept
    (subst (λ io. Retries c.args.service c.in-Some.timer (set c.in-Some.timer (until c.args.now pause) io) c.retry.new.io)
    c.in-Some.ensures.made
    (subst (λ (at : ℕ). Retries c.args.service c.in-Some.timer (set c.in-Some.timer at c.make_timer.new.self) c.retry.new.io)
    c.until.ensures
    (subst (λ io. Retries c.args.service c.in-Some.timer io c.retry.new.io) c.set.ensures.set c.retry.ensures.retries)))
