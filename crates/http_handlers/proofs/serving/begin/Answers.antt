use Rattle.std.proofs.Common.{ℕ, refl, subst}
use Rattle.http_handlers.specs.declared.serving.Link.{Link}
use Rattle.http_handlers.specs.Accepting.{until}
use Rattle.http_handlers.specs.Serving.{ReadsFirst, Watches, linked}
use Rattle.http_handlers.specs.Serving.Begins.{starts}
use Rattle.http_handlers.proofs.serving.begin.Goals as goal

pub returns-in-Some-clause-begins : goal.returns-in-Some-clause-begins
returns-in-Some-clause-begins c =
    starts c.in-Some.timer c.in-Some.ensures.kept (rw (c.until-at.ensures) refl)
    (record {
      behind = c.watch.new.io;
      watches = subst (λ io. Watches (linked c.args.service c.args.stream c.in-Some.timer)
          (until c.args.now c.args.service.idle) io c.watch.new.io) c.in-Some.ensures.made
          (subst (λ (at : ℕ). Watches (linked c.args.service c.args.stream c.in-Some.timer) at c.make_timer.new.self
          c.watch.new.io) c.until-at.ensures
          (subst (λ (link : Link). Watches link c.until-at.result c.make_timer.new.self c.watch.new.io)
          c.link_of-link.ensures c.watch.ensures.watches));
      reads = subst (λ (link : Link). ReadsFirst link c.watch.new.io c.read_first.new.io) c.link_of-link.ensures
          c.read_first.ensures.reads;
    })
