use Rattle.std.proofs.Common.{ℕ, subst}
use Rattle.echo_handlers.specs.declared.echo.Link.{Link}
use Rattle.echo_handlers.specs.Echoed.{Reads, Watches, linked, until}
use Rattle.echo_handlers.specs.Echoed.StartsIf.{starts}
use Rattle.echo_handlers.proofs.echo.start.Goals as goal

pub returns-in-Some-clause-starts : goal.returns-in-Some-clause-starts
returns-in-Some-clause-starts c =
    starts c.in-Some.timer c.in-Some.ensures.kept
    (record {
      behind = c.watch.new.io;
      watches = subst (λ io. Watches (linked c.args.service c.args.stream c.in-Some.timer c.args.strand)
          (until c.args.now c.args.service.idle) io c.watch.new.io) c.in-Some.ensures.made
          (subst (λ (at : ℕ). Watches (linked c.args.service c.args.stream c.in-Some.timer c.args.strand) at c.make_timer.new.self
          c.watch.new.io) c.until.ensures
          (subst (λ (link : Link). Watches link c.until.result c.make_timer.new.self c.watch.new.io) c.link_of-link.ensures
          c.watch.ensures.watches));
      reads = subst (λ (link : Link). Reads link c.watch.new.io c.read_first.new.io) c.link_of-link.ensures
          c.read_first.ensures.reads;
    })
