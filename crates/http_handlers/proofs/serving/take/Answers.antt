use Rattle.std.proofs.Common.{refl, subst}
use Rattle.http_handlers.specs.Connections.{Feeds}
use Rattle.http_handlers.specs.Serving.Takes.{takes}
use Rattle.http_handlers.proofs.serving.take.Goals as goal

pub returns-in-Ok-clause-takes : goal.returns-in-Ok-clause-takes
returns-in-Ok-clause-takes c =
    takes _ (record {
      feeds = subst (λ came. Feeds c.args.exchange.connection came c.args.exchange.answers.items c.feed.new.out.items
          c.feed.new.self) c.came_in.ensures c.in-Ok.ensures.feeds;
      link_is = refl;
    }) c.go_on.ensures.answers
