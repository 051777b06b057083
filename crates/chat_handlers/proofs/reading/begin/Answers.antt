use Rattle.std.proofs.Common.{ℕ, subst}
use Rattle.chat_handlers.specs.Chats.{to_join}
use Rattle.chat_handlers.specs.Chats.Begins.{starts}
use Rattle.chat_handlers.specs.Links.{until}
use Rattle.chat_handlers.specs.declared.link.Link.{Link}
use Rattle.chat_handlers.specs.Watching.{Watches}
use Rattle.chat_handlers.proofs.reading.begin.Goals as goal

pub returns-in-Some-clause-begins : goal.returns-in-Some-clause-begins
returns-in-Some-clause-begins c =
    let link : Link = record { stream = c.args.stream; timer = c.in-Some.timer } in
    starts c.in-Some.timer c.in-Some.ensures.kept
    (record {
      behind = c.watch.new.io;
      watches = subst (λ io. Watches c.args.door link (until c.args.now to_join) io c.watch.new.io) c.in-Some.ensures.made
          (subst (λ (at : ℕ). Watches c.args.door link at c.make_timer.new.self c.watch.new.io) c.until.ensures
          c.watch.ensures.watches);
      reads = c.read_first.ensures.reads;
    })
