use Rattle.std.proofs.Common.{subst}
use Rattle.chat_handlers.specs.Texts.{IsSaid}
use Rattle.chat_handlers.proofs.TextsLemmas.{says_first}
use Rattle.chat_handlers.proofs.texts.say_all.Goals as goal

pub lines-preserved : goal.lines-preserved
lines-preserved c final rest later =
    c.lines.invariant final rest
    (says_first c.args.name.now c.lines.rest.now c.in-Some.line.now c.in-Some.behind.now c.lines.text.items final rest
    c.in-Some.ensures.begins
    (subst (λ text. IsSaid c.args.name.now c.in-Some.behind.now text final rest) c.in_ok-say.ensures later))
