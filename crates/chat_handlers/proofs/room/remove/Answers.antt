use Rattle.std.proofs.Common.{not, rules}
use Rattle.std.proofs.lemmas.Fn.{filter_same}
use Rattle.io_rules.specs.Names.{same_name}
use Rattle.chat_handlers.proofs.room.remove.Goals as goal

pub returns : goal.returns
returns c =
    filter_same _ (λ member. not (same_name member.stream c.args.stream)) _ (λ x b f k. (search rules, search rules)) _ _
    c.retain.ensures.filtered
