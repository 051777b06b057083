use Rattle.std.proofs.Common.{refl}
use Rattle.chat_handlers.proofs.ServingLemmas.{left_from}
use Rattle.chat_handlers.proofs.serving.leave.Goals as goal

pub returns-clause-parts : goal.returns-clause-parts
returns-clause-parts c = record {
  behind = c.end.new.io;
  ends = c.end.ensures.ends;
  tells = left_from _ _ _ _ _ _ _ _ (record { word = refl; next = refl; alloc = refl; refused = refl }) c.remove.ensures
      c.tell_left.ensures.tells;
}
