use Rattle.std.proofs.Common.{refl}
use Rattle.op_handlers.proofs.BoxedLemmas.{AnswersBy-boxed}
use Rattle.foundation_tests.proofs.handlers.a_discarded_handler_answers_its_drop_mark.OwnLists.{own-1, entry-1-1, at-1-1, same-1-1}
use Rattle.foundation_tests.proofs.handlers.a_discarded_handler_answers_its_drop_mark.Goals as goal

pub of-requires : goal.of-requires
of-requires g c = (
  record { run = 7; drop = 70 },
  AnswersBy-boxed own-1 entry-1-1 at-1-1 same-1-1 _ c.into_dyn_box.ensures.1 (λ s. tt) (λ s r p. p.2)
      (λ s. (tt, s, refl)),
)
