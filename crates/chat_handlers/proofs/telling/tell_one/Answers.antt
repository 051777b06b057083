use Rattle.std.proofs.Common.{arith, lt-ltb, refl}
use Rattle.chat_handlers.proofs.telling.tell_one.Goals as goal

pub returns-in-Ok-true-clause-tells : goal.returns-in-Ok-true-clause-tells
returns-in-Ok-true-clause-tells c =
    (refl, lt-ltb c.args.member.pending 128 (omega (arith, c.if-member-ge-MOST_PENDING.false)), c.in-Ok-true.ensures.written c.in-Ok-true.field-0-test)
