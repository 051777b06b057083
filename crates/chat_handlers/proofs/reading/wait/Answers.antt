use Rattle.std.proofs.Common.{arith, length, lt-ltb, subst, sym}
use Rattle.chat_handlers.specs.Chats.{WaitsUnless}
use Rattle.chat_handlers.proofs.reading.wait.Goals as goal

pub returns-then-len-gt-MOST_LINE-clause-waits : goal.returns-then-len-gt-MOST_LINE-clause-waits
returns-then-len-gt-MOST_LINE-clause-waits c =
    subst
    (λ long. WaitsUnless long (record c.args.caller { kept = c.args.bytes }) c.args.buffer c.args.io.now c.refuse.new.io)
    (sym (lt-ltb 512 (length c.args.bytes.items) (omega (arith, c.args.bytes.ok)))) c.refuse.ensures.refuses
