use Rattle.std.proofs.Common.{◌^◌, arith}
use Rattle.session_script.proofs.NumbersLemmas.{decimal_overflows}
use Rattle.session_script.proofs.kind.decimal.Goals as goal

pub returns-in-None : goal.returns-in-None
returns-in-None c =
    decimal_overflows c.loop-digit.value c.loop-digit.digit-index (2 ^ 64) _ c.args.digits.now (omega arith)
    c.loop-digit.invariant (omega (arith, c.in-None.ensures))

pub returns-in-None-checked_add : goal.returns-in-None-checked_add
returns-in-None-checked_add c =
    decimal_overflows c.loop-digit.value c.loop-digit.digit-index (2 ^ 64) _ c.args.digits.now (omega arith)
    c.loop-digit.invariant (omega (arith, c.in-None-checked_add.ensures))
