use Rattle.std.proofs.Common.{◌≡◌, drop}
use Rattle.session_script.specs.Kinds.{decimal_from}
use Rattle.session_script.proofs.kind.decimal.Given as goal

abbrev pub invariant-loop-digit : goal.invariant-loop-digit
invariant-loop-digit l = decimal_from l.value (drop l.digit-index l.digits) ≡ decimal_from 0 l.digits
