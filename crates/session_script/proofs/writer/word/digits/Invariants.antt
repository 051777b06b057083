use Rattle.std.proofs.Common.{◌≡◌, ◌++◌, drop}
use Rattle.session_script.specs.Spelling.{encoded}
use Rattle.session_script.proofs.writer.word.digits.Given as goal

abbrev pub invariant-loop-byte : goal.invariant-loop-byte
invariant-loop-byte l = l.out.items ++ encoded (drop l.byte-index l.bytes) ≡ l.fn.out.items ++ encoded l.bytes
