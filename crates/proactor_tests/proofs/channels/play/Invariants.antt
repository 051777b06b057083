use Rattle.std.proofs.Common.{◌≡◌, []}
use Rattle.proactor_tests.proofs.channels.play.Given as goal

abbrev pub invariant-loop-call : goal.invariant-loop-call
invariant-loop-call g l = l.chan.due ≡ []
