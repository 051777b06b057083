use Rattle.std.proofs.Common.{take}
use Rattle.std.specs.Prelude.{not}
use Rattle.asio_command.specs.FileStatuses.{AreFileStatuses}
use Rattle.asio_command.proofs.checking.check_each.Given as goal

abbrev pub invariant-loop-file : goal.invariant-loop-file
invariant-loop-file l = AreFileStatuses (not l.fn.options.net) (take l.file-index l.files) l.statuses.items
