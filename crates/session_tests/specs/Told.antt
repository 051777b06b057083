-- A number that tells what a handler was called with.
use Rattle.std.specs.Prelude.{ℕ, ◌+◌, ◌*◌, ◌%◌}
use Rattle.asio_types.specs.declared.code.Code.{Code}
use Rattle.asio_types.specs.declared.code.Code.TheVariants as code
use Rattle.op_handlers.specs.declared.call.Call.{Call}

abbrev pub number_of : Code → ℕ
number_of code.Ok = 0
number_of code.Aborted = 1
number_of _ = 2

-- the operation, then two digits of the size, one of the code, and two of the position of the begin
abbrev pub told_by : Call → ℕ
told_by call = ((call.op * 100 + call.size) * 10 + number_of call.code) * 100 + call.begun % 100
