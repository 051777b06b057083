-- What a call on a socket tells of its stream (Asio reference, `basic_stream_socket::read_some`,
-- `write_some`, and `error::basic_errors`). The system tells a reset once, so it is kept.
use Rattle.std.specs.Prelude.{ℕ, zero, suc, ◌≤◌, ⊤, Bool, true, false, Result, Ok, Err}
use Rattle.std.specs.IoError.{error_kind}
use Rattle.std.specs.declared.io.Error.{Error}
use Rattle.std.specs.declared.io.ErrorKind.{ErrorKind}
use Rattle.std.specs.declared.io.ErrorKind.TheVariants as kind
use Rattle.asio_types.specs.declared.failure.Failed.{Failed}
use Rattle.asio_types.specs.declared.outside.Moved.{Moved}
use Rattle.asio_types.specs.declared.outside.Moved.TheVariants as moved
use Rattle.reactor_mio.specs.declared.transfer.Transfer.{Transfer}
use Rattle.reactor_mio.specs.declared.transfer.Transfer.TheVariants as transfer

-- at least one byte of so many, or none
abbrev pub IsTransferWithin : ℕ → Transfer → Type 0
IsTransferWithin most (transfer.Bytes count) = (1 ≤ count) × (count ≤ most)
IsTransferWithin most _ = ⊤

-- what a call came to that failed so: only what asks to try again, and what the peer did, is told apart
abbrev pub failed_transfer : ErrorKind → Transfer
failed_transfer kind.WouldBlock = transfer.WouldBlock
failed_transfer kind.Interrupted = transfer.Interrupted
failed_transfer kind.ConnectionReset = transfer.Reset
failed_transfer kind.BrokenPipe = transfer.BrokenPipe
failed_transfer kind.NotConnected = transfer.NotConnected
failed_transfer _ = transfer.Failed

-- what a call came to that gave this
abbrev pub given_transfer : Result ℕ Error → Transfer
given_transfer (Ok zero) = transfer.Nothing
given_transfer (Ok (suc n)) = transfer.Bytes (suc n)
given_transfer (Err error) = failed_transfer (error_kind error)

-- the end of a stream, or that it was reset
abbrev pub ended : Bool → Moved
ended true = moved.Reset
ended false = moved.End

-- what a read answers whose call came to this, where a reset was seen before or wasn't
abbrev pub read_moved : Transfer → Bool → Result Moved Failed
read_moved (transfer.Bytes count) was_reset = Ok (moved.Took count)
read_moved transfer.Nothing was_reset = Ok (ended was_reset)
read_moved transfer.WouldBlock was_reset = Ok moved.NotYet
read_moved transfer.Interrupted was_reset = Ok moved.NotYet
read_moved transfer.Reset was_reset = Ok moved.Reset
read_moved _ was_reset = Err (record {})

-- what a write answers whose call came to this, where a reset was seen before or wasn't
abbrev pub write_moved : Transfer → Bool → Result Moved Failed
write_moved (transfer.Bytes count) was_reset = Ok (moved.Took count)
write_moved transfer.Nothing was_reset = Ok moved.NotYet
write_moved transfer.WouldBlock was_reset = Ok moved.NotYet
write_moved transfer.Interrupted was_reset = Ok moved.NotYet
write_moved transfer.Reset was_reset = Ok moved.Reset
write_moved transfer.BrokenPipe was_reset = Ok (ended was_reset)
write_moved _ was_reset = Err (record {})

-- a reset was seen before, or this answer tells one
abbrev pub saw_reset : Bool → Result Moved Failed → Bool
saw_reset true answer = true
saw_reset false (Ok moved.Reset) = true
saw_reset false _ = false
