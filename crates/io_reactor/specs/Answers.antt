-- What a call on a socket may answer (Asio reference, basic_stream_socket::read_some, write_some,
-- async_connect, basic_socket_acceptor::async_accept, error::basic_errors).
use Rattle.std.specs.Prelude.{ℕ, ◌≡◌, ◌≤◌, ⊤, Bool, true}
use Rattle.asio_types.specs.declared.code.Code.{Code}
use Rattle.io_rules.specs.Tries.{is_link_error, is_read_error, is_write_error}
use Rattle.io_reactor.specs.declared.answer.Accepted.{Accepted}
use Rattle.io_reactor.specs.declared.answer.Accepted.TheVariants as accepted
use Rattle.io_reactor.specs.declared.answer.Linked.{Linked}
use Rattle.io_reactor.specs.declared.answer.Linked.TheVariants as linked
use Rattle.io_reactor.specs.declared.answer.Transferred.{Transferred}
use Rattle.io_reactor.specs.declared.answer.Transferred.TheVariants as transferred

-- it would have to wait, or moved at least one of so many bytes, or failed with one of these errors
abbrev pub MayTransfer : (Code → Bool) → ℕ → Transferred → Type 0
MayTransfer errors size transferred.WouldBlock = ⊤
MayTransfer errors size (transferred.Bytes count) = (1 ≤ count) × (count ≤ size)
MayTransfer errors size (transferred.Failed code) = errors code ≡ true

-- a read fails at the end of the stream, or since the connection was reset
abbrev pub MayRead : ℕ → Transferred → Type 0
MayRead size answer = MayTransfer is_read_error size answer

-- a write fails since the peer takes nothing more, or since the connection was reset
abbrev pub MayWrite : ℕ → Transferred → Type 0
MayWrite size answer = MayTransfer is_write_error size answer

abbrev pub MayLink : Linked → Type 0
MayLink (linked.Failed code) = is_link_error code ≡ true
MayLink _ = ⊤

-- what an accept made is so; else it would have to wait, or has failed
abbrev pub MayAccept : {S : Type 0} → (S → Type 0) → Accepted S → Type 0
MayAccept P accepted.WouldBlock = ⊤
MayAccept P (accepted.Made socket) = P socket
MayAccept P (accepted.Failed code) = is_link_error code ≡ true

-- how many bytes were moved
abbrev pub count_of : Transferred → ℕ
count_of (transferred.Bytes count) = count
count_of _ = 0
