-- In which order a cancellation comes to the operations of a stream (Asio reference, basic_socket::cancel).
use Rattle.std.specs.Prelude.{◌≡◌, Some, drop}
use Rattle.io_rules.specs.declared.name.Name.{Name}
use Rattle.io_streams.specs.declared.pending.PendingOp.{PendingOp}
use Rattle.io_streams.specs.Kept.{IsWhole}
use Rattle.io_streams.specs.Pending.{StreamList, first_in, untried_on, without_op}

-- once the first of those whose system call isn't under way is out, the rest are left, in order of acceptance;
-- and no other one's system call is under way then
abbrev pub AreCancelledInOrder : Type 0 → Type 0
AreCancelledInOrder T = (name : Name) (s : StreamList T) (op : PendingOp T) → IsWhole s →
    first_in (untried_on name s) ≡ Some op →
    untried_on name (without_op op s) ≡ drop 1 (untried_on name s)
