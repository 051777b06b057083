-- What kinds of operations there are, and what they name and support (Asio reference, post, defer,
-- dispatch, async_wait, async_read_some, async_read, async_read_until, async_write_some, async_write,
-- async_accept, async_connect; Overview, "Per-Operation Cancellation").
use Rattle.std.specs.Prelude.{ℕ, ◌==◌, Bool, true, false, not, bit_and, Option, Some, None}
use Rattle.io_rules.specs.declared.name.Name.{Name}
use Rattle.io_rules.specs.declared.operation.Binding.{Binding}
use Rattle.io_rules.specs.declared.operation.Operation.{Operation}
use Rattle.io_rules.specs.declared.operation.Operation.TheVariants as operation
use Rattle.io_rules.specs.declared.operation.Side.{Side}
use Rattle.io_rules.specs.declared.operation.Side.TheVariants as side

abbrev pub is_posting : Operation → Bool
is_posting operation.Post = true
is_posting operation.Defer = true
is_posting operation.Dispatch = true
is_posting _ = false

abbrev pub is_accept : Operation → Bool
is_accept (operation.Accept listener) = true
is_accept _ = false

abbrev pub is_connect : Operation → Bool
is_connect (operation.Connect stream) = true
is_connect _ = false

-- the timer that it waits for
abbrev pub timer_of : Operation → Option Name
timer_of (operation.Wait timer) = Some timer
timer_of _ = None

-- the side that it is an operation of
pub record Target : Type 0 where
  pub stream : Name
  pub side : Side

abbrev pub at : Name → Side → Option Target
at stream side = Some (record { stream = stream; side = side })

abbrev pub target_of : Operation → Option Target
target_of (operation.ReadSome stream size) = at stream side.Read
target_of (operation.ReadAll stream size) = at stream side.Read
target_of (operation.ReadUntil stream max) = at stream side.Read
target_of (operation.WriteSome stream size) = at stream side.Write
target_of (operation.WriteAll stream size) = at stream side.Write
target_of (operation.Accept listener) = at listener side.Read
target_of (operation.Connect stream) = at stream side.Connect
target_of _ = None

-- a connect, once it has completed, lets the reads go on, and the writes
abbrev pub behind_connect : Side → Operation → Option Target
behind_connect side (operation.Connect stream) = at stream side
behind_connect side _ = None

-- the cancellation types that it supports: one that may have had effects, and would have to take them
-- back, doesn't support total cancellation
abbrev pub supported_by : Operation → ℕ
supported_by (operation.Wait timer) = 7
supported_by (operation.ReadSome stream size) = 7
supported_by (operation.ReadAll stream size) = 3
supported_by (operation.ReadUntil stream max) = 3
supported_by (operation.WriteSome stream size) = 7
supported_by (operation.WriteAll stream size) = 3
supported_by (operation.Accept listener) = 7
supported_by (operation.Connect stream) = 7
supported_by _ = 0

abbrev pub filter_of : Option Binding → ℕ
filter_of None = 0
filter_of (Some binding) = binding.filter

-- an emit of these types cancels it
abbrev pub is_reached_by : ℕ → Operation → Option Binding → Bool
is_reached_by types kind binding =
    not (bit_and types (bit_and (supported_by kind) (filter_of binding)) == 0)
