-- What is connected to cancellation slots, and what an emit reaches (Asio reference,
-- cancellation_slot, cancellation_signal::emit; Overview, "Per-Operation Cancellation").
use Rattle.std.specs.Prelude.{◌≡◌, ◌≢◌, ℕ, List, Option, Some, None, slice_get, bit_and, nat_eq, if◌then◌else◌}
use Rattle.std.specs.Option.{unwrap_or}
use Rattle.cancel_slots.specs.declared.connection.Connection.{Connection}

-- what is connected to a slot; nothing is where there is no such slot
abbrev pub connection_of : List (Option Connection) → ℕ → Option Connection
connection_of slots slot = unwrap_or (slice_get slots slot) None

-- every other slot is as it was
abbrev pub IsSameBut : ℕ → List (Option Connection) → List (Option Connection) → Type 0
IsSameBut slot old new =
    (other : ℕ) → other ≢ slot → connection_of new other ≡ connection_of old other

-- the operation that an emit of these types cancels where this is connected: it supports one of
-- them
abbrev pub chosen_by : Option Connection → ℕ → Option ℕ
chosen_by None types = None
chosen_by (Some there) types =
    if nat_eq (bit_and there.supported types) 0 then None else Some there.op
