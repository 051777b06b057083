-- How many operations may be accepted (this project's own: Asio takes memory for each). An execution
-- keeps the place of its operation, and some more are granted to it.
use Rattle.std.specs.Prelude.{ℕ, ◌+◌, ◌-◌, ◌||◌, min, nat_lt, Bool, true, false, List, Option, Some, None, if◌then◌else◌}
use Rattle.io_rules.specs.declared.op.Phase.TheVariants as phase
use Rattle.io_rules.specs.State.{ContextState, Op, Phase}
use Rattle.io_rules.specs.Ops.{op_at, phase_changed_of}

abbrev pub one_if : Bool → ℕ
one_if true = 1
one_if false = 0

-- all numbers of operations lie below this one
abbrev pub most_numbers : ℕ
most_numbers = 18446744073709551615

-- how many numbers are neither given nor kept
abbrev pub numbers_left : ContextState → ℕ
numbers_left s = most_numbers - (s.next + s.promised)

-- what an execution is granted besides its own place
abbrev pub grant_of : ContextState → ℕ
grant_of s = min s.limits.grant (min s.room (numbers_left s - 1))

-- how much more an execution is granted that has so much left
abbrev pub more_granted : ContextState → ℕ → ℕ
more_granted s left = min (s.limits.grant - left) (min s.room (numbers_left s))

-- how many places an operation has: before its handler begins, one
abbrev pub places_in : Phase → ℕ
places_in (phase.Running own grant spares) = one_if own + grant
places_in _ = 1

-- how many numbers are kept for it
abbrev pub numbers_in : Phase → ℕ
numbers_in (phase.Running own grant spares) = one_if own + grant
numbers_in _ = 0

abbrev pub granted_in : Phase → ℕ
granted_in (phase.Running own grant spares) = grant
granted_in _ = 0

-- it may initiate one more
abbrev pub has_place : Phase → Bool
has_place (phase.Running own grant spares) = own || nat_lt 0 grant
has_place _ = false

-- it gives a place away, its own at last
abbrev pub place_given : Phase → Phase
place_given (phase.Running own grant spares) =
    if nat_lt 0 grant then phase.Running own (grant - 1) spares else phase.Running false 0 spares
place_given other = other

-- the handler that initiates gives it, if it is one
abbrev pub place_given_by : Option ℕ → List Op → List Op
place_given_by by ops = phase_changed_of by (λ op. place_given op.phase) ops

-- else it is taken from those that are free
abbrev pub room_left : Option ℕ → ℕ → ℕ
room_left None room = room - 1
room_left (Some by) room = room

-- and the number from those that are kept
abbrev pub promised_left : Option ℕ → ℕ → ℕ
promised_left None promised = promised
promised_left (Some by) promised = promised - 1

abbrev pub counted : (Phase → ℕ) → Option Op → ℕ
counted count None = 0
counted count (Some op) = count op.phase

-- what the operation with this number has
abbrev pub at_op : (Phase → ℕ) → List Op → ℕ → ℕ
at_op count ops n = counted count (op_at ops n)
