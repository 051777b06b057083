-- Why a call from outside of all handlers is refused.
use Rattle.std.specs.Prelude.{◌≡◌, ◌&&◌, ◌||◌, nat_lt, not, false, true, List}
use Rattle.io_rules.specs.declared.event.Event.{Event}
use Rattle.io_rules.specs.declared.limits.Limits.{Limits}
use Rattle.io_rules.specs.declared.name.Lane.{Lane}
use Rattle.io_rules.specs.declared.operation.Operation.{Operation}
use Rattle.io_rules.specs.Calls.{is_lane_gone, is_target_gone}
use Rattle.io_rules.specs.Legal.{state_of}
use Rattle.io_rules.specs.declared.name.Name.{Name}
use Rattle.io_rules.specs.Names.{any_free, is_alive}
use Rattle.io_rules.specs.Operations.{target_of}
use Rattle.io_rules.specs.Room.{numbers_left}
use Rattle.io_rules.specs.State.{ContextState}
use Rattle.io_context.specs.declared.refused.Refusal.{Refusal}
use Rattle.io_context.specs.declared.refused.Refusal.TheVariants as refusal

-- its strand is gone, or it isn't and no place or no number is free
abbrev pub MayRefuse : ContextState → Lane → Refusal → Type 0
MayRefuse s lane refusal.Gone = is_lane_gone s.names lane ≡ true
MayRefuse s lane refusal.Full = (nat_lt 0 s.room && nat_lt 0 (numbers_left s)) ≡ false

-- so it was behind these events
abbrev pub WasRefused : Limits → Lane → Refusal → List Event → Type 0
WasRefused limits lane why told = MayRefuse (state_of limits told) lane why

-- behind these events no strand was free
abbrev pub NoStrandWasFree : Limits → List Event → Type 0
NoStrandWasFree limits told = any_free (state_of limits told).names.strands ≡ false

-- a wait: its strand or its timer is gone, or they aren't and no place or no number is free
abbrev pub MayRefuseWait : ContextState → Lane → Name → Refusal → Type 0
MayRefuseWait s lane timer refusal.Gone = (is_lane_gone s.names lane || not (is_alive s.names.timers timer)) ≡ true
MayRefuseWait s lane timer refusal.Full = (nat_lt 0 s.room && nat_lt 0 (numbers_left s)) ≡ false

abbrev pub WaitWasRefused : Limits → Lane → Name → Refusal → List Event → Type 0
WaitWasRefused limits lane timer why told = MayRefuseWait (state_of limits told) lane timer why

-- an operation on a stream or a listener: its strand or this is gone, or they aren't and no place or no number is free
abbrev pub MayRefuseTransfer : ContextState → Lane → Operation → Refusal → Type 0
MayRefuseTransfer s lane kind refusal.Gone =
    (is_lane_gone s.names lane || is_target_gone s kind (target_of kind)) ≡ true
MayRefuseTransfer s lane kind refusal.Full = (nat_lt 0 s.room && nat_lt 0 (numbers_left s)) ≡ false

abbrev pub TransferWasRefused : Limits → Lane → Operation → Refusal → List Event → Type 0
TransferWasRefused limits lane kind why told = MayRefuseTransfer (state_of limits told) lane kind why
