-- What becomes of the rack and of the reactor where a session is made, and where it can't be (Asio
-- reference, io_context::io_context).
use Rattle.std.specs.Prelude.{◌≡◌, ℕ, Bool, true, false, Option, Some, length}
use Rattle.std.specs.Option.{option_map}
use Rattle.asio_types.specs.declared.outside.SetupFault.{SetupFault}
use Rattle.asio_types.specs.declared.outside.SetupFault.TheVariants as setup_fault
use Rattle.session_script.specs.Script.{ScriptModel, is_op}
use Rattle.op_handlers.specs.Marks.{Marks}
use Rattle.op_handlers.specs.Rack.{handler_at, handlers_in}
use Rattle.op_handlers.specs.declared.rack.Rack.{Rack}
use Rattle.reactor_trait.specs.Reactor.{Outside, ReactorState}
use Rattle.proactor_core.specs.Proactor.{CountsRefusal, tells}
use Rattle.strand_core.specs.Hands.{Held, held_at, left_at, taken_at}
use Rattle.lane_map.specs.LaneNumbers.{is_op_on}
use Rattle.lane_logs.specs.Names.{SessionNames}

-- the rack holds a handler for each operation of the script, with the marks that are named
abbrev pub HoldsNamed : {H : Type 0} → SessionNames → (H → Marks) → Rack H → Type 0
HoldsNamed names marks rack =
    (n : ℕ) → is_op names.script n ≡ true →
    option_map marks (handler_at rack n) ≡ Some (record { run = names.run n; drop = names.drop n })

-- the handlers of the script's operations were taken from the rack, and the others stay
pub record TakesHandlers {H : Type 0} (script : ScriptModel) (old new : Rack H) : Type 0 where
  pub left : (n : ℕ) → handler_at new n ≡ left_at (is_op script n) (handler_at old n)
  pub count : length (handlers_in new) ≡ length (handlers_in old)

-- a lane has the handlers of its operations that were in the rack
abbrev pub HasTaken : {H : Type 0} → ScriptModel → ℕ → Rack H → Held H → Type 0
HasTaken script lane rack hands =
    (n : ℕ) → held_at hands n ≡ taken_at (is_op_on script lane n) (handler_at rack n)

-- The reactor comes back from a refusal, with this state and these bytes: only where it failed has
-- its count of faults risen, and then it isn't set up and tells its bytes as before.
pub record IsRefused (told : Bool) (before after : ℕ) (state : ReactorState) (outside : Option Outside)
    (fault : SetupFault) : Type 0 where
  pub counts : CountsRefusal fault before after
  pub refused : fault ≡ setup_fault.Failed → state.up ≡ false
  pub still_told : fault ≡ setup_fault.Failed → tells outside ≡ told
