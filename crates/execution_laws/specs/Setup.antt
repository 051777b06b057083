-- What becomes of the rack and of the reactor where a context is made, and where it can't be (Asio
-- reference, io_context::io_context).
use Rattle.std.specs.Prelude.{◌≡◌, ℕ, Bool, true, false, Option, Some, length}
use Rattle.std.specs.Option.{option_map}
use Rattle.asio_types.specs.declared.outside.SetupFault.{SetupFault}
use Rattle.asio_types.specs.declared.outside.SetupFault.TheVariants as setup_fault
use Rattle.session_script.specs.Script.{ScriptModel, is_op}
use Rattle.op_handlers.specs.Marks.{Marks}
use Rattle.op_handlers.specs.Rack.{handler_at, handlers_in}
use Rattle.op_handlers.specs.declared.call.Call.{Call}
use Rattle.op_handlers.specs.declared.rack.Rack.{Rack}
use Rattle.reactor_trait.specs.Reactor.{Outside, ReactorState}
use Rattle.strand_core.specs.Hands.{left_at}
use Rattle.proactor_core.specs.Proactor.{CountsRefusal, tells}

-- the rack holds a handler for each operation of the script, with these marks
abbrev pub HoldsMarked : {H : Type 0} → (H → Marks) → ScriptModel → (ℕ → Call → ℕ) → (ℕ → ℕ) →
    Rack H → Type 0
HoldsMarked marks script run drop rack =
    (n : ℕ) → is_op script n ≡ true →
    option_map marks (handler_at rack n) ≡ Some (record { run = run n; drop = drop n })

-- the handlers of the script's operations were taken from the rack, and the others stay
pub record TakesHandlers {H : Type 0} (script : ScriptModel) (old new : Rack H) : Type 0 where
  pub left : (n : ℕ) → handler_at new n ≡ left_at (is_op script n) (handler_at old n)
  pub count : length (handlers_in new) ≡ length (handlers_in old)

-- The reactor comes back from a refusal, with this state and these bytes: only where it failed has
-- its count of faults risen, and then it isn't set up and tells its bytes as before.
pub record IsRefused (told : Bool) (before after : ℕ) (state : ReactorState) (outside : Option Outside)
    (fault : SetupFault) : Type 0 where
  pub counts : CountsRefusal fault before after
  pub refused : fault ≡ setup_fault.Failed → state.up ≡ false
  pub still_told : fault ≡ setup_fault.Failed → tells outside ≡ told
