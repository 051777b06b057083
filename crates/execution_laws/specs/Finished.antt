-- What a context gives when it is finished: its history and its reactor (Asio reference,
-- io_context::~io_context).
use Rattle.std.specs.Prelude.{◌≡◌, ◌≤◌, ℕ, Bool, false, List, [], ◌∷◌, Option, None, Contains, IfSome, IsTrue, map}
use Rattle.asio_types.specs.Faults.{Rose}
use Rattle.asio_types.specs.declared.event.Event.{Event}
use Rattle.asio_types.specs.declared.event.Event.TheVariants as event
use Rattle.session_script.specs.Script.{ScriptModel}
use Rattle.history_rules.specs.Legal.{IsLegal, state_of}
use Rattle.execution_laws.specs.Marks.{HasToldMarks}
use Rattle.op_handlers.specs.Marks.{own_marks}
use Rattle.op_handlers.specs.declared.call.Call.{Call}
use Rattle.reactor_trait.specs.Reactor.{Outside, ReactorState}
use Rattle.proactor_core.specs.Proactor.{tells}

-- A history, and a reactor with this count of faults, this state and these bytes. Named are the
-- script, whether bytes are told, the marks of the handlers, whether others than they may stop the
-- context, and the count of faults at the beginning.
pub record IsFinished (script : ScriptModel) (told : Bool) (run : ℕ → Call → ℕ) (drop : ℕ → ℕ)
    (others : Bool) (before after : ℕ) (events : List Event) (state : ReactorState) (outside : Option Outside)
    : Type 0 where
  pub legal : IsLegal script told events
  pub marked : HasToldMarks (own_marks run) drop events
  pub unstopped : others ≡ false → Contains events (event.Stop None) → ⊥
  pub faults : before ≤ after
  pub rose : Contains events event.Fault → Rose before after
  pub stood : (Contains events event.Fault → ⊥) → after ≡ before
  pub set_up : events ≡ event.Fault ∷ [] → ⊥
  pub up : IsTrue state.up
  pub now : state.now ≡ (state_of script told events).reactor.now
  pub still_told : tells outside ≡ told
  -- without a fault the bytes that were sent are those of the last state
  pub sent : (Contains events event.Fault → ⊥) →
      IfSome outside (λ outside.
      map (λ stream. stream.sent) outside.streams
      ≡ map (λ stream. stream.sent) (state_of script told events).reactor.streams)
