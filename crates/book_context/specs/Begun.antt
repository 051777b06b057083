-- What a book is made of, before the calls of `open`.
use Rattle.std.specs.Prelude.{◌≡◌, ℕ, Bool, false, [], Option, not}
use Rattle.std.specs.Option.{option_map}
use Rattle.op_handlers.specs.declared.call.Call.{Call}
use Rattle.op_handlers.specs.Marks.{Marks}
use Rattle.session_script.specs.Script.{ScriptModel, is_op}
use Rattle.history_rules.specs.State.{first_reactor}
use Rattle.reactor_trait.specs.Reactor.{Outside, ReactorState, state_ready}
use Rattle.proactor_core.specs.Proactor.{Follows, IsSound, ProactorView, tells}
use Rattle.strand_core.specs.Hands.{Held, held_at}
use Rattle.book_context.specs.Book.{unless_spent}

-- the handler of each operation is held, with the marks that are named, and no other is
pub record HoldsAll {H : Type 0} (marks : H → Marks) (run : ℕ → Call → ℕ) (drop : ℕ → ℕ) (script : ScriptModel)
    (hands : Held H) : Type 0 where
  pub same_script : hands.script ≡ script
  pub each : (n : ℕ) →
      option_map marks (held_at hands n)
      ≡ unless_spent (not (is_op script n)) (record { run = run n; drop = drop n })

-- a proactor before anything was taken
pub record IsStarted {X : Type 0} (state : X → ReactorState) (told : X → Option Outside)
    (faults : X → ℕ) (tells_bytes : Bool) (named : ℕ) (script : ScriptModel) (view : ProactorView X)
    : Type 0 where
  pub same_script : view.script ≡ script
  pub sound : IsSound state told view
  pub follows : Follows told view (first_reactor script tells_bytes)
  pub nothing_due : view.tables.due.coming ≡ []
  pub working : view.tables.failed ≡ false
  pub ready : state view.reactor ≡ state_ready script.world
  pub same_tells : tells (told view.reactor) ≡ tells_bytes
  pub counted : faults view.reactor ≡ named
