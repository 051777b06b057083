-- A context under one lock: what it keeps between its calls.
use Rattle.std.specs.Prelude.{◌≡◌, ◌≤◌, ℕ, Bool, true, false, [], ◌∷◌, Option, Some, None, not, ◌||◌}
use Rattle.std.specs.Option.{option_map}
use Rattle.asio_types.specs.Faults.{Rose}
use Rattle.asio_types.specs.declared.event.Event.TheVariants as event
use Rattle.op_handlers.specs.declared.call.Call.{Call}
use Rattle.op_handlers.specs.Marks.{Marks, own_marks}
use Rattle.session_script.specs.Script.{ScriptModel, is_op}
use Rattle.history_rules.specs.FromOutside.{has_fault, has_outside_stop}
use Rattle.execution_laws.specs.Marks.{HasToldMarks}
use Rattle.reactor_trait.specs.Reactor.{Outside, ReactorState}
use Rattle.proactor_core.specs.Proactor.{ProactorView}
use Rattle.reactor_turns.specs.Turned.{ReactorKeepsTime, IsTurned}
use Rattle.strand_core.specs.Hands.{Held, held_at}
use Rattle.book_context.specs.Recorded.{IsRecorded, is_spent_at, recorded_half}
use Rattle.book_context.specs.Recording.{Recording}

-- a book as its callers see it
pub record BookView (X : Type 0) : Type 0 where
  pub recording : Recording
  pub reactor : X

-- the history is of the session that is named, and shows the marks that are named
pub record KeepsHistory (script : ScriptModel) (told : Bool) (run : ℕ → Call → ℕ) (drop : ℕ → ℕ) (outside : Bool)
    (r : Recording) : Type 0 where
  pub recorded : IsRecorded told r
  pub is_script : r.script ≡ script
  pub marked : HasToldMarks (own_marks run) drop r.events
  pub unstopped : outside ≡ false → has_outside_stop r.events ≡ false
  -- a reactor that fails when it is set up leaves no session
  pub set_up : r.events ≡ event.Fault ∷ [] → ⊥

-- the marks of a handler that wasn't spent
abbrev pub unless_spent : Bool → Marks → Option Marks
unless_spent true marks = None
unless_spent false marks = Some marks

-- of each operation whose handler wasn't spent the handler is held, with the marks that are named,
-- and no other is
pub record HoldsUnspent {H : Type 0} (marks : H → Marks) (told : Bool) (run : ℕ → Call → ℕ) (drop : ℕ → ℕ)
    (r : Recording) (hands : Held H) : Type 0 where
  pub script : hands.script ≡ r.script
  pub each : (n : ℕ) →
      option_map marks (held_at hands n)
      ≡ unless_spent (not (is_op r.script n) || is_spent_at told r n)
      (record { run = run n; drop = drop n })

-- a proactor between its turns; the reactor's count of faults is the one that is named, and above
-- it where it has failed
pub record KeepsReactor {X : Type 0} (state : X → ReactorState) (told : X → Option Outside)
    (faults : X → ℕ) (tells_bytes : Bool) (named : ℕ) (r : Recording) (view : ProactorView X)
    : Type 0 where
  pub script : view.script ≡ r.script
  pub in_step : ReactorKeepsTime tells_bytes (recorded_half tells_bytes r) (state view.reactor)
      (told view.reactor)
  pub turned : view.tables.failed ≡ false → IsTurned state told (recorded_half tells_bytes r) view
  pub failed : (recorded_half tells_bytes r).failed ≡ view.tables.failed
  pub faulted : has_fault r.events ≡ view.tables.failed
  pub stopped : view.tables.failed ≡ true → r.stopped ≡ true
  pub least : named ≤ faults view.reactor
  pub stood : view.tables.failed ≡ false → faults view.reactor ≡ named
  pub rose : view.tables.failed ≡ true → Rose named (faults view.reactor)

-- what a book keeps while its lock is free
pub record IsBook {H X : Type 0} (script : ScriptModel) (told : Bool) (run : ℕ → Call → ℕ) (drop : ℕ → ℕ) (named : ℕ)
    (outside : Bool) (marks : H → Marks) (state : X → ReactorState) (tells_of : X → Option Outside)
    (faults : X → ℕ) (r : Recording) (hands : Held H) (view : ProactorView X) : Type 0 where
  pub history : KeepsHistory script told run drop outside r
  pub holds : HoldsUnspent marks told run drop r hands
  pub reactor : KeepsReactor state tells_of faults told named r view
