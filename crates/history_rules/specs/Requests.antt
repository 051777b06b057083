-- When the reactor takes a request, and when an operation completes (Asio reference, Overview, "The
-- Proactor Design Pattern").
use Rattle.std.specs.Prelude.{◌≡◌, ◌⊎◌, ℕ, ◌==◌, Bool, true, false, List, [], ◌∷◌, Option, Some, None, IsSome, if◌then◌else◌}
use Rattle.std.specs.Option.{unwrap_or}
use Rattle.std.specs.List.{slice_get, slice_index_or, slice_set}
use Rattle.asio_types.specs.declared.code.Code.{Code}
use Rattle.asio_types.specs.declared.number.Lane.TheVariants as lane
use Rattle.session_script.specs.declared.act.Act.{Act}
use Rattle.session_script.specs.Script.{ScriptModel, act_of}
use Rattle.stream_rules.specs.declared.queue.Completion.{Completion}
use Rattle.history_rules.specs.declared.phase.ActPhase.TheVariants as phase
use Rattle.history_rules.specs.declared.phase.Cause.TheVariants as cause
use Rattle.history_rules.specs.Kinds.{slot_of}
use Rattle.history_rules.specs.Order.{is_untaken, IsFirstRequest}
use Rattle.history_rules.specs.Performing.{performed}
use Rattle.history_rules.specs.Rounds.{RoundIsOpen, IsDrained}
use Rattle.history_rules.specs.Settling.{settled}
use Rattle.history_rules.specs.State.{State, ContextState, ReactorHalf, with_phase, counted}
use Rattle.history_rules.specs.Stopping.{MayStart, spend}
use Rattle.history_rules.specs.Untold.{IsToldAs, MayGiveUntold, gone}

-- a turn of the reactor may begin
pub record MayTurn (script : ScriptModel) (s : State) : Type 0 where
  pub round : RoundIsOpen script s.context
  pub working : s.reactor.failed ≡ false
  pub told : s.reactor.due ≡ []
  pub drained : IsDrained s.reactor
  pub allowed : MayStart s.context lane.Reactor

-- requests are taken one at a time, in order
pub record MayTake (script : ScriptModel) (s : State) (a : ℕ) : Type 0 where
  pub turn : MayTurn script s
  pub untaken : is_untaken s a ≡ true
  pub first : IsFirstRequest s a

-- a turn of the reactor begins here
abbrev pub turn_begun : ContextState → ContextState
turn_begun s = counted (spend lane.Reactor (record s { turn = Some s.events }))

-- the act is performed, and what completes by it is due
abbrev pub reactor_after_take : ScriptModel → Bool → ReactorHalf → ℕ → ReactorHalf
reactor_after_take script told r a = settled told (performed script a r)

-- the operation is the head of what is due, with this code and size
pub record IsNextDue (script : ScriptModel) (told : Bool) (r : ReactorHalf) (o : ℕ) (code : Code)
    (size : ℕ) : Type 0 where
  pub head : Completion
  pub due : slice_get r.due 0 ≡ Some head
  pub is_op : head.op ≡ o
  pub outcome : IsToldAs told (act_of script o) head.outcome code size

-- nothing is due that is fixed, and the operation's stream gives this
pub record IsGivenUntold (script : ScriptModel) (told : Bool) (r : ReactorHalf) (o : ℕ)
    (code : Code) (size : ℕ) : Type 0 where
  pub untold : told ≡ false
  pub fixed : r.due ≡ []
  pub given : MayGiveUntold r o (act_of script o) code size

-- what is due completes in order, and where bytes are untold streams may give more
abbrev pub MayTell : ScriptModel → Bool → ReactorHalf → ℕ → Code → ℕ → Type 0
MayTell script told r o code size =
    IsNextDue script told r o code size ⊎ IsGivenUntold script told r o code size

-- an operation completes
pub record MayComplete (script : ScriptModel) (told : Bool) (s : State) (o : ℕ) (code : Code)
    (size : ℕ) : Type 0 where
  pub working : s.reactor.failed ≡ false
  pub next : MayTell script told s.reactor o code size
  -- where nothing is due the turn isn't over
  pub turn : s.reactor.due ≡ [] → IsSome s.context.turn

-- the operation is ready
abbrev pub context_after_done : ContextState → ℕ → Code → ℕ → ContextState
context_after_done s o code size =
    counted (with_phase s o (phase.Ready code size (cause.Completed s.events (unwrap_or s.turn 0))))

-- what a slot has once an operation has completed
abbrev pub released : ℕ → Option ℕ → Option ℕ
released o None = None
released o (Some connected) = if connected == o then None else Some connected

-- the operation leaves its slot, unless another has replaced it there
abbrev pub disconnected : ℕ → Option ℕ → ReactorHalf → ReactorHalf
disconnected o None r = r
disconnected o (Some slot) r =
    record r { slots = slice_set r.slots slot (released o (slice_index_or r.slots slot None)) }

abbrev pub slot_in : Option Act → Option ℕ
slot_in None = None
slot_in (Some act) = slot_of act

-- it leaves what is due, or where nothing was due the queue of its stream
abbrev pub told_off : ScriptModel → ℕ → ReactorHalf → List Completion → ReactorHalf
told_off script o r [] = gone (act_of script o) r
told_off script o r (head ∷ due) = record r { due = due }

abbrev pub reactor_after_done : ScriptModel → ReactorHalf → ℕ → ReactorHalf
reactor_after_done script r o =
    disconnected o (slot_in (act_of script o))
    (record (told_off script o r r.due) { whole_turn = false })
