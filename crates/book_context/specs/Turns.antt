-- What the turns of the reactor leave of the lists of a session.
use Rattle.std.specs.Prelude.{◌≡◌, ◌<◌, ◌≤◌, ℕ, ◌+◌, Bool, true, List, [], ◌∷◌, ◌++◌, length}
use Rattle.std.specs.Option.{unwrap_or}
use Rattle.asio_types.specs.Faults.{most_faults}
use Rattle.asio_types.specs.declared.code.Code.{Code}
use Rattle.asio_types.specs.declared.event.Event.TheVariants as event
use Rattle.session_script.specs.Script.{ScriptModel}
use Rattle.session_script.specs.WellFormed.{IsWellFormed}
use Rattle.history_rules.specs.declared.phase.ActPhase.TheVariants as phase
use Rattle.history_rules.specs.Legal.{after_event}
use Rattle.history_rules.specs.Order.{was_taken}
use Rattle.history_rules.specs.State.{State, phase_at}
use Rattle.execution_laws.specs.Order.{IsKept}

-- when the oldest request is taken, the others wait as before
abbrev pub TakingKeepsOrder : Type 0
TakingKeepsOrder =
    (script : ScriptModel) (told : Bool) (s : State) (a : ℕ) (ready : List (ℕ × Code × ℕ))
    (newer : List ℕ) →
    IsWellFormed script → length s.reactor.taken ≡ length script.acts →
    s.context.events + 1 < most_faults →
    IsKept script s ready (a ∷ newer) →
    IsKept script (after_event script told s (event.Take a)) ready newer

-- when an operation that was taken completes, it is ready behind all others
abbrev pub TellingKeepsOrder : Type 0
TellingKeepsOrder =
    (script : ScriptModel) (told : Bool) (s : State) (op : ℕ) (code : Code) (size : ℕ)
    (ready : List (ℕ × Code × ℕ)) (requests : List ℕ) →
    phase_at s.context op ≡ phase.Requested → was_taken s.reactor op ≡ true →
    s.context.events + 1 < most_faults →
    IsKept script s ready requests →
    IsKept script (after_event script told s (event.Done op code size))
    (ready ++ (op, code, size) ∷ []) requests

-- what changes neither an act nor what was taken changes neither list
pub record IsSameOrder (s t : State) : Type 0 where
  pub acts : t.context.acts ≡ s.context.acts
  pub taken : t.reactor.taken ≡ s.reactor.taken
  pub later : s.context.events ≤ t.context.events
  pub counted : t.context.events ≤ most_faults
  pub turn : unwrap_or t.context.turn 0 ≤ t.context.events

abbrev pub OthersKeepOrder : Type 0
OthersKeepOrder =
    (script : ScriptModel) (s t : State) (ready : List (ℕ × Code × ℕ)) (requests : List ℕ) →
    IsSameOrder s t → IsKept script s ready requests → IsKept script t ready requests
