-- What may happen next to a session at rest.
use Rattle.std.specs.Prelude.{ℕ, List, [], ◌∷◌}
use Rattle.asio_types.specs.declared.code.Code.{Code}
use Rattle.session_script.specs.Script.{ScriptModel}
use Rattle.session_script.specs.Lanes.{lane_of}
use Rattle.history_rules.specs.Executions.{MayBeginOutside}
use Rattle.history_rules.specs.Requests.{MayTake, MayTurn}
use Rattle.history_rules.specs.Rounds.{AllQuiet, RoundIsOpen}
use Rattle.history_rules.specs.State.{State}
use Rattle.history_rules.specs.Stopping.{MayStart}
use Rattle.execution_laws.specs.Order.{IsKept}

-- in an open round the oldest ready operation may begin, if its lane may
abbrev pub OldestMayBegin : Type 0
OldestMayBegin =
    (script : ScriptModel) (s : State) (op : ℕ) (code : Code) (size : ℕ)
    (newer : List (ℕ × Code × ℕ)) (requests : List ℕ) →
    IsKept script s ((op, code, size) ∷ newer) requests → RoundIsOpen script s.context →
    MayStart s.context (lane_of script op) →
    MayBeginOutside script s.context op code size

-- where a turn of the reactor may begin it may take the oldest request
abbrev pub OldestMayBeTaken : Type 0
OldestMayBeTaken =
    (script : ScriptModel) (s : State) (a : ℕ) (ready : List (ℕ × Code × ℕ)) (newer : List ℕ) →
    IsKept script s ready (a ∷ newer) → MayTurn script s → MayTake script s a

-- where nothing is ready and no request waits, all is quiet
abbrev pub NothingLeftIsQuiet : Type 0
NothingLeftIsQuiet = (script : ScriptModel) (s : State) → IsKept script s [] [] → AllQuiet s
