-- What two beginnings of the same length may differ in and still come to the same state, if what has
-- become of each act is the same: in events that change nothing but an act.
use Rattle.std.specs.Prelude.{◌≡◌, Bool, true, false, not, ◌&&◌, ◌⊎◌, [], Some, None, All, is_some}
use Rattle.asio_types.specs.declared.event.Event.{Event}
use Rattle.asio_types.specs.declared.event.Event.TheVariants as event
use Rattle.history_rules.specs.Kinds.{is_act}
use Rattle.history_rules.specs.State.{Allowances, State}
use Rattle.history_rules.specs.declared.phase.Allowance.TheVariants as allowance
use Rattle.session_script.specs.Script.{ScriptModel, is_stop, parent_of}

-- the event changes nothing but an act and the count of events: what a handler calls, and that it
-- runs; free says that each lane may begin
-- any number of executions
abbrev pub is_quiet : ScriptModel → Bool → Event → Bool
is_quiet script free (event.Call a) = is_some (parent_of script a)
is_quiet script free (event.Back a) = is_some (parent_of script a) && not (is_act is_stop script a)
is_quiet script free (event.Begin op code size) = free
is_quiet script free (event.End op mark) = true
is_quiet script free _ = false

-- whether each lane is known to be free after an event
abbrev pub free_after : ScriptModel → Bool → Event → Bool
free_after script free (event.Back a) = free && not (is_act is_stop script a)
free_after script free event.Ended = false
free_after script free event.Stopped = false
free_after script free event.Restart = true
free_after script free _ = free

-- each lane may begin any number of executions
pub record AreFree (allowances : Allowances) : Type 0 where
  pub strands : All (λ allowed. allowed ≡ allowance.Free) allowances.strands
  pub own : allowances.own ≡ allowance.Free
  pub reactor : allowances.reactor ≡ allowance.Free

-- the same operation completes, with whatever code and size
abbrev pub AreSameDone : Event → Event → Type 0
AreSameDone (event.Done op code size) (event.Done other given moved) = op ≡ other
AreSameDone _ _ = ⊥

-- one event further in two beginnings that stay alike: the same event, two quiet ones, or the same
-- operation completes
abbrev pub MayPair : ScriptModel → Bool → Event → Event → Type 0
MayPair script free first second =
    (first ≡ second) ⊎ AreSameDone first second
    ⊎ ((is_quiet script free first ≡ true) × (is_quiet script free second ≡ true))

-- the state but for its acts
abbrev pub bare : State → State
bare s = record s { context = record s.context { acts = [] } }
