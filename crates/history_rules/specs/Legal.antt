-- Legal histories of a script on one io_context.
use Rattle.std.specs.Prelude.{◌≡◌, ◌↔◌, ◌⊎◌, Bool, true, false, List, [], ◌∷◌, Some, None, All}
use Rattle.asio_types.specs.declared.event.Event.{Event}
use Rattle.asio_types.specs.declared.event.Event.TheVariants as event
use Rattle.session_script.specs.Script.{ScriptModel}
use Rattle.history_rules.specs.Calls.{MayCall, MayReturn, MayStop, after_call, after_return, after_stop}
use Rattle.history_rules.specs.Executions.{MayBegin, MayEnd, after_begin, after_end}
use Rattle.history_rules.specs.Requests.{MayTake, MayComplete, turn_begun, context_after_done, reactor_after_done, reactor_after_take}
use Rattle.history_rules.specs.Rounds.{AllClosed, MayDrop, MayEndPoll, MayEndRound, MayRestart, MayStopRound, RoundIsOpen, is_unspent, after_closing, after_drop, after_outside_stop, after_poll, after_restart}
use Rattle.history_rules.specs.State.{State, ContextState, ReactorHalf, first_state}
use Rattle.history_rules.specs.Time.{MayDrain, MayFault, MayTick, context_after_fault, reactor_after_fault, reactor_after_last, reactor_after_tick}

-- The event may come next; told says whether the reactor tells its bytes.
abbrev pub MayHappen : ScriptModel → Bool → State → Event → Type 0
MayHappen script told s (event.Call a) = MayCall script s.reactor.failed s.context a
MayHappen script told s (event.Back a) = MayReturn script s.context a
MayHappen script told s (event.Stop (Some a)) = MayStop script s.context a
MayHappen script told s (event.Stop None) = RoundIsOpen script s.context
MayHappen script told s (event.Begin o code size) = MayBegin script s.context o code size
MayHappen script told s (event.End o mark) = MayEnd script s.context o
MayHappen script told s (event.Take a) = MayTake script s a
MayHappen script told s (event.Done o code size) = MayComplete script told s o code size
MayHappen script told s (event.Tick now) = MayTick script s now
MayHappen script told s event.Last = MayDrain script s
MayHappen script told s event.Fault = MayFault script s
MayHappen script told s event.Ended = MayEndRound script s
MayHappen script told s event.Stopped = MayStopRound script s
MayHappen script told s event.Polled = MayEndPoll script s
MayHappen script told s event.Restart = MayRestart script s
MayHappen script told s (event.Dropped o mark) = MayDrop script s o

-- what an event makes of the context
abbrev pub context_after : ScriptModel → ContextState → Event → ContextState
context_after script s (event.Call a) = after_call script s a
context_after script s (event.Back a) = after_return script s a
context_after script s (event.Stop (Some a)) = after_stop s a
context_after script s (event.Stop None) = after_outside_stop s
context_after script s (event.Begin o code size) = after_begin script s o code
context_after script s (event.End o mark) = after_end s o
context_after script s (event.Take a) = turn_begun s
context_after script s (event.Done o code size) = context_after_done s o code size
context_after script s (event.Tick now) = turn_begun s
context_after script s event.Last = turn_begun s
context_after script s event.Fault = context_after_fault s
context_after script s event.Ended = after_closing s
context_after script s event.Stopped = after_closing s
context_after script s event.Polled = after_poll s
context_after script s event.Restart = after_restart s
context_after script s (event.Dropped o mark) = after_drop s o

-- what an event makes of the reactor
abbrev pub reactor_after : ScriptModel → Bool → ReactorHalf → Event → ReactorHalf
reactor_after script told r (event.Take a) = reactor_after_take script told r a
reactor_after script told r (event.Done o code size) = reactor_after_done script r o
reactor_after script told r (event.Tick now) = reactor_after_tick script told r now
reactor_after script told r event.Last = reactor_after_last told r
reactor_after script told r event.Fault = reactor_after_fault r
reactor_after script told r _ = r

-- the state after an event: each half knows its own
abbrev pub after_event : ScriptModel → Bool → State → Event → State
after_event script told s event =
    record {
      context = context_after script s.context event;
      reactor = reactor_after script told s.reactor event;
    }

-- the state after these events, from this one on
abbrev pub state_from : ScriptModel → Bool → State → List Event → State
state_from script told s [] = s
state_from script told s (event ∷ events) =
    state_from script told (after_event script told s event) events

-- the state of a history
abbrev pub state_of : ScriptModel → Bool → List Event → State
state_of script told events = state_from script told (first_state script told) events

-- each event may happen in the state of the events before it
abbrev pub IsLegalFrom : ScriptModel → Bool → State → List Event → Type 0
IsLegalFrom script told s [] = Unit {0}
IsLegalFrom script told s (event ∷ events) =
    MayHappen script told s event × IsLegalFrom script told (after_event script told s event) events

abbrev pub IsLegalSoFar : ScriptModel → Bool → List Event → Type 0
IsLegalSoFar script told events = IsLegalFrom script told (first_state script told) events

-- all rounds are closed or the reactor failed, and each accepted operation's handler was run or
-- destroyed
pub record IsWhole (script : ScriptModel) (s : State) : Type 0 where
  pub over : AllClosed script s.context ⊎ (s.reactor.failed ≡ true)
  pub spent : All (λ act. is_unspent act.phase ≡ false) s.context.acts

pub record IsLegal (script : ScriptModel) (told : Bool) (events : List Event) : Type 0 where
  pub legal : IsLegalSoFar script told events
  pub whole : IsWhole script (state_of script told events)

-- two scripts have the same legal histories, whether bytes are told or not
abbrev pub HaveSameHistories : ScriptModel → ScriptModel → Type 0
HaveSameHistories first second =
    (told : Bool) (events : List Event) → IsLegal first told events ↔ IsLegal second told events
