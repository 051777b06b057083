-- Legal histories of an io_context.
use Rattle.std.specs.Prelude.{◌≡◌, ◌≤◌, ℕ, true, false, List, [], ◌∷◌}
use Rattle.io_rules.specs.declared.event.Event.{Event}
use Rattle.io_rules.specs.declared.event.Event.TheVariants as event
use Rattle.io_rules.specs.declared.limits.Limits.{Limits}
use Rattle.io_rules.specs.Calls.{MayCall, after_call}
use Rattle.io_rules.specs.Changes.{MayChange, after_change}
use Rattle.io_rules.specs.Completing.{MayBeDone, after_done}
use Rattle.io_rules.specs.Executions.{MayBegin, MayEnd, MayGrant, after_begin, after_end, after_grant}
use Rattle.io_rules.specs.State.{ContextState, first_state}
use Rattle.io_rules.specs.Stopping.{IsAtRest, MayDrop, MayLeave, after_drop, after_finishing, after_leave, after_restart}
use Rattle.io_rules.specs.Tries.{MayReturn, MaySearch, MayTry, after_back, after_search, after_try}

-- the clock never falls
pub record MayPass (s : ContextState) (now : ℕ) : Type 0 where
  pub going : s.finishing ≡ false
  pub later : s.now ≤ now

abbrev pub after_pass : ℕ → ContextState → ContextState
after_pass now s = record s { now = now }

-- the event may come next
abbrev pub MayHappen : ContextState → Event → Type 0
MayHappen s (event.Called op by request gone) = MayCall s op by request gone
MayHappen s (event.Changed by change) = MayChange s by change
MayHappen s (event.Passed now) = MayPass s now
MayHappen s (event.Granted op spares) = MayGrant s op spares
MayHappen s (event.Tried stream side reserved) = MayTry s stream side reserved
MayHappen s (event.Back stream side gave) = MayReturn s stream side gave
MayHappen s (event.Searched stream end) = MaySearch s stream end
MayHappen s (event.Done op code size) = MayBeDone s op code size
MayHappen s (event.Begun op spares) = MayBegin s op spares
MayHappen s (event.Ended op mark) = MayEnd s op mark
MayHappen s event.Returned = MayLeave s
MayHappen s event.Restarted = IsAtRest s
MayHappen s event.Finishing = IsAtRest s
MayHappen s (event.Dropped op mark) = MayDrop s op mark

-- the state behind it
abbrev pub after : Event → ContextState → ContextState
after (event.Called op by request gone) s = after_call op by request gone s
after (event.Changed by change) s = after_change by change s
after (event.Passed now) s = after_pass now s
after (event.Granted op spares) s = after_grant op spares s
after (event.Tried stream side reserved) s = after_try stream side reserved s
after (event.Back stream side gave) s = after_back stream side gave s
after (event.Searched stream end) s = after_search stream end s
after (event.Done op code size) s = after_done op code size s
after (event.Begun op spares) s = after_begin op spares s
after (event.Ended op mark) s = after_end op s
after event.Returned s = after_leave s
after event.Restarted s = after_restart s
after event.Finishing s = after_finishing s
after (event.Dropped op mark) s = after_drop op s

-- one step of a context
pub record IsStep (old : ContextState) (e : Event) (new : ContextState) : Type 0 where
  pub may : MayHappen old e
  pub is : new ≡ after e old

-- the state of a history, whose newest event stands first
abbrev pub state_of : Limits → List Event → ContextState
state_of limits [] = first_state limits
state_of limits (e ∷ past) = after e (state_of limits past)

-- each event may come in the state of those before it
abbrev pub IsLegal : Limits → List Event → Type 0
IsLegal limits [] = Unit {0}
IsLegal limits (e ∷ past) = MayHappen (state_of limits past) e × IsLegal limits past

-- the context is destroyed, and each accepted operation's handler was executed or destroyed
pub record IsWhole (s : ContextState) : Type 0 where
  pub finishing : s.finishing ≡ true
  pub spent : s.ops ≡ []
