-- What comes in one critical section.
use Rattle.std.specs.Prelude.{◌≡◌, ℕ, Bool, true, false, List, [], ◌∷◌, map, None, Option}
use Rattle.asio_types.specs.declared.code.Code.{Code}
use Rattle.asio_types.specs.declared.code.Code.TheVariants as code
use Rattle.io_rules.specs.declared.control.Control.{Control}
use Rattle.io_rules.specs.declared.event.Event.{Event}
use Rattle.io_rules.specs.declared.event.Event.TheVariants as event
use Rattle.io_rules.specs.declared.limits.Limits.{Limits}
use Rattle.io_rules.specs.Changes.{reached}
use Rattle.io_rules.specs.Legal.{MayHappen, after, state_of}
use Rattle.io_rules.specs.State.{ContextState}
use Rattle.io_rules.specs.Timers.{due}
use Rattle.io_scheduler.specs.Sections.{NotesNothing}

-- the state behind these events, oldest first
abbrev pub behind : List Event → ContextState → ContextState
behind [] s = s
behind (e ∷ events) s = behind events (after e s)

-- they may come, one after another
abbrev pub MayCome : List Event → ContextState → Type 0
MayCome [] s = Unit {0}
MayCome (e ∷ events) s = MayHappen s e × MayCome events (after e s)

-- the history behind them
abbrev pub with_events : List Event → List Event → List Event
with_events [] past = past
with_events (e ∷ events) past = with_events events (e ∷ past)

-- they came
pub record HaveCome (limits : Limits) (events old new : List Event) : Type 0 where
  pub may : MayCome events (state_of limits old)
  pub is : new ≡ with_events events old

-- these operations complete, in this order
abbrev pub completions : Code → List ℕ → List Event
completions given numbers = map (λ n. event.Done n given 0) numbers

-- a change, and what it cancels completes at once
abbrev pub changes : Option ℕ → Control → ContextState → List Event
changes by change s = event.Changed by change ∷ completions code.Aborted (reached s change)

-- these come, one after another, and lead from one state to the other
pub record LeadTo (events : List Event) (old new : ContextState) : Type 0 where
  pub may : MayCome events old
  pub is : new ≡ behind events old

-- it is made, and what it cancels has completed
abbrev pub IsChanged : Option ℕ → Control → ContextState → ContextState → Type 0
IsChanged by change old new = LeadTo (changes by change old) old new

-- a critical section in which these events came, oldest first
pub record NotesAll (limits : Limits) (events : List Event) (before after : List Event) (old new : ContextState) :
    Type 0 where
  pub may : MayCome events old
  pub all : after ≡ with_events events before
  pub from : state_of limits before ≡ old
  pub to : state_of limits after ≡ new

-- where there is what they reach; else nothing is noted
abbrev pub NotesAllIf : Bool → Limits → List Event → List Event → List Event → ContextState → ContextState → Type 0
NotesAllIf true limits events before after old new = NotesAll limits events before after old new
NotesAllIf false limits events before after old new = NotesNothing limits before after old

-- the clock has come to this time, and all waits that are due then complete
pub record HavePassed (now : ℕ) (old new : ContextState) : Type 0 where
  pub ops : List ℕ
  pub may : MayCome (event.Passed now ∷ completions code.Ok ops) old
  pub is : new ≡ behind (event.Passed now ∷ completions code.Ok ops) old
  pub over : due new ≡ None
