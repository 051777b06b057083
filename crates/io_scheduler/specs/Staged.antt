-- What a handler staged while it executed takes effect in the order of its calls, and then it has ended.
use Rattle.std.specs.Prelude.{◌≡◌, ◌+◌, ℕ, Bool, false, List, [], ◌∷◌, Option, None, Some, min}
use Rattle.io_rules.specs.declared.control.Control.{Control}
use Rattle.io_rules.specs.declared.control.Control.TheVariants as control
use Rattle.io_rules.specs.declared.event.Event.{Event}
use Rattle.io_rules.specs.declared.event.Event.TheVariants as event
use Rattle.io_rules.specs.declared.name.Kind.TheVariants as kind
use Rattle.io_rules.specs.declared.request.Marks.{Marks}
use Rattle.io_rules.specs.declared.request.Request.{Request}
use Rattle.io_rules.specs.declared.spares.Spares.{Spares}
use Rattle.io_rules.specs.Calls.{gone_of}
use Rattle.io_rules.specs.Changes.{is_forgotten}
use Rattle.io_rules.specs.Legal.{IsStep}
use Rattle.io_rules.specs.Room.{one_if}
use Rattle.io_rules.specs.State.{ContextState}
use Rattle.io_handlers.specs.declared.staged.Staged.{Staged}
use Rattle.io_handlers.specs.declared.staged.Staged.TheVariants as staged
use Rattle.io_handlers.specs.Initiated.{request_of}
use Rattle.io_scheduler.specs.Closing.{frees}
use Rattle.io_scheduler.specs.Come.{MayCome, behind, changes}
use Rattle.io_scheduler.specs.Ended.{mark_of}
use Rattle.io_scheduler.specs.Running.{Execution}
use Rattle.io_scheduler.specs.Transferred.{code_at_once, done_if}

-- the call, and the completion if it completes at once: where something that it names is gone, or as an
-- operation on a stream does
abbrev pub called_by : ℕ → Request → ContextState → List Event
called_by by request s =
    event.Called s.next (Some by) request (gone_of s request)
    ∷ done_if s.next (code_at_once s request.kind (gone_of s request))

-- what the clock shows; where it can't be read, what it showed last
abbrev pub reading_or : Option ℕ → ContextState → ℕ
reading_or None s = s.now
reading_or (Some now) s = now

-- so much later, as far as there are such times
abbrev pub later_by : ℕ → ℕ → ℕ
later_by now after = min (now + after) 18446744073709551615

-- a change, and what it settles completes at once
abbrev pub changed_by : ℕ → Control → ContextState → List Event
changed_by by (control.Free kind.Stream name) s = frees (Some by) kind.Stream name s
changed_by by (control.Free kind.Listener name) s = frees (Some by) kind.Listener name s
changed_by by change s = changes (Some by) change s

-- the events of a call by the handler of this operation, oldest first; it has returned at this time
abbrev pub events_of : {H S : Type 0} → (H → Marks) → ℕ → ℕ → Staged H S → ContextState → List Event
events_of marks by now (staged.Called call) s = called_by by (request_of marks call) s
events_of marks by now (staged.Changed change) s = changed_by by change s
events_of marks by now (staged.ExpiresAfter timer after) s =
    changes (Some by) (control.Expires timer (later_by now after)) s
events_of marks by now (staged.MadeStrand name state) s = changes (Some by) (control.Make kind.Strand name) s

-- the handler of this operation initiates another one
pub record IsCalled (by : ℕ) (request : Request) (old new : ContextState) : Type 0 where
  pub may : MayCome (called_by by request old) old
  pub is : new ≡ behind (called_by by request old) old

-- one call takes effect
pub record IsCommitted {H S : Type 0} (marks : H → Marks) (by now : ℕ) (call : Staged H S) (old new : ContextState) :
    Type 0 where
  pub may : MayCome (events_of marks by now call old) old
  pub is : new ≡ behind (events_of marks by now call old) old

-- the state behind all calls
abbrev pub staged_behind : {H S : Type 0} → (H → Marks) → ℕ → ℕ → List (Staged H S) → ContextState → ContextState
staged_behind marks by now [] s = s
staged_behind marks by now (call ∷ calls) s =
    staged_behind marks by now calls (behind (events_of marks by now call s) s)

-- all calls take effect, one after another
abbrev pub AreStaged : {H S : Type 0} → (H → Marks) → ℕ → ℕ → List (Staged H S) → ContextState → Type 0
AreStaged marks by now [] s = Unit {0}
AreStaged marks by now (call ∷ calls) s =
    MayCome (events_of marks by now call s) s
    × AreStaged marks by now calls (behind (events_of marks by now call s) s)

-- a strand that is freed and has no operations is forgotten, and its state is to be retired
abbrev pub retires : Control → ContextState → Bool
retires (control.Free kind.Strand name) s = is_forgotten s kind.Strand name
retires _ s = false

abbrev pub is_retiring : {H S : Type 0} → Staged H S → ContextState → Bool
is_retiring (staged.Changed change) s = retires change s
is_retiring _ s = false

-- for so many of these calls
abbrev pub retired_by : {H S : Type 0} → (H → Marks) → ℕ → ℕ → List (Staged H S) → ContextState → ℕ
retired_by marks by now [] s = 0
retired_by marks by now (call ∷ calls) s =
    one_if (is_retiring call s) + retired_by marks by now calls (behind (events_of marks by now call s) s)

-- all that its handler staged takes effect, and then it has ended with this mark; it returned at this time
pub record IsEnded {H S : Type 0} (marks : H → Marks) (op now : ℕ) (calls : List (Staged H S)) (mark : ℕ)
    (old new : ContextState) : Type 0 where
  pub staged : AreStaged marks op now calls old
  pub ended : IsStep (staged_behind marks op now calls old) (event.Ended op mark) new

-- the same execution, which has initiated so many operations more, and to which these names are left
pub record GoesOn (many : ℕ) (left : Spares) (old new : Execution) : Type 0 where
  pub op : new.op ≡ old.op
  pub lane : new.lane ≡ old.lane
  pub places : new.places + many ≡ old.places
  pub spares : new.spares ≡ left
  pub mark : mark_of new.held ≡ mark_of old.held
