-- That an emit aborts the member that it reaches before the reactor does anything else.
use Rattle.std.specs.Prelude.{◌≡◌, ℕ, ◌≤◌, Bool, true, false, All, List, ◌∷◌, ◌++◌, Some, None, count_by}
use Rattle.asio_types.specs.declared.code.Code.TheVariants as code
use Rattle.asio_types.specs.declared.event.Event.{Event}
use Rattle.asio_types.specs.declared.event.Event.TheVariants as event
use Rattle.session_script.specs.declared.act.Act.{Act}
use Rattle.session_script.specs.declared.act.Act.TheVariants as act
use Rattle.session_script.specs.Script.{ScriptModel, act_of}
use Rattle.history_rules.specs.Kinds.{slot_of}
use Rattle.history_rules.specs.Legal.{IsLegalSoFar, state_of}
use Rattle.history_rules.specs.Performing.{is_of, is_reached, is_wait_for, queues_at}
use Rattle.history_rules.specs.State.{ReactorHalf, State}
use Rattle.group_script.specs.Group.{Group, script_of}
use Rattle.group_script.specs.Limits.{FitsGroup}

-- the operation of this act is pending: it is among the reactor's waits, or among the reads of its
-- stream
abbrev pub IsPending : ReactorHalf → ℕ → Act → Type 0
IsPending r o (act.Wait timer strand slot filter) = 1 ≤ count_by (is_wait_for o) r.waits
IsPending r o (act.ReadAll stream size strand slot filter) =
    1 ≤ count_by (is_of o) (queues_at r stream).reads
IsPending r o _ = ⊥

-- act a emits types at the slot of operation o, which is pending, supports one of them and lets it
-- through
pub record ReachesPending (script : ScriptModel) (s : State) (a o : ℕ) : Type 0 where
  pub slot : ℕ
  pub types : ℕ
  pub made : Act
  pub emits : act_of script a ≡ Some (act.Emit slot types)
  pub is : act_of script o ≡ Some made
  pub connected : slot_of made ≡ Some slot
  pub reached : is_reached made types ≡ true
  pub pending : IsPending s.reactor o made

-- an event of a handler or of the calls that it makes, or a stop from outside
abbrev pub is_apart : Event → Bool
is_apart (event.Call a) = true
is_apart (event.Back a) = true
is_apart (event.Begin o code size) = true
is_apart (event.End o mark) = true
is_apart (event.Stop None) = true
is_apart _ = false

-- the operation completes with operation_aborted, or the reactor fails
abbrev pub AbortsOrFails : ℕ → Event → Type 0
AbortsOrFails o (event.Done op code.Aborted size) = op ≡ o
AbortsOrFails o event.Fault = Unit {0}
AbortsOrFails o _ = ⊥

-- behind the take of such an emit, the next event that isn't a handler's
abbrev pub EmitsAbortPendingMembers : Type 0
EmitsAbortPendingMembers =
    (g : Group) → FitsGroup g → (told : Bool) (before between after : List Event) (a o : ℕ)
    (next : Event) →
    IsLegalSoFar (script_of g) told (before ++ event.Take a ∷ (between ++ next ∷ after)) →
    ReachesPending (script_of g) (state_of (script_of g) told before) a o →
    All (λ e. is_apart e ≡ true) between → is_apart next ≡ false → AbortsOrFails o next
