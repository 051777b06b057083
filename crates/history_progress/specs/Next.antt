-- A legal history that isn't whole has a next event, unless all that is left waits for a guard (Asio
-- reference, io_context::run; executor_work_guard).
use Rattle.std.specs.Prelude.{◌≡◌, ◌⊎◌, ℕ, ◌<◌, Bool, true, false, not, ◌||◌, List, [], ◌∷◌, ◌++◌, Some, Contains, count_by, slice_get}
use Rattle.asio_types.specs.declared.event.Event.{Event}
use Rattle.asio_types.specs.declared.event.Event.TheVariants as event
use Rattle.session_script.specs.declared.act.Act.TheVariants as act
use Rattle.session_script.specs.declared.round.Pace.TheVariants as pace
use Rattle.session_script.specs.declared.round.Round.{Round}
use Rattle.session_script.specs.Script.{ScriptModel, act_of, is_op, opening_of}
use Rattle.session_script.specs.WellFormed.{IsWellFormed}
use Rattle.history_rules.specs.FromOutside.{is_fault, is_outside_stop}
use Rattle.history_rules.specs.Kinds.{is_act, is_control}
use Rattle.history_rules.specs.Legal.{IsLegal, IsLegalSoFar}
use Rattle.history_laws.specs.AfterStop.{is_round_end}
use Rattle.history_laws.specs.Events.{calls_of, ends_of, returns_of, takes_of}

-- an event that is neither a stop from outside nor a failure of the reactor
abbrev pub is_from_within : Event → Bool
is_from_within shown = not (is_outside_stop shown || is_fault shown)

-- one more event from within is legal behind these
pub record HasNext (script : ScriptModel) (told : Bool) (events : List Event) : Type 0 where
  pub next : Event
  pub within : is_from_within next ≡ true
  pub legal : IsLegalSoFar script told (events ++ next ∷ [])

-- all that is left is a guard that nothing releases any more, in a round that waits for it
pub record WaitsForGuard (script : ScriptModel) (told : Bool) (events : List Event) : Type 0 where
  -- each call of `open` was made, and each call that was made is back
  pub opened : (n : ℕ) → Contains (opening_of script) n → calls_of n events ≡ 1
  pub back : (n : ℕ) → returns_of n events ≡ calls_of n events
  -- the handler of each operation that was called has run to its end
  pub ended : (n : ℕ) → is_op script n ≡ true → ends_of n events ≡ calls_of n events
  -- the reactor has taken each control act that was called
  pub taken : (n : ℕ) → is_act is_control script n ≡ true → takes_of n events ≡ calls_of n events
  -- a guard is held, since no release of it was called
  pub guard : ℕ
  pub declared : guard < script.guards
  pub held : (n : ℕ) → act_of script n ≡ Some (act.Release guard) → calls_of n events ≡ 0
  -- the workers of the round call io_context::run, which returns only once no work is left
  pub round : Round
  pub open_round : slice_get script.rounds (count_by is_round_end events) ≡ Some round
  pub runs : round.pace ≡ pace.Run
  -- so no event from within may come
  pub stuck : HasNext script told events → ⊥

-- the last time point passes
abbrev pub is_last_point : Event → Bool
is_last_point event.Last = true
is_last_point _ = false

-- A history that is legal so far is whole, or has a next event from within, or waits for a guard.
-- Where bytes are untold this is so up to the last time point: behind it a turn may go past a side
-- of a stream, and what is pending there then neither completes nor stays.
abbrev pub NoHistoryIsStuck : Type 0
NoHistoryIsStuck =
    (script : ScriptModel) (told : Bool) (events : List Event) → IsWellFormed script →
    IsLegalSoFar script told events → (told ≡ true) ⊎ (count_by is_last_point events ≡ 0) →
    IsLegal script told events ⊎ (HasNext script told events ⊎ WaitsForGuard script told events)
