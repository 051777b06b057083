-- The rounds that a context records: how they close, restarts, and stops from outside.
use Rattle.std.specs.Prelude.{◌≡◌, ◌<◌, ◌≤◌, ◌+◌, Bool, true, false, [], None, count_by, length, slice_get}
use Rattle.asio_types.specs.declared.event.Event.TheVariants as event
use Rattle.history_rules.specs.Rounds.{IsDrained, is_held, outstanding_work, restarts, runs}
use Rattle.history_rules.specs.Time.{pending_count}
use Rattle.book_context.specs.Recorded.{IsRecorded, recorded_half, recorded_state}
use Rattle.book_context.specs.Recording.{Recording, with_closing, with_outside_stop, with_restart}
use Rattle.book_context.specs.Steps.{EventIsRecorded, IsRoundOpen}
use Rattle.book_context.specs.TurnSteps.{CanTurnNow}

-- the outstanding work, by what the context and its reactor hold
abbrev pub WorkIsKnown : Type 0
WorkIsKnown =
    (told : Bool) (r : Recording) → IsRecorded told r → (recorded_half told r).failed ≡ false →
    outstanding_work (recorded_state told r)
    ≡ length r.ready + length r.requests + pending_count (recorded_half told r)
    + count_by is_held (recorded_half told r).guards

-- the context ran out of work
abbrev pub EndsAreRecorded : Type 0
EndsAreRecorded =
    (told : Bool) (r : Recording) →
    IsRecorded told r → IsRoundOpen r → r.stopped ≡ false →
    outstanding_work (recorded_state told r) ≡ 0 →
    EventIsRecorded told r event.Ended (with_closing event.Ended true r)

-- the context was stopped, and its reactor has nothing left to tell
pub record IsHalted (told : Bool) (r : Recording) : Type 0 where
  pub round : IsRoundOpen r
  pub halted : r.stopped ≡ true
  pub working : (recorded_half told r).failed ≡ false
  pub nothing_due : (recorded_half told r).due ≡ []
  pub drained : IsDrained (recorded_half told r)

abbrev pub StopsAreRecorded : Type 0
StopsAreRecorded =
    (told : Bool) (r : Recording) → IsRecorded told r → IsHalted told r →
    EventIsRecorded told r event.Stopped (with_closing event.Stopped true r)

-- polling has done all that it can without waiting
pub record IsPolled (told : Bool) (r : Recording) : Type 0 where
  pub turn : CanTurnNow told r
  pub polls : runs (slice_get r.script.rounds r.closings) ≡ false
  pub none_ready : r.ready ≡ []
  pub none_asked : r.requests ≡ []
  pub outstanding : 1 ≤ outstanding_work (recorded_state told r)

abbrev pub PollsAreRecorded : Type 0
PollsAreRecorded =
    (told : Bool) (r : Recording) → IsRecorded told r → IsPolled told r →
    EventIsRecorded told r event.Polled (with_closing event.Polled false r)

-- the round wants a restart, which hasn't come
pub record WantsRestart (told : Bool) (r : Recording) : Type 0 where
  pub left : r.closings < length r.script.rounds
  pub wanted : restarts (slice_get r.script.rounds r.closings) ≡ true
  pub once : r.restarted ≡ false
  pub working : (recorded_half told r).failed ≡ false

abbrev pub RestartsAreRecorded : Type 0
RestartsAreRecorded =
    (told : Bool) (r : Recording) → IsRecorded told r → WantsRestart told r →
    EventIsRecorded told r event.Restart (with_restart r)

-- somebody outside stops a context that isn't stopped; room for that is reserved
abbrev pub OutsideStopsAreRecorded : Type 0
OutsideStopsAreRecorded =
    (told : Bool) (r : Recording) →
    IsRecorded told r → IsRoundOpen r → r.stopped ≡ false →
    EventIsRecorded told r (event.Stop None) (with_outside_stop r)
