-- How a turn of the reactor begins, and how it breaks off.
use Rattle.std.proofs.Common.{◌≡◌, ◌≢◌, ℕ, Bool, false, [], ◌∷◌, ◌++◌, refl, ap, ◌∙◌}
use Rattle.std.proofs.lemmas.List.Folds.{list_any-append}
use Rattle.asio_types.specs.declared.event.Event.{Event}
use Rattle.asio_types.specs.declared.event.Event.TheVariants as event
use Rattle.asio_types.specs.declared.outside.Point.{Point}
use Rattle.asio_types.specs.declared.outside.Point.TheVariants as point
use Rattle.op_handlers.specs.Marks.{own_marks}
use Rattle.op_handlers.specs.declared.call.Call.{Call}
use Rattle.session_script.specs.Script.{ScriptModel}
use Rattle.history_rules.specs.FromOutside.{has_outside_stop, is_outside_stop}
use Rattle.history_rules.specs.Legal.{after_event}
use Rattle.history_rules.specs.Requests.{reactor_after_take}
use Rattle.history_rules.specs.State.{ReactorHalf, State}
use Rattle.history_rules.specs.Time.{next_time}
use Rattle.proactor_core.specs.Proactor.{after_point}
use Rattle.execution_laws.proofs.ShownLemmas.{marks_go_on}
use Rattle.book_context.specs.Book.{KeepsHistory}
use Rattle.book_context.specs.BookSteps.{BeginsTurn, passed_event}
use Rattle.book_context.specs.InTurn.{HasBegun}
use Rattle.book_context.specs.Oldest.{with_request}
use Rattle.book_context.specs.Recorded.{IsRecorded, recorded_half, recorded_state}
use Rattle.book_context.specs.Recording.{Recording, with_event, with_fault}
use Rattle.book_context.specs.Steps.{IsRoundOpen}
use Rattle.book_context.specs.TurnSteps as steps
use Rattle.book_context.proofs.BookHistoryLemmas.{IsPlain, alone-behind, faults-plain, history-plain, or_false}

module _ (script : ScriptModel) (told : Bool) (run : ℕ → Call → ℕ) (drop : ℕ → ℕ) (outside : Bool) where
  -- the oldest request is taken
  module _ (r : Recording) (a : ℕ) (keeps : KeepsHistory script told run drop outside (with_request a r))
      (did : steps.HasTaken told (with_request a r) a r.requests) where
    pub take_plain : IsPlain run drop (r.events ++ event.Take a ∷ []) (event.Take a ∷ [])
    take_plain = record { marked = (tt, tt); working = refl; inside = refl }

    pub take_history : KeepsHistory script told run drop outside (with_event (event.Take a) r)
    take_history =
        history-plain script told run drop outside (with_request a r) (with_event (event.Take a) r) (event.Take a ∷ [])
        keeps did.turned.goes.recorded refl refl take_plain

    pub take_begun : IsRoundOpen r →
        HasBegun told r (with_event (event.Take a) r) (reactor_after_take r.script told (recorded_half told r) a)
    take_begun round = record {
      event = event.Take a;
      begins = tt;
      is = refl;
      script = refl;
      stopped = refl;
      round = record { left = round.left; restarted = round.restarted };
      is_half = ap (λ (s : State). s.reactor) did.turned.goes.state;
      turn = did.turned.turn;
      whole = did.turned.whole;
      works = did.turned.working;
      spent = did.turned.goes.spent;
      faults = faults-plain run drop r.events (event.Take a ∷ []) take_plain;
    }

  -- time moves to a point
  module _ (r : Recording) (keeps : KeepsHistory script told run drop outside r) (round : IsRoundOpen r) where
    point_begun : (event : Event) → IsPlain run drop (r.events ++ event ∷ []) (event ∷ []) → BeginsTurn event → (half : ReactorHalf) →
        (after_event r.script told (recorded_state told r) event).reactor ≡ half →
        steps.TurnIsBegun told r event (with_event event r) → HasBegun told r (with_event event r) half
    point_begun event plain begins half is_half did = record {
      event = event;
      begins = begins;
      is = refl;
      script = refl;
      stopped = refl;
      round = record { left = round.left; restarted = round.restarted };
      is_half = ap (λ (s : State). s.reactor) did.goes.state ∙ is_half;
      turn = did.turn;
      whole = did.whole;
      works = did.working;
      spent = did.goes.spent;
      faults = faults-plain run drop r.events (event ∷ []) plain;
    }

    point_plain : (point : Point) → IsPlain run drop (r.events ++ passed_event point ∷ []) (passed_event point ∷ [])
    point_plain (point.Time now) = record { marked = (tt, tt); working = refl; inside = refl }
    point_plain point.Last = record { marked = (tt, tt); working = refl; inside = refl }

    pub point_turned : steps.TicksAreRecorded → steps.LastIsRecorded → IsRecorded told r → steps.IsWaiting told r →
        (point : Point) → next_time r.script (recorded_half told r) ≡ point →
        steps.TurnIsBegun told r (passed_event point) (with_event (passed_event point) r)
    point_turned ticks last recorded waiting (point.Time now) next = ticks told r now recorded waiting next
    point_turned ticks last recorded waiting point.Last next = last told r recorded waiting next

    pub tick_history : (point : Point) → steps.TurnIsBegun told r (passed_event point) (with_event (passed_event point) r) →
        KeepsHistory script told run drop outside (with_event (passed_event point) r)
    tick_history point did =
        history-plain script told run drop outside r (with_event (passed_event point) r) (passed_event point ∷ []) keeps
        did.goes.recorded refl refl (point_plain point)

    pub tick_begun : (point : Point) → steps.TurnIsBegun told r (passed_event point) (with_event (passed_event point) r) →
        HasBegun told r (with_event (passed_event point) r) (after_point r.script told point (recorded_half told r))
    tick_begun (point.Time now) did = point_begun (event.Tick now) (point_plain (point.Time now)) tt _ refl did
    tick_begun point.Last did = point_begun event.Last (point_plain point.Last) tt _ refl did

    -- the reactor has failed behind something
    pub fault_history : steps.HasFailed told r → r.events ≢ [] →
        KeepsHistory script told run drop outside (with_fault r)
    fault_history did some = record {
      recorded = did.goes.recorded;
      is_script = keeps.is_script;
      marked = marks_go_on (own_marks run) drop r.events (event.Fault ∷ []) keeps.marked (tt, tt);
      unstopped = λ none.
          list_any-append is_outside_stop r.events (event.Fault ∷ []) ∙ or_false (has_outside_stop r.events) false refl
          ∙ keeps.unstopped none;
      set_up = alone-behind r.events some;
    }
