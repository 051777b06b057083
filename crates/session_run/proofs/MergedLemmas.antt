-- A merged history, with the reactor that was given back, is what a context leaves.
use Rattle.std.proofs.Common.{◌≡◌, ◌∙◌, ℕ, ◌-◌, ◌≤◌, Bool, true, false, List, [], ◌∷◌, Option, Some, ap, length, map, refl, subst, sym}
use Rattle.std.specs.Prelude.{◌||◌, IfSome, if◌then◌else◌}
use Rattle.asio_types.specs.declared.event.Event.{Event}
use Rattle.asio_types.specs.declared.event.Event.TheVariants as event
use Rattle.session_script.specs.Script.{ScriptModel}
use Rattle.history_rules.specs.FromOutside.{has_fault, is_fault}
use Rattle.history_rules.specs.Legal.{after_event, state_from, state_of}
use Rattle.history_rules.specs.State.{ReactorHalf, State, first_state}
use Rattle.reactor_trait.specs.Reactor.{Outside, ReactorState}
use Rattle.op_handlers.specs.Marks.{Marks}
use Rattle.op_handlers.specs.Rack.{IsWholeRack, handlers_in}
use Rattle.op_handlers.specs.declared.rack.Rack.{Rack}
use Rattle.execution_laws.specs.Finished.{IsFinished}
use Rattle.execution_laws.specs.LetGo.{let_go_mark, let_go_marks}
use Rattle.execution_laws.proofs.LetGoLemmas.{sums_below}
use Rattle.book_context.proofs.FinishLemmas.{no_fault, no_stop, some_fault}
use Rattle.lane_map.specs.LaneNumbers.{reactor_lane}
use Rattle.lane_logs.specs.Drops.{untouched_mark}
use Rattle.lane_logs.specs.KeptLogs.{KeptLogs, LetGo, logs_in}
use Rattle.lane_logs.specs.Logs.{LogsView, all_events, entries_of}
use Rattle.lane_logs.specs.Names.{SessionNames}
use Rattle.lane_turns.specs.Finishing.{IsGivenBack}
use Rattle.lane_context.specs.Setup.{HoldsNamed}
use Rattle.lane_turns.specs.Turning.{log_half}
use Rattle.history_merge.specs.Merging.{IsLegalMerging, NoWorkerStops}
use Rattle.history_merge.proofs.EndLemmas.{fails_after}
use Rattle.session_run.specs.LaneNames.{names_of}
use Rattle.session_run.specs.RackMarks.{drop_mark, rack_run_mark}
use Rattle.session_run.proofs.RackLemmas.{named_marks}

-- the rack holds what a session that is named so takes
pub holds_named : {H : Type 0} (marks : H → Marks) (names : SessionNames) (script : ScriptModel) (told : Bool) (rack : Rack H) →
    names ≡ names_of marks script told rack → IsWholeRack rack → length script.acts ≤ length (handlers_in rack) →
    HoldsNamed names marks rack
holds_named marks names script told rack same whole long =
    subst (λ names. HoldsNamed names marks rack) (sym same)
    (named_marks marks script rack (rack_run_mark marks rack) (drop_mark marks rack) refl refl whole long)

-- the reactor has failed in the last state exactly where the history shows it
failed_from : (script : ScriptModel) (told : Bool) (s : State) (events : List Event) →
    (state_from script told s events).reactor.failed ≡ (has_fault events || s.reactor.failed)
failed_from script told s [] = refl
failed_from script told s (shown ∷ events) =
    failed_from script told (after_event script told s shown) events
    ∙ (ap (λ b. has_fault events || b) (fails_after script told s.reactor shown)
    ∙ swapped (is_fault shown) (has_fault events) s.reactor.failed)
  where
    swapped : (a b c : Bool) → (b || (a || c)) ≡ ((a || b) || c)
    swapped true true c = refl
    swapped true false c = refl
    swapped false true c = refl
    swapped false false c = refl

or_false : (b : Bool) → (b || false) ≡ b
or_false true = refl
or_false false = refl

failed_in : (script : ScriptModel) (told : Bool) (events : List Event) →
    (state_of script told events).reactor.failed ≡ has_fault events
failed_in script told events =
    failed_from script told (first_state script told) events ∙ or_false (has_fault events)

-- the reactor's log leads to the half of the last state
module _ (names : SessionNames) (logs : LogsView) (events : List Event) (merged : IsLegalMerging names logs events) where
  abbrev half : ReactorHalf
  half = log_half names (entries_of logs (reactor_lane names.script))

  shows : half.failed ≡ has_fault events
  shows = ap (λ (r : ReactorHalf). r.failed) (sym merged.half) ∙ failed_in names.script names.told events

  pub finished : NoWorkerStops names.script logs → (before after : ℕ) (state : ReactorState) (outside : Option Outside) →
      IsGivenBack names.told half before after state outside →
      IsFinished names.script names.told names.run names.drop false before after events state outside
  finished none before after state outside back = record {
    legal = merged.legal;
    marked = merged.marked;
    unstopped = λ _. no_stop events (merged.unstopped none);
    faults = back.least;
    rose = λ there. back.rose (shows ∙ some_fault events there);
    stood = λ absent. back.stood (shows ∙ no_fault events absent);
    set_up = merged.set_up;
    up = back.up;
    now = back.now ∙ ap (λ (r : ReactorHalf). r.now) (sym merged.half);
    still_told = back.tells;
    sent = λ absent.
        subst (λ (r : ReactorHalf). IfSome outside
        (λ outside. map (λ stream. stream.sent) outside.streams ≡ map (λ stream. stream.sent) r.streams))
        (sym merged.half) (back.sent (shows ∙ no_fault events absent));
  }

-- the handlers that were let go of without an event are those of the operations that were never initiated
pub let_go_is : (names : SessionNames) (kept : KeptLogs) (events : List Event) → IsLegalMerging names (logs_in kept) events →
    LetGo names kept → kept.let_go ≡ let_go_marks names.script names.told names.drop events
let_go_is names kept events merged go =
    go.is
    ∙ sums_below (untouched_mark names (all_events (logs_in kept)))
    (let_go_mark names.script names.drop (state_of names.script names.told events)) (length names.script.acts)
    (λ n less. ap (λ b. if b then names.drop n else 0) (merged.untouched n less))
