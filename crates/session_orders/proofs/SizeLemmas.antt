-- A state keeps the number of its acts, and the acts of a place are acts of the script.
use Rattle.std.proofs.Common.{◌≡◌, ◌<◌, ◌+◌, ℕ, suc, zero, Bool, true, false, List, [], ◌∷◌, Some, None, length, slice_get, arith, refl, cond, ◌∙◌}
use Rattle.std.proofs.lemmas.List.{length-replicate, length-set}
use Rattle.asio_types.specs.declared.code.Code.{Code}
use Rattle.asio_types.specs.declared.event.Event.{Event}
use Rattle.asio_types.specs.declared.event.Event.TheVariants as event
use Rattle.asio_types.specs.declared.number.Lane.{Lane}
use Rattle.history_rules.specs.Calls.{limited, with_progress}
use Rattle.history_rules.specs.Executions.{begun}
use Rattle.history_rules.specs.Kinds.{is_act}
use Rattle.history_rules.specs.Legal.{after_event, context_after, state_from, state_of}
use Rattle.history_rules.specs.State.{ContextState, State, first_state, fresh}
use Rattle.history_rules.specs.Stopping.{spend}
use Rattle.history_rules.specs.declared.phase.Step.{Step}
use Rattle.session_script.specs.Lanes.{is_inline, lane_of}
use Rattle.session_script.specs.Script.{Entry, Place, ScriptModel, is_stop, numbers_in, parent_of, same_place}

progress-size : (place : Place) (step : Step) (s : ContextState) →
    length (with_progress place step s).acts ≡ length s.acts
progress-size None step s = refl
progress-size (Some place) step s = length-set s.acts place.0 _

limited-size : (script : ScriptModel) (a : ℕ) (place : Place) (s : ContextState) →
    length (limited script a place s).acts ≡ length s.acts
limited-size script a None s = refl
limited-size script a (Some place) s = refl

by_stop-size : (script : ScriptModel) (a : ℕ) (stops : Bool) (s : ContextState) →
    length (cond stops (limited script a (parent_of script a) s) s).acts ≡ length s.acts
by_stop-size script a true s = limited-size script a (parent_of script a) s
by_stop-size script a false s = refl

begun-size : (inline : Bool) (lane : Lane) (s : ContextState) (o : ℕ) (code : Code) →
    length (cond inline (begun s o code) (spend lane (begun s o code))).acts ≡ length s.acts
begun-size true lane s o code = length-set s.acts o _
begun-size false lane s o code = length-set s.acts o _

-- an event changes no number of acts
context-size : (script : ScriptModel) (s : ContextState) (event : Event) →
    length (context_after script s event).acts ≡ length s.acts
context-size script s (event.Call a) = length-set _ a _ ∙ progress-size (parent_of script a) _ s
context-size script s (event.Back a) =
    by_stop-size script a (is_act is_stop script a) _ ∙ progress-size (parent_of script a) _ _ ∙ length-set s.acts a _
context-size script s (event.Stop (Some a)) = length-set s.acts a _
context-size script s (event.Stop None) = refl
context-size script s (event.Begin o code size) = begun-size (is_inline script o) (lane_of script o) s o code
context-size script s (event.End o mark) = length-set s.acts o _
context-size script s (event.Take a) = refl
context-size script s (event.Done o code size) = length-set s.acts o _
context-size script s (event.Tick now) = refl
context-size script s event.Last = refl
context-size script s event.Fault = refl
context-size script s event.Ended = refl
context-size script s event.Stopped = refl
context-size script s event.Polled = refl
context-size script s event.Restart = refl
context-size script s (event.Dropped o mark) = length-set s.acts o _

size_from : (script : ScriptModel) (told : Bool) (s : State) (events : List Event) →
    length (state_from script told s events).context.acts ≡ length s.context.acts
size_from script told s [] = refl
size_from script told s (event ∷ events) =
    size_from script told (after_event script told s event) events ∙ context-size script s.context event

-- a state has the acts of its script
pub size_of : (script : ScriptModel) (told : Bool) (events : List Event) →
    length (state_of script told events).context.acts ≡ length script.acts
size_of script told events =
    size_from script told (first_state script told) events ∙ length-replicate (length script.acts) fresh

-- the numbers of the acts of a place are below their end
pub numbers_below : (place : Place) (n : ℕ) (entries : List Entry) (k a : ℕ) →
    slice_get (numbers_in place n entries) k ≡ Some a → a < n + length entries
numbers_below place n [] k a is = absurd (let no : None ≡ Some a = is in cc)
numbers_below place n (entry ∷ entries) k a is = by_test (same_place place entry.parent) k is (numbers_below place (n + 1) entries)
  where
    by_test : (same : Bool) (k : ℕ) →
        slice_get (cond same (n ∷ numbers_in place (n + 1) entries) (numbers_in place (n + 1) entries)) k ≡ Some a →
        ((j b : ℕ) → slice_get (numbers_in place (n + 1) entries) j ≡ Some b → b < n + 1 + length entries) →
        a < n + length (entry ∷ entries)
    by_test true zero is later = let same : n ≡ a = cc in omega (arith, same)
    by_test true (suc k) is later = omega (arith, later k a is)
    by_test false k is later = omega (arith, later k a is)
