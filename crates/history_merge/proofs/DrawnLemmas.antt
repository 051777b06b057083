-- The labelled steps of an execution show the events of its calls.
use Rattle.std.proofs.Common.{◌≡◌, ℕ, Bool, true, false, cond, List, [], ◌∷◌, ◌++◌, Some, refl, sym, ap, ◌∙◌}
use Rattle.std.specs.Prelude.{nat_lt, slice_index}
use Rattle.std.proofs.lemmas.List.{map-append}
use Rattle.asio_types.specs.declared.event.Event.TheVariants as event
use Rattle.session_script.specs.Script.{ScriptModel, stops}
use Rattle.strand_core.specs.Execution.{events_of}
use Rattle.strand_core.specs.declared.posted.Posted.{Posted}
use Rattle.lane_clock.specs.declared.note.Note.{Note}
use Rattle.lane_clock.specs.declared.step.ClockStep.TheVariants.{Put}
use Rattle.lane_map.specs.LaneNumbers.{asked_lane, cells_of}
use Rattle.lane_logs.specs.declared.log.LogEntry.{LogEntry}
use Rattle.lane_logs.specs.Labels.{AreDrawn, IsDrawn, Labelled, begins, call_note, dispatches, ends, entries_in, events_in, none_drawn, one_drawn, posts, returns, silent, stops_context}
use Rattle.lane_logs.proofs.LabelLemmas.{entries-append}
use Rattle.execution_laws.proofs.EventLemmas.{events-append}

put_by : (within : Bool) (lane place : ℕ) (note : Note) →
    entries_in (cond within (silent (Put lane place note) ∷ []) []) ≡ []
put_by true lane place note = refl
put_by false lane place note = refl

called_by : (stops : Bool) (a : ℕ) → stops ≡ false →
    cond stops (event.Call a ∷ event.Stop (Some a) ∷ []) (event.Call a ∷ []) ≡ event.Call a ∷ []
called_by true a isnt = absurd (cc)
called_by false a isnt = refl

stopped_by : (stops : Bool) (a : ℕ) → stops ≡ true →
    cond stops (event.Call a ∷ event.Stop (Some a) ∷ []) (event.Call a ∷ [])
    ≡ event.Call a ∷ event.Stop (Some a) ∷ []
stopped_by true a is = refl
stopped_by false a is = absurd (cc)

module _ (script : ScriptModel) where
  one_shown : {made : Posted} {labels : List Labelled} → IsDrawn script made labels →
      events_in (entries_in labels) ≡ events_of script (made ∷ [])
  one_shown begins = refl
  one_shown (posts {act} {place} {found} isnt outside) =
      ap (λ (entries : List LogEntry). event.Call act ∷ events_in entries)
      (put_by (nat_lt place (slice_index (cells_of script) (asked_lane script act))) (asked_lane script act) place
      (call_note act))
      ∙ sym (called_by (stops script act) act isnt)
  one_shown (dispatches {act} {found} isnt is_inside) = sym (called_by (stops script act) act isnt)
  one_shown (stops_context {act} {called} {stopped} is) = sym (stopped_by (stops script act) act is)
  one_shown returns = refl
  one_shown ends = refl

  pub drawn_shown : {calls : List Posted} {labels : List Labelled} → AreDrawn script calls labels →
      events_in (entries_in labels) ≡ events_of script calls
  drawn_shown none_drawn = refl
  drawn_shown (one_drawn {calls} {call = call_made} {labels} {made = newer} before one) =
      ap events_in (entries-append labels newer)
      ∙ (map-append (λ (entry : LogEntry). entry.event) (entries_in labels) (entries_in newer)
      ∙ (ap (λ events. events ++ events_in (entries_in newer)) (drawn_shown before)
      ∙ (ap (λ events. events_of script calls ++ events) (one_shown one) ∙ sym (events-append script calls (call_made ∷ [])))))
