-- What holds of each label of calls, of completions and of looks, by what holds of each kind of label.
use Rattle.std.proofs.Common.{◌≡◌, ℕ, Bool, true, false, cond, List, [], ◌∷◌, None, Some, map, refl}
use Rattle.std.specs.Prelude.{nat_lt, slice_index}
use Rattle.asio_types.specs.declared.code.Code.{Code}
use Rattle.asio_types.specs.declared.event.Event.{Event}
use Rattle.asio_types.specs.declared.event.Event.TheVariants as event
use Rattle.session_script.specs.Script.{ScriptModel}
use Rattle.history_rules.specs.State.{ReactorHalf}
use Rattle.strand_core.specs.declared.posted.Posted.{Posted}
use Rattle.lane_clock.specs.declared.found.Change.{Change}
use Rattle.lane_clock.specs.declared.found.Found.{Found}
use Rattle.lane_clock.specs.declared.note.Note.{Note}
use Rattle.lane_clock.specs.declared.step.ClockStep.{ClockStep}
use Rattle.lane_clock.specs.declared.step.ClockStep.TheVariants.{Look, Put}
use Rattle.lane_map.specs.LaneNumbers.{cells_of, home_lane}
use Rattle.lane_logs.specs.Labels.{AreDrawn, IsDrawn, Labelled, allots, begins, call_note, dispatches, ends, none_drawn, one_drawn, posts, put_within, returns, shows, silent, stops_context}
use Rattle.lane_logs.specs.OpenerLog.{Looked, look_label}
use Rattle.lane_logs.specs.Parts.{TurnEnd, end_labels, fails, looks_empty, tells}
use Rattle.lane_logs.specs.ReactorTurns.{AreTold, EndsTurn, done_labels, done_note, none_told, one_told}
use Rattle.history_merge.proofs.PartLemmas.{Every, every-append}

-- an event of an execution
abbrev pub is_of_execution : Event → Bool
is_of_execution (event.Call a) = true
is_of_execution (event.Stop (Some a)) = true
is_of_execution (event.Back a) = true
is_of_execution (event.Begin o code size) = true
is_of_execution (event.End o mark) = true
is_of_execution _ = false

-- an event of a turn of the reactor
abbrev pub is_of_turn : Event → Bool
is_of_turn (event.Take a) = true
is_of_turn (event.Done o code size) = true
is_of_turn (event.Tick now) = true
is_of_turn event.Last = true
is_of_turn event.Fault = true
is_of_turn _ = false

-- it holds of what shows an event that passes a test, of places that acts get, and of puts
pub record HoldsOf (test : Event → Bool) (P : Labelled → Type 0) : Type 0 where
  pub events : (shown : Event) → test shown ≡ true → (changes : Change) (found : Found) → P (shows shown changes found)
  pub places : (act lane place : ℕ) → P (allots act lane place)
  pub puts : (lane place : ℕ) (note : Note) → P (silent (Put lane place note))

module _ (P : Labelled → Type 0) where
  step_each : (within : Bool) (step : ClockStep) → P (silent step) → Every P (cond within (silent step ∷ []) [])
  step_each true step is = (is, tt)
  step_each false step is = tt

  -- looks at a place of one lane, and at places of several
  pub empty_each : (script : ScriptModel) (lane place : ℕ) → P (silent (Look lane place None)) →
      Every P (looks_empty script lane place)
  empty_each script lane place is = step_each (nat_lt place (slice_index (cells_of script) lane)) (Look lane place None) is

  pub looks_each : ((look : Looked) → P (look_label look)) → (looks : List Looked) → Every P (map look_label looks)
  looks_each each [] = tt
  looks_each each (look ∷ looks) = (each look, looks_each each looks)

  module _ (script : ScriptModel) (test : Event → Bool) (holds : HoldsOf test P) where
    pub put_each : (lane place : ℕ) (note : Note) → Every P (put_within script lane place note)
    put_each lane place note =
        step_each (nat_lt place (slice_index (cells_of script) lane)) (Put lane place note) (holds.puts lane place note)

module _ (P : Labelled → Type 0) (script : ScriptModel) where
  -- calls
  module _ (holds : HoldsOf is_of_execution P) where
    call_each : {made : Posted} {labels : List Labelled} → IsDrawn script made labels → Every P labels
    call_each (begins {op} {size} {with_code} {found}) =
        (holds.events (event.Begin op with_code size) refl _ found, tt)
    call_each (posts {act} {place} {found} isnt outside) = (
      holds.events (event.Call act) refl _ found,
      (holds.places act _ place, put_each P script is_of_execution holds _ place (call_note act)),
    )
    call_each (dispatches {act} {found} isnt within) = (holds.events (event.Call act) refl _ found, tt)
    call_each (stops_context {act} {called} {stopped} is) = (
      holds.events (event.Call act) refl _ called,
      (holds.events (event.Stop (Some act)) refl _ stopped, tt),
    )
    call_each (returns {act} {found}) = (holds.events (event.Back act) refl _ found, tt)
    call_each (ends {op} {ran} {found}) = (holds.events (event.End op ran.mark) refl _ found, tt)

    pub calls_each : {calls : List Posted} {labels : List Labelled} → AreDrawn script calls labels → Every P labels
    calls_each none_drawn = tt
    calls_each (one_drawn {calls} {call = one} {labels} {made} before now) =
        every-append P labels made (calls_each before) (call_each now)

  -- completions
  pub told_each : (test : Event → Bool) → HoldsOf test P →
      ((op size : ℕ) (with_code : Code) → test (event.Done op with_code size) ≡ true) → (told : Bool) (from : ReactorHalf)
      {labels : List Labelled} → AreTold script told from labels → Every P labels
  told_each test holds dones told from none_told = tt
  told_each test holds dones told from (one_told {labels} op with_code size place found before may) =
      every-append P labels (done_labels script op with_code size place found)
      (told_each test holds dones told from before) (
        holds.places op (home_lane script op) place,
        (
          holds.events (event.Done op with_code size) (dones op size with_code) _ found,
          put_each P script test holds (home_lane script op) place (done_note op with_code size),
        ),
      )

  -- and the end of a turn
  module _ (holds : HoldsOf is_of_turn P) where
    pub end_each : (told : Bool) (from : ReactorHalf) (end : TurnEnd) → EndsTurn script told from end →
        Every P (end_labels end)
    end_each told from (tells labels) is = told_each is_of_turn holds (λ op size with_code. refl) told from is.told_so
    end_each told from (fails found) is = (holds.events event.Fault refl _ found, tt)
