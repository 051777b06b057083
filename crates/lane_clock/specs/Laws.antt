-- What follows from the rule of a clock, in the words of those who merge its lists.
use Rattle.std.specs.Prelude.{◌≡◌, ℕ, ◌<◌, ◌≤◌, List, ◌∷◌, slice_index, Some, None, true}
use lib.ListN.{get_elem?}
use mathlib.Core.Option.{some}
use Rattle.atomic_table.specs.Table.{State}
use Rattle.asio_types.specs.declared.event.Event.{Event}
use Rattle.lane_clock.specs.declared.found.Found.{Found}
use Rattle.lane_clock.specs.declared.found.Change.{Change}
use Rattle.lane_clock.specs.declared.note.Note.{Note}
use Rattle.lane_clock.specs.declared.step.ClockStep.{ClockStep}
use Rattle.lane_clock.specs.declared.step.View.{View}
use Rattle.lane_clock.specs.declared.step.ClockStep.TheVariants.{Draw}
use Rattle.lane_clock.specs.Layout.{Layout, most_seats}
use Rattle.lane_clock.specs.ClockWord.{found_of}
use Rattle.lane_clock.specs.Knowledge.{known_at, steps_at, StartOf}
use Rattle.lane_clock.specs.Rule.{ClockWords, StepAt, Draws, Finds, Places, Puts, Looks, Joins, Precedes, ClockRule}
use Rattle.lane_clock.specs.Changes.{ChangesAre, ChangesFit, AddsUp, StayParted, parts_with}
use Rattle.lane_clock.specs.History.{ClockEvent, word_after, drawn, IsSoundHistory, IsMadeIn}
use Rattle.lane_clock.specs.Closing.{Closed}
use Rattle.lane_clock.specs.Chronicle.{HasOneHistory, AreHeld}

-- The rule holds of the steps made so far. Each seat knows the first of them, and all of its own
pub record HoldsNow (plan : Layout) (s : State (Unit {0}) View) : Type 0 where
  pub lists : ℕ → List ClockStep
  pub words : ClockWords
  pub held : AreHeld plan words s.words
  pub rule : ClockRule lists words plan.guards
  pub known : (i n : ℕ) (v : View) → get_elem? s.views i ≡ some v →
      StartOf (steps_at v.known n) (lists n)
  pub own : (i n : ℕ) (v : View) → get_elem? s.views i ≡ some v → (known_at v.known n).mine ≡ true →
      steps_at v.known n ≡ lists n

-- It does between any two steps
abbrev pub HoldsBetweenSteps : Type 0
HoldsBetweenSteps =
    (plan : Layout) (s : State (Unit {0}) View) → HasOneHistory plan s → HoldsNow plan s

-- The positions drawn are those below the clock at the end, each once
pub record PositionsOnce (lists : ℕ → List ClockStep) (last : Found) : Type 0 where
  pub below : (m i : ℕ) (change : Change) (found : Found) → Draws lists m i change found →
      found.clock < last.clock
  pub each : (k : ℕ) → k < last.clock →
      (m : ℕ) × (i : ℕ) × (change : Change) × (found : Found) × Draws lists m i change found
      × (found.clock ≡ k)
  pub once : (m i n j : ℕ) (c d : Change) (f g : Found) → Draws lists m i c f →
      Draws lists n j d g → f.clock ≡ g.clock → (m ≡ n) × (i ≡ j)

abbrev pub PositionsAreOnce : Type 0
PositionsAreOnce =
    (lists : ℕ → List ClockStep) (plan : Layout) (last : Found) → Closed lists plan last →
    PositionsOnce lists last

-- What a list drew before a place is below what is found after a later place of that lane
abbrev pub PlacesKeepOrder : Type 0
PlacesKeepOrder =
    (lists : ℕ → List ClockStep) (plan : Layout) (last : Found) → Closed lists plan last
    → (m i n j lane p q : ℕ) → p < q → Places lists m i lane p → Places lists n j lane q
    → Precedes lists m i n j

-- The list that put a note drew its place before, and what it drew before it put is below what is
-- found after the note was seen
pub record Noted (lists : ℕ → List ClockStep) (n j lane place : ℕ) (note : Note) : Type 0 where
  pub by : ℕ
  pub drawn : ℕ
  pub put : ℕ
  pub order : drawn < put
  pub draws : Places lists by drawn lane place
  pub puts : Puts lists by put lane place note
  pub before : Precedes lists by put n j

abbrev pub NotesAreOlder : Type 0
NotesAreOlder = (lists : ℕ → List ClockStep) (plan : Layout) (last : Found) → Closed lists plan last
    → (n j lane place : ℕ) (note : Note) → Looks lists n j lane place (Some note)
    → Noted lists n j lane place note

-- What a list had drawn when it was joined in is below what is found afterwards
abbrev pub JoinsAreBefore : Type 0
JoinsAreBefore = (lists : ℕ → List ClockStep) (plan : Layout) (last : Found) → Closed lists plan last
    → (n j m : ℕ) (counts : List ℕ) → Joins lists n j counts
    → Precedes lists m (slice_index counts m) n j

-- The changes of the positions below the clock at the end
abbrev pub ChangesStand : Type 0
ChangesStand =
    (lists : ℕ → List ClockStep) (plan : Layout) (last : Found) → Closed lists plan last →
    (changes : ℕ → Change) × ChangesAre lists changes last.clock

-- What finds the clock n finds work and stops of the first n changes, as long as these fit; the
-- word at the end has those of all
pub record FindsSums (lists : ℕ → List ClockStep) (plan : Layout) (last : Found) (changes : ℕ → Change)
    (n : ℕ) : Type 0 where
  pub found : (m i : ℕ) (found : Found) → Finds lists m i found → found.clock ≡ n →
      AddsUp plan.guards changes n found
  pub end : last.clock ≡ n → AddsUp plan.guards changes n last

abbrev pub WorkAddsUp : Type 0
WorkAddsUp = (lists : ℕ → List ClockStep) (plan : Layout) (last : Found) → Closed lists plan last
    → (changes : ℕ → Change) (n : ℕ) → ChangesAre lists changes n → n ≤ last.clock
    → ChangesFit plan.guards changes n → FindsSums lists plan last changes n

-- A cell that was seen empty is put later by the list that looked, and not by what it had joined in
pub record EmptyYet (lists : ℕ → List ClockStep) (n j lane place : ℕ) : Type 0 where
  pub own : (i : ℕ) (note : Note) → Puts lists n i lane place note → j < i
  pub joined : (h m i : ℕ) (counts : List ℕ) (note : Note) → Joins lists n h counts → h < j →
      Puts lists m i lane place note → slice_index counts m ≤ i

abbrev pub EmptyIsUnput : Type 0
EmptyIsUnput = (lists : ℕ → List ClockStep) (plan : Layout) (last : Found) → Closed lists plan last
    → (n j lane place : ℕ) → Looks lists n j lane place None → EmptyYet lists n j lane place

-- Each step of a list was made at one moment of the history, and found what was older
abbrev pub StepsAreMade : Type 0
StepsAreMade =
    (lists : ℕ → List ClockStep) (plan : Layout) (last : Found) (c : Closed lists plan last)
    (n i : ℕ) (step : ClockStep) → StepAt lists n i step →
    IsMadeIn plan.guards plan.seats c.history n i step

-- The clock that a step finds is the number of draws before
abbrev pub ClocksCountDraws : Type 0
ClocksCountDraws =
    (guards seats : ℕ) (es : List ClockEvent) → seats ≤ most_seats →
    IsSoundHistory guards seats es → (found_of (word_after guards es)).clock ≡ drawn es

-- A draw changes the parts that the next step finds, while each stays within its bounds
abbrev pub DrawsChangeParts : Type 0
DrawsChangeParts =
    (guards : ℕ) (es : List ClockEvent) (n : ℕ) (shown : Event) (change : Change) (found : Found)
    → guards < most_seats → StayParted change (found_of (word_after guards es))
    → found_of (word_after guards (record { by = n; step = Draw shown change found } ∷ es))
    ≡ parts_with change (found_of (word_after guards es))
