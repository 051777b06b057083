-- The rule of a clock, this project's own, over the steps under each number and what the words hold
-- in the end.
use Rattle.std.specs.Prelude.{◌≡◌, ℕ, ◌+◌, ◌*◌, ◌%◌, ◌^◌, ◌<◌, ◌≤◌, List, length, slice_index, Option, Some, None}
use lib.ListN.{get_elem?}
use mathlib.Core.Option.{some}
use Rattle.asio_types.specs.declared.event.Event.{Event}
use Rattle.lane_clock.specs.declared.found.Found.{Found}
use Rattle.lane_clock.specs.declared.found.Change.{Change}
use Rattle.lane_clock.specs.declared.note.Note.{Note}
use Rattle.lane_clock.specs.declared.step.ClockStep.{ClockStep}
use Rattle.lane_clock.specs.declared.step.ClockStep.TheVariants.{Draw, Load, Place, Put, Look, Join}
use Rattle.lane_clock.specs.ClockWord.{amount, word_of, IsParted}

-- What the words of a clock hold
pub record ClockWords : Type 0 where
  pub clock_word : ℕ
  -- of each lane, how many places were drawn
  pub places : ℕ → ℕ
  -- of each lane and place
  pub cells : ℕ → ℕ → Option Note

-- how many positions were drawn
abbrev pub clock_in : ClockWords → ℕ
clock_in words = words.clock_word % 2 ^ 32

-- the step finds the clock word
pub data IsFinding : ClockStep → Found → Type 0 where
  by_draw : (shown : Event) (change : Change) (found : Found) →
      IsFinding (Draw shown change found) found
  by_load : (found : Found) → IsFinding (Load found) found

module _ (lists : ℕ → List ClockStep) where
  -- the i-th step under the number m
  abbrev pub StepAt : ℕ → ℕ → ClockStep → Type 0
  StepAt m i step = get_elem? (lists m) i ≡ some step

  -- whichever event it draws
  abbrev pub Draws : ℕ → ℕ → Change → Found → Type 0
  Draws m i change found = (shown : Event) × StepAt m i (Draw shown change found)

  abbrev pub Loads : ℕ → ℕ → Found → Type 0
  Loads m i found = StepAt m i (Load found)

  abbrev pub Finds : ℕ → ℕ → Found → Type 0
  Finds m i found = (step : ClockStep) × StepAt m i step × IsFinding step found

  abbrev pub Places : ℕ → ℕ → ℕ → ℕ → Type 0
  Places m i lane place = StepAt m i (Place lane place)

  abbrev pub Puts : ℕ → ℕ → ℕ → ℕ → Note → Type 0
  Puts m i lane place note = StepAt m i (Put lane place note)

  abbrev pub Looks : ℕ → ℕ → ℕ → ℕ → Option Note → Type 0
  Looks m i lane place note = StepAt m i (Look lane place note)

  abbrev pub Joins : ℕ → ℕ → List ℕ → Type 0
  Joins m i counts = StepAt m i (Join counts)

  -- Each draw that the m-th list made before its i-th step is below each clock that the n-th finds
  -- after its j-th
  abbrev pub Precedes : ℕ → ℕ → ℕ → ℕ → Type 0
  Precedes m i n j =
      (a b : ℕ) (change : Change) (drawn found : Found) → a < i → j < b → Draws m a change drawn →
      Finds n b found → drawn.clock < found.clock

  -- What a list drew before it drew a place is below what is found after a later place of the lane
  -- was drawn
  abbrev pub PlacesInOrder : Type 0
  PlacesInOrder =
      (m i n j lane p q : ℕ) → p < q → Places m i lane p → Places n j lane q → Precedes m i n j

  -- No more is joined in than there is, and what a list drew is below what is found after it was
  -- joined in
  pub record JoinsBefore : Type 0 where
    pub within : (n j m : ℕ) (counts : List ℕ) → Joins n j counts →
        slice_index counts m ≤ length (lists m)
    pub before : (n j m : ℕ) (counts : List ℕ) → Joins n j counts →
        Precedes m (slice_index counts m) n j

  -- Where a look saw an empty cell, the looking list hadn't put that cell before, nor had a list as
  -- it was joined in before
  pub record EmptyLooks : Type 0 where
    pub own : (n j i lane place : ℕ) (note : Note) → Looks n j lane place None →
        Puts n i lane place note → j < i
    pub joined : (n j h m i lane place : ℕ) (counts : List ℕ) (note : Note) →
        Looks n j lane place None → Joins n h counts → h < j → Puts m i lane place note →
        slice_index counts m ≤ i

  module _ (words : ClockWords) where
    -- The draws found the numbers below the clock, each once; within a list clocks never fall, and
    -- rise after a draw
    pub record DrawsOnce : Type 0 where
      pub below : (m i : ℕ) (change : Change) (found : Found) → Draws m i change found →
          found.clock < clock_in words
      pub each : (k : ℕ) → k < clock_in words →
          (m : ℕ) × (i : ℕ) × (change : Change) × (found : Found) × Draws m i change found
          × (found.clock ≡ k)
      pub once : (m i n j : ℕ) (c d : Change) (f g : Found) → Draws m i c f → Draws n j d g →
          f.clock ≡ g.clock → (m ≡ n) × (i ≡ j)
      pub never_falls : (m i j : ℕ) (f g : Found) → i < j → Finds m i f → Finds m j g →
          f.clock ≤ g.clock
      pub rises : (m i j : ℕ) (c : Change) (f g : Found) → i < j → Draws m i c f → Finds m j g →
          f.clock < g.clock

    -- The places of a lane are the numbers below its word, each once
    pub record PlacesOnce : Type 0 where
      pub below : (m i lane place : ℕ) → Places m i lane place → place < words.places lane
      pub each : (lane k : ℕ) → k < words.places lane → (m : ℕ) × (i : ℕ) × Places m i lane k
      pub once : (m i n j lane place : ℕ) → Places m i lane place → Places n j lane place →
          (m ≡ n) × (i ≡ j)

    -- A cell holds a note exactly where one list put it, after it drew that place. Where a look saw
    -- a note, what the putting list drew before is below what the looking list finds afterwards
    pub record CellsOnce : Type 0 where
      pub placed : (m i lane place : ℕ) (note : Note) → Puts m i lane place note →
          (j : ℕ) × (j < i) × Places m j lane place
      pub once : (m i n j lane place : ℕ) (x y : Note) → Puts m i lane place x →
          Puts n j lane place y → (m ≡ n) × (i ≡ j)
      pub kept : (m i lane place : ℕ) (note : Note) → Puts m i lane place note →
          words.cells lane place ≡ Some note
      pub filled : (lane place : ℕ) (note : Note) → words.cells lane place ≡ Some note →
          (m : ℕ) × (i : ℕ) × Puts m i lane place note
      pub seen : (n j lane place : ℕ) (note : Note) → Looks n j lane place (Some note) →
          (m : ℕ) × (i : ℕ) × Puts m i lane place note × Precedes m i n j

    -- The first draw found the guards as work; the next after a draw found its word with its change
    pub record ChangesAddUp (guards : ℕ) : Type 0 where
      pub parted : (m i : ℕ) (found : Found) → Finds m i found → IsParted found
      pub first : (m i : ℕ) (change : Change) (found : Found) → Draws m i change found →
          found.clock ≡ 0 → word_of found ≡ guards * 2 ^ 32
      pub none : clock_in words ≡ 0 → words.clock_word ≡ guards * 2 ^ 32
      pub next : (m i n j : ℕ) (c d : Change) (f g : Found) → Draws m i c f → Draws n j d g →
          g.clock ≡ f.clock + 1 → word_of g ≡ (word_of f + amount c) % 2 ^ 64
      pub last : (m i : ℕ) (c : Change) (f : Found) → Draws m i c f → clock_in words ≡ f.clock + 1 →
          words.clock_word ≡ (word_of f + amount c) % 2 ^ 64

    -- A load found what the draw of that clock found, or what the word still holds
    pub record LoadsAgree : Type 0 where
      pub within : (m i : ℕ) (found : Found) → Loads m i found → found.clock ≤ clock_in words
      pub drawn : (m i n j : ℕ) (c : Change) (f g : Found) → Loads m i f → Draws n j c g →
          f.clock ≡ g.clock → f ≡ g
      pub standing : (m i : ℕ) (found : Found) → Loads m i found → found.clock ≡ clock_in words →
          word_of found ≡ words.clock_word

    -- The rule, of a clock with so many guards
    pub record ClockRule (guards : ℕ) : Type 0 where
      pub draws_once : DrawsOnce
      pub places_once : PlacesOnce
      pub cells_once : CellsOnce
      pub places_in_order : PlacesInOrder
      pub changes_add_up : ChangesAddUp guards
      pub loads_agree : LoadsAgree
      pub joins_before : JoinsBefore
      pub empty_looks : EmptyLooks
