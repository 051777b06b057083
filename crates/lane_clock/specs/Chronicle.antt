-- What the table of a clock keeps, this project's own: its words and all that seats know are parts
-- of one history.
use Rattle.std.specs.Prelude.{◌≡◌, ℕ, ◌+◌, ◌*◌, ◌^◌, ◌<◌, ◌≤◌, List, [], length, slice_index, slice_set, true, replicate}
use lib.ListN.{get_elem?}
use mathlib.Core.Option.{some}
use Rattle.atomic_table.specs.Table.{State}
use Rattle.lane_clock.specs.declared.step.Known.{Known}
use Rattle.lane_clock.specs.declared.step.View.{View}
use Rattle.lane_clock.specs.NoteWord.{note_word}
use Rattle.lane_clock.specs.Layout.{Layout, most_seats, total, place_word, cell_word}
use Rattle.lane_clock.specs.Knowledge.{known_at, steps_at, StartOf, AreTogether, owns_below}
use Rattle.lane_clock.specs.Rule.{ClockWords}
use Rattle.lane_clock.specs.History.{ClockEvent, steps_under, IsSoundHistory, words_after}

-- these words lie in the table
pub record AreHeld (plan : Layout) (words : ClockWords) (ws : List ℕ) : Type 0 where
  pub count : length ws ≡ 1 + length plan.cells + total plan.cells
  pub clock : slice_index ws 0 ≡ words.clock_word
  pub places : (lane : ℕ) → lane < length plan.cells →
      slice_index ws (place_word lane) ≡ words.places lane
  pub cells : (lane place : ℕ) → place < slice_index plan.cells lane →
      slice_index ws (cell_word plan.cells lane place) ≡ note_word (words.cells lane place)

-- the table's words are those of the history
abbrev pub AreWords : Layout → List ClockEvent → List ℕ → Type 0
AreWords plan es ws = AreHeld plan (words_after plan.guards es) ws

-- What a view knows of a history: the first steps under each number, and all of those that are its
-- own
pub record KnowsHistory (plan : Layout) (es : List ClockEvent) (v : View) : Type 0 where
  pub short : length v.known ≤ plan.seats
  pub told : (n : ℕ) → StartOf (steps_at v.known n) (steps_under n es)
  pub whole : (n : ℕ) → (known_at v.known n).mine ≡ true → steps_at v.known n ≡ steps_under n es
  pub width : (n : ℕ) → (known_at v.known n).mine ≡ true →
      (n < plan.seats) × (length v.known ≡ plan.seats) × (v.plan ≡ plan)
  pub heard : AreTogether v.knew v.heard

-- The fact that each step keeps
pub record HasOneHistory (plan : Layout) {S : Type 0} (s : State S View) : Type 0 where
  pub history : List ClockEvent
  pub few : (plan.seats ≤ most_seats) × (plan.guards < most_seats)
  pub sound : IsSoundHistory plan.guards plan.seats history
  pub words : AreWords plan history s.words
  pub each : (i : ℕ) (v : View) → get_elem? s.views i ≡ some v → KnowsHistory plan history v
  pub apart : (i j n : ℕ) (v w : View) → get_elem? s.views i ≡ some v →
      get_elem? s.views j ≡ some w → (known_at v.known n).mine ≡ true →
      (known_at w.known n).mine ≡ true → i ≡ j

-- a view that took nothing in
abbrev pub view_of : Layout → ℕ → List Known → View
view_of plan number ks = record {
  plan = plan;
  number = number;
  known = ks;
  knew = [];
  heard = [];
}

-- the view of the seat that has all numbers below the seats' count to give
abbrev pub giver : Layout → View
giver plan = view_of plan plan.seats (owns_below plan.seats plan.seats)

-- the words at the start: the guards as work, and nothing else
abbrev pub first_words : Layout → List ℕ
first_words plan =
    slice_set (replicate (1 + length plan.cells + total plan.cells) 0) 0 (plan.guards * 2 ^ 32)
