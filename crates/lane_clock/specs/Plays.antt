-- What each step on the table does to the view of the seat that makes it.
use Rattle.std.specs.Prelude.{true, ◌≡◌, ℕ, ◌-◌, List, [], length, replicate, slice_set, false, Some}
use Rattle.atomic_table.specs.Table as table
use Rattle.asio_types.specs.declared.event.Event.{Event}
use Rattle.lane_clock.specs.declared.note.Note.{Note}
use Rattle.lane_clock.specs.declared.step.ClockStep.{ClockStep}
use Rattle.lane_clock.specs.declared.step.ClockStep.TheVariants.{Draw, Load, Place, Put, Look, Join}
use Rattle.lane_clock.specs.declared.step.Known.{Known}
use Rattle.lane_clock.specs.declared.step.View.{View}
use Rattle.lane_clock.specs.ClockWord.{change_of, found_of}
use Rattle.lane_clock.specs.NoteWord.{note_in_word}
use Rattle.lane_clock.specs.Layout.{lane_of_place, lane_of_cell, place_of_cell}
use Rattle.lane_clock.specs.Knowledge.{known_at, steps_at, AreTogether, unknown, stepped_at, joined, counts, copy_of}
use Rattle.lane_clock.specs.Steps.{has_put}
use Rattle.lane_clock.specs.Chronicle.{view_of}

abbrev pub view_with : View → List Known → View
view_with v ks = record {
  plan = v.plan;
  number = v.number;
  known = ks;
  knew = v.knew;
  heard = v.heard;
}

-- the view with what another knows beside its own
abbrev pub taken_in : View → List Known → View
taken_in v others = record {
  plan = v.plan;
  number = v.number;
  known = joined v.known others;
  knew = v.known;
  heard = others;
}

-- the view after one more step
abbrev pub step_view : View → ClockStep → View
step_view v step = view_with v (stepped_at v.known v.number step)

-- the view after it took in what another knows
abbrev pub join_view : View → List Known → View
join_view v others = step_view (taken_in v others) (Join (counts others))

abbrev pub copy_view : View → View
copy_view v = view_with v (copy_of v.known)

-- the giver once it gave the number before its own, and the seat with that number
abbrev pub giver_after : View → View
giver_after v = view_of v.plan (v.number - 1) (slice_set v.known (v.number - 1) unknown)

abbrev pub given : View → View
given v =
    view_of v.plan (v.number - 1)
    (slice_set (replicate (length v.known) unknown) (v.number - 1)
    (known_at v.known (v.number - 1)))

-- a seat that was taken in knows nothing
abbrev pub spent_view : View
spent_view = view_of record { guards = 0; seats = 0; cells = [] } 0 []

module _ {S : Type 0} where
  -- the seat made this step, and holds what it held
  abbrev pub Makes : table.Me S View → ClockStep → table.Me S View → Type 0
  Makes me step after = after ≡ (step_view me.0 step, me.1)

  -- the position of this event is drawn
  abbrev pub draws : Event → table.Step S → table.Me S View → ℕ → table.Me S View → Type 0
  draws shown st me n after = Makes me (Draw shown (change_of st.first) (found_of n)) after

  abbrev pub loads : table.Step S → table.Me S View → ℕ → table.Me S View → Type 0
  loads st me n after = Makes me (Load (found_of n)) after

  -- the place is new to the seat
  abbrev pub places : table.Step S → table.Me S View → ℕ → table.Me S View → Type 0
  places st me n after =
      Makes me (Place (lane_of_place st.word) n) after
      × (has_put (lane_of_place st.word) n (steps_at me.0.known me.0.number) ≡ false)

  -- the number is the word that was stored
  abbrev pub puts : table.Step S → table.Me S View → ℕ → table.Me S View → Type 0
  puts st me n after =
      (note : Note) × (note_in_word n ≡ Some note)
      × Makes me
      (Put (lane_of_cell me.0.plan.cells st.word) (place_of_cell me.0.plan.cells st.word) note)
      after

  abbrev pub looks : table.Step S → table.Me S View → ℕ → table.Me S View → Type 0
  looks st me n after =
      Makes me
      (Look (lane_of_cell me.0.plan.cells st.word) (place_of_cell me.0.plan.cells st.word)
      (note_in_word n)) after

  -- the seat stays as it is, and what it heard last agrees with what it knew
  abbrev pub hears : table.Step S → table.Me S View → ℕ → table.Me S View → Type 0
  hears st me n after = (after ≡ me) × AreTogether me.0.knew me.0.heard

-- a seat of the table with no slot, whose own steps are all there are under its number
pub record IsLive (me : table.Me (Unit {0}) View) : Type 0 where
  pub empty : me.1 ≡ []
  pub mine : (known_at me.0.known me.0.number).mine ≡ true
