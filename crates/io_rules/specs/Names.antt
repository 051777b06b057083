-- Names of strands, timers, slots, streams and listeners, and the places that they name (Asio
-- reference, strand, basic_waitable_timer, cancellation_slot, basic_stream_socket: each is made and
-- destroyed by the program while the context runs).
use Rattle.std.specs.Prelude.{ℕ, ◌+◌, ◌==◌, ◌&&◌, nat_lt, Bool, true, false, List, replicate, if◌then◌else◌}
use Rattle.std.specs.List.{list_any, slice_index_or, slice_set}
use Rattle.io_rules.specs.declared.limits.Limits.{Limits}
use Rattle.io_rules.specs.declared.name.Kind.{Kind}
use Rattle.io_rules.specs.declared.name.Kind.TheVariants as kind
use Rattle.io_rules.specs.declared.name.Lane.{Lane}
use Rattle.io_rules.specs.declared.name.Lane.TheVariants as lane
use Rattle.io_rules.specs.declared.name.Name.{Name}
use Rattle.io_rules.specs.declared.place.Life.{Life}
use Rattle.io_rules.specs.declared.place.Life.TheVariants as life
use Rattle.io_rules.specs.declared.place.Place.{Place}

abbrev pub same_name : Name → Name → Bool
same_name a b = (a.place == b.place) && (a.generation == b.generation)

-- it is on the strand of this name
abbrev pub is_on : Name → Lane → Bool
is_on name lane.Own = false
is_on name (lane.Strand strand) = same_name strand name

-- the places of one kind; streams and listeners share theirs
pub record Names : Type 0 where
  pub strands : List Place
  pub timers : List Place
  pub slots : List Place
  pub streams : List Place

abbrev pub new_place : Place
new_place = record { generation = 0; life = life.Free }

-- beyond the limit there is no place
abbrev pub no_place : Place
no_place = record { generation = 0; life = life.Spent }

abbrev pub first_names : Limits → Names
first_names limits = record {
  strands = replicate limits.strands new_place;
  timers = replicate limits.timers new_place;
  slots = replicate limits.slots new_place;
  streams = replicate limits.streams new_place;
}

abbrev pub places_of : Kind → Names → List Place
places_of kind.Strand names = names.strands
places_of kind.Timer names = names.timers
places_of kind.Slot names = names.slots
places_of kind.Stream names = names.streams
places_of kind.Listener names = names.streams

abbrev pub with_places : Kind → List Place → Names → Names
with_places kind.Strand places names = record names { strands = places }
with_places kind.Timer places names = record names { timers = places }
with_places kind.Slot places names = record names { slots = places }
with_places kind.Stream places names = record names { streams = places }
with_places kind.Listener places names = record names { streams = places }

abbrev pub place_at : List Place → ℕ → Place
place_at places n = slice_index_or places n no_place

-- the name is the latest of its place
abbrev pub is_current : List Place → Name → Bool
is_current places name = (place_at places name.place).generation == name.generation

abbrev pub is_living : Life → Bool
is_living life.Alive = true
is_living _ = false

abbrev pub is_closing : Life → Bool
is_closing life.Closing = true
is_closing _ = false

abbrev pub is_unused : Life → Bool
is_unused life.Free = true
is_unused _ = false

-- what it names is there, and its name isn't gone
abbrev pub is_alive : List Place → Name → Bool
is_alive places name = is_current places name && is_living (place_at places name.place).life

-- its name is gone, and what it names is still there
abbrev pub is_leaving : List Place → Name → Bool
is_leaving places name = is_current places name && is_closing (place_at places name.place).life

-- something may be made under it
abbrev pub is_free : List Place → Name → Bool
is_free places name = is_current places name && is_unused (place_at places name.place).life

abbrev pub any_free : List Place → Bool
any_free places = list_any (λ place. is_unused place.life) places

-- what is at the place of a name comes to this
abbrev pub with_life : Life → Name → List Place → List Place
with_life new name places =
    slice_set places name.place (record (place_at places name.place) { life = new })

-- nothing is there any more; the next name is another one, as long as there is one
abbrev pub freed : Place → Place
freed place =
    if nat_lt (place.generation + 1) 4294967296
    then record { generation = place.generation + 1; life = life.Free }
    else record place { life = life.Spent }

abbrev pub with_freed : Name → List Place → List Place
with_freed name places = slice_set places name.place (freed (place_at places name.place))
