-- The names that an execution may make something under (this project's own: Asio's objects are made
-- with no name).
use Rattle.std.specs.Prelude.{◌≡◌, ℕ, Option, Some, None, Bool, true, false}
use Rattle.io_rules.specs.declared.name.Kind.{Kind}
use Rattle.io_rules.specs.declared.name.Kind.TheVariants as kind
use Rattle.io_rules.specs.declared.name.Name.{Name}
use Rattle.io_rules.specs.declared.place.Life.{Life}
use Rattle.io_rules.specs.declared.place.Life.TheVariants as life
use Rattle.io_rules.specs.declared.place.Place.{Place}
use Rattle.io_rules.specs.declared.spares.Spares.{Spares}
use Rattle.io_rules.specs.Names.{Names, any_free, is_free, same_name, with_life}
use Rattle.std.specs.Prelude.{List}

abbrev pub no_spares : Spares
no_spares = record { strand = None; timer = None; slot = None; stream = None }

abbrev pub spare_of : Kind → Spares → Option Name
spare_of kind.Strand spares = spares.strand
spare_of kind.Timer spares = spares.timer
spare_of kind.Slot spares = spares.slot
spare_of kind.Stream spares = spares.stream
spare_of kind.Listener spares = spares.stream

-- without the one of this kind
abbrev pub without_spare : Kind → Spares → Spares
without_spare kind.Strand spares = record spares { strand = None }
without_spare kind.Timer spares = record spares { timer = None }
without_spare kind.Slot spares = record spares { slot = None }
without_spare kind.Stream spares = record spares { stream = None }
without_spare kind.Listener spares = record spares { stream = None }

-- a name is taken where there is none yet, as far as one is free
abbrev pub MayKeep : List Place → Option Name → Option Name → Type 0
MayKeep places (Some had) taken = taken ≡ None
MayKeep places None (Some name) = is_free places name ≡ true
MayKeep places None None = any_free places ≡ false

-- so for each kind, beside those that were there
pub record MayKeepAll (names : Names) (had taken : Spares) : Type 0 where
  pub strand : MayKeep names.strands had.strand taken.strand
  pub timer : MayKeep names.timers had.timer taken.timer
  pub slot : MayKeep names.slots had.slot taken.slot
  pub stream : MayKeep names.streams had.stream taken.stream

-- the place of a name, if there is one, comes to this
abbrev pub with_life_of : Life → Option Name → List Place → List Place
with_life_of new None places = places
with_life_of new (Some name) places = with_life new name places

-- the places of these names come to this
abbrev pub with_lives_of : Life → Spares → Names → Names
with_lives_of new spares names = record {
  strands = with_life_of new spares.strand names.strands;
  timers = with_life_of new spares.timer names.timers;
  slots = with_life_of new spares.slot names.slots;
  streams = with_life_of new spares.stream names.streams;
}

abbrev pub kept_for : ℕ → Spares → Names → Names
kept_for op spares names = with_lives_of (life.Kept op) spares names

-- those that weren't used are free again
abbrev pub given_back : Spares → Names → Names
given_back spares names = with_lives_of life.Free spares names

abbrev pub first_of_two : Option Name → Option Name → Option Name
first_of_two None taken = taken
first_of_two (Some had) taken = Some had

-- those that were there, and those that were taken
abbrev pub joined_spares : Spares → Spares → Spares
joined_spares had taken = record {
  strand = first_of_two had.strand taken.strand;
  timer = first_of_two had.timer taken.timer;
  slot = first_of_two had.slot taken.slot;
  stream = first_of_two had.stream taken.stream;
}

-- this name is kept for it
abbrev pub is_spare : Name → Option Name → Bool
is_spare name None = false
is_spare name (Some spare) = same_name spare name
