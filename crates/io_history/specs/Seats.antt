-- What callers see of seats.
use Rattle.std.specs.Prelude.{◌≡◌, ◌<◌, ℕ, Bool, true, false, List, [], Option, None}
use Rattle.atomic_table.specs.Seated.{TableId}
use Rattle.atomic_table.specs.Table.{Me}
use Rattle.io_rules.specs.declared.event.Event.{Event}
use Rattle.io_rules.specs.declared.event.Event.TheVariants as event
use Rattle.io_rules.specs.declared.limits.Limits.{Limits}
use Rattle.io_rules.specs.History.{times}
use Rattle.io_history.specs.declared.view.Held.{Held}
use Rattle.io_history.specs.declared.view.View.{View}
use Rattle.io_history.specs.Rule.{first_keeper}

-- the history so far, newest event first, and the operation that its keeper holds
pub record Chronicle : Type 0 where
  pub past : List Event
  pub held : Option Held

-- what is claimed, and the history when it was given out
pub record Claimed : Type 0 where
  pub held : Option Held
  pub told : List Event

abbrev pub kept_by : Me ℕ View → Chronicle
kept_by me = record { past = me.0.events; held = me.0.held }

abbrev pub claimed_by : Me ℕ View → Claimed
claimed_by me = record { held = me.0.held; told = me.0.told }

-- a handler has returned
abbrev pub is_end : Event → Bool
is_end (event.Ended op mark) = true
is_end _ = false

-- the ledger has as many as have returned
pub record IsKeeper (table : TableId) (limits : Limits) (ended : ℕ) (of : TableId) (me : Me ℕ View) : Type 0 where
  pub here : of ≡ table
  pub words : 0 < table.words
  pub keeps : me.0.keeps ≡ true
  pub room : me.0.limits ≡ limits
  pub counted : times is_end me.0.events ≡ ended
  pub slots : me.1 ≡ []

pub record IsOther (table : TableId) (of : TableId) (me : Me ℕ View) : Type 0 where
  pub here : of ≡ table
  pub keeps : me.0.keeps ≡ false
  pub slots : me.1 ≡ []

-- the seat of an empty history
pub record IsFirstSeat (limits : Limits) (table of : TableId) (me : Me ℕ View) : Type 0 where
  pub here : of ≡ table
  pub words : 0 < table.words
  pub view : me ≡ (first_keeper limits, [])
