-- One legal history, and what each seat knows of it.
use Rattle.std.specs.Prelude.{◌≡◌, ℕ, true, false, List, [], ◌∷◌, ◌++◌, Option, Some, None}
use mathlib.Core.Option.{some}
use lib.ListN.{get_elem?}
use Rattle.atomic_table.specs.Table.{State}
use Rattle.io_rules.specs.declared.event.Event.{Event}
use Rattle.io_rules.specs.declared.limits.Limits.{Limits}
use Rattle.io_rules.specs.Legal.{IsLegal, state_of}
use Rattle.io_rules.specs.Ops.{is_running, op_at}
use Rattle.io_rules.specs.State.{ContextState}
use Rattle.io_history.specs.declared.view.Held.{Held}
use Rattle.io_history.specs.declared.view.View.{View}

-- what was told is where the history came by
abbrev pub EndsWith : List Event → List Event → Type 0
EndsWith events told = (later : List Event) × (events ≡ later ++ told)

-- its handler executes, and the operation is as it is held
pub record Executes (s : ContextState) (held : Held) : Type 0 where
  pub same : op_at s.ops held.op ≡ Some held.is
  pub runs : is_running held.is.phase ≡ true

abbrev pub IsHeld : ContextState → Option Held → Type 0
IsHeld s None = Unit {0}
IsHeld s (Some held) = Executes s held

pub record Keeps (keeper : ℕ) (limits : Limits) (events : List Event) (by : ℕ) (v : View) : Type 0 where
  pub one : by ≡ keeper
  pub room : v.limits ≡ limits
  pub all : v.events ≡ events

-- what is so of one seat
pub record Fits (keeper : ℕ) (limits : Limits) (events : List Event) (by : ℕ) (v : View) : Type 0 where
  pub keeps : v.keeps ≡ true → Keeps keeper limits events by v
  pub told : EndsWith events v.told
  pub held : IsHeld (state_of limits events) v.held

-- no two seats hold the same operation
abbrev pub Apart : List View → Type 0
Apart views =
    (a b : ℕ) (v w : View) (h i : Held) → get_elem? views a ≡ some v → get_elem? views b ≡ some w →
    v.held ≡ Some h → w.held ≡ Some i → h.op ≡ i.op → a ≡ b

-- there are this keeper and this history
pub record AreKept (keeper : ℕ) (limits : Limits) (events : List Event) (views : List View) : Type 0 where
  pub legal : IsLegal limits events
  pub fits : (by : ℕ) (v : View) → get_elem? views by ≡ some v → Fits keeper limits events by v
  pub apart : Apart views

pub record KeptViews (views : List View) : Type 0 where
  pub keeper : ℕ
  pub limits : Limits
  pub events : List Event
  pub kept : AreKept keeper limits events views

abbrev pub Kept : State ℕ View → Type 0
Kept s = KeptViews s.views

abbrev pub first_keeper : Limits → View
first_keeper limits = record { keeps = true; limits = limits; events = []; told = []; held = None }
