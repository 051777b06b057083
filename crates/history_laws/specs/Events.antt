-- What stands where in a history, and how often.
use Rattle.std.specs.Prelude.{◌≡◌, ℕ, ◌==◌, Bool, false, List, Some, count_by, slice_get, take}
use Rattle.asio_types.specs.declared.event.Event.{Event}
use Rattle.asio_types.specs.declared.event.Event.TheVariants as event

-- this event is the one at this place, counted from 0
abbrev pub StandsAt : List Event → ℕ → Event → Type 0
StandsAt events place shown = slice_get events place ≡ Some shown

abbrev pub is_call_of : ℕ → Event → Bool
is_call_of n (event.Call act) = act == n
is_call_of n _ = false

abbrev pub is_return_of : ℕ → Event → Bool
is_return_of n (event.Back act) = act == n
is_return_of n _ = false

abbrev pub is_begin_of : ℕ → Event → Bool
is_begin_of n (event.Begin op code size) = op == n
is_begin_of n _ = false

abbrev pub is_end_of : ℕ → Event → Bool
is_end_of n (event.End op mark) = op == n
is_end_of n _ = false

abbrev pub is_take_of : ℕ → Event → Bool
is_take_of n (event.Take act) = act == n
is_take_of n _ = false

abbrev pub is_completion_of : ℕ → Event → Bool
is_completion_of n (event.Done op code size) = op == n
is_completion_of n _ = false

abbrev pub is_drop_of : ℕ → Event → Bool
is_drop_of n (event.Dropped op mark) = op == n
is_drop_of n _ = false

-- how often the act with this number is called, and how often that call comes back
abbrev pub calls_of : ℕ → List Event → ℕ
calls_of n events = count_by (is_call_of n) events

abbrev pub returns_of : ℕ → List Event → ℕ
returns_of n events = count_by (is_return_of n) events

-- how often its handler begins, ends, and is destroyed
abbrev pub begins_of : ℕ → List Event → ℕ
begins_of n events = count_by (is_begin_of n) events

abbrev pub ends_of : ℕ → List Event → ℕ
ends_of n events = count_by (is_end_of n) events

abbrev pub drops_of : ℕ → List Event → ℕ
drops_of n events = count_by (is_drop_of n) events

-- how often the reactor takes it, and how often it completes
abbrev pub takes_of : ℕ → List Event → ℕ
takes_of n events = count_by (is_take_of n) events

abbrev pub completions_of : ℕ → List Event → ℕ
completions_of n events = count_by (is_completion_of n) events

-- at this place its call is open: it was made before, and isn't back
pub record IsOpenAt (events : List Event) (place n : ℕ) : Type 0 where
  pub made : calls_of n (take place events) ≡ 1
  pub outstanding : returns_of n (take place events) ≡ 0

-- at this place its handler runs: it began before, and hasn't ended
pub record RunsAt (events : List Event) (place n : ℕ) : Type 0 where
  pub begun : begins_of n (take place events) ≡ 1
  pub unended : ends_of n (take place events) ≡ 0
