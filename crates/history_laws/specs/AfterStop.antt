-- What comes after a stop (Asio reference, io_context::stop and ::restart; that a lane may begin one
-- more execution is this project's own bound).
use Rattle.std.specs.Prelude.{◌≡◌, ◌≤◌, ℕ, Bool, true, false, not, ◌&&◌, List, ◌∷◌, ◌++◌, None, length, count_by}
use Rattle.asio_types.specs.declared.event.Event.{Event}
use Rattle.asio_types.specs.declared.event.Event.TheVariants as event
use Rattle.asio_types.specs.declared.number.Lane.TheVariants as lane
use Rattle.session_script.specs.Lanes.{is_inline, is_strand, lane_of}
use Rattle.session_script.specs.Script.{ScriptModel, parent_of, stops}

-- a handler of this strand begins, and not inside its call
abbrev pub is_start_on : ScriptModel → ℕ → Event → Bool
is_start_on script strand (event.Begin op code size) =
    not (is_inline script op) && is_strand strand (lane_of script op)
is_start_on script strand _ = false

-- the reactor takes a request or moves time
abbrev pub is_turn : Event → Bool
is_turn (event.Take act) = true
is_turn (event.Tick now) = true
is_turn event.Last = true
is_turn _ = false

abbrev pub is_restart : Event → Bool
is_restart event.Restart = true
is_restart _ = false

-- a round closes because no work is left, or because the context was stopped
abbrev pub is_closing : Event → Bool
is_closing event.Ended = true
is_closing event.Stopped = true
is_closing _ = false

abbrev pub is_round_end : Event → Bool
is_round_end event.Polled = true
is_round_end shown = is_closing shown

-- how many handlers of the strand begin
abbrev pub starts_on : ScriptModel → ℕ → List Event → ℕ
starts_on script strand events = count_by (is_start_on script strand) events

-- the events between one event and another place, with no restart among them
pub record AreUnrestarted (events : List Event) (first : Event) (between : List Event) : Type 0
  where
    pub before : List Event
    pub rest : List Event
    pub all : events ≡ before ++ first ∷ (between ++ rest)
    pub unrestarted : count_by is_restart between ≡ 0

-- Once a stop is back, and until the context is restarted, each strand begins at most one handler
-- and the reactor one turn; the strand of the handler that stopped the context begins none, and
-- after a stop in `open`, or a round that closed by a stop or for want of work, none begins any.
-- There are no more ends of rounds than rounds.
pub record StopsAreHeeded (script : ScriptModel) (events : List Event) : Type 0 where
  pub strands : (a strand : ℕ) (between : List Event) → stops script a ≡ true →
      AreUnrestarted events (event.Back a) between → starts_on script strand between ≤ 1
  pub turns : (a : ℕ) (between : List Event) → stops script a ≡ true →
      AreUnrestarted events (event.Back a) between → count_by is_turn between ≤ 1
  pub own : (a strand : ℕ) (between : List Event) → stops script a ≡ true →
      lane_of script a ≡ lane.Strand strand → AreUnrestarted events (event.Back a) between →
      starts_on script strand between ≡ 0
  pub opening : (a strand : ℕ) (between : List Event) → stops script a ≡ true →
      parent_of script a ≡ None → AreUnrestarted events (event.Back a) between →
      starts_on script strand between ≡ 0
  pub closed : (closing : Event) (strand : ℕ) (between : List Event) → is_closing closing ≡ true →
      AreUnrestarted events closing between → starts_on script strand between ≡ 0
  pub rounds : count_by is_round_end events ≤ length script.rounds
