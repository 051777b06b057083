-- The handlers that are destroyed with a context: of operations that were initiated and that never
-- began, by rising number (Asio reference, io_context::~io_context).
use Rattle.std.specs.Prelude.{ℕ, Bool, false, not, ◌&&◌, ◌==◌, List, filter, length, map, if◌then◌else◌}
use Rattle.std.specs.List.{list_any, range_with_len, sum_by}
use Rattle.asio_types.specs.declared.event.Event.{Event}
use Rattle.asio_types.specs.declared.event.Event.TheVariants as event
use Rattle.session_script.specs.Script.{is_op}
use Rattle.lane_logs.specs.LaneLog.{has_begun}
use Rattle.lane_logs.specs.Names.{SessionNames}

abbrev pub is_call_of : ℕ → Event → Bool
is_call_of act (event.Call other) = other == act
is_call_of act _ = false

abbrev pub has_call : ℕ → List Event → Bool
has_call act events = list_any (is_call_of act) events

abbrev pub is_left : SessionNames → List Event → ℕ → Bool
is_left names events op =
    is_op names.script op && has_call op events && not (has_begun op events)

abbrev pub dropped : SessionNames → ℕ → Event
dropped names op = event.Dropped op (names.drop op)

-- the drops after these events, with the marks that are named
abbrev pub drops_of : SessionNames → List Event → List Event
drops_of names events =
    map (dropped names)
    (filter (is_left names events) (range_with_len 0 (length names.script.acts)))

-- an operation that was never initiated
abbrev pub is_untouched : SessionNames → List Event → ℕ → Bool
is_untouched names events op =
    is_op names.script op && not (has_call op events) && not (has_begun op events)

-- its handler's drop mark, 0 for any other
abbrev pub untouched_mark : SessionNames → List Event → ℕ → ℕ
untouched_mark names events op = if is_untouched names events op then names.drop op else 0

-- the sum of the drop marks of the handlers of the first operations, so many, that were never initiated
abbrev pub untouched_marks : SessionNames → List Event → ℕ → ℕ
untouched_marks names events count =
    sum_by (untouched_mark names events) (range_with_len 0 count)
