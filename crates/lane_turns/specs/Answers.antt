-- What an answer is (Asio reference, io_context::poll_one).
use Rattle.std.specs.Prelude.{Bool, true, false}
use Rattle.lane_turns.specs.declared.one.One.{One}
use Rattle.lane_turns.specs.declared.one.One.TheVariants as one

abbrev pub is_nothing : One → Bool
is_nothing (one.Ran op mark) = false
is_nothing one.Turned = false
is_nothing one.Nothing = true
is_nothing one.Stopped = false
is_nothing one.Fault = false
is_nothing (one.Missing op) = false

abbrev pub is_fault : One → Bool
is_fault (one.Ran op mark) = false
is_fault one.Turned = false
is_fault one.Nothing = false
is_fault one.Stopped = false
is_fault one.Fault = true
is_fault (one.Missing op) = false

-- whether something was done at a lane
abbrev pub is_done : One → Bool
is_done (one.Ran op mark) = true
is_done one.Turned = true
is_done one.Nothing = false
is_done one.Stopped = false
is_done one.Fault = false
is_done (one.Missing op) = false
