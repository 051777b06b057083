-- The numbers of a script's lanes (Asio reference, Overview, "Strands: Use Threads Without Explicit
-- Locking"): the strands from 0, then the private places of the operations that have one, by rising
-- number of the operation, and last the reactor.
use Rattle.std.specs.Prelude.{ℕ, ◌+◌, Bool, true, false, ◌==◌, ◌&&◌, not, List, [], ◌∷◌, ◌++◌, length, Option, Some, None, map, if◌then◌else◌}
use Rattle.std.specs.List.{count_by, filter, range_with_len}
use Rattle.asio_types.specs.declared.number.Lane.{Lane}
use Rattle.asio_types.specs.declared.number.Lane.TheVariants as lane
use Rattle.session_script.specs.declared.act.Act.{Act}
use Rattle.session_script.specs.declared.act.Act.TheVariants as act
use Rattle.session_script.specs.Script.{ScriptModel, act_of, is_op, is_stop}
use Rattle.session_script.specs.Lanes.{is_inline, lane_of}

-- how many of the first n numbers pass a test
abbrev pub passing_before : (ℕ → Bool) → ℕ → ℕ
passing_before test n = count_by test (range_with_len 0 n)

-- whether a lane is the private place of operation n
abbrev pub is_own : ℕ → Lane → Bool
is_own n (lane.Own op) = op == n
is_own n (lane.Strand strand) = false
is_own n lane.Reactor = false

-- whether act n has a private place: an operation that names no strand and isn't inline
abbrev pub has_own_lane : ScriptModel → ℕ → Bool
has_own_lane script n = is_own n (lane_of script n)

-- the lanes in the order of their numbers
abbrev pub lane_list : ScriptModel → List Lane
lane_list script =
    map lane.Strand (range_with_len 0 script.strands)
    ++ map lane.Own (filter (has_own_lane script) (range_with_len 0 (length script.acts)))
    ++ lane.Reactor ∷ []

-- the number of the first private place, or of the one that comes after those of the acts before n
abbrev pub own_number : ScriptModel → ℕ → ℕ
own_number script n = script.strands + passing_before (has_own_lane script) n

abbrev pub reactor_lane : ScriptModel → ℕ
reactor_lane script = own_number script (length script.acts)

-- the number of a lane
abbrev pub lane_number : ScriptModel → Lane → ℕ
lane_number script (lane.Strand strand) = strand
lane_number script (lane.Own op) = own_number script op
lane_number script lane.Reactor = reactor_lane script

-- the number of the lane on which an operation executes; an inline operation has its caller's
abbrev pub home_lane : ScriptModel → ℕ → ℕ
home_lane script n = lane_number script (lane_of script n)

-- whether an act asks the lane of its own operation: a posting
abbrev pub asks_its_lane : Act → Bool
asks_its_lane (act.Post strand) = true
asks_its_lane (act.Defer strand) = true
asks_its_lane (act.Dispatch strand) = true
asks_its_lane _ = false

-- whether an act asks the reactor: an asynchronous operation or a control act
abbrev pub asks_reactor : Act → Bool
asks_reactor act = not (asks_its_lane act) && not (is_stop act)

-- whether there is an act with a number, and it passes a test
abbrev pub act_passes : (Act → Bool) → ScriptModel → ℕ → Bool
act_passes test script n = passes (act_of script n)
  where
    passes : Option Act → Bool
    passes None = false
    passes (Some act) = test act

-- the number of the lane where the call of an act places it: a posting on its own, all others on
-- the reactor's
abbrev pub asked_lane : ScriptModel → ℕ → ℕ
asked_lane script n =
    if act_passes asks_its_lane script n then home_lane script n else reactor_lane script

-- whether an act is an operation that executes on the lane with a number
abbrev pub is_op_on : ScriptModel → ℕ → ℕ → Bool
is_op_on script at n = is_op script n && (home_lane script n == at)

-- how many operations of its lane have a smaller number
abbrev pub rank_of : ScriptModel → ℕ → ℕ
rank_of script n = passing_before (is_op_on script (home_lane script n)) n

-- how many operations execute on a lane; their ranks are the numbers below
abbrev pub operations_on : ScriptModel → ℕ → ℕ
operations_on script at = passing_before (is_op_on script at) (length script.acts)

-- whether an act is an operation that doesn't execute inside its call: it takes a cell of its lane
-- when it is ready
abbrev pub has_cell : ScriptModel → ℕ → Bool
has_cell script n = is_op script n && not (is_inline script n)

abbrev pub has_cell_on : ScriptModel → ℕ → ℕ → Bool
has_cell_on script at n = has_cell script n && (home_lane script n == at)

-- how many cells a lane has: one for each operation of the lane that isn't inline; the reactor one
-- for each asynchronous operation and control act
abbrev pub cells_on : ScriptModel → ℕ → ℕ
cells_on script at =
    if at == reactor_lane script
    then passing_before (act_passes asks_reactor script) (length script.acts)
    else passing_before (has_cell_on script at) (length script.acts)

-- of each lane
abbrev pub cells_of : ScriptModel → List ℕ
cells_of script = map (cells_on script) (range_with_len 0 (length (lane_list script)))
