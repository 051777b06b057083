-- The lane of each act, and which dispatches execute inside their call (Asio reference, Overview,
-- "Strands: Use Threads Without Explicit Locking"; `asio::dispatch`).
use Rattle.std.specs.Prelude.{ℕ, Bool, true, false, ◌==◌, List, [], ◌∷◌, ◌++◌, length, Option, Some, None, slice_get, slice_index_or, if◌then◌else◌}
use Rattle.asio_types.specs.declared.number.Lane.{Lane}
use Rattle.asio_types.specs.declared.number.Lane.TheVariants as lane
use Rattle.session_script.specs.declared.act.Act.{Act}
use Rattle.session_script.specs.declared.act.Act.TheVariants as act
use Rattle.session_script.specs.Script.{Place, Entry, ScriptModel, is_operation, is_stop, act_of, parent_of}

-- the strand that an act names
abbrev pub strand_of : Act → Option ℕ
strand_of (act.Post strand) = strand
strand_of (act.Defer strand) = strand
strand_of (act.Dispatch strand) = strand
strand_of (act.Wait timer strand slot filter) = strand
strand_of (act.ReadSome stream size strand slot filter) = strand
strand_of (act.ReadAll stream size strand slot filter) = strand
strand_of (act.Until stream delimiter max strand slot filter) = strand
strand_of (act.WriteSome stream bytes strand slot filter) = strand
strand_of (act.WriteAll stream bytes strand slot filter) = strand
strand_of _ = None

-- the lane of the handler that calls the acts of a place; nothing calls those of `open`
abbrev pub caller_lane : List Lane → Place → Option Lane
caller_lane lanes None = None
caller_lane lanes (Some at) = slice_get lanes at.0

-- whether a lane is this strand
abbrev pub is_strand : ℕ → Lane → Bool
is_strand strand (lane.Strand other) = other == strand
is_strand strand (lane.Own op) = false
is_strand strand lane.Reactor = false

-- a dispatch by a handler executes inside its call where it names no strand, or the one on which
-- the handler executes
abbrev pub is_inside : Option Lane → Act → Bool
is_inside (Some caller) (act.Dispatch None) = true
is_inside (Some caller) (act.Dispatch (Some strand)) = is_strand strand caller
is_inside (Some caller) _ = false
is_inside None _ = false

abbrev pub lane_or_reactor : Option Lane → Lane
lane_or_reactor None = lane.Reactor
lane_or_reactor (Some found) = found

-- the lane of operation n outside its call: its strand, else its own place
abbrev pub place_lane : ℕ → Option ℕ → Lane
place_lane n None = lane.Own n
place_lane n (Some strand) = lane.Strand strand

-- the lane of act n: that of its caller inside its call and for a stop, and the reactor for a
-- control act
abbrev pub lane_in : Option Lane → ℕ → Act → Lane
lane_in caller n act =
    if is_inside caller act then lane_or_reactor caller
    else (if is_operation act then place_lane n (strand_of act)
    else (if is_stop act then lane_or_reactor caller else lane.Reactor))

-- the lanes of further acts after those of all acts before them
abbrev pub lanes_after : List Lane → List Entry → List Lane
lanes_after lanes [] = lanes
lanes_after lanes (entry ∷ entries) =
    lanes_after (lanes ++ lane_in (caller_lane lanes entry.parent) (length lanes) entry.act ∷ [])
    entries

-- the lanes of all acts
abbrev pub lanes_of : ScriptModel → List Lane
lanes_of script = lanes_after [] script.acts

-- the lane of the act with a number
abbrev pub lane_of : ScriptModel → ℕ → Lane
lane_of script n = slice_index_or (lanes_of script) n lane.Reactor

-- whether the act with a number executes inside its call
abbrev pub is_inline : ScriptModel → ℕ → Bool
is_inline script n = is_inline_in (act_of script n)
  where
    is_inline_in : Option Act → Bool
    is_inline_in None = false
    is_inline_in (Some act) = is_inside (caller_lane (lanes_of script) (parent_of script n)) act
