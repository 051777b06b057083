-- There is a lane for each act.
use Rattle.std.proofs.Common.{◌≡◌, ℕ, ◌+◌, ◌≤◌, List, [], ◌∷◌, ◌++◌, length, arith, length-append}
use Rattle.std.proofs.lemmas.List.{get_or_past}
use Rattle.asio_types.specs.declared.number.Lane.{Lane}
use Rattle.asio_types.specs.declared.number.Lane.TheVariants as lane
use Rattle.session_script.specs.Script.{Entry, ScriptModel}
use Rattle.session_script.specs.Lanes.{caller_lane, lane_in, lane_of, lanes_after, lanes_of}

length-lanes_after : (lanes : List Lane) (entries : List Entry) →
    length (lanes_after lanes entries) ≡ length lanes + length entries
length-lanes_after lanes [] = omega arith
length-lanes_after lanes (entry ∷ entries) =
    let lane = lane_in (caller_lane lanes entry.parent) (length lanes) entry.act in
    omega (arith, length-lanes_after (lanes ++ lane ∷ []) entries, length-append lanes (lane ∷ []))

-- a number that no act has counts to the reactor
pub lane_of_past : (script : ScriptModel) (n : ℕ) → length script.acts ≤ n → lane_of script n ≡ lane.Reactor
lane_of_past script n past =
    get_or_past (lanes_of script) n lane.Reactor (omega (arith, length-lanes_after [] script.acts, past))
