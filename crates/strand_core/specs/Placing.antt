-- Where a rack has the handlers of the operations of a script, or of one lane of it.
use Rattle.std.specs.Prelude.{◌≡◌, ℕ, Bool, true, List, Option, Some, None, map, ⊤, if◌then◌else◌}
use Rattle.std.specs.List.{range_with_len}
use Rattle.session_script.specs.Script.{ScriptModel}
use Rattle.lane_map.specs.LaneNumbers.{is_op_on, passing_before}
use Rattle.strand_core.specs.Hands.{in_list, taken_at}
use Rattle.strand_core.specs.declared.placing.Placing.{Placing}
use Rattle.strand_core.specs.declared.placing.Placing.TheVariants as by

-- whether a number has a place
abbrev pub has_place : ScriptModel → Placing → ℕ → Bool
has_place script by.ByNumber n = true
has_place script (by.ByRank lanes lane) n = is_op_on script lane n

-- its place: as many have one before it
abbrev pub place_of : ScriptModel → Placing → ℕ → Option ℕ
place_of script placed n =
    if has_place script placed n then Some (passing_before (has_place script placed) n) else None

-- the lanes are those of the script
abbrev pub IsPlacingOf : ScriptModel → Placing → Type 0
IsPlacingOf script by.ByNumber = ⊤
IsPlacingOf script (by.ByRank lanes lane) = lanes.now ≡ script

-- handlers one behind the other, seen at the numbers below a count that pass a test
abbrev pub spread : {H : Type 0} → (ℕ → Bool) → ℕ → List (Option H) → List (Option H)
spread test count packed =
    map (λ n. taken_at (test n) (in_list packed (passing_before test n))) (range_with_len 0 count)
