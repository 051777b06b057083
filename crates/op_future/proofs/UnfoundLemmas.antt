-- What a worker doesn't find at the end of a session was never there: it looked as the law on absence asks.
use Rattle.std.proofs.Common.{◌≡◌, ℕ, ◌<◌, List, None, arith}
use Rattle.std.specs.Prelude.{slice_index}
use mathlib.Core.Option.{some}
use lib.ListN.{get_elem?}
use Rattle.session_script.specs.Script.{ScriptModel}
use Rattle.lane_clock.specs.declared.step.ClockStep.{ClockStep}
use Rattle.lane_clock.specs.declared.step.ClockStep.TheVariants.{Join, Look}
use Rattle.lane_clock.specs.Knowledge.{StartOf}
use Rattle.lane_clock.specs.Seats.{own}
use Rattle.lane_clock.proofs.KnownLemmas.{at_within}
use Rattle.lane_clock.proofs.MomentLemmas.{at_start}
use Rattle.lane_map.specs.LaneNumbers.{cells_of, home_lane}
use Rattle.lane_logs.specs.SeatNumbers.{opener_seat}
use Rattle.lane_turns.specs.Receipts.{HasFoundNone, SeatHasGone}
use Rattle.lane_turns.specs.Workers.{WorkerView}
use Rattle.lane_turns.proofs.ReceiptLemmas.{none_at, pen_finds}
use Rattle.history_merge.specs.Receipts.{ClosesLast, FoundNoneAtEnd}

-- A worker that found none behind the closing of the last round, of which it knew before, looked so
pub found_none_at_end : (script : ScriptModel) (lists : ℕ → List ClockStep) (n op : ℕ) (old new : WorkerView) →
    HasFoundNone SeatHasGone (home_lane script op) (slice_index (cells_of script) (home_lane script op)) op old new →
    StartOf (own new.pen.seat) (lists n) → (at : ℕ) → ClosesLast script lists at → (joined : ℕ) (counts : List ℕ) →
    get_elem? (own old.pen.seat) joined ≡ some (Join counts) → at < slice_index counts (opener_seat script) →
    FoundNoneAtEnd script lists n op
found_none_at_end script lists n op old new found all at closes joined counts joins knows =
    let grown : StartOf (own old.pen.seat) (own new.pen.seat) = (_, found.others.gone.gone.steps) in
    let pens = pen_finds (home_lane script op) _ op None old new found in
    record {
      closing = at;
      closes = closes;
      joined = joined;
      counts = counts;
      joins =
          at_start (own new.pen.seat) (lists n) joined (Join counts) all
          (at_start (own old.pen.seat) (own new.pen.seat) joined (Join counts) grown joins);
      knows = knows;
      looks = λ place less.
          let it = none_at (home_lane script op) _ op old.pen new.pen pens place less in
          let before = at_within (own old.pen.seat) joined (Join counts) joins in
          record {
            at = it.0;
            behind = let behind = it.2 in omega (arith, before, behind);
            held = it.1;
            saw =
                at_start (own new.pen.seat) (lists n) it.0 (Look (home_lane script op) place it.1) all it.3;
            other = it.4;
          };
    }
