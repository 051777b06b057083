-- A poster where an execution begins.
use Rattle.std.proofs.Common.{◌≡◌, ℕ, List, [], sym, subst}
use Rattle.session_script.specs.Script.{ScriptModel}
use Rattle.strand_core.specs.declared.posted.Posted.{Posted}
use Rattle.lane_clock.specs.Seats.{ClockId}
use Rattle.lane_logs.specs.Labels.{none_drawn}
use Rattle.lane_turns.specs.Pens.{HasDrawnCalls, PenView}
use Rattle.lane_turns.specs.Posting.{FitsClock, IsPosting}
use Rattle.lane_turns.proofs.PenLemmas.{gone_nowhere}

no_calls : (script : ScriptModel) (pen : PenView) → HasDrawnCalls script [] pen pen
no_calls script pen = record { labels = []; drawn = none_drawn; gone = gone_nowhere pen }

pub posting_begins : (clock : ClockId) (start : PenView) (script : ScriptModel) (pen : PenView) (made : List Posted)
    (spare : ℕ) → start ≡ pen → made ≡ [] → pen.seat.clock ≡ clock → FitsClock script clock →
    IsPosting clock start (record { script = script; pen = pen; made = made; spare = spare })
posting_begins clock start script pen made spare same none of_clock fits =
    record {
      clock_is = of_clock;
      fits = fits;
      drawn =
          subst (λ from. HasDrawnCalls script made from pen) (sym same)
          (subst (λ calls. HasDrawnCalls script calls pen pen) (sym none) (no_calls script pen));
    }
