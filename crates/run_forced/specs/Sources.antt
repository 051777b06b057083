-- Where the lines of a run stand that come before later ones.
use Rattle.std.specs.Prelude.{◌≡◌, ◌⊎◌, ◌<◌, ℕ, List, true, Option, Some, None, IsTrue, nat_eq}
use Rattle.std.specs.HashMap.{get}
use Rattle.run_lines.specs.declared.line.Line.{Line}
use Rattle.run_rules.specs.declared.frame.Frame.{Frame}
use Rattle.run_rules.specs.declared.frame.Frame.TheVariants.{Execution, Outside}
use Rattle.run_rules.specs.Against.{calls, completes}
use Rattle.run_rules.specs.Calls.{begins}
use Rattle.run_orders.specs.Forced.{IsQueued, begun_by, posts}
use Rattle.run_orders.specs.Trees.{Spot, spot_at, writer}
use Rattle.run_forced.specs.declared.sources.Called.{Called}
use Rattle.run_forced.specs.declared.sources.Last.{Last}
use Rattle.run_forced.specs.declared.sources.Sources.{Sources}

abbrev pub last_of : Sources → Frame → Option Last
last_of sources (Execution op) = get nat_eq sources.executions op
last_of sources (Outside thread) = get nat_eq sources.outsides thread

abbrev pub call_at : Sources → ℕ → Option Called
call_at sources op = get nat_eq sources.calls op

abbrev pub done_at : Sources → ℕ → Option ℕ
done_at sources op = get nat_eq sources.dones op

abbrev pub begin_at : Sources → ℕ → Option ℕ
begin_at sources op = get nat_eq sources.begins op

abbrev pub behind_at : Sources → ℕ → Option ℕ
behind_at sources op = get nat_eq sources.behind op

-- one of so many first lines of a run stands at this place, and is such a one
pub record IsAt (run : List Line) (lines : ℕ) (Such : Spot → Type 0) (place : ℕ) : Type 0 where
  pub spot : Spot
  pub there : spot_at run place ≡ Some spot
  pub earlier : place < lines
  pub such : Such spot

-- a line of this frame that begins nothing, or by which the execution begins that it is
abbrev pub IsOf : Frame → Spot → Type 0
IsOf who spot = ((op : ℕ) × (who ≡ Execution op) × IsTrue (begins spot.line.does op))
    ⊎ ((writer spot ≡ who) × (begun_by spot.line.does ≡ None))

-- the last line of a frame, and what it posts
abbrev pub IsLast : Frame → Option ℕ → Spot → Type 0
IsLast who posted spot = IsOf who spot × ((op : ℕ) → posted ≡ Some op → IsTrue (posts spot.line.does op))

-- the line that calls an operation, which may be a posting
pub record IsCallOf (op : ℕ) (called : Called) (spot : Spot) : Type 0 where
  pub calls_it : IsTrue (calls spot.line.does op)
  pub posts_it : called.posting ≡ true → IsTrue (posts spot.line.does op)

abbrev pub Completes : ℕ → Spot → Type 0
Completes op spot = IsTrue (completes spot.line.does op)

abbrev pub Begins : ℕ → Spot → Type 0
Begins op spot = IsTrue (begins spot.line.does op)

-- from this place on an operation stands in its queue
pub record IsQueuedAt (run : List Line) (op place : ℕ) : Type 0 where
  pub post : ℕ
  pub posted : Spot
  pub back : Spot
  pub posted_there : spot_at run post ≡ Some posted
  pub back_there : spot_at run place ≡ Some back
  pub queued : IsQueued posted back op

-- these are places of lines of a run, of which so many were seen
pub record AreSources (run : List Line) (lines : ℕ) (sources : Sources) : Type 0 where
  pub lasts : (who : Frame) (last : Last) → last_of sources who ≡ Some last → IsAt run lines (IsLast who last.posted) last.place
  pub calls : (op : ℕ) (called : Called) → call_at sources op ≡ Some called → IsAt run lines (IsCallOf op called) called.place
  pub dones : (op place : ℕ) → done_at sources op ≡ Some place → IsAt run lines (Completes op) place
  pub begins : (op place : ℕ) → begin_at sources op ≡ Some place → IsAt run lines (Begins op) place
  pub behind : (op place : ℕ) → behind_at sources op ≡ Some place → IsQueuedAt run op place
