-- What has to stay on one thread in another order of a run: the trees of its executions. The newest line stands first in all lists.
use Rattle.std.specs.Prelude.{ℕ, List, [], ◌∷◌, Bool, ◌==◌, if◌then◌else◌, length, Option, Some, None}
use Rattle.std.specs.List.{list_any}
use Rattle.run_lines.specs.declared.line.Doing.{Doing}
use Rattle.run_lines.specs.declared.line.Doing.TheVariants as doing
use Rattle.run_lines.specs.declared.line.Line.{Line}
use Rattle.run_rules.specs.declared.frame.Frame.{Frame}
use Rattle.run_rules.specs.declared.frame.Frame.TheVariants.{Execution, Outside}
use Rattle.run_rules.specs.Stacks.{frame, stack}

-- a line of a run, and the lines before it
pub record Spot : Type 0 where
  pub line : Line
  pub past : List Line

-- the line at a place, counted from the oldest
abbrev pub spot_at : List Line → ℕ → Option Spot
spot_at [] place = None
spot_at (line ∷ past) place = if length past == place then Some (record { line = line; past = past }) else spot_at past place

-- what a begin adds to the executions round it is round it, too
abbrev pub around_by : Doing → List ℕ → List ℕ
around_by (doing.Begin op code size) within = op ∷ within
around_by _ within = within

-- the executions round a line, innermost first, with the one that it begins or ends
abbrev pub around : Spot → List ℕ
around spot = around_by spot.line.does (stack spot.past spot.line.thread)

abbrev pub is_among : List ℕ → ℕ → Bool
is_among ops op = list_any (λ one. one == op) ops

-- the innermost one of these executions that stands alone: it is set apart, or it is inside no other
abbrev pub root : List ℕ → List ℕ → Option ℕ
root apart [] = None
root apart (op ∷ []) = Some op
root apart (op ∷ outer ∷ others) = if is_among apart op then Some op else root apart (outer ∷ others)

abbrev pub frame_by : ℕ → Option ℕ → Frame
frame_by thread None = Outside thread
frame_by thread (Some op) = Execution op

-- the tree of a line: an execution that stands alone, with all inside it that doesn't; or what its thread does outside
abbrev pub tree : List ℕ → Spot → Frame
tree apart spot = frame_by spot.line.thread (root apart (around spot))

-- the execution that writes a line, or the outside of its thread
abbrev pub writer : Spot → Frame
writer spot = frame spot.past spot.line.thread
