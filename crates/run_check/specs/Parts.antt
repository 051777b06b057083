-- What a line makes of each part of a checker.
use Rattle.std.specs.Prelude.{◌≡◌, ℕ, List, ◌||◌, Option}
use Rattle.run_lines.specs.declared.line.Line.{Line}
use Rattle.run_rules.specs.declared.frame.Frame.{Frame}
use Rattle.run_rules.specs.declared.taking.Taking.{Taking}
use Rattle.run_rules.specs.Takings.{taken_after}
use Rattle.run_rules.specs.MayCome.{marks}
use Rattle.run_check.specs.Following.{GivesWhatIsTaken, execution_after, holder_after, innermost_after}
use Rattle.run_check.specs.LastCalls.{followed, last_call_of}
use Rattle.run_check.specs.Marks.{has_mark}
use Rattle.run_check.specs.Stacks.{execution_of, innermost_of}
use Rattle.run_check.specs.Strands.{holder_of}
use Rattle.run_check.specs.Takings.{AreCounted}
use Rattle.run_check.specs.declared.last_calls.LastCalls.{LastCalls}
use Rattle.run_check.specs.declared.marks.Marks.{Marks}
use Rattle.run_check.specs.declared.stacks.Stacks.{Stacks}
use Rattle.run_check.specs.declared.strands.Strands.{Strands}
use Rattle.run_check.specs.declared.takings.Takings.{Takings}

-- what is executed, and who holds what
pub record FollowsExecutions (line : Line) (own : Option ℕ) (stacks : Stacks) (strands : Strands) (stacks_new : Stacks)
    (strands_new : Strands) : Type 0 where
  pub innermost : (other : ℕ) → innermost_of stacks_new other
      ≡ innermost_after (execution_of stacks) line.thread line.does other (innermost_of stacks other)
  pub executions : (other : ℕ) → execution_of stacks_new other
      ≡ execution_after (innermost_of stacks line.thread) own line.does other (execution_of stacks other)
  pub held : (other : ℕ) → holder_of strands_new other
      ≡ holder_after line.thread own line.does other (holder_of strands other)

-- who has called what
abbrev pub FollowsCalls : Line → Frame → LastCalls → LastCalls → Type 0
FollowsCalls line who old new =
    (frame : Frame) → last_call_of new frame ≡ followed who line.does frame (last_call_of old frame)

-- what is taken
abbrev pub FollowsTakings : Line → Frame → Takings → Takings → Type 0
FollowsTakings line who old new = (all : List Taking) → AreCounted all old → GivesWhatIsTaken line.thread who line.does all
    → AreCounted (taken_after line.thread who line.does all) new

-- what is marked
abbrev pub FollowsMarks : Line → Marks → Marks → Type 0
FollowsMarks line old new = (mark : ℕ) → has_mark new mark ≡ (marks line.does mark || has_mark old mark)
