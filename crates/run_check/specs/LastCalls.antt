-- The calls that the checker doesn't know to be back.
use Rattle.std.specs.Prelude.{ℕ, Bool, false, if◌then◌else◌, Option, None}
use Rattle.std.specs.HashMap.{get}
use Rattle.run_lines.specs.declared.line.Doing.{Doing}
use Rattle.run_lines.specs.declared.line.Doing.TheVariants as doing
use Rattle.run_rules.specs.declared.frame.Frame.{Frame}
use Rattle.run_rules.specs.declared.frame.Frame.TheVariants.{Execution}
use Rattle.run_rules.specs.Calls.{last_call_after}
use Rattle.run_rules.specs.Stacks.{same_frame}
use Rattle.run_check.specs.declared.last_calls.LastCalls.{LastCalls}

abbrev pub last_call_of : LastCalls → Frame → Option ℕ
last_call_of kept who = get same_frame kept.calls who

-- whether a line ends this frame
abbrev pub ends_frame : Doing → Frame → Bool
ends_frame (doing.End op) frame = same_frame (Execution op) frame
ends_frame (doing.Throw op) frame = same_frame (Execution op) frame
ends_frame _ frame = false

-- what a line by a frame makes of what is kept of any frame; what ended is forgotten
abbrev pub followed : Frame → Doing → Frame → Option ℕ → Option ℕ
followed who does frame last =
    if ends_frame does frame then None else (if same_frame who frame then last_call_after does last else last)
