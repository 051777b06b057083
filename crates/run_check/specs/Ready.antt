-- What the checker keeps of what is ready on strands.
use Rattle.std.specs.Prelude.{ℕ, Bool, [], if◌then◌else◌, Option, Some, None, nat_eq}
use Rattle.std.specs.HashMap.{get}
use Rattle.run_lines.specs.declared.word.Word.{Word}
use Rattle.run_lines.specs.declared.word.Word.TheVariants.{Post, Defer, Dispatch, Other}
use Rattle.run_rules.specs.Strict.{Ready, next_gone, put_first, put_last}
use Rattle.run_check.specs.declared.ready.ReadyChange.{ReadyChange}
use Rattle.run_check.specs.declared.ready.ReadyChange.TheVariants as change
use Rattle.run_check.specs.declared.ready.ReadyLine.{ReadyLine}
use Rattle.run_check.specs.declared.ready.ReadyLines.{ReadyLines}

abbrev pub nothing_ready : Ready
nothing_ready = record { queue = []; front = 0 }

abbrev pub line_of : ReadyLine → Ready
line_of line = record { queue = line.queue.items; front = line.front }

abbrev pub line_in : Option ReadyLine → Ready
line_in None = nothing_ready
line_in (Some line) = line_of line

abbrev pub lined_at : ReadyLines → ℕ → Ready
lined_at kept strand = line_in (get nat_eq kept.lines strand)

abbrev pub changed : ReadyChange → Ready → Ready
changed (change.First op) ready = put_first op ready
changed (change.Last op) ready = put_last op ready
changed change.Gone ready = next_gone ready

-- what a call by this word, from inside the strand or not, makes of what is ready there
abbrev pub change_called : Bool → Word → ℕ → Option ReadyChange
change_called inside Post op = Some (change.Last op)
change_called inside Defer op = Some (change.Last op)
change_called inside Dispatch op = Some (if inside then change.First op else change.Last op)
change_called inside (Other letters) op = None
