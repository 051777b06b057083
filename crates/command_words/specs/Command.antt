-- What is known of the words of a command.
use Rattle.std.specs.Prelude.{◌≤◌, ℕ, IfSome}
use Rattle.command_words.specs.declared.command.Command.{Command}
use Rattle.command_words.specs.declared.command.Command.TheVariants as command

-- so many workers may be in a round
abbrev pub IsWorkerCount : ℕ → Type 0
IsWorkerCount workers = (1 ≤ workers) × (workers ≤ 16)

-- what a command names is within the limits of scripts
abbrev pub IsWithinLimits : Command → Type 0
IsWithinLimits (command.Run file options workers) = IfSome workers IsWorkerCount
IsWithinLimits other = Unit {0}
