use Rattle.std.proofs.Common.{◌≡◌, ◌<◌, ◌≤◌, ◌⊎◌, ℕ, get_or}
use Rattle.std.specs.Prelude.{Contains}
use Rattle.command_words.specs.CommandStatus.{number_of}
use Rattle.command_words.specs.declared.status.CommandStatus.{CommandStatus}
use Rattle.command_words.specs.declared.status.CommandStatus.TheVariants as status
use Rattle.command_words.proofs.status.worst_of.Given as goal

abbrev pub invariant-loop-status : goal.invariant-loop-status
invariant-loop-status l = record {
  bound : (k : ℕ) (d : CommandStatus) → k < l.status-index →
      number_of (get_or l.statuses k d) ≤ number_of l.worst;
  one : (l.worst ≡ status.Done) ⊎ Contains l.statuses l.worst;
}
