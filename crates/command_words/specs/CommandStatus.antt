-- The numbers of statuses: those of the libraries, and 5 where a reactor failed. And the worst of several.
use Rattle.std.specs.Prelude.{◌≡◌, ◌≤◌, ◌⊎◌, ℕ, List, All, Contains}
use Rattle.command_words.specs.declared.status.CommandStatus.{CommandStatus}
use Rattle.command_words.specs.declared.status.CommandStatus.TheVariants as status

abbrev pub number_of : CommandStatus → ℕ
number_of status.Done = 0
number_of status.Usage = 1
number_of status.Refused = 2
number_of status.ReadFault = 3
number_of status.WriteFault = 4
number_of status.ReactorFault = 5
number_of status.NoMemory = 6
number_of status.BadTrace = 7
number_of status.Illegal = 8

-- none of these statuses has a greater number, and it is one of them, or `Done`
pub record IsWorst (statuses : List CommandStatus) (worst : CommandStatus) : Type 0 where
  pub bound : All (λ one. number_of one ≤ number_of worst) statuses
  pub one : (worst ≡ status.Done) ⊎ Contains statuses worst
