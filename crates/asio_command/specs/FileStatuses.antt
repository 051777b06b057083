-- The status of a command on the files that it read.
use Rattle.std.specs.Prelude.{◌≡◌, ◌⊎◌, ℕ, Bool, List, [], ◌∷◌, Option, Some, None}
use Rattle.trace_check.specs.Parting.{HasNoParting}
use Rattle.command_words.specs.CommandStatus.{IsWorst}
use Rattle.command_words.specs.declared.status.CommandStatus.{CommandStatus}
use Rattle.command_words.specs.declared.status.CommandStatus.TheVariants as status
use Rattle.asio_command.specs.Files.{HasText, HasTexts, IsUnreadable, OfText, unreadable_status}
use Rattle.asio_command.specs.Parts.{HasBothParts}
use Rattle.asio_command.specs.Session.{HasOneTrace, HasTwoTraces, IsStatusOn}
use Rattle.asio_command.specs.declared.read_file.ReadFile.{ReadFile}
use Rattle.asio_command.specs.declared.read_file.Unreadable.{Unreadable}

-- of a file that has both parts; told says whether the reactor tells its bytes
abbrev pub IsFileStatus : Bool → ReadFile → CommandStatus → Type 0
IsFileStatus told file said =
    OfText file (λ text. IsStatusOn text None told said) (λ why. said ≡ unreadable_status why)

-- of a script, and of the trace in another file
abbrev pub IsPairStatus : Bool → List ℕ → ReadFile → CommandStatus → Type 0
IsPairStatus told script file said =
    OfText file (λ trace. IsStatusOn script (Some trace) told said) (λ why. said ≡ unreadable_status why)

-- of files that have both parts each, in their order
abbrev pub AreFileStatuses : Bool → List ReadFile → List CommandStatus → Type 0
AreFileStatuses told [] [] = Unit {0}
AreFileStatuses told (file ∷ files) (said ∷ others) =
    IsFileStatus told file said × AreFileStatuses told files others
AreFileStatuses told _ _ = ⊥

-- the worst of the statuses of these files
abbrev pub IsWorstStatus : Bool → List ReadFile → CommandStatus → Type 0
IsWorstStatus told files said =
    (each : List CommandStatus) × AreFileStatuses told files each × IsWorst each said

-- the worse of the statuses of two files
abbrev pub IsWorstOfTwo : Bool → ReadFile → ReadFile → CommandStatus → Type 0
IsWorstOfTwo told first second said =
    (one : CommandStatus) × (other : CommandStatus) × IsFileStatus told first one
    × IsFileStatus told second other × IsWorst (one ∷ other ∷ []) said

-- a file has this text, which no line parts
abbrev pub HasScriptAlone : ReadFile → List ℕ → Type 0
HasScriptAlone file text = HasText file text × HasNoParting text

-- a file has a text that a line parts, or none
abbrev pub HasNoScriptAlone : ReadFile → Type 0
HasNoScriptAlone file = OfText file HasBothParts (λ why. Unit {0})

-- of two files: a script and its trace where the first one is a script alone, and else each by itself
abbrev pub IsTwoStatus : Bool → ReadFile → ReadFile → CommandStatus → Type 0
IsTwoStatus told first second said =
    ((text : List ℕ) × HasScriptAlone first text × IsPairStatus told text second said)
    ⊎ (HasNoScriptAlone first × IsWorstOfTwo told first second said)

-- of a session that is explained or drawn: one that has two traces is none
abbrev pub IsSessionStatus : Bool → List ℕ → Option (List ℕ) → CommandStatus → Type 0
IsSessionStatus told script trace said =
    (HasTwoTraces script trace × (said ≡ status.Usage))
    ⊎ (HasOneTrace script trace × IsStatusOn script trace told said)

-- of the files of such a session, which are read, or of which one can't be
abbrev pub IsWhyStatus : Bool → ReadFile → Option ReadFile → CommandStatus → Type 0
IsWhyStatus told script trace said =
    ((script_text : List ℕ) × (trace_text : Option (List ℕ))
    × HasTexts script trace script_text trace_text
    × IsSessionStatus told script_text trace_text said)
    ⊎ ((why : Unreadable) × IsUnreadable script trace why × (said ≡ unreadable_status why))
