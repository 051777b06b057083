-- What becomes of a file's script that is upgraded or run.
use Rattle.std.specs.Prelude.{◌≡◌, ◌⊎◌, ◌++◌, ℕ, List, Option, Some, None}
use Rattle.history_book.specs.Trace.{line_end}
use Rattle.session_script.specs.Grammar.{IsScript, first_fault}
use Rattle.session_script.specs.Script.{ScriptModel}
use Rattle.session_script.specs.Spelling.{spelling_of, upgraded}
use Rattle.session_script.specs.declared.refusal.Refusal.{Refusal}
use Rattle.command_words.specs.declared.status.CommandStatus.{CommandStatus}
use Rattle.command_words.specs.declared.status.CommandStatus.TheVariants as status
use Rattle.asio_command.specs.Answer.{HasScript}
use Rattle.asio_command.specs.Files.{OfText, unreadable_status}
use Rattle.asio_command.specs.Parts.{IsFile}
use Rattle.asio_command.specs.Session.{IsBehindHead}
use Rattle.asio_command.specs.declared.read_file.ReadFile.{ReadFile}
use Rattle.asio_command.specs.declared.running.Prepared.{Prepared}
use Rattle.asio_command.specs.declared.running.Prepared.TheVariants as prepared
use Rattle.asio_command.specs.declared.upgrading.Upgraded.{Upgraded}
use Rattle.asio_command.specs.declared.upgrading.Upgraded.TheVariants as upgrade

-- the text of the upgrade and a line end, or the script's first fault
abbrev pub IsUpgradeOf : List ℕ → Upgraded → Type 0
IsUpgradeOf text (upgrade.Text new) =
    (script : ScriptModel) × IsScript text script × (new.items ≡ spelling_of (upgraded script) ++ line_end)
IsUpgradeOf text (upgrade.Refused refusal) = first_fault text ≡ Some refusal

-- the text of a file's script, behind the comments at its head
pub record IsScriptOf (file rest : List ℕ) : Type 0 where
  pub script : List ℕ
  pub own : Option (List ℕ)
  pub parted : IsFile file script own
  pub behind : IsBehindHead script rest

-- a text is refused by the grammar
abbrev pub IsRefusedText : List ℕ → Type 0
IsRefusedText text = (refusal : Refusal) × (first_fault text ≡ Some refusal)

-- the status where a text is read as a script, and nothing more can go wrong
abbrev pub IsReadStatus : List ℕ → CommandStatus → Type 0
IsReadStatus rest said =
    (HasScript rest × (said ≡ status.Done)) ⊎ (IsRefusedText rest × (said ≡ status.Refused))

-- the status where a file's script is read so
abbrev pub IsUpgradeStatus : List ℕ → CommandStatus → Type 0
IsUpgradeStatus file said = (rest : List ℕ) × IsScriptOf file rest × IsReadStatus rest said

abbrev pub IsUpgradeStatusOf : ReadFile → CommandStatus → Type 0
IsUpgradeStatusOf file said =
    OfText file (λ text. IsUpgradeStatus text said) (λ why. said ≡ unreadable_status why)

-- what is run of a script: its own text where no other number of workers is wanted
abbrev pub IsPreparedText : List ℕ → Option ℕ → Prepared → Type 0
IsPreparedText rest workers (prepared.Ready script) = HasScript rest × (workers ≡ None → script.text.items ≡ rest)
IsPreparedText rest workers (prepared.Ended said) = IsRefusedText rest × (said ≡ status.Refused)

abbrev pub IsPrepared : List ℕ → Option ℕ → Prepared → Type 0
IsPrepared file workers what = (rest : List ℕ) × IsScriptOf file rest × IsPreparedText rest workers what

abbrev pub IsPreparedOf : ReadFile → Option ℕ → Prepared → Type 0
IsPreparedOf file workers what =
    OfText file (λ text. IsPrepared text workers what)
    (λ why. what ≡ prepared.Ended (unreadable_status why))
