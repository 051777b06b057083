-- What was read of files, and the status of a command that can't read one.
use Rattle.std.specs.Prelude.{◌≡◌, ◌⊎◌, ℕ, List, Option, Some, None, Err, IsOkAnd, IsSomeAnd}
use Rattle.command_words.specs.declared.status.CommandStatus.{CommandStatus}
use Rattle.command_words.specs.declared.status.CommandStatus.TheVariants as status
use Rattle.asio_command.specs.declared.read_file.ReadFile.{ReadFile}
use Rattle.asio_command.specs.declared.read_file.Unreadable.{Unreadable}
use Rattle.asio_command.specs.declared.read_file.Unreadable.TheVariants as unreadable

abbrev pub unreadable_status : Unreadable → CommandStatus
unreadable_status unreadable.NoMemory = status.NoMemory
unreadable_status other = status.ReadFault

-- a file has this text
abbrev pub HasText : ReadFile → List ℕ → Type 0
HasText file text = IsOkAnd file.text (λ held. held.now ≡ text)

-- the file of a trace, if there is one, has this text
abbrev pub HasTrace : Option ReadFile → Option (List ℕ) → Type 0
HasTrace None text = text ≡ None
HasTrace (Some file) text = IsSomeAnd text (HasText file)

-- the files of a session have these texts
abbrev pub HasTexts : ReadFile → Option ReadFile → List ℕ → Option (List ℕ) → Type 0
HasTexts script trace script_text trace_text = HasText script script_text × HasTrace trace trace_text

-- one of the files of a session can't be read
abbrev pub IsUnreadable : ReadFile → Option ReadFile → Unreadable → Type 0
IsUnreadable script trace why =
    (script.text ≡ Err why) ⊎ IsSomeAnd trace (λ file. file.text ≡ Err why)

-- what is so of a file's text, or of why it has none
abbrev pub OfText : ReadFile → (List ℕ → Type 0) → (Unreadable → Type 0) → Type 0
OfText file Is IsWhy =
    ((text : List ℕ) × HasText file text × Is text)
    ⊎ ((why : Unreadable) × (file.text ≡ Err why) × IsWhy why)
