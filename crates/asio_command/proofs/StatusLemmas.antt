-- The statuses of files, one file more.
use Rattle.std.proofs.Common.{◌≡◌, ◌+◌, ◌<◌, ℕ, Bool, List, [], ◌∷◌, ◌++◌, length, take, get_or, sym, subst}
use Rattle.std.proofs.lemmas.List.{take_more}
use Rattle.command_words.specs.declared.status.CommandStatus.{CommandStatus}
use Rattle.asio_command.specs.FileStatuses.{AreFileStatuses, IsFileStatus}
use Rattle.asio_command.specs.declared.read_file.ReadFile.{ReadFile}

statuses_more : (told : Bool) (files : List ReadFile) (statuses : List CommandStatus) (file : ReadFile) (said : CommandStatus) →
    AreFileStatuses told files statuses → IsFileStatus told file said →
    AreFileStatuses told (files ++ file ∷ []) (statuses ++ said ∷ [])
statuses_more told [] [] file said are is = (is, tt)
statuses_more told [] (one ∷ others) file said are is = absurd are
statuses_more told (first ∷ files) [] file said are is = absurd are
statuses_more told (first ∷ files) (one ∷ others) file said are is =
    (are.0, statuses_more told files others file said are.1 is)

-- the same in a loop over the files, at the place i
pub statuses_step : (told : Bool) (files : List ReadFile) (i : ℕ) (d : ReadFile) (statuses all : List CommandStatus)
    (said : CommandStatus) → i < length files → AreFileStatuses told (take i files) statuses →
    IsFileStatus told (get_or files i d) said → all ≡ statuses ++ said ∷ [] → AreFileStatuses told (take (i + 1) files) all
statuses_step told files i d statuses all said within are is pushed =
    let OfFiles : List ReadFile → Type 0 = λ some. AreFileStatuses told some all in
    let OfAll : List CommandStatus → Type 0 =
    λ some. AreFileStatuses told (take i files ++ get_or files i d ∷ []) some in
    subst OfFiles (sym (take_more files i d within))
    (subst OfAll (sym pushed) (statuses_more told (take i files) statuses (get_or files i d) said are is))
