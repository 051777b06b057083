-- A session in one file or in two: its script behind the comments, and its trace.
use Rattle.std.specs.Prelude.{◌≡◌, ◌≢◌, ◌<◌, ◌++◌, ℕ, Bool, List, length, slice_index, Option, Some, None}
use Rattle.asio_command.specs.Answer.{IsAnswer, status_of}
use Rattle.text_places.specs.Lines.{BeginsLine}
use Rattle.trace_check.specs.Parting.{HasNoParting}
use Rattle.asio_command.specs.Parts.{HasBothParts, IsFile}
use Rattle.asio_command.specs.declared.answer.Answer.{Answer}
use Rattle.command_words.specs.declared.status.CommandStatus.{CommandStatus}

-- what stands behind the first lines of a script that begin with `#`
pub record IsBehindHead (script rest : List ℕ) : Type 0 where
  pub head : List ℕ
  pub whole : script ≡ head ++ rest
  pub comments : (k : ℕ) → k < length head → BeginsLine script k → slice_index script k ≡ 35
  pub stops : 0 < length rest →
      BeginsLine script (length head) × (slice_index script (length head) ≢ 35)

-- the trace of a session: that of a file of its own, or what stands behind the script
abbrev pub session_trace : Option (List ℕ) → Option (List ℕ) → Option (List ℕ)
session_trace (Some other) own = Some other
session_trace None own = own

-- the files of a session have this script behind the comments, and this trace
pub record IsSession (script_file : List ℕ) (trace_file : Option (List ℕ)) (rest : List ℕ)
    (trace : Option (List ℕ)) : Type 0 where
  pub script : List ℕ
  pub own : Option (List ℕ)
  pub file : IsFile script_file script own
  pub behind : IsBehindHead script rest
  pub given : trace ≡ session_trace trace_file own

-- a trace stands behind the script, and another file has one
abbrev pub HasTwoTraces : List ℕ → Option (List ℕ) → Type 0
HasTwoTraces script None = ⊥
HasTwoTraces script (Some trace) = HasBothParts script

abbrev pub HasOneTrace : List ℕ → Option (List ℕ) → Type 0
HasOneTrace script None = Unit {0}
HasOneTrace script (Some trace) = HasNoParting script

-- the answer to the files of a session
abbrev pub IsAnswerOn : List ℕ → Option (List ℕ) → Bool → Answer → Type 0
IsAnswerOn script_file trace_file told said =
    (rest : List ℕ) × (trace : Option (List ℕ)) × IsSession script_file trace_file rest trace
    × IsAnswer rest trace told said

-- the status with which the answer to the files of a session ends a command
abbrev pub IsStatusOn : List ℕ → Option (List ℕ) → Bool → CommandStatus → Type 0
IsStatusOn script_file trace_file told status =
    (said : Answer) × IsAnswerOn script_file trace_file told said × (status ≡ status_of said)

-- the status with which the answer to a script and a trace ends a command
abbrev pub IsStatusOf : List ℕ → Option (List ℕ) → Bool → CommandStatus → Type 0
IsStatusOf rest trace told status =
    (said : Answer) × IsAnswer rest trace told said × (status ≡ status_of said)
