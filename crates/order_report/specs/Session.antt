-- What a session of the command has done where it answered what was asked.
use Rattle.std.specs.Prelude.{◌≡◌, ℕ, List, Option, Some, Result, Ok, Err}
use Rattle.asio_types.specs.Faults.{Rose}
use Rattle.asio_types.specs.Sink.{Extends}
use Rattle.order_report.specs.Form.{IsForm}
use Rattle.order_report.specs.Report.{IsReport}
use Rattle.order_report.specs.declared.form.Form.{Form}
use Rattle.order_report.specs.declared.status.OrdersStatus.{OrdersStatus}
use Rattle.order_report.specs.declared.status.OrdersStatus.TheVariants as status
use Rattle.order_report.specs.declared.unreported.Unreported.{Unreported}
use Rattle.order_report.specs.declared.unreported.Unreported.TheVariants as unreported
use Rattle.session_script.specs.Grammar.{IsScript, first_fault}
use Rattle.session_script.specs.Script.{ScriptModel}
use Rattle.session_script.specs.declared.refusal.Refusal.{Refusal}
use Rattle.text_io.specs.Text.{ReadsText}

-- a text that is such was written
pub record HasWritten (P : List ℕ → Type 0) (before after : Option (List ℕ)) : Type 0 where
  pub text : List ℕ
  pub is : P text
  pub written : Extends before text after

-- the input is a script, and what was asked of it was written
pub record HasAnswered (form : Form) (input : List ℕ) (before after : Option (List ℕ)) : Type 0 where
  pub script : ScriptModel
  pub is_script : IsScript input script
  pub answered : HasWritten (IsReport script form.told form.most form.task) before after

-- the words are a form of the command, and what they ask of the script that was read was written
pub record HasReported (words : List (List ℕ)) (left_before left_after : Option (List ℕ))
    (before after : Option (List ℕ)) : Type 0 where
  pub form : Form
  pub is_form : IsForm words form
  pub input : List ℕ
  pub read : ReadsText 262145 left_before input left_after
  pub answered : HasAnswered form input before after

-- the text is no script, since it has this fault
pub record HasFault (input : List ℕ) : Type 0 where
  pub refusal : Refusal
  pub fault : first_fault input ≡ Some refusal

-- what was read is no script
pub record WasRefused (left_before left_after : Option (List ℕ)) : Type 0 where
  pub input : List ℕ
  pub read : ReadsText 262145 left_before input left_after
  pub fault : HasFault input

-- with this status nothing was written
abbrev pub LeavesOut : OrdersStatus → Type 0
LeavesOut status.Usage = Unit {0}
LeavesOut status.Refused = Unit {0}
LeavesOut status.ReadFault = Unit {0}
LeavesOut status.NoMemory = Unit {0}
LeavesOut _ = ⊥

-- reading failed where the status says so, and else it didn't
abbrev pub CountsReads : OrdersStatus → ℕ → ℕ → Type 0
CountsReads status.ReadFault old new = Rose old new
CountsReads _ old new = new ≡ old

-- the same of writing
abbrev pub CountsWrites : OrdersStatus → ℕ → ℕ → Type 0
CountsWrites status.WriteFault old new = Rose old new
CountsWrites _ old new = new ≡ old

-- the sink failed where a report was given up for it, and else it didn't
abbrev pub CountsReport : {T : Type 0} → Result T Unreported → ℕ → ℕ → Type 0
CountsReport (Ok value) old new = new ≡ old
CountsReport (Err unreported.Failed) old new = Rose old new
CountsReport (Err unreported.NoMemory) old new = new ≡ old
