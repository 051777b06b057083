-- The forms of the command, by their words.
use Rattle.std.specs.Prelude.{◌≡◌, ◌⊎◌, ℕ, true, false, List, [], ◌∷◌, ◌++◌, codes}
use Rattle.asio_types.specs.declared.event.Event.TheVariants as event
use Rattle.history_book.specs.Trace.{line_end, trace_of}
use Rattle.order_questions.specs.declared.condition.Condition.{Condition}
use Rattle.order_report.specs.Reading.{IsConditionText}
use Rattle.order_report.specs.declared.form.Form.{Form}
use Rattle.order_report.specs.declared.form.Task.{Task}
use Rattle.order_report.specs.declared.form.Task.TheVariants as task

-- a number, as it stands in the line of a tick
abbrev pub IsMost : List ℕ → ℕ → Type 0
IsMost word most = codes "tick " ++ word ++ line_end ≡ trace_of (event.Tick most ∷ [])

-- a condition behind its word
pub record IsCan (words : List (List ℕ)) (condition : Condition) : Type 0 where
  pub text : List ℕ
  pub are : words ≡ codes "--can" ∷ text ∷ []
  pub is : IsConditionText text condition

abbrev pub IsTask : List (List ℕ) → Task → Type 0
IsTask words task.Count = words ≡ []
IsTask words task.List = words ≡ codes "--list" ∷ []
IsTask words task.Handlers = words ≡ codes "--handlers" ∷ []
IsTask words (task.Can condition) = IsCan words condition

-- a task within a bound that is said
pub record IsWithin (words : List (List ℕ)) (form : Form) : Type 0 where
  pub number : List ℕ
  pub rest : List (List ℕ)
  pub are : words ≡ codes "--most" ∷ number ∷ rest
  pub is_most : IsMost number form.most
  pub is_task : IsTask rest form.task

-- a task, with a bound or the usual one
abbrev pub IsBounded : List (List ℕ) → Form → Type 0
IsBounded words form = (IsTask words form.task × (form.most ≡ 10000)) ⊎ IsWithin words form

-- of a reactor that doesn't tell its bytes
pub record IsNet (words : List (List ℕ)) (form : Form) : Type 0 where
  pub rest : List (List ℕ)
  pub are : words ≡ codes "--net" ∷ rest
  pub untold : form.told ≡ false
  pub is_bounded : IsBounded rest form

-- the words are those of this form
abbrev pub IsForm : List (List ℕ) → Form → Type 0
IsForm words form = ((form.told ≡ true) × IsBounded words form) ⊎ IsNet words form
