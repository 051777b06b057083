-- The forms of the command, by their words.
use Rattle.std.specs.Prelude.{◌≡◌, ℕ, Bool, true, false, List, [], ◌∷◌, codes}
use Rattle.trace_check.specs.declared.form.CheckForm.{CheckForm}
use Rattle.trace_check.specs.declared.form.CheckForm.TheVariants as forms

-- the words of a form: none, or the one word for a reactor over a network
abbrev pub check_words_of : CheckForm → List (List ℕ)
check_words_of forms.Told = []
check_words_of forms.Untold = codes "--net" ∷ []

-- whether the reactor of the trace tells its bytes
abbrev pub form_tells : CheckForm → Bool
form_tells forms.Told = true
form_tells forms.Untold = false

-- the words are those of this form
abbrev pub IsCheckForm : List (List ℕ) → CheckForm → Type 0
IsCheckForm words form = words ≡ check_words_of form

-- the words are those of a form
abbrev pub HasCheckForm : List (List ℕ) → Type 0
HasCheckForm words = (form : CheckForm) × IsCheckForm words form
