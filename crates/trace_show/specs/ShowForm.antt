-- The forms of the command, by their words.
use Rattle.std.specs.Prelude.{◌≡◌, ℕ, Bool, true, false, List, [], ◌∷◌, codes}
use Rattle.trace_show.specs.declared.form.ShowForm.{ShowForm}
use Rattle.trace_show.specs.declared.form.ShowForm.TheVariants as forms

-- what is to be shown, and then the one word for a reactor over a network
abbrev pub show_words_of : ShowForm → List (List ℕ)
show_words_of forms.Why = codes "why" ∷ []
show_words_of forms.WhyUntold = codes "why" ∷ codes "--net" ∷ []
show_words_of forms.Picture = codes "picture" ∷ []
show_words_of forms.PictureUntold = codes "picture" ∷ codes "--net" ∷ []

-- whether the reactor of the trace tells its bytes
abbrev pub show_form_tells : ShowForm → Bool
show_form_tells forms.Why = true
show_form_tells forms.WhyUntold = false
show_form_tells forms.Picture = true
show_form_tells forms.PictureUntold = false

-- the words are those of this form
abbrev pub IsShowForm : List (List ℕ) → ShowForm → Type 0
IsShowForm words form = words ≡ show_words_of form

-- the words are those of a form
abbrev pub HasShowForm : List (List ℕ) → Type 0
HasShowForm words = (form : ShowForm) × IsShowForm words form
