-- The forms of the command, by their words.
use Rattle.std.specs.Prelude.{◌≡◌, ◌≤◌, ℕ, List, [], ◌∷◌, codes, ⊤}
use Rattle.std.specs.Fmt.{decimal}
use Rattle.generated_session.specs.Generator.{most_size, most_start}
use Rattle.session_run.specs.declared.form.Form.{Form}
use Rattle.session_run.specs.declared.form.Form.TheVariants as forms

-- the words of a form
abbrev pub form_words : Form → List (List ℕ)
form_words forms.Run = codes "run" ∷ []
form_words forms.Net = codes "run" ∷ codes "--net" ∷ []
form_words forms.Upgrade = codes "upgrade" ∷ []
form_words (forms.Gen start size) = codes "gen" ∷ decimal start ∷ decimal size ∷ []

-- its numbers make a session
abbrev pub HasNumbersWithin : Form → Type 0
HasNumbersWithin (forms.Gen start size) = (start ≤ most_start) × (1 ≤ size) × (size ≤ most_size)
HasNumbersWithin _ = ⊤

-- the words are those of this form
abbrev pub IsForm : List (List ℕ) → Form → Type 0
IsForm words form = (words ≡ form_words form) × HasNumbersWithin form

-- a script is to be run
abbrev pub IsRun : List (List ℕ) → Type 0
IsRun words = IsForm words forms.Run

-- a script is to be run over sockets
abbrev pub IsNet : List (List ℕ) → Type 0
IsNet words = IsForm words forms.Net

-- a script is to be upgraded
abbrev pub IsUpgrade : List (List ℕ) → Type 0
IsUpgrade words = IsForm words forms.Upgrade

-- the session that these numbers make is to be run
abbrev pub IsGen : List (List ℕ) → ℕ → ℕ → Type 0
IsGen words start size = IsForm words (forms.Gen start size)

-- a form that reads a script
abbrev pub IsReadingForm : Form → Type 0
IsReadingForm (forms.Gen start size) = ⊥
IsReadingForm _ = ⊤

-- a form that runs a script
abbrev pub IsRunning : Form → Type 0
IsRunning forms.Upgrade = ⊥
IsRunning _ = ⊤

-- the words are those of a form
abbrev pub HasForm : List (List ℕ) → Type 0
HasForm words = (form : Form) × IsForm words form

-- the words are those of a form that reads a script
abbrev pub Reads : List (List ℕ) → Type 0
Reads words = (form : Form) × IsForm words form × IsReadingForm form
