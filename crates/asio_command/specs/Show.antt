-- What the library of explanations and pictures is asked, and what it says.
use Rattle.std.specs.Prelude.{◌≡◌, ◌⊎◌, ℕ, Bool, true, false, List, [], ◌∷◌, ◌++◌, Option, Some, codes}
use Rattle.history_book.specs.Trace.{line_end}
use Rattle.text_io.specs.Seen.{Seen}
use Rattle.trace_check.specs.Parting.{parting_line}
use Rattle.trace_check.specs.declared.status.CheckStatus.{CheckStatus}
use Rattle.text_places.specs.declared.text.Text.{Text}
use Rattle.trace_show.specs.Answer.{ShowSays}
use Rattle.asio_command.specs.declared.show.Showing.{Showing}
use Rattle.asio_command.specs.declared.show.Showing.TheVariants as showing

abbrev pub shown_word : Showing → List ℕ
shown_word showing.Why = codes "why"
shown_word showing.Picture = codes "picture"

-- the words by which the library is asked
abbrev pub show_words : Showing → Bool → List (List ℕ)
show_words what false = shown_word what ∷ []
show_words what true = shown_word what ∷ codes "--net" ∷ []

-- The library was asked for this of an input, wrote this, and answered with this status.
abbrev pub ShowsInput : Showing → Bool → List ℕ → Seen (List ℕ) → CheckStatus → Type 0
ShowsInput what net input out said =
    (left : Option (List ℕ))
    × ShowSays
    (record {
      words = show_words what net;
      source = record { told_before = Some input; told_after = left; faults_before = 0; faults_after = 0 };
      out = out;
    }) said

-- what was written to a text
abbrev pub written_to : Text → Text → Seen (List ℕ)
written_to old new = record {
  told_before = Some old.bytes.items;
  told_after = Some new.bytes.items;
  faults_before = old.faults;
  faults_after = new.faults;
}

-- a script, a line end where it has none, then the line that parts it from the trace, and the trace
abbrev pub JoinsParts : List ℕ → List ℕ → List ℕ → Type 0
JoinsParts script trace input =
    (end : List ℕ) × ((end ≡ []) ⊎ (end ≡ line_end))
    × (input ≡ (script ++ end) ++ (parting_line ++ trace))
