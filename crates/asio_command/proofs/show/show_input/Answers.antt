use Rattle.std.proofs.Common.{◌≡◌, ℕ, List, Option, Some, map, string_bytes, subst}
use Rattle.text_io.specs.Seen.{Seen}
use Rattle.trace_check.specs.Answer.{CheckGiven}
use Rattle.trace_check.specs.declared.status.CheckStatus.{CheckStatus}
use Rattle.trace_show.specs.Answer.{ShowSays}
use Rattle.asio_command.specs.Show.{show_words, written_to}
use Rattle.asio_command.proofs.show.show_input.Goals as goal

-- these words, and a source of this text in memory
abbrev asked_of : List (List ℕ) → List ℕ → Option (List ℕ) → Seen (List ℕ) → CheckGiven
asked_of words text left out = record {
  words = words;
  source = record { told_before = Some text; told_after = left; faults_before = 0; faults_after = 0 };
  out = out;
}

-- what is said of words and a text is said of the same words and the same text
said_of_same : (words wanted : List (List ℕ)) (text input : List ℕ) (left : Option (List ℕ)) (out : Seen (List ℕ))
    (says : CheckStatus) → words ≡ wanted → text ≡ input →
    ShowSays (asked_of words text left out) says → ShowSays (asked_of wanted input left out) says
said_of_same words wanted text input left out says same_words same_text is =
    let OfText : List ℕ → Type 0 = λ told. ShowSays (asked_of wanted told left out) says in
    let OfWords : List (List ℕ) → Type 0 = λ asked. ShowSays (asked_of asked text left out) says in
    subst OfText same_text (subst OfWords same_words is)

pub returns-clause-shows : goal.returns-clause-shows
returns-clause-shows c =
    let left : Option (List ℕ) = Some c.show_session.new.source in
    let same_words : map string_bytes c.as_slice.result.now ≡ show_words c.args.showing c.args.net =
    rw c.as_slice.ensures.value c.in_ok-words.ensures in (
      left,
      said_of_same (map string_bytes c.as_slice.result.now) (show_words c.args.showing c.args.net)
          c.in_ok-source.source c.args.input.now left
          (written_to c.args.out.now c.show_session.new.out) c.show_session.result
          same_words c.in_ok-source.ensures c.show_session.ensures.says,
    )
