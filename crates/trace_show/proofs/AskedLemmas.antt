-- What a whole input leaves of the statuses.
use Rattle.std.proofs.Common.{◌≡◌, ℕ, Bool, List, [], ◌∷◌, refl, subst, inl, inr}
use Rattle.std.specs.Prelude.{Some}
use Rattle.asio_types.specs.declared.event.Event.{Event}
use Rattle.session_script.specs.Script.{ScriptModel}
use Rattle.session_script.specs.declared.refusal.Refusal.{Refusal}
use Rattle.text_io.proofs.CountLemmas.{stood}
use Rattle.text_io.specs.Counts.{Stood}
use Rattle.trace_check.proofs.SessionLemmas.{bad_not_asked, bad_not_faulty, faulty_not_asked, faulty_not_bad, input_of, not_faulty, not_traceless, one_question}
use Rattle.trace_check.proofs.VerdictLemmas.{one_verdict}
use Rattle.trace_check.specs.Answer.{CheckGiven, IsBad, IsJudged, IsRefused, SaysLegal}
use Rattle.trace_check.specs.Question.{HasNoTrace, HasScriptFault, IsQuestionOf}
use Rattle.trace_check.specs.Verdict.{IsVerdict}
use Rattle.trace_check.specs.declared.status.CheckStatus.{CheckStatus}
use Rattle.trace_check.specs.declared.status.CheckStatus.TheVariants as status
use Rattle.trace_check.specs.declared.verdict.Verdict.{Verdict}
use Rattle.trace_check.specs.declared.verdict.Verdict.TheVariants as verdict
use Rattle.trace_show.specs.Answer.{DecidesShown, Shown, ShowSays}
use Rattle.trace_show.specs.ShowForm.{HasShowForm, IsShowForm, show_form_tells}
use Rattle.trace_show.specs.declared.form.ShowForm.{ShowForm}
use Rattle.trace_show.specs.declared.form.ShowForm.TheVariants as forms

-- words tell in one way whether the reactor tells its bytes
one_telling : (words : List (List ℕ)) (form form' : ShowForm) → IsShowForm words form → IsShowForm words form' →
    show_form_tells form ≡ show_form_tells form'
one_telling words forms.Why forms.Why one other = refl
one_telling words forms.Why forms.Picture one other = refl
one_telling words forms.Why forms.WhyUntold one other = absurd (cc (one, other))
one_telling words forms.Why forms.PictureUntold one other = absurd (cc (one, other))
one_telling words forms.Picture forms.Why one other = refl
one_telling words forms.Picture forms.Picture one other = refl
one_telling words forms.Picture forms.WhyUntold one other = absurd (cc (one, other))
one_telling words forms.Picture forms.PictureUntold one other = absurd (cc (one, other))
one_telling words forms.WhyUntold forms.Why one other = absurd (cc (one, other))
one_telling words forms.WhyUntold forms.Picture one other = absurd (cc (one, other))
one_telling words forms.WhyUntold forms.WhyUntold one other = refl
one_telling words forms.WhyUntold forms.PictureUntold one other = refl
one_telling words forms.PictureUntold forms.Why one other = absurd (cc (one, other))
one_telling words forms.PictureUntold forms.Picture one other = absurd (cc (one, other))
one_telling words forms.PictureUntold forms.WhyUntold one other = refl
one_telling words forms.PictureUntold forms.PictureUntold one other = refl

module _ (given : CheckGiven) (form : HasShowForm given.words) (input : List ℕ)
    (told : given.source.told_before ≡ Some input) (read : Stood given.source.faults_before given.source.faults_after)
    (write : Stood given.out.faults_before given.out.faults_after) where
  -- a question was shown, or memory ran out
  pub complete : (answer : CheckStatus) → ShowSays given answer → (script : ScriptModel) (events : List Event) →
      IsQuestionOf input script events → IsJudged answer
  complete status.Done said script events asks = inl refl
  complete status.Illegal said script events asks = inr (inl refl)
  complete status.NoMemory said script events asks = inr (inr refl)
  complete status.Usage said script events asks = absurd (said form)
  complete status.Refused (refusal, words, text) script events asks =
      absurd (not_faulty input script events refusal asks
      (input_of given.source (λ text. HasScriptFault text refusal) input told asks.has.few text))
  complete status.BadTrace (line, words, text) script events asks =
      absurd (not_traceless input script events line asks
      (input_of given.source (λ text. HasNoTrace text line) input told asks.has.few text))
  complete status.ReadFault said script events asks =
      absurd (stood given.source.faults_before given.source.faults_after read said.1)
  complete status.WriteFault said script events asks =
      absurd (stood given.out.faults_before given.out.faults_after write said.1)

  -- an input without a trace is found bad
  pub found_bad : (answer : CheckStatus) → ShowSays given answer → (line : ℕ) → HasNoTrace input line → IsBad answer
  found_bad status.BadTrace said line bad = inl refl
  found_bad status.NoMemory said line bad = inr refl
  found_bad status.Done said line bad =
      absurd (bad_not_asked given.source input line said.script said.events told bad said.read)
  found_bad status.Illegal said line bad =
      absurd (bad_not_asked given.source input line said.script said.events told bad said.read)
  found_bad status.Usage said line bad = absurd (said form)
  found_bad status.ReadFault said line bad =
      absurd (stood given.source.faults_before given.source.faults_after read said.1)
  found_bad status.WriteFault said line bad =
      absurd (stood given.out.faults_before given.out.faults_after write said.1)
  found_bad status.Refused (refusal, words, text) line bad =
      absurd (bad_not_faulty given.source input line refusal told bad text)

  -- one whose script has a fault is refused
  pub found_refused : (answer : CheckStatus) → ShowSays given answer → (refusal : Refusal) →
      HasScriptFault input refusal → IsRefused answer
  found_refused status.Refused said refusal faulty = inl refl
  found_refused status.NoMemory said refusal faulty = inr refl
  found_refused status.Done said refusal faulty =
      absurd (faulty_not_asked given.source input refusal said.script said.events told faulty said.read)
  found_refused status.Illegal said refusal faulty =
      absurd (faulty_not_asked given.source input refusal said.script said.events told faulty said.read)
  found_refused status.Usage said refusal faulty = absurd (said form)
  found_refused status.ReadFault said refusal faulty =
      absurd (stood given.source.faults_before given.source.faults_after read said.1)
  found_refused status.WriteFault said refusal faulty =
      absurd (stood given.out.faults_before given.out.faults_after write said.1)
  found_refused status.BadTrace (line, words, text) refusal faulty =
      absurd (faulty_not_bad input refusal line faulty
      (input_of given.source (λ xs. HasNoTrace xs line) input told faulty.has.few text))

-- what was shown is a verdict on the question of a whole input
verdict_on : (given : CheckGiven) (Q : Verdict → Type 0) (shown : Shown given Q) (form : ShowForm) (input : List ℕ)
    (script : ScriptModel) (events : List Event) → IsShowForm given.words form →
    given.source.told_before ≡ Some input → IsQuestionOf input script events →
    IsVerdict script (show_form_tells form) events shown.said
verdict_on given Q shown form input script events words told asks =
    let same =
    one_question input shown.script script shown.events events
    (input_of given.source (λ text. IsQuestionOf text shown.script shown.events) input told asks.has.few shown.read)
    asks
    in
    subst (λ telling. IsVerdict script telling events shown.said)
    (one_telling given.words shown.form form shown.words words)
    (subst (λ es. IsVerdict script (show_form_tells shown.form) es shown.said) same.1
    (subst (λ s. IsVerdict s (show_form_tells shown.form) shown.events shown.said) same.0 shown.is))

-- and it is right
pub right : (given : CheckGiven) (answer : CheckStatus) → ShowSays given answer → (form : ShowForm) (input : List ℕ)
    (script : ScriptModel) (events : List Event) → IsShowForm given.words form →
    given.source.told_before ≡ Some input → IsQuestionOf input script events →
    DecidesShown answer script (show_form_tells form) events
right given status.Done said form input script events words told asks =
    record {
      legal = λ same.
          subst (IsVerdict script (show_form_tells form) events) said.kind
          (verdict_on given SaysLegal said form input script events words told asks);
      illegal = λ same. absurd (cc same);
    }
right given status.Illegal said form input script events words told asks =
    record {
      legal = λ same. absurd (cc same);
      illegal = λ same legal.
          said.kind
          (one_verdict script (show_form_tells form) events said.said verdict.Legal
          (verdict_on given _ said form input script events words told asks) legal);
    }
right given status.Usage said form input script events words told asks =
    record { legal = λ same. absurd (cc same); illegal = λ same. absurd (cc same) }
right given status.Refused said form input script events words told asks =
    record { legal = λ same. absurd (cc same); illegal = λ same. absurd (cc same) }
right given status.ReadFault said form input script events words told asks =
    record { legal = λ same. absurd (cc same); illegal = λ same. absurd (cc same) }
right given status.WriteFault said form input script events words told asks =
    record { legal = λ same. absurd (cc same); illegal = λ same. absurd (cc same) }
right given status.NoMemory said form input script events words told asks =
    record { legal = λ same. absurd (cc same); illegal = λ same. absurd (cc same) }
right given status.BadTrace said form input script events words told asks =
    record { legal = λ same. absurd (cc same); illegal = λ same. absurd (cc same) }
