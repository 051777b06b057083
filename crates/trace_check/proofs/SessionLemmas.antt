-- What a whole input leaves of the statuses.
use Rattle.std.proofs.Common.{◌≡◌, ◌≤◌, ℕ, List, length, take, refl, ap, arith, subst, sym, inl, inr, ◌∙◌}
use Rattle.std.specs.Prelude.{Option, Some, None}
use Rattle.std.proofs.lemmas.List.{length-take, take_all}
use Rattle.asio_types.specs.declared.event.Event.{Event}
use Rattle.session_script.proofs.FaultLemmas.{no_fault, one_script}
use Rattle.session_script.specs.Grammar.{IsScript}
use Rattle.session_script.specs.Script.{ScriptModel}
use Rattle.session_script.specs.declared.refusal.Refusal.{Refusal}
use Rattle.text_io.proofs.CountLemmas.{stood}
use Rattle.text_io.proofs.TextLemmas.{text_of}
use Rattle.text_io.specs.Counts.{Stood}
use Rattle.text_io.specs.Seen.{Seen, Writes}
use Rattle.text_io.specs.Text.{ReadsText}
use Rattle.trace_check.proofs.PartingLemmas.{one_parting}
use Rattle.trace_check.proofs.ReadBackLemmas.{one_trace}
use Rattle.trace_check.proofs.ReadingLemmas.{no_bad_trace}
use Rattle.trace_check.proofs.VerdictLemmas.{one_verdict}
use Rattle.trace_check.specs.Answer.{CheckGiven, CheckSays, Decides, IsBad, IsJudged, IsRefused, Judged, ReadsInput, SaysLegal}
use Rattle.trace_check.specs.Ending.{check_status_of}
use Rattle.trace_check.specs.Form.{HasCheckForm, IsCheckForm, form_tells}
use Rattle.trace_check.specs.Parting.{most_input, most_input_read}
use Rattle.trace_check.specs.Question.{HasNoTrace, HasParts, HasScriptFault, IsQuestionOf}
use Rattle.trace_check.specs.Reading.{IsBadTrace, IsTraceOf}
use Rattle.trace_check.specs.Status.{check_note_of}
use Rattle.trace_check.specs.Verdict.{IsVerdict}
use Rattle.trace_check.specs.declared.ending.CheckEnding.TheVariants as ending
use Rattle.trace_check.specs.declared.form.CheckForm.{CheckForm}
use Rattle.trace_check.specs.declared.form.CheckForm.TheVariants as forms
use Rattle.trace_check.specs.declared.status.CheckStatus.{CheckStatus}
use Rattle.trace_check.specs.declared.status.CheckStatus.TheVariants as status
use Rattle.trace_check.specs.declared.verdict.Verdict.{Verdict}
use Rattle.trace_check.specs.declared.verdict.Verdict.TheVariants as verdict

-- what is said of the verdict alone may change
with_kind : (given : CheckGiven) (Q R : Verdict → Type 0) (P : List ℕ → Type 0) (judged : Judged given Q P) →
    R judged.verdict → Judged given R P
with_kind given Q R P judged kind =
    record {
      form = judged.form;
      words = judged.words;
      script = judged.script;
      events = judged.events;
      read = judged.read;
      verdict = judged.verdict;
      is = judged.is;
      kind = kind;
      written = judged.written;
    }

-- what the status of a written verdict says
pub said_of : (given : CheckGiven) (v : Verdict) → Judged given (λ said. said ≡ v) (Writes given.out) →
    CheckSays given (check_status_of (ending.Judged v)) (check_note_of (check_status_of (ending.Judged v)))
said_of given verdict.Legal judged = (judged, refl)
said_of given (verdict.Illegal number) judged = (
  with_kind given (λ said. said ≡ verdict.Illegal number) (λ said. SaysLegal said → ⊥) (Writes given.out) judged
      (λ legal. cc (judged.kind, legal)),
  refl,
)
said_of given verdict.Incomplete judged = (
  with_kind given (λ said. said ≡ verdict.Incomplete) (λ said. SaysLegal said → ⊥) (Writes given.out) judged
      (λ legal. cc (judged.kind, legal)),
  refl,
)

-- what holds of the input that was read, where the source told this one
pub input_of : (source : Seen (List ℕ)) (Q : List ℕ → Type 0) (input : List ℕ) → source.told_before ≡ Some input →
    length input ≤ most_input → ReadsInput source Q → Q input
input_of source Q input told few (text, read, holds) =
    subst Q
    (text_of most_input_read source.told_before text source.told_after input told (omega (arith, few)) read) holds

-- an input asks one question
pub one_question : (input : List ℕ) (script script' : ScriptModel) (events events' : List Event) →
    IsQuestionOf input script events → IsQuestionOf input script' events' → (script ≡ script') × (events ≡ events')
one_question input script script' events events' asks asks' =
    let same =
    one_parting input asks.script_text asks.trace_text asks'.script_text asks'.trace_text asks.has.parts
    asks'.has.parts in (
      one_script asks'.script_text script script' (subst (λ text. IsScript text script) same.0 asks.is_script)
          asks'.is_script,
      one_trace asks'.trace_text events events' (subst (λ text. IsTraceOf text events) same.1 asks.is_trace)
          asks'.is_trace,
    )

-- what asks something has no fault
pub not_faulty : (input : List ℕ) (script : ScriptModel) (events : List Event) (refusal : Refusal) →
    IsQuestionOf input script events → HasScriptFault input refusal → ⊥
not_faulty input script events refusal asks faulty =
    let same =
    one_parting input asks.script_text asks.trace_text faulty.script_text faulty.trace_text asks.has.parts faulty.has.parts in
    no_fault faulty.script_text script refusal (subst (λ text. IsScript text script) same.0 asks.is_script) faulty.fault

-- and a trace
pub not_traceless : (input : List ℕ) (script : ScriptModel) (events : List Event) (line : ℕ) →
    IsQuestionOf input script events → HasNoTrace input line → ⊥
not_traceless input script events line asks (inl (same, inl long)) = absurd (omega (arith, long, asks.has.few))
not_traceless input script events line asks (inl (same, inr none)) =
    none asks.script_text asks.trace_text asks.has.parts.parted
not_traceless input script events line asks (inr bad) =
    let same =
    one_parting input asks.script_text asks.trace_text bad.script_text bad.trace_text asks.has.parts bad.has.parts in
    no_bad_trace asks.trace_text line events asks.short asks.is_trace (subst (λ text. IsBadTrace text line) (sym same.1) bad.bad)

-- words have one form
one_form : (words : List (List ℕ)) (form form' : CheckForm) → IsCheckForm words form → IsCheckForm words form' →
    form ≡ form'
one_form words forms.Told forms.Told one other = refl
one_form words forms.Told forms.Untold one other = absurd (cc (one, other))
one_form words forms.Untold forms.Told one other = absurd (cc (one, other))
one_form words forms.Untold forms.Untold one other = refl

-- what a session can't have failed at: its words are a form, its source told a whole input, and no count of faults rose
pub record Undisturbed (given : CheckGiven) (input : List ℕ) (script : ScriptModel) (events : List Event) : Type 0 where
  pub form : HasCheckForm given.words
  pub told : given.source.told_before ≡ Some input
  pub asks : IsQuestionOf input script events
  pub read : Stood given.source.faults_before given.source.faults_after
  pub write : Stood given.out.faults_before given.out.faults_after

-- it ended with a verdict, or for want of memory
pub complete : (given : CheckGiven) (answer : CheckStatus) (note : List ℕ) → CheckSays given answer note →
    (input : List ℕ) (script : ScriptModel) (events : List Event) → Undisturbed given input script events →
    IsJudged answer
complete given status.Done note said input script events calm = inl refl
complete given status.Illegal note said input script events calm = inr (inl refl)
complete given status.NoMemory note said input script events calm = inr (inr refl)
complete given status.Usage note said input script events calm = absurd (said.0 calm.form)
complete given status.Refused note (refusal, words, read, same) input script events calm =
    absurd (not_faulty input script events refusal calm.asks
    (input_of given.source (λ text. HasScriptFault text refusal) input calm.told calm.asks.has.few read))
complete given status.BadTrace note (line, words, read, same) input script events calm =
    absurd (not_traceless input script events line calm.asks
    (input_of given.source (λ text. HasNoTrace text line) input calm.told calm.asks.has.few read))
complete given status.ReadFault note said input script events calm =
    absurd (stood given.source.faults_before given.source.faults_after calm.read said.1)
complete given status.WriteFault note said input script events calm =
    absurd (stood given.out.faults_before given.out.faults_after calm.write said.0.written.1)

-- what has a fault has no bad trace
pub faulty_not_bad : (input : List ℕ) (refusal : Refusal) (line : ℕ) → HasScriptFault input refusal →
    HasNoTrace input line → ⊥
faulty_not_bad input refusal line faulty (inl (same, inl long)) = absurd (omega (arith, long, faulty.has.few))
faulty_not_bad input refusal line faulty (inl (same, inr none)) =
    none faulty.script_text faulty.trace_text faulty.has.parts.parted
faulty_not_bad input refusal line faulty (inr bad) =
    let same =
    one_parting input bad.script_text bad.trace_text faulty.script_text faulty.trace_text bad.has.parts faulty.has.parts in
    no_fault faulty.script_text bad.script refusal (subst (λ text. IsScript text bad.script) same.0 bad.is_script) faulty.fault

-- what was read of a told input is its first part
front_of : (told : Option (List ℕ)) (text : List ℕ) (after : Option (List ℕ)) (input : List ℕ) → told ≡ Some input →
    ReadsText most_input_read told text after → text ≡ take most_input_read input
front_of None text after input same read = cc same
front_of (Some before) text after input same read = let e : before ≡ input = cc in read.0 ∙ ap (take most_input_read) e

-- a first part that isn't too long is the whole input
whole_of : (input script_text trace_text : List ℕ) → HasParts (take most_input_read input) script_text trace_text →
    HasParts input script_text trace_text
whole_of input script_text trace_text has =
    let few : length input ≤ most_input = omega (arith, length-take most_input_read input, has.few) in
    subst (λ text. HasParts text script_text trace_text) (take_all most_input_read input (omega (arith, few))) has

-- where an input has no trace, no question was read
pub bad_not_asked : (source : Seen (List ℕ)) (input : List ℕ) (line : ℕ) (script : ScriptModel) (events : List Event) →
    source.told_before ≡ Some input → HasNoTrace input line →
    ReadsInput source (λ text. IsQuestionOf text script events) → ⊥
bad_not_asked source input line script events told bad (text, read, asks) =
    let front = front_of source.told_before text source.told_after input told read in
    let has =
    whole_of input asks.script_text asks.trace_text (subst (λ xs. HasParts xs asks.script_text asks.trace_text) front asks.has) in
    not_traceless input script events line
    (record {
      script_text = asks.script_text;
      trace_text = asks.trace_text;
      has = has;
      is_script = asks.is_script;
      short = asks.short;
      is_trace = asks.is_trace;
    }) bad

-- nor a fault of its script
pub bad_not_faulty : (source : Seen (List ℕ)) (input : List ℕ) (line : ℕ) (refusal : Refusal) →
    source.told_before ≡ Some input → HasNoTrace input line →
    ReadsInput source (λ text. HasScriptFault text refusal) → ⊥
bad_not_faulty source input line refusal told bad (text, read, faulty) =
    let front = front_of source.told_before text source.told_after input told read in
    let has =
    whole_of input faulty.script_text faulty.trace_text
    (subst (λ xs. HasParts xs faulty.script_text faulty.trace_text) front faulty.has) in
    faulty_not_bad input refusal line
    (record { script_text = faulty.script_text; trace_text = faulty.trace_text; has = has; fault = faulty.fault }) bad

-- an input without a trace is found bad
pub found_bad : (given : CheckGiven) (answer : CheckStatus) (note : List ℕ) → CheckSays given answer note →
    (input : List ℕ) (line : ℕ) → HasCheckForm given.words → given.source.told_before ≡ Some input →
    HasNoTrace input line → Stood given.source.faults_before given.source.faults_after → IsBad answer
found_bad given status.BadTrace note said input line form told bad read = inl refl
found_bad given status.NoMemory note said input line form told bad read = inr refl
found_bad given status.Done note said input line form told bad read =
    absurd (bad_not_asked given.source input line said.0.script said.0.events told bad said.0.read)
found_bad given status.Illegal note said input line form told bad read =
    absurd (bad_not_asked given.source input line said.0.script said.0.events told bad said.0.read)
found_bad given status.WriteFault note said input line form told bad read =
    absurd (bad_not_asked given.source input line said.0.script said.0.events told bad said.0.read)
found_bad given status.Usage note said input line form told bad read = absurd (said.0 form)
found_bad given status.ReadFault note said input line form told bad read =
    absurd (stood given.source.faults_before given.source.faults_after read said.1)
found_bad given status.Refused note (refusal, words, text, same) input line form told bad read =
    absurd (bad_not_faulty given.source input line refusal told bad text)

-- an input whose script has a fault gives no question
pub faulty_not_asked : (source : Seen (List ℕ)) (input : List ℕ) (refusal : Refusal) (script : ScriptModel)
    (events : List Event) → source.told_before ≡ Some input → HasScriptFault input refusal →
    ReadsInput source (λ text. IsQuestionOf text script events) → ⊥
faulty_not_asked source input refusal script events told faulty read =
    not_faulty input script events refusal
    (input_of source (λ text. IsQuestionOf text script events) input told faulty.has.few read) faulty

-- it is refused
pub found_refused : (given : CheckGiven) (answer : CheckStatus) (note : List ℕ) → CheckSays given answer note →
    (input : List ℕ) (refusal : Refusal) → HasCheckForm given.words → given.source.told_before ≡ Some input →
    HasScriptFault input refusal → Stood given.source.faults_before given.source.faults_after → IsRefused answer
found_refused given status.Refused note said input refusal form told faulty read = inl refl
found_refused given status.NoMemory note said input refusal form told faulty read = inr refl
found_refused given status.Done note said input refusal form told faulty read =
    absurd (faulty_not_asked given.source input refusal said.0.script said.0.events told faulty said.0.read)
found_refused given status.Illegal note said input refusal form told faulty read =
    absurd (faulty_not_asked given.source input refusal said.0.script said.0.events told faulty said.0.read)
found_refused given status.WriteFault note said input refusal form told faulty read =
    absurd (faulty_not_asked given.source input refusal said.0.script said.0.events told faulty said.0.read)
found_refused given status.Usage note said input refusal form told faulty read = absurd (said.0 form)
found_refused given status.ReadFault note said input refusal form told faulty read =
    absurd (stood given.source.faults_before given.source.faults_after read said.1)
found_refused given status.BadTrace note (line, words, text, same) input refusal form told faulty read =
    absurd (faulty_not_bad input refusal line faulty
    (input_of given.source (λ xs. HasNoTrace xs line) input told faulty.has.few text))

-- a verdict that was given is one on the question of a whole input
verdict_on : (given : CheckGiven) (Q : Verdict → Type 0) (P : List ℕ → Type 0) (judged : Judged given Q P)
    (form : CheckForm) (input : List ℕ) (script : ScriptModel) (events : List Event) → IsCheckForm given.words form →
    given.source.told_before ≡ Some input → IsQuestionOf input script events →
    IsVerdict script (form_tells form) events judged.verdict
verdict_on given Q P judged form input script events words told asks =
    let same =
    one_question input judged.script script judged.events events
    (input_of given.source (λ text. IsQuestionOf text judged.script judged.events) input told asks.has.few judged.read)
    asks
    in
    subst (λ f. IsVerdict script (form_tells f) events judged.verdict)
    (one_form given.words judged.form form judged.words words)
    (subst (λ es. IsVerdict script (form_tells judged.form) es judged.verdict) same.1
    (subst (λ s. IsVerdict s (form_tells judged.form) judged.events judged.verdict) same.0 judged.is))

-- a verdict on a whole input is right
pub right : (given : CheckGiven) (answer : CheckStatus) (note : List ℕ) → CheckSays given answer note →
    (form : CheckForm) (input : List ℕ) (script : ScriptModel) (events : List Event) → IsCheckForm given.words form →
    given.source.told_before ≡ Some input → IsQuestionOf input script events → Decides answer script form events
right given status.Done note said form input script events words told asks =
    record {
      legal = λ same.
          subst (IsVerdict script (form_tells form) events) said.0.kind
          (verdict_on given SaysLegal _ said.0 form input script events words told asks);
      illegal = λ same. absurd (cc same);
    }
right given status.Illegal note said form input script events words told asks =
    record {
      legal = λ same. absurd (cc same);
      illegal = λ same legal.
          said.0.kind
          (one_verdict script (form_tells form) events said.0.verdict verdict.Legal
          (verdict_on given _ _ said.0 form input script events words told asks) legal);
    }
right given status.Usage note said form input script events words told asks = record {
  legal = λ same. absurd (cc same);
  illegal = λ same. absurd (cc same);
}
right given status.Refused note said form input script events words told asks = record {
  legal = λ same. absurd (cc same);
  illegal = λ same. absurd (cc same);
}
right given status.ReadFault note said form input script events words told asks = record {
  legal = λ same. absurd (cc same);
  illegal = λ same. absurd (cc same);
}
right given status.WriteFault note said form input script events words told asks = record {
  legal = λ same. absurd (cc same);
  illegal = λ same. absurd (cc same);
}
right given status.NoMemory note said form input script events words told asks = record {
  legal = λ same. absurd (cc same);
  illegal = λ same. absurd (cc same);
}
right given status.BadTrace note said form input script events words told asks = record {
  legal = λ same. absurd (cc same);
  illegal = λ same. absurd (cc same);
}
