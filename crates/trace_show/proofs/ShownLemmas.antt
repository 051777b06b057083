-- What the status of a shown verdict says.
use Rattle.std.proofs.Common.{◌≡◌, List}
use Rattle.trace_check.specs.Answer.{CheckGiven, SaysLegal}
use Rattle.trace_check.specs.declared.verdict.Verdict.{Verdict}
use Rattle.trace_check.specs.declared.verdict.Verdict.TheVariants as verdict
use Rattle.trace_show.specs.Answer.{Shown, ShowSays, ending_status}
use Rattle.trace_show.specs.declared.session.ShowEnding.TheVariants as ending

-- what is said of the verdict alone may change
with_kind : (given : CheckGiven) (Q R : Verdict → Type 0) (shown : Shown given Q) → R shown.said → Shown given R
with_kind given Q R shown kind =
    record {
      form = shown.form;
      words = shown.words;
      script = shown.script;
      events = shown.events;
      read = shown.read;
      said = shown.said;
      is = shown.is;
      kind = kind;
      written = shown.written;
    }

pub shown_of : (given : CheckGiven) (v : Verdict) → Shown given (λ said. said ≡ v) →
    ShowSays given (ending_status (ending.Shown v))
shown_of given verdict.Legal shown = shown
shown_of given (verdict.Illegal number) shown =
    with_kind given (λ said. said ≡ verdict.Illegal number) (λ said. SaysLegal said → ⊥) shown
    (λ legal. cc (shown.kind, legal))
shown_of given verdict.Incomplete shown =
    with_kind given (λ said. said ≡ verdict.Incomplete) (λ said. SaysLegal said → ⊥) shown
    (λ legal. cc (shown.kind, legal))
