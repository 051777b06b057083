-- Sessions that two numbers made: their summary is computed from the numbers alone.
use Rattle.std.proofs.Common.{◌≡◌, ◌∙◌, ℕ, suc, Bool, true, false, ◌||◌, List, [], ◌∷◌, ap, arith, refl, subst}
use Rattle.std.specs.Prelude.{Contains, None, Some}
use Rattle.std.specs.List.{list_any}
use Rattle.std.specs.Fmt.{decimal}
use Rattle.std.proofs.lemmas.Fmt.{decimal_injective}
use Rattle.asio_types.specs.declared.code.Code.{Code}
use Rattle.asio_types.specs.declared.event.Event.{Event}
use Rattle.asio_types.specs.declared.event.Event.TheVariants as event
use Rattle.op_handlers.specs.Marks.{Marks, call_of, own_marks}
use Rattle.op_handlers.specs.declared.call.Call.{Call}
use Rattle.generated_session.specs.PlainSummary.{SummariesArePlain, plain_summary}
use Rattle.generated_session.specs.Summary.{summary_of}
use Rattle.session_run.specs.Answer.{Does, Says}
use Rattle.session_run.specs.Form.{IsForm, IsGen}
use Rattle.history_rules.specs.FromOutside.{is_fault, is_outside_stop}
use Rattle.history_rules.specs.Legal.{IsLegal}
use Rattle.history_rules.specs.Marks.{HasMarks}
use Rattle.execution_laws.specs.Marks.{AreMarked, BeginsAt, IsToldMark}
use Rattle.session_run.specs.Given.{Given, tells_bytes}
use Rattle.session_run.specs.Origin.{HasOrigin}
use Rattle.session_run.specs.RackMarks.{HasFixedRuns, drop_mark, rack_run_mark}
use Rattle.session_run.specs.Run.{ShowsNoFault}
use Rattle.session_run.specs.declared.form.Form.{Form}
use Rattle.session_run.specs.declared.form.Form.TheVariants as forms
use Rattle.session_run.specs.declared.status.Status.{Status}
use Rattle.session_run.specs.declared.status.Status.TheVariants as status
use Rattle.text_io.specs.Seen.{Writes}

fails : (b : Bool) → (b ≡ true → ⊥) → b ≡ false
fails true never = absurd (never refl)
fails false never = refl

-- no event passes a test that only an absent one passes
none_passes : (test : Event → Bool) (one : Event) → ((e : Event) → test e ≡ true → e ≡ one) → (events : List Event)
    → (Contains events one → ⊥) → list_any test events ≡ false
none_passes test one only [] absent = refl
none_passes test one only (e ∷ events) absent =
    let here : test e ≡ false = fails (test e) (λ passed. absent (0, omega arith, only e passed)) in
    let rest = none_passes test one only events (λ found. absent (suc found.0, omega (arith, found.1), found.2)) in
    ap (λ b. b || list_any test events) here ∙ rest

only_fault : (e : Event) → is_fault e ≡ true → e ≡ event.Fault
only_fault event.Fault is = refl
only_fault (event.Call act) is = cc is
only_fault (event.Back act) is = cc is
only_fault (event.Stop act) is = cc is
only_fault (event.Begin op code size) is = cc is
only_fault (event.End op mark) is = cc is
only_fault (event.Take act) is = cc is
only_fault (event.Done op code size) is = cc is
only_fault (event.Tick now) is = cc is
only_fault event.Last is = cc is
only_fault event.Ended is = cc is
only_fault event.Stopped is = cc is
only_fault event.Polled is = cc is
only_fault event.Restart is = cc is
only_fault (event.Dropped op mark) is = cc is

only_outside : (e : Event) → is_outside_stop e ≡ true → e ≡ event.Stop None
only_outside (event.Stop None) is = refl
only_outside (event.Stop (Some act)) is = cc is
only_outside event.Fault is = cc is
only_outside (event.Call act) is = cc is
only_outside (event.Back act) is = cc is
only_outside (event.Begin op code size) is = cc is
only_outside (event.End op mark) is = cc is
only_outside (event.Take act) is = cc is
only_outside (event.Done op code size) is = cc is
only_outside (event.Tick now) is = cc is
only_outside event.Last is = cc is
only_outside event.Ended is = cc is
only_outside event.Stopped is = cc is
only_outside event.Polled is = cc is
only_outside event.Restart is = cc is
only_outside (event.Dropped op mark) is = cc is

-- the words of a form that names two numbers name no others
same_numbers : (start size other_start other_size : ℕ) (words : List (List ℕ)) → IsGen words start size
    → IsGen words other_start other_size → (start ≡ other_start) × (size ≡ other_size)
same_numbers start size other_start other_size words first second =
    let firsts : decimal start ≡ decimal other_start = cc (first.0, second.0) in
    let seconds : decimal size ≡ decimal other_size = cc (first.0, second.0) in (
      decimal_injective start other_start (omega (arith, first.1)) (omega (arith, second.1)) firsts,
      decimal_injective size
          other_size (omega (arith, first.1)) (omega (arith, second.1)) seconds,
    )

-- the marks of handlers that have one run mark each
fixed_marks : (run : ℕ → Call → ℕ) (one drop : ℕ → ℕ) (Begins : ℕ → Code → ℕ → ℕ → Type 0)
    → ((n : ℕ) (call : Call) → run n call ≡ one n) → (events : List Event)
    → AreMarked (IsToldMark (own_marks run) Begins) drop events → HasMarks one drop events
fixed_marks run one drop Begins fixed [] all = tt
fixed_marks run one drop Begins fixed (event.End o mark ∷ events) all = (
  all.0.is ∙ fixed o (call_of o all.0.code all.0.size all.0.begun),
  fixed_marks run one drop Begins fixed events all.1,
)
fixed_marks run one drop Begins fixed (event.Dropped o mark ∷ events) all =
    (all.0, fixed_marks run one drop Begins fixed events all.1)
fixed_marks run one drop Begins fixed (other ∷ events) all = (tt, fixed_marks run one drop Begins fixed events all.1)

-- what was written of the session that two numbers made, where all went well
plain_done : {H : Type 0} (marks : H → Marks) (given : Given H) (note : List ℕ) → Says marks given status.Done note
    → SummariesArePlain → (start size : ℕ) → IsGen given.words start size → (run : ℕ → ℕ)
    → HasFixedRuns marks given.rack_before run → Writes given.out (plain_summary start size run)
plain_done marks given note said law start size words run fixed =
    by_form said.0.form said.0.words said.0.origin said.0.work
  where
    by_form : (form : Form) → IsForm given.words form → HasOrigin form given.source said.0.script
        → Does form marks said.0.script given.reactor given.rack_before given.rack_after ShowsNoFault (Writes given.out)
        → Writes given.out (plain_summary start size run)
    by_form forms.Run named origin work = absurd (cc (named.0, words.0))
    by_form forms.Net named origin work = absurd (cc (named.0, words.0))
    by_form forms.Upgrade named origin work = absurd (cc (named.0, words.0))
    by_form (forms.Gen first second) named origin (events, ran, quiet, wrote) =
        let same = same_numbers first second start size given.words named words in
        let legal = subst (λ script. IsLegal script (tells_bytes given.reactor) events) origin ran.legal in
        let plain : summary_of first second events ≡ plain_summary first second run =
        law first second (named.1.2) (tells_bytes given.reactor) events legal
        (none_passes is_fault event.Fault only_fault events quiet)
        (none_passes is_outside_stop (event.Stop None) only_outside events ran.unstopped) run
        (drop_mark marks given.rack_before)
        (fixed_marks (rack_run_mark marks given.rack_before) run (drop_mark marks given.rack_before) (BeginsAt events) fixed
        events ran.marked) in
        let both : plain_summary first second run ≡ plain_summary start size run =
        λ i. plain_summary (same.0 i) (same.1 i) run in
        subst (Writes given.out) (plain ∙ both) wrote

-- the same of an answer that is status 0
pub plain_of : {H : Type 0} (marks : H → Marks) (given : Given H) (answer : Status) (note : List ℕ)
    → Says marks given answer note → answer ≡ status.Done → SummariesArePlain → (start size : ℕ)
    → IsGen given.words start size → (run : ℕ → ℕ) → HasFixedRuns marks given.rack_before run
    → Writes given.out (plain_summary start size run)
plain_of marks given answer note said done law start size words =
    plain_done marks given note (subst (λ one. Says marks given one note) done said) law start size words
