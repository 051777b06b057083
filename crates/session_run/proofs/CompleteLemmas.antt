-- A session in which nothing fails ends well.
use Rattle.std.proofs.Common.{◌≡◌, ℕ, List, refl, arith, ◌⊎◌, inl, inr, subst}
use Rattle.std.specs.Prelude.{Some, ⊤}
use Rattle.session_script.specs.Script.{ScriptModel}
use Rattle.session_script.specs.Limits.{most_read}
use Rattle.session_script.specs.Grammar.{IsScript}
use Rattle.session_script.proofs.FaultLemmas.{no_fault, script_size}
use Rattle.op_handlers.specs.Marks.{Marks}
use Rattle.session_run.specs.Answer.{Does, HasFault, Says, Worked}
use Rattle.session_run.specs.Given.{Given}
use Rattle.session_run.specs.Run.{ShowsFault}
use Rattle.session_run.specs.Form.{IsForm, IsGen, IsReadingForm, IsRunning, Reads}
use Rattle.session_run.specs.Session.{Undisturbed}
use Rattle.session_run.specs.declared.form.Form.{Form}
use Rattle.session_run.specs.declared.form.Form.TheVariants as forms
use Rattle.session_run.specs.declared.status.Status.{Status}
use Rattle.session_run.specs.declared.status.Status.TheVariants as status
use Rattle.text_io.specs.Counts.{Stood}
use Rattle.text_io.specs.Seen.{Writes, WritesPart}
use Rattle.text_io.proofs.CountLemmas.{stood}
use Rattle.text_io.proofs.TextLemmas.{text_of}

-- a text of a script isn't refused
not_refused : (bytes : List ℕ) (script : ScriptModel) (rule line token : ℕ) → IsScript bytes script →
    HasFault bytes rule line token → ⊥
not_refused bytes script rule line token is first = no_fault bytes script first.0 is first.1

-- the source told a script, and didn't fail
pub record Told {H : Type 0} (given : Given H) (bytes : List ℕ) (script : ScriptModel) : Type 0 where
  pub told : given.source.told_before ≡ Some bytes
  pub is : IsScript bytes script
  pub read : Stood given.source.faults_before given.source.faults_after

-- a script that was told isn't refused
told_not_refused : {H : Type 0} (marks : H → Marks) (given : Given H) (note : List ℕ)
    → Says marks given status.Refused note → (bytes : List ℕ) (script : ScriptModel) → Told given bytes script → ⊥
told_not_refused marks given note (rule, line, token, words, why, same) bytes script told =
    not_refused bytes script rule line token told.is
    (subst (λ text. HasFault text rule line token)
    (text_of most_read given.source.told_before why.text given.source.told_after bytes told.told
    (omega (arith, script_size bytes script told.is)) why.read) why.fault)

-- where out didn't fail, no writing was cut off
not_cut_off : {H : Type 0} (marks : H → Marks) (given : Given H) → Undisturbed given
    → Worked marks given (λ events. ⊤) (WritesPart given.out) → ⊥
not_cut_off marks given calm worked = wrote worked.form worked.work
  where
    wrote : (form : Form) → Does form marks worked.script given.reactor given.rack_before given.rack_after (λ events. ⊤)
        (WritesPart given.out) → ⊥
    wrote forms.Run work = stood given.out.faults_before given.out.faults_after calm.write work.3.1
    wrote forms.Net work = stood given.out.faults_before given.out.faults_after calm.write work.3.1
    wrote (forms.Gen start size) work = stood given.out.faults_before given.out.faults_after calm.write work.3.1
    wrote forms.Upgrade work = stood given.out.faults_before given.out.faults_after calm.write work.1.1

-- where the reactor didn't fail, no history shows a fault
not_broken : {H : Type 0} (marks : H → Marks) (given : Given H) → Undisturbed given
    → (worked : Worked marks given ShowsFault (Writes given.out)) → IsRunning worked.form → ⊥
not_broken marks given calm worked running = failed worked.form running worked.work
  where
    failed : (form : Form) → IsRunning form
        → Does form marks worked.script given.reactor given.rack_before given.rack_after ShowsFault (Writes given.out)
        → ⊥
    failed forms.Run running work = stood given.reactor.sent.faults_before given.reactor.sent.faults_after calm.reactor
        (work.1.faults work.2)
    failed forms.Net running work = stood given.reactor.sent.faults_before given.reactor.sent.faults_after calm.reactor
        (work.1.faults work.2)
    failed (forms.Gen start size) running work = stood given.reactor.sent.faults_before given.reactor.sent.faults_after
        calm.reactor (work.1.faults work.2)
    failed forms.Upgrade running work = running

-- words that name two numbers read no script
gen_reads_nothing : (words : List (List ℕ)) (start size : ℕ) → IsGen words start size → Reads words → ⊥
gen_reads_nothing words start size gen (form, named, reading) = apart form named reading
  where
    apart : (form : Form) → IsForm words form → IsReadingForm form → ⊥
    apart forms.Run named reading = cc (gen.0, named.0)
    apart forms.Net named reading = cc (gen.0, named.0)
    apart forms.Upgrade named reading = cc (gen.0, named.0)
    apart (forms.Gen first second) named reading = reading

-- where nothing fails, a script that is read is run to its end or its upgrade is written
pub complete : {H : Type 0} (marks : H → Marks) (given : Given H) (answer : Status) (note : List ℕ)
    → Says marks given answer note → (bytes : List ℕ) (script : ScriptModel)
    → Reads given.words → Told given bytes script → Undisturbed given
    → (answer ≡ status.Done) ⊎ (answer ≡ status.NoMemory)
complete marks given status.Done note said bytes script reads told calm = inl refl
complete marks given status.NoMemory note said bytes script reads told calm = inr refl
complete marks given status.Usage note said bytes script reads told calm = absurd (said.0 (reads.0, reads.1))
complete marks given status.Refused note said bytes script reads told calm =
    absurd (told_not_refused marks given note said bytes script told)
complete marks given status.ReadFault note said bytes script reads told calm =
    absurd (stood given.source.faults_before given.source.faults_after told.read said.1)
complete marks given status.WriteFault note said bytes script reads told calm =
    absurd (not_cut_off marks given calm said.0)
complete marks given status.ReactorFault note said bytes script reads told calm =
    absurd (not_broken marks given calm said.0 said.1)

-- and so is one that two numbers make
pub complete_gen : {H : Type 0} (marks : H → Marks) (given : Given H) (answer : Status) (note : List ℕ)
    → Says marks given answer note → (start size : ℕ)
    → IsGen given.words start size → Undisturbed given → (answer ≡ status.Done) ⊎ (answer ≡ status.NoMemory)
complete_gen marks given status.Done note said start size gen calm = inl refl
complete_gen marks given status.NoMemory note said start size gen calm = inr refl
complete_gen marks given status.Usage note said start size gen calm = absurd (said.0 (forms.Gen start size, gen))
complete_gen marks given status.Refused note (rule, line, token, words, why, same) start size gen calm =
    absurd (gen_reads_nothing given.words start size gen words)
complete_gen marks given status.ReadFault note said start size gen calm =
    absurd (gen_reads_nothing given.words start size gen said.0)
complete_gen marks given status.WriteFault note said start size gen calm = absurd (not_cut_off marks given calm said.0)
complete_gen marks given status.ReactorFault note said start size gen calm =
    absurd (not_broken marks given calm said.0 said.1)
