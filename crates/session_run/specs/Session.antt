-- What a session comes to: what its status says, and what it did with all that it was given.
use Rattle.std.specs.Prelude.{◌≡◌, ◌⊎◌, ℕ, List, Some}
use Rattle.session_script.specs.Grammar.{IsScript}
use Rattle.session_script.specs.Limits.{most_read}
use Rattle.session_script.specs.Script.{ScriptModel}
use Rattle.generated_session.specs.PlainSummary.{plain_summary}
use Rattle.op_handlers.specs.Marks.{Marks}
use Rattle.op_handlers.specs.Rack.{handlers_in}
use Rattle.session_run.specs.Answer.{Answers, CountsReactor, CountsReads, CountsWrites, LeavesAll}
use Rattle.session_run.specs.Form.{IsGen, IsUpgrade, Reads}
use Rattle.session_run.specs.Given.{Given}
use Rattle.session_run.specs.RackMarks.{HasFixedRuns}
use Rattle.session_run.specs.declared.status.Status.{Status}
use Rattle.session_run.specs.declared.status.Status.TheVariants as status
use Rattle.text_io.specs.Counts.{Stood}
use Rattle.text_io.specs.Seen.{Seen, Writes}
use Rattle.text_io.specs.Text.{TakesSome}

-- neither out nor the reactor failed
pub record Undisturbed {H : Type 0} (given : Given H) : Type 0 where
  pub write : Stood given.out.faults_before given.out.faults_after
  pub reactor : Stood given.reactor.sent.faults_before given.reactor.sent.faults_after

pub record IsSession {H : Type 0} (marks : H → Marks) (given : Given H) (notes : Seen (List ℕ))
    (answer : Status) : Type 0 where
  pub answers : Answers marks given notes answer
  -- with these statuses nothing was run
  pub kept : LeavesAll answer → handlers_in given.rack_after ≡ handlers_in given.rack_before
  -- an upgrade executes nothing and destroys nothing
  pub upgrade : IsUpgrade given.words → handlers_in given.rack_after ≡ handlers_in given.rack_before
  -- no more was read than a script may have, and a byte
  pub taken : TakesSome most_read given.source.told_before given.source.told_after
  -- status 3 comes exactly where the source's count of faults rose, status 4 exactly where out's
  -- did, and status 5 only where the reactor's did
  pub reads : CountsReads answer given.source.faults_before given.source.faults_after
  pub writes : CountsWrites answer given.out.faults_before given.out.faults_after
  pub runs : CountsReactor answer given.reactor.sent.faults_before given.reactor.sent.faults_after
  -- where no count rose, a script is run to its end, or its upgrade is written, unless memory runs
  -- out
  pub complete : (bytes : List ℕ) (script : ScriptModel) → Reads given.words →
      given.source.told_before ≡ Some bytes → IsScript bytes script →
      Stood given.source.faults_before given.source.faults_after → Undisturbed given →
      (answer ≡ status.Done) ⊎ (answer ≡ status.NoMemory)
  pub complete_gen : (start size : ℕ) → IsGen given.words start size → Undisturbed given →
      (answer ≡ status.Done) ⊎ (answer ≡ status.NoMemory)
  -- the summary of a session that numbers made is the same at each run, where each handler has one run
  -- mark whatever it is called with; else its sum is the one that the history shows
  pub plain : (start size : ℕ) → IsGen given.words start size → answer ≡ status.Done →
      (run : ℕ → ℕ) → HasFixedRuns marks given.rack_before run →
      Writes given.out (plain_summary start size run)
