-- What begins, ends and completes in a session that a number makes: the events that change one act.
use Rattle.std.proofs.Common.{◌≡◌, ℕ, ◌<◌, ◌==◌, true, false, not, cond, List, length, Some, refl, ap, sym, ◌∙◌, arith}
use Rattle.std.specs.List.{slice_set}
use Rattle.std.proofs.lemmas.Bool.{and_parts, eqb-true}
use Rattle.asio_types.specs.Code.{class_of_code}
use Rattle.asio_types.specs.declared.code.Class.{Class}
use Rattle.asio_types.specs.declared.code.Class.TheVariants as class
use Rattle.asio_types.specs.declared.code.Code.{Code}
use Rattle.asio_types.specs.declared.code.Code.TheVariants as code
use Rattle.asio_types.specs.declared.event.Event.{Event}
use Rattle.asio_types.specs.declared.event.Event.TheVariants as event
use Rattle.session_script.specs.Script.{Entry, branch_of}
use Rattle.history_rules.specs.Calls.{has_ended}
use Rattle.history_rules.specs.Executions.{has_finished}
use Rattle.history_rules.specs.State.{no_progress}
use Rattle.history_rules.specs.declared.phase.ActPhase.{ActPhase}
use Rattle.history_rules.specs.declared.phase.ActPhase.TheVariants as phase
use Rattle.history_rules.specs.declared.phase.ActState.{ActState}
use Rattle.history_rules.specs.declared.phase.Cause.{Cause}
use Rattle.history_rules.specs.declared.phase.Progress.{Progress}
use Rattle.generated_session.specs.Generator.{session_of}
use Rattle.generated_session.specs.Summary.{is_call}
use Rattle.generated_session.proofs.FitLemmas.{fits, has_made, inside_runs, is_born, is_called, posting_runs_ok, ready_runs, requested_completes, running_ends}
use Rattle.generated_session.proofs.GatherLemmas.{one_if}
use Rattle.generated_session.proofs.GoingLemmas.{ActStep, end_weight}
use Rattle.generated_session.proofs.ItemsLemmas.{AreItems, known, nth_act, nth_place, under}
use Rattle.generated_session.proofs.StatesLemmas.{ActsFit, Changes, acts_fit-changed, at, called-changed, changed, ended-changed, is_there}

-- an act comes to this phase
abbrev pub phased : List ActState → ℕ → ActPhase → List ActState
phased states o to = slice_set states o (record (at states o) { phase = to })

pub changed_phase : (states : List ActState) (o : ℕ) (to : ActPhase) → is_born (at states o).phase ≡ true →
    Changes states (phased states o to) o (record (at states o) { phase = to })
changed_phase states o to born = changed states o (record (at states o) { phase = to }) (is_there states o born)

-- one act's phase changes
module _ (acts : List Entry) (states : List ActState) (o : ℕ) (to : ActPhase) (e : Event) (was : ActsFit acts states)
    (born : is_born (at states o).phase ≡ true) (going : has_ended (at states o).phase ≡ false)
    (fit : fits (nth_act acts o) (is_called (at states o).call) to ≡ true)
    (makes : (n : ℕ) (c : Class) → nth_place acts n ≡ Some (o, c) → has_made to ≡ has_made (at states o).phase)
    (none : is_call e ≡ false) (weighs : (weight : ℕ → ℕ) → end_weight weight e ≡ cond (has_ended to) (weight o) 0) where
  changes : Changes states (phased states o to) o (record (at states o) { phase = to })
  changes = changed_phase states o to born

  below : o < length acts
  below = let less = is_there states o born in let size = was.size in omega (arith, less, size)

  pub phase_step : ActStep acts states (phased states o to) e
  phase_step = record {
    fit = acts_fit-changed acts states (phased states o to) o (record (at states o) { phase = to }) was changes (record {
      fit = fit;
      opened = λ is. refl;
      makes = makes;
      called = λ p c parent. refl;
    });
    calls =
        let same =
        called-changed states (phased states o to) o (record (at states o) { phase = to }) (length acts) changes below in
        let zero_more = ap one_if none in
        omega (arith, same, zero_more);
    ends = λ weight.
        let same =
        ended-changed weight states (phased states o to) o (record (at states o) { phase = to }) (length acts) changes below in
        let before = ap (λ b. cond b (weight o) 0) going in
        let weighs_so = weighs weight in
        omega (arith, same, before, weighs_so);
  }

-- a handler that begins
begins : (acts : List Entry) → AreItems 0 acts →
    (states : List ActState) (o : ℕ) (given : Code) (size : ℕ) (p : ActPhase) → (at states o).phase ≡ p →
    is_born p ≡ true → has_ended p ≡ false → has_made p ≡ false → ActsFit acts states →
    fits (nth_act acts o) (is_called (at states o).call) (phase.Running (class_of_code given) no_progress) ≡ true →
    ActStep acts states (phased states o (phase.Running (class_of_code given) no_progress)) (event.Begin o given size)
begins acts items states o given size p is born going made was fit =
    phase_step acts states o (phase.Running (class_of_code given) no_progress) (event.Begin o given size) was
    (ap is_born is ∙ born) (ap has_ended is ∙ going) fit (λ n c parent. sym (ap has_made is ∙ made)) refl (λ weight. refl)

pub begin_step : (acts : List Entry) → AreItems 0 acts →
    (states : List ActState) (o : ℕ) (given : Code) (size : ℕ) (why : Cause) →
    (at states o).phase ≡ phase.Ready given size why → ActsFit acts states →
    ActStep acts states (phased states o (phase.Running (class_of_code given) no_progress)) (event.Begin o given size)
begin_step acts items states o given size why is was =
    begins acts items states o given size (phase.Ready given size why) is refl refl refl was
    (ready_runs (known acts items o) (is_called (at states o).call) given size why
    (ap (fits (nth_act acts o) (is_called (at states o).call)) (sym is) ∙ was.fit o) no_progress)

pub begin_inside_step : (acts : List Entry) → AreItems 0 acts →
    (states : List ActState) (o : ℕ) (given : Code) (size : ℕ) → (at states o).phase ≡ phase.Inside → given ≡ code.Ok →
    ActsFit acts states →
    ActStep acts states (phased states o (phase.Running (class_of_code given) no_progress)) (event.Begin o given size)
begin_inside_step acts items states o given size is ok was =
    begins acts items states o given size phase.Inside is refl refl refl was
    (ap (λ g. fits (nth_act acts o) (is_called (at states o).call) (phase.Running (class_of_code g) no_progress)) ok
    ∙ inside_runs (known acts items o) (is_called (at states o).call)
    (ap (fits (nth_act acts o) (is_called (at states o).call)) (sym is) ∙ was.fit o) no_progress)

-- a handler that has made its calls
pub record HasFinished (acts : List Entry) (o : ℕ) (p : ActPhase) : Type 0 where
  pub class : Class
  pub progress : Progress
  pub is : p ≡ phase.Running class progress
  pub all : progress.made ≡ length (branch_of (session_of acts) o class)

pub finished : (acts : List Entry) (o : ℕ) (p : ActPhase) → has_finished (session_of acts) o p ≡ true →
    HasFinished acts o p
finished acts o (phase.Running class progress) is = record {
  class = class;
  progress = progress;
  is = refl;
  all =
      eqb-true progress.made (length (branch_of (session_of acts) o class))
      (and_parts (progress.made == length (branch_of (session_of acts) o class))
      (progress.back == length (branch_of (session_of acts) o class)) is).0;
}
finished acts o p is = absurd (cc)

some_made : (n : ℕ) → n ≡ 1 → not (n == 0) ≡ true
some_made n one = ap (λ m. not (m == 0)) one

pub end_step : (acts : List Entry) → AreItems 0 acts → (states : List ActState) (o mark : ℕ) →
    HasFinished acts o (at states o).phase → ActsFit acts states →
    ActStep acts states (phased states o phase.Ended) (event.End o mark)
end_step acts items states o mark done was =
    let running = ap (fits (nth_act acts o) (is_called (at states o).call)) (sym done.is) ∙ was.fit o in
    phase_step acts states o phase.Ended (event.End o mark) was (ap is_born done.is) (ap has_ended done.is)
    (running_ends (known acts items o) (is_called (at states o).call) done.class done.progress running)
    (λ n c parent.
    let inside = under acts items n o c parent in
    let ok : done.class ≡ class.Ok =
    posting_runs_ok inside.posts (is_called (at states o).call) done.class done.progress
    (ap (λ act. fits act (is_called (at states o).call) (phase.Running done.class done.progress)) (sym inside.maker_is)
    ∙ running) in
    let one : length (branch_of (session_of acts) o done.class) ≡ 1 =
    ap (λ d. length (branch_of (session_of acts) o d)) (ok ∙ sym inside.branch) ∙ ap length inside.only in
    sym (ap has_made done.is ∙ some_made done.progress.made (done.all ∙ one)))
    refl (λ weight. refl)

pub done_step : (acts : List Entry) → AreItems 0 acts →
    (states : List ActState) (o : ℕ) (given : Code) (size : ℕ) (why : Cause) → (at states o).phase ≡ phase.Requested →
    ActsFit acts states → ActStep acts states (phased states o (phase.Ready given size why)) (event.Done o given size)
done_step acts items states o given size why is was =
    phase_step acts states o (phase.Ready given size why) (event.Done o given size) was (ap is_born is) (ap has_ended is)
    (requested_completes (known acts items o) (is_called (at states o).call) given size why
    (ap (fits (nth_act acts o) (is_called (at states o).call)) (sym is) ∙ was.fit o))
    (λ n c parent. sym (ap has_made is)) refl (λ weight. refl)
