-- Each of a list knows all that it knew.
use Rattle.std.proofs.Common.{◌≡◌, ⊎_elim, ℕ, ◌+◌, ◌-◌, ◌<◌, ◌≤◌, List, Some, length, map, refl, sym, ap, subst, ◌∙◌, arith}
use Rattle.std.specs.Prelude.{slice_get}
use Rattle.std.proofs.lemmas.Bool.{cases_lt}
use Rattle.std.proofs.lemmas.Option.{slice_get_cases}
use Rattle.session_script.specs.Script.{ScriptModel}
use Rattle.lane_clock.specs.Seats.{Remembers, SeatView}
use Rattle.lane_clock.proofs.KeepLemmas.{start_same, start_trans}
use Rattle.lane_logs.specs.Knowing.{lists_of}
use Rattle.lane_turns.specs.AllWorkers.{clock_seat}
use Rattle.lane_turns.specs.Attempts.{WorkerState}
use Rattle.lane_turns.specs.Attending.{HaveAttended}
use Rattle.lane_turns.specs.KeptSteps.{AllRemember}
use Rattle.lane_turns.specs.Openers.{OpenerView}
use Rattle.lane_turns.specs.OwnRuns.{LastIsNow}
use Rattle.lane_turns.proofs.AllWorkersLemmas.{same_source}
use Rattle.lane_turns.proofs.BenchLemmas.{same_one}
use Rattle.lane_turns.proofs.MeetAllLemmas.{below_size}

module _ {T : Type 0} (seat : T → SeatView) where
  pub same_remember : (all : List T) → AllRemember seat all all
  same_remember all k one at = record { old = one; was = at; remembers = λ n. start_same _ _ refl }

  pub remember_on : (a b c : List T) → AllRemember seat a b → AllRemember seat b c → AllRemember seat a c
  remember_on a b c first second k new at =
      let later = second k new at in
      let sooner = first k later.old later.was in
      record {
        old = sooner.old;
        was = sooner.was;
        remembers = λ n. start_trans _ _ _ (sooner.remembers n) (later.remembers n);
      }

  -- where the seats are as they were
  pub seats_remember : (olds news : List T) → map seat news ≡ map seat olds → AllRemember seat olds news
  seats_remember olds news same k new at =
      let from = same_source seat olds news k new same at in
      record {
        old = from.source;
        was = from.at;
        remembers = λ n. start_same _ _ (ap (λ (s : SeatView). lists_of s n) from.is);
      }

  -- where each met the opener
  pub met_remember : (script : ScriptModel) (first last : OpenerView) (olds news : List T) → length news ≡ length olds →
      HaveAttended seat script first last olds news (length olds) → AllRemember seat olds news
  met_remember script first last olds news size attended k new at =
      let less = below_size news k new at in
      ⊎_elim
      (λ there.
      record {
        old = there.0;
        was = there.2;
        remembers = (attended.met k there.0 new there.1 there.2 at).met.told.remembers;
      })
      (λ past. absurd (omega (arith, past.0, size, less)))
      (slice_get_cases olds k).1

-- where all but the last are as they were
pub last_remembers : {H X : Type 0} (olds news : List (WorkerState H X)) (one two : WorkerState H X) →
    LastIsNow olds news one two → Remembers (clock_seat one) (clock_seat two) → AllRemember clock_seat olds news
last_remembers olds news one two only remembers k new at =
    ⊎_elim
    (λ (below : k + 1 < length olds).
    record { old = new; was = sym (only.others k below) ∙ at; remembers = λ n. start_same _ _ refl })
    (λ (past : length olds ≤ k + 1).
    let less = below_size news k new at in
    let here : length olds - 1 ≡ k = omega (arith, past, less, only.size) in
    let is : two ≡ new = same_one news (length olds - 1) k two new only.is (sym here) at in
    record {
      old = one;
      was = subst (λ j. slice_get olds j ≡ Some one) here only.was;
      remembers = subst (λ (w : WorkerState _ _). Remembers (clock_seat one) (clock_seat w)) is remembers;
    })
    (cases_lt (k + 1) (length olds))
