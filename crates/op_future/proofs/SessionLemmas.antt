-- A session of tasks: what its tasks got stands in its logs, and so does what wasn't found.
use Rattle.std.proofs.Common.{◌≡◌, ℕ, ◌+◌, ◌<◌, ◌≤◌, true, List, Option, Some, ap, arith, ⊎_elim, length, subst, sym}
use Rattle.std.specs.Prelude.{IfSome, slice_get}
use Rattle.std.proofs.lemmas.Option.{slice_get_cases}
use Rattle.asio_types.specs.declared.event.Event.{Event}
use Rattle.session_script.specs.Script.{ScriptModel}
use Rattle.session_script.specs.WellFormed.{IsWellFormed}
use Rattle.session_script.specs.declared.round.Round.{Round}
use Rattle.lane_clock.specs.Knowledge.{StartOf}
use Rattle.lane_clock.specs.Seats.{own}
use Rattle.lane_clock.proofs.KeepLemmas.{start_same}
use Rattle.lane_map.specs.LaneNumbers.{has_cell}
use Rattle.lane_logs.specs.AtRest.{FoundNoneFrom, IsAtRest}
use Rattle.lane_logs.specs.Logs.{AreLogs, LogsView}
use Rattle.lane_logs.specs.Names.{SessionNames}
use Rattle.lane_logs.specs.SeatNumbers.{lane_count, most_workers, opener_seat, worker_count}
use Rattle.lane_turns.specs.AllWorkers.{clock_seat}
use Rattle.lane_turns.specs.AtRest.{RestView, rest_lists}
use Rattle.lane_turns.specs.Attempts.{WorkerState}
use Rattle.lane_turns.specs.KeptSteps.{KeepStepsOf}
use Rattle.lane_context.proofs.RestLemmas.{none_stays}
use Rattle.history_merge.specs.Merging.{IsMerging}
use Rattle.history_merge.specs.Receipts.{IsAbsent, UnfoundAtRestAreAbsent}
use Rattle.op_future.specs.declared.task_end.TaskEnd.{TaskEnd}
use Rattle.op_future.specs.Gathering.{AreGathered}
use Rattle.op_future.specs.Seats.{HaveGotFrom}
use Rattle.op_future.specs.Sessions.{HasOneRun}
use Rattle.op_future.specs.Tasks.{TaskState}
use Rattle.op_future.proofs.HaveGotLemmas.{HasGotFound, found_on, got_found}

-- each worker of the round has a task, and the caller's own has none
pub one_run_workers : (script : ScriptModel) (count : ℕ) → HasOneRun script count → worker_count script ≡ count + 1
one_run_workers script count only =
    let same = ap (λ (rounds : List Round). most_workers rounds) only in omega (arith, same)

module _ {H X : Type 0} (script : ScriptModel) (logs : LogsView) (workers : List (WorkerState H X)) (rest : RestView)
    (first mid last : List TaskState) (ends : List (Option TaskEnd)) (ran : HaveGotFrom script workers first mid)
    (gathered : AreGathered script rest mid last ends) (keeps : KeepStepsOf clock_seat script logs workers)
    (start : StartOf (rest_lists rest (opener_seat script)) (logs.lists (opener_seat script)))
    (few : length first < length workers) where
  kept_at : (k : ℕ) (worker : WorkerState H X) → slice_get workers k ≡ Some worker →
      logs.lists (lane_count script + k) ≡ own (clock_seat worker)
  kept_at k worker at =
      subst (λ o. IfSome o (λ one. logs.lists (lane_count script + k) ≡ own (clock_seat one))) at (keeps k)

  pub session_got : (k : ℕ) (old new : TaskState) → slice_get first k ≡ Some old → slice_get last k ≡ Some new →
      HasGotFound script logs old new
  session_got k old new was is =
      ⊎_elim
      (λ there.
      ⊎_elim
      (λ seated.
      found_on script logs old there.0 new
      (got_found script logs (lane_count script + k) (own (clock_seat seated.0)) old there.0
      (start_same _ _ (sym (kept_at k seated.0 seated.2)))
      (ran.each k seated.0 old there.0 seated.2 was there.2))
      (got_found script logs (opener_seat script) (rest_lists rest (opener_seat script)) there.0 new start
      (gathered.got k there.0 new there.2 is)))
      (λ past. absurd (omega (arith, past.0, there.1, ran.size, few)))
      (slice_get_cases workers k).1)
      (λ past. absurd (past_none k (omega (arith, past.0, gathered.size)) new is))
      (slice_get_cases mid k).1
    where
      past_none : (k : ℕ) → length last ≤ k → (new : TaskState) → slice_get last k ≡ Some new → ⊥
      past_none k past new is =
          ⊎_elim (λ there. absurd (omega (arith, there.1, past))) (λ none. absurd (let no = none.1 in cc (is, no)))
          (slice_get_cases last k).1

-- what wasn't found at rest is absent from the history
pub absent_at_rest : (law : UnfoundAtRestAreAbsent) (names : SessionNames) (logs : LogsView) (events : List Event)
    (rest : RestView) → IsWellFormed names.script → AreLogs names logs → IsMerging logs events →
    IsAtRest names.script logs.lists rest.since →
    StartOf (rest_lists rest (opener_seat names.script)) (logs.lists (opener_seat names.script)) → (op : ℕ) →
    has_cell names.script op ≡ true → FoundNoneFrom names.script (rest_lists rest) rest.since op →
    IsAbsent names.script events op
absent_at_rest law names logs events rest well are merging rests start op fits none =
    law names logs events well are merging rest.since op rests fits
    (none_stays names.script (rest_lists rest) logs.lists rest.since op start none)
