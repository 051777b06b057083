-- What all workers of a context without a lock keep through the calls of a session.
use Rattle.std.proofs.Common.{◌≡◌, ◌∙◌, ℕ, zero, suc, ◌+◌, ◌-◌, ◌<◌, ◌≤◌, List, [], ◌∷◌, Option, Some, None, ap, arith, length, map, refl, subst, sym}
use Rattle.std.specs.Prelude.{◌≢◌, IfSome, slice_get}
use Rattle.session_script.specs.Script.{ScriptModel}
use Rattle.lane_logs.specs.declared.log.LogEntry.{LogEntry}
use Rattle.lane_logs.specs.Logs.{LogsView, entries_of}
use Rattle.lane_logs.specs.SeatNumbers.{IsWorkerSeat, lane_count, opener_seat, worker_count}
use Rattle.lane_turns.specs.declared.run_end.RunEnd.{RunEnd}
use Rattle.lane_turns.specs.declared.run_end.RunEnd.TheVariants as end
use Rattle.lane_turns.specs.AllWorkers.{NoneFaulted, last_of, log_of}
use Rattle.lane_turns.specs.Attempts.{WorkerState}
use Rattle.lane_context.specs.SessionRooms.{AreFresh}
use Rattle.history_merge.specs.Merging.{NoWorkerStops}

-- what an element of a list shows stood in another list that shows the same
shown_before : {A B : Type 0} (f : A → B) (olds news : List A) → map f news ≡ map f olds → (k : ℕ) (one : A) →
    slice_get news k ≡ Some one → (old : A) × (slice_get olds k ≡ Some old) × (f one ≡ f old)
shown_before f olds [] same k one is = absurd (cc is)
shown_before f [] (new ∷ news) same k one is = absurd (cc same)
shown_before f (old ∷ olds) (new ∷ news) same zero one is =
    let shown : f new ≡ f old = cc same in
    let found : new ≡ one = cc is in
    (old, refl, ap f (sym found) ∙ shown)
shown_before f (old ∷ olds) (new ∷ news) same (suc k) one is =
    let rest : map f news ≡ map f olds = cc same in
    shown_before f olds news rest k one is

module _ {H X : Type 0} where
  -- no worker has met a failure whose last call is as it was
  pub none_faulted : (olds news : List (WorkerState H X)) → map last_of news ≡ map last_of olds → NoneFaulted olds →
      NoneFaulted news
  none_faulted olds news same none k one is =
      let before = shown_before last_of olds news same k one is in
      λ met. none k before.0 before.1 (sym before.2 ∙ met)

  pub fresh_unfaulted : (all : List (WorkerState H X)) → AreFresh all → NoneFaulted all
  fresh_unfaulted all fresh k one is =
      let none = (fresh k one is).last in
      λ met. cc (none, met)

  -- no worker drew a stop, by what all drew at the end and at first
  pub none_stopped : (script : ScriptModel) (logs : LogsView) (first last : List (WorkerState H X)) → AreFresh first →
      map log_of last ≡ map log_of first → length last ≡ worker_count script →
      ((k : ℕ) → IfSome (slice_get last k) (λ worker. entries_of logs (lane_count script + k) ≡ log_of worker)) →
      NoWorkerStops script logs
  none_stopped script logs first last fresh same size left n seat =
      let k : ℕ = n - lane_count script in
      let number : n ≡ lane_count script + k = omega (arith, seat.behind) in
      subst (λ n. entries_of logs n ≡ []) (sym number)
      (at k (slice_get last k) refl (omega (arith, size, seat.behind, seat.before)) (left k))
    where
      at : (k : ℕ) (found : Option (WorkerState H X)) → slice_get last k ≡ found → k < length last →
          IfSome found (λ worker. entries_of logs (lane_count script + k) ≡ log_of worker) →
          entries_of logs (lane_count script + k) ≡ []
      at k None is within left = absurd (past last k is within)
        where
          past : {A : Type 0} (xs : List A) (k : ℕ) → slice_get xs k ≡ None → k < length xs → ⊥
          past [] k is within = absurd (omega (arith, within))
          past (x ∷ xs) zero is within = cc is
          past (x ∷ xs) (suc k) is within = past xs k is (omega (arith, within))
      at k (Some worker) is within left =
          let before = shown_before log_of first last same k worker is in
          left ∙ (before.2 ∙ (fresh k before.0 before.1).log)
