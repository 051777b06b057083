-- The logs that a session leaves have all steps of its workers, and what the opener knew.
use Rattle.std.proofs.Common.{◌≡◌, ℕ, ◌+◌, ◌-◌, ◌<◌, List, None, Option, Some, length, get_or, map, refl, sym, ap, subst, ◌∙◌, arith}
use Rattle.std.specs.Prelude.{IfSome, slice_get}
use Rattle.std.proofs.lemmas.Option.{slice_get-get_or}
use Rattle.session_script.specs.Script.{ScriptModel}
use Rattle.lane_clock.specs.declared.found.Found.{Found}
use Rattle.lane_clock.specs.declared.step.ClockStep.{ClockStep}
use Rattle.lane_clock.specs.Knowledge.{StartOf}
use Rattle.lane_clock.specs.Seats.{ClockId, Remembers, SeatView, copy_seat, own}
use Rattle.lane_logs.specs.declared.log.LogEntry.{LogEntry}
use Rattle.lane_logs.specs.AtRest.{RestsFrom}
use Rattle.lane_logs.specs.Logs.{LogsView}
use Rattle.lane_logs.specs.Knowing.{lists_of}
use Rattle.lane_logs.specs.Names.{SessionNames}
use Rattle.lane_logs.specs.SeatNumbers.{lane_count, opener_seat}
use Rattle.lane_turns.specs.AtRest.{HasHeardPens}
use Rattle.lane_turns.specs.Batons.{LaneView}
use Rattle.lane_turns.specs.Finishing.{AreClosed, pens_of}
use Rattle.lane_turns.specs.KeptSteps.{KeepStepsOf}
use Rattle.lane_turns.specs.Openers.{OpenerView}
use Rattle.lane_turns.specs.Pens.{PenView, no_pen}
use Rattle.lane_turns.specs.TakingIn.{IsTakenIn}
use Rattle.lane_turns.specs.Workers.{WorkerView}
use Rattle.lane_turns.proofs.AllWorkersLemmas.{image_at}
use Rattle.lane_turns.proofs.EndingLemmas.{pens_numbers}
use Rattle.lane_turns.proofs.FinishLemmas.{HaveLeft, none_worker, pen_count, worker_pen}
use Rattle.lane_turns.proofs.MeetAllLemmas.{below_size}
use Rattle.lane_turns.proofs.MeetingLemmas.{copied_steps, start_both}

copied_all : (seat : SeatView) → lists_of (copy_seat seat) ≡ lists_of seat
copied_all seat = λ i n. copied_steps seat.known n i

module _ (names : SessionNames) (clock : ClockId) (lanes : List LaneView) (workers : List WorkerView)
    (left : HaveLeft names clock lanes workers) (first : OpenerView) (entries : List (List LogEntry)) (known : SeatView)
    (last : Found) (shut : AreClosed names.script clock (pens_of lanes workers) first entries known last) where
  by : lists_of known ≡ lists_of shut.opener.pen.seat
  by = ap lists_of shut.same ∙ copied_all shut.opener.pen.seat

  -- the opener's knowledge grew
  pub opener_remembers : Remembers first.pen.seat known
  opener_remembers n =
      subst (λ (ls : ℕ → List ClockStep). StartOf (lists_of first.pen.seat n) (ls n)) (sym by) (shut.taken.remembers n)

  -- each worker's steps are at its number
  pub worker_steps : (k : ℕ) →
      IfSome (slice_get workers k) (λ worker. lists_of known (lane_count names.script + k) ≡ own worker.pen.seat)
  worker_steps k = by_case (slice_get workers k) refl
    where
      kept : (worker : WorkerView) → slice_get workers k ≡ Some worker →
          lists_of known (lane_count names.script + k) ≡ own worker.pen.seat
      kept worker at =
          let n : ℕ = lane_count names.script + k in
          let within : k < length workers = below_size workers k worker at in
          let here : n - lane_count names.script ≡ k = omega arith in
          let found : Some (get_or workers k none_worker) ≡ Some worker =
          sym (slice_get-get_or workers k none_worker within) ∙ at in
          let is : get_or workers k none_worker ≡ worker = cc found in
          let count = pen_count names clock lanes workers left in
          let pen : get_or (pens_of lanes workers) n no_pen ≡ (get_or workers k none_worker).pen =
          worker_pen names clock lanes workers left n (omega arith)
          ∙ ap (λ m. (get_or workers m none_worker).pen) here in
          let taken : IsTakenIn names.script shut.opener (get_or workers k none_worker).pen.seat =
          subst (λ (pen : PenView). IsTakenIn names.script shut.opener pen.seat) pen
          (shut.taken.taken n no_pen (omega (arith, within, left.work_size, count))) in
          ap (λ (ls : ℕ → List ClockStep). ls n) by
          ∙ (ap (lists_of shut.opener.pen.seat) (sym (left.work_numbers k none_worker within))
          ∙ (taken.all ∙ ap (λ (w : WorkerView). own w.pen.seat) is))

      by_case : (o : Option WorkerView) → slice_get workers k ≡ o →
          IfSome o (λ worker. lists_of known (lane_count names.script + k) ≡ own worker.pen.seat)
      by_case None at = tt
      by_case (Some worker) at = kept worker at

  -- whom the opener had heard did nothing since
  pub nothing_since : HasHeardPens first (pens_of lanes workers) → (n : ℕ) → n < opener_seat names.script →
      lists_of known n ≡ lists_of first.pen.seat n
  nothing_since heard n less =
      let count = pen_count names clock lanes workers left in
      let within : n < length (pens_of lanes workers) = omega (arith, less, count) in
      let number : (get_or (pens_of lanes workers) n no_pen).seat.number ≡ n =
      pens_numbers names clock lanes workers left n no_pen within in
      let taken : IsTakenIn names.script shut.opener (get_or (pens_of lanes workers) n no_pen).seat =
      shut.taken.taken n no_pen within in
      let mine : own (get_or (pens_of lanes workers) n no_pen).seat ≡ lists_of shut.opener.pen.seat n =
      sym taken.all ∙ ap (lists_of shut.opener.pen.seat) number in
      let knew : StartOf (lists_of shut.opener.pen.seat n) (lists_of first.pen.seat n) =
      subst (λ steps. StartOf steps (lists_of first.pen.seat n)) mine
      (subst (λ k. StartOf (own (get_or (pens_of lanes workers) n no_pen).seat) (lists_of first.pen.seat k)) number
      (heard n no_pen within)) in
      ap (λ (ls : ℕ → List ClockStep). ls n) by
      ∙ start_both (lists_of shut.opener.pen.seat n) (lists_of first.pen.seat n) knew (shut.taken.remembers n)

  -- and the opener rested
  pub rested_since : RestsFrom names.script (lists_of known) (length (lists_of first.pen.seat (opener_seat names.script)))
  rested_since =
      subst (λ (ls : ℕ → List ClockStep).
      RestsFrom names.script ls (length (lists_of first.pen.seat (opener_seat names.script)))) (sym by) shut.taken.resting

-- the same of what the elements of a list show
pub steps_of : {T S : Type 0} (f : T → S) (seat : S → SeatView) (script : ScriptModel) (logs : LogsView)
    (all : List T) → KeepStepsOf seat script logs (map f all) → KeepStepsOf (λ one. seat (f one)) script logs all
steps_of {T} f seat script logs all kept k = by_case (slice_get all k) refl
  where
    by_case : (o : Option T) → slice_get all k ≡ o →
        IfSome o (λ one. logs.lists (lane_count script + k) ≡ own (seat (f one)))
    by_case None at = tt
    by_case (Some one) at =
        subst (λ o. IfSome o (λ it. logs.lists (lane_count script + k) ≡ own (seat it))) (image_at f all k one at) (kept k)
