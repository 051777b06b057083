-- The logs that a session leaves are logs: what lanes, workers and the opener kept of their own steps
-- holds of the steps that the closed clock has.
use Rattle.std.proofs.Common.{◌≡◌, ◌⊎◌, inl, inr, ⊎_elim, ℕ, ◌+◌, ◌-◌, ◌<◌, ◌≤◌, false, true, List, [], ◌∷◌, ◌++◌, None, Option, Some, length, get_or, refl, sym, ap, subst, ◌∙◌, arith, length-append}
use Rattle.std.specs.Prelude.{All, IfSome, map, slice_get}
use Rattle.std.proofs.Math.ListN.{get_or-append, get_or-map}
use Rattle.std.proofs.Math.Seq.{get_or-append_right, get_or-append_seam}
use Rattle.std.proofs.lemmas.List.{length-map}
use Rattle.std.proofs.lemmas.Option.{slice_get-get_or}
use Rattle.asio_types.specs.declared.event.Event.{Event}
use Rattle.session_script.specs.Script.{ScriptModel}
use Rattle.history_rules.specs.FromOutside.{has_fault}
use Rattle.lane_clock.specs.declared.found.Found.{Found}
use Rattle.lane_clock.specs.declared.step.ClockStep.{ClockStep}
use Rattle.lane_clock.specs.Closing.{Closed}
use Rattle.lane_clock.specs.Knowledge.{StartOf}
use Rattle.lane_clock.specs.Seats.{ClockId, SeatView, copy_seat, own}
use Rattle.lane_map.specs.LaneNumbers.{reactor_lane}
use Rattle.lane_map.proofs.NumberLemmas as lane_numbers
use Rattle.lane_logs.specs.declared.log.LogEntry.{LogEntry}
use Rattle.lane_logs.specs.Cuts.{EventsAreCuts}
use Rattle.lane_logs.specs.Drops.{drops_of}
use Rattle.lane_logs.specs.Knowing.{joined_count, lists_of}
use Rattle.lane_logs.specs.Labels.{events_in}
use Rattle.lane_logs.specs.LaneLog.{IsLaneLog}
use Rattle.lane_logs.specs.Logs.{AreLogs, LogsView, all_events, session_layout}
use Rattle.lane_logs.specs.Names.{SessionNames}
use Rattle.lane_logs.specs.OpenerLog.{IsOpenerLog}
use Rattle.lane_logs.specs.SeatNumbers.{IsWorkerSeat, lane_count, opener_seat, worker_count}
use Rattle.lane_logs.specs.Stand.{Stand, stand_of}
use Rattle.lane_logs.specs.WorkerLog.{IsWorkerLog}
use Rattle.lane_turns.specs.Batons.{IsLane, LaneView, opener_known}
use Rattle.lane_turns.specs.Finishing.{AreClosed, IsOver, pens_of}
use Rattle.lane_turns.specs.KnownFaults.{KnowsFault}
use Rattle.lane_turns.specs.Openers.{OpenerView}
use Rattle.lane_turns.specs.Pens.{PenView, no_pen}
use Rattle.lane_turns.specs.TakingIn.{IsTakenIn}
use Rattle.lane_turns.specs.Workers.{IsWorker, WorkerView}
use Rattle.lane_turns.proofs.FaultLemmas.{fault_shown}
use Rattle.lane_turns.proofs.GrowingLemmas.{log_grows}
use Rattle.lane_turns.proofs.MeetAllLemmas.{below_size}
use Rattle.lane_turns.proofs.MeetingLemmas.{copied_steps}
use Rattle.lane_turns.proofs.WorkerLemmas.{still_worker}

-- a lane and a worker that nobody has
abbrev pub none_lane : LaneView
none_lane = record { lane = 0; pen = no_pen; place = 0; base = 0; running = false; missed = None }

abbrev pub none_worker : WorkerView
none_worker =
    record {
      pen = no_pen;
      round = record { closings = 0; restarted = false; base = 0; running = false };
      drew = false;
      stopped = false;
      in_step = true;
    }

-- what the lanes and the workers of a session leave, in the order of their numbers
pub record HaveLeft (names : SessionNames) (clock : ClockId) (lanes : List LaneView)
    (workers : List WorkerView) : Type 0 where
  pub are : All (IsLane names clock) lanes
  pub size : length lanes ≡ lane_count names.script
  pub numbers : (k : ℕ) (d : LaneView) → k < length lanes → (get_or lanes k d).lane ≡ k
  pub work : All (IsWorker names.script clock) workers
  pub work_size : length workers ≡ worker_count names.script
  pub work_numbers : (k : ℕ) (d : WorkerView) → k < length workers →
      (get_or workers k d).pen.seat.number ≡ lane_count names.script + k

module _ (names : SessionNames) (clock : ClockId) (lanes : List LaneView) (workers : List WorkerView)
    (left : HaveLeft names clock lanes workers) where
  abbrev script : ScriptModel
  script = names.script

  abbrev pens : List PenView
  pens = pens_of lanes workers

  pub pen_count : length pens ≡ opener_seat script
  pen_count =
      omega (
        arith,
        left.size,
        left.work_size,
        length-append (map (λ (lane : LaneView). lane.pen) lanes) (map (λ (worker : WorkerView). worker.pen) workers),
        length-map lanes (λ (lane : LaneView). lane.pen),
        length-map workers (λ (worker : WorkerView). worker.pen),
      )

  pub lane_pen : (n : ℕ) → n < lane_count script → get_or pens n no_pen ≡ (get_or lanes n none_lane).pen
  lane_pen n less =
      get_or-append (map (λ (lane : LaneView). lane.pen) lanes) (map (λ (worker : WorkerView). worker.pen) workers)
      no_pen n (omega (arith, less, left.size, length-map lanes (λ (lane : LaneView). lane.pen)))
      ∙ get_or-map (λ (lane : LaneView). lane.pen) lanes n none_lane

  pub worker_pen : (n : ℕ) → lane_count script ≤ n →
      get_or pens n no_pen ≡ (get_or workers (n - lane_count script) none_worker).pen
  worker_pen n behind =
      let long : length (map (λ (lane : LaneView). lane.pen) lanes) ≡ lane_count script =
      length-map lanes (λ (lane : LaneView). lane.pen) ∙ left.size in
      get_or-append_right (map (λ (lane : LaneView). lane.pen) lanes) (map (λ (worker : WorkerView). worker.pen) workers)
      n no_pen (omega (arith, long, behind))
      ∙ ap (λ k. get_or (map (λ (worker : WorkerView). worker.pen) workers) (n - k) no_pen) long
      ∙ get_or-map (λ (worker : WorkerView). worker.pen) workers (n - lane_count script) none_worker

  -- the clock was closed with what they did
  module _ (first : OpenerView) (entries : List (List LogEntry)) (known : SeatView) (last : Found)
      (shut : AreClosed script clock pens first entries known last) where
    abbrev lists : ℕ → List ClockStep
    lists = lists_of shut.opener.pen.seat

    abbrev o : ℕ
    o = opener_seat script

    pub entry_is : (n : ℕ) → n < o → get_or entries n [] ≡ (get_or pens n no_pen).log
    entry_is n less =
        ap (λ xs. get_or xs n []) shut.entries_are
        ∙ get_or-append (map (λ (pen : PenView). pen.log) pens) (shut.opener.pen.log ∷ []) [] n
        (omega (arith, less, pen_count, length-map pens (λ (pen : PenView). pen.log)))
        ∙ get_or-map (λ (pen : PenView). pen.log) pens n no_pen

    last_entry : get_or entries o [] ≡ shut.opener.pen.log
    last_entry =
        let long : o ≡ length (map (λ (pen : PenView). pen.log) pens) =
        sym (length-map pens (λ (pen : PenView). pen.log) ∙ pen_count) in
        ap (λ xs. get_or xs o []) shut.entries_are
        ∙ ap (λ n. get_or (map (λ (pen : PenView). pen.log) pens ++ shut.opener.pen.log ∷ []) n []) long
        ∙ get_or-append_seam (map (λ (pen : PenView). pen.log) pens) (shut.opener.pen.log) [] []

    -- a lane's log
    lane_log : (n : ℕ) → n < lane_count script →
        IsLaneLog names (lists o) n (lists n) (get_or entries n [])
        (get_or (map (λ (lane : LaneView). lane.missed) lanes) n None)
    lane_log n less =
        let lane : LaneView = get_or lanes n none_lane in
        let within : n < length lanes = omega (arith, less, left.size) in
        let is : IsLane names clock (get_or lanes n none_lane) = left.are n none_lane within in
        let number : (get_or lanes n none_lane).lane ≡ n = left.numbers n none_lane within in
        let seated : (get_or lanes n none_lane).pen.seat.number ≡ n = is.number ∙ number in
        let taken : IsTakenIn script shut.opener (get_or lanes n none_lane).pen.seat =
        subst (λ (pen : PenView). IsTakenIn script shut.opener pen.seat) (lane_pen n less)
        (shut.taken.taken n no_pen (omega (arith, less, pen_count))) in
        let steps : own (get_or lanes n none_lane).pen.seat ≡ lists n =
        sym taken.all ∙ ap lists seated in
        let log : (get_or lanes n none_lane).pen.log ≡ get_or entries n [] =
        sym (entry_is n (omega (arith, less)) ∙ ap (λ (pen : PenView). pen.log) (lane_pen n less)) in
        let missed : (get_or lanes n none_lane).missed ≡ get_or (map (λ (lane : LaneView). lane.missed) lanes) n None =
        sym (get_or-map (λ (lane : LaneView). lane.missed) lanes n none_lane) in
        subst (λ m. IsLaneLog names (lists o) n (lists n) (get_or entries n []) m) missed
        (subst (λ xs. IsLaneLog names (lists o) n (lists n) xs (get_or lanes n none_lane).missed) log
        (subst (λ xs.
        IsLaneLog names (lists o) n xs (get_or lanes n none_lane).pen.log (get_or lanes n none_lane).missed) steps
        (subst (λ k.
        IsLaneLog names (lists o) k (own (get_or lanes n none_lane).pen.seat) (get_or lanes n none_lane).pen.log
        (get_or lanes n none_lane).missed) number
        (log_grows names (opener_known script (get_or lanes n none_lane).pen.seat) (lists o)
        (get_or lanes n none_lane).lane taken.behind (own (get_or lanes n none_lane).pen.seat)
        (get_or lanes n none_lane).pen.log (get_or lanes n none_lane).missed (omega (arith, is.known)) is.log))))

    -- a worker's log
    worker_log : (n : ℕ) → IsWorkerSeat script n → IsWorkerLog script (lists o) (lists n) (get_or entries n [])
    worker_log n seat =
        let k : ℕ = n - lane_count script in
        let within : n - lane_count script < length workers = omega (arith, seat.behind, seat.before, left.work_size) in
        let is : IsWorker script clock (get_or workers (n - lane_count script) none_worker) =
        left.work (n - lane_count script) none_worker within in
        let seated : (get_or workers (n - lane_count script) none_worker).pen.seat.number ≡ n =
        let e : lane_count script + (n - lane_count script) ≡ n = omega (arith, seat.behind) in
        left.work_numbers (n - lane_count script) none_worker within ∙ e in
        let taken : IsTakenIn script shut.opener (get_or workers (n - lane_count script) none_worker).pen.seat =
        subst (λ (pen : PenView). IsTakenIn script shut.opener pen.seat) (worker_pen n seat.behind)
        (shut.taken.taken n no_pen (omega (arith, seat.before, pen_count))) in
        let steps : lists n ≡ own (get_or workers (n - lane_count script) none_worker).pen.seat =
        sym (sym taken.all ∙ ap lists seated) in
        let log : get_or entries n [] ≡ (get_or workers (n - lane_count script) none_worker).pen.log =
        entry_is n seat.before ∙ ap (λ (pen : PenView). pen.log) (worker_pen n seat.behind) in
        record {
          parts = is.log.parts;
          are =
              still_worker script (opener_known script (get_or workers (n - lane_count script) none_worker).pen.seat)
              (lists o) taken.behind is.log.parts
              (subst (λ xs.
              joined_count (opener_seat script) xs
              ≤ length (opener_known script (get_or workers (n - lane_count script) none_worker).pen.seat)) is.log.steps
              (omega (arith, is.known)))
              is.log.are;
          steps = steps ∙ is.log.steps;
          shown = log ∙ is.log.shown;
        }

    -- each worker's is at its number
    pub worker_logs : (k : ℕ) →
        IfSome (slice_get workers k) (λ worker. get_or entries (lane_count script + k) [] ≡ worker.pen.log)
    worker_logs k = by_case (slice_get workers k) refl
      where
        kept : (worker : WorkerView) → slice_get workers k ≡ Some worker →
            get_or entries (lane_count script + k) [] ≡ worker.pen.log
        kept worker at =
            let n : ℕ = lane_count script + k in
            let within : k < length workers = below_size workers k worker at in
            let here : n - lane_count script ≡ k = omega arith in
            let found : Some (get_or workers k none_worker) ≡ Some worker =
            sym (slice_get-get_or workers k none_worker within) ∙ at in
            let is : get_or workers k none_worker ≡ worker = cc found in
            entry_is n (omega (arith, within, left.work_size))
            ∙ ap (λ (pen : PenView). pen.log) (worker_pen n (omega arith))
            ∙ ap (λ m. (get_or workers m none_worker).pen.log) here
            ∙ ap (λ (w : WorkerView). w.pen.log) is

        by_case : (o : Option WorkerView) → slice_get workers k ≡ o →
            IfSome o (λ worker. get_or entries (lane_count script + k) [] ≡ worker.pen.log)
        by_case None at = tt
        by_case (Some worker) at = kept worker at

    own_last : own shut.opener.pen.seat ≡ lists o
    own_last = ap lists shut.is.number

    -- a failure of the reactor that the opener knew is in the log of its lane
    fault_logged : KnowsFault script first.pen.seat →
        has_fault (events_in (get_or entries (reactor_lane script) [])) ≡ true
    fault_logged stops =
        let n : ℕ = reactor_lane script in
        let counted = lane_numbers.lane_count script in
        let less : n < lane_count script = omega (arith, counted) in
        let within : n < length lanes = omega (arith, less, left.size) in
        let is : IsLane names clock (get_or lanes n none_lane) = left.are n none_lane within in
        let number : (get_or lanes n none_lane).lane ≡ n = left.numbers n none_lane within in
        let taken : IsTakenIn script shut.opener (get_or lanes n none_lane).pen.seat =
        subst (λ (pen : PenView). IsTakenIn script shut.opener pen.seat) (lane_pen n less)
        (shut.taken.taken n no_pen (omega (arith, less, pen_count))) in
        let steps : lists n ≡ own (get_or lanes n none_lane).pen.seat =
        sym (sym taken.all ∙ ap lists (is.number ∙ number)) in
        ap (λ log. has_fault (events_in log))
        (entry_is n (omega (arith, less)) ∙ ap (λ (pen : PenView). pen.log) (lane_pen n less))
        ∙ fault_shown names clock (get_or lanes n none_lane) (lists_of first.pen.seat n) is number
        (subst (λ xs. StartOf (lists_of first.pen.seat n) xs) steps (shut.taken.remembers n)) stops

    -- the session is over
    is_over : IsOver script first →
        ((stand_of script (lists o)).closings ≡ length script.rounds)
        ⊎ (has_fault (events_in (get_or entries (reactor_lane script) [])) ≡ true)
    is_over over =
        ⊎_elim
        (λ (all : first.stand.closings ≡ length script.rounds).
        inl
        (ap (λ (steps : List ClockStep). (stand_of script steps).closings) (sym own_last)
        ∙ ap (λ (s : Stand). s.closings) (sym shut.is.stand_is) ∙ ap (λ (s : Stand). s.closings) shut.taken.stand ∙ all))
        (λ (stops : KnowsFault script first.pen.seat). inr (fault_logged stops))
        over

    abbrev logs_by : (ℕ → List ClockStep) → List Event → LogsView
    logs_by by drops =
        record {
          lists = by;
          last = last;
          entries = entries;
          missed = map (λ lane. lane.missed) lanes;
          drops = drops;
        }

    pub are_logs : (drops : List Event) → clock.plan ≡ session_layout script →
        EventsAreCuts script (lists_of first.pen.seat) → IsOver script first →
        drops ≡ drops_of names (all_events (logs_by (lists_of known) drops)) →
        AreLogs names (logs_by (lists_of known) drops)
    are_logs drops plan cuts over dropped =
        let by : lists_of known ≡ lists = ap lists_of shut.same ∙ copied_all shut.opener.pen.seat in
        subst (λ (ls : ℕ → List ClockStep). AreLogs names (logs_by ls drops)) (sym by)
        (record {
          closed = subst (λ layout. Closed lists layout last) plan shut.closed;
          count =
              omega (
                arith,
                ap length shut.entries_are
                    ∙ length-append (map (λ (pen : PenView). pen.log) pens) (shut.opener.pen.log ∷ []),
                length-map pens (λ (pen : PenView). pen.log),
                pen_count,
              );
          lanes = lane_log;
          workers = worker_log;
          opener =
              subst (λ log. IsOpenerLog script lists log) (sym last_entry) shut.is.log;
          cuts = shut.taken.cuts cuts;
          over = is_over over;
          drops = dropped;
        })
      where
        copied_all : (seat : SeatView) → lists_of (copy_seat seat) ≡ lists_of seat
        copied_all seat = λ i n. copied_steps seat.known n i
