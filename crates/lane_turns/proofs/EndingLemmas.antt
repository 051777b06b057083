-- The lanes and the workers of a session that is over, in the order of their numbers.
use Rattle.std.proofs.Common.{◌≡◌, ⊎_elim, ℕ, zero, suc, ◌+◌, ◌-◌, ◌<◌, ◌≤◌, List, [], ◌∷◌, ◌++◌, length, get_or, refl, sym, ap, subst, ◌∙◌, arith, length-append}
use Rattle.std.specs.Prelude.{All, IfSome, map, slice_get, slice_index_or}
use Rattle.std.proofs.Math.ListN.{get_or-append}
use Rattle.std.proofs.Math.Seq.{get_or-append_seam}
use Rattle.std.proofs.lemmas.Bool.{cases_lt}
use Rattle.std.proofs.lemmas.List.{get_or-map, length-map}
use Rattle.std.proofs.lemmas.List.Elements.{All-append, All-map, All-push}
use Rattle.std.proofs.lemmas.Option.{slice_get-get_or}
use Rattle.op_handlers.specs.Marks.{Marks}
use Rattle.lane_clock.specs.declared.found.Found.{Found}
use Rattle.lane_clock.specs.Seats.{ClockId, Owns, SeatView}
use Rattle.lane_map.specs.LaneNumbers.{reactor_lane}
use Rattle.lane_map.proofs.NumberLemmas as lane_numbers
use Rattle.lane_logs.specs.declared.log.LogEntry.{LogEntry}
use Rattle.lane_logs.specs.Names.{SessionNames}
use Rattle.lane_logs.specs.SeatNumbers.{lane_count, worker_count}
use Rattle.lane_turns.specs.Batons.{BatonView, IsHandlerBaton, IsLane, LaneView}
use Rattle.lane_turns.specs.Finishing.{AreClosed, lanes_in, pens_of}
use Rattle.lane_turns.specs.Openers.{OpenerView}
use Rattle.lane_turns.specs.Pens.{PenView, no_pen}
use Rattle.lane_turns.specs.Workers.{IsWorker, WorkerView}
use Rattle.lane_turns.proofs.FinishLemmas.{HaveLeft, entry_is, lane_pen, none_lane, none_worker, pen_count, worker_pen}

pub made_in_lanes : {H V : Type 0} (f : LaneView → V) (batons : List (BatonView H)) (reactor : LaneView) →
    map f (lanes_in batons reactor) ≡ map (λ baton. f baton.lane) batons ++ f reactor ∷ []
made_in_lanes f [] reactor = refl
made_in_lanes f (baton ∷ batons) reactor = ap (λ xs. f baton.lane ∷ xs) (made_in_lanes f batons reactor)

-- what holds of an element holds of it however it is found
pub each_here : {T : Type 0} (P : T → Type 0) (xs : List T) (k : ℕ) (d : T) → k < length xs →
    IfSome (slice_get xs k) P → P (get_or xs k d)
each_here P xs k d less holds = subst (λ o. IfSome o P) (slice_get-get_or xs k d less) holds

each_made : {T V : Type 0} (f : T → V) (P : V → Type 0) (xs : List T) (k : ℕ) (d : V) → k < length xs →
    IfSome (slice_get xs k) (λ x. P (f x)) → P (get_or (map f xs) k d)
each_made f P [] k d less holds = absurd (omega arith)
each_made f P (x ∷ xs) zero d less holds = holds
each_made f P (x ∷ xs) (suc k) d less holds = each_made f P xs k d (omega arith) holds

any_else : {T : Type 0} (xs : List T) (k : ℕ) (d e : T) → k < length xs → get_or xs k d ≡ get_or xs k e
any_else [] k d e less = absurd (omega arith)
any_else (x ∷ xs) zero d e less = refl
any_else (x ∷ xs) (suc k) d e less = any_else xs k d e (omega arith)

module _ {H : Type 0} (names : SessionNames) (marks : H → Marks) (clock : ClockId) (batons : List (BatonView H))
    (reactor : LaneView) (workers : List WorkerView)
    (are : All (λ baton. IsHandlerBaton names marks clock baton) batons) (is : IsLane names clock reactor)
    (last : reactor.lane ≡ reactor_lane names.script) (size : length batons ≡ reactor_lane names.script)
    (numbers : (k : ℕ) → IfSome (slice_get batons k) (λ baton. baton.lane.lane ≡ k))
    (work : All (λ worker. IsWorker names.script clock worker) workers)
    (work_size : length workers ≡ worker_count names.script)
    (work_numbers : (k : ℕ) →
    IfSome (slice_get workers k) (λ worker. worker.pen.seat.number ≡ lane_count names.script + k)) where
  abbrev front : List LaneView
  front = map (λ (baton : BatonView H). baton.lane) batons

  front_size : length front ≡ reactor_lane names.script
  front_size = length-map batons (λ (baton : BatonView H). baton.lane) ∙ size

  lane_number : (k : ℕ) (d : LaneView) → k < length (lanes_in batons reactor) →
      (get_or (lanes_in batons reactor) k d).lane ≡ k
  lane_number k d less =
      ⊎_elim
      (λ (within : k < length front).
      ap (λ (lane : LaneView). lane.lane) (get_or-append front (reactor ∷ []) d k within)
      ∙ each_made (λ (baton : BatonView H). baton.lane) (λ (lane : LaneView). lane.lane ≡ k) batons k d
      (omega (arith, within, length-map batons (λ (baton : BatonView H). baton.lane))) (numbers k))
      (λ (past : length front ≤ k).
      let e : k ≡ length front = omega (arith, past, less, length-append front (reactor ∷ [])) in
      ap (λ (n : ℕ). (get_or (front ++ reactor ∷ []) n d).lane) e
      ∙ ap (λ (lane : LaneView). lane.lane) (get_or-append_seam front reactor [] d) ∙ last ∙ sym front_size ∙ sym e)
      (cases_lt k (length front))

  pub have_left : HaveLeft names clock (lanes_in batons reactor) workers
  have_left =
      record {
        are =
            All-push (IsLane names clock) front reactor
            (All-map (IsLane names clock) (λ (baton : BatonView H). baton.lane) batons
            (λ k d less. (are k d less).is_lane))
            is;
        size =
            omega (
              arith,
              front_size,
              length-append front (reactor ∷ []),
              lane_numbers.lane_count names.script,
            );
        numbers = lane_number;
        work = work;
        work_size = work_size;
        work_numbers =
            λ k d less.
            each_here (λ (worker : WorkerView). worker.pen.seat.number ≡ lane_count names.script + k) workers k d less
            (work_numbers k);
      }

  pub baton_number : (k : ℕ) (d : BatonView H) → k < length batons → (get_or batons k d).lane.lane ≡ k
  baton_number k d less = each_here (λ (baton : BatonView H). baton.lane.lane ≡ k) batons k d less (numbers k)

  module _ (first : OpenerView) (entries : List (List LogEntry)) (known : SeatView) (found : Found)
      (shut : AreClosed names.script clock (pens_of (lanes_in batons reactor) workers) first entries known found) where
    pub baton_entry : (k : ℕ) (d : BatonView H) → k < length batons →
        get_or entries k [] ≡ (get_or batons k d).lane.pen.log
    baton_entry k d less =
        let counted = lane_numbers.lane_count names.script in
        entry_is names clock (lanes_in batons reactor) workers have_left first entries known found shut k
        (omega (arith, less, size, counted))
        ∙ ap (λ (pen : PenView). pen.log)
        (lane_pen names clock (lanes_in batons reactor) workers have_left k (omega (arith, less, size, counted)))
        ∙ ap (λ (lane : LaneView). lane.pen.log)
        (get_or-append front (reactor ∷ []) none_lane k
        (omega (arith, less, length-map batons (λ (baton : BatonView H). baton.lane)))
        ∙ get_or-map (λ (baton : BatonView H). baton.lane) batons k d none_lane less)

    pub reactor_entry : get_or entries (reactor_lane names.script) [] ≡ reactor.pen.log
    reactor_entry =
        let counted = lane_numbers.lane_count names.script in
        entry_is names clock (lanes_in batons reactor) workers have_left first entries known found shut
        (reactor_lane names.script) (omega (arith, counted))
        ∙ ap (λ (pen : PenView). pen.log)
        (lane_pen names clock (lanes_in batons reactor) workers have_left (reactor_lane names.script)
        (omega (arith, counted)))
        ∙ ap (λ (lane : LaneView). lane.pen.log)
        (ap (λ n. get_or (front ++ reactor ∷ []) n none_lane) (sym front_size)
        ∙ get_or-append_seam front reactor [] none_lane)

-- what the opener takes in are seats of this clock that own their numbers, one after another
module _ (names : SessionNames) (clock : ClockId) (lanes : List LaneView) (workers : List WorkerView)
    (left : HaveLeft names clock lanes workers) where
  pub pens_clocks : All (λ pen. pen.seat.clock ≡ clock) (pens_of lanes workers)
  pens_clocks =
      let holds : PenView → Type 0 = λ pen. pen.seat.clock ≡ clock in
      All-append holds (map (λ (lane : LaneView). lane.pen) lanes) (map (λ (worker : WorkerView). worker.pen) workers)
      (All-map holds (λ (lane : LaneView). lane.pen) lanes (λ k d less. (left.are k d less).clock_is))
      (All-map holds (λ (worker : WorkerView). worker.pen) workers (λ k d less. (left.work k d less).clock_is))

  pub pens_own : All (λ pen. Owns pen.seat pen.seat.number) (pens_of lanes workers)
  pens_own =
      let holds : PenView → Type 0 = λ pen. Owns pen.seat pen.seat.number in
      All-append holds (map (λ (lane : LaneView). lane.pen) lanes) (map (λ (worker : WorkerView). worker.pen) workers)
      (All-map holds (λ (lane : LaneView). lane.pen) lanes
      (λ k d less.
      subst (Owns (get_or lanes k d).pen.seat) (sym (left.are k d less).number) (left.are k d less).owns))
      (All-map holds (λ (worker : WorkerView). worker.pen) workers (λ k d less. (left.work k d less).owns))

  pub pens_numbers : (k : ℕ) (d : PenView) → k < length (pens_of lanes workers) →
      (slice_index_or (pens_of lanes workers) k d).seat.number ≡ k
  pens_numbers k d less =
      let count = pen_count names clock lanes workers left in
      let same : get_or (pens_of lanes workers) k d ≡ get_or (pens_of lanes workers) k no_pen =
      any_else (pens_of lanes workers) k d no_pen less in
      ap (λ (pen : PenView). pen.seat.number) same
      ∙ ⊎_elim
      (λ (within : k < lane_count names.script).
      let there : k < length lanes = omega (arith, within, left.size) in
      ap (λ (pen : PenView). pen.seat.number) (lane_pen names clock lanes workers left k within)
      ∙ (left.are k none_lane there).number ∙ left.numbers k none_lane there)
      (λ (past : lane_count names.script ≤ k).
      let e : lane_count names.script + (k - lane_count names.script) ≡ k = omega (arith, past) in
      ap (λ (pen : PenView). pen.seat.number) (worker_pen names clock lanes workers left k past)
      ∙ left.work_numbers (k - lane_count names.script) none_worker
      (omega (arith, past, less, count, left.work_size)) ∙ e)
      (cases_lt k (lane_count names.script))
