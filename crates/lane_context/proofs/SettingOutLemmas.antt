-- Lists that are made of others, element by element; the lanes and the workers of a session that
-- sets out.
use Rattle.std.proofs.Common.{◌≡◌, ℕ, ◌+◌, ◌<◌, List, [], ◌∷◌, ◌++◌, None, Option, Some, length, map, refl, sym, ap, subst, ◌∙◌, append_assoc, append-nil, length-append, arith}
use Rattle.std.specs.Prelude.{IfSome, slice_get}
use Rattle.std.proofs.lemmas.List.{length-map}
use Rattle.session_script.specs.Script.{ScriptModel}
use Rattle.turn_table.specs.Numbers.{run_from}
use Rattle.turn_table.specs.Seated.{HasTurn, Lanes, Seated, first_seat, seat_of_all}
use Rattle.turn_table.specs.Seated as seated
use Rattle.turn_table.proofs.NumberLemmas.{has_below}
use Rattle.strand_core.specs.Hands.{Held}
use Rattle.lane_clock.specs.Seats.{ClockId, SeatView}
use Rattle.lane_map.specs.LaneNumbers.{reactor_lane}
use Rattle.lane_map.proofs.NumberLemmas.{lane_count as lanes_listed}
use Rattle.lane_logs.specs.SeatNumbers.{lane_count, worker_count}
use Rattle.lane_turns.specs.AllWorkers.{AreReady, HasAllTurns, clock_seat, last_of}
use Rattle.lane_turns.specs.Attempts.{WorkerState}
use Rattle.lane_turns.specs.Batons.{BatonView}
use Rattle.lane_context.specs.Beginning.{HasBegun}
use Rattle.lane_turns.specs.Benches.{AreLanes, AreWorkers, IsRow}
use Rattle.lane_turns.specs.Gathering.{HaveSatDown, turns_below}
use Rattle.lane_turns.specs.LaneOf.{seat_of}
use Rattle.lane_turns.specs.LaneValues.{LaneValue, handlers, reactor}
use Rattle.lane_turns.specs.Openers.{OpenerView}
use Rattle.lane_turns.specs.Rooms.{EachAt, lane_room, worker_room}
use Rattle.lane_context.specs.SessionRooms.{AreFresh, standing_by}
use Rattle.lane_turns.specs.Turning.{ReactorView}
use Rattle.lane_turns.specs.Workers.{WorkerView}
use Rattle.lane_turns.proofs.AllWorkersLemmas.{lasts_sat, rows_sat, same_source, seated_sat, source_of}
use Rattle.lane_context.proofs.FirstLemmas.{new_number}
use Rattle.lane_turns.proofs.NewPenLemmas.{each_more}

module _ {S T : Type 0} (f : S → T) (all : List S) where
  -- the first of a list were made into these, and the rest is left
  abbrev pub AreMade : List T → List S → Type 0
  AreMade made rest = made ++ map f rest ≡ map f all

  pub made_none : (made : List T) (rest : List S) → made ≡ [] → rest ≡ all → AreMade made rest
  made_none made rest none same = ap (λ ts. ts ++ map f rest) none ∙ ap (map f) same

  module _ (made : List T) (rest left : List S) (x : S) (next : rest ≡ x ∷ left) (are : AreMade made rest) where
    pub made_more : (after : List T) (y : T) → y ≡ f x → after ≡ made ++ y ∷ [] → AreMade after left
    made_more after y is pushed =
        ap (λ ts. ts ++ map f left) (pushed ∙ ap (λ z. made ++ z ∷ []) is)
        ∙ append_assoc made (f x ∷ []) (map f left)
        ∙ ap (λ ss. made ++ map f ss) (sym next)
        ∙ are

    -- room for all is room for the next
    pub made_within : length made < length all
    made_within =
        omega (
          arith,
          ap length are,
          length-append made (map f rest),
          length-map rest f,
          length-map all f,
          ap length next,
        )

  pub made_all : (made : List T) (rest : List S) → rest ≡ [] → AreMade made rest → made ≡ map f all
  made_all made rest none are =
      sym (append-nil made) ∙ ap (λ ss. made ++ map f ss) (sym none) ∙ are

module _ {T : Type 0} (seat : T → SeatView) (first : ℕ) where
  -- a row of images
  pub row_mapped : {S : Type 0} (f : S → T) (count : ℕ) (xs : List S) → IsRow (λ x. seat (f x)) first count xs →
      IsRow seat first count (map f xs)
  row_mapped f count xs row =
      record {
        size = length-map xs f ∙ row.size;
        numbers =
            λ k y at.
            let from = source_of f xs k y at in
            ap (λ z. (seat z).number) (sym from.is) ∙ row.numbers k from.source from.at;
      }

  -- and one more behind them
  pub row_more : (count : ℕ) (xs : List T) (x : T) → IsRow seat first count xs → (seat x).number ≡ first + count →
      IsRow seat first (count + 1) (xs ++ x ∷ [])
  row_more count xs x row number =
      record {
        size = omega (arith, row.size, length-append xs (x ∷ []));
        numbers =
            each_more (λ k one. (seat one).number ≡ first + k) xs x row.numbers
            (number ∙ ap (λ n. first + n) (sym row.size));
      }

module _ {H X : Type 0} (script : ScriptModel) where
  -- all lanes, in their boxes
  pub lanes_laid : (batons : List (BatonView H)) (last : ReactorView X) (boxed : List (LaneValue H X)) →
      boxed ≡ map (λ baton. handlers (Some baton)) batons ++ reactor (Some last) ∷ [] →
      IsRow (λ (baton : BatonView H). baton.lane.pen.seat) 0 (reactor_lane script) batons →
      last.lane.pen.seat.number ≡ reactor_lane script → AreLanes seat_of script boxed
  lanes_laid batons last boxed is row number =
      subst (λ vs. AreLanes seat_of script vs) (sym is)
      (subst (λ n. IsRow seat_of 0 n (map (λ baton. handlers (Some baton)) batons ++ reactor (Some last) ∷ []))
      (sym (lanes_listed script))
      (row_more seat_of 0 (reactor_lane script) (map (λ baton. handlers (Some baton)) batons) (reactor (Some last))
      (row_mapped seat_of 0 (λ baton. handlers (Some baton)) (reactor_lane script) batons row)
      (omega (arith, number))))

  -- all workers, before they have seats
  pub rows_standing : (seats : List WorkerView) → AreWorkers (λ (w : WorkerView). w.pen.seat) script seats →
      AreWorkers {T = WorkerState H X} clock_seat script (map standing_by seats)
  rows_standing seats row =
      row_mapped clock_seat (lane_count script) standing_by (worker_count script) seats row

-- none of them keeps a lane, or drew anything
pub fresh_standing : {H X : Type 0} (seats : List WorkerView) → EachAt (λ k seat. seat.pen.log ≡ []) seats →
    AreFresh {H = H} {X = X} (map standing_by seats)
fresh_standing {H} {X} seats none k one at =
    let from = source_of standing_by seats k one at in
    record {
      kept = ap (λ (w : WorkerState H X). w.kept) (sym from.is);
      last = ap (λ (w : WorkerState H X). w.last) (sym from.is);
      log = ap (λ (w : WorkerState H X). w.seat.pen.log) (sym from.is) ∙ none k from.source from.at;
    }

-- the seat that has all turns
pub all_turns : (script : ScriptModel) (lanes : Lanes) (count : ℕ) (seat : Seated) → seat ≡ seat_of_all lanes →
    lanes.lanes ≡ lane_count script → lanes.seats ≡ count → HasAllTurns script lanes count seat
all_turns script lanes count seat is same seats =
    record {
      first = first_seat lanes lanes.seats;
      stands =
          record { fits = (refl, refl); free = refl; numbers = ap (run_from 0) seats };
      is = is ∙ ap (λ n. record (first_seat lanes lanes.seats) { turns = turns_below n }) same;
    }

module _ {H X : Type 0} (script : ScriptModel) (lanes : Lanes) (olds news : List (WorkerState H X))
    (rows : AreWorkers clock_seat script olds) (fresh : AreFresh olds) (size : length news ≡ length olds)
    (sat : HaveSatDown lanes 0 olds news) where
  pub ready_first : lanes.seats ≡ worker_count script → AreReady script lanes news
  ready_first count =
      record {
        rows = rows_sat lanes olds news size sat script rows;
        seats = seated_sat lanes olds news size sat (rows.size ∙ sym count);
      }

  pub fresh_sat : AreFresh news
  fresh_sat k one at =
      let from = same_source last_of olds news k one (lasts_sat lanes olds news size sat) at in
      let sits = sat.each k from.source one (omega arith) from.at at in
      let was = fresh k from.source from.at in
      record {
        kept = ap (λ (w : WorkerState H X). w.kept) sits.is ∙ was.kept;
        last = ap (λ (w : WorkerState H X). w.last) sits.is ∙ was.last;
        log = ap (λ (w : WorkerState H X). w.seat.pen.log) sits.is ∙ was.log;
      }

-- nobody keeps a lane
pub fresh_free : {H X : Type 0} (all : List (WorkerState H X)) → AreFresh all →
    (k : ℕ) → IfSome (slice_get all k) (λ one. one.kept ≡ None)
fresh_free {H} {X} all fresh k = by_case (slice_get all k) refl
  where
    by_case : (o : Option (WorkerState H X)) → slice_get all k ≡ o → IfSome o (λ one. one.kept ≡ None)
    by_case None at = tt
    by_case (Some one) at = (fresh k one at).kept

-- each turn is one of all
pub has_all : (lanes : Lanes) (seat : Seated) → seat ≡ seat_of_all lanes → seated.HasAllTurns lanes seat
has_all lanes seat is lane less =
    subst (λ (s : Seated). HasTurn s lane) (sym is) (has_below lane lanes.lanes less)

-- seats that begin are rows
module _ {H X : Type 0} (script : ScriptModel) (clock : ClockId) (listed : List (Held H)) (opener : OpenerView)
    (batons : List (BatonView H)) (last : ReactorView X) (workers : List WorkerView)
    (begun : HasBegun script clock listed opener batons last workers) where
  pub lanes_begin : IsRow (λ (baton : BatonView H). baton.lane.pen.seat) 0 (reactor_lane script) batons
  lanes_begin =
      record {
        size = begun.count;
        numbers =
            λ k one at.
            let number = new_number clock k (lane_room script k) one.lane.pen (begun.lanes k one at).pen in
            omega (arith, number);
      }

  pub workers_begin : AreWorkers (λ (w : WorkerView). w.pen.seat) script workers
  workers_begin =
      record {
        size = begun.work;
        numbers =
            λ k one at.
            new_number clock (lane_count script + k) (worker_room script) one.pen (begun.workers_are k one at).pen;
      }

  pub none_begins : EachAt (λ k seat. seat.pen.log ≡ []) workers
  none_begins k one at = (begun.workers_are k one at).pen.log
