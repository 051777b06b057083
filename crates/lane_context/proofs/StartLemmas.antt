-- Lanes and workers that are made one by one, each with the pen of its number.
use Rattle.std.proofs.Common.{◌≡◌, ℕ, zero, suc, ◌+◌, ◌<◌, ◌≤◌, List, [], ◌∷◌, ◌++◌, Some, length, get_or, replicate, refl, sym, ap, subst, ◌∙◌, arith}
use Rattle.std.specs.Prelude.{slice_get}
use Rattle.std.proofs.lemmas.List.{get_or-replicate}
use Rattle.std.proofs.lemmas.List.FromFn.{get_or-map-range_with_len, length-map-range_with_len}
use Rattle.session_script.specs.Script.{ScriptModel}
use Rattle.strand_core.specs.Hands.{Held}
use Rattle.lane_clock.specs.Seats.{ClockId, SeatView, SeatsLeft, all_left, new_clock_seat, one_given}
use Rattle.lane_map.specs.LaneNumbers.{reactor_lane}
use Rattle.lane_map.proofs.NumberLemmas.{lane_count as lanes_listed}
use Rattle.lane_logs.specs.SeatNumbers.{IsWorkerSeat, lane_count, opener_seat, worker_count}
use Rattle.lane_turns.specs.Batons.{BatonView, LaneView}
use Rattle.lane_turns.specs.Firsts.{IsFirstBaton, IsFirstWorker, first_lane, first_worker}
use Rattle.lane_turns.specs.Pens.{PenView}
use Rattle.lane_turns.specs.Rooms.{AreNewPens, EachAt, IsNewPen, lane_room, lane_rooms, seats_on, worker_room}
use Rattle.lane_turns.specs.Workers.{WorkerView}
use Rattle.lane_context.proofs.FirstLemmas.{new_number}
use Rattle.lane_turns.proofs.NewPenLemmas.{reached, same_pen}

module _ (script : ScriptModel) (clock : ClockId) (pens front : List PenView) (pen : PenView) (rest : List PenView)
    (split : pens ≡ front ++ pen ∷ rest) where
  -- the pen of a lane
  pub lane_pen_new : (lane : ℕ) → AreNewPens clock 0 (lane_rooms script) pens → length front ≡ lane →
      lane < reactor_lane script → IsNewPen clock lane (lane_room script lane) pen
  lane_pen_new lane are at less =
      same_pen clock clock (0 + length front) lane (get_or (lane_rooms script) (length front) 0) (lane_room script lane)
      pen (are.1 (length front) pen (reached pens front pen rest split)) refl (omega (arith, at))
      (omega (
        arith,
        get_or-map-range_with_len (lane_room script) 0 (reactor_lane script) (length front) lane 0
            (omega (arith, at, less)) (omega (arith, at)),
      ))

  -- the pen of a worker
  pub worker_pen_new : AreNewPens clock (lane_count script) (replicate (worker_count script) (worker_room script)) pens →
      length front < worker_count script →
      IsNewPen clock (lane_count script + length front) (worker_room script) pen
  worker_pen_new are less =
      same_pen clock clock (lane_count script + length front) (lane_count script + length front)
      (get_or (replicate (worker_count script) (worker_room script)) (length front) 0) (worker_room script) pen
      (are.1 (length front) pen (reached pens front pen rest split)) refl refl
      (omega (arith, get_or-replicate (worker_count script) (length front) (worker_room script) 0 less))

pub lane_pens_count : (script : ScriptModel) → length (lane_rooms script) ≡ reactor_lane script
lane_pens_count script = length-map-range_with_len (lane_room script) 0 (reactor_lane script)

-- the seat of a worker's pen
pub worker_seat : (script : ScriptModel) (clock : ClockId) (k : ℕ) (pen : PenView) →
    IsNewPen clock (lane_count script + k) (worker_room script) pen → k < worker_count script →
    IsWorkerSeat script pen.seat.number
worker_seat script clock k pen new less =
    let at : pen.seat.number ≡ lane_count script + k =
    new_number clock (lane_count script + k) (worker_room script) pen new in
    record { behind = omega (arith, at); before = omega (arith, at, less) }

pub worker_pen : (script : ScriptModel) (clock : ClockId) (k : ℕ) (pen : PenView) →
    IsNewPen clock (lane_count script + k) (worker_room script) pen →
    IsNewPen clock pen.seat.number (worker_room script) pen
worker_pen script clock k pen new =
    subst (λ (n : ℕ). IsNewPen clock n (worker_room script) pen)
    (sym (new_number clock (lane_count script + k) (worker_room script) pen new)) new

pub worker_first : (script : ScriptModel) (clock : ClockId) (k : ℕ) (pen : PenView) (worker : WorkerView) →
    worker ≡ first_worker script pen → IsNewPen clock (lane_count script + k) (worker_room script) pen →
    IsFirstWorker script clock k worker
worker_first script clock k pen worker is new =
    subst (IsFirstWorker script clock k) (sym is) (record { pen = new; is = refl })

pub baton_first : {H : Type 0} (script : ScriptModel) (clock : ClockId) (listed : List (Held H)) (lane : ℕ) (pen : PenView)
    (hands : Held H) (baton : BatonView H) → baton.lane ≡ first_lane script lane pen →
    IsNewPen clock lane (lane_room script lane) pen → slice_get listed lane ≡ Some hands → baton.hands ≡ hands →
    IsFirstBaton script clock listed lane baton
baton_first script clock listed lane pen hands baton is new there same =
    record {
      pen = subst (λ (view : LaneView). IsNewPen clock lane (lane_room script lane) view.pen) (sym is) new;
      is = is ∙ ap (first_lane script lane) (sym (ap (λ (view : LaneView). view.pen) is));
      hands = there ∙ ap Some (sym same);
    }

-- the seats that are left when those of the lanes on which handlers execute were given
pub left_lanes : (script : ScriptModel) (first mid : SeatsLeft) (n : ℕ) → first ≡ all_left first.clock →
    mid ≡ seats_on n first → n ≡ reactor_lane script →
    mid ≡ record { clock = first.clock; next = reactor_lane script }
left_lanes script first mid n all on count =
    on
    ∙ ap (λ (k : ℕ). record { clock = first.clock; next = k })
    (let e : first.next + n ≡ reactor_lane script = omega (arith, ap (λ (s : SeatsLeft). s.next) all, count) in e)

-- and when the reactor's was
pub left_reactor : (script : ScriptModel) (clock : ClockId) (mid next : SeatsLeft) →
    mid ≡ record { clock = clock; next = reactor_lane script } → next ≡ one_given mid →
    next ≡ record { clock = clock; next = lane_count script }
left_reactor script clock mid next is given =
    given ∙ ap one_given is
    ∙ ap (λ (k : ℕ). record { clock = clock; next = k })
    (let e : reactor_lane script + 1 ≡ lane_count script = omega (arith, lanes_listed script) in e)

-- and when those of the workers were
pub left_workers : (script : ScriptModel) (clock : ClockId) (next last : SeatsLeft) (n : ℕ) →
    next ≡ record { clock = clock; next = lane_count script } → last ≡ seats_on n next → n ≡ worker_count script →
    last ≡ record { clock = clock; next = opener_seat script }
left_workers script clock next last n is on count =
    on ∙ ap (seats_on n) is
    ∙ ap (λ (k : ℕ). record { clock = clock; next = k })
    (let e : lane_count script + n ≡ opener_seat script = omega (arith, count) in e)

-- the pen of the next seat
pub given_pen : (left : SeatsLeft) (clock : ClockId) (number most cap : ℕ) (seat : SeatView) (pen : PenView) →
    left ≡ record { clock = clock; next = number } → seat ≡ new_clock_seat left.clock left.next →
    IsNewPen seat.clock seat.number cap pen → most ≤ cap → IsNewPen clock number most pen
given_pen left clock number most cap seat pen is given new room =
    same_pen seat.clock clock seat.number number cap most pen new
    (ap (λ (s : SeatView). s.clock) given ∙ ap (λ (s : SeatsLeft). s.clock) is)
    (ap (λ (s : SeatView). s.number) given ∙ ap (λ (s : SeatsLeft). s.next) is)
    room

-- what is at an index of a front is there in the whole
get_front : {T : Type 0} (front rest : List T) (k : ℕ) (one : T) → slice_get front k ≡ Some one →
    slice_get (front ++ rest) k ≡ Some one
get_front [] rest k one at = absurd (cc at)
get_front (x ∷ front) rest zero one at = at
get_front (x ∷ front) rest (suc k) one at = get_front front rest k one at

module _ {T : Type 0} (all front rest : List T) (split : all ≡ front ++ rest) where
  pub at_front : (k : ℕ) (one : T) → slice_get front k ≡ Some one → slice_get all k ≡ Some one
  at_front k one at = ap (λ xs. slice_get xs k) split ∙ get_front front rest k one at

  pub each_front : (P : ℕ → T → Type 0) → EachAt P all → EachAt P front
  each_front P each k one at = each k one (at_front k one at)

-- a lane with handlers that are listed in a front
pub baton_listed : {H : Type 0} (script : ScriptModel) (clock : ClockId) (all front rest : List (Held H)) (lane : ℕ)
    (baton : BatonView H) → all ≡ front ++ rest → IsFirstBaton script clock front lane baton →
    IsFirstBaton script clock all lane baton
baton_listed script clock all front rest lane baton split first =
    record {
      pen = first.pen;
      is = first.is;
      hands = at_front all front rest split lane baton.hands first.hands;
    }

-- a lane by its own number and pen
pub lane_itself : (script : ScriptModel) (n lane : ℕ) (pen : PenView) (view : LaneView) →
    view ≡ first_lane script n pen → view.lane ≡ lane → view ≡ first_lane script lane view.pen
lane_itself script n lane pen view is at =
    is
    ∙ ap (λ (k : ℕ). first_lane script k pen) (sym (ap (λ (v : LaneView). v.lane) is) ∙ at)
    ∙ ap (first_lane script lane) (sym (ap (λ (v : LaneView). v.pen) is))
