-- A worker has its seats behind each of its calls, and then all have theirs.
use Rattle.std.proofs.Common.{◌≡◌, ◌∙◌, ◌⊎◌, ℕ, zero, suc, ◌<◌, ◌+◌, Bool, true, false, List, [], ◌∷◌, Some, ap, get_or, inl, inr, ⊎_elim, length, refl, slice_set, subst, sym}
use Rattle.std.specs.Prelude.{slice_get}
use Rattle.std.proofs.lemmas.List.{length-set}
use Rattle.std.proofs.lemmas.Option.{slice_get-get_or}
use Rattle.session_script.specs.Script.{ScriptModel}
use Rattle.turn_table.specs.Seated.{Lanes}
use Rattle.lane_clock.specs.Seats.{SeatView}
use Rattle.lane_clock.specs.declared.found.Found.{Found}
use Rattle.lane_logs.specs.SeatNumbers.{lane_count}
use Rattle.lane_turns.specs.AllWorkers.{AreReady, clock_seat}
use Rattle.lane_turns.specs.Attempts.{IsSeated, WorkerState}
use Rattle.lane_turns.specs.Gathering.{IsSeatedAs}
use Rattle.lane_turns.specs.Scanning.{GoesOn, HasLooked, numbers_of}
use Rattle.lane_turns.specs.Workers.{Stops, WorkerView}
use Rattle.context_tests.specs.Asking.{IsReadyAs}

stop_number : (old new : WorkerView) (draws : Bool) → Stops old new draws → new.pen.seat.number ≡ old.pen.seat.number
stop_number old new true stops = ap (λ (s : SeatView). s.number) stops.gone.seat
stop_number old new false same = ap (λ (w : WorkerView). w.pen.seat.number) same

module _ {H X : Type 0} (script : ScriptModel) (lanes : Lanes) (number : ℕ) where
  pub is_seated : (one : WorkerState H X) → IsReadyAs script lanes number one → IsSeated lanes one
  is_seated one ready = record { seat = ready.seat.seat; is = ready.seat.is; fits = ready.seat.fits }

  module _ (old new : WorkerState H X) (ready : IsReadyAs script lanes number old) where
    pub went_on : GoesOn old new → IsSeated lanes new → IsReadyAs script lanes number new
    went_on on seated = record {
      row = on.seat.number ∙ ready.row;
      seat = record {
        seat = seated.seat;
        is = seated.is;
        fits = seated.fits;
        sole = sym (ap numbers_of seated.is) ∙ (on.numbers ∙ (ap numbers_of ready.seat.is ∙ ready.seat.sole));
      };
    }

    stayed : (clock_seat new).number ≡ (clock_seat old).number → new.turns ≡ old.turns → IsReadyAs script lanes number new
    stayed same turns = record {
      row = same ∙ ready.row;
      seat = record {
        seat = ready.seat.seat;
        is = turns ∙ ready.seat.is;
        fits = ready.seat.fits;
        sole = ready.seat.sole;
      };
    }

    pub looked : (found : Found) → HasLooked old new found → IsReadyAs script lanes number new
    looked found has = stayed (ap (λ (s : SeatView). s.number) has.read.gone.seat) has.turns

    pub stopped : (draws : Bool) → Stops old.seat new.seat draws → new.turns ≡ old.turns →
        IsReadyAs script lanes number new
    stopped draws stops turns = stayed (stop_number old.seat new.seat draws stops) turns

-- what stands in a list in which one element was set
set_or_there : {A : Type 0} (xs : List A) (k j : ℕ) (new one : A) → slice_get (slice_set xs k new) j ≡ Some one →
    ((j ≡ k) × (new ≡ one)) ⊎ (slice_get xs j ≡ Some one)
set_or_there [] k j new one is = inr is
set_or_there (x ∷ xs) zero zero new one is = inl (refl, cc is)
set_or_there (x ∷ xs) zero (suc j) new one is = inr is
set_or_there (x ∷ xs) (suc k) zero new one is = inr is
set_or_there (x ∷ xs) (suc k) (suc j) new one is =
    ⊎_elim (λ (here : (j ≡ k) × (new ≡ one)). inl (ap suc here.0, here.1))
    (λ (there : slice_get xs j ≡ Some one). inr there) (set_or_there xs k j new one is)

module _ {H X : Type 0} (script : ScriptModel) (lanes : Lanes) (all : List (WorkerState H X)) (k : ℕ)
    (ready : AreReady script lanes all) where
  pub ready_at : (d : WorkerState H X) → k < length all → IsReadyAs script lanes k (get_or all k d)
  ready_at d less = record {
    row = ready.rows.numbers k (get_or all k d) (slice_get-get_or all k d less);
    seat = ready.seats.each k (get_or all k d) (slice_get-get_or all k d less);
  }

  pub all_ready : (new : WorkerState H X) → IsReadyAs script lanes k new → AreReady script lanes (slice_set all k new)
  all_ready new now = record {
    rows = record {
      size = length-set all k new ∙ ready.rows.size;
      numbers = λ j one is.
          ⊎_elim
          (λ (here : (j ≡ k) × (new ≡ one)).
          ap (λ (w : WorkerState H X). (clock_seat w).number) (sym here.1)
          ∙ (now.row ∙ ap (λ n. lane_count script + n) (sym here.0)))
          (λ (there : slice_get all j ≡ Some one). ready.rows.numbers j one there) (set_or_there all k j new one is);
    };
    seats = record {
      size = length-set all k new ∙ ready.seats.size;
      each = λ j one is.
          ⊎_elim
          (λ (here : (j ≡ k) × (new ≡ one)).
          subst (λ n. IsSeatedAs lanes n one) (sym here.0) (subst (IsSeatedAs lanes k) here.1 now.seat))
          (λ (there : slice_get all j ≡ Some one). ready.seats.each j one there) (set_or_there all k j new one is);
    };
  }
