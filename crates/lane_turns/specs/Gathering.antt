-- All turns in one hand: the seats of all workers at the table of turns are one seat, which then
-- takes every turn, so that the values of all lanes lie on the bench (this project's own).
use Rattle.std.specs.Prelude.{◌≡◌, ℕ, zero, suc, ◌+◌, ◌<◌, List, [], ◌∷◌, Option, Some, None, IfSome, length, slice_get}
use Rattle.std.specs.Option.{option_map}
use Rattle.turn_table.specs.Numbers.{all_below, run_from}
use Rattle.turn_table.specs.Seated.{IsSeatOf, Lanes, Seated, with_numbers_of}
use Rattle.lane_turns.specs.Attempts.{WorkerState}

-- the seat gave all turns that it had
abbrev pub without_turns : Seated → Seated
without_turns seat = record seat { turns = [] }

-- the lanes below one, the greatest first
abbrev pub turns_below : ℕ → List ℕ
turns_below = all_below

-- the seat has the turns of the lanes below one, and no other
abbrev pub with_turns_below : ℕ → Seated → Seated
with_turns_below count seat = record seat { turns = turns_below count }

-- a seat of the table that stands for the first numbers alone, and has no turn
pub record StandsForFirst (lanes : Lanes) (count : ℕ) (seat : Seated) : Type 0 where
  pub fits : IsSeatOf lanes seat
  pub free : seat.turns ≡ []
  pub numbers : seat.numbers ≡ run_from 0 count

-- one seat more, beside those that were gathered
abbrev pub gathered : Option Seated → Seated → Seated
gathered None seat = seat
gathered (Some all) seat = with_numbers_of seat all

module _ {H X : Type 0} where
  -- a worker has its seat at this table, which stands for this number alone
  pub record IsSeatedAs (lanes : Lanes) (number : ℕ) (worker : WorkerState H X) : Type 0 where
    pub seat : Seated
    pub is : worker.turns ≡ Some seat
    pub fits : IsSeatOf lanes seat
    pub sole : seat.numbers ≡ number ∷ []

  -- all workers have theirs, in the order of their numbers
  pub record AreSeated (lanes : Lanes) (workers : List (WorkerState H X)) : Type 0 where
    pub size : length workers ≡ lanes.seats
    pub each : (k : ℕ) (one : WorkerState H X) → slice_get workers k ≡ Some one →
        IsSeatedAs lanes k one

  -- a worker gave the reactor's lane back, if it kept that
  abbrev pub gives_kept : WorkerState H X → WorkerState H X
  gives_kept worker = record worker { turns = option_map without_turns worker.turns; kept = None }

  -- and its seat was gathered
  abbrev pub unseated : WorkerState H X → WorkerState H X
  unseated worker = record worker { turns = None; kept = None }

  -- nobody keeps a lane
  abbrev pub NoneKeeps : List (WorkerState H X) → Type 0
  NoneKeeps workers = (k : ℕ) → IfSome (slice_get workers k) (λ one. one.kept ≡ None)

  -- it got a seat again, of this number alone
  pub record HasSatDown (lanes : Lanes) (number : ℕ) (old new : WorkerState H X) : Type 0 where
    pub seat : Seated
    pub is : new ≡ record old { turns = Some seat }
    pub fits : IsSeatOf lanes seat
    pub sole : seat.numbers ≡ number ∷ []

  -- and so did each from this one on
  pub record HaveSatDown (lanes : Lanes) (from : ℕ) (olds news : List (WorkerState H X)) : Type 0
    where
      pub each : (k : ℕ) (old new : WorkerState H X) → from < k + 1 → slice_get olds k ≡ Some old →
          slice_get news k ≡ Some new → HasSatDown lanes k old new
      pub rest : (k : ℕ) → k < from → slice_get news k ≡ slice_get olds k
