-- All turns in one hand: seats of the table that are gathered and parted, and rows of lanes that
-- grow and shrink at their end.
use Rattle.std.proofs.Common.{◌≡◌, ◌≢◌, ◌⊎◌, inl, inr, ⊎_elim, ℕ, zero, suc, ◌+◌, ◌-◌, ◌<◌, ◌≤◌, false, List, [], ◌∷◌, ◌++◌, Option, Some, None, length, set, refl, sym, ap, subst, ◌∙◌, arith}
use Rattle.std.specs.Prelude.{IfSome, map, slice_get}
use Rattle.std.specs.Option.{option_map}
use Rattle.std.proofs.lemmas.Bool.{cases_lt, true≢false}
use Rattle.turn_table.specs.Numbers.{Has, greatest, has, run_from, without_number}
use Rattle.turn_table.specs.Seated.{HasTurn, IsSeatOf, Lanes, Seated, StandsForAll, StandsForTwo, greatest_alone, with_turn, without_greatest, without_turn}
use Rattle.turn_table.proofs.NumberLemmas.{has-cons_other, has_head, has_run, run-greatest, run-without_greatest, without_cons}
use Rattle.lane_clock.specs.Seats.{SeatView}
use Rattle.lane_logs.specs.SeatNumbers.{lane_count}
use Rattle.lane_turns.specs.Attempts.{IsSeated, WorkerState}
use Rattle.lane_turns.specs.Benches.{IsRow}
use Rattle.lane_turns.specs.Gathering.{HasSatDown, HaveSatDown, IsSeatedAs, StandsForFirst, gathered, turns_below, with_turns_below, without_turns}
use Rattle.lane_turns.specs.LaneOf.{seat_of}
use Rattle.lane_turns.specs.LaneValues.{IsBaton, LaneValue, Terms, handlers, home_of, reactor}
use Rattle.lane_turns.proofs.AttendingLemmas.{get_set_other, get_set_same}

module _ {H X : Type 0} (t : Terms H X) where
  -- a lane's value belongs to one of the lanes
  pub home_below : (value : LaneValue H X) → IsBaton t value → home_of value < lane_count t.names.script
  home_below (handlers (Some view)) is = is.is_lane.there
  home_below (handlers None) is = absurd is
  home_below (reactor (Some view)) is = is.is_lane.there
  home_below (reactor None) is = absurd is

  -- and its seat has that lane's number
  pub number_is_home : (value : LaneValue H X) → IsBaton t value → (seat_of value).number ≡ home_of value
  number_is_home (handlers (Some view)) is = is.is_lane.number
  number_is_home (handlers None) is = absurd is
  number_is_home (reactor (Some view)) is = is.is_lane.number
  number_is_home (reactor None) is = absurd is

-- no lane is below itself
pub none_below : (n m : ℕ) → n ≤ m → has m (turns_below n) ≡ false
none_below zero m le = refl
none_below (suc n) m le =
    has-cons_other m n (turns_below n) (λ same. absurd (omega (arith, same, le)))
    ∙ none_below n m (omega (arith, le))

pub not_below : (n : ℕ) → ¬ Has (turns_below n) n
not_below n here = true≢false (sym here ∙ none_below n n (omega arith))

-- the greatest of them is given first
pub given_below : (n : ℕ) → without_number n (turns_below (suc n)) ≡ turns_below n
given_below n = without_cons n (turns_below n) (not_below n)

pub has_below : (n : ℕ) → Has (turns_below (suc n)) n
has_below n = has_head n (turns_below n)

-- what was gathered of all seats of a table stands for all of its numbers
pub stands_for_all : (lanes : Lanes) (seat : Seated) → StandsForFirst lanes lanes.seats seat → StandsForAll seat
stands_for_all lanes seat is number less =
    let below : number < 0 + lanes.seats = omega (arith, less, is.fits.1) in
    subst (λ xs. Has xs number) (sym is.numbers) (has_run number 0 lanes.seats (omega arith) below)

run_snoc : (first n : ℕ) → run_from first n ++ (first + n) ∷ [] ≡ run_from first (suc n)
run_snoc first zero = ap (λ k. k ∷ []) (let e : first + 0 ≡ first = omega arith in e)
run_snoc first (suc n) =
    ap (λ xs. first ∷ xs)
    (ap (λ k. run_from (suc first) n ++ k ∷ []) (let e : first + suc n ≡ suc first + n = omega arith in e)
    ∙ run_snoc (suc first) n)

run_first : (n : ℕ) → run_from 0 n ++ n ∷ [] ≡ run_from 0 (suc n)
run_first n =
    ap (λ k. run_from 0 n ++ k ∷ []) (let e : n ≡ 0 + n = omega arith in e) ∙ run_snoc 0 n

-- of the seats of the first workers, one was made
abbrev pub IsGathered : Lanes → ℕ → Option Seated → Type 0
IsGathered lanes count None = count ≡ 0
IsGathered lanes count (Some seat) = StandsForFirst lanes count seat

-- one seat more is gathered
pub gathered_more : (lanes : Lanes) (i : ℕ) (all : Option Seated) (seat : Seated) → IsGathered lanes i all →
    IsSeatOf lanes seat → seat.turns ≡ [] → seat.numbers ≡ i ∷ [] → StandsForFirst lanes (i + 1) (gathered all seat)
gathered_more lanes i None seat none fits free sole =
    record {
      fits = fits;
      free = free;
      numbers = sole ∙ ap (λ k. run_from k 1) none ∙ ap (run_from 0) (let e : 1 ≡ i + 1 = omega (arith, none) in e);
    }
gathered_more lanes i (Some all) seat is fits free sole =
    record {
      fits = is.fits;
      free = is.free;
      numbers =
          ap (λ xs. xs ++ seat.numbers) is.numbers ∙ ap (λ xs. run_from 0 i ++ xs) sole ∙ run_first i
          ∙ ap (run_from 0) (let e : suc i ≡ i + 1 = omega arith in e);
    }

pub gathered_fits : (lanes : Lanes) (i : ℕ) (all : Option Seated) → IsGathered lanes i all →
    IfSome all (λ it. IsSeatOf lanes it)
gathered_fits lanes i None none = tt
gathered_fits lanes i (Some all) is = is.fits

-- the first of all was gathered too
pub gathered_some : (lanes : Lanes) (i : ℕ) (all : Option Seated) → IsGathered lanes i all → 0 < i → None ≡ all → ⊥
gathered_some lanes i None none some is = omega (arith, none, some)
gathered_some lanes i (Some all) it some is = cc is

module _ {H X : Type 0} (lanes : Lanes) (k : ℕ) (worker : WorkerState H X) (is : IsSeatedAs lanes k worker) where
  pub is_seated : IsSeated lanes worker
  is_seated = record { seat = is.seat; is = is.is; fits = is.fits }

  -- the seat that such a worker leaves
  module _ (seat : Seated) (left : option_map without_turns worker.turns ≡ Some seat) where
    left_seat : seat ≡ without_turns is.seat
    left_seat =
        let same : Some (without_turns is.seat) ≡ Some seat = sym (ap (option_map without_turns) is.is) ∙ left in
        let it : without_turns is.seat ≡ seat = cc same in sym it

    pub left_fits : IsSeatOf lanes seat
    left_fits = subst (λ s. IsSeatOf lanes s) (sym left_seat) is.fits

    pub left_free : seat.turns ≡ []
    left_free = ap (λ (s : Seated). s.turns) left_seat

    pub left_sole : seat.numbers ≡ k ∷ []
    left_sole = ap (λ (s : Seated). s.numbers) left_seat ∙ is.sole

-- a seat of two numbers or more can be parted
pub first_two : (lanes : Lanes) (n : ℕ) (seat : Seated) → StandsForFirst lanes (n + 2) seat → StandsForTwo seat
first_two lanes n seat is =
    let one : Has (run_from 0 (n + 2)) 0 = has_run 0 0 (n + 2) (omega arith) (omega arith) in
    let other : Has (run_from 0 (n + 2)) 1 = has_run 1 0 (n + 2) (omega arith) (omega arith) in
    let apart : 0 ≢ 1 = λ (same : 0 ≡ 1). absurd (omega (arith, same)) in
    (0, 1, apart, subst (λ xs. Has xs 0) (sym is.numbers) one, subst (λ xs. Has xs 1) (sym is.numbers) other)

-- the greatest of its numbers goes
pub parted_rest : (lanes : Lanes) (n : ℕ) (seat : Seated) → StandsForFirst lanes (suc n) seat →
    StandsForFirst lanes n (without_greatest seat)
parted_rest lanes n seat is =
    record {
      fits = is.fits;
      free = is.free;
      numbers = ap (λ xs. without_number (greatest xs) xs) is.numbers ∙ run-without_greatest 0 n;
    }

pub parted_number : (lanes : Lanes) (n : ℕ) (seat : Seated) → StandsForFirst lanes (suc n) seat →
    (greatest_alone seat).numbers ≡ n ∷ []
parted_number lanes n seat is = ap (λ xs. greatest xs ∷ []) is.numbers ∙ ap (λ k. k ∷ []) (run-greatest 0 n)
    ∙ ap (λ k. k ∷ []) (let e : 0 + n ≡ n = omega arith in e)

-- the first of a list are changed
abbrev pub changed_to : {T : Type 0} (f : T → T) → ℕ → List T → List T
changed_to f zero xs = xs
changed_to f (suc i) [] = []
changed_to f (suc i) (x ∷ xs) = f x ∷ changed_to f i xs

module _ {T : Type 0} (f : T → T) where
  changed_next : (xs : List T) (i : ℕ) → slice_get (changed_to f i xs) i ≡ slice_get xs i
  changed_next xs zero = refl
  changed_next [] (suc i) = refl
  changed_next (x ∷ xs) (suc i) = changed_next xs i

  changed_one : (xs : List T) (i : ℕ) (one now : T) → slice_get xs i ≡ Some one → now ≡ f one →
      set (changed_to f i xs) i now ≡ changed_to f (suc i) xs
  changed_one [] i one now at is = absurd (cc at)
  changed_one (x ∷ xs) zero one now at is =
      let it : x ≡ one = cc in ap (λ y. y ∷ xs) (is ∙ ap f (sym it))
  changed_one (x ∷ xs) (suc i) one now at is = ap (λ ys. f x ∷ ys) (changed_one xs i one now at is)

  pub changed_more : (xs all : List T) (i : ℕ) (one now : T) → all ≡ changed_to f i xs → slice_get xs i ≡ Some one →
      now ≡ f one → set all i now ≡ changed_to f (i + 1) xs
  changed_more xs all i one now same at is =
      ap (λ ys. set ys i now) same ∙ changed_one xs i one now at is
      ∙ ap (λ n. changed_to f n xs) (let e : suc i ≡ i + 1 = omega arith in e)

  -- the next one is as it was
  pub changed_at : (xs all : List T) (i : ℕ) (one : T) → all ≡ changed_to f i xs → slice_get all i ≡ Some one →
      slice_get xs i ≡ Some one
  changed_at xs all i one same at =
      sym (changed_next xs i) ∙ ap (λ ys. slice_get ys i) (sym same) ∙ at

  pub changed_all : (xs : List T) → changed_to f (length xs) xs ≡ map f xs
  changed_all [] = refl
  changed_all (x ∷ xs) = ap (λ ys. f x ∷ ys) (changed_all xs)

module _ {T : Type 0} where
  snoc_cases : (xs : List T) (v : T) (k : ℕ) (one : T) → slice_get (xs ++ v ∷ []) k ≡ Some one →
      (slice_get xs k ≡ Some one) ⊎ ((k ≡ length xs) × (v ≡ one))
  snoc_cases [] v zero one is = let it : v ≡ one = cc in inr (refl, it)
  snoc_cases [] v (suc k) one is = absurd (cc is)
  snoc_cases (x ∷ xs) v zero one is = inl is
  snoc_cases (x ∷ xs) v (suc k) one is =
      ⊎_elim (λ front. inl front) (λ p. inr (ap suc p.0, p.1)) (snoc_cases xs v k one is)

  snoc_front : (xs : List T) (v : T) (k : ℕ) (one : T) → slice_get xs k ≡ Some one →
      slice_get (xs ++ v ∷ []) k ≡ Some one
  snoc_front [] v k one is = absurd (cc is)
  snoc_front (x ∷ xs) v zero one is = is
  snoc_front (x ∷ xs) v (suc k) one is = snoc_front xs v k one is

  snoc_here : (xs : List T) (v : T) → slice_get (xs ++ v ∷ []) (length xs) ≡ Some v
  snoc_here [] v = refl
  snoc_here (x ∷ xs) v = snoc_here xs v

  snoc_size : (xs : List T) (v : T) → length (xs ++ v ∷ []) ≡ length xs + 1
  snoc_size [] v = refl
  snoc_size (x ∷ xs) v =
      ap suc (snoc_size xs v) ∙ (let e : suc (length xs + 1) ≡ suc (length xs) + 1 = omega arith in e)

  module _ (seat : T → SeatView) (first : ℕ) where
    -- a row goes on by the next number
    pub row_more : (n : ℕ) (xs : List T) (v : T) → IsRow seat first n xs → (seat v).number ≡ first + n →
        IsRow seat first (n + 1) (xs ++ v ∷ [])
    row_more n xs v row is =
        record {
          size = snoc_size xs v ∙ ap (λ k. k + 1) row.size;
          numbers =
              λ k one at.
              ⊎_elim (λ front. row.numbers k one front)
              (λ last.
              subst (λ w. (seat w).number ≡ first + k) last.1
              (is ∙ ap (λ j. first + j) (sym row.size ∙ sym last.0)))
              (snoc_cases xs v k one at);
        }

    -- and is one without its last
    pub row_front : (n : ℕ) (xs : List T) (v : T) → IsRow seat first n (xs ++ v ∷ []) →
        IsRow seat first (length xs) xs
    row_front n xs v row =
        record { size = refl; numbers = λ k one at. row.numbers k one (snoc_front xs v k one at) }

    pub row_last : (n : ℕ) (xs : List T) (v : T) → IsRow seat first n (xs ++ v ∷ []) →
        (seat v).number ≡ first + length xs
    row_last n xs v row = row.numbers (length xs) v (snoc_here xs v)

module _ {H X : Type 0} (lanes : Lanes) where
  pub none_sat : (all : List (WorkerState H X)) → HaveSatDown lanes (length all) all all
  none_sat all =
      record {
        each = λ k old new from was is. absurd (omega (arith, from, within all k old was));
        rest = λ k less. refl;
      }
    where
      within : {T : Type 0} (xs : List T) (k : ℕ) (x : T) → slice_get xs k ≡ Some x → k < length xs
      within [] k x is = absurd (cc is)
      within (y ∷ xs) zero x is = omega arith
      within (y ∷ xs) (suc k) x is = let l = within xs k x is in omega (arith, l)

  -- one worker more got its seat
  pub sat_more : (olds news : List (WorkerState H X)) (i : ℕ) (one now : WorkerState H X) (seat : Seated) →
      slice_get news i ≡ Some one → HaveSatDown lanes (suc i) olds news → now ≡ record one { turns = Some seat } →
      IsSeatOf lanes seat → seat.numbers ≡ i ∷ [] → HaveSatDown lanes i olds (set news i now)
  sat_more olds news i one now seat at before is fits sole =
      record {
        each =
            λ k old new from was at_now.
            ⊎_elim
            (λ (later : i < k).
            let apart : k ≢ i = λ same. absurd (omega (arith, same, later)) in
            before.each k old new (omega (arith, later)) was (sym (get_set_other news i k now apart) ∙ at_now))
            (λ (here : k ≡ i).
            let was_one : Some one ≡ Some old =
            sym at ∙ before.rest i (omega arith) ∙ ap (slice_get olds) (sym here) ∙ was in
            let is_now : Some now ≡ Some new =
            sym (get_set_same news i one now at) ∙ ap (slice_get (set news i now)) (sym here) ∙ at_now in
            let one_is : one ≡ old = cc was_one in
            let now_is : now ≡ new = cc is_now in
            record {
              seat = seat;
              is = sym now_is ∙ is ∙ ap (λ (w : WorkerState H X). record w { turns = Some seat }) one_is;
              fits = fits;
              sole = sole ∙ ap (λ n. n ∷ []) (sym here);
            })
            (here_or_later k from);
        rest =
            λ k less.
            let apart : k ≢ i = λ same. absurd (omega (arith, same, less)) in
            get_set_other news i k now apart ∙ before.rest k (omega (arith, less));
      }
    where
      here_or_later : (k : ℕ) → i < k + 1 → (i < k) ⊎ (k ≡ i)
      here_or_later k from = elim (cases_lt i k) [
        | inl later ↦ inl later
        | inr behind ↦ inr (omega (arith, from, behind))
      ]

-- where the first lanes' values were taken, the next one comes
module _ {T : Type 0} (seat : T → SeatView) where
  pub row_none : (first : ℕ) (xs : List T) → xs ≡ [] → IsRow seat first 0 xs
  row_none first xs none =
      record {
        size = ap length none;
        numbers =
            λ k one at.
            let nowhere : None ≡ Some one = sym (ap (λ ys. slice_get ys k) none) ∙ at in absurd (cc nowhere);
      }

  pub row_next : (n : ℕ) (xs ys : List T) (v : T) → ys ≡ xs ++ v ∷ [] → IsRow seat 0 n xs → (seat v).number ≡ n →
      IsRow seat 0 (n + 1) ys
  row_next n xs ys v grown row is =
      subst (λ zs. IsRow seat 0 (n + 1) zs) (sym grown)
      (row_more seat 0 n xs v row (is ∙ (let e : n ≡ 0 + n = omega arith in e)))

  -- the last value of a row is given back
  module _ (xs ys : List T) (v : T) (whole at : Seated) (cut : xs ≡ ys ++ v ∷ []) (row : IsRow seat 0 (length xs) xs)
      (is : at ≡ with_turns_below (length xs) whole) where
    last_number : (seat v).number ≡ length ys
    last_number =
        row_last seat 0 (length xs) ys v (subst (λ zs. IsRow seat 0 (length xs) zs) cut row)
        ∙ (let e : 0 + length ys ≡ length ys = omega arith in e)

    turns_are : at ≡ with_turns_below (suc (length ys)) whole
    turns_are =
        is
        ∙ ap (λ n. with_turns_below n whole)
        (ap length cut ∙ snoc_size ys v ∙ (let e : length ys + 1 ≡ suc (length ys) = omega arith in e))

    pub last_turn : HasTurn at (seat v).number
    last_turn =
        subst (λ k. HasTurn at k) (sym last_number)
        (subst (λ s. HasTurn s (length ys)) (sym turns_are) (has_below (length ys)))

    pub last_given : (now : Seated) → now ≡ without_turn (seat v).number at → now ≡ with_turns_below (length ys) whole
    last_given now given =
        given ∙ ap (λ k. without_turn k at) last_number ∙ ap (without_turn (length ys)) turns_are
        ∙ ap (λ ts. record whole { turns = ts }) (given_below (length ys))

    pub last_front : IsRow seat 0 (length ys) ys
    last_front = row_front seat 0 (length xs) ys v (subst (λ zs. IsRow seat 0 (length xs) zs) cut row)

-- a seat with the turns of the first lanes has none of the next
module _ (lanes : Lanes) (whole at : Seated) (n : ℕ) (is : at ≡ with_turns_below n whole)
    (first : StandsForFirst lanes lanes.seats whole) where
  pub taker_fits : IsSeatOf lanes at
  taker_fits = subst (λ s. IsSeatOf lanes s) (sym is) first.fits

  pub taker_has_all : StandsForAll at
  taker_has_all = subst (λ s. StandsForAll s) (sym is) (stands_for_all lanes whole first)

  pub taker_lacks : ¬ HasTurn at n
  taker_lacks = subst (λ s. ¬ HasTurn s n) (sym is) (not_below n)

  pub taker_next : (now : Seated) → now ≡ with_turn n at → now ≡ with_turns_below (n + 1) whole
  taker_next now taken =
      taken ∙ ap (with_turn n) is
      ∙ ap (λ k. with_turns_below k whole) (let e : suc n ≡ n + 1 = omega arith in e)

pub none_taken : (seat : Seated) → seat.turns ≡ [] → seat ≡ with_turns_below 0 seat
none_taken seat free = ap (λ ts. record seat { turns = ts }) free

pub all_taken : (seat : Seated) (n m : ℕ) → seat.turns ≡ turns_below n → m ≡ n → seat ≡ with_turns_below m seat
all_taken seat n m turns same = ap (λ ts. record seat { turns = ts }) (turns ∙ ap turns_below (sym same))

-- of a seat that stands for the first numbers, two or more, the last is parted
module _ (lanes : Lanes) (left : ℕ) (seat : Seated) (is : StandsForFirst lanes left seat) (two : 1 < left) where
  as_next : StandsForFirst lanes (suc (left - 1)) seat
  as_next = subst (λ n. StandsForFirst lanes n seat) (let e : left ≡ suc (left - 1) = omega (arith, two) in e) is

  pub may_part : StandsForTwo seat
  may_part =
      first_two lanes (left - 2) seat
      (subst (λ n. StandsForFirst lanes n seat) (let e : left ≡ left - 2 + 2 = omega (arith, two) in e) is)

  pub part_rest : (rest : Seated) → rest ≡ without_greatest seat → StandsForFirst lanes (left - 1) rest
  part_rest rest same =
      subst (λ s. StandsForFirst lanes (left - 1) s) (sym same) (parted_rest lanes (left - 1) seat as_next)

  pub part_fits : (made : Seated) → made ≡ greatest_alone seat → IsSeatOf lanes made
  part_fits made same = subst (λ s. IsSeatOf lanes s) (sym same) is.fits

  pub part_free : (made : Seated) → made ≡ greatest_alone seat → made.turns ≡ []
  part_free made same = ap (λ (s : Seated). s.turns) same

  pub part_sole : (made : Seated) → made ≡ greatest_alone seat → made.numbers ≡ (left - 1) ∷ []
  part_sole made same = ap (λ (s : Seated). s.numbers) same ∙ parted_number lanes (left - 1) seat as_next

module _ {H X : Type 0} (olds news : List (WorkerState H X)) where
  -- who didn't get a seat yet keeps nothing
  pub still_free : (i : ℕ) (one : WorkerState H X) (lanes : Lanes) (from : ℕ) → HaveSatDown lanes from olds news →
      i < from → slice_get news i ≡ Some one → ((k : ℕ) → IfSome (slice_get olds k) (λ w. w.kept ≡ None)) →
      one.kept ≡ None
  still_free i one lanes from sat less at free =
      let there : slice_get olds i ≡ Some one = sym (sat.rest i less) ∙ at in
      subst (λ o. IfSome o (λ w. w.kept ≡ None)) there (free i)

  pub sat_next : (lanes : Lanes) (left i : ℕ) (one now : WorkerState H X) (seat : Seated) →
      slice_get news i ≡ Some one → HaveSatDown lanes left olds news → left ≡ suc i →
      now ≡ record one { turns = Some seat } → IsSeatOf lanes seat → seat.numbers ≡ i ∷ [] →
      HaveSatDown lanes i olds (set news i now)
  sat_next lanes left i one now seat at before same is fits sole =
      sat_more lanes olds news i one now seat at (subst (λ n. HaveSatDown lanes n olds news) same before) is fits sole

pub row_sized : {T : Type 0} (seat : T → SeatView) (count : ℕ) (xs : List T) → IsRow seat 0 count xs →
    IsRow seat 0 (length xs) xs
row_sized seat count xs row = record { size = refl; numbers = row.numbers }
