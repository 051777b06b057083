-- All workers through an event of the opener: their seats are gathered, each takes part, and each
-- gets a seat again.
use Rattle.std.proofs.Common.{◌≡◌, ℕ, zero, suc, ◌+◌, ◌<◌, false, List, [], ◌∷◌, ◌++◌, Option, Some, None, length, refl, sym, ap, subst, ◌∙◌, arith}
use Rattle.std.specs.Prelude.{IfSome, drop, is_some, map, slice_get, take}
use Rattle.session_script.specs.Script.{ScriptModel}
use Rattle.turn_table.specs.Seated.{Lanes, Seated}
use Rattle.lane_clock.specs.Seats.{SeatView, own}
use Rattle.lane_map.specs.LaneNumbers.{reactor_lane}
use Rattle.lane_logs.specs.Cuts.{NoneStops}
use Rattle.lane_logs.specs.SeatNumbers.{lane_count, worker_count}
use Rattle.lane_logs.specs.Stand.{Stand}
use Rattle.lane_turns.specs.AllWorkers.{AreReady, KnowTheRound, base_kept, clock_seat, last_of, log_of, runs_kept}
use Rattle.std.specs.Option.{option_map}
use Rattle.lane_turns.specs.Attempts.{IsSeated, WorkerState}
use Rattle.lane_turns.specs.Benches.{AreInRound, AreWorkers, IsInRound, IsRow}
use Rattle.lane_turns.specs.Besides.{Besides, besides_of, rests_of}
use Rattle.lane_turns.specs.Gathering.{AreSeated, HaveSatDown, StandsForFirst, unseated, without_turns}
use Rattle.lane_turns.specs.Scanning.{numbers_of}
use Rattle.lane_turns.specs.LaneOf.{has_failed, seat_of}
use Rattle.lane_turns.specs.LaneValues.{IsBaton, LaneValue, Terms, handlers, reactor}
use Rattle.lane_turns.proofs.ReactorStopLemmas.{reactor_goes_on}
use Rattle.lane_turns.specs.Workers.{WorkerView}

-- what an element of a list of images is the image of
pub record HasSource {T S : Type 0} (f : T → S) (xs : List T) (k : ℕ) (y : S) : Type 0 where
  pub source : T
  pub at : slice_get xs k ≡ Some source
  pub is : f source ≡ y

module _ {T S : Type 0} (f : T → S) where
  pub source_of : (xs : List T) (k : ℕ) (y : S) → slice_get (map f xs) k ≡ Some y → HasSource f xs k y
  source_of [] k y at = absurd (cc at)
  source_of (x ∷ xs) zero y at = let it : f x ≡ y = cc in record { source = x; at = refl; is = it }
  source_of (x ∷ xs) (suc k) y at =
      let rest = source_of xs k y at in record { source = rest.source; at = rest.at; is = rest.is }

  pub image_at : (xs : List T) (k : ℕ) (x : T) → slice_get xs k ≡ Some x → slice_get (map f xs) k ≡ Some (f x)
  image_at [] k x at = absurd (cc at)
  image_at (z ∷ xs) zero x at = let it : z ≡ x = cc in ap (λ w. Some (f w)) it
  image_at (z ∷ xs) (suc k) x at = image_at xs k x at

  pub images_size : (xs : List T) → length (map f xs) ≡ length xs
  images_size [] = refl
  images_size (x ∷ xs) = ap suc (images_size xs)

  -- where images are the same, each element has one beside it with its image
  pub same_source : (xs ys : List T) (k : ℕ) (y : T) → map f ys ≡ map f xs → slice_get ys k ≡ Some y →
      HasSource f xs k (f y)
  same_source xs ys k y same at =
      source_of xs k (f y) (ap (λ zs. slice_get zs k) (sym same) ∙ image_at ys k y at)

  pub same_size : (xs ys : List T) → map f ys ≡ map f xs → length ys ≡ length xs
  same_size xs ys same = sym (images_size ys) ∙ ap length same ∙ images_size xs

  -- images of elements that are alike are the same
  pub same_images : (xs ys : List T) → length ys ≡ length xs →
      ((k : ℕ) (x y : T) → slice_get xs k ≡ Some x → slice_get ys k ≡ Some y → f y ≡ f x) → map f ys ≡ map f xs
  same_images [] [] size each = refl
  same_images [] (y ∷ ys) size each = absurd (cc size)
  same_images (x ∷ xs) [] size each = absurd (cc size)
  same_images (x ∷ xs) (y ∷ ys) size each =
      let smaller : length ys ≡ length xs = omega (arith, size) in
      ap (λ z. z ∷ map f ys) (each 0 x y refl refl)
      ∙ ap (λ zs. f x ∷ zs) (same_images xs ys smaller (λ k. each (suc k)))

  pub images_of : (g : T → T) → ((x : T) → f (g x) ≡ f x) → (xs : List T) → map f (map g xs) ≡ map f xs
  images_of g same [] = refl
  images_of g same (x ∷ xs) = ap (λ z. z ∷ map f (map g xs)) (same x) ∙ ap (λ zs. f x ∷ zs) (images_of g same xs)

pub images_on : {T S R : Type 0} (f : T → S) (g : S → R) (xs : List T) → map g (map f xs) ≡ map (λ x. g (f x)) xs
images_on f g [] = refl
images_on f g (x ∷ xs) = ap (λ zs. g (f x) ∷ zs) (images_on f g xs)

row_same : {T : Type 0} (seat : T → SeatView) (first count : ℕ) (xs ys : List T) → map seat ys ≡ map seat xs →
    IsRow seat first count xs → IsRow seat first count ys
row_same seat first count xs ys same row =
    record {
      size = same_size seat xs ys same ∙ row.size;
      numbers =
          λ k y at.
          let from = same_source seat xs ys k y same at in
          sym (ap (λ (s : SeatView). s.number) from.is) ∙ row.numbers k from.source from.at;
    }

pub none_kept : {T : Type 0} (o : Option T) → is_some o ≡ false → o ≡ None
none_kept None is = refl
none_kept (Some x) is = absurd (cc is)

module _ {H X : Type 0} where
  -- the seats of the clock stay where those of the table are gathered
  pub rows_gathered : (script : ScriptModel) (all : List (WorkerState H X)) → AreWorkers clock_seat script all →
      AreWorkers clock_seat script (map unseated all)
  rows_gathered script all rows =
      row_same clock_seat (lane_count script) (worker_count script) all (map unseated all)
      (images_of clock_seat unseated (λ w. refl) all) rows

  -- nobody keeps a lane then
  pub free_there : (all now : List (WorkerState H X)) →
      rests_of besides_of now ≡ rests_of besides_of (map unseated all) →
      (k : ℕ) → IfSome (slice_get now k) (λ one. one.kept ≡ None)
  free_there all now same k = by_case (slice_get now k) refl
    where
      kept_none : (one : WorkerState H X) → slice_get now k ≡ Some one → one.kept ≡ None
      kept_none one at =
          let from = same_source besides_of (map unseated all) now k one same at in
          let before = source_of unseated all k from.source from.at in
          none_kept one.kept
          (sym (ap (λ (b : Besides). b.keeps) from.is)
          ∙ sym (ap (λ (w : WorkerState H X). is_some w.kept) before.is))

      by_case : (o : Option (WorkerState H X)) → slice_get now k ≡ o → IfSome o (λ one. one.kept ≡ None)
      by_case None at = tt
      by_case (Some one) at = kept_none one at

  module _ (lanes : Lanes) (olds news : List (WorkerState H X)) (size : length news ≡ length olds)
      (sat : HaveSatDown lanes 0 olds news) where
    -- a seat at the table changes nothing else
    same_but_turns : {S : Type 0} (f : WorkerState H X → S) →
        ((w : WorkerState H X) (s : Option Seated) → f (record w { turns = s }) ≡ f w) → map f news ≡ map f olds
    same_but_turns f stays =
        same_images f olds news size
        (λ k old new was is.
        let one = sat.each k old new (omega arith) was is in ap f one.is ∙ stays old (Some one.seat))

    pub rows_sat : (script : ScriptModel) → AreWorkers clock_seat script olds → AreWorkers clock_seat script news
    rows_sat script rows =
        row_same clock_seat (lane_count script) (worker_count script) olds news
        (same_but_turns clock_seat (λ w s. refl)) rows

    pub rounds_sat : (script : ScriptModel) (stand : Stand) →
        AreInRound base_kept runs_kept script stand olds (length olds) → KnowTheRound script stand news
    rounds_sat script stand rounds k one less at =
        let from =
        same_source (λ (w : WorkerState H X). w.seat) olds news k one
        (same_but_turns (λ (w : WorkerState H X). w.seat) (λ w s. refl)) at in
        let within : k < length olds = omega (arith, less, size) in
        subst (λ (seat : WorkerView). IsInRound script stand seat.round.base seat.round.running) from.is
        (rounds k from.source within from.at)

    pub lasts_sat : map last_of news ≡ map last_of olds
    lasts_sat = same_but_turns last_of (λ w s. refl)

    pub logs_sat : map log_of news ≡ map log_of olds
    logs_sat = same_but_turns log_of (λ w s. refl)

    pub clocks_sat : map clock_seat news ≡ map clock_seat olds
    clocks_sat = same_but_turns clock_seat (λ w s. refl)

    pub seated_sat : length olds ≡ lanes.seats → AreSeated lanes news
    seated_sat count =
        record {
          size = size ∙ count;
          each =
              λ k one at.
              let from =
              same_source last_of olds news k one lasts_sat at in
              let sits = sat.each k from.source one (omega arith) from.at at in
              record {
                seat = sits.seat;
                is = ap (λ (w : WorkerState H X). w.turns) sits.is;
                fits = sits.fits;
                sole = sits.sole;
              };
        }

  -- where all that workers have besides is the same, so is each part of it
  pub parts_stay : {S : Type 0} (part : Besides → S) (xs ys : List (WorkerState H X)) →
      rests_of besides_of ys ≡ rests_of besides_of xs →
      map (λ w. part (besides_of w)) ys ≡ map (λ w. part (besides_of w)) xs
  parts_stay part xs ys same =
      sym (images_on besides_of part ys) ∙ ap (map part) same ∙ images_on besides_of part xs

  -- an event changes no last end
  lasts_stay : (all now : List (WorkerState H X)) →
      rests_of besides_of now ≡ rests_of besides_of (map unseated all) → map last_of now ≡ map last_of all
  lasts_stay all now same =
      parts_stay (λ (b : Besides). b.last) (map unseated all) now same ∙ images_of last_of unseated (λ w. refl) all

  -- and no log
  logs_stay : (all now : List (WorkerState H X)) →
      rests_of besides_of now ≡ rests_of besides_of (map unseated all) → map log_of now ≡ map log_of all
  logs_stay all now same =
      parts_stay (λ (b : Besides). b.log) (map unseated all) now same ∙ images_of log_of unseated (λ w. refl) all

-- between the opener's calls all is as it has to be again
module _ {H X : Type 0} (script : ScriptModel) (lanes : Lanes) (all mid last : List (WorkerState H X))
    (ready : AreReady script lanes all) (rows : AreWorkers clock_seat script mid)
    (same : rests_of besides_of mid ≡ rests_of besides_of (map unseated all)) (size : length last ≡ length mid)
    (sat : HaveSatDown lanes 0 mid last) where
  pub ready_again : AreReady script lanes last
  ready_again =
      record {
        rows = rows_sat lanes mid last size sat script rows;
        seats =
            seated_sat lanes mid last size sat
            (rows.size ∙ sym ready.rows.size ∙ ready.seats.size);
      }

  pub lasts_again : map last_of last ≡ map last_of all
  lasts_again = lasts_sat lanes mid last size sat ∙ lasts_stay all mid same

  pub logs_again : map log_of last ≡ map log_of all
  logs_again = logs_sat lanes mid last size sat ∙ logs_stay all mid same

-- a list that was lent whole is what was left of it
pub all_written : {T : Type 0} (n : ℕ) (xs ys : List T) → length ys ≡ length xs → n ≡ length xs →
    take n (ys ++ drop (length ys) xs) ≡ ys
all_written zero [] [] size same = refl
all_written (suc n) [] [] size same = refl
all_written n [] (y ∷ ys) size same = absurd (cc size)
all_written n (x ∷ xs) [] size same = absurd (cc size)
all_written zero (x ∷ xs) (y ∷ ys) size same = absurd (cc same)
all_written (suc n) (x ∷ xs) (y ∷ ys) size same =
    ap (λ zs. y ∷ zs) (all_written n xs ys (omega (arith, size)) (omega (arith, same)))

pub counted : {H X : Type 0} (script : ScriptModel) (all : List (WorkerState H X)) → AreWorkers clock_seat script all →
    0 < length all
counted script all rows = omega (arith, rows.size)

-- the reactor's lane goes on unless its reactor failed
pub works_on : {H X : Type 0} (t : Terms H X) (value : LaneValue H X) → IsBaton t value → has_failed value ≡ false →
    (seat_of value).number ≡ reactor_lane t.names.script → NoneStops (own (seat_of value))
works_on t (handlers (Some view)) is works here =
    let strand : view.lane.lane < reactor_lane t.names.script = is.strand in
    let number : view.lane.pen.seat.number ≡ view.lane.lane = is.is_lane.number in
    absurd (omega (arith, strand, number, here))
works_on t (handlers None) is works here = absurd is
works_on t (reactor (Some view)) is works here =
    reactor_goes_on t.names t.clock view.lane is.is_lane is.last (is.keeps.failed ∙ works)
works_on t (reactor None) is works here = absurd is

-- the seat with which the caller's own worker ran still stands for all numbers
pub own_stands : {H X : Type 0} (lanes : Lanes) (count : ℕ) (from seat : Seated) (ran : WorkerState H X) →
    StandsForFirst lanes count from → IsSeated lanes ran → numbers_of ran.turns ≡ from.numbers →
    option_map without_turns ran.turns ≡ Some seat → StandsForFirst lanes count seat
own_stands lanes count from seat ran first seated numbers left =
    let same : Some (without_turns seated.seat) ≡ Some seat =
    sym (ap (option_map without_turns) seated.is) ∙ left in
    let it : without_turns seated.seat ≡ seat = cc same in
    subst (λ s. StandsForFirst lanes count s) it
    (record {
      fits = seated.fits;
      free = refl;
      numbers = sym (ap numbers_of seated.is) ∙ numbers ∙ first.numbers;
    })
