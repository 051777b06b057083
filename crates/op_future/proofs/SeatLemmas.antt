-- The workers of a round, each with a task, went on.
use Rattle.std.proofs.Common.{◌≡◌, ◌∙◌, ◌⊎◌, ℕ, zero, suc, ◌+◌, ◌<◌, ◌≤◌, List, [], ◌∷◌, ◌++◌, Some, ap, arith, get_or, inl, inr, ⊎_elim, length, length-append, map, refl, subst, sym}
use Rattle.std.specs.Prelude.{slice_get}
use Rattle.std.proofs.lemmas.List.{append-nil, nil_from_length}
use Rattle.std.proofs.lemmas.Option.{slice_get_cases}
use Rattle.session_script.specs.Script.{ScriptModel}
use Rattle.turn_table.specs.Seated.{Lanes}
use Rattle.lane_clock.specs.Knowledge.{StartOf, steps_at}
use Rattle.lane_clock.specs.Seats.{own}
use Rattle.lane_turns.specs.AllWorkers.{AreReady, clock_seat, log_of}
use Rattle.lane_turns.specs.Attempts.{IsSeated, WorkerState}
use Rattle.lane_turns.specs.Benches.{AreWorkers}
use Rattle.lane_turns.specs.Gathering.{AreSeated, IsSeatedAs}
use Rattle.lane_turns.specs.KeptSteps.{AllRemember}
use Rattle.lane_turns.specs.Scanning.{GoesOn, numbers_of}
use Rattle.lane_turns.proofs.AllWorkersLemmas.{images_size, same_images}
use Rattle.lane_turns.proofs.MeetAllLemmas.{below_size}
use Rattle.op_future.specs.Seats.{EachWithTask, HasRunTask, HaveGotFrom}
use Rattle.op_future.specs.Steps.{Party, party}
use Rattle.op_future.specs.Tasks.{TaskState}
use Rattle.op_future.proofs.GotLemmas.{from_more}

module _ {H X : Type 0} (script : ScriptModel) (lanes : Lanes) (olds news : List (WorkerState H X))
    (tasks tasks_now : List TaskState) (ran : EachWithTask (HasRunTask script lanes) olds news tasks tasks_now) where
  -- each went on and has its seat, or is as it was
  went : (k : ℕ) (old new : WorkerState H X) → slice_get olds k ≡ Some old → slice_get news k ≡ Some new →
      (old ≡ new) ⊎ (GoesOn old new × IsSeated lanes new)
  went k old new was is =
      ⊎_elim
      (λ before.
      ⊎_elim
      (λ after.
      let did = ran.each k old new before.0 after.0 was is before.2 after.2 in
      inr (did.got.on, did.seated))
      (λ past. absurd (omega (arith, past.0, ran.size, before.1)))
      (slice_get_cases tasks_now k).1)
      (λ past.
      let same : Some old ≡ Some new = sym was ∙ sym (ran.rest k past.0) ∙ is in
      inl (cc same))
      (slice_get_cases tasks k).1

  was_there : (k : ℕ) (new : WorkerState H X) → slice_get news k ≡ Some new →
      (old : WorkerState H X) × (slice_get olds k ≡ Some old)
  was_there k new is =
      ⊎_elim (λ there. (there.0, there.2))
      (λ past. absurd (let less = below_size news k new is in omega (arith, past.0, less, ran.workers)))
      (slice_get_cases olds k).1

  seated_as : (k : ℕ) (old new : WorkerState H X) → IsSeatedAs lanes k old → GoesOn old new → IsSeated lanes new →
      IsSeatedAs lanes k new
  seated_as k old new was on seated =
      record {
        seat = seated.seat;
        is = seated.is;
        fits = seated.fits;
        sole = ap numbers_of (sym seated.is) ∙ (on.numbers ∙ (ap numbers_of was.is ∙ was.sole));
      }

  pub logs_stay : map log_of news ≡ map log_of olds
  logs_stay =
      same_images log_of olds news ran.workers
      (λ k old new was is.
      ⊎_elim (λ (same : old ≡ new). ap log_of (sym same))
      (λ (on : GoesOn old new × IsSeated lanes new). on.0.seat.log) (went k old new was is))

  pub still_ready : AreReady script lanes olds → AreReady script lanes news
  still_ready ready =
      record {
        rows =
            record {
              size = ran.workers ∙ ready.rows.size;
              numbers =
                  λ k one is.
                  let before = was_there k one is in
                  ⊎_elim
                  (λ (same : before.0 ≡ one).
                  ap (λ (w : WorkerState H X). (clock_seat w).number) (sym same)
                  ∙ ready.rows.numbers k before.0 before.1)
                  (λ (on : GoesOn before.0 one × IsSeated lanes one).
                  on.0.seat.number ∙ ready.rows.numbers k before.0 before.1)
                  (went k before.0 one before.1 is);
            };
        seats =
            record {
              size = ran.workers ∙ ready.seats.size;
              each =
                  λ k one is.
                  let before = was_there k one is in
                  ⊎_elim
                  (λ (same : before.0 ≡ one).
                  subst (IsSeatedAs lanes k) same (ready.seats.each k before.0 before.1))
                  (λ (on : GoesOn before.0 one × IsSeated lanes one).
                  seated_as k before.0 one (ready.seats.each k before.0 before.1) on.0 on.1)
                  (went k before.0 one before.1 is);
            };
      }

  -- and the tasks' receipts are theirs also where they know more
  pub got_from : (later : List (WorkerState H X)) → AllRemember clock_seat news later →
      AreWorkers clock_seat script news → AreWorkers clock_seat script later →
      HaveGotFrom script later tasks tasks_now
  got_from later remember then now =
      record {
        size = ran.size;
        each =
            λ k worker before after at was is.
            let knew = remember k worker at in
            let first = was_there k knew.old knew.was in
            let did = ran.each k first.0 knew.old before after first.1 knew.was was is in
            let number : (clock_seat knew.old).number ≡ (clock_seat worker).number =
            then.numbers k knew.old knew.was ∙ sym (now.numbers k worker at) in
            from_more script (own (clock_seat knew.old)) (own (clock_seat worker)) before after
            (subst (λ n. StartOf (own (clock_seat knew.old)) (steps_at (clock_seat worker).known n)) number
            (knew.remembers (clock_seat knew.old).number))
            did.got.got;
      }

-- tasks that sit with workers
module _ {S T H X : Type 0} (worker : S → WorkerState H X) (task : S → T) (state : T → TaskState)
    (Did : Party H X → Party H X → Type 0) (own : WorkerState H X) where
  abbrev pub AllDid : List S → List S → Type 0
  AllDid olds news = (k : ℕ) (d : S) → k < length olds → Did (party (worker (get_or olds k d)) (state (task (get_or olds k d))))
      (party (worker (get_or news k d)) (state (task (get_or news k d))))

  did_at : (olds news : List S) → AllDid olds news → (k : ℕ) (old new : WorkerState H X) (before after : TaskState) →
      slice_get (map worker olds ++ own ∷ []) k ≡ Some old → slice_get (map worker news ++ own ∷ []) k ≡ Some new →
      slice_get (map state (map task olds)) k ≡ Some before → slice_get (map state (map task news)) k ≡ Some after →
      Did (party old before) (party new after)
  did_at [] news did k old new before after was is stood stands = absurd (cc stood)
  did_at (o ∷ olds) [] did k old new before after was is stood stands = absurd (cc stands)
  did_at (o ∷ olds) (n ∷ news) did zero old new before after was is stood stands =
      let a : worker o ≡ old = cc was in
      let b : worker n ≡ new = cc is in
      let c : state (task o) ≡ before = cc stood in
      let d : state (task n) ≡ after = cc stands in
      subst (λ w. Did (party w before) (party new after)) a
      (subst (λ w. Did (party (worker o) before) (party w after)) b
      (subst (λ t. Did (party (worker o) t) (party (worker n) after)) c
      (subst (λ t. Did (party (worker o) (state (task o))) (party (worker n) t)) d (did 0 o (omega arith)))))
  did_at (o ∷ olds) (n ∷ news) did (suc k) old new before after was is stood stands =
      did_at olds news (λ j e less. did (suc j) e (omega (arith, less))) k old new before after was is stood stands

  rest_at : (olds news : List S) → length news ≡ length olds → (k : ℕ) → length (map state (map task olds)) ≤ k →
      slice_get (map worker news ++ own ∷ []) k ≡ slice_get (map worker olds ++ own ∷ []) k
  rest_at [] [] size k past = refl
  rest_at [] (n ∷ news) size k past = absurd (cc size)
  rest_at (o ∷ olds) [] size k past = absurd (cc size)
  rest_at (o ∷ olds) (n ∷ news) size zero past = absurd (omega (arith, past))
  rest_at (o ∷ olds) (n ∷ news) size (suc k) past = rest_at olds news (omega (arith, size)) k (omega (arith, past))

  workers_size : (olds news : List S) → length news ≡ length olds →
      length (map worker news ++ own ∷ []) ≡ length (map worker olds ++ own ∷ [])
  workers_size [] [] size = refl
  workers_size [] (n ∷ news) size = absurd (cc size)
  workers_size (o ∷ olds) [] size = absurd (cc size)
  workers_size (o ∷ olds) (n ∷ news) size = ap suc (workers_size olds news (omega (arith, size)))

  tasks_size : (olds news : List S) → length news ≡ length olds →
      length (map state (map task news)) ≡ length (map state (map task olds))
  tasks_size [] [] size = refl
  tasks_size [] (n ∷ news) size = absurd (cc size)
  tasks_size (o ∷ olds) [] size = absurd (cc size)
  tasks_size (o ∷ olds) (n ∷ news) size = ap suc (tasks_size olds news (omega (arith, size)))

  pub each_did : (olds news : List S) → length news ≡ length olds → AllDid olds news →
      EachWithTask Did (map worker olds ++ own ∷ []) (map worker news ++ own ∷ []) (map state (map task olds))
      (map state (map task news))
  each_did olds news size did =
      record {
        workers = workers_size olds news size;
        size = tasks_size olds news size;
        each = did_at olds news did;
        rest = rest_at olds news size;
      }

  -- the same of lists that are these
  pub tasks_did : (olds news : List S) → length news ≡ length olds → AllDid olds news → (workers workers_now : List (WorkerState H X))
      (tasks tasks_now : List T) → map worker olds ++ own ∷ [] ≡ workers → workers_now ≡ map worker news ++ own ∷ [] →
      map task olds ≡ tasks → tasks_now ≡ map task news →
      EachWithTask Did workers workers_now (map state tasks) (map state tasks_now)
  tasks_did olds news size did workers workers_now tasks tasks_now was is stood stands =
      subst (λ ws. EachWithTask Did ws workers_now (map state tasks) (map state tasks_now)) was
      (subst (λ ws. EachWithTask Did (map worker olds ++ own ∷ []) ws (map state tasks) (map state tasks_now)) (sym is)
      (subst (λ ts. EachWithTask Did (map worker olds ++ own ∷ []) (map worker news ++ own ∷ []) (map state ts) (map state tasks_now))
      stood
      (subst (λ ts.
      EachWithTask Did (map worker olds ++ own ∷ []) (map worker news ++ own ∷ []) (map state (map task olds)) (map state ts))
      (sym stands) (each_did olds news size did))))

  seat_at : (seats : List S) (k : ℕ) (d : S) → k < length seats →
      slice_get (map worker seats ++ own ∷ []) k ≡ Some (worker (get_or seats k d))
  seat_at [] k d less = absurd (omega (arith, less))
  seat_at (seat ∷ seats) zero d less = refl
  seat_at (seat ∷ seats) (suc k) d less = seat_at seats k d (omega (arith, less))

  -- those that sit with tasks have their seats at the table
  pub all_seated : (lanes : Lanes) (seats : List S) (workers : List (WorkerState H X)) →
      map worker seats ++ own ∷ [] ≡ workers → AreSeated lanes workers → (k : ℕ) (d : S) → k < length seats →
      IsSeated lanes (worker (get_or seats k d))
  all_seated lanes seats workers same seated k d less =
      let one = seated.each k (worker (get_or seats k d)) (ap (λ ws. slice_get ws k) (sym same) ∙ seat_at seats k d less) in
      record { seat = one.seat; is = one.is; fits = one.fits }

-- all have sat down
pub all_sit : {S T W : Type 0} (worker : S → W) (task : S → T) (seats : List S) (own : W) (left rest workers : List W)
    (none tasks : List T) → map worker seats ++ left ≡ workers → map task seats ++ none ≡ tasks → none ≡ [] →
    left ≡ own ∷ rest → length workers ≡ length tasks + 1 →
    (map worker seats ++ own ∷ [] ≡ workers) × (map task seats ≡ tasks)
all_sit worker task seats own left rest workers none tasks sat had nobody next count =
    let all : map task seats ≡ tasks =
    sym (append-nil (map task seats)) ∙ ap (λ xs. map task seats ++ xs) (sym nobody) ∙ had in
    let sum = ap length sat in
    let parts = length-append (map worker seats) left in
    let images = images_size worker seats in
    let others = images_size task seats in
    let whole = ap length all in
    let one = ap length next in
    let last : rest ≡ [] = nil_from_length rest (omega (arith, sum, parts, images, others, whole, one, count)) in
    (ap (λ xs. map worker seats ++ xs) (ap (λ xs. own ∷ xs) (sym last) ∙ sym next) ∙ sat, all)

-- and there is room for each that stands up
module _ {A B : Type 0} (f : A → B) (made : List B) (rest all : List A) (held : made ++ map f rest ≡ map f all) where
  pub some_made : length made ≤ length all
  some_made =
      let sum = ap length held in
      let parts = length-append made (map f rest) in
      let images = images_size f all in
      omega (arith, sum, parts, images)

  pub fewer_made : (one : A) (next : List A) → rest ≡ one ∷ next → length made < length all
  fewer_made one next is =
      let sum = ap length held in
      let parts = length-append made (map f rest) in
      let left = images_size f rest in
      let images = images_size f all in
      let more = ap length is in
      omega (arith, sum, parts, left, images, more)
