-- Lanes and workers come apart at the end of a context: the values of all lanes leave their boxes, and
-- each worker leaves its seat.
use Rattle.std.proofs.Common.{◌≡◌, ℕ, zero, suc, ◌+◌, ◌<◌, List, [], ◌∷◌, ◌++◌, None, Option, Some, get_or, length, refl, sym, ap, subst, ◌∙◌, arith, length-append, append_assoc}
use Rattle.std.specs.Prelude.{IfSome, map, slice_get}
use Rattle.std.proofs.Math.ListN.{get_or-append}
use Rattle.std.proofs.Math.Seq.{get_or-append_seam}
use Rattle.std.proofs.lemmas.List.{get_or-map, length-map, map-append}
use Rattle.session_script.specs.Script.{ScriptModel}
use Rattle.turn_table.specs.Laid.{AreAtHome}
use Rattle.lane_map.specs.LaneNumbers.{reactor_lane}
use Rattle.lane_map.proofs.NumberLemmas as lane_numbers
use Rattle.lane_logs.specs.declared.log.LogEntry.{LogEntry}
use Rattle.lane_logs.specs.Logs.{LogsView, entries_of}
use Rattle.lane_logs.specs.SeatNumbers.{lane_count}
use Rattle.lane_turns.specs.AllWorkers.{clock_seat}
use Rattle.lane_turns.specs.Attempts.{WorkerState}
use Rattle.lane_turns.specs.Batons.{BatonView}
use Rattle.lane_turns.specs.Benches.{AreWorkers}
use Rattle.lane_turns.specs.Finishing.{KeepLogsOf}
use Rattle.lane_turns.specs.Gathering.{unseated}
use Rattle.lane_turns.specs.LaneValues.{LaneValue, handlers, home_of, reactor}
use Rattle.lane_turns.specs.Turning.{ReactorView}
use Rattle.lane_turns.specs.Workers.{WorkerView}
use Rattle.lane_turns.proofs.AllWorkersLemmas.{image_at}
use Rattle.lane_turns.proofs.NewPenLemmas.{reached}

-- of the values of all lanes the last is the reactor's
pub last_home : {H X : Type 0} (script : ScriptModel) (values front : List (LaneValue H X)) (last : LaneValue H X) →
    values ≡ front ++ last ∷ [] → length values ≡ lane_count script → AreAtHome home_of values →
    home_of last ≡ reactor_lane script
last_home script values front last is count home =
    let long : length values ≡ length front + 1 = ap length is ∙ length-append front (last ∷ []) in
    let here : get_or values (length front) last ≡ last =
    ap (λ xs. get_or xs (length front) last) is ∙ get_or-append_seam front last [] last in
    let at : home_of (get_or values (length front) last) ≡ length front =
    home (length front) last (omega (arith, long)) in
    omega (arith, sym (ap home_of here) ∙ at, long, count, lane_numbers.lane_count script)

-- the values of all lanes, of which the first are out of their boxes, and the last, the reactor's
module _ {H X : Type 0} (script : ScriptModel) (values : List (LaneValue H X)) (last : ReactorView X) where
  abbrev boxed : BatonView H → LaneValue H X
  boxed baton = handlers (Some baton)

  abbrev pub IsParting : List (BatonView H) → List (LaneValue H X) → Type 0
  IsParting out rest = values ≡ (map boxed out ++ rest) ++ reactor (Some last) ∷ []

  pub parting_none : (front rest : List (LaneValue H X)) (value : LaneValue H X) (out : List (BatonView H)) →
      values ≡ front ++ value ∷ [] → value ≡ reactor (Some last) → rest ≡ front → out ≡ [] → IsParting out rest
  parting_none front rest value out is it same none =
      is ∙ ap (λ v. front ++ v ∷ []) it ∙ ap (λ xs. xs ++ reactor (Some last) ∷ []) (sym same)
      ∙ ap (λ bs. (map boxed bs ++ rest) ++ reactor (Some last) ∷ []) (sym none)

  module _ (out : List (BatonView H)) (rest next : List (LaneValue H X)) (value : LaneValue H X)
      (split : rest ≡ value ∷ next) (is : IsParting out rest) where
    seam : values ≡ map boxed out ++ value ∷ (next ++ reactor (Some last) ∷ [])
    seam =
        is ∙ ap (λ xs. (map boxed out ++ xs) ++ reactor (Some last) ∷ []) split
        ∙ append_assoc (map boxed out) (value ∷ next) (reactor (Some last) ∷ [])

    -- the next is a lane on which handlers execute
    pub next_within : length values ≡ lane_count script → length out < reactor_lane script
    next_within count =
        omega (
          arith,
          count,
          lane_numbers.lane_count script,
          ap length seam ∙ length-append (map boxed out) (value ∷ (next ++ reactor (Some last) ∷ [])),
          length-append next (reactor (Some last) ∷ []),
          length-map out boxed,
        )

    pub next_home : length values ≡ lane_count script → AreAtHome home_of values → home_of value < reactor_lane script
    next_home count home =
        let within = next_within count in
        let here : get_or values (length out) value ≡ value =
        ap (λ n. get_or values n value) (sym (length-map out boxed)) ∙ ap (λ xs. get_or xs (length (map boxed out)) value) seam
        ∙ get_or-append_seam (map boxed out) value (next ++ reactor (Some last) ∷ []) value in
        let at : home_of (get_or values (length out) value) ≡ length out =
        home (length out) value (omega (arith, within, count, lane_numbers.lane_count script)) in
        omega (arith, sym (ap home_of here) ∙ at, within)

    pub parting_more : (after : List (BatonView H)) (one : BatonView H) → value ≡ handlers (Some one) →
        after ≡ out ++ one ∷ [] → IsParting after next
    parting_more after one it pushed =
        is ∙ ap (λ xs. (map boxed out ++ xs) ++ reactor (Some last) ∷ []) (split ∙ ap (λ v. v ∷ next) it)
        ∙ ap (λ xs. xs ++ reactor (Some last) ∷ []) (sym (append_assoc (map boxed out) (boxed one ∷ []) next))
        ∙ ap (λ xs. (xs ++ next) ++ reactor (Some last) ∷ [])
        (sym (map-append boxed out (one ∷ [])) ∙ ap (map boxed) (sym pushed))

  -- where all are out
  module _ (out : List (BatonView H)) (are : values ≡ map boxed out ++ reactor (Some last) ∷ []) where
    pub lanes_counted : length values ≡ lane_count script → length out ≡ reactor_lane script
    lanes_counted count =
        omega (
          arith,
          count,
          lane_numbers.lane_count script,
          ap length are ∙ length-append (map boxed out) (reactor (Some last) ∷ []),
          length-map out boxed,
        )

    pub lanes_numbered : AreAtHome home_of values → (k : ℕ) → IfSome (slice_get out k) (λ baton. baton.lane.lane ≡ k)
    lanes_numbered home k = each_at out (λ n baton. baton.lane.lane ≡ n) numbered k
      where
        numbered : (n : ℕ) (baton : BatonView H) → n < length out → get_or out n baton ≡ baton → baton.lane.lane ≡ n
        numbered n baton less here =
            let long : length values ≡ length out + 1 =
            ap length are ∙ length-append (map boxed out) (reactor (Some last) ∷ [])
            ∙ ap (λ m. m + 1) (length-map out boxed) in
            let it : get_or values n (boxed baton) ≡ boxed baton =
            ap (λ xs. get_or xs n (boxed baton)) are
            ∙ get_or-append (map boxed out) (reactor (Some last) ∷ []) (boxed baton) n
            (omega (arith, less, length-map out boxed))
            ∙ get_or-map boxed out n baton (boxed baton) less ∙ ap boxed here in
            sym (ap home_of it) ∙ home n (boxed baton) (omega (arith, less, long))

        each_at : (xs : List (BatonView H)) (P : ℕ → BatonView H → Type 0) →
            ((n : ℕ) (x : BatonView H) → n < length xs → get_or xs n x ≡ x → P n x) → (k : ℕ) → IfSome (slice_get xs k) (P k)
        each_at [] P each k = tt
        each_at (x ∷ xs) P each zero = each 0 x (omega arith) refl
        each_at (x ∷ xs) P each (suc k) =
            each_at xs (λ n. P (suc n)) (λ n y less is. each (suc n) y (omega (arith, less)) is) k

module _ {H X : Type 0} where
  -- workers whose seats at the table were gathered keep no lane
  pub none_kept : (all : List (WorkerState H X)) (k : ℕ) →
      IfSome (slice_get (map unseated all) k) (λ one. one.kept ≡ None)
  none_kept [] k = tt
  none_kept (one ∷ all) zero = refl
  none_kept (one ∷ all) (suc k) = none_kept all k

  -- their seats of the clock stay
  pub seats_unseated : (all : List (WorkerState H X)) →
      map (λ worker. worker.seat) (map unseated all) ≡ map (λ worker. worker.seat) all
  seats_unseated [] = refl
  seats_unseated (one ∷ all) = ap (λ seats. one.seat ∷ seats) (seats_unseated all)

  -- the seats of workers have their numbers
  abbrev pub seats_in : List (WorkerState H X) → List WorkerView
  seats_in all = map (λ worker. worker.seat) all

  each_seat : (P : ℕ → WorkerView → Type 0) (all : List (WorkerState H X)) →
      ((k : ℕ) (one : WorkerState H X) → slice_get all k ≡ Some one → P k one.seat) → (k : ℕ) →
      IfSome (slice_get (seats_in all) k) (P k)
  each_seat P [] each k = tt
  each_seat P (one ∷ all) each zero = each 0 one refl
  each_seat P (one ∷ all) each (suc k) = each_seat (λ n. P (suc n)) all (λ n other at. each (suc n) other at) k

  pub seats_numbered : (script : ScriptModel) (all : List (WorkerState H X)) (seats : List WorkerView) →
      AreWorkers clock_seat script all → seats ≡ seats_in all → (k : ℕ) →
      IfSome (slice_get seats k) (λ worker. worker.pen.seat.number ≡ lane_count script + k)
  seats_numbered script all seats rows are k =
      subst (λ xs. IfSome (slice_get xs k) (λ worker. worker.pen.seat.number ≡ lane_count script + k)) (sym are)
      (each_seat (λ n worker. worker.pen.seat.number ≡ lane_count script + n) all rows.numbers k)

  -- the worker that is next keeps no lane
  pub next_kept : (all front next : List (WorkerState H X)) (one : WorkerState H X) → all ≡ front ++ one ∷ next →
      ((k : ℕ) → IfSome (slice_get all k) (λ worker. worker.kept ≡ None)) → one.kept ≡ None
  next_kept all front next one is free =
      subst (λ o. IfSome o (λ worker. worker.kept ≡ None)) (reached all front one next is) (free (length front))

-- the logs of images are those of what they are images of
pub kept_of : {T S : Type 0} (f : T → S) (log : S → List LogEntry) (script : ScriptModel) (logs : LogsView)
    (all : List T) → KeepLogsOf log script logs (map f all) → KeepLogsOf (λ one. log (f one)) script logs all
kept_of {T} f log script logs all kept k = by_case (slice_get all k) refl
  where
    by_case : (o : Option T) → slice_get all k ≡ o →
        IfSome o (λ one. entries_of logs (lane_count script + k) ≡ log (f one))
    by_case None at = tt
    by_case (Some one) at =
        subst (λ o. IfSome o (λ it. entries_of logs (lane_count script + k) ≡ log it)) (image_at f all k one at) (kept k)
