-- Lists that are filled one by one, with a fact of each element by its index; logs and pens that are
-- new.
use Rattle.std.proofs.Common.{◌≡◌, ℕ, zero, suc, ◌+◌, ◌<◌, ◌≤◌, List, [], ◌∷◌, ◌++◌, Some, None, Option, length, get_or, map, refl, sym, ap, subst, ◌∙◌, arith}
use Rattle.std.specs.Prelude.{Vec, slice_get, vec_capacity}
use Rattle.std.specs.Global.{Global}
use Rattle.std.proofs.Math.Seq.{get_or-append_seam}
use Rattle.std.proofs.lemmas.List.{get_or-map, length-map, map-append}
use Rattle.std.proofs.lemmas.Option.{get_or_from_slice_get, slice_get_within}
use Rattle.lane_clock.specs.Seats.{ClockId}
use Rattle.lane_logs.specs.declared.log.LogEntry.{LogEntry}
use Rattle.lane_turns.specs.Pens.{PenView}
use Rattle.lane_turns.specs.Rooms.{AreNewLogs, AreNewPens, EachAt, IsNewPen}

pub each_none : {T : Type 0} (P : ℕ → T → Type 0) (xs : List T) → xs ≡ [] → EachAt P xs
each_none P xs none k one at =
    absurd (omega (arith, ap length none, slice_get_within xs k one at))

pub each_more : {T : Type 0} (P : ℕ → T → Type 0) (xs : List T) (x : T) → EachAt P xs → P (length xs) x →
    EachAt P (xs ++ x ∷ [])
each_more P [] x each here zero one at = let same : x ≡ one = cc in subst (P 0) same here
each_more P [] x each here (suc k) one at = absurd (cc at)
each_more P (y ∷ ys) x each here zero one at = each zero one at
each_more P (y ∷ ys) x each here (suc k) one at =
    each_more (λ k. P (suc k)) ys x (λ j other there. each (suc j) other there) here k one at

-- one element more, of a list that is known by an equation
pub each_pushed : {T : Type 0} (P : ℕ → T → Type 0) (xs after : List T) (x : T) → after ≡ xs ++ x ∷ [] → EachAt P xs →
    P (length xs) x → EachAt P after
each_pushed P xs after x is each here = subst (EachAt P) (sym is) (each_more P xs x each here)

pub get_seam : {T : Type 0} (front : List T) (one : T) (rest : List T) →
    slice_get (front ++ one ∷ rest) (length front) ≡ Some one
get_seam [] one rest = refl
get_seam (x ∷ front) one rest = get_seam front one rest

-- what is listed of an element that is reached
pub mapped_seam : {T : Type 0} (f : T → ℕ) (all front : List T) (one : T) (rest : List T) →
    all ≡ front ++ one ∷ rest → get_or (map f all) (length front) 0 ≡ f one
mapped_seam f all front one rest is =
    ap (λ xs. get_or (map f xs) (length front) 0) is
    ∙ ap (λ xs. get_or xs (length front) 0) (map-append f front (one ∷ rest))
    ∙ ap (λ n. get_or (map f front ++ f one ∷ map f rest) n 0) (sym (length-map front f))
    ∙ get_or-append_seam (map f front) (f one) (map f rest) 0

pub reached : {T : Type 0} (all front : List T) (one : T) (rest : List T) → all ≡ front ++ one ∷ rest →
    slice_get all (length front) ≡ Some one
reached all front one rest is = ap (λ xs. slice_get xs (length front)) is ∙ get_seam front one rest

-- logs that are new have nothing in them
pub logs_empty : (rooms : List ℕ) (logs : List (Vec LogEntry Global)) → AreNewLogs rooms logs →
    EachAt (λ k log. log.items ≡ []) logs
logs_empty rooms logs new k log at = (new.1 k log at).0

get_none : {T : Type 0} (xs : List T) (k : ℕ) → slice_get xs k ≡ None → length xs ≤ k
get_none [] k is = omega arith
get_none (x ∷ xs) zero is = absurd (cc is)
get_none (x ∷ xs) (suc k) is = let rest = get_none xs k is in omega (arith, rest)

-- a new pen, by equal numbers
pub same_pen : (clock other : ClockId) (n m most less : ℕ) (pen : PenView) → IsNewPen clock n most pen → clock ≡ other →
    n ≡ m → less ≤ most → IsNewPen other m less pen
same_pen clock other n m most less pen new same at room =
    subst (λ (clock : ClockId). IsNewPen clock m less pen) same
    (subst (λ (n : ℕ). IsNewPen clock n less pen) at (record {
      seat = new.seat;
      owns = new.owns;
      log = new.log;
      room = omega (arith, new.room, room);
    }))

-- pens with new logs have their room
pub pens_new : (clock : ClockId) (first : ℕ) (rooms : List ℕ) (logs : List (Vec LogEntry Global)) (pens : List PenView) →
    AreNewLogs rooms logs → AreNewPens clock first (map vec_capacity logs) pens → AreNewPens clock first rooms pens
pens_new clock first rooms logs pens new are = (
  are.0 ∙ length-map logs vec_capacity ∙ new.0,
  λ k pen at.
      let size : length (map vec_capacity logs) ≡ length logs = length-map logs vec_capacity in
      let within : k < length logs = omega (arith, slice_get_within pens k pen at, are.0, size) in
      by_log k pen (are.1 k pen at) (slice_get logs k) refl within,
)
  where
    by_log : (k : ℕ) (pen : PenView) → IsNewPen clock (first + k) (get_or (map vec_capacity logs) k 0) pen →
        (found : Option (Vec LogEntry Global)) → slice_get logs k ≡ found → k < length logs →
        IsNewPen clock (first + k) (get_or rooms k 0) pen
    by_log k pen pen_new (Some log) is within =
        let cap : get_or (map vec_capacity logs) k 0 ≡ vec_capacity log =
        get_or-map vec_capacity logs k log 0 within ∙ ap vec_capacity (get_or_from_slice_get logs k log log is) in
        same_pen clock clock (first + k) (first + k) (get_or (map vec_capacity logs) k 0) (get_or rooms k 0) pen pen_new refl
        refl (omega (arith, cap, (new.1 k log is).1))
    by_log k pen pen_new None is within = absurd (omega (arith, within, get_none logs k is))
