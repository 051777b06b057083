-- All workers, of which the first ran at the same time.
use Rattle.std.proofs.Common.{◌≡◌, ◌∙◌, ◌⊎◌, ℕ, zero, suc, ◌<◌, ◌≤◌, List, [], ◌∷◌, ◌++◌, Some, ap, arith, inl, inr, ⊎_elim, length, map, refl, subst, sym}
use Rattle.std.specs.Prelude.{drop, slice_get, slice_index_or, take}
use Rattle.std.proofs.lemmas.Bool.{cases_lt}
use Rattle.std.proofs.lemmas.Option.{slice_get_cases}
use Rattle.session_script.specs.Script.{ScriptModel}
use Rattle.turn_table.specs.Seated.{Lanes}
use Rattle.lane_turns.specs.AllWorkers.{AreReady, log_of}
use Rattle.lane_turns.specs.Attempts.{IsSeated, WorkerState}
use Rattle.lane_turns.specs.Gathering.{IsSeatedAs}
use Rattle.lane_turns.specs.LaneValues.{Tries}
use Rattle.lane_turns.specs.Scanning.{numbers_of}
use Rattle.lane_context.specs.SideBySide.{FirstHaveRun, HasCalledRun}
use Rattle.lane_turns.proofs.AllWorkersLemmas.{same_images}
use Rattle.lane_turns.proofs.MeetAllLemmas.{below_size}

module _ {H X : Type 0} (t : Tries H X) (lanes : Lanes) where
  abbrev pub HaveRun : List (WorkerState H X) → List (WorkerState H X) → Type 0
  HaveRun olds news = (k : ℕ) (d : WorkerState H X) → k < length olds →
      HasCalledRun t lanes (slice_index_or olds k d) (slice_index_or news k d)

  -- the first were lent, and come back
  ran_at : (count : ℕ) (olds ran : List (WorkerState H X)) → length ran ≡ length (take count olds) →
      HaveRun (take count olds) ran → (k : ℕ) (old new : WorkerState H X) → k < count → slice_get olds k ≡ Some old →
      slice_get (ran ++ drop count olds) k ≡ Some new → HasCalledRun t lanes old new
  ran_at zero olds ran size each k old new below was is = absurd (omega (arith, below))
  ran_at (suc count) [] ran size each k old new below was is = absurd (cc was)
  ran_at (suc count) (o ∷ olds) [] size each k old new below was is = absurd (omega (arith, size))
  ran_at (suc count) (o ∷ olds) (r ∷ ran) size each zero old new below was is =
      let before : o ≡ old = cc was in
      let after : r ≡ new = cc is in
      subst (λ (x : WorkerState H X). HasCalledRun t lanes x new) before
      (subst (λ (y : WorkerState H X). HasCalledRun t lanes o y) after (each zero o (omega arith)))
  ran_at (suc count) (o ∷ olds) (r ∷ ran) size each (suc k) old new below was is =
      ran_at count olds ran (omega (arith, size)) (λ k d less. each (suc k) d (omega (arith, less))) k old new
      (omega (arith, below)) was is

  others_at : (count : ℕ) (olds ran : List (WorkerState H X)) → length ran ≡ length (take count olds) → (k : ℕ) →
      count ≤ k → slice_get (ran ++ drop count olds) k ≡ slice_get olds k
  others_at zero olds [] size k past = refl
  others_at zero olds (r ∷ ran) size k past = absurd (omega (arith, size))
  others_at (suc count) [] [] size k past = refl
  others_at (suc count) [] (r ∷ ran) size k past = absurd (omega (arith, size))
  others_at (suc count) (o ∷ olds) [] size k past = absurd (omega (arith, size))
  others_at (suc count) (o ∷ olds) (r ∷ ran) size zero past = absurd (omega (arith, past))
  others_at (suc count) (o ∷ olds) (r ∷ ran) size (suc k) past =
      others_at count olds ran (omega (arith, size)) k (omega (arith, past))

  pub all_there : (count : ℕ) (olds ran : List (WorkerState H X)) → length ran ≡ length (take count olds) →
      length (ran ++ drop count olds) ≡ length olds
  all_there zero olds [] size = refl
  all_there zero olds (r ∷ ran) size = absurd (omega (arith, size))
  all_there (suc count) [] [] size = refl
  all_there (suc count) [] (r ∷ ran) size = absurd (omega (arith, size))
  all_there (suc count) (o ∷ olds) [] size = absurd (omega (arith, size))
  all_there (suc count) (o ∷ olds) (r ∷ ran) size =
      let rest = all_there count olds ran (omega (arith, size)) in
      ap suc rest

  pub first_ran : (count : ℕ) (olds ran : List (WorkerState H X)) → length ran ≡ length (take count olds) →
      HaveRun (take count olds) ran → FirstHaveRun t lanes count olds (ran ++ drop count olds)
  first_ran count olds ran size each =
      record { ran = ran_at count olds ran size each; others = others_at count olds ran size }

  seated_as : (k : ℕ) (old one : WorkerState H X) → IsSeatedAs lanes k old → HasCalledRun t lanes old one →
      IsSeatedAs lanes k one
  seated_as k old one was ran =
      record {
        seat = ran.seated.seat;
        is = ran.seated.is;
        fits = ran.seated.fits;
        sole = ap numbers_of (sym ran.seated.is) ∙ (ran.on.numbers ∙ (ap numbers_of was.is ∙ was.sole));
      }

  module _ (count : ℕ) (olds news : List (WorkerState H X)) (size : length news ≡ length olds)
      (first : FirstHaveRun t lanes count olds news) where
    -- each ran, or is as it was
    went : (k : ℕ) (old new : WorkerState H X) → slice_get olds k ≡ Some old → slice_get news k ≡ Some new →
        (old ≡ new) ⊎ HasCalledRun t lanes old new
    went k old new was is =
        ⊎_elim (λ (below : k < count). inr (first.ran k old new below was is))
        (λ (past : count ≤ k).
        let found : Some old ≡ Some new = sym was ∙ sym (first.others k past) ∙ is in
        inl (cc found))
        (cases_lt k count)

    was_there : (k : ℕ) (new : WorkerState H X) → slice_get news k ≡ Some new →
        (old : WorkerState H X) × (slice_get olds k ≡ Some old)
    was_there k new is =
        ⊎_elim (λ there. (there.0, there.2))
        (λ past. absurd (let less = below_size news k new is in omega (arith, past.0, less, size)))
        (slice_get_cases olds k).1

    pub logs_stay : map log_of news ≡ map log_of olds
    logs_stay =
        same_images log_of olds news size
        (λ k old new was is.
        ⊎_elim (λ (same : old ≡ new). ap log_of (sym same)) (λ (ran : HasCalledRun t lanes old new). ran.on.seat.log)
        (went k old new was is))

    pub still_ready : (script : ScriptModel) → AreReady script lanes olds → AreReady script lanes news
    still_ready script ready =
        record {
          rows =
              record {
                size = size ∙ ready.rows.size;
                numbers =
                    λ k one is.
                    let before = was_there k one is in
                    ⊎_elim
                    (λ (same : before.0 ≡ one).
                    ap (λ (w : WorkerState H X). w.seat.pen.seat.number) (sym same)
                    ∙ ready.rows.numbers k before.0 before.1)
                    (λ (ran : HasCalledRun t lanes before.0 one).
                    ran.on.seat.number ∙ ready.rows.numbers k before.0 before.1)
                    (went k before.0 one before.1 is);
              };
          seats =
              record {
                size = size ∙ ready.seats.size;
                each =
                    λ k one is.
                    let before = was_there k one is in
                    ⊎_elim
                    (λ (same : before.0 ≡ one).
                    subst (IsSeatedAs lanes k) same (ready.seats.each k before.0 before.1))
                    (λ (ran : HasCalledRun t lanes before.0 one).
                    seated_as k before.0 one (ready.seats.each k before.0 before.1) ran)
                    (went k before.0 one before.1 is);
              };
        }

-- the first of all have their seats
pub first_seated : {H X : Type 0} (lanes : Lanes) (script : ScriptModel) (count : ℕ) (olds : List (WorkerState H X)) →
    AreReady script lanes olds → (k : ℕ) (d : WorkerState H X) → k < length (take count olds) →
    IsSeated lanes (slice_index_or (take count olds) k d)
first_seated {H} {X} lanes script count olds ready k d below =
    let found = at count olds k below in
    let seated = ready.seats.each k found.0 found.1 in
    subst (IsSeated lanes) (sym found.2) (record { seat = seated.seat; is = seated.is; fits = seated.fits })
  where
    at : (count : ℕ) (olds : List (WorkerState H X)) (k : ℕ) → k < length (take count olds) →
        (old : WorkerState H X) × (slice_get olds k ≡ Some old) × (slice_index_or (take count olds) k d ≡ old)
    at zero olds k below = absurd (omega (arith, below))
    at (suc count) [] k below = absurd (omega (arith, below))
    at (suc count) (old ∷ olds) zero below = (old, refl, refl)
    at (suc count) (old ∷ olds) (suc k) below = at count olds k (omega (arith, below))
