-- The opener that took in all seats owns the steps under all numbers.
use Rattle.std.proofs.Common.{◌≡◌, ℕ, ◌+◌, ◌<◌, List, [], ◌∷◌, ◌++◌, length, map, ap, sym, subst, ◌∙◌, arith}
use Rattle.std.specs.Prelude.{All, slice_index_or}
use mathlib.Core.Logic.{dite}
use native.Mathlib.Decide.{ℕ_discrete}
use Rattle.session_script.specs.Script.{ScriptModel}
use Rattle.lane_clock.specs.Seats.{ClockId, Owns}
use Rattle.lane_logs.specs.SeatNumbers.{opener_seat}
use Rattle.lane_turns.specs.Openers.{IsOpener, OpenerView}
use Rattle.lane_turns.specs.Pens.{PenView, no_pen}
use Rattle.lane_turns.specs.TakingIn.{AreTakenIn}

module _ (script : ScriptModel) (pens : List PenView) (count : length pens ≡ opener_seat script)
    (numbers : (k : ℕ) (d : PenView) → k < length pens → (slice_index_or pens k d).seat.number ≡ k) where
  pub all_apart : All (λ pen. pen.seat.number < opener_seat script) pens
  all_apart k d less = omega (arith, numbers k d less, count, less)

  pub owns_all : (clock : ClockId) (first last : OpenerView) → IsOpener script clock last →
      AreTakenIn script pens first last → (n : ℕ) → n < opener_seat script + 1 → Owns last.pen.seat n
  owns_all clock first last is taken n less =
      dite (ℕ_discrete n (opener_seat script))
      (λ (same : n ≡ opener_seat script). subst (Owns last.pen.seat) (sym same) is.owns)
      (λ ne.
      let within : n < length pens = omega (arith, less, ne, count) in
      subst (Owns last.pen.seat) (numbers n no_pen within) (taken.taken n no_pen within).owns)

-- the logs that were put together, with the opener's behind them
pub put_last : {V : Type 0} (made pens : List V) (one last : V) → made ≡ pens → one ≡ last →
    made ++ one ∷ [] ≡ pens ++ last ∷ []
put_last made pens one last first second = ap (λ xs. xs ++ one ∷ []) first ∙ ap (λ x. pens ++ x ∷ []) second

-- where nothing was there at first
pub put_first : {T V : Type 0} (f : T → V) (old : List T) (new made : List V) → old ≡ [] → made ≡ map f old ++ new →
    made ≡ new
put_first f old new made none is = is ∙ ap (λ xs. map f xs ++ new) none
