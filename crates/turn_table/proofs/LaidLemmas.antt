-- Values on their way out of the slots, and slots that have none.
use Rattle.std.proofs.Common.{◌≡◌, ℕ, suc, zero, ◌+◌, ◌<◌, ◌≤◌, List, [], ◌∷◌, ◌++◌, map, length, replicate, get_or, sym, refl, ap, ◌∙◌, length-append, ⊎_elim, arith}
use Rattle.std.proofs.lemmas.Bool.{cases_lt}
use mathlib.Core.Option.{some}
use lib.ListN.{get_elem?, get_or-append}
use lib.Seq.{get_or_at}
use Rattle.turn_table.specs.declared.place.TablePlace.{TablePlace}
use Rattle.turn_table.specs.declared.place.TablePlace.TheVariants.{Empty, Value}
use Rattle.turn_table.specs.Laid.{AreAtHome}

module _ {T : Type 0} where
  abbrev pub value_or : T → TablePlace T → T
  value_or d (Value v) = v
  value_or d _ = d

  -- the values of the first lanes, and the next lane's
  pub at_home_more : (home_of : T → ℕ) (values : List T) (n : ℕ) (value : T) → length values ≡ n → home_of value ≡ n →
      AreAtHome home_of values → AreAtHome home_of (values ++ value ∷ [])
  at_home_more home_of values n value long home all k other below = ⊎_elim
      (λ (l : k < length values). ap home_of (get_or-append values (value ∷ []) other k l) ∙ all k other l)
      (λ (l : length values ≤ k). let total = length-append values (value ∷ []) in let e : k ≡ length values = omega arith in
      ap home_of (ap (λ i. get_or (values ++ value ∷ []) i other) e ∙ get_or_at values value [] other (length values) refl) ∙ (home ∙ sym (e ∙ long)))
      (cases_lt k (length values))

  module _ (home_of : T → ℕ) (values rest : List T) (value : T) (popped : values ≡ rest ++ value ∷ [])
      (home : AreAtHome home_of values) where
    -- the last value belongs to the last lane
    pub last_home : home_of value ≡ length rest
    last_home =
        ap home_of
        (sym (ap (λ vs. get_or vs (length rest) value) popped ∙ get_or_at rest value [] value (length rest) refl))
        ∙ home (length rest) value (let e = ap length popped ∙ length-append rest (value ∷ []) in omega arith)

    -- and the others to the lanes before
    pub front_home : AreAtHome home_of rest
    front_home n other less =
        ap home_of (sym (ap (λ vs. get_or vs n other) popped ∙ get_or-append rest (value ∷ []) other n less))
        ∙ home n other (let e = ap length popped ∙ length-append rest (value ∷ []) in omega arith)

  -- so many slots with nothing in them, and one more
  abbrev pub bare : ℕ → TablePlace T → List (TablePlace T)
  bare lanes last = replicate lanes Empty ++ last ∷ []

  pub at_bare : (lanes lane : ℕ) (last : TablePlace T) → lane < lanes →
      get_elem? (map some (bare lanes last)) lane ≡ some (some Empty)
  at_bare zero lane last less = absurd (omega arith)
  at_bare (suc lanes) zero last less = refl
  at_bare (suc lanes) (suc lane) last less = at_bare lanes lane last (omega arith)

  pub at_last : (lanes : ℕ) (last : TablePlace T) → get_elem? (map some (bare lanes last)) lanes ≡ some (some last)
  at_last zero last = refl
  at_last (suc lanes) last = at_last lanes last

  pub count_of : (lanes : ℕ) (last : TablePlace T) →
      length (map (λ (p : TablePlace T). some p) (bare lanes last)) ≡ lanes + 1
  count_of zero last = refl
  count_of (suc lanes) last = let e = count_of lanes last in omega arith
