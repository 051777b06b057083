-- The places of a lane up to its next were each used by a part.
use Rattle.std.proofs.Common.{◌≡◌, ℕ, ◌+◌, ◌<◌, ◌≤◌, cond, List, [], ◌∷◌, ◌++◌, inl, inr, refl, ap, arith}
use Rattle.std.proofs.lemmas.Bool.{cases_lt}
use Rattle.lane_clock.specs.declared.step.ClockStep.{ClockStep}
use Rattle.lane_logs.specs.LaneLog.{AreParts, MayFollow}
use Rattle.lane_logs.specs.Names.{SessionNames}
use Rattle.lane_logs.specs.Parts.{Part, TurnStart, executed, failed, idle, missing, next_place, passes, places_used, takes, takes_place, turned}

-- the part executes or takes what was seen at this place
abbrev pub TakesPlace : TurnStart → ℕ → ℕ → Type 0
TakesPlace (takes note changes) place p = place ≡ p
TakesPlace (passes shown) place p = ⊥

abbrev pub UsesPlace : Part → ℕ → Type 0
UsesPlace (idle step) p = ⊥
UsesPlace (executed part) p = part.place ≡ p
UsesPlace (turned part) p = TakesPlace part.start part.place p
UsesPlace (failed part) p = ⊥
UsesPlace (missing place note) p = ⊥

module _ (names : SessionNames) (opener : List ClockStep) (lane : ℕ) where
  pub record IsPassedIn (parts : List Part) (place : ℕ) : Type 0 where
    pub later : List Part
    pub part : Part
    pub earlier : List Part
    pub are : parts ≡ later ++ part ∷ earlier
    pub may : MayFollow names opener lane earlier part
    pub uses : UsesPlace part place

  module _ (parts : List Part) (place : ℕ) (beyond : next_place parts ≤ place) where
    by_start : (start : TurnStart) (at : ℕ) → at ≡ next_place parts →
        place < next_place parts + cond (takes_place start) 1 0 → TakesPlace start at place
    by_start (takes note changes) at next less = omega (arith, beyond, next, less)
    by_start (passes shown) at next less = absurd (omega (arith, beyond, less))

    by_part : (part : Part) → MayFollow names opener lane parts part → place < next_place parts + places_used part →
        UsesPlace part place
    by_part (idle step) may less = absurd (omega (arith, beyond, less))
    by_part (executed part) may less = let next = may.next in omega (arith, beyond, less, next)
    by_part (turned part) may less = by_start part.start part.place may.next less
    by_part (failed part) may less = absurd (omega (arith, beyond, less))
    by_part (missing at note) may less = absurd (omega (arith, beyond, less))

  pub passed : (parts : List Part) → AreParts names opener lane parts → (place : ℕ) → place < next_place parts →
      IsPassedIn parts place
  passed [] are place less = absurd (omega (arith, less))
  passed (part ∷ parts) are place less = elim (cases_lt place (next_place parts)) [
    | inl within ↦
        let before = passed parts are.0 place within in
        record {
          later = part ∷ before.later;
          part = before.part;
          earlier = before.earlier;
          are = ap (λ rest. part ∷ rest) before.are;
          may = before.may;
          uses = before.uses;
        }
    | inr beyond ↦
        record {
          later = [];
          part = part;
          earlier = parts;
          are = refl;
          may = are.1;
          uses = by_part parts place beyond part are.1 less;
        }
  ]
