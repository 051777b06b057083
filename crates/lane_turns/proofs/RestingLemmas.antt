-- A list that rests from one number of its steps on: it goes on resting by loads, looks and joins.
use Rattle.std.proofs.Common.{◌≡◌, ⊎_elim, ℕ, zero, suc, ◌-◌, ◌+◌, ◌<◌, ◌≤◌, List, [], ◌∷◌, ◌++◌, length, sym, subst, ◌∙◌, arith}
use Rattle.std.specs.Prelude.{All}
use Rattle.std.proofs.lemmas.Bool.{cases_lt}
use Rattle.std.proofs.lemmas.List.Elements.{All-head, All-tail}
use mathlib.Core.Option.{some, some-injective, some-ne-none}
use lib.ListN.{get_elem?}
use Rattle.session_script.specs.Script.{ScriptModel}
use Rattle.lane_clock.specs.declared.step.ClockStep.{ClockStep}
use Rattle.lane_clock.specs.declared.step.ClockStep.TheVariants.{Draw, Load, Place, Put, Look, Join}
use Rattle.lane_clock.specs.Knowledge.{StartOf}
use Rattle.lane_logs.specs.AtRest.{RestsFrom}
use Rattle.lane_logs.specs.OpenerLog.{IsRestingStep}
use Rattle.lane_logs.specs.SeatNumbers.{opener_seat}
use Rattle.lane_turns.specs.AtRest.{IsLook}
use Rattle.lane_turns.proofs.CutLemmas.{at_back}
use Rattle.lane_turns.proofs.EventIndexLemmas.{index_front, index_within}

pub look_rests : (step : ClockStep) → IsLook step → IsRestingStep step
look_rests (Draw shown changes found) is = is
look_rests (Load found) is = tt
look_rests (Place lane place) is = is
look_rests (Put lane place note) is = is
look_rests (Look lane place held) is = tt
look_rests (Join counts) is = tt

-- what holds of all steps behind some holds of the one at a number that is behind them
each_at : (P : ClockStep → Type 0) (steps : List ClockStep) (at : ℕ) (step : ClockStep) → All P steps →
    get_elem? steps at ≡ some step → P step
each_at P [] at step each is = absurd (some-ne-none step (sym is))
each_at P (first ∷ steps) zero step each is = subst P (some-injective first step is) (All-head P first steps each)
each_at P (first ∷ steps) (suc at) step each is = each_at P steps at step (All-tail P first steps each) is

pub behind_at : (P : ClockStep → Type 0) (front rest : List ClockStep) (at : ℕ) (step : ClockStep) → All P rest →
    length front ≤ at → get_elem? (front ++ rest) at ≡ some step → P step
behind_at P front rest at step each behind is =
    let same : at ≡ length front + (at - length front) = omega (arith, behind) in
    each_at P rest (at - length front) step each
    (sym (at_back front rest (at - length front))
    ∙ subst (λ n. get_elem? (front ++ rest) n ≡ some step) same is)

module _ (script : ScriptModel) (lists longer : ℕ → List ClockStep) where
  abbrev o : ℕ
  o = opener_seat script

  -- it rests from its end on
  pub rests_here : RestsFrom script lists (length (lists o))
  rests_here at step behind is = absurd (omega (arith, behind, index_within (lists o) at step is))

  -- steps behind it rest
  pub rests_behind : (steps : List ClockStep) → All IsRestingStep steps → longer o ≡ lists o ++ steps →
      RestsFrom script longer (length (lists o))
  rests_behind steps each is at step behind there =
      behind_at IsRestingStep (lists o) steps at step each behind (subst (λ xs. get_elem? xs at ≡ some step) is there)

  -- where what came behind it rests too, all does
  pub rests_on : (since : ℕ) → StartOf (lists o) (longer o) → RestsFrom script lists since →
      RestsFrom script longer (length (lists o)) → RestsFrom script longer since
  rests_on since start before later at step behind is =
      ⊎_elim
      (λ (within : at < length (lists o)).
      before at step behind
      (index_front (lists o) start.0 at step within (subst (λ xs. get_elem? xs at ≡ some step) start.1 is)))
      (λ (past : length (lists o) ≤ at). later at step past is)
      (cases_lt at (length (lists o)))
