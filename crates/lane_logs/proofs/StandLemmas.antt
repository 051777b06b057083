-- Where the rounds stand, as the opener draws.
use Rattle.std.proofs.Common.{◌≡◌, ℕ, suc, ◌+◌, ◌-◌, ◌*◌, ◌<◌, ◌≤◌, Bool, true, false, cond, List, [], ◌∷◌, Option, Some, None, length, refl, ap, ◌∙◌, arith, zero}
use Rattle.std.specs.Prelude.{◌&&◌, ◌==◌, nat_lt, not}
use Rattle.std.proofs.lemmas.Bool.{eqb-true, ltb-true}
use Rattle.std.proofs.lemmas.Option.{slice_get_within}
use Rattle.session_script.specs.Script.{ScriptModel}
use Rattle.session_script.specs.declared.round.Round.{Round}
use Rattle.history_rules.specs.Rounds.{restarts}
use Rattle.lane_clock.specs.declared.found.Found.{Found}
use Rattle.lane_clock.specs.declared.step.ClockStep.{ClockStep}
use Rattle.lane_clock.specs.declared.step.ClockStep.TheVariants.{Draw, Load, Place, Put, Look, Join}
use Rattle.lane_clock.specs.Steps.{draw_count, step_count}
use Rattle.lane_logs.specs.Stand.{base_at, draws_to_come, Stand, after_draw, after_opening_draw, is_round_open, round_at, shut, stand_from, wants_restart}
use Rattle.lane_clock.specs.declared.found.Change.TheVariants as change

both : (a b : Bool) → (a && b) ≡ true → (a ≡ true) × (b ≡ true)
both true true is = (refl, refl)
both true false is = absurd (cc is)
both false b is = absurd (cc is)

not_so : (b : Bool) → not b ≡ true → b ≡ false
not_so true is = absurd (cc is)
not_so false is = refl

-- a round that is open
pub record IsOpenStand (script : ScriptModel) (stand : Stand) : Type 0 where
  pub opened : stand.opening ≡ 0
  pub left : stand.closings < length script.rounds
  pub started : wants_restart script stand ≡ false
  pub base : base_at script stand ≡ stand.base

pub open_stand : (script : ScriptModel) (stand : Stand) → is_round_open script stand ≡ true → IsOpenStand script stand
open_stand script stand is =
    let first = both ((stand.opening == 0) && nat_lt stand.closings (length script.rounds))
    (not (wants_restart script stand)) is in
    let second = both (stand.opening == 0) (nat_lt stand.closings (length script.rounds)) first.0 in
    record {
      opened = eqb-true stand.opening 0 second.0;
      left = ltb-true stand.closings (length script.rounds) second.1;
      started = not_so (wants_restart script stand) first.1;
      base = ap (λ b. cond b stand.base shut) is;
    }

-- a round whose restart is still to come
pub record IsWaiting (script : ScriptModel) (stand : Stand) : Type 0 where
  pub left : stand.closings < length script.rounds
  pub not_yet : stand.restarted ≡ false

there_is : (script : ScriptModel) (stand : Stand) (round : Option Round) → round_at script stand ≡ round →
    restarts round ≡ true → stand.closings < length script.rounds
there_is script stand None at is = absurd (cc is)
there_is script stand (Some round) at is = slice_get_within script.rounds stand.closings round at

pub waiting_stand : (script : ScriptModel) (stand : Stand) → wants_restart script stand ≡ true → IsWaiting script stand
waiting_stand script stand is =
    let parts = both (restarts (round_at script stand)) (not stand.restarted) is in
    record {
      left = there_is script stand (round_at script stand) refl parts.0;
      not_yet = not_so stand.restarted parts.1;
    }

-- draws of the calls of `open`
pub opening_passed : (script : ScriptModel) (steps : List ClockStep) (stand : Stand) (more : ℕ) →
    stand.opening ≡ step_count draw_count steps + more → stand_from script stand steps ≡ record stand { opening = more }
opening_passed script [] stand more is =
    let left : stand.opening ≡ more = omega (arith, is) in ap (λ n. record stand { opening = n }) left
opening_passed script (Draw shown change found ∷ steps) stand more is =
    let left : stand.opening ≡ suc (step_count draw_count steps + more) = omega (arith, is) in
    ap (λ n. stand_from script (after_opening_draw n script stand found) steps) left
    ∙ opening_passed script steps (record stand { opening = step_count draw_count steps + more }) more refl
opening_passed script (Load found ∷ steps) stand more is =
    opening_passed script steps stand more (omega (arith, is))
opening_passed script (Place lane place ∷ steps) stand more is =
    opening_passed script steps stand more (omega (arith, is))
opening_passed script (Put lane place note ∷ steps) stand more is =
    opening_passed script steps stand more (omega (arith, is))
opening_passed script (Look lane place held ∷ steps) stand more is =
    opening_passed script steps stand more (omega (arith, is))
opening_passed script (Join taken ∷ steps) stand more is =
    opening_passed script steps stand more (omega (arith, is))

-- a draw that restarts, and one that closes
pub stand_restarted : (script : ScriptModel) (stand : Stand) (found : Found) → stand.opening ≡ 0 →
    wants_restart script stand ≡ true →
    after_draw script stand found ≡ record stand { restarted = true; base = found.stops }
stand_restarted script stand found opened wanted =
    ap (λ n. after_opening_draw n script stand found) opened
    ∙ ap
    (λ b.
    cond b (record stand { restarted = true; base = found.stops })
    (record stand { closings = stand.closings + 1; restarted = false })) wanted

pub stand_closed : (script : ScriptModel) (stand : Stand) (found : Found) → IsOpenStand script stand →
    after_draw script stand found ≡ record stand { closings = stand.closings + 1; restarted = false }
stand_closed script stand found stood =
    ap (λ n. after_opening_draw n script stand found) stood.opened
    ∙ ap
    (λ b.
    cond b (record stand { restarted = true; base = found.stops })
    (record stand { closings = stand.closings + 1; restarted = false })) stood.started

fewer : (b : Bool) (most : ℕ) → most ≤ cond b (most - 1) most + 1
fewer true most = omega arith
fewer false most = omega arith

-- and what is then still to come
pub less_restarted : (script : ScriptModel) (stand : Stand) (base : ℕ) → IsWaiting script stand →
    draws_to_come script (record stand { restarted = true; base = base }) + 1 ≤ draws_to_come script stand
less_restarted script stand base waiting =
    let most : ℕ = 2 * (length script.rounds - stand.closings) in
    let before : draws_to_come script stand ≡ stand.opening + most =
    ap (λ b. stand.opening + cond b (most - 1) most) waiting.not_yet in
    omega (arith, before, waiting.left)

pub less_closed : (script : ScriptModel) (stand : Stand) → stand.closings < length script.rounds →
    draws_to_come script (record stand { closings = stand.closings + 1; restarted = false }) + 1
    ≤ draws_to_come script stand
less_closed script stand left =
    let most : ℕ = 2 * (length script.rounds - stand.closings) in
    omega (arith, fewer stand.restarted most, left)

-- rounds are closed one after another
closings_by : (script : ScriptModel) (stand : Stand) (found : Found) (opening : ℕ) →
    stand.closings ≤ (after_opening_draw opening script stand found).closings
closings_by script stand found zero = by_test (wants_restart script stand)
  where
    by_test : (b : Bool) →
        stand.closings
        ≤ (cond b (record stand { restarted = true; base = found.stops })
        (record stand { closings = stand.closings + 1; restarted = false })).closings
    by_test true = omega arith
    by_test false = omega arith
closings_by script stand found (suc opening) = omega arith

pub closings_rise : (script : ScriptModel) (steps : List ClockStep) (stand : Stand) →
    stand.closings ≤ (stand_from script stand steps).closings
closings_rise script [] stand = omega arith
closings_rise script (Draw shown change found ∷ steps) stand =
    omega (
      arith,
      closings_by script stand found stand.opening,
      closings_rise script steps (after_draw script stand found),
    )
closings_rise script (Load found ∷ steps) stand = closings_rise script steps stand
closings_rise script (Place lane place ∷ steps) stand = closings_rise script steps stand
closings_rise script (Put lane place note ∷ steps) stand = closings_rise script steps stand
closings_rise script (Look lane place held ∷ steps) stand = closings_rise script steps stand
closings_rise script (Join taken ∷ steps) stand = closings_rise script steps stand
