-- What holds of the first steps of a strand.
use Rattle.std.proofs.Common.{◌≡◌, ◌<◌, ◌+◌, ℕ, true, false, List, [], ◌∷◌, ◌++◌, Option, None, Some, arith, ap, refl, sym, subst, ◌∙◌}
use Rattle.std.specs.Option.{option_or}
use Rattle.lane_clock.specs.declared.step.ClockStep.{ClockStep}
use Rattle.lane_clock.specs.declared.step.ClockStep.TheVariants.{Draw, Load, Place, Put, Look, Join}
use Rattle.lane_map.specs.LaneNumbers.{reactor_lane}
use Rattle.lane_logs.specs.Labels.{Labelled, step_of, steps_in}
use Rattle.lane_logs.specs.LaneLog.{AreParts, MayFollow, steps_after}
use Rattle.lane_logs.specs.Names.{SessionNames}
use Rattle.lane_logs.specs.Parts.{Part, idle, executed, turned, failed, missing, labels_in, labels_of, next_place, places_used}
use Rattle.merge_tests.specs.Spoilt.{IsAtFirstPlace, IsStrandLog, OfEachStrand, draws_unseeing, exchanged_entries, exchanged_steps, first_look, two_names, two_postings, unlooked_entries, unlooked_steps}

steps_on : (xs ys : List Labelled) → steps_in (xs ++ ys) ≡ steps_in xs ++ steps_in ys
steps_on [] ys = refl
steps_on (x ∷ xs) ys = λ k. step_of x ∷ steps_on xs ys k

look_on : (xs ys : List ClockStep) → first_look (xs ++ ys) ≡ option_or (first_look xs) (first_look ys)
look_on [] ys = refl
look_on (Look at place held ∷ xs) ys = refl
look_on (Draw shown changes found ∷ xs) ys = look_on xs ys
look_on (Load found ∷ xs) ys = look_on xs ys
look_on (Place at place ∷ xs) ys = look_on xs ys
look_on (Put at place note ∷ xs) ys = look_on xs ys
look_on (Join counts ∷ xs) ys = look_on xs ys

seeing_on : (xs ys : List ClockStep) → draws_unseeing xs ≡ false → draws_unseeing ys ≡ false → draws_unseeing (xs ++ ys) ≡ false
seeing_on [] ys first then_ = then_
seeing_on (Look at place held ∷ xs) ys first then_ = refl
seeing_on (Draw shown changes found ∷ xs) ys first then_ = first
seeing_on (Load found ∷ xs) ys first then_ = seeing_on xs ys first then_
seeing_on (Place at place ∷ xs) ys first then_ = seeing_on xs ys first then_
seeing_on (Put at place note ∷ xs) ys first then_ = seeing_on xs ys first then_
seeing_on (Join counts ∷ xs) ys first then_ = seeing_on xs ys first then_

-- a lane that has looked at nothing is at its first place
abbrev FirstAt : ℕ → Option (ℕ × ℕ) → ℕ → Type 0
FirstAt lane None next = next ≡ 0
FirstAt lane (Some at) next = at ≡ (lane, 0)

at_first : (lane : ℕ) (look : Option (ℕ × ℕ)) (next : ℕ) → FirstAt lane look next → IsAtFirstPlace lane look
at_first lane None next first = tt
at_first lane (Some at) next first = first

module _ (names : SessionNames) (opener : List ClockStep) (lane : ℕ) (strand : lane < reactor_lane names.script) where
  look_next : (look : Option (ℕ × ℕ)) (parts : List Part) (part : Part) → FirstAt lane look (next_place parts) →
      MayFollow names opener lane parts part →
      FirstAt lane (option_or look (first_look (steps_in (labels_in names.script lane part)))) (next_place parts + places_used part)
  look_next (Some at) parts part first follows = first
  look_next None parts (idle (Look at place held)) first follows = λ k. (follows.0 k, (follows.1 ∙ first) k)
  look_next None parts (idle (Load found)) first follows = omega (arith, first)
  look_next None parts (idle (Join counts)) first follows = omega (arith, first)
  look_next None parts (idle (Draw shown changes found)) first follows = absurd follows
  look_next None parts (idle (Place at place)) first follows = absurd follows
  look_next None parts (idle (Put at place note)) first follows = absurd follows
  look_next None parts (executed part) first follows = λ k. (lane, (follows.next ∙ first) k)
  look_next None parts (missing place note) first follows = λ k. (lane, (follows.next ∙ first) k)
  look_next None parts (turned part) first follows = absurd (omega (arith, strand, follows.reactor))
  look_next None parts (failed part) first follows = absurd (omega (arith, strand, follows.reactor))

  looked : (parts : List Part) → AreParts names opener lane parts →
      FirstAt lane (first_look (steps_after names opener lane parts)) (next_place parts)
  looked [] are = refl
  looked (part ∷ parts) are =
      let before = labels_of names.script lane parts in
      let own = labels_in names.script lane part in
      let cut : first_look (steps_in (before ++ own)) ≡ option_or (first_look (steps_in before)) (first_look (steps_in own)) =
      ap first_look (steps_on before own) ∙ look_on (steps_in before) (steps_in own) in
      subst (λ (look : Option (ℕ × ℕ)). FirstAt lane look (next_place parts + places_used part)) (sym cut)
      (look_next (first_look (steps_in before)) parts part (looked parts are.0) are.1)

  seeing_in : (parts : List Part) (part : Part) → MayFollow names opener lane parts part →
      draws_unseeing (steps_in (labels_in names.script lane part)) ≡ false
  seeing_in parts (idle (Look at place held)) follows = refl
  seeing_in parts (idle (Load found)) follows = refl
  seeing_in parts (idle (Join counts)) follows = refl
  seeing_in parts (idle (Draw shown changes found)) follows = absurd follows
  seeing_in parts (idle (Place at place)) follows = absurd follows
  seeing_in parts (idle (Put at place note)) follows = absurd follows
  seeing_in parts (executed part) follows = refl
  seeing_in parts (missing place note) follows = refl
  seeing_in parts (turned part) follows = absurd (omega (arith, strand, follows.reactor))
  seeing_in parts (failed part) follows = absurd (omega (arith, strand, follows.reactor))

  seeing : (parts : List Part) → AreParts names opener lane parts → draws_unseeing (steps_after names opener lane parts) ≡ false
  seeing [] are = refl
  seeing (part ∷ parts) are =
      let before = labels_of names.script lane parts in
      let own = labels_in names.script lane part in
      ap draws_unseeing (steps_on before own)
      ∙ seeing_on (steps_in before) (steps_in own) (seeing parts are.0) (seeing_in parts part are.1)

pub first_places : OfEachStrand (λ lane own. IsAtFirstPlace lane (first_look own))
first_places names opener own lane entries missed strand log =
    subst (λ (steps : List ClockStep). IsAtFirstPlace lane (first_look steps)) (sym log.steps)
    (at_first lane (first_look (steps_after names opener lane log.parts)) (next_place log.parts)
    (looked names opener lane strand log.parts log.are))

pub looks_first : OfEachStrand (λ lane own. draws_unseeing own ≡ false)
looks_first names opener own lane entries missed strand log =
    ap draws_unseeing log.steps ∙ seeing names opener lane strand log.parts log.are

is_strand : 0 < reactor_lane two_postings
is_strand = let one : reactor_lane two_postings ≡ 1 = refl in omega (arith, one)

pub exchanged : IsStrandLog exchanged_steps exchanged_entries → ⊥
exchanged (opener, missed, log) =
    let first : (0, 1) ≡ (0, 0) =
    first_places two_names opener exchanged_steps 0 exchanged_entries missed is_strand log in
    let place : 1 ≡ 0 = ap (λ (at : ℕ × ℕ). at.1) first in
    omega (arith, place)

pub unlooked : IsStrandLog unlooked_steps unlooked_entries → ⊥
unlooked (opener, missed, log) =
    let drawn : true ≡ false = looks_first two_names opener unlooked_steps 0 unlooked_entries missed is_strand log in
    absurd (cc drawn)
