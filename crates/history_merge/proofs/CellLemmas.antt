-- Of each lane handlers and `open` draw no more places than there are acts whose calls are placed on it.
use Rattle.std.proofs.Common.{◌≡◌, ◌≢◌, ℕ, zero, suc, ◌^◌, ◌<◌, ◌≤◌, Bool, true, false, List, [], ◌∷◌, length, refl, sym, ap, ◌∙◌, arith}
use Rattle.std.specs.Prelude.{◌&&◌, ◌==◌, not}
use Rattle.std.proofs.lemmas.Bool.{and_parts, eq-eqb, eqb-true}
use Rattle.session_script.specs.Lanes.{is_inline}
use Rattle.session_script.specs.Script.{ScriptModel, stops}
use Rattle.session_script.specs.WellFormed.{IsWellFormed}
use Rattle.history_rules.specs.State.{first_state}
use Rattle.lane_clock.specs.History.{ClockEvent, IsSoundHistory}
use Rattle.lane_map.specs.LaneNumbers.{asked_lane, reactor_lane}
use Rattle.lane_logs.specs.Labels.{Labelled, allots, shows, silent}
use Rattle.lane_logs.specs.Logs.{LogsView}
use Rattle.lane_logs.specs.Names.{SessionNames}
use Rattle.execution_laws.proofs.CountingLemmas.{counted}
use Rattle.reactor_turns.proofs.SummingLemmas.{one_if, only, summed, summed-both, summed-only, summed-same}
use Rattle.history_merge.proofs.AlikeLemmas.{never}
use Rattle.history_merge.proofs.AskedLemmas.{IsAsked, allots_on, asked_label}
use Rattle.history_merge.proofs.CalledLemmas.{AreExpected}
use Rattle.history_merge.proofs.HistoryLemmas.{AreLabelled, IsLabelled, label_of, shown_in}
use Rattle.history_merge.proofs.LabellingLemmas.{AreLabels}
use Rattle.history_merge.proofs.PairedLemmas.{is_led_label}
use Rattle.history_merge.proofs.PlacedLemmas.{is_led_by, led_once, total}

-- the call of the act is placed on this lane
abbrev pub asks_place : ScriptModel → ℕ → ℕ → Bool
asks_place script lane act = not (stops script act) && (not (is_inline script act) && (lane == asked_lane script act))

-- but for what the reactor does, the label gets a place of the lane
abbrev pub placed_by : ScriptModel → ℕ → ℕ → Labelled → Bool
placed_by script lane n label = not (n == reactor_lane script) && allots_on lane label

-- and for this act
abbrev pub allots_of : ℕ → ℕ → Labelled → Bool
allots_of lane act (silent step) = false
allots_of lane act (shows shown changes found) = false
allots_of lane act (allots other at place) = (other == act) && (lane == at)

abbrev pub placed_of : ScriptModel → ℕ → ℕ → ℕ → Labelled → Bool
placed_of script lane act n label = not (n == reactor_lane script) && allots_of lane act label

and_false : (b : Bool) → (b && false) ≡ false
and_false true = refl
and_false false = refl

and_all : (b : Bool) → (b && true) ≡ b
and_all true = refl
and_all false = refl

summed_zero : (f : ℕ → ℕ) (n : ℕ) → ((m : ℕ) → f m ≡ 0) → summed f n ≡ 0
summed_zero f zero none = refl
summed_zero f (suc n) none = let rest = summed_zero f n none in let here = none n in omega (arith, rest, here)

pub summed_counted : (test : ℕ → Bool) (n : ℕ) → summed (λ m. one_if (test m)) n ≡ counted test n
summed_counted test zero = refl
summed_counted test (suc n) = let rest = summed_counted test n in omega (arith, rest)

-- one number among the first
pub one_among : (a n : ℕ) (b here : Bool) → (b ≡ true → a < n) →
    one_if (b && here) ≡ summed (λ m. one_if (b && ((a == m) && here))) n
one_among a n false here within = sym (summed_zero (λ m. one_if (false && ((a == m) && here))) n (λ m. refl))
one_among a n true true within =
    sym (summed-same (λ m. one_if ((a == m) && true)) (only a 1) n (λ m. ap one_if (and_all (a == m)))
    ∙ summed-only a 1 n (within refl))
one_among a n true false within =
    sym (summed_zero (λ m. one_if ((a == m) && false)) n (λ m. ap one_if (and_false (a == m))))

module _ (names : SessionNames) (well : IsWellFormed names.script) (logs : LogsView) (labels : ℕ → List Labelled)
    (are : AreLabels names logs labels) (lane : ℕ) where
  abbrev script : ScriptModel
  script = names.script

  abbrev acts : ℕ
  acts = length names.script.acts

  is_away : (n : ℕ) → not (n == reactor_lane script) ≡ true → n ≢ reactor_lane script
  is_away n away is = never (not (n == reactor_lane script)) (ap not (eq-eqb n (reactor_lane script) is)) away

  -- what the label of a step gets is of an act that asks its lane
  asked_at : (e : ClockEvent) (es : List ClockEvent) → IsLabelled labels es e →
      not (e.by == reactor_lane script) ≡ true → IsAsked script (label_of labels es e)
  asked_at e es is away =
      asked_label names well logs labels are e.by _ (label_of labels es e) is.there (is_away e.by away)

  one_label : (n : ℕ) (label : Labelled) → (not (n == reactor_lane script) ≡ true → IsAsked script label) →
      one_if (placed_by script lane n label) ≡ summed (λ act. one_if (placed_of script lane act n label)) acts
  one_label n (silent step) asked = nothing (not (n == reactor_lane script))
    where
      nothing : (b : Bool) → one_if (b && false) ≡ summed (λ act. one_if (b && false)) acts
      nothing b =
          ap one_if (and_false b)
          ∙ sym (summed_zero (λ act. one_if (b && false)) acts (λ act. ap one_if (and_false b)))
  one_label n (shows shown changes found) asked = nothing (not (n == reactor_lane script))
    where
      nothing : (b : Bool) → one_if (b && false) ≡ summed (λ act. one_if (b && false)) acts
      nothing b =
          ap one_if (and_false b)
          ∙ sym (summed_zero (λ act. one_if (b && false)) acts (λ act. ap one_if (and_false b)))
  one_label n (allots other at place) asked =
      one_among other acts (not (n == reactor_lane script)) (lane == at) (λ away. (asked away).within)

  -- places by the acts that get them
  places_sum : (es : List ClockEvent) → AreLabelled labels es →
      total labels (placed_by script lane) es ≡ summed (λ act. total labels (placed_of script lane act) es) acts
  places_sum [] all = sym (summed_zero (λ act. 0) acts (λ act. refl))
  places_sum (e ∷ es) all =
      let rest = places_sum es all.0 in
      let one = one_label e.by (label_of labels es e) (asked_at e es all.1) in
      let both =
      summed-both (λ act. one_if (placed_of script lane act e.by (label_of labels es e)))
      (λ act. total labels (placed_of script lane act) es) acts in
      omega (arith, rest, one, both)

  -- an act gets no more places than its calls lead to
  placed_led : (act : ℕ) (es : List ClockEvent) →
      total labels (placed_of script lane act) es ≤ total labels (is_led_by script act) es
  placed_led act [] = omega arith
  placed_led act (e ∷ es) =
      let rest = placed_led act es in
      let one = by_label (not (e.by == reactor_lane script)) (label_of labels es e) in
      omega (arith, rest, one)
    where
      by_test : (one two : Bool) → one_if (one && two) ≤ one_if one
      by_test true true = omega arith
      by_test true false = omega arith
      by_test false two = omega arith

      by_label : (b : Bool) (label : Labelled) → one_if (b && allots_of lane act label) ≤ one_if (b && is_led_label act label)
      by_label false label = omega arith
      by_label true (silent step) = omega arith
      by_label true (shows shown changes found) = omega arith
      by_label true (allots other at place) = by_test (other == act) (lane == at)

  -- and none on a lane that it doesn't ask
  none_placed : (act : ℕ) (es : List ClockEvent) → AreLabelled labels es → asks_place script lane act ≡ false →
      total labels (placed_of script lane act) es ≡ 0
  none_placed act [] all isnt = refl
  none_placed act (e ∷ es) all isnt =
      let rest = none_placed act es all.0 isnt in
      let none : placed_of script lane act e.by (label_of labels es e) ≡ false =
      by_test (placed_of script lane act e.by (label_of labels es e)) refl in
      let here : one_if (placed_of script lane act e.by (label_of labels es e)) ≡ 0 = ap one_if none in
      omega (arith, rest, here)
    where
      asks : (label : Labelled) → IsAsked script label → allots_of lane act label ≡ true → asks_place script lane act ≡ true
      asks (silent step) asked is = absurd (cc)
      asks (shows shown changes found) asked is = absurd (cc)
      asks (allots other at place) asked is =
          let parts = and_parts (other == act) (lane == at) is in
          let same : other ≡ act = eqb-true other act parts.0 in
          let on : lane ≡ asked_lane script act =
          eqb-true lane at parts.1 ∙ (asked.asks ∙ ap (asked_lane script) same) in
          all_three (not (stops script act)) (not (is_inline script act)) (lane == asked_lane script act)
          (ap not (sym (ap (stops script) same) ∙ asked.going)) (ap not (sym (ap (is_inline script) same) ∙ asked.unentered))
          (eq-eqb lane (asked_lane script act) on)
        where
          all_three : (a b c : Bool) → a ≡ true → b ≡ true → c ≡ true → (a && (b && c)) ≡ true
          all_three true true c p q r = r
          all_three true false c p q r = absurd (cc)
          all_three false b c p q r = absurd (cc)

      by_test : (b : Bool) → placed_of script lane act e.by (label_of labels es e) ≡ b →
          placed_of script lane act e.by (label_of labels es e) ≡ false
      by_test true is =
          let parts = and_parts (not (e.by == reactor_lane script)) (allots_of lane act (label_of labels es e)) is in
          absurd (never (asks_place script lane act) isnt
          (asks (label_of labels es e) (asked_at e es all.1 parts.0) parts.1))
      by_test false is = is

  -- so an act gets one place of the lane that it asks at most
  pub placed_once : (guards seats : ℕ) (es : List ClockEvent) → seats ≤ 2 ^ 15 → IsSoundHistory guards seats es →
      AreLabelled labels es → AreExpected script names.told (first_state script names.told) (shown_in labels es) →
      (act : ℕ) → act < acts → (b : Bool) → asks_place script lane act ≡ b → total labels (placed_of script lane act) es ≤ one_if b
  placed_once guards seats es few sound all expected act within true is =
      let led = placed_led act es in
      let once = led_once names logs labels are guards seats act es few sound all well within expected in
      omega (arith, led, once)
  placed_once guards seats es few sound all expected act within false is =
      let none = none_placed act es all is in omega (arith, none)

  pub placed_most : (guards seats : ℕ) (es : List ClockEvent) → seats ≤ 2 ^ 15 → IsSoundHistory guards seats es →
      AreLabelled labels es → AreExpected script names.told (first_state script names.told) (shown_in labels es) →
      total labels (placed_by script lane) es ≤ counted (asks_place script lane) acts
  placed_most guards seats es few sound all expected =
      let sum = places_sum es all in
      let each = among acts (omega arith) in
      let count = summed_counted (asks_place script lane) acts in
      omega (arith, sum, each, count)
    where
      among : (n : ℕ) → n ≤ acts → summed (λ act. total labels (placed_of script lane act) es) n
          ≤ summed (λ act. one_if (asks_place script lane act)) n
      among zero less = omega arith
      among (suc n) less =
          let rest = among n (omega (arith, less)) in
          let here =
          placed_once guards seats es few sound all expected n (omega (arith, less)) (asks_place script lane n) refl in
          omega (arith, rest, here)
