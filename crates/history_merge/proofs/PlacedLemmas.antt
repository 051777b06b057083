-- How often an act gets a place, or stops the context: by handlers and by `open` once at most.
use Rattle.std.proofs.Common.{◌≡◌, ◌≢◌, ℕ, zero, suc, ◌+◌, ◌^◌, ◌<◌, ◌≤◌, Bool, true, false, List, [], ◌∷◌, inl, inr, length, take, refl, sym, ap, subst, ◌∙◌, arith}
use Rattle.std.specs.Prelude.{◌&&◌, ◌==◌, not}
use Rattle.std.proofs.lemmas.Bool.{cases_eq, cases_lt, eq-eqb, ne_eqb}
use Rattle.lane_logs.specs.Drops.{is_call_of}
use Rattle.lane_logs.specs.Labels.{Labelled, allots, shows, silent}
use Rattle.lane_logs.specs.LaneLog.{MayFollow}
use Rattle.lane_logs.specs.Logs.{LogsView}
use Rattle.lane_logs.specs.Names.{SessionNames}
use Rattle.lane_logs.specs.OpenerLog.{MayFollowOpened, OpenerPart, opener_labels}
use Rattle.lane_logs.specs.Parts.{Part, labels_in}
use Rattle.lane_logs.specs.SeatNumbers.{lane_count, opener_seat}
use Rattle.lane_logs.specs.WorkerLog.{MayFollowStopped, WorkerPart}
use Rattle.session_script.specs.Script.{ScriptModel}
use Rattle.session_script.specs.WellFormed.{IsWellFormed}
use Rattle.history_rules.specs.State.{first_state}
use Rattle.lane_clock.specs.History.{ClockEvent, IsSoundHistory}
use Rattle.lane_clock.proofs.CountLemmas.{few_drawn}
use Rattle.lane_map.specs.LaneNumbers.{reactor_lane}
use Rattle.reactor_turns.proofs.SummingLemmas.{one_if, summed, summed-less}
use Rattle.history_merge.proofs.CalledLemmas.{AreExpected, called_at_most, calls_of}
use Rattle.history_merge.proofs.HistoryLemmas.{AreLabelled, label_of, shown_by, shown_count, shown_in}
use Rattle.history_merge.proofs.LabellingLemmas.{AreLabels}
use Rattle.history_merge.proofs.PairedLemmas.{ArePaired, is_call_label, is_led_label, lane_paired, opener_paired, paired_times, parts_paired, worker_paired}
use Rattle.history_merge.proofs.PartLemmas.{labels_worker}
use Rattle.history_merge.proofs.SoFarLemmas.{made_here, made_other, made_so_far}
use Rattle.history_merge.proofs.TimesLemmas.{times, times-append}

-- a sum of which one number gives so much more
summed_until : (f g : ℕ → ℕ) (a n : ℕ) → n ≤ a → ((m : ℕ) → m ≢ a → g m ≡ f m) → summed g n ≡ summed f n
summed_until f g a zero before others = refl
summed_until f g a (suc n) before others =
    let rest = summed_until f g a n (omega (arith, before)) others in
    let here = others n (λ same. absurd (omega (arith, same, before))) in
    omega (arith, rest, here)

summed_bumped : (f g : ℕ → ℕ) (a k n : ℕ) → a < n → g a ≡ f a + k → ((m : ℕ) → m ≢ a → g m ≡ f m) →
    summed g n ≡ summed f n + k
summed_bumped f g a k zero within here others = absurd (omega (arith, within))
summed_bumped f g a k (suc n) within here others = elim (cases_eq n a) [
  | inl same ↦
      let rest = summed_until f g a n (omega (arith, same)) others in
      let left : g n ≡ g a = ap g same in
      let right : f n ≡ f a = ap f same in
      omega (arith, rest, here, left, right)
  | inr other ↦
      let rest = summed_bumped f g a k n (omega (arith, within, other)) here others in
      let there = others n other in
      omega (arith, rest, there)
]

module _ (labels : ℕ → List Labelled) where
  -- how many labels of a history pass a test, each with its number
  abbrev pub total : (ℕ → Labelled → Bool) → List ClockEvent → ℕ
  total test [] = 0
  total test (e ∷ es) = one_if (test e.by (label_of labels es e)) + total test es

  -- it is the sum over all numbers
  pub total_sums : (guards seats : ℕ) (test : ℕ → Labelled → Bool) (es : List ClockEvent) →
      IsSoundHistory guards seats es → AreLabelled labels es →
      total test es ≡ summed (λ n. times (test n) (made_so_far labels es n)) seats
  total_sums guards seats test [] sound all = sym (nothing seats)
    where
      nothing : (n : ℕ) → summed (λ n. times (test n) (made_so_far labels [] n)) n ≡ 0
      nothing zero = refl
      nothing (suc n) = let rest = nothing n in omega (arith, rest)
  total_sums guards seats test (e ∷ es) sound all =
      let before = total_sums guards seats test es sound.0 all.0 in
      let here : times (test e.by) (made_so_far labels (e ∷ es) e.by)
      ≡ times (test e.by) (made_so_far labels es e.by) + one_if (test e.by (label_of labels es e)) =
      ap (times (test e.by)) (made_here labels e es all.1)
      ∙ (times-append (test e.by) (made_so_far labels es e.by) (label_of labels es e ∷ []) ∙ omega arith) in
      let more =
      summed_bumped (λ n. times (test n) (made_so_far labels es n)) (λ n. times (test n) (made_so_far labels (e ∷ es) n))
      e.by (one_if (test e.by (label_of labels es e))) seats sound.1 here
      (λ n other. ap (times (test n)) (made_other labels e es n other)) in
      omega (arith, before, more)

  -- the calls among labels are those among what was shown
  pub total_calls : (act : ℕ) (es : List ClockEvent) →
      total (λ n label. is_call_label act label) es ≡ calls_of act (shown_in labels es)
  total_calls act [] = refl
  total_calls act (e ∷ es) =
      let rest = total_calls act es in
      let both = times-append (is_call_of act) (shown_in labels es) (shown_by (label_of labels es e)) in
      let one = shown_call (label_of labels es e) in
      omega (arith, rest, both, one)
    where
      shown_call : (label : Labelled) → one_if (is_call_label act label) ≡ calls_of act (shown_by label)
      shown_call (silent step) = refl
      shown_call (shows shown changes found) = omega arith
      shown_call (allots other lane place) = refl

-- but for what the reactor does
abbrev pub is_led_by : ScriptModel → ℕ → ℕ → Labelled → Bool
is_led_by script act n label = not (n == reactor_lane script) && is_led_label act label

module _ (names : SessionNames) (logs : LogsView) (labels : ℕ → List Labelled) (are : AreLabels names logs labels) where
  -- each number's labels are paired, but the reactor's
  pub number_paired : (act n : ℕ) → n ≢ reactor_lane names.script → ArePaired act (labels n)
  number_paired act n away = elim (cases_lt n (lane_count names.script)) [
    | inl lane ↦
        let made = are.lanes n lane in
        subst (ArePaired act) (sym made.are)
        (parts_paired act Part (labels_in names.script n) (MayFollow names (logs.lists (opener_seat names.script)) n)
        (λ earlier part may. lane_paired act names (logs.lists (opener_seat names.script)) n away earlier part may) made.parts
        made.follow)
    | inr behind ↦ elim (cases_lt n (opener_seat names.script)) [
      | inl before ↦
          let made = are.workers n (record { behind = behind; before = before }) in
          subst (ArePaired act) (sym made.are)
          (parts_paired act WorkerPart labels_worker
          (MayFollowStopped names.script (logs.lists (opener_seat names.script)))
          (λ earlier part may. worker_paired act names.script (logs.lists (opener_seat names.script)) earlier part may)
          made.parts made.follow)
      | inr beyond ↦ elim (cases_eq n (opener_seat names.script)) [
        | inl is ↦
            subst (λ n. ArePaired act (labels n)) (sym is)
            (subst (ArePaired act) (sym are.opener.are)
            (parts_paired act OpenerPart opener_labels (MayFollowOpened names.script logs.lists)
            (λ earlier part may. opener_paired act names.script logs.lists earlier part may) are.opener.parts
            are.opener.follow))
        | inr isnt ↦ subst (ArePaired act) (sym (are.others n (omega (arith, beyond, isnt)))) tt
      ]
    ]
  ]

  number_led : (act n k : ℕ) →
      times (is_led_by names.script act n) (take k (labels n)) ≤ times (is_call_label act) (take k (labels n))
  number_led act n k = elim (cases_eq n (reactor_lane names.script)) [
    | inl is ↦
        let none =
        unled (not (n == reactor_lane names.script)) (ap not (eq-eqb n (reactor_lane names.script) is)) (take k (labels n)) in
        omega (arith, none)
    | inr away ↦
        let same =
        led (not (n == reactor_lane names.script)) (ap not (ne_eqb n (reactor_lane names.script) away)) (take k (labels n)) in
        let paired =
        paired_times (is_call_label act) (is_led_label act) (labels n) 0 k (number_paired act n away) in
        omega (arith, same, paired)
  ]
    where
      unled : (b : Bool) → b ≡ false → (xs : List Labelled) → times (λ label. b && is_led_label act label) xs ≡ 0
      unled true isnt xs = absurd (cc)
      unled false isnt [] = refl
      unled false isnt (x ∷ xs) = let rest = unled false isnt xs in omega (arith, rest)

      led : (b : Bool) → b ≡ true → (xs : List Labelled) →
          times (λ label. b && is_led_label act label) xs ≡ times (is_led_label act) xs
      led true is xs = refl
      led false is xs = absurd (cc)

  -- so places and stops that aren't the reactor's are no more than calls
  pub total_led : (guards seats act : ℕ) (es : List ClockEvent) → IsSoundHistory guards seats es → AreLabelled labels es →
      total labels (is_led_by names.script act) es ≤ calls_of act (shown_in labels es)
  total_led guards seats act es sound all =
      let led = total_sums labels guards seats (is_led_by names.script act) es sound all in
      let calls = total_sums labels guards seats (λ n label. is_call_label act label) es sound all in
      let less =
      summed-less (λ n. times (is_led_by names.script act n) (made_so_far labels es n))
      (λ n. times (is_call_label act) (made_so_far labels es n)) seats
      (λ n. number_led act n _) in
      let shown = total_calls labels act es in
      omega (arith, led, calls, less, shown)

  -- an act gets one place at most, and stops the context once at most
  pub led_once : (guards seats act : ℕ) (es : List ClockEvent) → seats ≤ 2 ^ 15 → IsSoundHistory guards seats es →
      AreLabelled labels es → IsWellFormed names.script → act < length names.script.acts →
      AreExpected names.script names.told (first_state names.script names.told) (shown_in labels es) →
      total labels (is_led_by names.script act) es ≤ 1
  led_once guards seats act es few sound all well within expected =
      let led = total_led guards seats act es sound all in
      let count = shown_count labels es all in
      let drew = few_drawn guards seats es few sound in
      let once =
      called_at_most names.script well names.told act within (shown_in labels es) (omega (arith, count, drew)) expected in
      omega (arith, led, once)
