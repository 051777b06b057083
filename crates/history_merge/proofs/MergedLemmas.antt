-- What a merging has before its drops is what the one history shows; and what is shown in one of the logs is shown there.
use Rattle.std.proofs.Common.{◌≡◌, ℕ, zero, suc, ◌^◌, ◌%◌, Bool, true, false, List, [], ◌∷◌, length, refl, sym, ap, subst, ◌∙◌, arith}
use Rattle.std.specs.Prelude.{◌||◌, flat_map, slice_index_or}
use Rattle.std.specs.List.{list_any}
use Rattle.std.proofs.lemmas.List.Folds.{list_any-append}
use mathlib.Core.Option.{some, some-injective, some-ne-none}
use lib.ListN.{get_elem?}
use Rattle.asio_types.specs.declared.event.Event.{Event}
use Rattle.lane_clock.specs.declared.step.ClockStep.TheVariants.{Draw}
use Rattle.lane_clock.proofs.ClockLemmas.{clock_is}
use Rattle.lane_clock.proofs.KnownLemmas.{event as made_event}
use Rattle.lane_clock.proofs.MomentLemmas.{moment_of, tail_refl}
use Rattle.lane_logs.specs.declared.log.LogEntry.{LogEntry}
use Rattle.lane_logs.specs.Labels.{Labelled, events_in, shows, silent}
use Rattle.lane_logs.specs.Logs.{AreLogs, LogsView, session_layout}
use Rattle.lane_logs.specs.Names.{SessionNames}
use Rattle.history_merge.specs.Merging.{IsMerging}
use Rattle.history_merge.specs.Ordering.{IsEntryIn, IsInOrder}
use Rattle.history_merge.proofs.HistoryLemmas.{AreLabelled, index_is, label_of, shown_at, shown_count, shown_in}
use Rattle.history_merge.proofs.LabellingLemmas.{AreLabels}
use Rattle.history_merge.proofs.PartLemmas.{step_of_label}
use Rattle.history_merge.proofs.PositionLemmas.{drawn_by}
use Rattle.history_merge.proofs.SinceLemmas.{labelled_at}

-- two lists of one length, the second with each element of the first
same_lists : {A : Type 0} → (xs ys : List A) → length xs ≡ length ys →
    ((i : ℕ) (x : A) → get_elem? xs i ≡ some x → get_elem? ys i ≡ some x) → xs ≡ ys
same_lists [] [] size each = refl
same_lists [] (y ∷ ys) size each = absurd (omega (arith, size))
same_lists (x ∷ xs) [] size each = absurd (omega (arith, size))
same_lists (x ∷ xs) (y ∷ ys) size each =
    let first : y ≡ x = some-injective y x (each 0 x refl) in
    let rest : xs ≡ ys = same_lists xs ys (omega (arith, size)) (λ i z at. each (suc i) z at) in
    ap (λ z. z ∷ xs) (sym first) ∙ ap (λ zs. y ∷ zs) rest

-- one that passes a test
pub record Passes {A : Type 0} (test : A → Bool) (xs : List A) : Type 0 where
  pub at : ℕ
  pub it : A
  pub there : get_elem? xs at ≡ some it
  pub passes : test it ≡ true

pub any_passes : {A : Type 0} → (test : A → Bool) (xs : List A) → list_any test xs ≡ true → Passes test xs
any_passes test [] is = absurd (cc)
any_passes test (x ∷ xs) is = first (test x) refl is (λ later. any_passes test xs later)
  where
    first : (b : Bool) → test x ≡ b → (b || list_any test xs) ≡ true → (list_any test xs ≡ true → Passes test xs) →
        Passes test (x ∷ xs)
    first true here is more = record { at = 0; it = x; there = refl; passes = here }
    first false here is more =
        let rest = more is in
        record { at = suc rest.at; it = rest.it; there = rest.there; passes = rest.passes }

or_right : (a b : Bool) → b ≡ true → (a || b) ≡ true
or_right true b is = refl
or_right false b is = is

pub passes_any : {A : Type 0} → (test : A → Bool) (xs : List A) (i : ℕ) (x : A) → get_elem? xs i ≡ some x →
    test x ≡ true → list_any test xs ≡ true
passes_any test [] i x at is = absurd (some-ne-none x (sym at))
passes_any test (y ∷ xs) zero x at is =
    ap (λ b. b || list_any test xs) (ap test (some-injective y x at) ∙ is)
passes_any test (y ∷ xs) (suc i) x at is = or_right (test y) (list_any test xs) (passes_any test xs i x at is)

-- two tests that follow from each other
pub both_ways : (a b : Bool) → (a ≡ true → b ≡ true) → (b ≡ true → a ≡ true) → a ≡ b
both_ways true b there back = sym (there refl)
both_ways false true there back = back refl
both_ways false false there back = refl

-- an entry of one log whose event passes a test
module _ (test : Event → Bool) where
  any_of : (b c d : Bool) → (c ≡ true → d ≡ true) → (b || c) ≡ true → (b || d) ≡ true
  any_of true c d more is = refl
  any_of false c d more is = more is

  of_entries : (log : List LogEntry) → list_any test (events_in log) ≡ true →
      list_any (λ (entry : LogEntry). test entry.event) log ≡ true
  of_entries [] is = is
  of_entries (entry ∷ log) is =
      any_of (test entry.event) (list_any test (events_in log)) (list_any (λ (entry : LogEntry). test entry.event) log)
      (of_entries log) is

  any_entry : (logs : List (List LogEntry)) → list_any test (flat_map events_in logs) ≡ true →
      (entry : LogEntry) × IsEntryIn logs entry × (test entry.event ≡ true)
  any_entry [] is = absurd (cc)
  any_entry (log ∷ logs) is =
      first (list_any test (events_in log)) refl (sym (list_any-append test (events_in log) (flat_map events_in logs)) ∙ is)
      (λ later. any_entry logs later)
    where
      first : (b : Bool) → list_any test (events_in log) ≡ b → (b || list_any test (flat_map events_in logs)) ≡ true →
          (list_any test (flat_map events_in logs) ≡ true →
          (entry : LogEntry) × IsEntryIn logs entry × (test entry.event ≡ true)) →
          (entry : LogEntry) × IsEntryIn (log ∷ logs) entry × (test entry.event ≡ true)
      first true here is more =
          let found = any_passes (λ (entry : LogEntry). test entry.event) log (of_entries log here) in
          (found.it, record { seat = 0; at = found.at; there = found.there }, found.passes)
      first false here is more =
          let rest = more is in
          (rest.0, record { seat = suc rest.1.seat; at = rest.1.at; there = rest.1.there }, rest.2)

  of_log : (entry : LogEntry) (log : List LogEntry) (at : ℕ) → get_elem? log at ≡ some entry →
      get_elem? (events_in log) at ≡ some entry.event
  of_log entry [] at there = absurd (some-ne-none entry (sym there))
  of_log entry (x ∷ log) zero there = ap (λ (e : LogEntry). some e.event) (some-injective x entry there)
  of_log entry (x ∷ log) (suc at) there = of_log entry log at there

  entry_any : (logs : List (List LogEntry)) (seat at : ℕ) (entry : LogEntry) →
      get_elem? (slice_index_or logs seat []) at ≡ some entry → test entry.event ≡ true →
      list_any test (flat_map events_in logs) ≡ true
  entry_any [] seat at entry there is = absurd (some-ne-none entry (sym there))
  entry_any (log ∷ logs) zero at entry there is =
      list_any-append test (events_in log) (flat_map events_in logs)
      ∙ ap (λ b. b || list_any test (flat_map events_in logs))
      (passes_any test (events_in log) at entry.event (of_log entry log at there) is)
  entry_any (log ∷ logs) (suc seat) at entry there is =
      list_any-append test (events_in log) (flat_map events_in logs)
      ∙ or_right (list_any test (events_in log)) (list_any test (flat_map events_in logs))
      (entry_any logs seat at entry there is)

  -- what passes in the logs passes in their order
  pub any_ordered : (logs : List (List LogEntry)) (count : ℕ) (events : List Event) → IsInOrder logs count events →
      list_any test (flat_map events_in logs) ≡ list_any test events
  any_ordered logs count events ordered =
      both_ways (list_any test (flat_map events_in logs)) (list_any test events)
      (λ is. let found = any_entry logs is in
      passes_any test events found.0.position found.0.event (ordered.each found.0 found.1) found.2)
      (λ is. let found = any_passes test events is in
      let entry = ordered.only found.at found.it found.there in
      entry_any logs entry.seat entry.at (record { position = found.at; event = found.it }) entry.there found.passes)

module _ (names : SessionNames) (logs : LogsView) (labels : ℕ → List Labelled) (logged : AreLogs names logs)
    (are : AreLabels names logs labels) where
  labelled : AreLabelled labels logged.closed.history
  labelled = labelled_at names logs labels logged are logged.closed.history (tail_refl logged.closed.history)

  -- as many as the clock counts
  pub all_drawn : length (shown_in labels logged.closed.history) ≡ logs.last.clock
  all_drawn =
      let plan = session_layout names.script in
      let count = shown_count labels logged.closed.history labelled in
      let clock = clock_is plan.guards plan.seats logged.closed.history logged.closed.few.0 logged.closed.sound in
      let word = ap (λ w. w % 2 ^ 32) logged.closed.word in
      let parts = logged.closed.parts in
      omega (arith, count, clock, word, parts)

  -- each entry is shown at its position
  entry_shown : (entry : LogEntry) → IsEntryIn logs.entries entry →
      get_elem? (shown_in labels logged.closed.history) entry.position ≡ some entry.event
  entry_shown entry is =
      let plan = session_layout names.script in
      let d =
      drawn_by (labels is.seat) is.at entry
      (subst (λ es. get_elem? es is.at ≡ some entry) (sym (are.entries is.seat)) is.there) in
      let step =
      subst (λ steps. get_elem? steps d.at ≡ some (Draw entry.event d.changes d.found)) (are.steps is.seat ∙ logged.closed.all is.seat)
      (step_of_label (labels is.seat) d.at (shows entry.event d.changes d.found) d.label) in
      let moment = moment_of logged.closed.history is.seat d.at (Draw entry.event d.changes d.found) step in
      let e = made_event is.seat (Draw entry.event d.changes d.found) in
      let label : label_of labels moment.older e ≡ shows entry.event d.changes d.found =
      index_is (labels is.seat) _ (shows entry.event d.changes d.found) (silent (Draw entry.event d.changes d.found))
      (subst (λ i. get_elem? (labels is.seat) i ≡ some (shows entry.event d.changes d.found)) moment.index d.label) in
      subst (λ p. get_elem? (shown_in labels logged.closed.history) p ≡ some entry.event) d.position
      (shown_at labels plan.guards plan.seats logged.closed.few.0 logged.closed.history logged.closed.sound labelled e
      moment.older moment.tail entry.event d.changes d.found label)

  pub merged_is : (events : List Event) → (merging : IsMerging logs events) →
      merging.drawn ≡ shown_in labels logged.closed.history
  merged_is events merging =
      same_lists merging.drawn (shown_in labels logged.closed.history) (merging.ordered.size ∙ sym all_drawn)
      (λ i x at.
      entry_shown (record { position = i; event = x }) (merging.ordered.only i x at))
