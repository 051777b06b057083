-- What the logs don't show isn't in the history either, which has their events and drops.
use Rattle.std.proofs.Common.{◌≡◌, ◌⊎◌, inl, inr, ⊎_elim, ℕ, zero, suc, ◌-◌, ◌<◌, true, List, [], ◌∷◌, ◌++◌, length, map, sym, ap, subst, ◌∙◌, arith}
use Rattle.std.proofs.lemmas.Bool.{cases_lt, eqb-true}
use mathlib.Core.Option.{some, some-injective, some-ne-none}
use lib.ListN.{get_elem?}
use Rattle.asio_types.specs.declared.code.Code.{Code}
use Rattle.asio_types.specs.declared.event.Event.{Event}
use Rattle.asio_types.specs.declared.event.Event.TheVariants as event
use Rattle.history_rules.specs.Kinds.{is_act, is_posting}
use Rattle.lane_clock.specs.History.{ClockEvent, steps_under}
use Rattle.lane_clock.proofs.MomentLemmas.{Tail, tail_more, tails_order, under_length}
use Rattle.lane_logs.specs.Drops.{dropped, has_call, is_call_of}
use Rattle.lane_logs.specs.Labels.{Labelled}
use Rattle.lane_logs.specs.Logs.{AreLogs, LogsView}
use Rattle.lane_logs.specs.Names.{SessionNames}
use Rattle.history_merge.specs.Merging.{IsMerging}
use Rattle.history_merge.specs.Receipts.{IsAbsent}
use Rattle.history_merge.proofs.AlikeLemmas.{is_not}
use Rattle.history_merge.proofs.HistoryLemmas.{shown_in}
use Rattle.history_merge.proofs.LabellingLemmas.{AreLabels}
use Rattle.history_merge.proofs.MergedLemmas.{any_passes, merged_is}
use Rattle.history_merge.proofs.PartLemmas.{at_left, at_right}

-- of two steps the one before which a number had made fewer came first
pub before_steps : (n : ℕ) (es a b : List ClockEvent) (x y : ClockEvent) → Tail (x ∷ a) es → Tail (y ∷ b) es →
    length (steps_under n a) < length (steps_under n b) → Tail (x ∷ a) b
before_steps n es a b x y first second less = elim (cases_lt (length a) (length b)) [
  | inl shorter ↦ tails_order (x ∷ a) b es first (tail_more b y es second) (omega (arith, shorter))
  | inr most ↦
      absurd (let more =
      under_length n b a (tails_order b a es (tail_more b y es second) (tail_more a x es first) most) in
      omega (arith, less, more))
]

-- drops are drops
dropped_only : (names : SessionNames) (ops : List ℕ) (i : ℕ) (shown : Event) →
    get_elem? (map (dropped names) ops) i ≡ some shown → (op : ℕ) × (shown ≡ dropped names op)
dropped_only names [] i shown at = absurd (some-ne-none shown (sym at))
dropped_only names (op ∷ ops) zero shown at = (op, sym (some-injective (dropped names op) shown at))
dropped_only names (op ∷ ops) (suc i) shown at = dropped_only names ops i shown at

call_of : (op : ℕ) (shown : Event) → is_call_of op shown ≡ true → shown ≡ event.Call op
call_of op (event.Call other) is = ap event.Call (eqb-true other op is)
call_of op other is = absurd (cc)

module _ (names : SessionNames) (logs : LogsView) (labels : ℕ → List Labelled) (logged : AreLogs names logs)
    (are : AreLabels names logs labels) (events : List Event) (merging : IsMerging logs events) where
  abbrev whole : List ClockEvent
  whole = logged.closed.history

  in_history : (i : ℕ) (shown : Event) → get_elem? events i ≡ some shown →
      (get_elem? (shown_in labels whole) i ≡ some shown) ⊎ ((o : ℕ) × (shown ≡ dropped names o))
  in_history i shown at =
      let here : get_elem? (shown_in labels whole ++ logs.drops) i ≡ some shown =
      subst (λ xs. get_elem? (xs ++ logs.drops) i ≡ some shown) (merged_is names logs labels logged are events merging)
      (subst (λ xs. get_elem? xs i ≡ some shown) merging.is at) in
      elim (cases_lt i (length (shown_in labels whole))) [
        | inl less ↦ inl (sym (at_left (shown_in labels whole) logs.drops i less) ∙ here)
        | inr most ↦
            let k : ℕ = i - length (shown_in labels whole) in
            let there : get_elem? logs.drops k ≡ some shown =
            sym (at_right (shown_in labels whole) logs.drops i k (omega (arith, most))) ∙ here in
            inr (dropped_only names _ k shown (subst (λ xs. get_elem? xs k ≡ some shown) logged.drops there))
      ]

  pub absent : (op : ℕ) →
      ((given : Code) (size i : ℕ) →
      get_elem? (shown_in labels logged.closed.history) i ≡ some (event.Done op given size) → ⊥) →
      (is_act is_posting names.script op ≡ true → (i : ℕ) →
      get_elem? (shown_in labels logged.closed.history) i ≡ some (event.Call op) → ⊥) →
      IsAbsent names.script events op
  absent op not_done not_called =
      record {
        undone = λ given size i at.
            ⊎_elim
            (λ (there : get_elem? (shown_in labels whole) i ≡ some (event.Done op given size)).
            not_done given size i there)
            (λ (drop : (o : ℕ) × (event.Done op given size ≡ dropped names o)).
            absurd (let wrong = drop.1 in cc))
            (in_history i (event.Done op given size) at);
        uncalled = λ posting. is_not (has_call op events) (λ called.
            let found = any_passes (is_call_of op) events called in
            let is = call_of op found.it found.passes in
            ⊎_elim
            (λ (there : get_elem? (shown_in labels whole) found.at ≡ some (event.Call op)).
            not_called posting found.at there)
            (λ (drop : (o : ℕ) × (event.Call op ≡ dropped names o)).
            absurd (let wrong = drop.1 in cc))
            (in_history found.at (event.Call op) (found.there ∙ ap some is)));
      }
