-- The first wait of a timer, and the wait that is due, by their places.
use Rattle.std.proofs.Common.{◌≡◌, ℕ, true, List, [], get_or, map, ap, refl, subst, sym, ◌∙◌}
use Rattle.std.specs.Prelude.{IfNone, IfSome, Option, Some, None, is_some}
use Rattle.io_rules.specs.declared.name.Name.{Name}
use Rattle.io_rules.specs.Timers.{earliest}
use Rattle.io_queues.specs.Queued.{found, found_in, place_first}
use Rattle.io_timers.specs.declared.first.First.{First}
use Rattle.io_timers.specs.declared.pending.PendingWait.{PendingWait}
use Rattle.io_timers.specs.Kept.{IsTimers, in_order}
use Rattle.io_timers.specs.Pending.{Entry, IsOnly, first_in, op_by, timer_with, wait_of, waits_on}
use Rattle.io_timers.specs.Tournament.{IsFirst}
use Rattle.io_timers.proofs.EarliestLemmas.{next_is, none_next}
use Rattle.io_timers.proofs.FoundLemmas.{IsIn, found-in, found-in_order, in-found, some_same}
use Rattle.io_timers.proofs.TimersLemmas.{first_found, first_none, waits_are}

module _ {T : Type 0} (expiries : List ℕ) (queues : List (List (Entry (PendingWait T)))) (leaves : List (Option First))
    (kept : IsTimers expiries queues leaves) where
  pub first_there : (k : ℕ) (o : Option ℕ) → o ≡ place_first (get_or queues k []) →
      IfSome o (λ place. is_some (found_in place (in_order queues)) ≡ true)
  first_there k None is = tt
  first_there k (Some place) is =
      let first = first_found expiries queues leaves kept k place (sym is) in
      subst (λ o. is_some o ≡ true) (sym first.1) refl

  pub first_is : (timer : Name) → IsOnly timer (in_order queues) → (o : Option ℕ) →
      o ≡ place_first (get_or queues timer.place []) →
      IfSome o (λ place. (wait : PendingWait T) → found_in place (in_order queues) ≡ Some wait →
      first_in (waits_on timer (in_order queues)) ≡ Some wait)
  first_is timer only None is = tt
  first_is timer only (Some place) is = λ wait found.
      let first = first_found expiries queues leaves kept timer.place place (sym is) in
      ap first_in (waits_are expiries queues leaves kept timer only) ∙ first.2
      ∙ sym first.1 ∙ found

  pub first_isnt : (timer : Name) → IsOnly timer (in_order queues) → (o : Option ℕ) →
      o ≡ place_first (get_or queues timer.place []) →
      IfNone o (first_in (waits_on timer (in_order queues)) ≡ None)
  first_isnt timer only None is =
      ap first_in (waits_are expiries queues leaves kept timer only)
      ∙ first_none expiries queues leaves kept timer.place (sym is)
  first_isnt timer only (Some place) is = tt

  -- the first of the queue of the first leaf is the next wait
  pub next_found : (first : First) → IsFirst leaves (Some first) → (o : Option ℕ) →
      o ≡ place_first (get_or queues first.timer []) →
      IfSome o (λ place. (wait : PendingWait T) → found_in place (in_order queues) ≡ Some wait →
      op_by (earliest (map timer_with expiries) (map wait_of (in_order queues))) ≡ Some wait.op)
  next_found first is None from = tt
  next_found first is (Some place) from = λ wait found.
      let next = next_is expiries queues leaves kept first is in
      let same : next.0.place ≡ place = some_same next.0.place place (sym next.4 ∙ sym from) in
      let there = subst (λ p. found_in p (in_order queues) ≡ Some next.0.item) same
      (in-found next.0 (in_order queues) kept.apart next.1) in
      ap op_by next.2 ∙ ap (λ (w : PendingWait T). Some w.op) (some_same next.0.item wait (sym there ∙ found))

  -- what was at a place of the queues
  pub taken_found : (place : ℕ) (it : PendingWait T) → found place queues ≡ Some it →
      found_in place (in_order queues) ≡ Some it
  taken_found place it is = found-in_order place queues kept.apart ∙ is

  pub taken_there : (place : ℕ) (it : PendingWait T) → found place queues ≡ Some it →
      IsIn (record { place = place; item = it }) (in_order queues)
  taken_there place it is = found-in place it (in_order queues) (taken_found place it is)

  -- no leaf, no wait
  pub all_taken : (o : Option First) → IsFirst leaves o → ((first : First) → o ≡ Some first → ⊥) → in_order queues ≡ []
  all_taken None is never = none_next expiries queues leaves kept is
  all_taken (Some first) is never = absurd (never first refl)
