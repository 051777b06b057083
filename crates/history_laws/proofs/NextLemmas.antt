-- The next call of a body, and the one that is open.
use Rattle.std.proofs.Common.{◌≡◌, ℕ, ◌<◌, List, Some, sym, ap, ◌∙◌, arith}
use Rattle.std.specs.Prelude.{slice_get}
use Rattle.asio_types.specs.Faults.{most_faults}
use Rattle.asio_types.specs.declared.code.Class.{Class}
use Rattle.history_rules.specs.Calls.{progressed}
use Rattle.history_rules.specs.declared.phase.ActPhase.{ActPhase}
use Rattle.history_rules.specs.declared.phase.ActPhase.TheVariants as phase
use Rattle.history_rules.specs.declared.phase.Step.TheVariants as step
use Rattle.history_laws.proofs.CountLemmas.{one_more-is}
use Rattle.history_laws.proofs.MovingLemmas.{NextIn}
use Rattle.history_laws.proofs.Sound.{AheadIn, CallsIn}

module _ (acts : List ℕ) (class : Class) where
  -- once it is called it isn't ahead
  pub next_passed : (p : ActPhase) (a k : ℕ) → ((i : ℕ) → slice_get acts i ≡ Some a → i < most_faults) →
      ((i j : ℕ) → slice_get acts i ≡ Some a → slice_get acts j ≡ Some a → i ≡ j) → NextIn acts class p a →
      slice_get acts k ≡ Some a → AheadIn class (progressed step.Made p) k → ⊥
  next_passed (phase.Running running progress) a k few once next at ahead =
      let more = one_more-is progress.made (few progress.made next.1) in
      let same = once progress.made k next.1 at in absurd (omega (arith, more, same, ahead.1))
  next_passed phase.Absent a k few once next at ahead = next
  next_passed phase.Inside a k few once next at ahead = next
  next_passed phase.Requested a k few once next at ahead = next
  next_passed (phase.Ready given size why) a k few once next at ahead = next
  next_passed phase.Ended a k few once next at ahead = next
  next_passed phase.Dropped a k few once next at ahead = next
  next_passed phase.Asked a k few once next at ahead = next

  -- the next call is the open one
  pub next_calls : (p : ActPhase) (a : ℕ) → ((i : ℕ) → slice_get acts i ≡ Some a → i < most_faults) →
      NextIn acts class p a → CallsIn acts class (progressed step.Made p) a
  next_calls (phase.Running running progress) a few next =
      let more = one_more-is progress.made (few progress.made next.1) in
      (next.0, ap (slice_get acts) (sym next.2) ∙ next.1, omega (arith, more, next.2))
  next_calls phase.Absent a few next = absurd next
  next_calls phase.Inside a few next = absurd next
  next_calls phase.Requested a few next = absurd next
  next_calls (phase.Ready given size why) a few next = absurd next
  next_calls phase.Ended a few next = absurd next
  next_calls phase.Dropped a few next = absurd next
  next_calls phase.Asked a few next = absurd next

  -- a body with an open call has no next one
  pub next_idle : (others : List ℕ) (second_class : Class) (p : ActPhase) (a n : ℕ) → NextIn acts class p a →
      CallsIn others second_class p n → ⊥
  next_idle others second_class (phase.Running running progress) a n next calls = absurd (omega (arith, next.2, calls.2))
  next_idle others second_class phase.Absent a n next calls = next
  next_idle others second_class phase.Inside a n next calls = next
  next_idle others second_class phase.Requested a n next calls = next
  next_idle others second_class (phase.Ready given size why) a n next calls = next
  next_idle others second_class phase.Ended a n next calls = next
  next_idle others second_class phase.Dropped a n next calls = next
  next_idle others second_class phase.Asked a n next calls = next

  -- a handler runs one branch
  pub one_class : (others : List ℕ) (second_class : Class) (p : ActPhase) (a n : ℕ) → CallsIn acts class p a →
      CallsIn others second_class p n → class ≡ second_class
  one_class others second_class (phase.Running running progress) a n first second = sym first.0 ∙ second.0
  one_class others second_class phase.Absent a n first second = absurd first
  one_class others second_class phase.Inside a n first second = absurd first
  one_class others second_class phase.Requested a n first second = absurd first
  one_class others second_class (phase.Ready given size why) a n first second = absurd first
  one_class others second_class phase.Ended a n first second = absurd first
  one_class others second_class phase.Dropped a n first second = absurd first
  one_class others second_class phase.Asked a n first second = absurd first

  -- and has one open call
  pub one_call : (p : ActPhase) (a n : ℕ) → CallsIn acts class p a → CallsIn acts class p n → a ≡ n
  one_call (phase.Running running progress) a n first second =
      let same : Some a ≡ Some n = sym first.1 ∙ second.1 in cc
  one_call phase.Absent a n first second = absurd first
  one_call phase.Inside a n first second = absurd first
  one_call phase.Requested a n first second = absurd first
  one_call (phase.Ready given size why) a n first second = absurd first
  one_call phase.Ended a n first second = absurd first
  one_call phase.Dropped a n first second = absurd first
  one_call phase.Asked a n first second = absurd first
