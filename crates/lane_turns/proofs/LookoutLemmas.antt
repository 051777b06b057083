-- Passes that are all of one queue of hints.
use Rattle.std.proofs.Common.{◌≡◌, ℕ, zero, suc, ◌-◌, ◌<◌, List, [], ◌∷◌, length, replicate, ap, arith, sym, subst}
use Rattle.std.proofs.lemmas.List.{length-replicate}
use Rattle.ready_hints.specs.Hints.{Passed}

module _ {Q : Type 0} (queue_of : Passed → Q) (queue : Q) where
  abbrev pub AreOf : List Passed → Type 0
  AreOf [] = Unit {0}
  AreOf (pass ∷ rest) = (queue_of pass ≡ queue) × AreOf rest

  pub copies : (pass : Passed) (n : ℕ) → queue_of pass ≡ queue → AreOf (replicate n pass)
  copies pass zero same = tt
  copies pass (suc n) same = (same, copies pass n same)

  pub first_and_copies : (passes : List Passed) (first one : Passed) (n : ℕ) → passes ≡ first ∷ replicate n one →
      queue_of first ≡ queue → queue_of one ≡ queue → AreOf passes
  first_and_copies passes first one n same at_first at_one =
      subst AreOf (sym same) (at_first, copies one n at_one)

  pub none_missing : (passes : List Passed) (first one : Passed) (n : ℕ) → passes ≡ first ∷ replicate (n - 1) one →
      0 < n → length passes ≡ n
  none_missing passes first one n same some =
      omega (arith, ap length same, length-replicate (n - 1) one, some)
