-- What a pass learns by a take or by finding none, and how passes are counted.
use Rattle.std.proofs.Common.{◌≡◌, ℕ, zero, suc, ◌≤◌, [], ◌∷◌, ◌++◌, reverse, replicate, refl, ap, ◌∙◌, sym, subst, arith, Option, Some, None, IfSome, IfNone, MatchOption}
use Rattle.std.proofs.lemmas.List.{reverse-append}
use Rattle.ready_hints.specs.declared.rule.Hand.{Hand}
use Rattle.ready_hints.specs.HintRule.{times_hinted, all_parts, TookOnce, takes, accounts}

-- what the queue told of a pop
abbrev Told : Option ℕ → Hand → Hand → (ℕ → Type 0) → Type 0
Told result v w Z = MatchOption result ((w ≡ v) × accounts v []) (λ x. takes v x w × Z x)

pub knows_once : (result : Option ℕ) (v w : Hand) (Z : ℕ → Type 0) → Told result v w Z → TookOnce w
knows_once (Some x) v w Z told = told.0.1
knows_once None v w Z told = subst TookOnce (sym told.0) told.1.0

pub some_hinted : (result : Option ℕ) (v w : Hand) (Z : ℕ → Type 0) → Told result v w Z
    → IfSome result (λ _. v.parts ≡ all_parts → (lane : ℕ) → times_hinted lane w.taken ≤ times_hinted lane w.hinted)
some_hinted (Some x) v w Z told = told.0.2
some_hinted None v w Z told = tt

pub none_settled : (result : Option ℕ) (v w : Hand) (Z : ℕ → Type 0) → Told result v w Z
    → IfNone result (v.parts ≡ all_parts → (lane : ℕ) → times_hinted lane v.taken ≡ times_hinted lane v.hinted)
none_settled (Some x) v w Z told = tt
none_settled None v w Z told = λ all lane. let e = told.1.1 all lane in omega arith

replicate_more : {A : Type 0} (n : ℕ) (a : A) → replicate n a ++ a ∷ [] ≡ a ∷ replicate n a
replicate_more zero a = refl
replicate_more (suc n) a = ap (λ l. a ∷ l) (replicate_more n a)

pub reverse-replicate : {A : Type 0} (n : ℕ) (a : A) → reverse (replicate n a) ≡ replicate n a
reverse-replicate zero a = refl
reverse-replicate (suc n) a = reverse-append (a ∷ []) (replicate n a)
    ∙ (ap (λ l. l ++ a ∷ []) (reverse-replicate n a) ∙ replicate_more n a)
