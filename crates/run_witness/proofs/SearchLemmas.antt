-- An order that was found is one of the run.
use Rattle.std.proofs.Common.{◌≡◌, ℕ, List, reverse, subst, sym, ◌∙◌}
use Rattle.std.specs.Prelude.{IfSome, Option, Some}
use Rattle.run_lines.specs.declared.line.Line.{Line}
use Rattle.run_orders.specs.declared.order.Step.{Step}
use Rattle.run_witness.specs.Facts.{AreFacts}
use Rattle.run_witness.specs.Witness.{IsWitness}
use Rattle.run_witness.specs.declared.facts.Facts.{Facts}
use Rattle.run_witness.specs.declared.search.Found.{Found}

-- what is set apart is one list, however it is borrowed
pub found_apart : (run : List Line) (apart one two : List ℕ) (thing : ℕ) (facts : Facts) (answer : Option Found)
    (found : Found)
    (steps : List Step) (last : Step) (claim : ℕ) → answer ≡ Some found
    → IfSome answer (λ order. (all : List Line) → AreFacts two thing all facts →
    IsWitness all two (reverse order.steps.items) order.last thing order.claim)
    → AreFacts one thing run facts → one ≡ apart → two ≡ apart → steps ≡ found.steps.items → last ≡ found.last
    → claim ≡ found.claim
    → IsWitness run apart (reverse steps) last thing claim
found_apart run apart one two thing facts answer found steps last claim is known are first second same_steps same_last
    same_claim =
    let shown : (all : List Line) → AreFacts two thing all facts
    → IsWitness all two (reverse found.steps.items) found.last thing found.claim =
    subst (λ (o : Option Found). IfSome o (λ order. (all : List Line) → AreFacts two thing all facts →
    IsWitness all two (reverse order.steps.items) order.last thing order.claim)) is known in
    let here = shown run (subst (λ (ops : List ℕ). AreFacts ops thing run facts) (first ∙ sym second) are) in
    subst (λ (n : ℕ). IsWitness run apart (reverse steps) last thing n) (sym same_claim)
    (subst (λ (l : Step). IsWitness run apart (reverse steps) l thing found.claim) (sym same_last)
    (subst (λ (xs : List Step). IsWitness run apart (reverse xs) found.last thing found.claim) (sym same_steps)
    (subst (λ (ops : List ℕ). IsWitness run ops (reverse found.steps.items) found.last thing found.claim) second here)))
