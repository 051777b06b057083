use Rattle.std.proofs.Common.{refl, sym, ◌∙◌}
use Rattle.run_witness.proofs.PlacingLemmas.{true_false}
use Rattle.run_witness.proofs.placing.Placing.has_caller.Goals as goal

pub returns-then-begins_tree : goal.returns-then-begins_tree
returns-then-begins_tree c = (λ fine inside. absurd (inside (c.begins_tree.ensures.0 c.if-begins_tree.true)), λ all. refl)

pub returns-else-begins_tree : goal.returns-else-begins_tree
returns-else-begins_tree c = (
  λ fine inside. c.is_by_same.ensures.0 fine,
  λ all. c.is_by_same.ensures.1 (all (λ begins. true_false (sym (c.begins_tree.ensures.1 begins)
      ∙ c.if-begins_tree.false))),
)
