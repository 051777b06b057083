use Rattle.std.proofs.Common.{arith, ap, ◌∙◌, ◌++◌, ◌∷◌, []}
use Rattle.io_queues.proofs.NumberLemmas.{back_more}
use Rattle.io_queues.proofs.links.links_back.Goals as goal

pub loop-node-preserved : goal.loop-node-preserved
loop-node-preserved c = record {
  made = c.push_reserved-in-loop-node.ensures.items ∙ ap (λ xs. xs ++ c.loop-node.node ∷ []) c.loop-node.invariant.made
      ∙ ap (λ xs. c.args.last ∷ xs) (back_more c.loop-node.node);
  many = omega arith;
  room = omega (arith, c.push_reserved-in-loop-node.ensures.capacity);
}
