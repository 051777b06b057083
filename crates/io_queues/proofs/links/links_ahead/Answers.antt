use Rattle.std.proofs.Common.{arith, ap, ◌∙◌, ◌++◌, ◌∷◌, [], ◌+◌}
use Rattle.io_queues.proofs.NumberLemmas.{ahead_more}
use Rattle.io_queues.proofs.links.links_ahead.Goals as goal

pub loop-node-preserved : goal.loop-node-preserved
loop-node-preserved c = record {
  made = c.push_reserved.ensures.items ∙ ap (λ xs. xs ++ (c.loop-node.node + 1) ∷ []) c.loop-node.invariant.made ∙ ahead_more c.loop-node.node;
  many = omega arith;
  room = omega (arith, c.push_reserved.ensures.capacity);
}
