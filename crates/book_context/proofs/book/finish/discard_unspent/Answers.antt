use Rattle.std.proofs.Common.{◌∙◌, arith}
use Rattle.book_context.proofs.FinishLemmas.{by_more, ends_all}
use Rattle.book_context.proofs.book.finish.discard_unspent.Goals as goal

pub loop-op-preserved : goal.loop-op-preserved
loop-op-preserved g c =
    let before = c.loop-op.invariant in
    let next = c.discard_next-left.ensures in
    record {
      ending = next.ending;
      script = next.script ∙ before.script;
      half = next.half ∙ before.half;
      faults = next.faults ∙ before.faults;
      acts = before.acts;
      goes_on = by_more _ _ _ before.goes_on next.goes_on;
    }

pub returns-clause-ending : goal.returns-clause-ending
returns-clause-ending g c = ends_all c.loop-op.invariant (omega arith)
