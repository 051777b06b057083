use Rattle.std.proofs.Common.{List, reverse, subst}
use Rattle.run_orders.specs.declared.order.Step.{Step}
use Rattle.run_witness.specs.Witness.{IsWitness}
use Rattle.run_witness.proofs.search.Search.find_by.Goals as goal

pub returns-then-branch : goal.returns-then-branch
returns-then-branch c = λ run are.
    let step : Step =
    record {
      place = c.args.plan.last;
      line = record {
        thread = c.unwrap_or-thread.result;
        does =
            c.in-Some.last.line.does;
      };
    } in
    subst (λ (xs : List Step). IsWitness run c.args.apart.now
    (reverse xs) step c.args.thing c.args.plan.held) c.deref.ensures.value
    ((c.in_ok-judge_by.ensures run are).0 c.if-branch.true)
