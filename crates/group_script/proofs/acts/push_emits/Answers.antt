use Rattle.std.proofs.Common.{◌==◌, arith, not}
use Rattle.session_script.specs.declared.act.Act.TheVariants as act
use Rattle.session_script.specs.Outcome.{entries_of}
use Rattle.group_script.specs.Group.{under}
use Rattle.group_script.proofs.OthersLemmas.{others-more}
use Rattle.group_script.proofs.acts.push_emits.Goals as goal

pub loop-slot-preserved : goal.loop-slot-preserved
loop-slot-preserved c = record {
  acts =
      others-more (λ j. under c.args.op c.args.class (act.Emit j c.args.how.now.types)) (λ j. not (j == c.args.i))
      c.loop-slot.slot (entries_of c.args.acts.now.items) (entries_of c.loop-slot.acts.items)
      (entries_of c.push_emit.new.acts.items) c.in_ok-push_emit.ensures.acts c.loop-slot.invariant.acts;
  few = omega (arith, c.in_ok-push_emit.ensures.few, c.loop-slot.invariant.few);
}
