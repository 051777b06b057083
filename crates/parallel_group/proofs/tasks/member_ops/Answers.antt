use Rattle.session_script.specs.Script.{is_op}
use Rattle.parallel_group.proofs.TaskLemmas.{ops_more}
use Rattle.parallel_group.proofs.tasks.member_ops.Goals as goal

pub loop-act-preserved : goal.loop-act-preserved
loop-act-preserved c = record {
  ops =
      ops_more (is_op c.args.script.now) c.loop-act.act c.loop-act.ops.items c.push_op.new.ops.items
      c.in_ok-push_op.ensures c.loop-act.invariant.ops;
}
