use Rattle.std.proofs.Common.{◌≡◌, filter}
use Rattle.std.specs.List.{range_with_len}
use Rattle.session_script.specs.Script.{is_op}
use Rattle.parallel_group.proofs.tasks.member_ops.Given as goal

abbrev pub invariant-loop-act : goal.invariant-loop-act
invariant-loop-act l = record { ops : l.ops.items ≡ filter (is_op l.script) (range_with_len 0 l.act) }
