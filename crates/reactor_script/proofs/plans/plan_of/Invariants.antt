use Rattle.std.proofs.Common.{◌≡◌, take}
use Rattle.reactor_script.specs.Plans.{calls_of, method_number}
use Rattle.reactor_script.proofs.plans.plan_of.Given as goal

abbrev pub invariant-loop-fail : goal.invariant-loop-fail
invariant-loop-fail l = l.calls.items ≡ calls_of (method_number l.method) (take l.fail-index l.fails)
