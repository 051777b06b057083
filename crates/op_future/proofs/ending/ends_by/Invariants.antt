use Rattle.std.proofs.Common.{◌≡◌, map, take}
use Rattle.std.specs.Prelude.{vec_capacity}
use Rattle.std.specs.Option.{unwrap_or}
use Rattle.op_future.proofs.ending.ends_by.Given as goal

abbrev pub invariant-loop-end : goal.invariant-loop-end
invariant-loop-end l = record {
  made : l.ends.items ≡ map (λ now. unwrap_or now l.unfound) (take l.end-index l.found);
  capacity : vec_capacity l.ends ≡ vec_capacity l.fn.ends;
}
