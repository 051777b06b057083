use Rattle.std.proofs.Common.{◌≡◌, [], drop, vec_len}
use Rattle.session_script.specs.Lanes.{lanes_after}
use Rattle.session_script.specs.Outcome.{entries_of}
use Rattle.session_script.proofs.lane.lanes.Given as goal

abbrev pub invariant-loop-n : goal.invariant-loop-n
invariant-loop-n l = record {
  len : vec_len l.lanes ≡ l.n;
  lanes : lanes_after l.lanes.items (entries_of (drop l.n l.acts)) ≡ lanes_after [] (entries_of l.acts);
}
