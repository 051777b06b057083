use Rattle.std.proofs.Common.{◌≡◌, ◌≤◌, ◌*◌, ◌++◌, drop, length, vec_len}
use Rattle.session_script.specs.Outcome.{entries_of}
use Rattle.group_script.specs.Group.{acts_from}
use Rattle.group_script.proofs.acts.acts_of.Given as goal

abbrev pub invariant-loop-i : goal.invariant-loop-i
invariant-loop-i l = record {
  acts : entries_of l.acts.items ++ acts_from l.how l.i (vec_len l.acts) (drop l.i l.members)
      ≡ acts_from l.how 0 0 l.members;
  few : vec_len l.acts ≤ 50 * l.i;
  how : l.how ≡ record { count = length l.members; rule = l.fn.rule; types = l.fn.types };
}
