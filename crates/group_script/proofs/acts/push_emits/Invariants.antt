use Rattle.std.proofs.Common.{◌≡◌, ◌≤◌, ◌+◌, ◌++◌, ◌==◌, not, map, filter, vec_len}
use Rattle.std.specs.List.{range_with_len}
use Rattle.session_script.specs.declared.act.Act.TheVariants as act
use Rattle.session_script.specs.Outcome.{entries_of}
use Rattle.group_script.specs.Group.{under}
use Rattle.group_script.proofs.acts.push_emits.Given as goal

abbrev pub invariant-loop-slot : goal.invariant-loop-slot
invariant-loop-slot l = record {
  acts : entries_of l.acts.items
      ≡ entries_of l.initial.acts.items
      ++ map (λ j. under l.op l.class (act.Emit j l.how.types)) (filter (λ j. not (j == l.i)) (range_with_len 0 l.slot));
  few : vec_len l.acts ≤ vec_len l.initial.acts + l.slot;
}
