use Rattle.std.proofs.Common.{◌≡◌, ◌≤◌, ◌-◌, ◌++◌, vec_len, vec_capacity}
use Rattle.session_script.specs.Outcome.{entries_of}
use Rattle.generated_session.specs.Generator.{acts_from, most_start}
use Rattle.generated_session.proofs.generator.acts_of.Given as goal

abbrev pub invariant-loop-acts : goal.invariant-loop-acts
invariant-loop-acts l = record {
  made : entries_of l.acts.items ++ acts_from (l.size - vec_len l.acts) (vec_len l.acts) l.x
      ≡ acts_from l.size 0 l.fn.start;
  within : vec_len l.acts ≤ l.size;
  room : l.size ≤ vec_capacity l.acts;
  number : l.x ≤ most_start;
}

abbrev pub decreases-loop-acts : goal.decreases-loop-acts
decreases-loop-acts l = l.size - vec_len l.acts
