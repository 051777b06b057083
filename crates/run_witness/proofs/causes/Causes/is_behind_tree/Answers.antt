use Rattle.std.proofs.Common.{subst}
use Rattle.std.specs.Prelude.{Bool, IsTrue, ◌↔◌}
use Rattle.run_rules.specs.declared.frame.Frame.{Frame}
use Rattle.run_check.proofs.TestLemmas.{frame_test}
use Rattle.run_witness.specs.Reached.{IsBefore, reached_at}
use Rattle.run_witness.proofs.causes.Causes.is_behind_tree.Goals as goal

pub returns : goal.returns
returns c =
    let P : (Frame → Frame → Bool) → Type 0 =
    λ test. IsTrue c.is_before.result ↔ IsBefore (reached_at test c.args.self.now.trees c.args.tree) c.args.bound in
    subst P frame_test c.is_before.ensures
