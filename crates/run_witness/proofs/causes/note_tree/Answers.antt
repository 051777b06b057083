use Rattle.std.proofs.Common.{◌≡◌, subst}
use Rattle.std.specs.Prelude.{Bool, IfOk, Some, if◌then◌else◌}
use Rattle.run_rules.specs.declared.frame.Frame.{Frame}
use Rattle.run_check.proofs.TestLemmas.{frame_test}
use Rattle.run_witness.specs.Reached.{reached_at, reached_with}
use Rattle.run_witness.proofs.causes.note_tree.Goals as goal

pub returns : goal.returns
returns c =
    let P : (Frame → Frame → Bool) → Type 0 =
    λ test. IfOk c.note.result
    (λ _. (other : Frame) →
    reached_at test c.note.new.self other
    ≡ (if test c.args.tree other
    then Some (reached_with
    (reached_at test c.args.trees.now c.args.tree) c.args.at) else reached_at test c.args.trees.now other)) in
    subst P frame_test c.note.ensures
