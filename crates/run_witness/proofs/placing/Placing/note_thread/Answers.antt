use Rattle.std.proofs.Common.{◌≡◌, subst}
use Rattle.std.specs.Prelude.{Bool, Some, if◌then◌else◌}
use Rattle.std.specs.HashMap.{get}
use Rattle.run_rules.specs.declared.frame.Frame.{Frame}
use Rattle.run_check.proofs.TestLemmas.{frame_test}
use Rattle.run_witness.proofs.placing.Placing.note_thread.Goals as goal

pub returns-clause-threads : goal.returns-clause-threads
returns-clause-threads c =
    let P : (Frame → Frame → Bool) → Type 0 =
    λ test. (q : Frame) →
    get test c.insert.new.self q ≡
    (if test c.args.tree q then Some c.args.thread else get test c.args.self.now.threads q) in
    subst P frame_test c.in_ok-insert.ensures.updates.0
