use Rattle.std.proofs.Common.{◌≡◌, subst}
use Rattle.std.specs.Prelude.{Bool, None, if◌then◌else◌}
use Rattle.std.specs.HashMap.{get}
use Rattle.run_rules.specs.declared.frame.Frame.{Frame}
use Rattle.run_check.proofs.TestLemmas.{frame_test}
use Rattle.run_check.proofs.last_calls.LastCalls.forget.Goals as goal

pub returns : goal.returns
returns c =
    let P : (Frame → Frame → Bool) → Type 0 =
    λ test. (q : Frame) →
    get test c.remove.new.self q ≡ (if test c.args.who q then None else get test c.args.self.now.calls q) in
    subst P frame_test c.remove.ensures.updates.0
