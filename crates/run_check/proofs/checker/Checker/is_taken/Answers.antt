use Rattle.std.proofs.Common.{◌≡◌, ap, sym, ◌∙◌}
use Rattle.run_rules.specs.declared.frame.Frame.{Frame}
use Rattle.run_rules.specs.Stacks.{frame}
use Rattle.run_rules.specs.Takings.{taken, is_taken_by}
use Rattle.run_check.proofs.RuleLemmas.{kept_frame}
use Rattle.run_check.proofs.checker.Checker.is_taken.Goals as goal

pub returns : goal.returns
returns c = λ past after.
    let who : c.frame-frame.result ≡ frame past c.args.thread = c.frame-frame.ensures
    ∙ kept_frame past c.args.self.now after c.args.thread in
    let same : c.has.result ≡ is_taken_by past c.args.thread (frame past c.args.thread) c.args.resource =
    c.has.ensures (taken past) after.counted ∙ ap (λ (f : Frame). is_taken_by past c.args.thread f c.args.resource) who in
    (λ yes. sym same ∙ yes, λ yes. same ∙ yes)
