use Rattle.std.proofs.Common.{ap, ◌∙◌}
use Rattle.run_rules.specs.declared.frame.Frame.{Frame}
use Rattle.run_rules.specs.Takings.{is_taken_by}
use Rattle.run_verdict.proofs.owing.has_kept.Goals as goal

pub returns : goal.returns
returns c = λ level past earlier judged again.
    c.is_taken_by.ensures past (c.checker-2.ensures level past judged)
    ∙ ap (λ (f : Frame). is_taken_by past c.args.thread f c.args.resource)
    (c.frame-frame.ensures earlier (c.checker.ensures level earlier again))
