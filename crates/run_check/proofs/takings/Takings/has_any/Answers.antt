use Rattle.std.proofs.Common.{ap, sym, ◌∙◌}
use Rattle.std.specs.Prelude.{nat_lt}
use Rattle.run_rules.specs.Stacks.{same_frame}
use Rattle.run_rules.specs.contracts.frame.FramePartialEq.TheImpl as frames
use Rattle.run_rules.specs.declared.taking.Taking.{Taking}
use Rattle.run_check.proofs.TestLemmas.{frame_test, count_by}
use Rattle.run_check.proofs.CountLemmas.{any_from_times}
use Rattle.run_check.proofs.takings.Takings.has_any.Goals as goal

pub returns : goal.returns
returns c = λ all counted.
    ap (nat_lt 0) (c.get.ensures ∙ sym (count_by (frames.eq-value).it same_frame frame_test c.args.self.now.by_frame
    c.args.who) ∙ counted.by_frame c.args.who)
    ∙ any_from_times (λ (one : Taking). same_frame one.frame c.args.who) all
