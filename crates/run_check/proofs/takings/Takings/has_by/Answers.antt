use Rattle.std.proofs.Common.{ap, sym, ◌∙◌}
use Rattle.std.specs.Prelude.{nat_lt}
use Rattle.run_check.specs.contracts.takings.ClaimantPartialEq.TheImpl as claimants
use Rattle.run_check.specs.Takings.{same_claimant, is_of}
use Rattle.run_check.proofs.TestLemmas.{claimant_test, count_by}
use Rattle.run_check.proofs.CountLemmas.{any_from_times}
use Rattle.run_check.proofs.takings.Takings.has_by.Goals as goal

pub returns : goal.returns
returns c = λ all counted.
    ap (nat_lt 0) (c.get.ensures ∙ sym (count_by (claimants.eq-value).it same_claimant claimant_test c.args.self.now.by_thread
    (record { thread = c.args.thread; resource = c.args.resource })) ∙ counted.by_thread c.args.thread c.args.resource)
    ∙ any_from_times (is_of c.args.thread c.args.resource) all
