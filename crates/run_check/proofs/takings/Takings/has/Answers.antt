use Rattle.std.proofs.Common.{ap, sym, ◌∙◌}
use Rattle.std.specs.Prelude.{nat_lt}
use Rattle.run_rules.specs.Takings.{same_taking}
use Rattle.run_rules.specs.contracts.taking.TakingPartialEq.TheImpl as takings
use Rattle.run_rules.specs.declared.taking.Taking.{Taking}
use Rattle.run_check.proofs.TestLemmas.{taking_test, count_by}
use Rattle.run_check.proofs.CountLemmas.{any_from_times}
use Rattle.run_check.proofs.takings.Takings.has.Goals as goal

pub returns : goal.returns
returns c = λ all counted.
    ap (nat_lt 0) (c.get.ensures ∙ sym (count_by (takings.eq-value).it same_taking taking_test c.args.self.now.exact
    c.args.taking) ∙ counted.exact c.args.taking)
    ∙ any_from_times (λ (one : Taking). same_taking one c.args.taking) all
