use Rattle.std.proofs.Common.{inl, inr, rules}
use Rattle.run_witness.proofs.JudgingLemmas.{refuted}
use Rattle.run_witness.proofs.WitnessLemmas.{both_hold, one_free}
use Rattle.run_witness.proofs.judging.hold_both.Goals as goal

pub returns-in-Some-Some : goal.returns-in-Some-Some
returns-in-Some-Some c = λ apart run steps are kept.
    both_hold run steps c.args.thing c.args.one c.args.other c.holder.result c.holder-2.result c.in-Some-Some.first
    c.in-Some-Some.second
    (c.holder.ensures apart run steps are kept)
    (c.holder-2.ensures apart run steps are kept) c.in-Some-Some.is-0 c.in-Some-Some.is-1 _ (search rules)

pub returns-in_default : goal.returns-in_default
returns-in_default c = λ apart run steps are kept.
    refuted (one_free run steps c.args.thing c.args.one c.args.other c.holder.result c.holder-2.result
    (c.holder.ensures apart run steps are kept) (c.holder-2.ensures apart run steps are kept) (inr c.in_default.is-1))

pub returns-in_default-2 : goal.returns-in_default-2
returns-in_default-2 c = λ apart run steps are kept.
    refuted (one_free run steps c.args.thing c.args.one c.args.other c.holder.result c.holder-2.result
    (c.holder.ensures apart run steps are kept) (c.holder-2.ensures apart run steps are kept) (inl c.in_default.is-0))
