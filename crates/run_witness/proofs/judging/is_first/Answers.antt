use Rattle.run_witness.proofs.JudgingLemmas.{first_in}
use Rattle.run_witness.proofs.judging.is_first.Goals as goal

pub returns-in-Begin : goal.returns-in-Begin
returns-in-Begin c = λ past thread after may.
    first_in past thread c.args.does.now c.is_first.result c.in-Begin.is (c.is_first.ensures past after) may
