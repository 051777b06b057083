use Rattle.run_witness.proofs.JudgingLemmas.{false_true}
use Rattle.run_witness.proofs.judging.Replay.new.Goals as goal

pub returns : goal.returns
returns c = λ run apart. record {
  placing = c.new.ensures run apart;
  after = c.new-2.ensures;
  legal = tt;
  well = tt;
  called = λ op some. absurd (false_true some);
}
