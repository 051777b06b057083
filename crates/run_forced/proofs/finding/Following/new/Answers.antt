use Rattle.run_forced.proofs.finding.Following.new.Goals as goal

pub returns : goal.returns
returns c = λ run. record { past = c.new.ensures run; claims = c.new-2.ensures run }
