use Rattle.run_forced.proofs.past.Past.new.Goals as goal

pub returns : goal.returns
returns c = λ run. record { known = c.new.ensures run; sources = c.new-2.ensures run; ended = c.new-3.ensures run }
