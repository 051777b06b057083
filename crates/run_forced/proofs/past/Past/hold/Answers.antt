use Rattle.run_forced.proofs.past.Past.hold.Goals as goal

pub returns : goal.returns
returns c = λ run lines followed. record { known = followed.known; sources = followed.sources; ended = followed.ended }
