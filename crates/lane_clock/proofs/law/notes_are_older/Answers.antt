use Rattle.lane_clock.proofs.LawLemmas.{notes_are_older}
use Rattle.lane_clock.proofs.law.notes_are_older.Goals as goal

pub returns : goal.returns
returns c = notes_are_older
