use Rattle.session_run.proofs.LastLemmas.{first_part}
use Rattle.session_run.proofs.last.end_buffered.Goals as goal

pub returns-clause-status : goal.returns-clause-status
returns-clause-status g c = (
  c.flush-flushed.result,
  record { all = c.flush-flushed.ensures.all; counts = c.flush-flushed.ensures.counts },
  c.at_last.ensures,
  rw (← c.last_note.ensures)
      (first_part c.write_all.result _ _ _ c.write_all.ensures.whole c.write_all.ensures.part),
)
