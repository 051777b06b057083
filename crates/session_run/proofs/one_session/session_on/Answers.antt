use Rattle.session_run.specs.Ending.{note_at}
use Rattle.session_run.proofs.CompleteLemmas.{complete, complete_gen}
use Rattle.session_run.proofs.GenLemmas.{plain_of}
use Rattle.session_run.proofs.WorkLemmas.{noted}
use Rattle.session_run.proofs.one_session.session_on.Goals as goal

pub returns-clause-session : goal.returns-clause-session
returns-clause-session g c =
    let note = note_at c.end-ending.result.0 in
    let says = c.end-ending.ensures.says in
    rw c.status.ensures
    (record {
      answers = (
        note,
        says,
        noted c.write_note.result _ note c.write_note.ensures.whole c.write_note.ensures.part c.write_note.ensures.counts,
      );
      kept = c.end-ending.ensures.kept;
      upgrade = c.end-ending.ensures.upgrade;
      taken = c.end-ending.ensures.taken;
      reads = c.end-ending.ensures.reads;
      writes = c.end-ending.ensures.writes;
      runs = c.end-ending.ensures.runs;
      complete = λ bytes script reads told is read calm.
          complete g.H.CompletionHandler.marks _ _ _ says bytes script reads
          (record { told = told; is = is; read = read }) calm;
      complete_gen = λ start size gen calm. complete_gen g.H.CompletionHandler.marks _ _ _ says start size gen calm;
      plain = λ start size gen done.
          plain_of g.H.CompletionHandler.marks _ _ _ says done c.summaries_are_plain.ensures start size gen;
    })
