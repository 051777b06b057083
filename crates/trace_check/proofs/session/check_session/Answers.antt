use Rattle.trace_check.proofs.SessionLemmas.{complete, found_bad, found_refused, right}
use Rattle.trace_check.proofs.session.check_session.Goals as goal

pub returns-clause-complete : goal.returns-clause-complete
returns-clause-complete g c input script events form told asks read write =
    rw c.status.ensures
    (complete _ _ _ c.end-ending.ensures.says input script events
    (record { form = form; told = told; asks = asks; read = read; write = write }))

pub returns-clause-right : goal.returns-clause-right
returns-clause-right g c form input script events words told asks =
    rw c.status.ensures (right _ _ _ c.end-ending.ensures.says form input script events words told asks)

pub returns-clause-refused : goal.returns-clause-refused
returns-clause-refused g c input refusal form told faulty read =
    rw c.status.ensures (found_refused _ _ _ c.end-ending.ensures.says input refusal form told faulty read)

pub returns-clause-bad : goal.returns-clause-bad
returns-clause-bad g c input line form told bad read =
    rw c.status.ensures (found_bad _ _ _ c.end-ending.ensures.says input line form told bad read)
