use Rattle.trace_show.proofs.AskedLemmas.{complete, found_bad, found_refused, right}
use Rattle.trace_show.proofs.session.show_session.Goals as goal

pub returns-clause-complete : goal.returns-clause-complete
returns-clause-complete g c input script events form told asks read write =
    rw c.status.ensures (complete _ form input told read write _ c.end-ending.ensures.says script events asks)

pub returns-clause-refused : goal.returns-clause-refused
returns-clause-refused g c input refusal form told faulty read write =
    rw c.status.ensures (found_refused _ form input told read write _ c.end-ending.ensures.says refusal faulty)

pub returns-clause-bad : goal.returns-clause-bad
returns-clause-bad g c input line form told bad read write =
    rw c.status.ensures (found_bad _ form input told read write _ c.end-ending.ensures.says line bad)

pub returns-clause-right : goal.returns-clause-right
returns-clause-right g c form input script events words told asks =
    rw c.status.ensures (right _ _ c.end-ending.ensures.says form input script events words told asks)
