use Rattle.trace_check.proofs.ReadBackLemmas.{found_legal}
use Rattle.trace_check.proofs.law.legal_traces_are_found_legal.Goals as goal

pub returns : goal.returns
returns c few script told legal = found_legal script told c.args.history.now.events c.holds_events.ensures few legal
