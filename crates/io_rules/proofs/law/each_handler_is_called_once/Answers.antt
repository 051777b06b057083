use Rattle.io_rules.proofs.OnceLemmas.{all_are_over, begun_first, begun_or_dropped, called_once, completed_once, numbers_rise, over_once, ready_first}
use Rattle.io_rules.proofs.law.each_handler_is_called_once.Goals as goal

pub returns-clause-rising : goal.returns-clause-rising
returns-clause-rising c = numbers_rise

pub returns-clause-called : goal.returns-clause-called
returns-clause-called c = called_once

pub returns-clause-completed : goal.returns-clause-completed
returns-clause-completed c = completed_once

pub returns-clause-ready : goal.returns-clause-ready
returns-clause-ready c = ready_first

pub returns-clause-begun : goal.returns-clause-begun
returns-clause-begun c = begun_first

pub returns-clause-never_both : goal.returns-clause-never_both
returns-clause-never_both c = begun_or_dropped

pub returns-clause-over : goal.returns-clause-over
returns-clause-over c = over_once

pub returns-clause-all : goal.returns-clause-all
returns-clause-all c = all_are_over
