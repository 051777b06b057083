use Rattle.history_laws.proofs.WrittenLemmas.{send_in_order}
use Rattle.history_laws.proofs.law.writes_are_sent_in_order.Goals as goal

pub returns : goal.returns
returns c script events well legal = send_in_order script events legal.legal
