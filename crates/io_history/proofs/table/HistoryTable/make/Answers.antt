use Rattle.io_history.proofs.RuleLemmas.{opens}
use Rattle.io_history.proofs.table.HistoryTable.make.Goals as goal

pub of_words-requires : goal.of_words-requires
of_words-requires c = opens c.args.limits
