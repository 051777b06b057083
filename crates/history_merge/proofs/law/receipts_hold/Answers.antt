use Rattle.history_merge.proofs.ReceiptLemmas.{receipts_hold}
use Rattle.history_merge.proofs.law.receipts_hold.Goals as goal

pub returns : goal.returns
returns c = receipts_hold
