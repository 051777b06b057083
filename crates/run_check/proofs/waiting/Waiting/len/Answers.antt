use Rattle.run_check.proofs.TableLemmas.{empty_iff}
use Rattle.run_check.proofs.waiting.Waiting.len.Goals as goal

pub returns : goal.returns
returns c = empty_iff c.args.self.now.operations.entries c.len.result c.len.ensures.len
