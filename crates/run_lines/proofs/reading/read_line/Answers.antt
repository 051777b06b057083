use Rattle.run_lines.proofs.ReadLineLemmas.{bad_is, only_is, read_is}
use Rattle.run_lines.proofs.reading.read_line.Goals as goal

pub returns-clause-read : goal.returns-clause-read
returns-clause-read c = read_is c.args.line.now c.entry_of.result c.entry_of.ensures

pub returns-clause-only : goal.returns-clause-only
returns-clause-only c e is = only_is c.args.line.now c.entry_of.result c.entry_of.ensures e is

pub returns-clause-bad : goal.returns-clause-bad
returns-clause-bad c = bad_is c.args.line.now c.entry_of.result c.entry_of.ensures
