use Rattle.lane_map.proofs.NumberLemmas.{asked_within, cell_count, home_within}
use Rattle.lane_map.proofs.law.lanes_have_cells.Goals as goal

pub returns-clause-count : goal.returns-clause-count
returns-clause-count c = cell_count c.args.script.now

pub returns-clause-asked : goal.returns-clause-asked
returns-clause-asked c n within =
    asked_within c.args.script.now n c.lanes_are_numbered.ensures.count (c.lanes_are_numbered.ensures.within n within)

pub returns-clause-home : goal.returns-clause-home
returns-clause-home c n within =
    home_within c.args.script.now n c.lanes_are_numbered.ensures.count (c.lanes_are_numbered.ensures.within n within)
