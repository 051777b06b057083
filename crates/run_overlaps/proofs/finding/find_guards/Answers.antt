use Rattle.run_overlaps.proofs.SeeingLemmas.{found_never}
use Rattle.run_overlaps.proofs.finding.find_guards.Goals as goal

pub returns : goal.returns
returns c =
    found_never c.in-Ok.guards c.in_ok-joins.joins c.args.lines.now c.new-watch.result c.see_all.new.watch c.in-Ok.ensures c.new-watch.ensures
    c.in_ok-see_all.ensures c.in_ok-joins.ensures
