use Rattle.io_scheduler.proofs.ReturnableLemmas.{came_here, fit_at, is_there}
use Rattle.io_scheduler.proofs.brought.came_at.Goals as goal

pub get-requires : goal.get-requires
get-requires g c = is_there c.args.name c.args.side c.args.streams.now c.args.place c.args.gave c.requires

pub came_of-requires : goal.came_of-requires
came_of-requires g c =
    fit_at c.args.name c.args.side c.args.streams.now c.args.place c.args.gave c.get.result.now c.requires c.get.ensures

pub returns : goal.returns
returns g c =
    came_here c.args.name c.args.side c.args.streams.now c.args.place c.args.gave c.get.result.now c.came_of.result
    c.get.ensures c.came_of.ensures
