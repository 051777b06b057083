use Rattle.std.proofs.Common.{arith}
use Rattle.io_timers.proofs.TournamentLemmas.{first_node, some_many}
use Rattle.io_timers.proofs.tournament.Tournament.first.Goals as goal

pub returns : goal.returns
returns c =
    let some = some_many _ c.is_empty.result c.is_empty.ensures c.if-is_empty.false in
    let long = c.self.inside.leaves.ok.0 in
    rw (← c.self.view_is, c.node.ensures) (first_node _ _ c.self.invariant (omega (arith, some, long)))
