use Rattle.std.proofs.Common.{List, subst}
use Rattle.lane_logs.specs.Labels.{Labelled}
use Rattle.lane_turns.specs.Openers.{stand_at}
use Rattle.lane_turns.specs.Pens.{HasGone}
use Rattle.lane_turns.proofs.LookedLemmas.{as_looked, looked_from}
use Rattle.lane_turns.proofs.OpenerEventLemmas.{looked_after}
use Rattle.lane_turns.proofs.ReceiptLemmas.{finds_gone}
use Rattle.lane_turns.proofs.opener.Opener.find.Goals as goal

pub invariant_of-self : goal.invariant_of-self
invariant_of-self g c =
    let pen = c.self.inside.pen in
    let looked = finds_gone c.args.lane c.args.cells c.args.op c.find.result pen c.find.new.self c.find.ensures in
    looked_after g.N.LaneSession.names.script g.N.LaneSession.clock
    (record { pen = pen; stand = stand_at c.self.inside.rounds }) c.find.new.self c.self.invariant
    (looked_from c.args.lane 0 looked.0)
    (subst (λ (labels : List Labelled). HasGone labels pen c.find.new.self) (as_looked c.args.lane 0 looked.0) looked.1)
