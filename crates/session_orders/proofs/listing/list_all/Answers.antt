use Rattle.session_orders.specs.Listed.{events_in}
use Rattle.session_orders.proofs.BoundLemmas.{cut_first}
use Rattle.session_orders.proofs.listing.list_all.Goals as goal

pub returns-then-not-branch-clause-cut : goal.returns-then-not-branch-clause-cut
returns-then-not-branch-clause-cut c cut =
    cut_first c.args.script.now c.in_ok-walk.walk.script.now c.args.bounds c.in_ok-walk.walk.kind
    (events_in c.list_first.new.histories.items) c.in_ok-walk.ensures.script c.in_ok-walk.ensures.kind
    (c.in_ok-list_first.ensures.full c.if-not-branch.true)
