use Rattle.std.proofs.lemmas.List.Elements.{All-push}
use Rattle.run_orders.specs.Laws.{NeverOverlaps}
use Rattle.run_forced.proofs.FindingLemmas.{kept_thing}
use Rattle.run_forced.proofs.finding.keep.Goals as goal

pub returns-in_ok-push : goal.returns-in_ok-push
returns-in_ok-push c = λ run legal are all.
    kept_thing run c.args.claims.now c.args.thing c.args.ordered.now.items c.push.new.self.items c.is_mixed.result legal are
    c.is_mixed.ensures c.if-not-is_mixed.true c.in_ok-push.ensures.items all
