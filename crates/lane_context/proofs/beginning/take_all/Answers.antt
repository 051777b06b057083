use Rattle.std.proofs.Common.{◌≡◌, Option, subst, ◌∙◌}
use Rattle.std.specs.Prelude.{IfSome}
use Rattle.session_script.specs.Script.{ScriptModel}
use Rattle.op_handlers.specs.Rack.{handler_at}
use Rattle.strand_core.specs.Hands.{Held, held_at, taken_at}
use Rattle.lane_map.specs.LaneNumbers.{is_op_on}
use Rattle.lane_context.specs.Setup.{HasTaken}
use Rattle.lane_context.proofs.FirstLemmas.{hands_begin}
use Rattle.lane_context.proofs.beginning.take_all.Goals as goal

pub returns-clause-held : goal.returns-clause-held
returns-clause-held g c k one at n =
    subst (λ (o : Option (Held g.row.H.Denot)).
    IfSome o (λ own. held_at own n ≡ taken_at (is_op_on c.args.script.now k n) (handler_at c.args.rack.now n))) at
    (c.in-Ok-of_lanes.ensures.held k n)

pub returns-clause-hands : goal.returns-clause-hands
returns-clause-hands g c k one at =
    hands_begin g.N.LaneSession.names g.H.CompletionHandler.marks k c.args.rack.now one c.requires.marks
    (subst (λ (o : Option (Held g.row.H.Denot)). IfSome o (λ own. own.script ≡ c.args.script.now)) at
    (c.in-Ok-of_lanes.ensures.script k)
    ∙ c.requires.script)
    (subst (λ (script : ScriptModel). HasTaken script k c.args.rack.now one) c.requires.script
    (λ n. subst (λ (o : Option (Held g.row.H.Denot)).
    IfSome o (λ own. held_at own n ≡ taken_at (is_op_on c.args.script.now k n) (handler_at c.args.rack.now n))) at
    (c.in-Ok-of_lanes.ensures.held k n)))
