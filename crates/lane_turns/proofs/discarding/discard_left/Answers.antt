use Rattle.std.proofs.Common.{List, Option, map, subst}
use Rattle.std.specs.List.{flat_map}
use Rattle.session_script.specs.Script.{ScriptModel}
use Rattle.strand_core.specs.Hands.{Held}
use Rattle.lane_logs.specs.Labels.{events_in}
use Rattle.lane_turns.specs.Discarding.{HoldsNone}
use Rattle.lane_turns.proofs.DiscardingLemmas.{no_drops, nothing_told}
use Rattle.lane_turns.proofs.discarding.discard_left.Given.{Over}
use Rattle.lane_turns.proofs.discarding.discard_left.Goals as goal
use Rattle.lane_turns.proofs.discarding.discard_left.Goals.{Then-holds_none}

none_held : (g : Over) (c : Then-holds_none g) → HoldsNone g.N.LaneSession.names.script c.args.hands.items
none_held g c =
    subst (λ (s : ScriptModel). HoldsNone s c.args.hands.items) c.requires.script
    (subst (λ (hands : List (Option (Held g.row.H.Denot))). HoldsNone c.args.script.now hands)
    c.as_slice.ensures.value (c.holds_none.ensures c.if-holds_none.true))

pub returns-then-holds_none-clause-drops : goal.returns-then-holds_none-clause-drops
returns-then-holds_none-clause-drops g c =
    no_drops g.N.LaneSession.names g.H.CompletionHandler.marks
    (flat_map events_in (map (λ log. log.items) c.args.logs.now)) c.args.hands.items c.args.drops.items c.requires.first
    (none_held g (goal.at.returns-then-holds_none-clause-drops g c).Then-holds_none)

pub returns-then-holds_none-clause-let_go : goal.returns-then-holds_none-clause-let_go
returns-then-holds_none-clause-let_go g c =
    nothing_told g.N.LaneSession.names g.H.CompletionHandler.marks
    (flat_map events_in (map (λ log. log.items) c.args.logs.now)) c.args.hands.items c.args.drops.items c.requires.first
    (none_held g (goal.at.returns-then-holds_none-clause-let_go g c).Then-holds_none)
