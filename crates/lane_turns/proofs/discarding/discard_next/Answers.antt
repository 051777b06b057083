use Rattle.std.proofs.Common.{◌≡◌, ◌<◌, ◌∙◌, ℕ, true, false, length, ap, arith, subst, sym}
use Rattle.std.specs.Prelude.{not}
use Rattle.session_script.specs.Script.{ScriptModel, is_op, parent_of}
use Rattle.session_script.specs.WellFormed.{HasParent}
use Rattle.lane_map.specs.LaneNumbers.{home_lane, reactor_lane}
use Rattle.lane_logs.specs.Drops.{has_call, is_left}
use Rattle.lane_logs.specs.LaneLog.{has_begun}
use Rattle.lane_turns.proofs.DiscardingLemmas.{caller_gone, discarded_noted, discarded_silently, few_noted, left_if, left_is_held, left_not, no_mark, passed, told_mark, untouched_left, untouched_no_op}
use Rattle.lane_turns.proofs.discarding.discard_next.Given.{Over}
use Rattle.lane_turns.proofs.discarding.discard_next.Goals as goal
use Rattle.lane_turns.proofs.discarding.discard_next.Goals.{After-home, Else-not-is_left}

pub returns-then-not-is_op-clause-so_far : goal.returns-then-not-is_op-clause-so_far
returns-then-not-is_op-clause-so_far g c =
    passed g.N.LaneSession.names g.H.CompletionHandler.marks c.args.seen.now.events c.args.op c.args.hands.now
    c.args.drops.now.items c.requires.so_far
    (subst (λ (s : ScriptModel). is_op s c.args.op ≡ false) c.requires.script
    (sym c.is_op.ensures ∙ c.if-not-is_op.true))

home_is : (g : Over) (c : After-home g) → c.home.result ≡ home_lane g.N.LaneSession.names.script c.args.op
home_is g c = c.home.ensures ∙ ap (λ (s : ScriptModel). home_lane s c.args.op) (c.requires.map ∙ c.requires.script)

home_within : (g : Over) (c : After-home g) → c.home.result < length c.args.hands.now
home_within g c =
    let op_is : is_op c.args.script.now c.args.op ≡ true = sym c.is_op.ensures ∙ c.if-not-is_op.false in
    omega (
      arith,
      home_is g c,
      c.operations_have_lanes.ensures c.args.op op_is,
      ap (λ (s : ScriptModel). home_lane s c.args.op) c.requires.script,
      ap reactor_lane c.requires.script,
      c.requires.so_far.count,
    )

pub discard_on-mark-requires-clause-lane : goal.discard_on-mark-requires-clause-lane
discard_on-mark-requires-clause-lane g c = home_within g c

pub discard_on-mark-requires-clause-gone : goal.discard_on-mark-requires-clause-gone
discard_on-mark-requires-clause-gone g c =
    caller_gone g.N.LaneSession.names g.H.CompletionHandler.marks c.args.seen.now.events c.args.op c.args.hands.now
    c.args.drops.now.items c.requires.so_far
    (subst (λ (s : ScriptModel). (n : ℕ) → HasParent s.acts n (parent_of s n)) c.requires.script
    c.parents_come_first.ensures)
    c.home.result

pub returns-then-not-is_left-clause-so_far : goal.returns-then-not-is_left-clause-so_far
returns-then-not-is_left-clause-so_far g c =
    let at = (goal.at.returns-then-not-is_left-clause-so_far g c).After-home in
    discarded_silently g.N.LaneSession.names g.H.CompletionHandler.marks c.args.seen.now.events c.args.op
    c.args.hands.now c.args.drops.now.items c.requires.so_far c.discard_on-mark.new.hands c.home.result (home_is g at)
    (home_within g at) c.discard_on-mark.ensures.after
    (left_not (is_op g.N.LaneSession.names.script c.args.op) (has_call c.args.op c.args.seen.now.events)
    (not (has_begun c.args.op c.args.seen.now.events)) (sym c.is_left.ensures ∙ c.if-not-is_left.true))

pub push_reserved-requires : goal.push_reserved-requires
push_reserved-requires g c =
    omega (
      arith,
      few_noted g.N.LaneSession.names c.args.seen.now.events c.args.op,
      ap length c.requires.so_far.noted,
      c.requires.room,
      c.args.drops.now.ok,
    )

-- it was called and never began
is_left_here : (g : Over) (c : Else-not-is_left g) →
    is_left g.N.LaneSession.names c.args.seen.now.events c.args.op ≡ true
is_left_here g c =
    left_if (is_op g.N.LaneSession.names.script c.args.op) (has_call c.args.op c.args.seen.now.events)
    (not (has_begun c.args.op c.args.seen.now.events))
    (subst (λ (s : ScriptModel). is_op s c.args.op ≡ true) c.requires.script (sym c.is_op.ensures ∙ c.if-not-is_op.false))
    (sym c.is_left.ensures ∙ c.if-not-is_left.false)

pub returns-in-Some-clause-so_far : goal.returns-in-Some-clause-so_far
returns-in-Some-clause-so_far g c =
    let at = (goal.at.returns-in-Some-clause-so_far g c).After-home in
    discarded_noted g.N.LaneSession.names g.H.CompletionHandler.marks c.args.seen.now.events c.args.op
    c.args.hands.now c.args.drops.now.items c.requires.so_far c.discard_on-mark.new.hands c.home.result (home_is g at)
    (home_within g at) c.discard_on-mark.ensures.after c.in-Some.mark c.push_reserved.new.self.items
    (is_left_here g (goal.at.returns-in-Some-clause-so_far g c).Else-not-is_left)
    (sym c.in-Some.is ∙ c.discard_on-mark.ensures.mark) c.push_reserved.ensures.items

op_here : (g : Over) (c : After-home g) → is_op g.N.LaneSession.names.script c.args.op ≡ true
op_here g c =
    subst (λ (s : ScriptModel). is_op s c.args.op ≡ true) c.requires.script (sym c.is_op.ensures ∙ c.if-not-is_op.false)

pub returns-then-not-is_op-clause-let_go : goal.returns-then-not-is_op-clause-let_go
returns-then-not-is_op-clause-let_go g c =
    no_mark g.N.LaneSession.names c.args.seen.now.events c.args.op
    (untouched_no_op (is_op g.N.LaneSession.names.script c.args.op) (has_call c.args.op c.args.seen.now.events)
    (has_begun c.args.op c.args.seen.now.events)
    (subst (λ (s : ScriptModel). is_op s c.args.op ≡ false) c.requires.script (sym c.is_op.ensures ∙ c.if-not-is_op.true)))

pub returns-then-not-is_left-clause-let_go : goal.returns-then-not-is_left-clause-let_go
returns-then-not-is_left-clause-let_go g c =
    let at = (goal.at.returns-then-not-is_left-clause-let_go g c).After-home in
    c.unbegun_mark.ensures
    ∙ told_mark g.N.LaneSession.names g.H.CompletionHandler.marks c.args.seen.now.events c.args.op c.args.hands.now
    c.args.drops.now.items c.requires.so_far c.discard_on-mark.new.hands c.home.result (home_is g at)
    (home_within g at) c.discard_on-mark.ensures.after c.discard_on-mark.result (op_here g at)
    (sym c.is_left.ensures ∙ c.if-not-is_left.true) c.discard_on-mark.ensures.mark

pub returns-in-Some-clause-let_go : goal.returns-in-Some-clause-let_go
returns-in-Some-clause-let_go g c =
    no_mark g.N.LaneSession.names c.args.seen.now.events c.args.op
    (untouched_left (is_op g.N.LaneSession.names.script c.args.op) (has_call c.args.op c.args.seen.now.events)
    (has_begun c.args.op c.args.seen.now.events) (sym c.is_left.ensures ∙ c.if-not-is_left.false))
