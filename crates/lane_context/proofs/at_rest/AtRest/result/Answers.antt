use Rattle.std.proofs.Common.{◌≡◌, ◌<◌, ◌∙◌, ap, arith, length, subst, sym, true}
use Rattle.std.specs.Prelude.{IfSome, slice_index}
use Rattle.session_script.specs.Script.{is_op}
use Rattle.lane_clock.specs.Seats.{own}
use Rattle.lane_map.specs.LaneNumbers.{cells_of, home_lane, reactor_lane}
use Rattle.lane_logs.specs.Knowing.{lists_of}
use Rattle.lane_logs.specs.Receipts.{IsReceiptOf}
use Rattle.lane_logs.specs.SeatNumbers.{opener_seat}
use Rattle.lane_turns.specs.AtRest.{HasOnlyLooked, RestView}
use Rattle.lane_turns.proofs.EventCutLemmas.{cuts_go_on}
use Rattle.lane_turns.proofs.MeetingLemmas.{start_length}
use Rattle.lane_turns.proofs.ReceiptLemmas.{cell_op, finds_op, finds_receipt}
use Rattle.lane_context.proofs.RestLemmas.{finds_goes_on, finds_none, finds_number, finds_only_looks, finds_rests, over_on, pens_on}
use Rattle.lane_context.proofs.at_rest.AtRest.result.Given.{Over}
use Rattle.lane_context.proofs.at_rest.AtRest.result.Goals as goal
use Rattle.lane_context.proofs.at_rest.AtRest.result.Goals.{After-find}

-- the operation's lane
home : (g : Over) (c : After-find g) → c.home-lane.result ≡ home_lane g.N.LaneSession.names.script c.args.op
home g c = c.home-lane.ensures ∙ ap (λ s. home_lane s c.args.op) c.self.invariant.map

below : (g : Over) (c : After-find g) → c.home-lane.result < reactor_lane g.N.LaneSession.names.script
below g c =
    let script = g.N.LaneSession.names.script in
    let op = c.args.op in
    let less =
    subst (λ s. home_lane s op < reactor_lane s) c.self.invariant.script
    (c.operations_have_lanes.ensures op
    (subst (λ s. is_op s op ≡ true) (sym c.self.invariant.script) (cell_op script op c.requires.op))) in
    omega (arith, less, home g c)

pub invariant_of-self : goal.invariant_of-self
invariant_of-self g c =
    let script = g.N.LaneSession.names.script in
    let old = c.self.inside.ending.opener in
    let new = c.find.new.self in
    let on =
    finds_goes_on script old new c.find.ensures.number c.home-lane.result _ c.args.op c.find.result
    c.find.ensures.found c.find.ensures.stand in
    record {
      clock = c.self.invariant.clock;
      plan = c.self.invariant.plan;
      script = c.self.invariant.script;
      map = c.self.invariant.map;
      batons = c.self.invariant.batons;
      numbers = c.self.invariant.numbers;
      workers = c.self.invariant.workers;
      work_numbers = c.self.invariant.work_numbers;
      cuts = cuts_go_on script old new c.find.ensures.number on c.self.invariant.cuts;
      over = over_on script old new on.remembers c.find.ensures.stand c.self.invariant.over;
      room = c.self.invariant.room;
      heard = pens_on old new _ on.remembers c.self.invariant.heard;
      rests =
          finds_rests script old new c.find.ensures.number c.home-lane.result _ c.args.op c.find.result
          c.find.ensures.found c.find.ensures.stand _ c.self.invariant.made c.self.invariant.rests;
      made =
          let more = start_length _ _ (on.remembers (opener_seat script)) in
          let made = c.self.invariant.made in omega (arith, more, made);
    }

pub returns-clause-op : goal.returns-clause-op
returns-clause-op g c =
    finds_op c.home-lane.result _ c.args.op c.find.result c.self.inside.ending.opener.pen c.find.new.self.pen
    c.find.ensures.found

pub returns-clause-receipt : goal.returns-clause-receipt
returns-clause-receipt g c =
    let script = g.N.LaneSession.names.script in
    let at = (goal.at.returns-clause-receipt g c).After-find in
    let old = c.self.inside.ending.opener in
    let new = c.find.new.self in
    subst (λ n. IfSome c.find.result (IsReceiptOf script (lists_of new.pen.seat n)))
    (finds_number script old new c.find.ensures.number c.home-lane.result _ c.args.op c.find.result
    c.find.ensures.found c.find.ensures.stand)
    (finds_receipt script c.home-lane.result _ c.args.op c.find.result old.pen new.pen (below g at)
    c.find.ensures.found)

pub returns-clause-none : goal.returns-clause-none
returns-clause-none g c =
    let script = g.N.LaneSession.names.script in
    let at = (goal.at.returns-clause-none g c).After-find in
    finds_none script c.self.inside.ending.opener c.find.new.self c.home-lane.result _ c.args.op c.find.result
    c.find.ensures.number c.find.ensures.found c.find.ensures.stand (length (own c.self.inside.rested))
    c.self.invariant.made (home g at)
    (ap (λ cells. slice_index cells c.home-lane.result)
    (c.cells.ensures ∙ ap (λ s. cells_of s) c.self.invariant.map))

pub returns-clause-stays : goal.returns-clause-stays
returns-clause-stays g c =
    let script = g.N.LaneSession.names.script in
    let old = c.self.inside.ending.opener in
    let new = c.find.new.self in
    subst (λ (view : RestView).
    HasOnlyLooked script view (record {
      known = new.pen.seat;
      workers = c.self.inside.ending.workers.items;
      since = length (own c.self.inside.rested);
    })) c.self.view_is
    (finds_only_looks script old new c.find.ensures.number c.home-lane.result _ c.args.op c.find.result
    c.find.ensures.found c.find.ensures.stand c.self.inside.ending.workers.items (length (own c.self.inside.rested)))
