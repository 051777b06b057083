use Rattle.std.proofs.Common.{◌≡◌, ◌+◌, List, ap, length, subst, sym, arith, ◌∙◌}
use Rattle.std.specs.Prelude.{IfSome, slice_get}
use Rattle.lane_clock.specs.Seats.{SeatView, own}
use Rattle.lane_logs.specs.AtRest.{IsAtRest}
use Rattle.lane_logs.specs.Knowing.{lists_of}
use Rattle.lane_logs.specs.SeatNumbers.{lane_count, opener_seat}
use Rattle.lane_turns.specs.AtRest.{HasHeardPens}
use Rattle.lane_turns.specs.Attending.{HasGoneOn}
use Rattle.lane_turns.specs.Batons.{BatonView}
use Rattle.lane_turns.specs.Finishing.{lanes_in, pens_of}
use Rattle.lane_turns.specs.Openers.{OpenerView}
use Rattle.lane_turns.specs.Turning.{ReactorView}
use Rattle.lane_turns.specs.Workers.{WorkerView}
use Rattle.lane_turns.proofs.EventCutLemmas.{cuts_go_on}
use Rattle.lane_turns.proofs.MeetingLemmas.{copied_steps}
use Rattle.lane_context.proofs.RestLemmas.{all_on, heard_all, now_at_rest, over_on}
use Rattle.lane_context.proofs.at_rest.bring_to_rest.Given.{Over}
use Rattle.lane_context.proofs.at_rest.bring_to_rest.Goals as goal
use Rattle.lane_context.proofs.at_rest.bring_to_rest.Goals.{After-knowledge-rested}

-- the opener went on to what it is
on : (g : Over) (c : After-knowledge-rested g) → HasGoneOn c.args.ending.opener c.knowledge-rested.new.opener
on g c =
    subst (λ (last : OpenerView). HasGoneOn c.args.ending.opener last) (sym c.knowledge-rested.ensures.same)
    (all_on g.N.LaneSession.names.script g.N.LaneSession.clock c.args.ending.opener c.hear_each.new.opener
    c.report.new.opener c.hear_each-2.new.opener c.args.ending.batons.items c.hear_each.new.all.items
    c.args.ending.reactor.lane c.report.new.self.lane c.args.ending.workers.items c.hear_each-2.new.all.items
    c.is_one.ensures.number c.hear_each.ensures.on c.hear_each.ensures.heard c.report.ensures.heard
    c.hear_each-2.ensures.on c.hear_each-2.ensures.heard)

-- and its own steps are those that it copied
copied : (g : Over) (c : After-knowledge-rested g) →
    length (own c.knowledge-rested.result)
    ≡ length (lists_of c.knowledge-rested.new.opener.pen.seat (opener_seat g.N.LaneSession.names.script))
copied g c =
    let seat = c.hear_each-2.new.opener.pen.seat in
    let number : c.hear_each-2.new.opener.pen.seat.number ≡ opener_seat g.N.LaneSession.names.script =
    ap (λ (o : OpenerView). o.pen.seat.number) (sym c.knowledge-rested.ensures.same) ∙ (on g c).number
    ∙ c.is_one.ensures.number in
    ap (λ (s : SeatView). length (own s)) c.knowledge-rested.ensures.copy
    ∙ ap length (copied_steps seat.known seat.number) ∙ ap (λ n. length (lists_of seat n)) number
    ∙ ap (λ (o : OpenerView). length (lists_of o.pen.seat (opener_seat g.N.LaneSession.names.script)))
    (sym c.knowledge-rested.ensures.same)

pub invariant_of-result : goal.invariant_of-result
invariant_of-result g c =
    let script = g.N.LaneSession.names.script in
    let at = (goal.at.invariant_of-result g c).After-knowledge-rested in
    let last = c.knowledge-rested.new.opener in
    record {
      clock = c.requires.clock;
      plan = c.requires.plan;
      script = c.requires.script;
      map = c.requires.map;
      batons =
          ap (λ (bs : List (BatonView g.row.H.Denot)). length bs) c.hear_each.ensures.same ∙ c.requires.batons;
      numbers =
          λ k.
          subst (λ (bs : List (BatonView g.row.H.Denot)). IfSome (slice_get bs k) (λ baton. baton.lane.lane ≡ k))
          (sym c.hear_each.ensures.same) (c.requires.numbers k);
      workers = ap (λ (ws : List WorkerView). length ws) c.hear_each-2.ensures.same ∙ c.requires.workers;
      work_numbers =
          λ k.
          subst (λ (ws : List WorkerView).
          IfSome (slice_get ws k) (λ worker. worker.pen.seat.number ≡ lane_count script + k))
          (sym c.hear_each-2.ensures.same) (c.requires.work_numbers k);
      cuts = cuts_go_on script c.args.ending.opener last c.is_one.ensures.number (on g at) c.requires.cuts;
      over = over_on script c.args.ending.opener last (on g at).remembers (on g at).stand c.requires.over;
      room = c.requires.room;
      heard =
          subst (λ (o : OpenerView).
          HasHeardPens o (pens_of (lanes_in c.hear_each.new.all.items c.report.new.self.lane) c.hear_each-2.new.all.items))
          (sym c.knowledge-rested.ensures.same)
          (heard_all script g.N.LaneSession.clock c.args.ending.opener c.hear_each.new.opener c.report.new.opener
          c.hear_each-2.new.opener c.args.ending.batons.items c.hear_each.new.all.items c.args.ending.reactor.lane
          c.report.new.self.lane c.args.ending.workers.items c.hear_each-2.new.all.items c.is_one.ensures.number
          c.hear_each.ensures.on c.hear_each.ensures.heard c.report.ensures.heard c.hear_each-2.ensures.on
          c.hear_each-2.ensures.heard c.hear_each.ensures.same
          (ap (λ (r : ReactorView g.row.X.Denot). r.lane) c.report.ensures.same) c.hear_each-2.ensures.same);
      rests =
          subst (λ n. IsAtRest script (lists_of last.pen.seat) n) (sym (copied g at))
          (now_at_rest script g.N.LaneSession.clock last c.is_one-2.ensures);
      made = let same = copied g at in omega (arith, same);
    }

pub returns-clause-remembers : goal.returns-clause-remembers
returns-clause-remembers g c = (on g (goal.at.returns-clause-remembers g c).After-knowledge-rested).remembers

pub returns-clause-since : goal.returns-clause-since
returns-clause-since g c = copied g (goal.at.returns-clause-since g c).After-knowledge-rested
