use Rattle.std.proofs.Common.{length, sym, subst}
use Rattle.lane_turns.specs.Attending.{AreHeard}
use Rattle.lane_turns.proofs.AttendingLemmas.{on_and_on}
use Rattle.lane_turns.proofs.BenchLemmas.{heard_later}
use Rattle.lane_turns.proofs.EventLemmas.{started_at}
use Rattle.lane_turns.specs.Benches.{HaveAllStarted}
use Rattle.lane_turns.proofs.events.hear_bench.Goals as goal

pub returns-clause-on : goal.returns-clause-on
returns-clause-on g c =
    on_and_on c.args.opener.now c.hear_all-2.new.opener c.meet_reactor.new.opener
    (on_and_on c.args.opener.now c.hear_all.new.opener c.hear_all-2.new.opener c.hear_all.ensures.on
    c.hear_all-2.ensures.on) c.meet_reactor.ensures.on

pub returns-clause-workers_heard : goal.returns-clause-workers_heard
returns-clause-workers_heard g c =
    subst (λ workers. AreHeard g.W.Attendee.seat g.N.LaneSession.names.script c.meet_reactor.new.opener workers (length workers))
    (sym c.hear_all.ensures.same)
    (heard_later g.W.Attendee.seat g.N.LaneSession.names.script c.hear_all.new.opener c.meet_reactor.new.opener c.args.workers.now
    (length c.args.workers.now)
    (on_and_on c.hear_all.new.opener c.hear_all-2.new.opener c.meet_reactor.new.opener c.hear_all-2.ensures.on
    c.meet_reactor.ensures.on) c.hear_all.ensures.heard)

pub returns-clause-started : goal.returns-clause-started
returns-clause-started g c =
    started_at g.B.Attendee.seat g.B.Attendee.place g.N.LaneSession.names.script c.meet_reactor.new.opener c.meet_reactor.new.lanes
    c.meet_reactor.ensures.lanes
    (subst (λ n. AreHeard g.B.Attendee.seat g.N.LaneSession.names.script c.meet_reactor.new.opener c.meet_reactor.new.lanes n)
    (sym c.meet_reactor.auto.lanes) c.meet_reactor.ensures.heard)
    (subst (λ n. HaveAllStarted g.B.Attendee.seat g.B.Attendee.place c.meet_reactor.new.lanes n) (sym c.meet_reactor.auto.lanes)
    c.meet_reactor.ensures.started)
