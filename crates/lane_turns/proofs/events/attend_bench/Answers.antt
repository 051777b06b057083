use Rattle.std.proofs.Common.{length, sym, subst}
use Rattle.lane_turns.specs.Benches.{AreInRound}
use Rattle.lane_turns.proofs.AttendingLemmas.{on_and_on}
use Rattle.lane_turns.proofs.BenchLemmas.{heard_later}
use Rattle.lane_turns.proofs.events.attend_bench.Goals as goal

pub attend_all-requires-2-clause-heard : goal.attend_all-requires-2-clause-heard
attend_all-requires-2-clause-heard g c =
    heard_later g.W.Attendee.seat g.N.LaneSession.names.script c.args.opener.now c.attend_all.new.opener c.args.workers.now
    (length c.args.workers.now) c.attend_all.ensures.on c.requires.workers_heard

pub returns-clause-on : goal.returns-clause-on
returns-clause-on g c =
    on_and_on c.args.opener.now c.attend_all.new.opener c.attend_all-2.new.opener c.attend_all.ensures.on
    c.attend_all-2.ensures.on

pub returns-clause-lane_rounds : goal.returns-clause-lane_rounds
returns-clause-lane_rounds g c =
    subst (λ n. AreInRound g.B.Attendee.base g.B.Attendee.running g.N.LaneSession.names.script c.attend_all-2.new.opener.stand c.attend_all.new.all n)
    (sym c.attend_all.auto.all)
    (subst (λ stand. AreInRound g.B.Attendee.base g.B.Attendee.running g.N.LaneSession.names.script stand c.attend_all.new.all (length c.args.lanes.now))
    (sym c.attend_all-2.ensures.on.stand) c.attend_all.ensures.round)

pub returns-clause-worker_rounds : goal.returns-clause-worker_rounds
returns-clause-worker_rounds g c =
    subst (λ n. AreInRound g.W.Attendee.base g.W.Attendee.running g.N.LaneSession.names.script c.attend_all-2.new.opener.stand c.attend_all-2.new.all n)
    (sym c.attend_all-2.auto.all) c.attend_all-2.ensures.round
