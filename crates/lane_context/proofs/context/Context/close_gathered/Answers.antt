use Rattle.lane_turns.specs.LaneValues.{terms, tries}
use Rattle.lane_context.proofs.LastEndLemmas.{keep_none_still}
use Rattle.lane_context.proofs.RoundEndLemmas.{ended_faulted}
use Rattle.lane_context.proofs.context.Context.close_gathered.Goals as goal

pub returns-then-has_one_faulted-clause-ended : goal.returns-then-has_one_faulted-clause-ended
returns-then-has_one_faulted-clause-ended g c =
    let t =
    tries (terms g.N.LaneSession.names g.H.CompletionHandler.marks g.X.Reactor.state g.X.Reactor.told g.X.Reactor.faults
    g.N.LaneSession.faults g.N.LaneSession.clock) 16 in
    let told = c.has_one_faulted.ensures.knows c.if-has_one_faulted.true in
    ended_faulted t c.args.self.now.lanes c.args.opener.now c.meet_around.new.opener c.args.workers.now
    c.meet_around.new.workers c.meet_around.ensures.on c.meet_around.ensures.known
    (c.has_one_faulted.ensures.one c.if-has_one_faulted.true) told
    (c.meet_around.ensures.worker_knew told.index told.worker told.at told.knows)
    c.meet_around.ensures.rest c.meet_around.ensures.remember c.meet_around.ensures.rounds

pub returns-then-has_one_faulted-clause-free : goal.returns-then-has_one_faulted-clause-free
returns-then-has_one_faulted-clause-free g c =
    keep_none_still c.args.workers.now c.meet_around.new.workers c.meet_around.ensures.rest c.requires.free
