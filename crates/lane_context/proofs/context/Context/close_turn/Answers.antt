use Rattle.std.proofs.Common.{subst, sym, ◌∙◌}
use Rattle.std.specs.Prelude.{IfNone, IfSome}
use Rattle.lane_turns.specs.LaneValues.{terms, tries}
use Rattle.lane_turns.specs.OwnRuns.{HasRunInVain}
use Rattle.lane_context.specs.RoundEnds.{HasEndedRound}
use Rattle.lane_turns.proofs.AllWorkersLemmas.{counted}
use Rattle.lane_context.proofs.LastEndLemmas.{keep_none_still}
use Rattle.lane_context.proofs.RoundEndLemmas.{fault_last, run_faulted, run_free, run_rows, tried_ended, tried_in_vain}
use Rattle.lane_context.proofs.context.Context.close_turn.Goals as goal

pub run_last-end-requires-clause-some : goal.run_last-end-requires-clause-some
run_last-end-requires-clause-some g c = counted g.N.LaneSession.names.script c.args.workers.now c.requires.rows

pub meet_around-requires-clause-rows : goal.meet_around-requires-clause-rows
meet_around-requires-clause-rows g c =
    let t =
    tries (terms g.N.LaneSession.names g.H.CompletionHandler.marks g.X.Reactor.state g.X.Reactor.told g.X.Reactor.faults
    g.N.LaneSession.faults g.N.LaneSession.clock) 16 in
    run_rows t c.args.self.now.lanes c.run_last-end.result.end c.args.workers.now c.run_last-end.new.workers
    c.run_last-end.ensures.ran g.N.LaneSession.names.script c.requires.rows

pub returns-then-has_one_faulted-clause-ended : goal.returns-then-has_one_faulted-clause-ended
returns-then-has_one_faulted-clause-ended g c =
    let t =
    tries (terms g.N.LaneSession.names g.H.CompletionHandler.marks g.X.Reactor.state g.X.Reactor.told g.X.Reactor.faults
    g.N.LaneSession.faults g.N.LaneSession.clock) 16 in
    let told = c.has_one_faulted.ensures.knows c.if-has_one_faulted.true in
    run_faulted t c.args.self.now.lanes c.run_last-end.result.end c.args.workers.now c.run_last-end.new.workers
    c.run_last-end.ensures.ran c.args.opener.now c.meet_around.new.opener c.meet_around.new.workers
    c.meet_around.ensures.on c.meet_around.ensures.known (c.has_one_faulted.ensures.one c.if-has_one_faulted.true) told
    (c.meet_around.ensures.worker_knew told.index told.worker told.at told.knows)
    c.meet_around.ensures.rest c.meet_around.ensures.remember c.meet_around.ensures.rounds

pub returns-then-has_one_faulted-clause-free : goal.returns-then-has_one_faulted-clause-free
returns-then-has_one_faulted-clause-free g c =
    let t =
    tries (terms g.N.LaneSession.names g.H.CompletionHandler.marks g.X.Reactor.state g.X.Reactor.told g.X.Reactor.faults
    g.N.LaneSession.faults g.N.LaneSession.clock) 16 in
    keep_none_still c.run_last-end.new.workers c.meet_around.new.workers c.meet_around.ensures.rest
    (run_free t c.args.self.now.lanes c.run_last-end.result.end c.args.workers.now c.run_last-end.new.workers
    c.run_last-end.ensures.ran c.requires.free)

pub unreachable-requires : goal.unreachable-requires
unreachable-requires g c =
    let t =
    tries (terms g.N.LaneSession.names g.H.CompletionHandler.marks g.X.Reactor.state g.X.Reactor.told g.X.Reactor.faults
    g.N.LaneSession.faults g.N.LaneSession.clock) 16 in
    fault_last t c.args.self.now.lanes c.run_last-end.result.end c.args.workers.now c.run_last-end.new.workers
    c.run_last-end.ensures.ran (c.has_one_faulted.ensures.none c.if-has_one_faulted.false)
    (sym c.in_default.is ∙ c.closing_after.ensures)

pub try_closing-tried-requires-clause-rows : goal.try_closing-tried-requires-clause-rows
try_closing-tried-requires-clause-rows g c =
    let t =
    tries (terms g.N.LaneSession.names g.H.CompletionHandler.marks g.X.Reactor.state g.X.Reactor.told g.X.Reactor.faults
    g.N.LaneSession.faults g.N.LaneSession.clock) 16 in
    run_rows t c.args.self.now.lanes c.run_last-end.result.end c.args.workers.now c.run_last-end.new.workers
    c.run_last-end.ensures.ran g.N.LaneSession.names.script c.requires.rows

pub returns-clause-ended : goal.returns-clause-ended
returns-clause-ended g c =
    let t =
    tries (terms g.N.LaneSession.names g.H.CompletionHandler.marks g.X.Reactor.state g.X.Reactor.told g.X.Reactor.faults
    g.N.LaneSession.faults g.N.LaneSession.clock) 16 in
    subst (λ o.
    IfSome o (λ now.
    HasEndedRound t c.args.self.now.lanes now c.args.opener.now c.try_closing-tried.new.opener c.args.workers.now
    c.try_closing-tried.new.workers)) (sym c.end_after-ended.ensures)
    (tried_ended t c.args.self.now.lanes c.run_last-end.result.end c.args.workers.now c.run_last-end.new.workers
    c.run_last-end.ensures.ran c.in-Some.closing
    (sym c.in-Some.is ∙ c.closing_after.ensures)
    (c.has_one_faulted.ensures.none c.if-has_one_faulted.false) c.args.opener.now c.try_closing-tried.new.opener
    c.try_closing-tried.new.workers
    c.try_closing-tried.ensures.rest c.try_closing-tried.ensures.remember
    c.try_closing-tried.result c.try_closing-tried.ensures.tried c.try_closing-tried.ensures.met
    c.try_closing-tried.ensures.rounds)

pub returns-clause-vain : goal.returns-clause-vain
returns-clause-vain g c =
    let t =
    tries (terms g.N.LaneSession.names g.H.CompletionHandler.marks g.X.Reactor.state g.X.Reactor.told g.X.Reactor.faults
    g.N.LaneSession.faults g.N.LaneSession.clock) 16 in
    subst (λ o.
    IfNone o
    (HasRunInVain c.args.opener.now c.try_closing-tried.new.opener c.args.workers.now
    c.try_closing-tried.new.workers)) (sym c.end_after-ended.ensures)
    (tried_in_vain t c.args.self.now.lanes c.run_last-end.result.end c.args.workers.now c.run_last-end.new.workers
    c.run_last-end.ensures.ran c.in-Some.closing
    (sym c.in-Some.is ∙ c.closing_after.ensures)
    (c.has_one_faulted.ensures.none c.if-has_one_faulted.false) c.args.opener.now c.try_closing-tried.new.opener
    c.try_closing-tried.new.workers
    c.try_closing-tried.ensures.rest c.try_closing-tried.ensures.remember
    c.try_closing-tried.result c.try_closing-tried.ensures.tried c.try_closing-tried.ensures.same)

pub returns-clause-free : goal.returns-clause-free
returns-clause-free g c =
    let t =
    tries (terms g.N.LaneSession.names g.H.CompletionHandler.marks g.X.Reactor.state g.X.Reactor.told g.X.Reactor.faults
    g.N.LaneSession.faults g.N.LaneSession.clock) 16 in
    keep_none_still c.run_last-end.new.workers c.try_closing-tried.new.workers c.try_closing-tried.ensures.rest
    (run_free t c.args.self.now.lanes c.run_last-end.result.end c.args.workers.now c.run_last-end.new.workers
    c.run_last-end.ensures.ran c.requires.free)
