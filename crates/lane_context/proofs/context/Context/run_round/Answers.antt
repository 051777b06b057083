use Rattle.std.proofs.Common.{subst, sym, ◌∙◌}
use Rattle.std.specs.Prelude.{IfSome}
use Rattle.lane_turns.specs.Attempts.{WorkerState}
use Rattle.lane_turns.specs.LaneValues.{terms, tries}
use Rattle.lane_turns.specs.Runs.{EndsFor, HasTriedAndRead, ReadsAndTries}
use Rattle.lane_turns.specs.Scanning.{GoesOn}
use Rattle.lane_context.proofs.RunLemmas.{at_once, if_ends_on, left_unstopped, read_alone, read_and_tried, read_at_once, stopped_ends}
use Rattle.lane_turns.proofs.ScanLemmas.{on_and_on}
use Rattle.lane_context.proofs.context.Context.run_round.Goals as goal

pub returns-in-Err-clause-ended : goal.returns-in-Err-clause-ended
returns-in-Err-clause-ended g c =
    let t =
    tries (terms g.N.LaneSession.names g.H.CompletionHandler.marks g.X.Reactor.state g.X.Reactor.told g.X.Reactor.faults
    g.N.LaneSession.faults g.N.LaneSession.clock) 16 in
    at_once t c.args.self.now.lanes c.in-Err.end c.args.worker.now c.read_first.new.worker c.in-Err.ensures.ended

pub returns-else-not-takes_part-clause-ended : goal.returns-else-not-takes_part-clause-ended
returns-else-not-takes_part-clause-ended g c =
    let t =
    tries (terms g.N.LaneSession.names g.H.CompletionHandler.marks g.X.Reactor.state g.X.Reactor.told g.X.Reactor.faults
    g.N.LaneSession.faults g.N.LaneSession.clock) 16 in
    if_ends_on t c.args.self.now.lanes c.look_once.result c.args.worker.now c.read_first.new.worker
    c.look_once.new.worker c.in-Ok.ensures.on
    (subst (λ (w : WorkerState g.row.H.Denot g.row.X.Denot).
    IfSome c.look_once.result (λ now. EndsFor t c.args.self.now.lanes now w c.look_once.new.worker)) (c.share_hints.ensures ∙ c.takes_part.ensures)
    c.look_once.ensures.ended)

pub returns-else-not-takes_part-clause-on : goal.returns-else-not-takes_part-clause-on
returns-else-not-takes_part-clause-on g c =
    on_and_on c.args.worker.now c.read_first.new.worker c.look_once.new.worker c.in-Ok.ensures.on
    (subst (λ (w : WorkerState g.row.H.Denot g.row.X.Denot). GoesOn w c.look_once.new.worker) (c.share_hints.ensures ∙ c.takes_part.ensures)
    c.look_once.ensures.on)

pub returns-in-Err-clause-round : goal.returns-in-Err-clause-round
returns-in-Err-clause-round g c =
    let t =
    tries (terms g.N.LaneSession.names g.H.CompletionHandler.marks g.X.Reactor.state g.X.Reactor.told g.X.Reactor.faults
    g.N.LaneSession.faults g.N.LaneSession.clock) 16 in
    read_at_once t c.args.self.now.lanes c.in-Err.end c.args.worker.now c.read_first.new.worker c.in-Err.ensures.ended

pub returns-then-not-takes_part-clause-round : goal.returns-then-not-takes_part-clause-round
returns-then-not-takes_part-clause-round g c =
    let t =
    tries (terms g.N.LaneSession.names g.H.CompletionHandler.marks g.X.Reactor.state g.X.Reactor.told g.X.Reactor.faults
    g.N.LaneSession.faults g.N.LaneSession.clock) 16 in
    subst (λ (w : WorkerState g.row.H.Denot g.row.X.Denot). ReadsAndTries t c.args.self.now.lanes c.args.worker.now w)
    (sym c.takes_part.ensures)
    (read_alone t c.args.self.now.lanes c.args.worker.now c.read_first.new.worker c.in-Ok.ensures.left)

pub returns-else-not-takes_part-clause-round : goal.returns-else-not-takes_part-clause-round
returns-else-not-takes_part-clause-round g c =
    let t =
    tries (terms g.N.LaneSession.names g.H.CompletionHandler.marks g.X.Reactor.state g.X.Reactor.told g.X.Reactor.faults
    g.N.LaneSession.faults g.N.LaneSession.clock) 16 in
    read_and_tried t c.args.self.now.lanes c.args.worker.now c.read_first.new.worker c.look_once.new.worker
    c.in-Ok.ensures.left
    (subst (λ (w : WorkerState g.row.H.Denot g.row.X.Denot).
    HasTriedAndRead t c.args.self.now.lanes w c.look_once.new.worker) (c.share_hints.ensures ∙ c.takes_part.ensures)
    c.look_once.ensures.tried)

pub returns-in-Err-clause-stopped : goal.returns-in-Err-clause-stopped
returns-in-Err-clause-stopped g c =
    stopped_ends c.in-Err.end c.args.worker.now c.read_first.new.worker c.in-Err.ensures.ended

pub returns-then-not-takes_part-clause-stopped : goal.returns-then-not-takes_part-clause-stopped
returns-then-not-takes_part-clause-stopped g c = λ stopped.
    absurd (left_unstopped c.args.worker.now c.read_first.new.worker c.in-Ok.ensures.left stopped)

pub returns-else-not-takes_part-clause-stopped : goal.returns-else-not-takes_part-clause-stopped
returns-else-not-takes_part-clause-stopped g c = λ stopped.
    absurd (left_unstopped c.args.worker.now c.read_first.new.worker c.in-Ok.ensures.left stopped)
